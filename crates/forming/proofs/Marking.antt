-- Signs whose bits tell what the states of nets are. Assumes nothing.
use Rattle.std.proofs.Common.{◌≡◌, ℕ, ◌<◌, ◌≤◌, Bool, true, false, not, ◌↔◌, List, map, length, get_or, sym, ap, ◌∙◌, subst, inl, inr, arith}
use Rattle.std.proofs.lemmas.List.{get_or-map}
use Rattle.cell.specs.declared.Device.{Device}
use Rattle.cell.specs.Circuits.{Numbered, device_nets}
use Rattle.cell.specs.Waiting.{Links}
use Rattle.cell.specs.States.{MayBe, MayConduct, SurelyConducts, opens}
use Rattle.meaning.proofs.Truth.{tells_not}
use Rattle.algebra.specs.Chain.{Chain}
use Rattle.algebra.specs.Holding.{Meaning, Stays, Means}
use Rattle.algebra.specs.Signals.{Boolean, IsComplement}
use Rattle.forming.specs.Signs.{InHand, place_of, shown}
use Rattle.forming.proofs.Bits.{meet_parts, meet_from}
use Rattle.forming.proofs.Keeping.{hand_at}

-- a sign is in hand, and its bits are 1 exactly where P holds
pub record Marks {S V : Type 0} (bit : V → ℕ → Bool) (m : Meaning S V) (s : S) (P : ℕ → Type 0) : Type 0 where
  pub hand : m.hand s ≡ true
  pub tells : (t : ℕ) → (bit (m.value s) t ≡ true) ↔ P t

module _ {S V : Type 0} {bit : V → ℕ → Bool} where
  pub marks_stay : {m m' : Meaning S V} {s : S} {P : ℕ → Type 0} → Stays m m' → Marks bit m s P → Marks bit m' s P
  marks_stay {s = s} {P = P} st k = record {
    hand = st.hand s k.hand;
    tells = λ t. subst (λ v. (bit v t ≡ true) ↔ P t) (sym (st.value s k.hand)) (k.tells t);
  }

  -- a meet marks where both do
  pub marks_meet : {A : Chain V} → Boolean A bit → {m m' : Meaning S V} {s r u : S} {P Q : ℕ → Type 0} → Marks bit m s P → Marks bit m r Q
      → Means m' u (A.meet (m.value s) (m.value r)) → Marks bit m' u (λ t. P t × Q t)
  marks_meet {A = A} B {m = m} {s = s} {r = r} {P = P} {Q = Q} j k is = record {
    hand = is.hand;
    tells = λ t. subst (λ v. (bit v t ≡ true) ↔ (P t × Q t)) (sym is.value) (
      (λ h. let both = meet_parts B t (m.value s) (m.value r) h in ((j.tells t).0 both.0, (k.tells t).0 both.1)),
      (λ h. meet_from B t (m.value s) (m.value r) ((j.tells t).1 h.0) ((k.tells t).1 h.1)),
    );
  }

  -- a complement marks where the sign does not
  pub marks_not : {m m' : Meaning S V} {s u : S} {P : ℕ → Type 0} (v : V) → Marks bit m s P → IsComplement bit (m.value s) v → Means m' u v
      → Marks bit m' u (λ t. ¬ (P t))
  marks_not {m = m} {s = s} {P = P} v k non is = record {
    hand = is.hand;
    tells = λ t.
        let told = tells_not (bit (m.value s) t) (record { to = (k.tells t).0; from = (k.tells t).1 }) in
        let e = ap (λ w. bit w t) is.value ∙ non t in
        ((λ h. told.to (sym e ∙ h)), λ h. e ∙ told.from h);
  }

module _ {S V : Type 0} (bit : V → ℕ → Bool) (m : Meaning S V) (states : List S) (size : length states ≡ 256) (hand : InHand m states) where
  -- the sign that stands for a net and a bit marks where the net may be the bit
  pub marks_state : (x : ℕ) (b : Bool) (s : S) → x ≤ 127 → s ≡ get_or states (place_of x b) s → Marks bit m s (λ t. MayBe b (shown bit m states t x))
  marks_state x b s l e = record { hand = hand_at m states (place_of x b) s (inside x b l) hand e; tells = tells b e }
    where
      inside : (y : ℕ) (c : Bool) → y ≤ 127 → place_of y c < length states
      inside y false h = omega arith
      inside y true h = omega arith

      told : (t i : ℕ) → i < length states → s ≡ get_or states i s → get_or (map (λ u. bit (m.value u) t) states) i true ≡ bit (m.value s) t
      told t i h k = get_or-map (λ u. bit (m.value u) t) states i s true h ∙ ap (λ u. bit (m.value u) t) (sym k)

      tells : (c : Bool) → s ≡ get_or states (place_of x c) s → (t : ℕ) → (bit (m.value s) t ≡ true) ↔ MayBe c (shown bit m states t x)
      tells false k t = let r = told t (place_of x false) (inside x false l) k in ((λ j. r ∙ j), λ j. sym r ∙ j)
      tells true k t = let r = told t (place_of x true) (inside x true l) k in ((λ j. r ∙ j), λ j. sym r ∙ j)

  module _ (d : Device) (numbered : Numbered (device_nets d)) (o : Bool) (is : o ≡ opens d.kind) where
    -- the sign of a device's gate at the bit that opens it, and the complement of the other
    pub marks_may : (s : S) → s ≡ get_or states (place_of d.gate o) s → Marks bit m s (λ t. MayConduct (shown bit m states t) d)
    marks_may s e = marks_state d.gate (opens d.kind) s numbered.0 (subst (λ b. s ≡ get_or states (place_of d.gate b) s) is e)

    pub marks_sure : {m' : Meaning S V} (s u : S) (v : V) → s ≡ get_or states (place_of d.gate (not o)) s
        → IsComplement bit (m.value s) v → Means m' u v → Marks bit m' u (λ t. SurelyConducts (shown bit m states t) d)
    marks_sure s u v e non means =
        marks_not v (marks_state d.gate (not (opens d.kind)) s numbered.0 (subst (λ b. s ≡ get_or states (place_of d.gate (not b)) s) is e)) non means

-- the ends of a numbered device are numbered
pub end_numbered : (d : Device) (x y : ℕ) → Numbered (device_nets d) → Links d x y → y ≤ 127
end_numbered d x y n (inl e) = subst (λ z. z ≤ 127) e.1 n.1.1.0
end_numbered d x y n (inr e) = subst (λ z. z ≤ 127) e.0 n.1.0

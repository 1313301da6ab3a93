-- The tables of a component with one more device. Assumes nothing.
use Rattle.std.proofs.Common.{◌≡◌, ℕ, ◌+◌, ◌<◌, Bool, true, false, ◌⊎◌, List, [], ◌∷◌, ◌++◌, length, get_or, sym, subst, subst₂, inl, inr, ⊎_elim, arith}
use Rattle.cell.specs.declared.Device.{Device}
use Rattle.cell.specs.declared.State.{State}
use Rattle.cell.specs.Lists.{Distinct}
use Rattle.cell.specs.Waiting.{Links}
use Rattle.cell.specs.States.{MayBe, MayConduct, SurelyConducts}
use Rattle.cell.proofs.Members.{in_before, in_end, in_push}
use Rattle.algebra.specs.Chain.{Chain}
use Rattle.algebra.specs.Holding.{Meaning, Stays}
use Rattle.paths.specs.Solving.{system}
use Rattle.forming.specs.Signs.{InHand, values, shown}
use Rattle.forming.specs.Systems.{Stands, TakesUp, Raised, Reached, Apart}
use Rattle.forming.specs.declared.tables.Reach.TheVariants.{Link, Drive, Loop}
use Rattle.paths.proofs.Holding.{stays_then}
use Rattle.forming.proofs.Keeping.{shown_stays}
use Rattle.forming.proofs.Raising.{Rises, raised_rises, rises_none, rises_later, rises_before, rises_then}
use Rattle.forming.proofs.Marking.{Marks, marks_stay}
use Rattle.forming.proofs.Ends.{Says, idle_says, link_says, drive_says}

-- a table that stands for some devices, with the cells of one more raised, stands for them all
stands_more : {S V : Type 0} {A : Chain V} {bit : V → ℕ → Bool} {m m' : Meaning S V} (ds : List Device) (nets : List ℕ) (columns c t : ℕ)
    {P : ℕ → ℕ → ℕ → Type 0} (d : Device) (Q : Device → Type 0) (R : ℕ → Type 0) {xs ys : List S} → c < columns
    → Rises A bit m m' (length nets) (length nets + columns) P xs ys → Says nets c (P t) d (Q d) R
    → Stands bit ds nets (system A (length nets) columns (values m xs) c) t Q R
    → Stands bit (ds ++ d ∷ []) nets (system A (length nets) columns (values m' ys) c) t Q R
stands_more ds nets columns c t d Q R hc r says st = record {
  link = λ p q hp hq ne.
      let cell = r.cells t p q hp (omega (arith, hq)) in
      let old = st.link p q hp hq ne in
      let new = says.link p q hp hq ne in (
        (λ h. ⊎_elim
            (λ k. let f = old.0 k in (f.0, in_before f.0 ds d f.1, f.2, f.3))
            (λ k. let f = new.0 k in (d, in_end ds d, f.0, f.1))
            (cell.0 h)),
        (λ (e, i, l, h). cell.1 (⊎_elim
            (λ j. inl (old.1 (e, j, l, h)))
            (λ j. inr (new.1 (subst (λ x. Links x (get_or nets p 0) (get_or nets q 0)) j l, subst Q j h)))
            (in_push e ds d i))),
      );
  own = λ p hp.
      let cell = r.cells t p (length nets + c) hp (omega (arith, hc)) in
      let old = st.own p hp in
      let new = says.own p hp in (
        (λ h. ⊎_elim
            (λ k. let f = old.0 k in (f.0, f.1, in_before f.0 ds d f.2, f.3, f.4, f.5, f.6))
            (λ k. let f = new.0 k in (d, f.0, in_end ds d, f.1, f.2, f.3, f.4))
            (cell.0 h)),
        (λ (e, y, i, l, out, h, q). cell.1 (⊎_elim
            (λ j. inl (old.1 (e, y, j, l, out, h, q)))
            (λ j. inr (new.1 (y, subst (λ x. Links x (get_or nets p 0) y) j l, out, h, subst Q j q)))
            (in_push e ds d i))),
      );
}

module _ {S V : Type 0} (A : Chain V) (bit : V → ℕ → Bool) (m : Meaning S V) (states : List S) (nets : List ℕ) (d : Device)
    (once : Distinct nets) (states_hand : InHand m states) where
  -- the states where values are read at t
  abbrev σ : ℕ → ℕ → State Bool
  σ t = shown bit m states t

  -- both tables rise as the device says
  takes : {m' : Meaning S V} {may may' sure sure' : List S} (P K : ℕ → ℕ → ℕ → Type 0)
      → Rises A bit m m' (length nets) (length nets + 2) P may may' → Rises A bit m m' (length nets) (length nets + 1) K sure sure'
      → ((t : ℕ) → Says nets 0 (P t) d (MayConduct (σ t) d) (λ y. MayBe true (σ t y)))
      → ((t : ℕ) → Says nets 1 (P t) d (MayConduct (σ t) d) (λ y. MayBe false (σ t y)))
      → ((t : ℕ) → Says nets 0 (K t) d (SurelyConducts (σ t) d) (λ y. Unit {0}))
      → TakesUp A bit m m' states nets d may may' sure sure'
  takes {m'} {may} {may'} {sure} {sure'} P K r s ones zeros sures = record {
    worked = record { stays = r.stays; may_hand = r.hand; sure_hand = s.hand; may_long = r.long; sure_long = s.long };
    tabled = λ ds T. record {
      ones = λ t.
          subst (λ σ'. Stands bit (ds ++ d ∷ []) nets (system A (length nets) 2 (values m' may') 0) t (MayConduct σ') (λ y. MayBe true (σ' y))) (later t)
          (stands_more ds nets 2 0 t d _ _ (omega arith) r (ones t) (T.ones t));
      zeros = λ t.
          subst (λ σ'. Stands bit (ds ++ d ∷ []) nets (system A (length nets) 2 (values m' may') 1) t (MayConduct σ') (λ y. MayBe false (σ' y))) (later t)
          (stands_more ds nets 2 1 t d _ _ (omega arith) r (zeros t) (T.zeros t));
      sures = λ t.
          subst (λ σ'. Stands bit (ds ++ d ∷ []) nets (system A (length nets) 1 (values m' sure') 0) t (SurelyConducts σ') (λ y. Unit {0})) (later t)
          (stands_more ds nets 1 0 t d _ _ (omega arith) s (sures t) (T.sures t));
    };
  }
    where
      later : (t : ℕ) → σ t ≡ shown bit m' states t
      later t = sym (shown_stays bit r.stays states states_hand t)

  module _ {may sure : List S} (may_hand : InHand m may) (sure_hand : InHand m sure) where
    -- a device that raises nothing
    pub take_idle : {m' : Meaning S V} → Stays m m' → Reached nets d Loop ⊎ Apart nets d → TakesUp A bit m m' states nets d may may sure sure
    take_idle st r =
        takes (λ t a b. ⊥) (λ t a b. ⊥) (rises_none st may_hand) (rises_none st sure_hand)
        (λ t. idle_says nets d once 0 _ _ r) (λ t. idle_says nets d once 1 _ _ r) (λ t. idle_says nets d once 0 _ _ r)

    -- a sign c that tells where the device may conduct, and later a sign u where it surely does
    module _ {c u : S} {m1 : Meaning S V} (conducts : Marks bit m c (λ t. MayConduct (σ t) d)) (first : Stays m m1)
        (surely : Marks bit m1 u (λ t. SurelyConducts (σ t) d)) where
      -- the links of the nets at p and q are joined with the two signs
      pub take_link : {m2 m3 : Meaning S V} {may' sure' : List S} (p q : ℕ) → Reached nets d (Link p q)
          → Raised A bit m1 m2 (length nets) (length nets + 2) (λ a b. ((a ≡ p) × (b ≡ q)) ⊎ ((a ≡ q) × (b ≡ p))) c may may'
          → Raised A bit m2 m3 (length nets) (length nets + 1) (λ a b. ((a ≡ p) × (b ≡ q)) ⊎ ((a ≡ q) × (b ≡ p))) u sure sure'
          → TakesUp A bit m m3 states nets d may may' sure sure'
      take_link p q r one two =
          takes _ _
          (rises_before (rises_later first may_hand (raised_rises _ (marks_stay first conducts) one)) two.stays)
          (rises_later (stays_then first one.stays) sure_hand (raised_rises _ (marks_stay one.stays surely) two))
          (λ t. link_says nets d once 0 _ _ _ p q r (λ a b. ((λ h. h), λ h. h)))
          (λ t. link_says nets d once 1 _ _ _ p q r (λ a b. ((λ h. h), λ h. h)))
          (λ t. link_says nets d once 0 _ _ _ p q r (λ a b. ((λ h. h), λ h. h)))

      -- the own values of the net at p are joined with the meets of c and the two signs of the source y, and with u
      pub take_drive : {m2 m3 m4 m5 m6 : Meaning S V} {may1 may2 sure' : List S} {x z : S} (p y : ℕ) → Reached nets d (Drive p y)
          → Stays m1 m2 → Marks bit m2 x (λ t. MayConduct (σ t) d × MayBe true (σ t y))
          → Raised A bit m2 m3 (length nets) (length nets + 2) (λ a b. (a ≡ p) × (b ≡ length nets)) x may may1
          → Stays m3 m4 → Marks bit m4 z (λ t. MayConduct (σ t) d × MayBe false (σ t y))
          → Raised A bit m4 m5 (length nets) (length nets + 2) (λ a b. (a ≡ p) × (b ≡ length nets + 1)) z may1 may2
          → Raised A bit m5 m6 (length nets) (length nets + 1) (λ a b. (a ≡ p) × (b ≡ length nets)) u sure sure'
          → TakesUp A bit m m6 states nets d may may2 sure sure'
      take_drive p y r second one_marks one third zero_marks two three =
          let early = stays_then first second in
          let till = stays_then (stays_then second one.stays) (stays_then third two.stays) in
          takes _ _
          (rises_before
          (rises_then (rises_later early may_hand (raised_rises _ one_marks one)) (rises_later third one.hand (raised_rises _ zero_marks two)))
          three.stays)
          (rises_later (stays_then first till) sure_hand (raised_rises _ (marks_stay till surely) three))
          (λ t. drive_says nets d once 0 _ _ _ p y r
          (λ a b hb. ⊎_elim (λ h. omega (arith, h.0.1, hb)) (λ h. omega (arith, h.0.1, hb)))
          (λ a. (⊎_elim (λ h. (h.0.0, h.1.1, h.1.0)) (λ h. absurd (omega (arith, h.0.1))), λ h. inl ((h.0, omega arith), (h.2, h.1)))))
          (λ t. drive_says nets d once 1 _ _ _ p y r
          (λ a b hb. ⊎_elim (λ h. omega (arith, h.0.1, hb)) (λ h. omega (arith, h.0.1, hb)))
          (λ a. (⊎_elim (λ h. absurd (omega (arith, h.0.1))) (λ h. (h.0.0, h.1.1, h.1.0)), λ h. inr ((h.0, omega arith), (h.2, h.1)))))
          (λ t. drive_says nets d once 0 _ _ _ p y r
          (λ a b hb h. omega (arith, h.0.1, hb))
          (λ a. ((λ h. (h.0.0, tt, h.1)), λ h. ((h.0, omega arith), h.2))))

-- the same, of tables that hold the same at the end
pub takes_at : {S V : Type 0} {A : Chain V} {bit : V → ℕ → Bool} {m m' : Meaning S V} {states : List S} {nets : List ℕ} {d : Device} {may may1 may2 sure sure1 sure2 : List S}
    → TakesUp A bit m m' states nets d may may1 sure sure1 → may2 ≡ may1 → sure2 ≡ sure1 → TakesUp A bit m m' states nets d may may2 sure sure2
takes_at {A = A} {bit = bit} {m = m} {m' = m'} {states = states} {nets = nets} {d = d} {may = may} {sure = sure} t e f =
    subst₂ (λ x y. TakesUp A bit m m' states nets d may x sure y) (sym e) (sym f) t

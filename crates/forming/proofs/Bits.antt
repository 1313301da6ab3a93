-- The bits of joins and meets, and the order of an algebra of signals by bits. Assumes nothing.
use Rattle.std.proofs.Common.{◌≡◌, ℕ, Bool, true, false, ◌||◌, ◌⊎◌, List, [], ◌∷◌, sym, refl, ap, ◌∙◌, inl, inr, ⊎_elim}
use mathlib.Core.Bool.{false≢true}
use Rattle.std.proofs.lemmas.Bool.{and_from, and_parts, or_cases, or_left, or_right}
use Rattle.cell.specs.Lists.{In}
use Rattle.algebra.specs.Chain.{Chain}
use Rattle.algebra.specs.Signals.{Boolean}
use Rattle.paths.specs.Paths.{Under}

or_same : (a b : Bool) → (a ≡ true → b ≡ true) → (a || b) ≡ b
or_same true b f = sym (f refl)
or_same false b f = refl

-- the join of f over a list
pub over : {V : Type 0} → Chain V → (ℕ → V) → List ℕ → V
over A f [] = A.zero
over A f (n ∷ ns) = A.join (f n) (over A f ns)

-- v where the question is answered no, zero where it is answered yes
pub unless : {V : Type 0} → Chain V → {T : Type 0} → T ⊎ (¬ T) → V → V
unless A (inl h) v = A.zero
unless A (inr n) v = v

module _ {V : Type 0} {A : Chain V} {bit : V → ℕ → Bool} (B : Boolean A bit) (t : ℕ) where
  pub no_zero : ¬ (bit A.zero t ≡ true)
  no_zero h = false≢true (sym (B.zero_bit t) ∙ h)

  pub join_cases : (v w : V) → bit (A.join v w) t ≡ true → (bit v t ≡ true) ⊎ (bit w t ≡ true)
  join_cases v w h = or_cases (bit v t) (bit w t) (sym (B.join_bit v w t) ∙ h)

  pub join_left : (v w : V) → bit v t ≡ true → bit (A.join v w) t ≡ true
  join_left v w h = B.join_bit v w t ∙ or_left (bit v t) (bit w t) h

  pub join_right : (v w : V) → bit w t ≡ true → bit (A.join v w) t ≡ true
  join_right v w h = B.join_bit v w t ∙ or_right (bit v t) (bit w t) h

  pub meet_parts : (v w : V) → bit (A.meet v w) t ≡ true → (bit v t ≡ true) × (bit w t ≡ true)
  meet_parts v w h = and_parts (bit v t) (bit w t) (sym (B.meet_bit v w t) ∙ h)

  pub meet_from : (v w : V) → bit v t ≡ true → bit w t ≡ true → bit (A.meet v w) t ≡ true
  meet_from v w h k = B.meet_bit v w t ∙ and_from (bit v t) (bit w t) h k

  pub over_found : (f : ℕ → V) (ns : List ℕ) → bit (over A f ns) t ≡ true → (n : ℕ) × In n ns × (bit (f n) t ≡ true)
  unfolding over
  over_found f [] h = absurd (no_zero h)
  over_found f (n ∷ ns) h =
      ⊎_elim (λ k. (n, inl refl, k)) (λ k. let r = over_found f ns k in (r.0, inr r.1, r.2))
      (join_cases (f n) (over A f ns) h)

  pub over_from : (f : ℕ → V) (n : ℕ) (ns : List ℕ) → In n ns → bit (f n) t ≡ true → bit (over A f ns) t ≡ true
  unfolding over
  over_from f n [] i h = absurd i
  over_from f n (k ∷ ns) (inl e) h = join_left (f k) (over A f ns) (ap (λ z. bit (f z) t) (sym e) ∙ h)
  over_from f n (k ∷ ns) (inr i) h = join_right (f k) (over A f ns) (over_from f n ns i h)

  pub unless_parts : {T : Type 0} (q : T ⊎ (¬ T)) (v : V) → bit (unless A q v) t ≡ true → (¬ T) × (bit v t ≡ true)
  unfolding unless
  unless_parts (inl y) v h = absurd (no_zero h)
  unless_parts (inr n) v h = (n, h)

  pub unless_from : {T : Type 0} (q : T ⊎ (¬ T)) (v : V) → ¬ T → bit v t ≡ true → bit (unless A q v) t ≡ true
  unfolding unless
  unless_from (inl y) v n h = absurd (n y)
  unless_from (inr m) v n h = h

  pub under_bit : (v w : V) → Under A v w → bit v t ≡ true → bit w t ≡ true
  under_bit v w u h = ap (λ z. bit z t) (sym u) ∙ join_left v w h

-- a value is under another that is 1 wherever it is
pub under_from : {V : Type 0} {A : Chain V} {bit : V → ℕ → Bool} → Boolean A bit → (v w : V)
    → ((t : ℕ) → bit v t ≡ true → bit w t ≡ true) → Under A v w
under_from {A = A} {bit = bit} B v w f = B.only (A.join v w) w (λ t. B.join_bit v w t ∙ or_same (bit v t) (bit w t) (f t))

-- The order of a chain algebra. Assumes nothing.
use Rattle.std.proofs.Common.{◌≡◌, sym, ap, ◌∙◌}
use Rattle.algebra.specs.Chain.{Chain, Laws}
use Rattle.paths.specs.Paths.{Under, OneJoin}

module _ {V : Type 0} {A : Chain V} (L : Laws A) where
  pub under_refl : (a : V) → Under A a a
  under_refl a = L.join_idem a

  pub under_of_eq : (a b : V) → a ≡ b → Under A a b
  under_of_eq a b e = ap (λ x. A.join x b) e ∙ L.join_idem b

  pub under_trans : {a b c : V} → Under A a b → Under A b c → Under A a c
  under_trans {a} {b} {c} p q =
      ap (A.join a) (sym q) ∙ sym (L.join_assoc a b c) ∙ ap (λ x. A.join x c) p ∙ q

  under_antisym : {a b : V} → Under A a b → Under A b a → a ≡ b
  under_antisym {a} {b} p q = sym q ∙ L.join_comm b a ∙ p

  pub under_left : (a b : V) → Under A a (A.join a b)
  under_left a b = sym (L.join_assoc a a b) ∙ ap (λ x. A.join x b) (L.join_idem a)

  pub under_right : (a b : V) → Under A b (A.join a b)
  under_right a b =
      ap (A.join b) (L.join_comm a b) ∙ under_left b a ∙ L.join_comm b a

  pub join_under : {a b c : V} → Under A a c → Under A b c → Under A (A.join a b) c
  join_under {a} {b} {c} p q = L.join_assoc a b c ∙ ap (A.join a) q ∙ p

  pub meet_mono_left : {a b : V} (c : V) → Under A a b → Under A (A.meet a c) (A.meet b c)
  meet_mono_left {a} {b} c p = sym (L.join_meet a b c) ∙ ap (λ x. A.meet x c) p

  pub meet_mono_right : (c : V) {a b : V} → Under A a b → Under A (A.meet c a) (A.meet c b)
  meet_mono_right c {a} {b} p = sym (L.meet_join c a b) ∙ ap (A.meet c) p

  under_one : (a : V) → Under A a A.one
  under_one a = L.join_comm a A.one ∙ L.one_join a

  -- a factor on the left only lowers
  pub meet_under_right : (a b : V) → Under A (A.meet a b) b
  meet_under_right a b = under_trans (meet_mono_left b (under_one a)) (under_of_eq _ _ (L.one_meet b))

-- least upper bounds are one value
pub one_join : {V : Type 0} (A : Chain V) → Laws A → OneJoin A
one_join A L m S i x y p q = under_antisym L (p.least y q.above) (q.least x p.above)

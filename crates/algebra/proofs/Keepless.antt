-- Forming a value of a kind that keeps nothing, holds nothing and is not spent. Assumes nothing.
use Rattle.std.proofs.Common.{◌≡◌, false, [], ◌∷◌, Ok, refl, inl, ⊎_elim, zero-le}
use Rattle.algebra.specs.Kinds.{keeps_nothing}
use Rattle.algebra.specs.Holding.{Meaning, Means, Forming, Stays, AtMost, Grown}

nothing : {S V : Type 0} (m : Meaning S V) (v w : V) → ((u : V) → ¬ (m.holds u)) → ¬ (Grown keeps_nothing (λ (u : V). u ≡ v) m w)
nothing m v w empty = ⊎_elim (empty w) (λ kept. kept.2)

few : {S V : Type 0} (m : Meaning S V) (v : V) → ((u : V) → ¬ (m.holds u)) → AtMost m.room (Grown keeps_nothing (λ (u : V). u ≡ v) m)
few m v empty [] distinct every = zero-le
few m v empty (w ∷ ws) distinct every = absurd (nothing m v w empty every.0)

as_it_was : {S V : Type 0} (m : Meaning S V) → Stays m m
as_it_was m = record { room = refl; inputs = refl; listed = refl; hand = λ s h. h; value = λ s h. refl }

pub forming : {S V : Type 0} (m : Meaning S V) (v : V) (s : S)
    → m.spent ≡ false → ((u : V) → ¬ (m.holds u)) → Means m s v → Forming keeps_nothing m v (Ok s) m
forming m v s unspent empty means = record {
  0 = record {
    stays = as_it_was m;
    spent = refl;
    holds = λ w. (inl, λ grown. absurd (nothing m v w empty grown));
    fresh = λ u f. unspent;
    fits = λ u f. few m v empty;
  };
  1 = means;
}

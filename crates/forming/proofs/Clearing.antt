-- Tables whose first cells were made zero. Assumes nothing.
use Rattle.std.proofs.Common.{◌≡◌, ℕ, zero, suc, ◌<◌, ◌≤◌, true, List, [], ◌∷◌, ◌++◌, length, get_or, take, drop, ap, ◌∙◌, arith}
use Rattle.std.proofs.lemmas.List.{get_or_append_left, length-map, length-take-le, length-append, length-drop, map-append}
use Rattle.cell.specs.Lists.{Every}
use Rattle.algebra.specs.Chain.{Chain}
use Rattle.algebra.specs.Holding.{Meaning}
use Rattle.forming.specs.Signs.{InHand, values}
use Rattle.paths.proofs.Lists.{every_append}

every_drop : {X : Type 0} (Q : X → Type 0) (n : ℕ) (xs : List X) → Every Q xs → Every Q (drop n xs)
every_drop Q zero xs h = h
every_drop Q (suc n) [] h = tt
every_drop Q (suc n) (x ∷ xs) h = every_drop Q n xs h.1

-- all signs are in hand, and the first n cells of a table are zero
pub record ClearTo {S V : Type 0} (A : Chain V) (m : Meaning S V) (n : ℕ) (xs ys : List S) : Type 0 where
  pub hand : InHand m ys
  pub long : length ys ≡ length xs
  pub zero : (k : ℕ) → k < n → get_or (values m ys) k A.zero ≡ A.zero

-- the first n cells of xs were replaced by ys
pub first_clear : {S V : Type 0} (A : Chain V) (m : Meaning S V) (n : ℕ) (xs ys : List S) → n ≤ length xs → InHand m xs → InHand m ys → length ys ≡ length (take n xs)
    → ((k : ℕ) → k < length (take n xs) → get_or (values m ys) k A.zero ≡ A.zero) → ClearTo A m n xs (ys ++ drop n xs)
first_clear A m n xs ys le all front long cleared = record {
  hand = every_append (λ s. m.hand s ≡ true) ys (drop n xs) front (every_drop (λ s. m.hand s ≡ true) n xs all);
  long = omega (arith, length-append ys (drop n xs), length-drop n xs, here, le);
  zero = λ k h.
      ap (λ vs. get_or vs k A.zero) (map-append m.value ys (drop n xs))
      ∙ get_or_append_left (values m ys) (values m (drop n xs)) A.zero k (omega (arith, h, here, length-map ys m.value))
      ∙ cleared k (omega (arith, h, length-take-le n xs le));
}
  where
    here : length ys ≡ n
    here = long ∙ length-take-le n xs le

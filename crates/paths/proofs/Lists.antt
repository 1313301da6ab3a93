-- Lists each element of which has a property. Assumes nothing.
use Rattle.std.proofs.Common.{◌⊎◌, List, [], ◌∷◌, ◌++◌, inl, inr}
use Rattle.cell.specs.Lists.{Every}

-- one of the list has the second property, or each has the first
pub scan : {X : Type 0} (P Q : X → Type 0) (xs : List X) → Every (λ x. P x ⊎ Q x) xs → ((x : X) × Q x) ⊎ Every P xs
scan P Q [] h = inr tt
scan {X} P Q (x ∷ xs) h = go h.0 (scan P Q xs h.1)
  where
    go : P x ⊎ Q x → ((y : X) × Q y) ⊎ Every P xs → ((y : X) × Q y) ⊎ Every P (x ∷ xs)
    go (inr q) r = inl (x, q)
    go (inl p) (inl r) = inl r
    go (inl p) (inr r) = inr (p, r)

pub every_append : {X : Type 0} (Q : X → Type 0) (xs ys : List X) → Every Q xs → Every Q ys → Every Q (xs ++ ys)
every_append Q [] ys p q = q
every_append Q (x ∷ xs) ys p q = (p.0, every_append Q xs ys p.1 q)

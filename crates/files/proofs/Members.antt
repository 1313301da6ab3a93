-- The test of a list for a number is its membership. Assumes nothing.
use Rattle.std.proofs.Common.{◌≡◌, ℕ, true, false, eqb, List, [], ◌∷◌, sym, refl, inl, inr, ⊎_elim}
use Rattle.std.proofs.lemmas.Bool.{eqb-true, eqb-false, ne_eqb, or_parts, or_from, or_cases, true≢false}
use Rattle.cell.specs.Lists.{In}
use Rattle.files.specs.Reading.{member}

pub absent : (x : ℕ) (xs : List ℕ) → member x xs ≡ false → ¬ (In x xs)
absent x [] h = λ k. k
absent x (y ∷ ys) h =
    let p = or_parts (eqb y x) (member x ys) h in
    ⊎_elim (λ e. eqb-false y x p.0 (sym e)) (absent x ys p.1)

pub not_listed : (x : ℕ) (xs : List ℕ) → ¬ (In x xs) → member x xs ≡ false
not_listed x [] h = refl
not_listed x (y ∷ ys) h = or_from (eqb y x) (member x ys) (ne_eqb y x (λ e. h (inl (sym e)))) (not_listed x ys (λ k. h (inr k)))

pub present : (x : ℕ) (xs : List ℕ) → member x xs ≡ true → In x xs
present x [] h = absurd (true≢false (sym h))
present x (y ∷ ys) h = ⊎_elim (λ e. inl (sym (eqb-true y x e))) (λ e. inr (present x ys e)) (or_cases (eqb y x) (member x ys) h)

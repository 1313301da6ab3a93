-- Elements of lists: by their places, with one more at the end, each with a property. Assumes nothing.
use Rattle.std.proofs.Common.{◌≡◌, ℕ, zero, suc, ◌<◌, ◌⊎◌, List, [], ◌∷◌, ◌++◌, length, get_or, set, sym, refl, subst, inl, inr, ⊎_elim, suc-le-suc, zero-le, le_of_suc-le-suc, not-suc-le-zero}
use Rattle.cell.specs.Lists.{In, Every}

pub in_get_or : {X : Type 0} (xs : List X) (k : ℕ) (d : X) → k < length xs → In (get_or xs k d) xs
in_get_or [] k d h = absurd (not-suc-le-zero h)
in_get_or (x ∷ xs) zero d h = inl refl
in_get_or (x ∷ xs) (suc k) d h = inr (in_get_or xs k d (le_of_suc-le-suc h))

pub in_place : {X : Type 0} (x : X) (xs : List X) → In x xs → (k : ℕ) × (k < length xs) × ((d : X) → get_or xs k d ≡ x)
in_place x [] h = absurd h
in_place x (y ∷ xs) (inl e) = (0, suc-le-suc zero-le, λ d. sym e)
in_place x (y ∷ xs) (inr h) = let r = in_place x xs h in (suc r.0, suc-le-suc r.1, r.2)

pub in_left : {X : Type 0} (x : X) (xs ys : List X) → In x xs → In x (xs ++ ys)
in_left x [] ys h = absurd h
in_left x (y ∷ xs) ys (inl e) = inl e
in_left x (y ∷ xs) ys (inr h) = inr (in_left x xs ys h)

pub in_right : {X : Type 0} (x : X) (xs ys : List X) → In x ys → In x (xs ++ ys)
in_right x [] ys h = h
in_right x (y ∷ xs) ys h = inr (in_right x xs ys h)

pub in_parts : {X : Type 0} (x : X) (xs ys : List X) → In x (xs ++ ys) → In x xs ⊎ In x ys
in_parts x [] ys h = inr h
in_parts x (y ∷ xs) ys (inl e) = inl (inl e)
in_parts x (y ∷ xs) ys (inr h) = ⊎_elim (λ k. inl (inr k)) (λ k. inr k) (in_parts x xs ys h)

-- of a list with one more element at its end
pub in_before : {X : Type 0} (x : X) (xs : List X) (y : X) → In x xs → In x (xs ++ y ∷ [])
in_before x xs y h = in_left x xs (y ∷ []) h

pub in_end : {X : Type 0} (xs : List X) (y : X) → In y (xs ++ y ∷ [])
in_end xs y = in_right y xs (y ∷ []) (inl refl)

pub in_push : {X : Type 0} (x : X) (xs : List X) (y : X) → In x (xs ++ y ∷ []) → In x xs ⊎ (x ≡ y)
in_push x xs y h = ⊎_elim (λ k. inl k) (elim [ inl e ↦ inr e | inr k ↦ absurd k ]) (in_parts x xs (y ∷ []) h)

pub every_in : {X : Type 0} (Q : X → Type 0) (xs : List X) (x : X) → Every Q xs → In x xs → Q x
every_in Q [] x e h = absurd h
every_in Q (y ∷ xs) x e (inl p) = subst Q (sym p) e.0
every_in Q (y ∷ xs) x e (inr h) = every_in Q xs x e.1 h

pub every_from : {X : Type 0} (Q : X → Type 0) (xs : List X) → ((x : X) → In x xs → Q x) → Every Q xs
every_from Q [] f = tt
every_from Q (x ∷ xs) f = (f x (inl refl), every_from Q xs (λ y h. f y (inr h)))

pub every_place : {X : Type 0} (Q : X → Type 0) (xs : List X) (k : ℕ) (d : X) → k < length xs → Every Q xs → Q (get_or xs k d)
every_place Q xs k d h e = every_in Q xs (get_or xs k d) e (in_get_or xs k d h)

pub every_from_places : {X : Type 0} (Q : X → Type 0) (xs : List X) (d : X) → ((k : ℕ) → k < length xs → Q (get_or xs k d)) → Every Q xs
every_from_places Q xs d f = every_from Q xs (λ x h. let r = in_place x xs h in subst Q (r.2 d) (f r.0 r.1))

pub every_map : {X : Type 0} {Q R : X → Type 0} → ((x : X) → Q x → R x) → (xs : List X) → Every Q xs → Every R xs
every_map f [] e = tt
every_map f (x ∷ xs) e = (f x e.0, every_map f xs e.1)

pub every_both : {X : Type 0} {Q R S : X → Type 0} → ((x : X) → Q x → R x → S x) → (xs : List X) → Every Q xs → Every R xs → Every S xs
every_both f [] e g = tt
every_both f (x ∷ xs) e g = (f x e.0 g.0, every_both f xs e.1 g.1)

pub every_set : {X : Type 0} (Q : X → Type 0) (xs : List X) (i : ℕ) (y : X) → Q y → Every Q xs → Every Q (set xs i y)
every_set Q [] i y q h = tt
every_set Q (x ∷ xs) zero y q h = (q, h.1)
every_set Q (x ∷ xs) (suc i) y q h = (h.0, every_set Q xs i y q h.1)

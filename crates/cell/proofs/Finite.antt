-- Lists with no element twice. Assumes nothing.
use Rattle.std.proofs.Common.{◌≡◌, ℕ, suc, ◌≤◌, ◌≢◌, ◌⊎◌, List, [], ◌∷◌, length, sym, refl, ap, ◌∙◌, subst, inl, inr, suc-le-suc, zero-le}
use native.Mathlib.Decide.{ℕ_discrete}
use Rattle.cell.specs.Lists.{In, Distinct}

pub same : (a b : ℕ) → (a ≡ b) ⊎ (a ≢ b)
same a b = go (ℕ_discrete a b)
  where
    go : Dec (a ≡ b) → (a ≡ b) ⊎ (a ≢ b)
    go (yes e) = inl e
    go (no n) = inr n

pub dec_in : (i : ℕ) (ns : List ℕ) → In i ns ⊎ (¬ (In i ns))
dec_in i [] = inr (λ h. h)
dec_in i (n ∷ ns) = go (same i n) (dec_in i ns)
  where
    go : (i ≡ n) ⊎ (i ≢ n) → In i ns ⊎ (¬ (In i ns)) → In i (n ∷ ns) ⊎ (¬ (In i (n ∷ ns)))
    go (inl e) d = inl (inl e)
    go (inr e) (inl h) = inl (inr h)
    go (inr e) (inr h) = inr (elim [ inl p ↦ e p | inr q ↦ h q ])

-- the list without the element at a place
without : (x : ℕ) (ys : List ℕ) → In x ys → List ℕ
without x [] h = absurd h
without x (y ∷ ys) (inl e) = ys
without x (y ∷ ys) (inr h) = y ∷ without x ys h

without_length : (x : ℕ) (ys : List ℕ) (h : In x ys) → suc (length (without x ys h)) ≡ length ys
unfolding without
without_length x [] h = absurd h
without_length x (y ∷ ys) (inl e) = refl
without_length x (y ∷ ys) (inr h) = ap suc (without_length x ys h)

without_in : (x z : ℕ) (ys : List ℕ) (h : In x ys) → z ≢ x → In z ys → In z (without x ys h)
unfolding without
without_in x z [] h ne k = absurd h
without_in x z (y ∷ ys) (inl e) ne (inl q) = absurd (ne (q ∙ sym e))
without_in x z (y ∷ ys) (inl e) ne (inr k) = k
without_in x z (y ∷ ys) (inr h) ne (inl q) = inl q
without_in x z (y ∷ ys) (inr h) ne (inr k) = inr (without_in x z ys h ne k)

-- a list with no element twice, all of it in another, is no longer than that one
pub few : (xs ys : List ℕ) → Distinct xs → ((x : ℕ) → In x xs → In x ys) → length xs ≤ length ys
few [] ys d sub = zero-le
few (x ∷ xs) ys d sub =
    subst (λ n. suc (length xs) ≤ n) (without_length x ys (sub x (inl refl)))
    (suc-le-suc (few xs (without x ys (sub x (inl refl))) d.1
    (λ z h. without_in x z ys (sub x (inl refl)) (λ e. d.0 (subst (λ w. In w xs) e h)) (sub z (inr h)))))

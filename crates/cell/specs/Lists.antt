-- Words for lists. Assumes nothing.
use Rattle.std.specs.Prelude.{◌≡◌, ℕ, ◌<◌, ◌⊎◌, List, [], ◌∷◌, ◌++◌}

abbrev pub In : {X : Type 0} → X → List X → Type 0
In x [] = ⊥
In x (y ∷ ys) = (x ≡ y) ⊎ In x ys

abbrev pub Every : {X : Type 0} → (X → Type 0) → List X → Type 0
Every Q [] = Unit {0}
Every Q (x ∷ xs) = Q x × Every Q xs

-- no two of the list are equal
abbrev pub Distinct : {X : Type 0} → List X → Type 0
Distinct [] = Unit {0}
Distinct (x ∷ xs) = (¬ (In x xs)) × Distinct xs

abbrev pub Rising : List ℕ → Type 0
Rising [] = Unit {0}
Rising (n ∷ ns) = ((m : ℕ) → In m ns → n < m) × Rising ns

-- Q holds of each element with those that come before it, `earlier` and then the list's own
abbrev pub Along : {X : Type 0} → (List X → X → Type 0) → List X → List X → Type 0
Along Q earlier [] = Unit {0}
Along Q earlier (x ∷ xs) = Q earlier x × Along Q (earlier ++ x ∷ []) xs

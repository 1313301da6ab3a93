-- Tables of one value. Assumes nothing.
use Rattle.std.proofs.Common.{◌≡◌, ℕ, ◌<◌, ◌≤◌, ◌⊎◌, get_or, replicate, inl, inr, arith}
use Rattle.std.proofs.lemmas.List.{get_or-replicate, get_or_past, length-replicate}
use Rattle.std.proofs.lemmas.Bool.{cases_lt}

pub get_or_replicated : {X : Type 0} (n x : ℕ) (a : X) → get_or (replicate n a) x a ≡ a
get_or_replicated n x a = go (cases_lt x n)
  where
    go : (x < n) ⊎ (n ≤ x) → get_or (replicate n a) x a ≡ a
    go (inl lo) = get_or-replicate n x a a lo
    go (inr hi) = get_or_past (replicate n a) x a (omega (arith, length-replicate n a))

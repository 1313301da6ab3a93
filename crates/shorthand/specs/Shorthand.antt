-- What a text written short stands for. Assumes nothing.
use Rattle.std.specs.Prelude.{◌≡◌, ℕ, cond, List, ◌==◌, length}
use Rattle.std.specs.List.{position_or_len}

-- the byte that a byte stands for: a tab for a space, a line feed for a stroke
abbrev pub plain_of : ℕ → ℕ
plain_of b = cond (b == 32) 9 (cond (b == 47) 10 b)

-- the byte c is nowhere in the text
abbrev pub Lacks : ℕ → List ℕ → Type 0
Lacks c text = position_or_len (λ b. b == c) text ≡ length text

-- The rows of a table of states. Assumes nothing.
use Rattle.std.specs.Prelude.{◌≡◌, ℕ, ◌≤◌, Bool, cond, List, [], ◌∷◌, ◌++◌, map, length, drop, Some, None, codes, Option, ◌==◌}
use Rattle.std.specs.List.{range_with_len}
use Rattle.arrayvec.specs.ArrayVec.{ArrayVec}
use Rattle.cell.specs.declared.State.{State}
use Rattle.cell.specs.States.{setting_bit}

-- the letter of a state, by their codes: 0, 1 or X
abbrev pub letter_of : State Bool → ℕ
letter_of st = cond st.may0 (cond st.may1 88 48) 49

-- the digit of the bit of input i
abbrev pub bit_of : ℕ → ℕ → ℕ → ℕ
bit_of n s i = cond (setting_bit n s i) 49 48

-- the bits of a setting, the first input's first, or - where there is no input
abbrev pub bits_of : ℕ → ℕ → List ℕ
bits_of n s = cond (n == 0) (codes "-") (map (bit_of n s) (range_with_len 0 n))

-- a setting's bits, a tab, the letters of the states, and a line feed
abbrev pub row_of : ℕ → ℕ → List (State Bool) → List ℕ
row_of n s sts = bits_of n s ++ (9 ∷ (map letter_of sts ++ 10 ∷ []))

-- the row is given where there are at most 16 inputs and 16 states; else none
abbrev pub RowGiven : ℕ → ℕ → List (State Bool) → Option (ArrayVec ℕ) → Type 0
RowGiven n s sts (Some row) = (n ≤ 16) × (length sts ≤ 16) × (row.items ≡ row_of n s sts)
RowGiven n s sts None = ¬ ((n ≤ 16) × (length sts ≤ 16))

-- a row is written at the start and the bytes after it stay, where there are at most 16 inputs and 16 states; else nothing is written
abbrev pub Put : ℕ → ℕ → List (State Bool) → Option ℕ → List ℕ → List ℕ → Type 0
Put n s sts (Some k) before after = (n ≤ 16) × (length sts ≤ 16) × (k ≡ length (row_of n s sts)) × (after ≡ row_of n s sts ++ drop k before)
Put n s sts None before after = (¬ ((n ≤ 16) × (length sts ≤ 16))) × (after ≡ before)

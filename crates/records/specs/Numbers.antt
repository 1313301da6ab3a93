-- Net numbers and names. Assumes nothing.
use Rattle.std.specs.Prelude.{ℕ, ◌+◌, ◌-◌, ◌*◌, Bool, cond, ◌&&◌, ◌||◌, List, [], ◌∷◌, length, Some, None, Option, ◌==◌, nat_le}
use Rattle.std.specs.List.{list_all}

abbrev pub digit : ℕ → Bool
digit b = nat_le 48 b && nat_le b 57

-- a first digit of several
abbrev pub leading : ℕ → Bool
leading b = nat_le 49 b && nat_le b 57

abbrev pub at_most_127 : ℕ → Option ℕ
at_most_127 v = cond (nat_le v 127) (Some v) None

-- a decimal number from 0 to 127 with no leading zero
abbrev pub net_of : List ℕ → Option ℕ
net_of [] = None
net_of (a ∷ []) = cond (digit a) (Some (a - 48)) None
net_of (a ∷ b ∷ []) = cond (leading a && digit b) (Some (10 * (a - 48) + (b - 48))) None
net_of (a ∷ b ∷ c ∷ []) = cond (leading a && digit b && digit c) (at_most_127 (100 * (a - 48) + 10 * (b - 48) + (c - 48))) None
net_of (a ∷ b ∷ c ∷ d ∷ r) = None

-- a letter, a digit or an underscore
abbrev pub is_name_byte : ℕ → Bool
is_name_byte b = digit b || (nat_le 65 b && nat_le b 90) || (nat_le 97 b && nat_le b 122) || b == 95

-- a name of 1 to 16 bytes
abbrev pub spells_name : List ℕ → Bool
spells_name bs = nat_le 1 (length bs) && nat_le (length bs) 16 && list_all is_name_byte bs

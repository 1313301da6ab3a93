-- The label of a net, if it has one. Assumes nothing.
use Rattle.std.specs.Prelude.{ℕ, Bool, cond, nat_eq, Option, Some}
use Rattle.std.specs.Option.{option_eq}

-- whether there is a label and it is this one
abbrev pub is_label : Option ℕ → ℕ → Bool
is_label o label = option_eq nat_eq o (Some label)

-- the label `from` becomes `to`
abbrev pub renamed : ℕ → ℕ → Option ℕ → Option ℕ
renamed from to o = cond (is_label o from) (Some to) o

-- the number `from` becomes `to`
abbrev pub renumbered : ℕ → ℕ → ℕ → ℕ
renumbered from to n = cond (nat_eq n from) to n

-- The states of nets kept as signs of an algebra. Assumes nothing.
use Rattle.std.specs.Prelude.{◌≡◌, ℕ, ◌+◌, ◌*◌, Bool, true, false, List, map, slice_index_or}
use Rattle.cell.specs.declared.State.{State}
use Rattle.cell.specs.Lists.{Every}
use Rattle.algebra.specs.Holding.{Meaning}

-- all signs of a table are in hand
abbrev pub InHand : {S V : Type 0} → Meaning S V → List S → Type 0
InHand m xs = Every (λ s. m.hand s ≡ true) xs

-- the values of a table of signs
abbrev pub values : {S V : Type 0} → Meaning S V → List S → List V
values m xs = map m.value xs

-- one of the two signs of a state: that of "may be 0", or of "may be 1"
abbrev pub side : {S : Type 0} → Bool → State S → S
side false st = st.may0
side true st = st.may1

-- where the sign stands that tells whether net x may be b
abbrev pub place_of : ℕ → Bool → ℕ
place_of x false = 2 * x
place_of x true = 2 * x + 1

-- the states of the nets where values are read at t; a net beyond the table is X
abbrev pub shown : {S V : Type 0} → (V → ℕ → Bool) → Meaning S V → List S → ℕ → ℕ → State Bool
shown bit m states t x = record {
  may0 = slice_index_or (map (λ s. bit (m.value s) t) states) (place_of x false) true;
  may1 = slice_index_or (map (λ s. bit (m.value s) t) states) (place_of x true) true;
}

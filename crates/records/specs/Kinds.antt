-- The kinds of body records: their words, and how many nets they list. Assumes nothing.
use Rattle.std.specs.Prelude.{ℕ, ◌-◌, Bool, ◌&&◌, List, [], ◌∷◌, codes, ◌==◌, nat_le}
use Rattle.cell.specs.declared.DeviceKind.{DeviceKind}
use Rattle.cell.specs.declared.DeviceKind.TheVariants.{N, P}
use Rattle.cell.specs.declared.GateKind.{GateKind}
use Rattle.cell.specs.declared.GateKind.TheVariants.{Not, Buf, And, Or, Nand, Nor, Xor, Xnor}

abbrev pub device_kinds : List DeviceKind
device_kinds = N ∷ P ∷ []

abbrev pub device_word : DeviceKind → List ℕ
device_word N = codes "N"
device_word P = codes "P"

-- a gate net and two channel ends
abbrev pub device_takes : DeviceKind → ℕ → Bool
device_takes k m = m == 3

abbrev pub gate_kinds : List GateKind
gate_kinds = Not ∷ Buf ∷ And ∷ Or ∷ Nand ∷ Nor ∷ Xor ∷ Xnor ∷ []

abbrev pub gate_word : GateKind → List ℕ
gate_word Not = codes "NOT"
gate_word Buf = codes "BUF"
gate_word And = codes "AND"
gate_word Or = codes "OR"
gate_word Nand = codes "NAND"
gate_word Nor = codes "NOR"
gate_word Xor = codes "XOR"
gate_word Xnor = codes "XNOR"

-- how many inputs a gate of a kind may have
abbrev pub arity : GateKind → ℕ → Bool
arity Not m = m == 1
arity Buf m = m == 1
arity And m = nat_le 2 m && nat_le m 8
arity Or m = nat_le 2 m && nat_le m 8
arity Nand m = nat_le 2 m && nat_le m 8
arity Nor m = nat_le 2 m && nat_le m 8
arity Xor m = m == 2
arity Xnor m = m == 2

-- its inputs, and last its output
abbrev pub gate_takes : GateKind → ℕ → Bool
gate_takes k m = nat_le 1 m && arity k (m - 1)

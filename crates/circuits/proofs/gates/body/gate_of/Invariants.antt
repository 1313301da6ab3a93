use Rattle.std.proofs.Common.{◌≡◌, map, length, take}
use Rattle.records.specs.declared.Net.{Net}
use Rattle.circuits.proofs.gates.body.gate_of.Given as goal

abbrev pub invariant-loop-i : goal.invariant-loop-i
invariant-loop-i l = (take l.i l.inputs ≡ map (λ (x : Net). x.value) (take l.i l.others)) × (length l.inputs ≡ 8)

use Rattle.std.proofs.Common.{◌≡◌, ◌-◌, length}
use Rattle.netlist.specs.Circuits.{circuit_of}
use Rattle.netlist.specs.Endings.{goes_on}
use Rattle.netlist.proofs.reading.read_to_end.Given as goal

abbrev pub invariant-loop-line : goal.invariant-loop-line
invariant-loop-line g l = goes_on g.B.Body.format l.reader (circuit_of g.B.Body.items l.netlist) ≡ goes_on g.B.Body.format l.initial.reader (circuit_of g.B.Body.items l.initial.netlist)

abbrev pub decreases-loop-line : goal.decreases-loop-line
decreases-loop-line g l = length l.reader.lines.text.now - l.reader.lines.pos

use Rattle.std.proofs.lemmas.Bool.{lt-ltb, le-ltb}
use Rattle.algebra.proofs.Points.{reads_input}
use Rattle.algebra.proofs.point.calls.PointSignalAlgebra.input.Goals as goal

pub returns-then-i-n : goal.returns-then-i-n
returns-then-i-n c = reads_input _ _ _ _ (rw (lt-ltb _ _ c.if-i-n.true))

pub returns-else-i-n : goal.returns-else-i-n
returns-else-i-n c = reads_input _ _ _ _ (rw (le-ltb _ _ c.if-i-n.false))

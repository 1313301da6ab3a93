use Rattle.std.proofs.Common.{arith}
use Rattle.algebra.proofs.Blocks.{first_set}
use Rattle.algebra.proofs.block.calls.BlockSignalAlgebra.first.Goals as goal

pub returns : goal.returns
returns c = rw c.taken-word.ensures (first_set _ _ _ c.args.self.now.exists (omega (arith, c.if-word-eq0.false)))

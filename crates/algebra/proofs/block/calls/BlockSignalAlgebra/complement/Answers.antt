use Rattle.algebra.proofs.Blocks.{complemented}
use Rattle.algebra.proofs.block.calls.BlockSignalAlgebra.complement.Goals as goal

pub returns : goal.returns
returns c = rw (c.full.ensures, c.taken.ensures) (complemented _ _ _)

use Rattle.algebra.proofs.Blocks.{met}
use Rattle.algebra.proofs.block.calls.BlockChainAlgebra.meet.Goals as goal

pub returns : goal.returns
returns c = rw (c.taken.ensures, c.taken-2.ensures) (met _ _ _ _)

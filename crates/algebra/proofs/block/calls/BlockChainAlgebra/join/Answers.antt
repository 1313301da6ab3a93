use Rattle.algebra.proofs.Blocks.{joined}
use Rattle.algebra.proofs.block.calls.BlockChainAlgebra.join.Goals as goal

pub returns : goal.returns
returns c = rw (c.taken.ensures, c.taken-2.ensures) (joined _ _ _ _)

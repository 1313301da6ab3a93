use Rattle.algebra.proofs.Blocks.{one_means}
use Rattle.algebra.proofs.block.calls.BlockChainAlgebra.one.Goals as goal

pub returns : goal.returns
returns c = rw c.full.ensures (one_means _ _)

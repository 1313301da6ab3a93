use Rattle.algebra.proofs.Blocks.{same_word}
use Rattle.algebra.proofs.block.calls.BlockChainAlgebra.same.Goals as goal

pub returns : goal.returns
returns c = rw (c.taken.ensures, c.taken-2.ensures) (same_word _ c.args.a c.args.b)

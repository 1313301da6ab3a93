use Rattle.std.proofs.Common.{ℕ, ◌-◌, ◌/◌, ◌^◌, ap, ◌∙◌, arith}
use Rattle.algebra.proofs.Listed.{lanes_most}
use Rattle.algebra.proofs.Blocks.{ones_cut}
use Rattle.algebra.proofs.block.Block.full.Goals as goal

pub overflow_sub-result : goal.overflow_sub-result
overflow_sub-result c = omega (arith, c.lanes.ensures, lanes_most c.args.self.now.inputs)

pub returns : goal.returns
returns c = ap (λ (l : ℕ). (2 ^ 64 - 1) / 2 ^ (64 - l)) c.lanes.ensures ∙ ones_cut _ (lanes_most c.args.self.now.inputs)

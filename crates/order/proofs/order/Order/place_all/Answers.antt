use Rattle.std.proofs.Common.{arith}
use Rattle.order.proofs.Arranging.{sizes_few}
use Rattle.order.proofs.order.Order.place_all.Goals as goal

pub loop-smaller : goal.loop-smaller
loop-smaller c =
    omega (arith, sizes_few _ _ c.place_round.new.placing.placed _ _ c.place_round.ensures.arranged, c.place_round.ensures.more c.loop-test.true)

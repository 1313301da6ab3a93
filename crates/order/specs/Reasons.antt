-- The reason for which a circuit is declined. Assumes nothing.
use Rattle.order.specs.declared.Obstacle.{Obstacle}
use Rattle.order.specs.declared.Obstacle.TheVariants as obstacles
use Rattle.text.specs.declared.fault.Reason.{Reason}
use Rattle.text.specs.declared.fault.Reason.TheVariants as reasons

-- the decline of a circuit whose components have no order, or are too large
abbrev pub reason_of : Obstacle → Reason
reason_of obstacles.WaitingRing = reasons.WaitingRing
reason_of obstacles.LargeComponent = reasons.LargeComponent

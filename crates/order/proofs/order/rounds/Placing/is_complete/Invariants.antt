use Rattle.std.proofs.Common.{ℕ, ◌<◌}
use Rattle.order.specs.Placing.{Unplaced}
use Rattle.order.proofs.order.rounds.Placing.is_complete.Given as goal

abbrev pub invariant-loop-label : goal.invariant-loop-label
invariant-loop-label l = (k : ℕ) → k < l.label → ¬ (Unplaced l.self.labels l.self.placed k)

use Rattle.std.proofs.Common.{ℕ, take, Decides}
use Rattle.order.specs.Placing.{marked, Blocked}
use Rattle.order.proofs.order.rounds.Placing.blocked.Given as goal

abbrev pub invariant-loop-device : goal.invariant-loop-device
invariant-loop-device l =
    (label : ℕ) → Decides (marked l.blocked label) (Blocked l.self.labels (take l.device-index l.device-items) l.self.placed label)

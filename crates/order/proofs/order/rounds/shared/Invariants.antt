use Rattle.std.proofs.Common.{◌≡◌, ◌<◌, ℕ, false, Some}
use Rattle.order.specs.Components.{label_of}
use Rattle.order.specs.Placing.{marked}
use Rattle.order.proofs.order.rounds.shared.Given as goal

abbrev pub invariant-loop-net : goal.invariant-loop-net
invariant-loop-net l = (x label : ℕ) → x < l.net → label_of l.labels x ≡ Some label → marked l.shared label ≡ false → x ≡ label

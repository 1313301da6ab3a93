use Rattle.std.proofs.Common.{◌≡◌, length}
use Rattle.order.specs.Placing.{nets_in, sizes_in}
use Rattle.order.proofs.Round.{Round}
use Rattle.order.proofs.order.Order.place_round.Given as goal

abbrev pub invariant-loop-label : goal.invariant-loop-label
invariant-loop-label l =
    let start = l.initial.placing in
    record {
      labels : l.placing.labels ≡ start.labels;
      devices : l.placing.devices.now ≡ start.devices.now;
      shared : l.placing.shared ≡ start.shared;
      round :
          Round start.labels start.devices.now l.blocked start.placed (length (sizes_in l.initial.self)) l.label l.placing.placed
          (nets_in l.self) (sizes_in l.self) l.any;
    }

use Rattle.std.proofs.Common.{◌≡◌, ◌-◌, length}
use Rattle.order.specs.Placing.{ArrangedIn, OthersAlone, sizes_in}
use Rattle.order.proofs.order.Order.place_all.Given as goal

abbrev pub invariant-loop : goal.invariant-loop
invariant-loop l =
    let start = l.initial.placing in
    record {
      labels : l.placing.labels ≡ start.labels;
      devices : l.placing.devices.now ≡ start.devices.now;
      shared : OthersAlone l.placing.labels l.placing.shared;
      arranged : ArrangedIn l.placing.labels l.placing.devices.now l.placing.placed l.self;
    }

abbrev pub decreases-loop : goal.decreases-loop
decreases-loop l = 128 - length (sizes_in l.self)

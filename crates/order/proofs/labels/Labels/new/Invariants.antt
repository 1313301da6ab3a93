use Rattle.std.proofs.Common.{take}
use Rattle.order.specs.Components.{EachDrawn, Labelled}
use Rattle.order.proofs.labels.Labels.new.Given as goal

abbrev pub invariant-loop-device : goal.invariant-loop-device
invariant-loop-device l = EachDrawn l.ins l.devices.devices.now (λ c. Labelled c (take l.device-index l.devices.devices.now) l.labels)

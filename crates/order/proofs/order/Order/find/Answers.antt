use Rattle.std.proofs.Common.{List, subst}
use Rattle.cell.specs.declared.Device.{Device}
use Rattle.cell.proofs.Devices.{list_numbered}
use Rattle.order.specs.Placing.{Complete, Ringed}
use Rattle.order.proofs.Outcomes.{found_ring, found_large, found_order}
use Rattle.order.proofs.order.Order.find.Goals as goal

pub returns-then-not-place_all : goal.returns-then-not-place_all
returns-then-not-place_all c name outs =
    found_ring _ (list_numbered c.args.devices) c.new.result.labels (c.new.ensures.labels name outs)
    (subst (λ (ds : List Device). Ringed c.new.result.labels ds) c.new.ensures.devices (c.place_all.ensures.not c.if-not-place_all.true))

pub returns-then-has_large : goal.returns-then-has_large
returns-then-has_large c name outs =
    found_large _ (list_numbered c.args.devices) c.new.result.labels (c.new.ensures.labels name outs) c.place_all.new.self
    (subst (λ (ds : List Device). Complete c.new.result.labels ds c.place_all.new.self) c.new.ensures.devices
    (c.place_all.ensures.yes c.if-not-place_all.false))
    (c.has_large.ensures.yes c.if-has_large.true)

pub returns : goal.returns
returns c name outs =
    found_order _ (list_numbered c.args.devices) c.new.result.labels (c.new.ensures.labels name outs) c.place_all.new.self
    (subst (λ (ds : List Device). Complete c.new.result.labels ds c.place_all.new.self) c.new.ensures.devices
    (c.place_all.ensures.yes c.if-not-place_all.false))
    (c.has_large.ensures.not c.if-has_large.false)

use Rattle.cell.proofs.Members.{in_get_or}
use Rattle.cell.proofs.Devices.{list_numbered}
use Rattle.order.proofs.Joining.{one_more, all_through}
use Rattle.order.proofs.labels.Labels.new.Goals as goal

pub loop-device-preserved : goal.loop-device-preserved
loop-device-preserved c name outs =
    one_more _ _ _ _ c.loop-device-test.true
    (c.join.ensures _ _ (list_numbered c.args.devices)
    (in_get_or c.args.devices.devices.now c.loop-device.device-index _ c.loop-device-test.true) (c.loop-device.invariant name outs))

pub returns : goal.returns
returns c name outs = all_through _ _ _ c.loop-device-test.false (c.loop-device.invariant name outs)

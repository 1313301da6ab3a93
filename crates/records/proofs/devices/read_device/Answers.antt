use Rattle.std.proofs.Common.{◌≡◌, Result, ◌∙◌, rules}
use Rattle.cell.specs.declared.DeviceKind.{DeviceKind}
use Rattle.text.specs.declared.fault.Fault.{Fault}
use Rattle.text.specs.declared.lines.Line.{Line}
use Rattle.text.specs.declared.lines.Fields.{Fields}
use Rattle.text.specs.Outcomes.{map_ok}
use Rattle.text.specs.Fields.{fields_left}
use Rattle.records.specs.declared.DeviceRecord.{DeviceRecord}
use Rattle.records.specs.Kinds.{device_takes}
use Rattle.records.specs.Records.{nets_counted}
use Rattle.records.specs.Shown.{device_shown}
use Rattle.records.proofs.Counted.{three, three_counted}
use Rattle.records.proofs.devices.read_device.Goals as goal

counted : (l : Line) (k : DeviceKind) (fs : Fields) (r : Result DeviceRecord Fault) → map_ok device_shown r ≡ three l.number l.start k (fields_left fs)
    → map_ok device_shown r ≡ map_ok (λ xs. (k, xs)) (nets_counted (device_takes k) l.number l.start (fields_left fs))
counted l k fs r h = h ∙ three_counted l.number l.start k (fields_left fs)

pub returns-in_err-gate : goal.returns-in_err-gate
returns-in_err-gate c = counted c.args.line.now c.args.kind c.args.fields _ (search rules)

pub returns-in_err-left : goal.returns-in_err-left
returns-in_err-left c = counted c.args.line.now c.args.kind c.args.fields _ (search rules)

pub returns-in_err-right : goal.returns-in_err-right
returns-in_err-right c = counted c.args.line.now c.args.kind c.args.fields _ (search rules)

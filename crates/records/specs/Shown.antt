-- What a record that borrows its fields says. Assumes nothing.
use Rattle.std.specs.Prelude.{ℕ, List, [], ◌∷◌, map, take}
use Rattle.text.specs.declared.lines.Field.{Field}
use Rattle.cell.specs.declared.DeviceKind.{DeviceKind}
use Rattle.cell.specs.declared.GateKind.{GateKind}
use Rattle.records.specs.Formats.{NetAt}
use Rattle.records.specs.declared.Net.{Net}
use Rattle.records.specs.declared.Nets.{Nets}
use Rattle.records.specs.declared.DeviceRecord.{DeviceRecord}
use Rattle.records.specs.declared.GateRecord.{GateRecord}

abbrev pub field_bytes : Field → List ℕ
field_bytes f = f.bytes.now

abbrev pub net_shown : Net → NetAt
net_shown x = record { place = x.field.place; value = x.value }

abbrev pub nets_listed : Nets → List Net
nets_listed xs = take xs.count xs.at

abbrev pub nets_shown : List Net → List NetAt
nets_shown xs = map net_shown xs

abbrev pub device_shown : DeviceRecord → DeviceKind × List NetAt
device_shown d = (d.kind, net_shown d.gate ∷ net_shown d.left ∷ net_shown d.right ∷ [])

abbrev pub gate_shown : GateRecord → GateKind × List NetAt
gate_shown g = (g.kind, nets_shown (nets_listed g.nets))

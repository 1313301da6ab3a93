use Rattle.text.specs.Fields.{fields_left}
use Rattle.records.specs.Shown.{device_shown}
use Rattle.records.proofs.Counted.{shown_proper}
use Rattle.files.specs.Files.{drawn_format}
use Rattle.circuits.proofs.devices.body.DevicesBody.read.Goals as goal

pub returns-clause-proper : goal.returns-clause-proper
returns-clause-proper c = shown_proper drawn_format device_shown c.args.kind c.args.line.now.number c.args.line.now.start (fields_left c.args.fields) c.read_device.result c.read_device.ensures

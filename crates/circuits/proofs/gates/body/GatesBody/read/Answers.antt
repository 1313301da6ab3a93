use Rattle.text.specs.Fields.{fields_left}
use Rattle.records.specs.Shown.{gate_shown}
use Rattle.records.proofs.Counted.{shown_proper}
use Rattle.files.specs.Files.{intended_format}
use Rattle.circuits.proofs.gates.body.GatesBody.read.Goals as goal

pub returns-clause-proper : goal.returns-clause-proper
returns-clause-proper c = shown_proper intended_format gate_shown c.args.kind c.args.line.now.number c.args.line.now.start (fields_left c.args.fields) c.read_gate.result c.read_gate.ensures

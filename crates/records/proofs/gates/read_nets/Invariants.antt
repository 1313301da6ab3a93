use Rattle.std.proofs.Common.{◌≡◌, ◌+◌, ◌≤◌, ◌++◌, length}
use Rattle.text.specs.Outcomes.{map_ok}
use Rattle.text.specs.Fields.{fields_left}
use Rattle.records.specs.Records.{nets_at}
use Rattle.records.specs.Shown.{nets_listed, nets_shown}
use Rattle.records.proofs.gates.read_nets.Given as goal

abbrev pub invariant-loop-field : goal.invariant-loop-field
invariant-loop-field l =
    (map_ok (λ xs. nets_shown (nets_listed l.nets) ++ xs) (nets_at l.line.number (fields_left l.field-iterator)) ≡ nets_at l.line.number (fields_left l.fn.fields))
    × (l.nets.count + length (fields_left l.field-iterator) ≤ 9)

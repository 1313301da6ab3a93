-- The fields that are left of a line. Assumes nothing.
use Rattle.std.specs.Prelude.{ℕ, List, [], Some, None, Option}
use Rattle.std.specs.Borrow.{Bor}
use Rattle.text.specs.declared.lines.Fields.{Fields}
use Rattle.text.specs.Lines.{Part, fields_of}

abbrev pub parts_from : Option (Bor (List ℕ)) → ℕ → List Part
parts_from None p = []
parts_from (Some r) p = fields_of p r.now

abbrev pub fields_left : Fields → List Part
fields_left f = parts_from f.rest f.place

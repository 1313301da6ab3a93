-- The record that a line is. Assumes nothing.
use Rattle.std.specs.Prelude.{◌≤◌, List, length}
use Rattle.records.specs.Formats.{Format, NetAt}
use Rattle.records.specs.declared.Record.{Record}
use Rattle.records.specs.declared.Record.TheVariants as records
use Rattle.records.specs.Records.{Entry, cell, input, output, item, finish, Proper}
use Rattle.records.specs.Shown.{field_bytes, net_shown}

abbrev pub item_entry : {K : Type 0} → K × List NetAt → Entry K
item_entry x = item x.0 x.1

abbrev pub plain : {R K : Type 0} → (R → K × List NetAt) → Record R → Entry K
plain shown (records.Cell f) = cell (field_bytes f)
plain shown (records.In x) = input (net_shown x)
plain shown (records.Out x) = output (net_shown x)
plain shown (records.Item r) = item_entry (shown r)
plain shown records.End = finish

-- a name that fits, and a body record as it is read
abbrev pub Fits : {K I : Type 0} → Format K I → Entry K → Type 0
Fits f (cell bs) = length bs ≤ 16
Fits f (input x) = Unit {0}
Fits f (output x) = Unit {0}
Fits f (item k xs) = Proper f (k, xs)
Fits f finish = Unit {0}

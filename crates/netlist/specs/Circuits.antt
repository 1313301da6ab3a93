-- The circuit that a netlist holds, and its ports with one more. Assumes nothing.
use Rattle.std.specs.Prelude.{ℕ, ◌||◌, List, [], ◌∷◌, ◌++◌, length, Ok, Result, nat_le}
use Rattle.cell.specs.Circuits.{Circuit}
use Rattle.text.specs.declared.fault.Fault.{Fault}
use Rattle.text.specs.declared.fault.Reason.TheVariants.{TooManyRecords, NetNotAllowed}
use Rattle.text.specs.Faults.{fault}
use Rattle.text.specs.Outcomes.{decline_if}
use Rattle.records.specs.Formats.{NetAt}
use Rattle.files.specs.Reading.{member, rail}
use Rattle.netlist.specs.declared.netlist.Netlist.{Netlist}

abbrev pub circuit_of : {B I : Type 0} → (B → List I) → Netlist B → Circuit I
circuit_of items c = record { name = c.name.items; ins = c.ins.items; outs = c.outs.items; body = items c.body }

-- at most 16 ports of a kind; one more is no rail, none of the others and no earlier one
abbrev pub port_added : List ℕ → List ℕ → ℕ → ℕ → NetAt → Result (List ℕ) Fault
port_added others ports n p x =
    decline_if (nat_le 16 (length ports)) (fault TooManyRecords n p)
    (decline_if (rail x.value || member x.value others || member x.value ports) (fault NetNotAllowed n x.place)
    (Ok (ports ++ x.value ∷ [])))

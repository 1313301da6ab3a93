-- The end of a circuit's records. Assumes nothing.
use Rattle.std.specs.Prelude.{◌≡◌, ℕ, Some, None, Ok, Err, Option, Result}
use Rattle.cell.specs.Circuits.{Circuit}
use Rattle.text.specs.declared.fault.Fault.{Fault}
use Rattle.text.specs.declared.fault.Reason.{Reason}
use Rattle.text.specs.Faults.{fault}
use Rattle.records.specs.Formats.{Format}

-- the answer to END at line n and place p, from the reason that was found
abbrev pub answered : Option Reason → ℕ → ℕ → Result Unit Fault
answered None n p = Ok tt
answered (Some reason) n p = Err (fault reason n p)

abbrev pub Closes : {K I : Type 0} → Format K I → Circuit I → ℕ → ℕ → Result Unit Fault → Type 0
Closes f c n p r = (found : Option Reason) × f.AtEnd c found × (r ≡ answered found n p)

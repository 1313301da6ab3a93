-- What is held of a circuit, and what a reading makes of it. Assumes nothing.
use Rattle.std.specs.Prelude.{◌≡◌, ℕ, cond, List, length, Some, None, Ok, Err, Option, Result}
use Rattle.cell.specs.Circuits.{Circuit}
use Rattle.text.specs.declared.fault.Fault.{Fault}
use Rattle.records.specs.Formats.{Format}
use Rattle.files.specs.Reading.{Reads}
use Rattle.files.specs.Written.{written}
use Rattle.files.specs.Lawful.{Lawful}
use Rattle.netlist.specs.Circuits.{circuit_of}
use Rattle.station.specs.declared.slot.Slot.{Slot}

abbrev pub nothing : {I : Type 0} → Option (Circuit I)
nothing = None

abbrev pub holds : {B I : Type 0} → (B → List I) → Slot B → Option (Circuit I)
holds items s = cond s.held (Some (circuit_of items s.current)) None

-- a reading that is done holds the circuit of the text and answers the number of its IN; one that is declined leaves what was held
abbrev pub ReadsInto : {K I : Type 0} → Format K I → List ℕ → Option (Circuit I) → Result ℕ Fault → Option (Circuit I) → Type 0
ReadsInto {I = I} f text before (Ok n) after = (c : Circuit I) × Reads f text (Ok c) × (after ≡ Some c) × (n ≡ length c.ins)
ReadsInto f text before (Err e) after = Reads f text (Err e) × (after ≡ before)

-- a reading is done exactly where the text is the one that is written of a lawful circuit, and then that circuit is held
abbrev pub DoneExactly : {K I : Type 0} → Format K I → List ℕ → Result ℕ Fault → Option (Circuit I) → Type 0
DoneExactly {I = I} f text (Ok n) after = (c : Circuit I) × Lawful f c × (text ≡ written f c) × (after ≡ Some c)
DoneExactly {I = I} f text (Err e) after = (c : Circuit I) → Lawful f c → ¬ (text ≡ written f c)

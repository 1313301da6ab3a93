-- What holds of an answer that is done, or declined, and of what is held then. Assumes nothing.
use Rattle.std.proofs.Common.{◌≡◌, ℕ, List, IfOk, IfErr, Some, Ok, Err, Option, Result}
use Rattle.cell.specs.Circuits.{Circuit}
use Rattle.text.specs.declared.fault.Fault.{Fault}
use Rattle.text.proofs.Steps.{err_ok, if_some, same_some}
use Rattle.records.specs.Formats.{Format}
use Rattle.files.specs.Lawful.{ReadExactly, ReadOneWay}
use Rattle.netlist.specs.Circuits.{circuit_of}
use Rattle.station.specs.declared.slot.Slot.{Slot}
use Rattle.station.specs.Slots.{holds, ReadsInto, DoneExactly}

pub made_so : {X E : Type 0} (r : Result X E) (P Q : Type 0) → (P → Q) → IfOk r (λ _. P) → IfOk r (λ _. Q)
made_so (Ok x) P Q f h = f h
made_so (Err e) P Q f h = tt

pub refused_so : {X E : Type 0} (r : Result X E) (P Q : Type 0) → (P → Q) → IfErr r (λ _. P) → IfErr r (λ _. Q)
refused_so (Ok x) P Q f h = tt
refused_so (Err e) P Q f h = f h

-- the circuit that is held is the current one
pub current : {B I : Type 0} (items : B → List I) (s : Slot B) (c : Circuit I) → holds items s ≡ Some c → circuit_of items s.current ≡ c
current items s c e = same_some (circuit_of items s.current) c (if_some s.held (Some (circuit_of items s.current)) c e).1

-- the law of reading, of one call
pub done_exactly : {K I : Type 0} (f : Format K I) (text : List ℕ) (before : Option (Circuit I)) (r : Result ℕ Fault) (after : Option (Circuit I))
    → ReadExactly f text → ReadOneWay f text → ReadsInto f text before r after → DoneExactly f text r after
done_exactly f text before (Ok n) after exactly one h = let law = (exactly h.0).0 h.1 in (h.0, law.0, law.1, h.2)
done_exactly f text before (Err e) after exactly one h = λ c lawful is. err_ok e c (one (Err e) (Ok c) h.0 ((exactly c).1 (lawful, is)))

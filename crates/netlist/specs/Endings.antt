-- A reading up to END, and past it. Assumes nothing.
use Rattle.std.specs.Prelude.{◌≡◌, ℕ, ◌+◌, List, None, Ok, Err, Option, Result}
use Rattle.cell.specs.Circuits.{Circuit}
use Rattle.text.specs.declared.fault.Fault.{Fault}
use Rattle.text.specs.declared.fault.Reason.{Reason}
use Rattle.text.specs.declared.lines.Lines.{Lines}
use Rattle.text.specs.Lines.{lines_from}
use Rattle.records.specs.Formats.{Format}
use Rattle.files.specs.Reading.{Ended, lines_read}
use Rattle.reader.specs.declared.Reader.{Reader}
use Rattle.reader.specs.Gathered.{answered}

-- what is left to read, by lines
abbrev pub lines_left : Lines → List (List ℕ)
lines_left l = lines_from l.text.now l.pos

-- the reading goes on from a reader's place, with the circuit so far, up to END
abbrev pub goes_on : {K I : Type 0} → Format K I → Reader → Circuit I → Result (Ended I) Fault
goes_on f r c = lines_read f r.stage c r.lines.line r.lines.pos (lines_left r.lines)

-- the lines after END are what the reader has left
pub record Past {I : Type 0} (e : Ended I) (c : Circuit I) (l : Lines) : Type 0 where
  pub circuit : c ≡ e.circuit
  pub line : l.line ≡ e.line + 1
  pub next : l.pos ≡ e.next
  pub rest : lines_left l ≡ e.rest

-- what a reading up to END answers, with the circuit c and the lines l that it leaves
abbrev pub UpTo : {K I : Type 0} → Format K I → Result (Ended I) Fault → Result Unit Fault → Circuit I → Lines → Type 0
UpTo f (Err e) r c l = r ≡ Err e
UpTo f (Ok e) r c l = (found : Option Reason) × f.AtEnd e.circuit found × (r ≡ answered found e.line e.place) × (found ≡ None → Past e c l)

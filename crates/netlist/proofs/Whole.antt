-- A reading up to END and past it is a whole reading. Assumes nothing.
use Rattle.std.proofs.Common.{◌≡◌, Some, None, Ok, Err, Option, Result, sym, refl, ◌∙◌}
use Rattle.cell.specs.Circuits.{Circuit}
use Rattle.text.specs.declared.fault.Fault.{Fault}
use Rattle.text.specs.declared.fault.Reason.{Reason}
use Rattle.text.specs.declared.lines.Lines.{Lines}
use Rattle.text.specs.Outcomes.{map_ok, ok_with}
use Rattle.text.proofs.Steps.{err_ok}
use Rattle.records.specs.Formats.{Format}
use Rattle.files.specs.Reading.{Ended, nothing_after, FromEnd}
use Rattle.reader.specs.Gathered.{answered}
use Rattle.netlist.specs.Endings.{lines_left, Past, UpTo}

with_map : {X Y E : Type 0} (r : Result X E) (y : Y) → ok_with r y ≡ map_ok (λ _. y) r
with_map (Ok x) y = refl
with_map (Err e) y = refl

module _ {K I : Type 0} (f : Format K I) where
  abbrev Rest : Lines → Result Unit Fault
  Rest l = nothing_after f l.line l.pos (lines_left l)

  past_end : (e : Ended I) (found : Option Reason) (r : Result Unit Fault) (c : Circuit I) (l : Lines) → f.AtEnd e.circuit found
      → Ok tt ≡ answered found e.line e.place → (found ≡ None → Past e c l) → r ≡ Rest l → FromEnd f (Ok e) (ok_with r c)
  past_end e (Some w) r c l at is past h = err_ok _ _ (sym is)
  past_end e None r c l at is past h =
      let p = past refl in
      (None, at, with_map r c ∙ (λ i. map_ok (λ _. p.circuit i) (h i)) ∙ (λ i. map_ok (λ _. e.circuit) (nothing_after f (p.line i) (p.next i) (p.rest i))))

  pub whole : (q : Result (Ended I) Fault) (r : Result Unit Fault) (c : Circuit I) (l : Lines) → UpTo f q (Ok tt) c l → r ≡ Rest l → FromEnd f q (ok_with r c)
  whole (Err e) r c l u h = err_ok _ _ (sym u)
  whole (Ok e) r c l u h = past_end e u.0 r c l u.1 u.2 u.3 h

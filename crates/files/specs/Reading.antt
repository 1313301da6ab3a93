-- What a text of either file gives: a circuit, or the first decline. Assumes nothing.
use Rattle.std.specs.Prelude.{◌≡◌, ℕ, ◌+◌, Bool, cond, ◌||◌, List, [], ◌∷◌, ◌++◌, length, Some, None, Ok, Err, Option, Result, ◌==◌, nat_le, nat_lt}
use Rattle.std.specs.List.{list_any}
use Rattle.cell.specs.Circuits.{Circuit}
use Rattle.text.specs.declared.fault.Fault.{Fault}
use Rattle.text.specs.declared.fault.Reason.{Reason}
use Rattle.text.specs.declared.fault.Reason.TheVariants.{TextTooLong, MalformedLine, OutOfTurn, TooManyRecords, NetNotAllowed}
use Rattle.text.specs.Faults.{fault}
use Rattle.text.specs.Outcomes.{decline_if, and_then, map_ok}
use Rattle.text.specs.Lines.{formed, is_nil, lines_from, fields_of}
use Rattle.records.specs.Formats.{Format, NetAt}
use Rattle.records.specs.declared.Stage.{Stage}
use Rattle.records.specs.declared.Stage.TheVariants.{Opening, Inputs, Outputs, Body, Closed}
use Rattle.records.specs.Records.{Entry, cell, input, output, item, finish, values, leading_word, record_of}

abbrev pub blank : {I : Type 0} → Circuit I
blank = record { name = []; ins = []; outs = []; body = [] }

abbrev pub member : ℕ → List ℕ → Bool
member x ys = list_any (λ y. y == x) ys

-- net 0 is ground and net 1 is supply
abbrev pub rail : ℕ → Bool
rail x = nat_lt x 2

-- Each rule takes the circuit so far and the record of line n, which starts at place p.

-- at most 16 IN; an IN is no rail and no earlier IN
abbrev pub added_in : {I : Type 0} → Circuit I → ℕ → ℕ → NetAt → Result (Circuit I) Fault
added_in c n p x =
    decline_if (nat_le 16 (length c.ins)) (fault TooManyRecords n p)
    (decline_if (rail x.value || member x.value c.ins) (fault NetNotAllowed n x.place)
    (Ok (record { name = c.name; ins = c.ins ++ x.value ∷ []; outs = c.outs; body = c.body })))

-- at most 16 OUT; an OUT is no rail, no IN and no earlier OUT
abbrev pub added_out : {I : Type 0} → Circuit I → ℕ → ℕ → NetAt → Result (Circuit I) Fault
added_out c n p x =
    decline_if (nat_le 16 (length c.outs)) (fault TooManyRecords n p)
    (decline_if (rail x.value || member x.value c.ins || member x.value c.outs) (fault NetNotAllowed n x.place)
    (Ok (record { name = c.name; ins = c.ins; outs = c.outs ++ x.value ∷ []; body = c.body })))

-- a body with one record more, where no net of it is barred
abbrev pub pushed : {K I : Type 0} → Format K I → List I → ℕ → K → List NetAt → Option ℕ → Result (List I) Fault
pushed f items n k xs None = Ok (items ++ f.item k (values xs) ∷ [])
pushed f items n k xs (Some place) = Err (fault NetNotAllowed n place)

abbrev pub added_item : {K I : Type 0} → Format K I → List ℕ → List I → ℕ → ℕ → K → List NetAt → Result (List I) Fault
added_item f ins items n p k xs =
    decline_if (nat_le f.most (length items)) (fault TooManyRecords n p)
    (pushed f items n k xs (f.barred ins items xs))

abbrev pub added : {K I : Type 0} → Format K I → Circuit I → ℕ → ℕ → Entry K → Result (Circuit I) Fault
added f c n p (cell bs) = Ok (record { name = bs; ins = c.ins; outs = c.outs; body = c.body })
added f c n p (input x) = added_in c n p x
added f c n p (output x) = added_out c n p x
added f c n p (item k xs) = map_ok (λ items. record { name = c.name; ins = c.ins; outs = c.outs; body = items }) (added_item f c.ins c.body n p k xs)
added f c n p finish = Ok c

-- one line: its form, its record and what that adds; and what was read last
abbrev pub line_read : {K I : Type 0} → Format K I → Stage → Circuit I → ℕ → ℕ → List ℕ → Result (Stage × Circuit I) Fault
line_read f s c n p l =
    cond (formed l)
    (and_then (record_of f s n p (fields_of p l)) (λ r. map_ok (λ d. (r.0, d)) (added f c n p r.1)))
    (Err (fault MalformedLine n p))

-- the text up to its END record: the circuit, where END stands, and the place and the lines after it
pub record Ended (I : Type 0) : Type 0 where
  pub circuit : Circuit I
  pub line : ℕ
  pub place : ℕ
  pub next : ℕ
  pub rest : List (List ℕ)

-- the text ends before END: on the line after the last, or on a line without its line feed
abbrev pub cut_short : ℕ → ℕ → List ℕ → Fault
cut_short n p l = cond (is_nil l) (fault OutOfTurn n p) (fault MalformedLine n p)

-- END closes the file
abbrev pub if_closed : {X : Type 0} → Stage → X → X → X
if_closed Opening x y = y
if_closed Inputs x y = y
if_closed Outputs x y = y
if_closed Body x y = y
if_closed Closed x y = x

-- the lines from line n at place p on, up to END; the last part has no line feed
abbrev pub lines_read : {K I : Type 0} → Format K I → Stage → Circuit I → ℕ → ℕ → List (List ℕ) → Result (Ended I) Fault
lines_read f s c n p [] = Err (cut_short n p [])
lines_read f s c n p (l ∷ []) = Err (cut_short n p l)
lines_read f s c n p (l ∷ m ∷ ls) = and_then (line_read f s c n p l) (λ r. if_closed r.0
    (Ok (record { circuit = r.1; line = n; place = p; next = p + length l + 1; rest = m ∷ ls }))
    (lines_read f r.0 r.1 (n + 1) (p + length l + 1) (m ∷ ls)))

abbrev pub up_to_end : {K I : Type 0} → Format K I → List ℕ → Result (Ended I) Fault
up_to_end f text =
    cond (nat_le (length text) 32768)
    (lines_read f Opening blank 1 0 (lines_from text 0))
    (Err (fault TextTooLong 0 0))

-- nothing follows END: a further line is declined for its form, its word or its turn
abbrev pub line_after : {K I : Type 0} → Format K I → ℕ → ℕ → List ℕ → Fault
line_after f n p l = cond (formed l) (elim (leading_word f n p (fields_of p l)) [ Ok w ↦ fault OutOfTurn n p | Err e ↦ e ]) (fault MalformedLine n p)

abbrev pub nothing_after : {K I : Type 0} → Format K I → ℕ → ℕ → List (List ℕ) → Result Unit Fault
nothing_after f n p [] = Ok tt
nothing_after f n p (l ∷ []) = cond (is_nil l) (Ok tt) (Err (fault MalformedLine n p))
nothing_after f n p (l ∷ m ∷ ls) = Err (line_after f n p l)

-- at END: the reason that was found there, or else what comes after
abbrev pub closed : {K I : Type 0} → Format K I → Ended I → Option Reason → Result (Circuit I) Fault
closed f e (Some reason) = Err (fault reason e.line e.place)
closed f e None = map_ok (λ _. e.circuit) (nothing_after f (e.line + 1) e.next e.rest)

abbrev pub FromEnd : {K I : Type 0} → Format K I → Result (Ended I) Fault → Result (Circuit I) Fault → Type 0
FromEnd f (Err e) r = r ≡ Err e
FromEnd f (Ok e) r = (found : Option Reason) × f.AtEnd e.circuit found × (r ≡ closed f e found)

-- WHAT A READING GIVES: the first decline before END, else the reason found at END, else a decline of what follows END, else the circuit
abbrev pub Reads : {K I : Type 0} → Format K I → List ℕ → Result (Circuit I) Fault → Type 0
Reads f text r = FromEnd f (up_to_end f text) r

-- One line of a reading, by what each layer said of it. Assumes nothing.
use Rattle.std.proofs.Common.{◌≡◌, ℕ, ◌+◌, true, false, List, ◌∷◌, length, drop, Some, Ok, Err, Option, Result, sym, refl, ap, ◌∙◌, subst}
use Rattle.std.proofs.lemmas.Bool.{cond-true}
use Rattle.cell.specs.Circuits.{Circuit}
use Rattle.text.specs.declared.fault.Fault.{Fault}
use Rattle.text.specs.declared.fault.Reason.TheVariants.{MalformedLine, OutOfTurn}
use Rattle.text.specs.Faults.{fault}
use Rattle.text.specs.Outcomes.{and_then, map_ok}
use Rattle.text.specs.Lines.{Part, formed, lines_from, fields_of, LineAt, NextLine}
use Rattle.text.specs.declared.lines.Line.{Line}
use Rattle.text.proofs.Splits.{split_cons}
use Rattle.text.proofs.Steps.{off_on}
use Rattle.records.specs.declared.Stage.{Stage}
use Rattle.records.specs.declared.Stage.TheVariants.{Opening, Inputs, Outputs, Body, Closed}
use Rattle.records.specs.declared.Word.{Word}
use Rattle.records.specs.Formats.{Format}
use Rattle.records.specs.Records.{Entry, leading_word, record_of}
use Rattle.files.specs.Reading.{Ended, if_closed, added, line_read, lines_read, line_after, nothing_after}

-- the line that a step took
pub taken : (text : List ℕ) (p n : ℕ) (o : Option Line) (l : Line) (q m : ℕ) → o ≡ Some l → NextLine text p n (Ok o) q m → LineAt text p n l q × (m ≡ n + 1)
taken text p n o l q m e h = subst (λ x. NextLine text p n (Ok x) q m) e h

if_closed_lem : {X : Type 0} (s : Stage) (x y : X) → true ≡ if_closed s true false → if_closed s x y ≡ x
if_closed_lem Opening x y h = off_on (sym h)
if_closed_lem Inputs x y h = off_on (sym h)
if_closed_lem Outputs x y h = off_on (sym h)
if_closed_lem Body x y h = off_on (sym h)
if_closed_lem Closed x y h = refl

if_open : {X : Type 0} (s : Stage) (x y : X) → false ≡ if_closed s true false → if_closed s x y ≡ y
if_open Opening x y h = refl
if_open Inputs x y h = refl
if_open Outputs x y h = refl
if_open Body x y h = refl
if_open Closed x y h = off_on h

module _ {K I : Type 0} (f : Format K I) (text : List ℕ) (p n : ℕ) (line : Line) (q : ℕ) (k : LineAt text p n line q) where
  abbrev l : List ℕ
  l = line.bytes.now

  abbrev fields : List Part
  fields = fields_of line.start l

  module _ (s : Stage) (c : Circuit I) where
    -- the text past this line, after END or not
    abbrev after : ℕ → List (List ℕ) → Stage × Circuit I → Result (Ended I) Fault
    after o ls r = if_closed r.0 (Ok (record { circuit = r.1; line = n; place = p; next = o; rest = ls })) (lines_read f r.0 r.1 (n + 1) o ls)

    abbrev goes_on : Stage × Circuit I → Result (Ended I) Fault
    goes_on = after q (lines_from text q)

    abbrev taking : Stage × Entry K → Result (Stage × Circuit I) Fault
    taking r = map_ok (λ d. (r.0, d)) (added f c n p r.1)

    by_record : lines_read f s c n p (lines_from text p) ≡ and_then (and_then (record_of f s line.number line.start fields) taking) goes_on
    by_record =
        ap (lines_read f s c n p) k.lines
        ∙ split_cons (λ ls. lines_read f s c n p (l ∷ ls) ≡ and_then (line_read f s c n p l) (after (p + length l + 1) ls)) (λ m ms. refl) 10 (drop q text)
        ∙ ap (λ o. and_then (line_read f s c n p l) (after o (lines_from text q))) (sym k.next)
        ∙ ap (λ r. and_then r goes_on) (cond-true (formed l) (and_then (record_of f s n p (fields_of p l)) taking) (Err (fault MalformedLine n p)) k.good)
        ∙ (λ i. and_then (and_then (record_of f s (sym k.number i) (sym k.start i) (fields_of (sym k.start i) l)) taking) goes_on)

    pub record_declined : (e : Fault) → Err e ≡ record_of f s line.number line.start fields → lines_read f s c n p (lines_from text p) ≡ Err e
    record_declined e h = by_record ∙ ap (λ r. and_then (and_then r taking) goes_on) (sym h)

    module _ (t : Stage) (e : Entry K) (is : Ok (t, e) ≡ record_of f s line.number line.start fields) where
      by_added : lines_read f s c n p (lines_from text p) ≡ and_then (map_ok (λ d. (t, d)) (added f c line.number line.start e)) goes_on
      by_added = by_record ∙ ap (λ r. and_then (and_then r taking) goes_on) (sym is) ∙ (λ i. and_then (map_ok (λ d. (t, d)) (added f c (sym k.number i) (sym k.start i) e)) goes_on)

      pub add_declined : (x : Fault) → Err x ≡ added f c line.number line.start e → lines_read f s c n p (lines_from text p) ≡ Err x
      add_declined x g = by_added ∙ ap (λ r. and_then (map_ok (λ d. (t, d)) r) goes_on) (sym g)

      module _ (d : Circuit I) (g : Ok d ≡ added f c line.number line.start e) where
        pub line_done : false ≡ if_closed t true false → lines_read f s c n p (lines_from text p) ≡ lines_read f t d (n + 1) q (lines_from text q)
        line_done o = by_added ∙ ap (λ r. and_then (map_ok (λ d. (t, d)) r) goes_on) (sym g) ∙ if_open t _ _ o

        pub end_done : true ≡ if_closed t true false → lines_read f s c n p (lines_from text p) ≡ Ok (record { circuit = d; line = n; place = p; next = q; rest = lines_from text q })
        end_done o = by_added ∙ ap (λ r. and_then (map_ok (λ d. (t, d)) r) goes_on) (sym g) ∙ if_closed_lem t _ _ o

  -- a line after END
  abbrev turned_down : ℕ → ℕ → Result (Word K) Fault → Fault
  turned_down m o r = elim r [ Ok w ↦ fault OutOfTurn m o | Err e ↦ e ]

  line_follows : nothing_after f n p (lines_from text p) ≡ Err (turned_down line.number line.start (leading_word f line.number line.start fields))
  line_follows =
      ap (nothing_after f n p) k.lines
      ∙ split_cons (λ ls. nothing_after f n p (l ∷ ls) ≡ Err (line_after f n p l)) (λ m ms. refl) 10 (drop q text)
      ∙ ap Err (cond-true (formed l) (turned_down n p (leading_word f n p (fields_of p l))) (fault MalformedLine n p) k.good)
      ∙ (λ i. Err (turned_down (sym k.number i) (sym k.start i) (leading_word f (sym k.number i) (sym k.start i) (fields_of (sym k.start i) l))))

  pub word_unknown : (e : Fault) → Err e ≡ leading_word f line.number line.start fields → nothing_after f n p (lines_from text p) ≡ Err e
  word_unknown e h = line_follows ∙ ap (λ r. Err (turned_down line.number line.start r)) (sym h)

  pub word_late : (w : Word K) → Ok w ≡ leading_word f line.number line.start fields → nothing_after f n p (lines_from text p) ≡ Err (fault OutOfTurn line.number line.start)
  word_late w h = line_follows ∙ ap (λ r. Err (turned_down line.number line.start r)) (sym h)

-- The law of reading, of every format with the facts. Assumes nothing.
use Rattle.std.proofs.Common.{◌≡◌, ℕ, ◌+◌, true, leb, List, [], ◌∷◌, ◌++◌, length, Some, None, Ok, Err, Option, Result, sym, refl, ap, ◌∙◌, subst, append-nil}
use Rattle.std.specs.List.{join_with_byte}
use Rattle.cell.specs.Circuits.{Circuit}
use Rattle.text.specs.declared.fault.Fault.{Fault}
use Rattle.text.specs.declared.fault.Reason.{Reason}
use Rattle.text.specs.declared.fault.Reason.TheVariants.{TextTooLong, MalformedLine}
use Rattle.text.specs.Faults.{fault}
use Rattle.text.specs.Split.{split}
use Rattle.text.specs.Lines.{is_nil, lines_from}
use Rattle.text.proofs.Steps.{err_ok, off_on, map_ok_lem, yes_ok}
use Rattle.text.proofs.Rows.{join_split}
use Rattle.records.specs.declared.Stage.TheVariants.{Opening}
use Rattle.records.specs.Formats.{Format}
use Rattle.files.specs.Reading.{blank, Ended, lines_read, up_to_end, nothing_after, closed, FromEnd, Reads}
use Rattle.files.specs.Written.{written}
use Rattle.files.specs.Lawful.{Lawful, ReadExactly, ReadOneWay}
use Rattle.files.proofs.Facts.{FormatFacts}
use Rattle.files.proofs.Sound.{lines_done}
use Rattle.files.proofs.Readable.{readable}

module _ {K I : Type 0} (f : Format K I) where
  nothing_after_lem : (n p : ℕ) (ls : List (List ℕ)) → nothing_after f n p ls ≡ Ok tt → join_with_byte 10 ls ≡ []
  nothing_after_lem n p [] h = refl
  nothing_after_lem n p (l ∷ []) h = nil_is l (yes_ok (is_nil l) (Ok tt) (fault MalformedLine n p) tt h).0
    where
      nil_is : (l : List ℕ) → is_nil l ≡ true → l ≡ []
      nil_is [] h = refl
      nil_is (b ∷ l) h = off_on h
  nothing_after_lem n p (l ∷ m ∷ ls) h = err_ok _ _ h

  -- a reading that gives a circuit came to END, found nothing there and nothing after it
  record Closing (c : Circuit I) (r : Result (Ended I) Fault) : Type 0 where
    ended : Ended I
    is : r ≡ Ok ended
    sound : f.AtEnd ended.circuit None
    circuit : ended.circuit ≡ c
    last : join_with_byte 10 ended.rest ≡ []

  closed_ok : (e : Ended I) (c : Circuit I) (found : Option Reason) → f.AtEnd e.circuit found → closed f e found ≡ Ok c → Closing c (Ok e)
  closed_ok e c (Some reason) a h = err_ok _ _ h
  closed_ok e c None a h =
      let m = map_ok_lem (λ _. e.circuit) (nothing_after f (e.line + 1) e.next e.rest) c h in
      record { ended = e; is = refl; sound = a; circuit = m.2; last = nothing_after_lem (e.line + 1) e.next e.rest m.1 }

  closing : (r : Result (Ended I) Fault) (c : Circuit I) → FromEnd f r (Ok c) → Closing c r
  closing (Err e) c h = err_ok _ _ (sym h)
  closing (Ok e) c h = closed_ok e c h.0 h.1 (sym h.2)

  module _ (facts : FormatFacts f) where
    read_lawful : (text : List ℕ) (c : Circuit I) → Reads f text (Ok c) → Lawful f c × (text ≡ written f c)
    read_lawful text c h =
        let k = closing (up_to_end f text) c h in
        let e = k.ended in
        let y = yes_ok (leb (length text) 32768) (lines_read f Opening blank 1 0 (lines_from text 0)) (fault TextTooLong 0 0) e k.is in
        let d = lines_done f facts (split 10 text) Opening blank 1 0 [] e y.1 (refl, refl) in
        let r = d.1.rules in
        let P : Circuit I → Type 0 = λ c. Lawful f c × (text ≡ written f c) in
        subst P k.circuit (
          record { name = r.name; ins = r.ins; few_ins = r.few_ins; outs = r.outs; some_outs = d.1.some_outs; few_outs = r.few_outs; body = r.body; few_items = r.few_items; end = k.sound },
          sym (join_split 10 text) ∙ d.2 ∙ ap (λ l. d.0 ++ l) k.last ∙ append-nil d.0 ∙ d.1.text,
        )

    lawful_read : (text : List ℕ) (c : Circuit I) → Lawful f c × (text ≡ written f c) → Reads f text (Ok c)
    lawful_read text c h = subst (λ r. FromEnd f r (Ok c)) (sym (ap (up_to_end f) h.1 ∙ (readable f facts c h.0).is)) (None, h.0.end, refl)

    pub read_exactly : (text : List ℕ) → ReadExactly f text
    read_exactly text c = (read_lawful text c, lawful_read text c)

    from_end_once : (e : Result (Ended I) Fault) (r s : Result (Circuit I) Fault) → FromEnd f e r → FromEnd f e s → r ≡ s
    from_end_once (Err e) r s a b = a ∙ sym b
    from_end_once (Ok e) r s a b = a.2 ∙ ap (closed f e) (facts.once e.circuit a.0 b.0 a.1 b.1) ∙ sym b.2

    pub read_one_way : (text : List ℕ) → ReadOneWay f text
    read_one_way text = from_end_once (up_to_end f text)

use Rattle.std.proofs.Common.{◌+◌, ◌-◌, ◌∷◌, take, sym, ap, ◌∙◌, length, rules}
use Rattle.std.proofs.lemmas.List.{take_rest}
use Rattle.text.specs.Lines.{Part}
use Rattle.text.specs.Fields.{parts_from, fields_left}
use Rattle.text.proofs.Splits.{cut_at, field_cut, field_last}
use Rattle.text.proofs.lines.reading.FieldsIterator.next.Goals as goal
use Rattle.text.proofs.lines.reading.FieldsIterator.next.Goals.{then-n-rest, else-n-rest}

pub returns-clause-steps : goal.returns-clause-steps
returns-clause-steps c =
    let place = c.args.self.now.place in
    let rest = c.in_ok-rest.rest.now in
    let n = c.until-n.result in
    let part : Part = record { place = place; bytes = take (n - 0) rest } in
    ap (λ r. parts_from r place) c.in_ok-rest.was ∙
    elim c.if-n-rest.branch [
      | then-n-rest w ↦ field_cut place n rest _ _ (cut_at 9 rest n c.until-n.ensures.value w.if-n-rest.true) (take_rest rest (n + 1)) ∙ ap (λ f. part ∷ fields_left f) (sym w.self-is)
      | else-n-rest w ↦ field_last place n rest c.until-n.ensures.value w.if-n-rest.false c.until-n.ensures.bound ∙ ap (λ f. part ∷ fields_left f) (sym w.self-is)
    ]

pub returns-clause-goes : goal.returns-clause-goes
returns-clause-goes c = let shorter = ap length (returns-clause-steps c) in search rules

use Rattle.std.proofs.Common.{Err, sym, ap, ◌∙◌}
use Rattle.std.proofs.lemmas.Result.{err_from_is_err_and}
use Rattle.text.specs.declared.lines.Lines.{Lines}
use Rattle.text.specs.Lines.{LineAt}
use Rattle.records.specs.Records.{leading_word}
use Rattle.netlist.proofs.OneLine.{taken, word_unknown, word_late}
use Rattle.netlist.proofs.reading.finish.Given.{Over}
use Rattle.netlist.proofs.reading.finish.Goals as goal
use Rattle.netlist.proofs.reading.finish.Goals.{In-Some}

module _ (g : Over) (c : In-Some g) where
  abbrev before : Lines
  before = c.args.reader.now.lines

  abbrev past : Lines
  past = c.next_line.new.self

  took : LineAt before.text.now before.pos before.line c.in-Some.line past.pos
  took = (taken before.text.now before.pos before.line c.in_ok-line.field-0 c.in-Some.line past.pos past.line c.in-Some.is c.in_ok-line.ensures.gives).0

pub returns-in_err-first_word : goal.returns-in_err-first_word
returns-in_err-first_word g c =
    let w = (goal.at.returns-in_err-first_word g c).In-Some in
    let b = before g w in
    let line = c.in-Some.line in
    let f = g.B.Body.format in
    let p = err_from_is_err_and c.from_residual-in_err-first_word.result c.from_residual-in_err-first_word.ensures.1 in
    p.1 ∙ sym (word_unknown f b.text.now b.pos b.line line (past g w).pos (took g w) p.0
    (ap Err p.2 ∙ c.in_err-first_word.ensures.word ∙ ap (leading_word f line.number line.start) c.fields-fields.ensures))

pub returns : goal.returns
returns g c =
    let w = (goal.at.returns g c).In-Some in
    let b = before g w in
    let line = c.in-Some.line in
    let f = g.B.Body.format in
    ap Err c.fault.ensures
    ∙ sym (word_late f b.text.now b.pos b.line line (past g w).pos (took g w) c.in_ok-first_word.field-0
    (c.in_ok-first_word.ensures.word ∙ ap (leading_word f line.number line.start) c.fields-fields.ensures))

use Rattle.std.proofs.Common.{◌≡◌, ◌+◌, Err, sym, ap, ◌∙◌, subst}
use Rattle.std.proofs.lemmas.Result.{err_from_is_err_and}
use Rattle.text.specs.declared.lines.Lines.{Lines}
use Rattle.text.specs.Lines.{LineAt, lines_from}
use Rattle.files.specs.Reading.{lines_read}
use Rattle.reader.specs.Entries.{plain}
use Rattle.netlist.specs.Circuits.{circuit_of}
use Rattle.reader.specs.Gathered.{answered}
use Rattle.netlist.specs.Endings.{lines_left, UpTo}
use Rattle.netlist.proofs.OneLine.{taken, record_declined, add_declined, line_done, end_done}
use Rattle.netlist.proofs.reading.read_to_end.Given.{Over}
use Rattle.netlist.proofs.reading.read_to_end.Goals as goal
use Rattle.netlist.proofs.reading.read_to_end.Goals.{In-Some}

module _ (g : Over) (c : In-Some g) where
  abbrev before : Lines
  before = c.loop-line.reader.lines

  abbrev past : Lines
  past = c.next_line.new.self

  took : LineAt before.text.now before.pos before.line c.in-Some.line past.pos × (past.line ≡ before.line + 1)
  took = taken before.text.now before.pos before.line c.in_ok-line.field-0 c.in-Some.line past.pos past.line c.in-Some.is c.in_ok-line.ensures.gives

  -- what is left of the text after the line
  left : lines_left past ≡ lines_from before.text.now past.pos
  left = ap (λ t. lines_from t past.pos) c.in_ok-line.ensures.same

pub returns-in_err-item-clause-gives : goal.returns-in_err-item-clause-gives
returns-in_err-item-clause-gives g c =
    let w = (goal.at.returns-in_err-item-clause-gives g c).In-Some in
    let b = before g w in
    let f = g.B.Body.format in
    let so_far = circuit_of g.B.Body.items c.loop-line.netlist in
    let p = err_from_is_err_and c.from_residual-in_err-item.result c.from_residual-in_err-item.ensures.1 in
    subst (λ q. UpTo f q c.from_residual-in_err-item.result so_far c.record.new.self.lines)
    (sym (sym c.loop-line.invariant ∙ record_declined f b.text.now b.pos b.line c.in-Some.line (past g w).pos (took g w).0 c.loop-line.reader.stage so_far p.0 (ap Err p.2 ∙ c.in_err-item.ensures.gives)))
    p.1

pub returns-in_err-add-clause-gives : goal.returns-in_err-add-clause-gives
returns-in_err-add-clause-gives g c =
    let w = (goal.at.returns-in_err-add-clause-gives g c).In-Some in
    let b = before g w in
    let f = g.B.Body.format in
    let so_far = circuit_of g.B.Body.items c.loop-line.netlist in
    let e = plain g.B.Body.shown c.in_ok-item.item in
    let p = err_from_is_err_and c.from_residual-in_err-add.result c.from_residual-in_err-add.ensures.1 in
    subst (λ q. UpTo f q c.from_residual-in_err-add.result (circuit_of g.B.Body.items c.add.new.self) c.record.new.self.lines)
    (sym (sym c.loop-line.invariant ∙ add_declined f b.text.now b.pos b.line c.in-Some.line (past g w).pos (took g w).0 c.loop-line.reader.stage so_far c.record.new.self.stage e
    c.in_ok-item.ensures.gives p.0 (ap Err p.2 ∙ c.in_err-add.ensures)))
    p.1

pub returns-then-closed-clause-gives : goal.returns-then-closed-clause-gives
returns-then-closed-clause-gives g c =
    let w = (goal.at.returns-then-closed-clause-gives g c).In-Some in
    let b = before g w in
    let f = g.B.Body.format in
    let so_far = circuit_of g.B.Body.items c.loop-line.netlist in
    let e = plain g.B.Body.shown c.in_ok-item.item in
    let d = circuit_of g.B.Body.items c.add.new.self in
    let at = (took g w).0 in
    let same = c.in_ok-item.ensures.same in
    let closes = c.close.ensures.found in
    subst (λ q. UpTo f q c.close.result (circuit_of g.B.Body.items c.close.new.self) c.record.new.self.lines)
    (sym (sym c.loop-line.invariant ∙ end_done f b.text.now b.pos b.line c.in-Some.line (past g w).pos at c.loop-line.reader.stage so_far c.record.new.self.stage e
    c.in_ok-item.ensures.gives d c.in_ok-add.ensures c.if-closed.ensures)) (
      closes.0,
      closes.1,
      closes.2 ∙ (λ i. answered closes.0 (at.number i) (at.start i)),
      λ none. record {
        circuit = c.close.ensures.same;
        line = ap (λ (l : Lines). l.line) same ∙ (took g w).1;
        next = ap (λ (l : Lines). l.pos) same;
        rest = ap lines_left same ∙ left g w;
      },
    )

pub loop-line-preserved : goal.loop-line-preserved
loop-line-preserved g c =
    let w = (goal.at.loop-line-preserved g c).In-Some in
    let b = before g w in
    let f = g.B.Body.format in
    let so_far = circuit_of g.B.Body.items c.loop-line.netlist in
    let t = c.record.new.self.stage in
    let e = plain g.B.Body.shown c.in_ok-item.item in
    let d = circuit_of g.B.Body.items c.add.new.self in
    ap (λ (l : Lines). lines_read f t d l.line l.pos (lines_left l)) c.in_ok-item.ensures.same
    ∙ (λ i. lines_read f t d ((took g w).1 i) (past g w).pos (left g w i))
    ∙ sym (line_done f b.text.now b.pos b.line c.in-Some.line (past g w).pos (took g w).0 c.loop-line.reader.stage so_far t e
    c.in_ok-item.ensures.gives d c.in_ok-add.ensures c.if-closed.ensures)
    ∙ c.loop-line.invariant

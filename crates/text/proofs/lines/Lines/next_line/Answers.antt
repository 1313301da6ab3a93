use Rattle.std.proofs.Common.{◌≡◌, ◌+◌, ◌-◌, ◌<◌, length, take, drop, sym, refl, ap, ◌∙◌, arith}
use Rattle.std.proofs.lemmas.List.{take_rest, length-drop}
use Rattle.text.proofs.Splits.{cut_at, line_cut, line_last, malformed_last, malformed_line}
use Rattle.text.proofs.lines.Lines.next_line.Goals as goal
use Rattle.text.proofs.lines.Lines.next_line.Goals.{then-n-rest-via-then-n-rest, then-n-rest-via-else-n-rest+then-not-formed}

pub returns-then-n-rest : goal.returns-then-n-rest
returns-then-n-rest c =
    let text = c.args.self.now.text.now in
    let p = c.args.self.now.pos in
    let n = c.until-n.result in
    let rest = take (length text - p) (drop p text) in
    let is : rest ≡ drop p text = take_rest text p in
    let long = ap length is ∙ length-drop p text in
    record {
      gives = (
        c.new.ensures,
        elim c.then-n-rest.branch [
          | then-n-rest-via-then-n-rest w ↦ malformed_last text rest p (line_last text rest p n is c.until-n.ensures.value w.if-n-rest.true) (omega (arith, long))
          | then-n-rest-via-else-n-rest+then-not-formed w ↦
              let some : n < length rest = omega (arith, c.until-n.ensures.bound, w.if-n-rest.false) in
              malformed_line text _ p _ (line_cut text rest _ p n is (cut_at 10 rest n c.until-n.ensures.value some)) (sym w.if-not-formed.ensures)
        ],
      );
      same = refl;
    }

pub returns : goal.returns
returns c =
    let text = c.args.self.now.text.now in
    let p = c.args.self.now.pos in
    let n = c.until-n.result in
    let rest = take (length text - p) (drop p text) in
    let is : rest ≡ drop p text = take_rest text p in
    let long = ap length is ∙ length-drop p text in
    let some : n < length rest = omega (arith, c.until-n.ensures.bound, c.if-n-rest.false) in
    let k = cut_at 10 rest n c.until-n.ensures.value some in
    record {
      gives = (record { number = refl; start = refl; next = ap (λ m. p + m + 1) (sym k.long); within = omega (arith, long); lines = line_cut text rest _ p n is k; good = sym c.if-not-formed.ensures }, refl);
      same = refl;
    }

use Rattle.std.proofs.Common.{ap, ◌∙◌, arith}
use Rattle.std.proofs.lemmas.List.{get_or-map}
use Rattle.forming.proofs.tables.clear_cells.Goals as goal

pub returns-clause-zero : goal.returns-clause-zero
returns-clause-zero g c k h =
    let a = g.A.ChainAlgebra in
    let m = a.meaning c.args.alg.now in
    let zero = c.zero-zero.result in
    get_or-map m.value c.loop-cell.cell-items k zero a.ops.zero (omega arith)
    ∙ ap m.value (c.loop-cell.invariant k zero (omega arith)) ∙ c.zero-zero.ensures.value

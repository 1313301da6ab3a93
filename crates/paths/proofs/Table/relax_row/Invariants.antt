use Rattle.std.proofs.Common.{◌+◌}
use Rattle.paths.specs.Work.{relaxing, row_till}
use Rattle.paths.proofs.Turns.{RanOn}
use Rattle.paths.proofs.Table.relax_row.Given as goal

abbrev pub invariant-loop-j : goal.invariant-loop-j
invariant-loop-j g l =
    let a = g.A.ChainAlgebra in
    let t = l.initial.self in
    RanOn a.keeps (relaxing a.ops t.nets (t.nets + t.columns) l.k (row_till l.k l.i l.j)) (a.meaning l.initial.alg) (a.meaning l.alg) t l.self

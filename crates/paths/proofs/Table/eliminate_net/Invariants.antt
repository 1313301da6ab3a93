use Rattle.std.proofs.Common.{◌+◌}
use Rattle.paths.specs.Work.{relaxing, rows_till}
use Rattle.paths.proofs.Turns.{RanOn}
use Rattle.paths.proofs.Table.eliminate_net.Given as goal

abbrev pub invariant-loop-i : goal.invariant-loop-i
invariant-loop-i g l =
    let a = g.A.ChainAlgebra in
    let t = l.initial.self in
    RanOn a.keeps (relaxing a.ops t.nets (t.nets + t.columns) l.k (rows_till l.k l.i)) (a.meaning l.initial.alg) (a.meaning l.alg) t l.self

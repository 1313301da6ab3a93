use Rattle.paths.proofs.Turns.{RanOn}
use Rattle.paths.proofs.Nets.{eliminating}
use Rattle.paths.proofs.Table.solve.Given as goal

abbrev pub invariant-loop-k : goal.invariant-loop-k
invariant-loop-k g l =
    let a = g.A.ChainAlgebra in
    let t = l.initial.self in
    RanOn a.keeps (eliminating a.ops t.nets t.columns l.k) (a.meaning l.initial.alg) (a.meaning l.alg) t l.self

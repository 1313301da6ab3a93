use Rattle.std.proofs.Common.{◌+◌, map, arith}
use Rattle.algebra.specs.Holding.{Stopped}
use Rattle.paths.specs.Work.{Ran, relaxing, row_till}
use Rattle.paths.proofs.Working.{working_err}
use Rattle.paths.proofs.Turns.{same_refl, same_then, at_shape, ran_at, rows_start, rows_turn, rows_idle, rows_stopped}
use Rattle.paths.proofs.Table.eliminate_net.Goals as goal
use Rattle.paths.proofs.Table.eliminate_net.Goals.{then-i-k+in_ok-relax_row, else-i-k}

pub loop-i-init : goal.loop-i-init
loop-i-init g c =
    let a = g.A.ChainAlgebra in
    let t = c.args.self.now in
    (rows_start a.keeps a.ops t.nets (t.nets + t.columns) c.args.k (a.meaning c.args.alg.now) t.signs.now c.requires.hand, same_refl t)

pub loop-i-preserved : goal.loop-i-preserved
loop-i-preserved g c =
    let a = g.A.ChainAlgebra in
    let t = c.args.self.now in
    let s = c.loop-i.invariant.1 in
    elim c.if-i-k.branch [
      | then-i-k+in_ok-relax_row v ↦
          ran_at a.keeps _ a.meaning t v.relax_row.new.alg v.relax_row.new.self v.alg-is v.self-is (
            rows_turn a.keeps a.ops t.nets (t.nets + t.columns) c.args.k c.requires.pivot (omega arith) t.room
                c.loop-i.i (omega arith) v.if-i-k.true c.loop-i.invariant.0 (a.meaning v.relax_row.new.alg) v.relax_row.new.self.signs.now
                (at_shape (λ m d. Ran a.keeps (relaxing a.ops m (m + d) c.args.k (row_till c.args.k c.loop-i.i (m + d))) (a.meaning c.loop-i.alg) (a.meaning v.relax_row.new.alg)
                c.loop-i.self.signs.now v.relax_row.new.self.signs.now) t c.loop-i.self s v.in_ok-relax_row.ensures.working),
            same_then t c.loop-i.self v.relax_row.new.self s v.in_ok-relax_row.ensures.same,
          )
      | else-i-k v ↦
          ran_at a.keeps _ a.meaning t c.loop-i.alg c.loop-i.self v.alg-is v.self-is
          (rows_idle a.keeps a.ops t.nets (t.nets + t.columns) c.args.k c.loop-i.i v.if-i-k.false c.loop-i.invariant.0, s)
    ]

pub returns-in_err-relax_row-clause-working : goal.returns-in_err-relax_row-clause-working
returns-in_err-relax_row-clause-working g c =
    let a = g.A.ChainAlgebra in
    let t = c.args.self.now in
    working_err a.keeps _ _ (a.meaning c.relax_row.new.alg) _ c.relax_row.new.self.signs.now _ c.from_residual.ensures.0
    (rows_stopped a.keeps a.ops t.nets (t.nets + t.columns) c.args.k c.requires.pivot (omega arith) t.room
    c.loop-i.i (omega arith) c.if-i-k.true c.loop-i.invariant.0 (a.meaning c.relax_row.new.alg)
    (at_shape (λ m d. Stopped a.keeps (a.meaning c.loop-i.alg) ((relaxing a.ops m (m + d) c.args.k (row_till c.args.k c.loop-i.i (m + d))).forms (map (a.meaning c.loop-i.alg).value c.loop-i.self.signs.now))
    (a.meaning c.relax_row.new.alg)) t c.loop-i.self c.loop-i.invariant.1 c.in_err-relax_row.ensures.working))

use Rattle.std.proofs.Common.{◌≡◌, ◌+◌, map, subst, arith}
use Rattle.algebra.specs.Holding.{Stopped}
use Rattle.paths.specs.Work.{Ran, relaxing, rows_till}
use Rattle.paths.proofs.Nets.{eliminating, nets_start, nets_turn, nets_stopped, solved, solving_err}
use Rattle.paths.proofs.Turns.{same_refl, same_then, at_shape}
use Rattle.paths.proofs.Table.solve.Goals as goal

pub loop-k-init : goal.loop-k-init
loop-k-init g c =
    let a = g.A.ChainAlgebra in
    let t = c.args.self.now in
    (nets_start a.keeps a.ops t.nets t.columns (a.meaning c.args.alg.now) t.signs.now c.requires.hand, same_refl t)

pub loop-k-preserved : goal.loop-k-preserved
loop-k-preserved g c =
    let a = g.A.ChainAlgebra in
    let t = c.args.self.now in
    let s = c.loop-k.invariant.1 in (
      nets_turn a.keeps a.ops t.nets t.columns c.loop-k.k (omega arith) (omega arith) t.room c.loop-k.invariant.0 (a.meaning c.eliminate_net.new.alg) c.eliminate_net.new.self.signs.now
          (at_shape (λ m d. Ran a.keeps (relaxing a.ops m (m + d) c.loop-k.k (rows_till c.loop-k.k m)) (a.meaning c.loop-k.alg) (a.meaning c.eliminate_net.new.alg)
          c.loop-k.self.signs.now c.eliminate_net.new.self.signs.now) t c.loop-k.self s c.in_ok-eliminate_net.ensures.working),
      same_then t c.loop-k.self c.eliminate_net.new.self s c.in_ok-eliminate_net.ensures.same,
    )

pub returns-in_err-eliminate_net-clause-solving : goal.returns-in_err-eliminate_net-clause-solving
returns-in_err-eliminate_net-clause-solving g c =
    let a = g.A.ChainAlgebra in
    let t = c.args.self.now in
    solving_err a.keeps a.ops t.nets t.columns _ (a.meaning c.eliminate_net.new.alg) _ c.eliminate_net.new.self.signs.now _ c.from_residual.ensures.0
    (nets_stopped a.keeps a.ops t.nets t.columns c.loop-k.k (omega arith) (omega arith) t.room c.loop-k.invariant.0 (a.meaning c.eliminate_net.new.alg)
    (at_shape (λ m d. Stopped a.keeps (a.meaning c.loop-k.alg) ((relaxing a.ops m (m + d) c.loop-k.k (rows_till c.loop-k.k m)).forms (map (a.meaning c.loop-k.alg).value c.loop-k.self.signs.now))
    (a.meaning c.eliminate_net.new.alg)) t c.loop-k.self c.loop-k.invariant.1 c.in_err-eliminate_net.ensures.working))

pub returns-clause-solving : goal.returns-clause-solving
returns-clause-solving g c =
    let a = g.A.ChainAlgebra in
    let t = c.args.self.now in
    let e : c.loop-k.k ≡ t.nets = omega arith in
    solved a.keeps a.ops t.nets t.columns g.met.A.ChainAlgebra.laws t.room
    (subst (λ n. Ran a.keeps (eliminating a.ops t.nets t.columns n) (a.meaning c.args.alg.now) (a.meaning c.loop-k.alg) t.signs.now c.loop-k.self.signs.now) e c.loop-k.invariant.0)

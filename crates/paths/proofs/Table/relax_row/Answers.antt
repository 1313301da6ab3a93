use Rattle.std.proofs.Common.{◌≡◌, ◌+◌, ◌*◌, arith}
use Rattle.paths.proofs.Working.{working_err}
use Rattle.paths.proofs.Turns.{same_refl, same_then, at_shape, ran_at, row_start, row_turn, row_idle, row_stopped}
use Rattle.paths.proofs.Table.relax_row.Goals as goal
use Rattle.paths.proofs.Table.relax_row.Goals.{then-j-i+in_ok-relax, else-j-i}

pub loop-j-init : goal.loop-j-init
loop-j-init g c =
    let a = g.A.ChainAlgebra in
    let t = c.args.self.now in
    (row_start a.keeps a.ops t.nets (t.nets + t.columns) c.args.k c.args.i (a.meaning c.args.alg.now) t.signs.now c.requires.hand, same_refl t)

pub loop-j-preserved : goal.loop-j-preserved
loop-j-preserved g c =
    let a = g.A.ChainAlgebra in
    let t = c.args.self.now in
    let s = c.loop-j.invariant.1 in
    elim c.if-j-i.branch [
      | then-j-i+in_ok-relax v ↦
          ran_at a.keeps _ a.meaning t v.relax.new.alg v.relax.new.self v.alg-is v.self-is (
            row_turn a.keeps a.ops t.nets (t.nets + t.columns) c.args.k c.requires.pivot (omega arith) t.room
                c.args.i c.loop-j.j _ _ _ c.requires.row (omega arith) c.requires.other (omega arith) v.if-j-i.true
                (at_shape (λ m d. v.place-at.result ≡ c.args.i * (m + d) + c.loop-j.j) t c.loop-j.self s v.place-at.ensures.is) c.place-via.ensures.is
                (at_shape (λ m d. v.place-on.result ≡ c.args.k * (m + d) + c.loop-j.j) t c.loop-j.self s v.place-on.ensures.is)
                c.loop-j.invariant.0 (a.meaning v.relax.new.alg) v.relax.new.self.signs.now v.in_ok-relax.ensures.working,
            same_then t c.loop-j.self v.relax.new.self s v.in_ok-relax.ensures.same,
          )
      | else-j-i v ↦
          ran_at a.keeps _ a.meaning t c.loop-j.alg c.loop-j.self v.alg-is v.self-is
          (row_idle a.keeps a.ops t.nets (t.nets + t.columns) c.args.k c.args.i c.loop-j.j v.if-j-i.false c.loop-j.invariant.0, s)
    ]

pub returns-in_err-relax-clause-working : goal.returns-in_err-relax-clause-working
returns-in_err-relax-clause-working g c =
    let a = g.A.ChainAlgebra in
    let t = c.args.self.now in
    let s = c.loop-j.invariant.1 in
    working_err a.keeps _ _ (a.meaning c.relax.new.alg) _ c.relax.new.self.signs.now _ c.from_residual.ensures.0
    (row_stopped a.keeps a.ops t.nets (t.nets + t.columns) c.args.k c.requires.pivot (omega arith) t.room
    c.args.i c.loop-j.j _ _ _ c.requires.row (omega arith) c.requires.other (omega arith) c.if-j-i.true
    (at_shape (λ m d. c.place-at.result ≡ c.args.i * (m + d) + c.loop-j.j) t c.loop-j.self s c.place-at.ensures.is) c.place-via.ensures.is
    (at_shape (λ m d. c.place-on.result ≡ c.args.k * (m + d) + c.loop-j.j) t c.loop-j.self s c.place-on.ensures.is)
    c.loop-j.invariant.0 (a.meaning c.relax.new.alg) c.in_err-relax.ensures.working)

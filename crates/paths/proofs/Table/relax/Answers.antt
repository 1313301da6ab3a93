use Rattle.paths.proofs.Working.{working_err, first_stopped, second_stopped, cell_ran}
use Rattle.paths.proofs.Table.relax.Goals as goal

pub returns-in_err-through-clause-working : goal.returns-in_err-through-clause-working
returns-in_err-through-clause-working g c =
    let a = g.A.ChainAlgebra in
    working_err a.keeps _ _ (a.meaning c.meet.new.self) _ _ _ c.from_residual.ensures.0
    (first_stopped a.keeps a.ops (a.meaning c.args.alg.now) c.args.self.now.signs.now c.args.at _ _ c.requires.hand
    c.requires.first c.requires.second c.index-self-left.result c.index-self-right.result (a.meaning c.meet.new.self) c.in_err-through.ensures)

pub returns-in_err-joined-clause-working : goal.returns-in_err-joined-clause-working
returns-in_err-joined-clause-working g c =
    let a = g.A.ChainAlgebra in
    working_err a.keeps _ _ _ _ _ _ c.from_residual-in_err-joined.ensures.0
    (second_stopped a.keeps a.ops (a.meaning c.args.alg.now) c.args.self.now.signs.now c.args.at _ _ c.requires.hand
    c.requires.first c.requires.second c.index-self-left.result c.index-self-right.result (a.meaning c.meet.new.self) c.requires.target c.index-self-at.result
    c.in_ok-through.ensures.0 c.in_ok-through.ensures.1 _ c.in_err-joined.ensures)

pub returns-clause-working : goal.returns-clause-working
returns-clause-working g c =
    let a = g.A.ChainAlgebra in
    cell_ran a.keeps a.ops (a.meaning c.args.alg.now) c.args.self.now.signs.now c.args.at _ _ c.requires.hand
    c.requires.first c.requires.second c.index-self-left.result c.index-self-right.result (a.meaning c.meet.new.self) c.requires.target c.index-self-at.result
    c.in_ok-through.ensures.0 c.in_ok-through.ensures.1 _ _ c.in_ok-joined.ensures.0 c.in_ok-joined.ensures.1

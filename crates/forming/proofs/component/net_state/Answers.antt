use Rattle.std.proofs.Common.{arith}
use Rattle.forming.proofs.Row.{read, row_formed}
use Rattle.forming.proofs.component.net_state.Goals as goal

pub returns : goal.returns
returns g c =
    let a = g.A.ChainAlgebra in
    let m = a.meaning c.args.alg.now in
    let w = c.args.work.now in
    let hand = c.requires.hand in
    let nets = c.args.nets in
    let few = c.requires.few in
    let loose = c.in_ok-loose.ensures in
    let one = c.in_ok-may1.ensures in
    let zero = c.in_ok-may0.ensures in
    row_formed a.ops a.bit c.requires.boolean m (a.meaning c.complement.new.self) (a.meaning c.join.new.self) (a.meaning c.join-2.new.self)
    nets c.args.net w.may.now w.sure.now _ c.in_ok-loose.loose _ _ c.in_ok-may1.may1 c.in_ok-may0.may0 loose.0
    (read m a.ops.zero w.sure.now hand.sure nets 1 few (omega arith) w.sure_room c.place.result _ c.index-work-place.result c.place.ensures.inside (omega arith))
    (read m a.ops.zero w.may.now hand.may nets 2 few (omega arith) w.may_room c.place-2.result _ c.index-work-place-2.result c.place-2.ensures.inside (omega arith))
    (read m a.ops.zero w.may.now hand.may nets 2 few (omega arith) w.may_room c.place-3.result _ c.index-work-place-3.result c.place-3.ensures.inside (omega arith))
    loose.1 loose.2.0.stays loose.2.1 one.0.stays one.1 zero.0.stays zero.1

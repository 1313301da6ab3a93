use Rattle.std.proofs.Common.{refl, ap, ◌∙◌, arith}
use Rattle.cell.proofs.Devices.{list_numbered}
use Rattle.order.specs.Found.{order_of}
use Rattle.order.specs.Left.{left}
use Rattle.forming.proofs.Turns.{turns_start, turns_next, turns_end}
use Rattle.forming.proofs.states.form_states.Goals as goal

pub loop-nets-init : goal.loop-nets-init
loop-nets-init g c =
    let a = g.A.ChainAlgebra in (
      turns_start a.bit (a.meaning c.args.alg.now) (a.meaning c.form_sources.new.alg) c.args.ins.now c.args.devices.devices.now (order_of c.args.order.now)
          (left c.into_iter-nets-iterator.result) c.args.work.now.states.signs.now _
          (ap left c.into_iter-nets-iterator.ensures.into_iter_gives ∙ c.components-nets-items.ensures)
          c.requires.order c.clear_cells.ensures.hand c.clear_cells-2.ensures.hand c.in_ok-form_sources.ensures.formed,
      (refl, refl, refl, refl, refl),
    )

pub loop-nets-preserved : goal.loop-nets-preserved
loop-nets-preserved g c =
    let a = g.A.ChainAlgebra in (
      turns_next a.bit (a.meaning c.form_sources.new.alg) (a.meaning c.loop-nets.alg) c.args.ins.now c.args.devices.devices.now (order_of c.args.order.now)
          (a.meaning c.form_component.new.alg) (left c.loop-nets.nets-iterator) c.in-Some.nets.now (left c.next.new.self)
          c.loop-nets.work c.form_component.new.work c.in-Some.ensures.steps c.loop-nets.invariant.0 c.in_ok-form_component.ensures.formed,
      omega arith,
    )

pub returns-clause-formed : goal.returns-clause-formed
returns-clause-formed g c =
    let a = g.A.ChainAlgebra in
    turns_end a.bit (a.meaning c.form_sources.new.alg) (a.meaning c.loop-nets.alg) c.args.ins.now c.args.devices.devices.now (order_of c.args.order.now)
    (a.meaning c.args.alg.now) (left c.loop-nets.nets-iterator) c.loop-nets.work
    c.in-None.ensures.steps.0 (list_numbered c.args.devices) c.in_ok-form_sources.ensures.formed.stays c.loop-nets.invariant.0

use Rattle.order.specs.Found.{order_of}
use Rattle.order.specs.Left.{left}
use Rattle.forming.specs.Works.{SameWork}
use Rattle.forming.proofs.Turns.{FormedBut}
use Rattle.forming.proofs.states.form_states.Given as goal

-- all but the components that are left are formed
abbrev pub invariant-loop-nets : goal.invariant-loop-nets
invariant-loop-nets g l =
    let a = g.A.ChainAlgebra in
    FormedBut a.bit (a.meaning l.initial.alg) (a.meaning l.alg) l.ins l.devices.devices.now (order_of l.order) (left l.nets-iterator) l.work × SameWork l.initial.work l.work

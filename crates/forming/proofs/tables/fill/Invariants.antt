use Rattle.std.proofs.Common.{take}
use Rattle.forming.specs.Systems.{Filled}
use Rattle.forming.specs.Works.{SameStates}
use Rattle.forming.proofs.tables.fill.Given as goal

abbrev pub invariant-loop-device : goal.invariant-loop-device
invariant-loop-device g l =
    let a = g.A.ChainAlgebra in
    let w = l.initial.work in
    Filled a.ops a.bit (a.meaning l.initial.alg) (a.meaning l.alg) w.states.signs.now l.component.nets.now (take l.device-index l.devices.devices.now)
    w.may.now l.work.may.now w.sure.now l.work.sure.now × SameStates w l.work

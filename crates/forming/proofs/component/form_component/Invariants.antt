use Rattle.std.proofs.Common.{◌≡◌}
use Rattle.forming.specs.Works.{SameWork}
use Rattle.forming.proofs.Formed.{FormedTill}
use Rattle.forming.proofs.component.form_component.Given as goal

abbrev pub invariant-loop-place : goal.invariant-loop-place
invariant-loop-place g l =
    let a = g.A.ChainAlgebra in
    let w = l.initial.work in
    FormedTill a.ops a.bit (a.meaning l.initial.alg) (a.meaning l.alg) l.component.nets.now w.may.now w.sure.now w.states.signs.now l.work.states.signs.now l.place
    × SameWork w l.work × (l.work.may.now ≡ w.may.now) × (l.work.sure.now ≡ w.sure.now)

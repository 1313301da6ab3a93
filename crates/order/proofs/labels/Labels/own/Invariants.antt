use Rattle.order.proofs.Own.{Own}
use Rattle.order.proofs.labels.Labels.own.Given as goal

abbrev pub invariant-loop-net : goal.invariant-loop-net
invariant-loop-net l = Own l.ins l.net l.numbers l.inner

use Rattle.std.proofs.Common.{◌≡◌}
use Rattle.forming.proofs.Sources.{FormedTill}
use Rattle.forming.proofs.states.form_sources.Given as goal

-- rails and the inputs before this one are formed
abbrev pub invariant-loop-i : goal.invariant-loop-i
invariant-loop-i g l =
    let a = g.A.ChainAlgebra in
    FormedTill a.bit (a.meaning l.initial.alg) (a.meaning l.alg) l.ins l.i l.states.signs.now × (l.states.signs.ghost_name ≡ l.initial.states.signs.ghost_name)

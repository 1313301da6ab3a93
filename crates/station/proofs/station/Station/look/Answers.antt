use Rattle.std.proofs.Common.{length, sym, ap, ◌∙◌, subst}
use Rattle.std.proofs.lemmas.Result.{err_from_is_err_and}
use Rattle.text.specs.declared.fault.Reason.TheVariants.{CircuitAbsent, OutOfRange}
use Rattle.text.specs.Faults.{fault}
use Rattle.text.proofs.Steps.{or_ok}
use Rattle.algebra.specs.Made.{Samples}
use Rattle.netlist.specs.Circuits.{circuit_of}
use Rattle.circuits.specs.Bodies.{devices_of}
use Rattle.station.proofs.Probes.{or_err, is_held, is_absent, made_one, made_none, none_held, too_short, above_nets, not_there, answered}
use Rattle.station.proofs.station.Station.look.Goals as goal

pub returns-in_err-circuit : goal.returns-in_err-circuit
returns-in_err-circuit g c =
    let none = is_absent c.args.self.now.drawn c.circuit.result CircuitAbsent c.circuit.ensures c.ok_or.result c.ok_or.ensures.value c.in_err-circuit.field-0.0 c.in_err-circuit.was in
    let p = err_from_is_err_and c.from_residual.result c.from_residual.ensures.1 in
    rw p.1 (none_held _ _ _ _ c.args.self.now.drawn none.0 p.0 (p.2 ∙ ap (λ r. fault r 0 0) none.1))

pub returns-then-signs-lt-WORK : goal.returns-then-signs-lt-WORK
returns-then-signs-lt-WORK g c =
    let held = is_held c.args.self.now.drawn c.circuit.result CircuitAbsent c.circuit.ensures c.ok_or.result c.ok_or.ensures.value c.in_ok-circuit.circuit c.in_ok-circuit.was in
    too_short _ _ _ _ c.args.self.now.drawn held.0 c.if-signs-lt-WORK.true c.into.result c.into.ensures

pub returns-then-net-gt-LAST_NET : goal.returns-then-net-gt-LAST_NET
returns-then-net-gt-LAST_NET g c =
    let held = is_held c.args.self.now.drawn c.circuit.result CircuitAbsent c.circuit.ensures c.ok_or.result c.ok_or.ensures.value c.in_ok-circuit.circuit c.in_ok-circuit.was in
    above_nets _ _ _ _ c.args.self.now.drawn held.0 c.if-signs-lt-WORK.false c.if-net-gt-LAST_NET.true c.into-then-net-gt-LAST_NET.result c.into-then-net-gt-LAST_NET.ensures

pub returns-in_err-alg : goal.returns-in_err-alg
returns-in_err-alg g c =
    let held = is_held c.args.self.now.drawn c.circuit.result CircuitAbsent c.circuit.ensures c.ok_or.result c.ok_or.ensures.value c.in_ok-circuit.circuit c.in_ok-circuit.was in
    let count = ap length (c.ins.ensures ∙ ap (λ n. (circuit_of devices_of n).ins) held.1) in
    let none = or_err c.ok.result OutOfRange c.in_err-alg.field-0.0 (sym c.ok_or-2.ensures.value ∙ c.in_err-alg.was) in
    let p = err_from_is_err_and c.from_residual-in_err-alg.result c.from_residual-in_err-alg.ensures.1 in
    rw p.1 (not_there _ _ _ _ c.args.self.now.drawn held.0 c.if-signs-lt-WORK.false c.if-net-gt-LAST_NET.false
    (λ there. made_none _ _ c.new.result c.new.ensures.made (sym c.ok.ensures.value ∙ none.0) (subst (λ n. g.A.Sample.Exists n c.args.number) (sym count) there))
    p.0 (p.2 ∙ ap (λ r. fault r 0 0) none.1))

pub returns : goal.returns
returns g c =
    let held = is_held c.args.self.now.drawn c.circuit.result CircuitAbsent c.circuit.ensures c.ok_or.result c.ok_or.ensures.value c.in_ok-circuit.circuit c.in_ok-circuit.was in
    let count = ap length (c.ins.ensures ∙ ap (λ n. (circuit_of devices_of n).ins) held.1) in
    let one = or_ok c.ok.result OutOfRange c.in_ok-alg.alg (sym c.ok_or-2.ensures.value ∙ c.in_ok-alg.was) in
    let made = made_one _ _ c.new.result c.in_ok-alg.alg c.new.ensures.made (sym c.ok.ensures.value ∙ one) in
    answered _ _ _ _ c.args.self.now.drawn held.0 c.if-signs-lt-WORK.false c.if-net-gt-LAST_NET.false c.in-Ok.state
    (subst (λ n. g.A.Sample.Exists n c.args.number) count made.0)
    (c.in_ok-alg.alg, c.state_over.new.alg, subst (λ n. Samples n (g.A.Sample.listed n c.args.number) (g.A.ChainAlgebra.meaning c.in_ok-alg.alg)) count made.1, c.in-Ok.ensures)

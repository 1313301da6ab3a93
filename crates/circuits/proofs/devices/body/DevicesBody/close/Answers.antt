use Rattle.std.proofs.Common.{ℕ, List, Some, None, Err, refl, ap, ◌∙◌, subst}
use Rattle.cell.specs.Circuits.{Drawn}
use Rattle.order.specs.declared.Obstacle.{Obstacle}
use Rattle.order.specs.declared.Obstacle.TheVariants.{WaitingRing, LargeComponent}
use Rattle.order.specs.Found.{order_of, Found}
use Rattle.order.specs.Reasons.{reason_of}
use Rattle.text.specs.Faults.{fault}
use Rattle.files.specs.Files.{DrawnAtEnd, ring, large, sound}
use Rattle.circuits.proofs.devices.body.DevicesBody.close.Goals as goal

-- why there is none
declines : (c : Drawn) (order : List (List ℕ)) (o : Obstacle) → Found c order (Err o) → DrawnAtEnd c (Some (reason_of o))
declines c order WaitingRing h = ring h
declines c order LargeComponent h = large h.0 h.1

pub returns-in-Err-clause-found : goal.returns-in-Err-clause-found
returns-in-Err-clause-found c =
    let line = c.args.line.now in
    let order = order_of c.find.new.self in
    let o = c.in-Err.obstacle in
    λ name. (
      Some (reason_of o),
      subst (λ ds. DrawnAtEnd (record { name = name; ins = c.args.ins.now; outs = c.args._outs.now; body = ds }) (Some (reason_of o))) c.deref.ensures.value
          (declines _ order o (c.in-Err.ensures name c.args._outs.now)),
      ap Err (c.fault.ensures ∙ ap (λ w. fault w line.number line.start) c.into.ensures),
    )

pub returns-clause-found : goal.returns-clause-found
returns-clause-found c = λ name. let f = rw c.deref.ensures.value at (c.in_default.ensures name c.args._outs.now) in (None, sound f.1 f.2, refl)

pub returns-clause-kept : goal.returns-clause-kept
returns-clause-kept c = λ name. let f = rw c.deref.ensures.value at (c.in_default.ensures name c.args._outs.now) in f.0

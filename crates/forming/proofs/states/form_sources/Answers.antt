use Rattle.std.proofs.Common.{◌≤◌, refl, ◌∙◌, arith}
use Rattle.cell.proofs.Members.{every_place}
use Rattle.forming.proofs.Sources.{rails_formed, input_formed}
use Rattle.forming.proofs.states.form_sources.Goals as goal

pub loop-i-init : goal.loop-i-init
loop-i-init g c =
    let a = g.A.ChainAlgebra in (
      rails_formed a.ops a.bit c.requires.boolean (a.meaning c.args.alg.now) c.clear_cells.new.cells c.zero-zero.result c.one-one.result
          (omega (arith, c.clear_cells.ensures.long, c.args.states.now.size)) c.clear_cells.ensures.hand c.zero-zero.ensures c.one-one.ensures c.args.ins.now
          c.put.new.self.signs.now c.put-2.new.self.signs.now c.put.ensures.is c.put-2.ensures.is,
      refl,
    )

pub loop-i-preserved : goal.loop-i-preserved
loop-i-preserved g c =
    let a = g.A.ChainAlgebra in
    let input = c.in_ok-may1.ensures in
    let complement = c.in_ok-may0.ensures in (
      input_formed a.bit (a.meaning c.args.alg.now) (a.meaning c.loop-i.alg) (a.meaning c.input.new.self) (a.meaning c.complement.new.self)
          c.args.ins.now c.loop-i.i c.loop-i.states.signs.now c.in_ok-may1.may1 c.in_ok-may0.may0 input.0 complement.0
          (every_place (λ x. x ≤ 127) c.args.ins.now c.loop-i.i 0 c.loop-i-test.true c.requires.ins) c.loop-i-test.true c.loop-i.invariant.0
          input.2.0.stays input.1 input.2.1 complement.2.0.stays complement.1 complement.2.1
          c.put-in-loop-i.new.self.signs.now c.put-in-loop-i.ensures.is,
      c.put-in-loop-i.ensures.same_reference ∙ c.loop-i.invariant.1,
    )

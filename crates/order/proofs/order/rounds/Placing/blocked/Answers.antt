use Rattle.std.proofs.Common.{ℕ, Option, take, ◌+◌, sym, subst}
use Rattle.std.proofs.lemmas.Bool.{both_ways}
use Rattle.order.proofs.Blocking.{Marks, MarksAlso, blocked_none, skipped, marked_ends}
use Rattle.order.proofs.order.rounds.Placing.blocked.Goals as goal
use Rattle.order.proofs.order.rounds.Placing.blocked.Goals.{then-is_pending, else-is_pending}

pub loop-device-init : goal.loop-device-init
loop-device-init c = blocked_none c.args.self.now.labels c.args.self.now.placed

pub loop-device-preserved : goal.loop-device-preserved
loop-device-preserved c =
    let labels = c.args.self.now.labels in
    let placed = c.args.self.now.placed in
    let devices = c.args.self.now.devices.now in
    let marks = Marks labels placed (take (c.loop-device.device-index + 1) devices) in
    elim c.if-is_pending.branch [
      | then-is_pending w ↦
          subst marks (sym w.blocked-is)
          (marked_ends labels placed devices c.loop-device.device-index _ c.loop-device.blocked c.loop-device-test.true c.loop-device.invariant
          w.mark.new.table w.mark-then-is_pending.new.table (c.is_pending.ensures.0 w.if-is_pending.true)
          (subst (λ (v : Option ℕ). MarksAlso v c.loop-device.blocked w.mark.new.table) w.of.ensures.label w.mark.ensures)
          (subst (λ (v : Option ℕ). MarksAlso v w.mark.new.table w.mark-then-is_pending.new.table) w.of-then-is_pending.ensures.label w.mark-then-is_pending.ensures))
      | else-is_pending w ↦
          subst marks (sym w.blocked-is)
          (skipped labels placed devices c.loop-device.device-index _ c.loop-device.blocked c.loop-device-test.true c.loop-device.invariant
          (λ p. both_ways c.is_pending.result w.if-is_pending.false (c.is_pending.ensures.1 p)))
    ]

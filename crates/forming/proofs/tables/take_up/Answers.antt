use Rattle.std.proofs.Common.{refl, ◌∙◌, true, false, subst, inl, inr, rules}
use Rattle.std.proofs.lemmas.Result.{MatchResult-weaker}
use Rattle.forming.specs.Systems.{Reached}
use Rattle.paths.proofs.Holding.{stays_same, stays_then}
use Rattle.forming.proofs.Raising.{raised_at}
use Rattle.forming.proofs.Marking.{marks_may, marks_sure, marks_state, marks_stay, marks_meet, end_numbered}
use Rattle.forming.proofs.Taking.{takes_at, take_idle, take_link, take_drive}
use Rattle.forming.proofs.tables.take_up.Goals as goal

pub returns-in_default-clause-taken : goal.returns-in_default-clause-taken
returns-in_default-clause-taken g c =
    let a = g.A.ChainAlgebra in
    let m = a.meaning c.args.alg.now in
    let hand = c.requires.hand in
    take_idle a.ops a.bit m c.args.work.now.states.signs.now c.args.component.nets.now c.args.device.now
    c.args.component.formable.distinct hand.states hand.may hand.sure (stays_same m) (inr c.in_default.ensures)

pub join_link-requires-clause-sign : goal.join_link-requires-clause-sign
join_link-requires-clause-sign g c =
    let a = g.A.ChainAlgebra in
    let states = c.args.work.now.states in
    let conducts = marks_may a.bit (a.meaning c.args.alg.now) states.signs.now states.size c.requires.hand.states c.args.device.now c.requires.device
    c.conducts_at-opens.result c.conducts_at-opens.ensures c.sign-conducts.result (c.sign-conducts.ensures _) in
    c.in_ok-surely.ensures.2.0.stays.hand _ conducts.hand

pub returns-in_ok-join_link-in-Link-clause-taken : goal.returns-in_ok-join_link-in-Link-clause-taken
returns-in_ok-join_link-in-Link-clause-taken g c =
    let a = g.A.ChainAlgebra in
    let formed = c.in_ok-surely.ensures in
    let m = a.meaning c.args.alg.now in
    let states = c.args.work.now.states in
    let hand = c.requires.hand in
    let conducts = marks_may a.bit m states.signs.now states.size hand.states c.args.device.now c.requires.device
    c.conducts_at-opens.result c.conducts_at-opens.ensures c.sign-conducts.result (c.sign-conducts.ensures _) in
    let surely = marks_sure a.bit m states.signs.now states.size hand.states c.args.device.now c.requires.device
    c.conducts_at-opens.result c.conducts_at-opens.ensures c.sign.result _ formed.0 (c.sign.ensures _) formed.1 formed.2.1 in
    let may = c.table_of.ensures in
    let sure = c.table_of-in-Link.ensures in
    MatchResult-weaker c.join_link-in-Link.result c.join_link-in-Link.ensures.raised
    (λ _ raised. takes_at (take_link a.ops a.bit m states.signs.now c.args.component.nets.now c.args.device.now
    c.args.component.formable.distinct hand.states hand.may hand.sure conducts formed.2.0.stays surely
    c.in-Link.p c.in-Link.q (subst (Reached c.args.component.nets.now c.args.device.now) c.in-Link.is c.in-Some.ensures) (raised_at may.1 may.2 may.3 c.in_ok-join_link-in-Link.ensures.raised) (raised_at sure.1 sure.2 sure.3 raised))
    (search rules) (search rules))
    (λ _ spent. spent)

pub returns-in_ok-join_cell-in-Drive-2-clause-taken : goal.returns-in_ok-join_cell-in-Drive-2-clause-taken
returns-in_ok-join_cell-in-Drive-2-clause-taken g c =
    let a = g.A.ChainAlgebra in
    let m = a.meaning c.args.alg.now in
    let states = c.args.work.now.states in
    let nets = c.args.component.nets.now in
    let hand = c.requires.hand in
    let formed = c.in_ok-surely.ensures in
    let first = formed.2.0.stays in
    let second = c.in_ok-one-in-Drive.ensures.0.stays in
    let raised = c.in_ok-join_cell-in-Drive.ensures.raised in
    let third = c.in_ok-zero-in-Drive.ensures.0.stays in
    let same = c.in_ok-join_cell-in-Drive.ensures.same in
    let may = c.table_of-may.ensures in
    let sure = c.table_of-in-Drive.ensures in
    let again = raised_at refl (same.1 ∙ may.2) (same.2 ∙ may.3) c.in_ok-join_cell-in-Drive-2.ensures.raised in
    let reached = subst (Reached nets c.args.device.now) c.in-Drive.is c.in-Some.ensures in
    let source = c.at-source.result in
    let low = end_numbered c.args.device.now _ c.in-Drive.source c.requires.device reached.1 in
    let conducts = marks_may a.bit m states.signs.now states.size hand.states c.args.device.now c.requires.device
    c.conducts_at-opens.result c.conducts_at-opens.ensures c.sign-conducts.result (c.sign-conducts.ensures _) in
    let surely = marks_sure a.bit m states.signs.now states.size hand.states c.args.device.now c.requires.device
    c.conducts_at-opens.result c.conducts_at-opens.ensures c.sign.result _ formed.0 (c.sign.ensures _) formed.1 formed.2.1 in
    let may1 = marks_state a.bit m states.signs.now states.size hand.states
    c.in-Drive.source true source.may1 low (c.at-source.ensures true source.may1) in
    let may0 = marks_state a.bit m states.signs.now states.size hand.states
    c.in-Drive.source false source.may0 low (c.at-source.ensures false source.may0) in
    let till = stays_then first (stays_then second raised.stays) in
    MatchResult-weaker c.join_cell-in-Drive-2.result c.join_cell-in-Drive-2.ensures.raised
    (λ _ last. takes_at (take_drive a.ops a.bit m states.signs.now nets c.args.device.now
    c.args.component.formable.distinct hand.states hand.may hand.sure conducts first surely c.in-Drive.p c.in-Drive.source reached
    second (marks_meet c.requires.boolean (marks_stay first conducts) (marks_stay first may1) c.in_ok-one-in-Drive.ensures.1) (raised_at may.1 may.2 may.3 raised)
    third (marks_meet c.requires.boolean (marks_stay till conducts) (marks_stay till may0) c.in_ok-zero-in-Drive.ensures.1)
    again (raised_at sure.1 sure.2 sure.3 last))
    (search rules) (search rules))
    (λ _ spent. spent)

pub returns-in-Loop-clause-taken : goal.returns-in-Loop-clause-taken
returns-in-Loop-clause-taken g c =
    let a = g.A.ChainAlgebra in
    let nets = c.args.component.nets.now in
    let device = c.args.device.now in
    let hand = c.requires.hand in
    take_idle a.ops a.bit (a.meaning c.args.alg.now) c.args.work.now.states.signs.now nets device
    c.args.component.formable.distinct hand.states hand.may hand.sure c.in_ok-surely.ensures.2.0.stays
    (inl (subst (Reached nets device) c.in-Loop.is c.in-Some.ensures))

use Rattle.std.proofs.Common.{◌≡◌, ◌+◌, length, sym, ◌∙◌, subst₂, arith, rules}
use Rattle.forming.specs.Components.{NetFormed, ComponentFormed}
use Rattle.forming.proofs.Keeping.{hand_stays}
use Rattle.forming.proofs.Raising.{table_fits}
use Rattle.forming.proofs.Formed.{FormedTill, formed_more}
use Rattle.forming.proofs.Whole.{solved_at, component_formed}
use Rattle.forming.proofs.component.form_component.Goals as goal

pub loop-place-preserved : goal.loop-place-preserved
loop-place-preserved g c =
    let a = g.A.ChainAlgebra in
    let m2 = a.meaning c.solve.new.alg in
    let m3 = a.meaning c.solve-2.new.alg in
    let m = a.meaning c.loop-place.alg in
    let m' = a.meaning c.net_state.new.alg in
    let w = c.loop-place.work in
    let nets = c.args.component.nets.now in
    let states = c.fill.new.work.states.signs.now in
    let n = c.loop-place.place in
    let may = c.solve.new.self.signs.now in
    let sure = c.solve-2.new.self.signs.now in
    let second = c.in_ok-solve-2.ensures.solving in
    let before = c.loop-place.invariant in
    let may_is : w.may.now ≡ may = before.2 ∙ search rules in
    let sure_is : w.sure.now ≡ sure = before.3 ∙ search rules in
    let till = subst₂ (λ x y. FormedTill a.ops a.bit m3 m nets x y states w.states.signs.now n) (sym before.2 ∙ may_is) (sym before.3 ∙ sure_is) before.0 in
    let net = subst₂ (λ x y. NetFormed a.ops a.bit m m' (length nets) n x y c.in_ok-state.state) may_is sure_is c.in_ok-state.ensures in
    let next = formed_more a.ops a.bit m3 m m' nets may sure states w.states.signs.now n c.in_ok-state.state
    c.args.component.formable (hand_stays {m = m2} {m' = m3} second.went.stays may c.in_ok-solve.ensures.solving.in_hand) second.in_hand
    w.states.size c.loop-place-test.true till net c.put.new.self.signs.now c.put.ensures.is in (
      subst₂ (λ x y. FormedTill a.ops a.bit m3 m' nets x y states c.put.new.self.signs.now (n + 1)) (sym may_is ∙ before.2) (sym sure_is ∙ before.3) next,
      omega arith,
      before.2,
      before.3,
    )

pub returns-clause-formed : goal.returns-clause-formed
returns-clause-formed g c =
    let a = g.A.ChainAlgebra in
    let m0 = a.meaning c.args.alg.now in
    let m3 = a.meaning c.solve-2.new.alg in
    let m = a.meaning c.loop-place.alg in
    let w = c.args.work.now in
    let w' = c.loop-place.work in
    let filled = c.fill.new.work in
    let nets = c.args.component.nets.now in
    let may = c.solve.new.self.signs.now in
    let sure = c.solve-2.new.self.signs.now in
    let before = c.loop-place.invariant in
    let may_is : w'.may.now ≡ may = before.2 ∙ search rules in
    let sure_is : w'.sure.now ≡ sure = before.3 ∙ search rules in
    let made_may = c.table_of.ensures in
    let made_sure = c.table_of-2.ensures in
    let done : c.loop-place.place ≡ length nets = omega arith in
    let till = subst₂ (λ x y. FormedTill a.ops a.bit m3 m nets x y filled.states.signs.now w'.states.signs.now c.loop-place.place) (sym before.2 ∙ may_is) (sym before.3 ∙ sure_is) before.0 in
    let may_kept : length may ≡ length filled.may.now = search rules in
    let sure_kept : length sure ≡ length filled.sure.now = search rules in
    let may_long = may_kept ∙ c.in_ok-fill.ensures.filled.worked.may_long in
    let sure_long = sure_kept ∙ c.in_ok-fill.ensures.filled.worked.sure_long in
    let states_long : length w'.states.signs.now ≡ length w.states.signs.now = omega (arith, w.states.size, w'.states.size) in
    subst₂ (λ x y. ComponentFormed a.bit m0 m c.args.devices.devices.now nets w.states.signs.now w'.states.signs.now w.may.now x w.sure.now y) (sym may_is) (sym sure_is)
    (component_formed a.keeps a.ops a.bit c.requires.boolean m0 (a.meaning c.fill.new.alg) (a.meaning c.solve.new.alg) m3 m
    c.args.devices.devices.now nets w.states.signs.now w'.states.signs.now w.may.now filled.may.now may w.sure.now filled.sure.now sure
    c.requires.hand.states c.in_ok-fill.ensures.filled
    (solved_at made_may.1 made_may.2 made_may.3 c.in_ok-solve.ensures.solving)
    (solved_at made_sure.1 made_sure.2 made_sure.3 c.in_ok-solve-2.ensures.solving)
    (subst₂ (λ s n. FormedTill a.ops a.bit m3 m nets may sure s w'.states.signs.now n) c.in_ok-fill.ensures.same.1 done till)
    (omega (arith, table_fits (length nets) 2 c.args.component.formable.few (omega arith), may_long, w.may_room))
    (omega (arith, table_fits (length nets) 1 c.args.component.formable.few (omega arith), sure_long, w.sure_room))
    may_long sure_long states_long)

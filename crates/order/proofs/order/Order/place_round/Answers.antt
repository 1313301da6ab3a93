use Rattle.std.proofs.Common.{◌≡◌, ◌+◌, ◌≤◌, ◌++◌, ◌∷◌, [], length, set, true, false, sym, ap, ◌∙◌, subst, arith}
use Rattle.std.proofs.lemmas.Bool.{both_ways}
use Rattle.order.specs.declared.labels.Labels.{Labels}
use Rattle.order.specs.declared.order.rounds.Placing.{Placing}
use Rattle.order.specs.Placing.{nets_in, sizes_in, nets_with, marked, Unplaced, OthersAlone}
use Rattle.order.proofs.Arranging.{nets_room, sizes_room}
use Rattle.order.proofs.Nets.{nets_alone}
use Rattle.order.proofs.Round.{round_same, round_passes, round_places}
use Rattle.order.proofs.order.Order.place_round.Goals as goal
use Rattle.order.proofs.order.Order.place_round.Goals.{then-is_unplaced+then-not-blocked-from, else-is_unplaced}
use Rattle.order.proofs.order.Order.place_round.Goals.{else-is_unplaced-via-then-is_unplaced+else-not-blocked-from}
use Rattle.order.proofs.order.Order.place_round.Goals.{else-is_unplaced-via-else-is_unplaced}

pub place-requires : goal.place-requires
place-requires c =
    let same = c.loop-label.invariant.labels in
    let label = c.loop-label.label in
    let placed = c.loop-label.placing.placed in
    let arranged = c.loop-label.invariant.round.arranged in
    let unplaced = subst (λ (v : Labels). Unplaced v placed label) same (c.is_unplaced.ensures.0 c.if-is_unplaced.true) in
    record {
      number = omega arith;
      alone = λ m.
          nets_alone c.loop-label.placing.labels c.loop-label.placing.shared label
          (subst (λ (v : Labels). OthersAlone v c.loop-label.placing.shared) (sym same)
          (subst (λ shared. OthersAlone c.args.placing.now.labels shared) (sym c.loop-label.invariant.shared) c.requires.shared))
          (c.is_unplaced.ensures.0 c.if-is_unplaced.true).component.own (omega arith)
          (subst (λ k. marked c.loop-label.placing.shared k ≡ false) c.from-then-not-blocked-from.ensures m);
      nets =
          subst (λ (v : Labels). length (nets_in c.loop-label.self) + length (nets_with v label) ≤ 128) (sym same)
          (nets_room _ _ placed _ _ arranged label unplaced);
      sizes = sizes_room _ _ placed _ _ arranged label unplaced;
    }

pub loop-label-preserved : goal.loop-label-preserved
loop-label-preserved c =
    let same = c.loop-label.invariant.labels in
    let label = c.loop-label.label in
    let placed = c.loop-label.placing.placed in
    let round = c.loop-label.invariant.round in
    let sizes = sizes_in c.loop-label.self in
    let nets = nets_in c.loop-label.self in
    elim c.if-is_unplaced.branch [
      | then-is_unplaced+then-not-blocked-from w ↦
          record {
            labels = ap (λ (p : Placing). p.labels) w.placing-is ∙ same;
            devices = ap (λ (p : Placing). p.devices.now) w.placing-is ∙ c.loop-label.invariant.devices;
            shared = ap (λ (p : Placing). p.shared) w.placing-is ∙ c.loop-label.invariant.shared;
            round =
                round_same
                (ap (λ (p : Placing). p.placed) w.placing-is ∙ ap (λ k. set placed k true) w.from-then-not-blocked-from-2.ensures)
                (ap nets_in w.self-is ∙ (w.place.ensures.nets ∙ ap (λ (v : Labels). nets ++ nets_with v label) same))
                (ap sizes_in w.self-is ∙ (w.place.ensures.sizes ∙ ap (λ (v : Labels). sizes ++ length (nets_with v label) ∷ []) same)) w.any-is
                (round_places _ _ _ _ c.blocked-blocked.ensures _ _ _ _ _ _ round
                (subst (λ (v : Labels). Unplaced v placed label) same (c.is_unplaced.ensures.0 w.if-is_unplaced.true))
                (subst (λ k. marked c.blocked-blocked.result k ≡ false) w.from.ensures w.if-not-blocked-from.true));
          }
      | else-is_unplaced w ↦
          record {
            labels = ap (λ (p : Placing). p.labels) w.placing-is ∙ same;
            devices = ap (λ (p : Placing). p.devices.now) w.placing-is ∙ c.loop-label.invariant.devices;
            shared = ap (λ (p : Placing). p.shared) w.placing-is ∙ c.loop-label.invariant.shared;
            round =
                round_same (ap (λ (p : Placing). p.placed) w.placing-is) (ap nets_in w.self-is) (ap sizes_in w.self-is) w.any-is
                (round_passes _ _ _ _ c.blocked-blocked.ensures _ _ _ _ _ _ round
                (elim w.else-is_unplaced.branch [
                  | else-is_unplaced-via-then-is_unplaced+else-not-blocked-from v ↦ λ u.
                      subst (λ k. marked c.blocked-blocked.result k ≡ true) v.from.ensures v.if-not-blocked-from.false
                  | else-is_unplaced-via-else-is_unplaced v ↦ λ u.
                      absurd
                      (both_ways c.is_unplaced.result v.if-is_unplaced.false
                      (c.is_unplaced.ensures.1 (subst (λ (v : Labels). Unplaced v placed label) (sym same) u)))
                ]));
          }
    ]

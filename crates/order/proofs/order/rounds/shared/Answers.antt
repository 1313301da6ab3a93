use Rattle.std.proofs.Common.{◌≡◌, false, not, sym, ap, ◌∙◌, subst, inl, inr, ⊎_elim, arith}
use Rattle.std.proofs.lemmas.Bool.{both_ways, cases_Bool}
use Rattle.std.proofs.lemmas.Option.{same_Some}
use Rattle.cell.proofs.Finite.{same}
use Rattle.order.specs.Components.{label_of}
use Rattle.order.specs.Labels.{is_label}
use Rattle.order.specs.Placing.{marked}
use Rattle.order.proofs.Tests.{same_label, is_label-false}
use Rattle.order.proofs.order.rounds.shared.Goals as goal
use Rattle.order.proofs.order.rounds.shared.Goals.{then-ne, else-ne}

pub loop-net-preserved : goal.loop-net-preserved
loop-net-preserved c x label lt is m =
    let labels = c.args.labels.now in
    let net = c.loop-net.net in
    elim c.if-ne.branch [
      | then-ne w ↦
          let clear = subst (λ t. marked t label ≡ false) w.shared-is m in
          ⊎_elim
          (λ e. absurd (both_ways _ clear ((w.mark.ensures label).1 (inl (c.of-label.ensures.label ∙ ap (label_of labels) (sym e) ∙ is)))))
          (λ ne.
          ⊎_elim
          (λ old. absurd (both_ways _ clear ((w.mark.ensures label).1 (inr old))))
          (λ old. c.loop-net.invariant x label (omega arith) is old)
          (cases_Bool (marked c.loop-net.shared label)))
          (same x net)
      | else-ne w ↦
          ⊎_elim
          (λ e.
          ⊎_elim
          (λ own. e ∙ same_Some net label (sym own ∙ ap (label_of labels) (sym e) ∙ is))
          (λ other. absurd (both_ways c.ne.result w.if-ne.false (c.ne.ensures ∙ ap not (ap (λ o. is_label o net) c.of-label.ensures.label ∙ is_label-false (label_of labels net) net other))))
          (same_label (label_of labels net) net))
          (λ ne. c.loop-net.invariant x label (omega arith) is (subst (λ t. marked t label ≡ false) w.shared-is m))
          (same x net)
    ]

pub returns : goal.returns
returns c x label low is m = c.loop-net.invariant x label (omega arith) is m

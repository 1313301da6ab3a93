use Rattle.std.proofs.Common.{◌≤◌, get_or, set, ◌≡◌, map, take, ◌++◌, sym, ap, ◌∙◌, subst, arith}
use Rattle.std.proofs.lemmas.List.{get_or_default, length-set, take_all, drop_all, append-nil}
use Rattle.std.proofs.lemmas.List.Edits.{map_over_more}
use Rattle.std.proofs.lemmas.List.Elements.{All-set}
use Rattle.order.specs.Labels.{renumbered}
use Rattle.order.proofs.Tests.{renumbered_low, relabelled}
use Rattle.order.proofs.labels.Labels.rename.Goals as goal

pub loop-number-preserved : goal.loop-number-preserved
loop-number-preserved c =
    let part = c.loop-number.number-items in
    let i = c.loop-number.number-index in
    let numbers = c.args.self.now.numbers in
    let next = renumbered c.args.from c.args.to in
    record {
      long = length-set part i c.renumbered.result ∙ c.loop-number.invariant.long;
      renamed_before =
          ap (set part i) c.renumbered.ensures
          ∙ map_over_more next numbers part i (get_or part i 0) (omega arith) c.loop-number.invariant.renamed_before
          (get_or_default part i 0 (get_or part i 0) (omega (arith, c.loop-number.invariant.long)));
      low =
          All-set (λ number. number ≤ 127) part i c.renumbered.result
          (subst (λ n. n ≤ 127) (sym c.renumbered.ensures)
          (renumbered_low c.args.from c.args.to (get_or part i 0) c.requires (c.loop-number.invariant.low i 0 (omega (arith, c.loop-number.invariant.long)))))
          c.loop-number.invariant.low;
    }

pub returns : goal.returns
returns c x =
    let self = c.args.self.now in
    let next = renumbered c.args.from c.args.to in
    let i = c.loop-number.number-index in
    let all : c.loop-number.number-items ≡ map next self.numbers =
    c.loop-number.invariant.renamed_before
    ∙ ap (λ rest. map next (take i self.numbers) ++ rest) (drop_all i self.numbers (omega (arith, self.long)))
    ∙ append-nil (map next (take i self.numbers)) ∙ ap (map next) (take_all i self.numbers (omega (arith, self.long))) in
    relabelled c.args.from c.args.to self.numbers c.loop-number.number-items self.inner x self.long self.wide all

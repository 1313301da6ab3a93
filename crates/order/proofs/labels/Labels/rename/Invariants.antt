use Rattle.std.proofs.Common.{◌≡◌, ◌≤◌, ◌++◌, length, map, take, drop, All}
use Rattle.order.specs.Labels.{renumbered}
use Rattle.order.proofs.labels.Labels.rename.Given as goal

abbrev pub invariant-loop-number : goal.invariant-loop-number
invariant-loop-number l =
    record {
      long : length l.number-items ≡ 128;
      renamed_before :
          l.number-items ≡ map (renumbered l.from l.to) (take l.number-index l.fn.self.numbers) ++ drop l.number-index l.fn.self.numbers;
      low : All (λ number. number ≤ 127) l.number-items;
    }

use Rattle.std.proofs.Common.{◌≡◌, length}
use Rattle.console.proofs.print_row.Given as goal

abbrev pub invariant-loop-word : goal.invariant-loop-word
invariant-loop-word l = length l.states.items ≡ l.word-index

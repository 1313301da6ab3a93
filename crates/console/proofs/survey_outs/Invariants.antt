use Rattle.std.proofs.Common.{◌≡◌, length}
use Rattle.console.proofs.survey_outs.Given as goal

abbrev pub invariant-loop-net : goal.invariant-loop-net
invariant-loop-net l = length l.words.items ≡ l.net-index

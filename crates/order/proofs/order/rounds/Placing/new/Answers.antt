use Rattle.std.proofs.Common.{false}
use Rattle.order.proofs.Members.{get_or_replicated}
use Rattle.order.proofs.order.rounds.Placing.new.Goals as goal

pub returns-clause-placed : goal.returns-clause-placed
returns-clause-placed c label = get_or_replicated 128 label false

use Rattle.std.proofs.Common.{arith}
use Rattle.std.proofs.lemmas.List.{take_more_set}
use Rattle.records.proofs.Nets.push.Goals as goal

pub returns-clause-nets : goal.returns-clause-nets
returns-clause-nets c = take_more_set c.args.self.now.at c.args.self.now.count c.args.net (omega arith)

use Rattle.std.proofs.Common.{inl, arith}
use Rattle.text.proofs.Splits.{fields_few}
use Rattle.text.proofs.lines.Fields.count.Goals as goal

pub count-requires-clause-fits : goal.count-requires-clause-fits
count-requires-clause-fits c = inl (omega (arith, fields_few c.args.self))

use Rattle.std.proofs.Common.{rules, eqb}
use Rattle.std.proofs.lemmas.Iterator.Splits.{YieldsList-from_slice_split}
use Rattle.std.proofs.lemmas.Iterator.Search.{all_from_yields_List}
use Rattle.text.specs.Lines.{field_formed}
use Rattle.text.proofs.lines.reading.formed.Goals as goal

pub returns : goal.returns
returns c = all_from_yields_List field_formed _ _ c.all.result c.all.ensures.ran (YieldsList-from_slice_split _ (λ b. eqb b 9) c.args.bytes.now c.split.ensures.rest c.split.ensures.done c.split.ensures.closure (λ x b q k. search rules)) (λ x b q k. search rules)

use Rattle.std.proofs.Common.{◌≤◌, ◌&&◌, length, sym, ap, ◌∙◌, rules, arith}
use Rattle.std.specs.List.{list_all}
use Rattle.std.proofs.lemmas.Bool.{and_from, le-leb, eqb-false}
use Rattle.std.proofs.lemmas.Iterator.{YieldsList-from_slice}
use Rattle.std.proofs.lemmas.Iterator.Search.{all_from_yields_List}
use Rattle.records.specs.Numbers.{is_name_byte}
use Rattle.records.proofs.fields.is_name.Goals as goal

pub returns-then-bytes-le-NAME : goal.returns-then-bytes-le-NAME
returns-then-bytes-le-NAME c =
    let bs = c.args.bytes.now in
    let some : 1 ≤ length bs = omega (arith, eqb-false _ 0 (sym c.is_empty.ensures ∙ c.if-bytes-le-NAME.true.0)) in
    let good = all_from_yields_List is_name_byte _ _ c.all.result c.all.ensures.ran (YieldsList-from_slice bs c.iter.ensures.rest) (λ x b q k. search rules) in
    good ∙ sym (ap (λ t. t && list_all is_name_byte bs) (and_from _ _ (le-leb 1 _ some) (le-leb _ 16 c.if-bytes-le-NAME.true.1)))

use Rattle.std.proofs.Common.{◌≡◌, ℕ, false, eqb, [], ◌∷◌, List, length, refl, ◌∙◌, sym, rules}
use Rattle.std.specs.List.{list_all}
use Rattle.std.proofs.lemmas.Iterator.{YieldsList-from_slice}
use Rattle.std.proofs.lemmas.Iterator.Search.{all_from_yields_List}
use Rattle.text.specs.Lines.{graphic, field_formed}
use Rattle.text.proofs.Steps.{off_on}
use Rattle.text.proofs.lines.reading.is_field.Goals as goal

some : (bs : List ℕ) → eqb (length bs) 0 ≡ false → field_formed bs ≡ list_all graphic bs
some [] h = off_on (sym h)
some (b ∷ bs) h = refl

pub returns-then-not-is_empty : goal.returns-then-not-is_empty
returns-then-not-is_empty c = all_from_yields_List graphic _ _ c.all.result c.all.ensures.ran (YieldsList-from_slice c.args.bytes.now c.iter.ensures.rest) (λ x b q k. search rules) ∙ sym (some c.args.bytes.now (sym c.is_empty.ensures ∙ c.if-not-is_empty.true))

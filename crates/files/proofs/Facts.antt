-- What the law of reading needs of a format. Assumes nothing.
use Rattle.std.proofs.Common.{◌≡◌, ℕ, ◌≤◌, true, List, length, Some, None, Option}
use Rattle.cell.specs.Circuits.{Circuit, Numbered}
use Rattle.text.specs.declared.fault.Reason.{Reason}
use Rattle.text.specs.Lines.{field_formed}
use Rattle.records.specs.Formats.{Format, NetAt}
use Rattle.records.specs.declared.Word.TheVariants.{Item}
use Rattle.records.specs.Records.{word_of, values}

pub record FormatFacts {K I : Type 0} (f : Format K I) : Type 0 where
  -- the words of the kinds
  pub found : (k : K) → word_of f (f.word k) ≡ Some (Item k)
  pub field : (k : K) → field_formed (f.word k) ≡ true
  pub short : (k : K) → length (f.word k) ≤ 4
  -- items and their nets
  pub back : (i : I) → f.item (f.kind i) (f.nets i) ≡ i
  pub kind_of : (k : K) (xs : List ℕ) → f.takes k (length xs) ≡ true → f.kind (f.item k xs) ≡ k
  pub nets_of_lem : (k : K) (xs : List ℕ) → f.takes k (length xs) ≡ true → f.nets (f.item k xs) ≡ xs
  pub most : f.most ≤ 256
  pub nine : (k : K) (m : ℕ) → f.takes k m ≡ true → m ≤ 9
  -- the rule of an item is what is looked at when it is read
  pub ruled : (ins : List ℕ) (items : List I) (k : K) (xs : List NetAt) → f.takes k (length xs) ≡ true → Numbered (values xs) → f.barred ins items xs ≡ None → f.Rule ins items (f.item k (values xs))
  pub takes : (ins : List ℕ) (items : List I) (i : I) → f.Rule ins items i → f.takes (f.kind i) (length (f.nets i)) ≡ true
  pub numbered : (ins : List ℕ) (items : List I) (i : I) → f.Rule ins items i → Numbered (f.nets i)
  pub allowed : (ins : List ℕ) (items : List I) (i : I) → f.Rule ins items i → (xs : List NetAt) → values xs ≡ f.nets i → f.barred ins items xs ≡ None
  -- one finding at END
  pub once : (c : Circuit I) (a b : Option Reason) → f.AtEnd c a → f.AtEnd c b → a ≡ b

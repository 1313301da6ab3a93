-- The circuits that a file can say, and the law of reading. Assumes nothing.
use Rattle.std.specs.Prelude.{◌≡◌, ℕ, ◌≤◌, true, ◌↔◌, List, [], length, None, Ok, Result}
use Rattle.cell.specs.Lists.{In, Along}
use Rattle.cell.specs.Circuits.{Circuit, FreshIn}
use Rattle.text.specs.declared.fault.Fault.{Fault}
use Rattle.records.specs.Numbers.{spells_name}
use Rattle.records.specs.Formats.{Format}
use Rattle.files.specs.Reading.{Reads}
use Rattle.files.specs.Written.{written}

-- an OUT is no rail, no IN and no earlier OUT
pub record FreshOut (ins earlier : List ℕ) (x : ℕ) : Type 0 where
  pub no_rail : 2 ≤ x
  pub number : x ≤ 127
  pub no_in : ¬ (In x ins)
  pub new : ¬ (In x earlier)

pub record Lawful {K I : Type 0} (f : Format K I) (c : Circuit I) : Type 0 where
  pub name : spells_name c.name ≡ true
  pub ins : Along FreshIn [] c.ins
  pub few_ins : length c.ins ≤ 16
  pub outs : Along (FreshOut c.ins) [] c.outs
  pub some_outs : 1 ≤ length c.outs
  pub few_outs : length c.outs ≤ 16
  pub body : Along (f.Rule c.ins) [] c.body
  pub few_items : length c.body ≤ f.most
  pub end : f.AtEnd c None

-- THE LAW OF READING: a text is read as a circuit exactly where the circuit is lawful and the text is the one written of it
abbrev pub ReadExactly : {K I : Type 0} → Format K I → List ℕ → Type 0
ReadExactly {I = I} f text = (c : Circuit I) → Reads f text (Ok c) ↔ (Lawful f c × (text ≡ written f c))

-- and a text is read in one way only
abbrev pub ReadOneWay : {K I : Type 0} → Format K I → List ℕ → Type 0
ReadOneWay {I = I} f text = (r s : Result (Circuit I) Fault) → Reads f text r → Reads f text s → r ≡ s

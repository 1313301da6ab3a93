-- What sets the two files apart: the body. Assumes nothing.
use Rattle.std.specs.Prelude.{ℕ, Bool, List, Option}
use Rattle.text.specs.declared.fault.Reason.{Reason}
use Rattle.cell.specs.Circuits.{Circuit}

-- a net number, with the place of its field in the text
pub record NetAt : Type 0 where
  pub place : ℕ
  pub value : ℕ

-- Kind: the kinds of record that a body has; Item: what such a record says
pub record Format (Kind Item : Type 0) : Type 1 where
  pub kinds : List Kind
  -- the record word of a kind
  pub word : Kind → List ℕ
  -- how many nets a record of a kind may list
  pub takes : Kind → ℕ → Bool
  -- the most records of the body
  pub most : ℕ
  -- the item that a record of a kind says by its nets, and back
  pub item : Kind → List ℕ → Item
  pub kind : Item → Kind
  pub nets : Item → List ℕ
  -- after these inputs and items: whether an item may come, and the place of its record's first net that is not allowed
  pub Rule : List ℕ → List Item → Item → Type 0
  pub barred : List ℕ → List Item → List NetAt → Option ℕ
  -- the reason, if any, to decline the circuit when END is read
  pub AtEnd : Circuit Item → Option Reason → Type 0

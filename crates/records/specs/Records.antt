-- The records of a file, of either kind. Assumes nothing.
use Rattle.std.specs.Prelude.{◌≡◌, ℕ, Bool, true, false, cond, ◌||◌, List, [], ◌∷◌, map, length, Some, None, Ok, Err, codes, Option, Result}
use Rattle.std.specs.List.{find}
use Rattle.std.specs.Option.{ok_or, option_map}
use Rattle.std.specs.Str.{bytes_eq}
use Rattle.cell.specs.Circuits.{Numbered}
use Rattle.text.specs.declared.fault.Fault.{Fault}
use Rattle.text.specs.declared.fault.Reason.TheVariants.{UnknownWord, OutOfTurn, FieldCount, BadField}
use Rattle.text.specs.Faults.{fault}
use Rattle.text.specs.Outcomes.{and_then, map_ok}
use Rattle.text.specs.Lines.{Part, only_one, is_nil}
use Rattle.records.specs.Formats.{Format, NetAt}
use Rattle.records.specs.declared.Stage.{Stage}
use Rattle.records.specs.declared.Stage.TheVariants.{Opening, Inputs, Outputs, Body, Closed}
use Rattle.records.specs.declared.Word.{Word}
use Rattle.records.specs.declared.Word.TheVariants.{Cell, In, Out, Item, End}
use Rattle.records.specs.Numbers.{net_of, spells_name}

-- The record words. A word is found where its bytes are the whole field.

abbrev pub looked : {W : Type 0} → (W → List ℕ) → List W → List ℕ → Option W
looked word ws bs = find (λ w. bytes_eq bs (word w)) ws

abbrev pub head_word : {K : Type 0} → Word K → List ℕ
head_word Cell = codes "CELL"
head_word In = codes "IN"
head_word Out = codes "OUT"
head_word (Item k) = []
head_word End = codes "END"

-- a word that both files have, or else one of the body's
abbrev pub or_else : {X : Type 0} → Option X → Option X → Option X
or_else None y = y
or_else (Some x) y = Some x

abbrev pub word_of : {K I : Type 0} → Format K I → List ℕ → Option (Word K)
word_of f bs = or_else (looked head_word (Cell ∷ In ∷ Out ∷ End ∷ []) bs) (option_map Item (looked f.word f.kinds bs))

-- Turns: which records may follow what was read last.

abbrev pub last_read : {K : Type 0} → Word K → Stage
last_read Cell = Inputs
last_read In = Inputs
last_read Out = Outputs
last_read (Item k) = Body
last_read End = Closed

abbrev pub is_cell : {K : Type 0} → Word K → Bool
is_cell Cell = true
is_cell In = false
is_cell Out = false
is_cell (Item k) = false
is_cell End = false

abbrev pub is_in : {K : Type 0} → Word K → Bool
is_in Cell = false
is_in In = true
is_in Out = false
is_in (Item k) = false
is_in End = false

abbrev pub is_out : {K : Type 0} → Word K → Bool
is_out Cell = false
is_out In = false
is_out Out = true
is_out (Item k) = false
is_out End = false

-- a body record or the end
abbrev pub is_late : {K : Type 0} → Word K → Bool
is_late Cell = false
is_late In = false
is_late Out = false
is_late (Item k) = true
is_late End = true

abbrev pub may_follow : {K : Type 0} → Stage → Word K → Bool
may_follow Opening w = is_cell w
may_follow Inputs w = is_in w || is_out w
may_follow Outputs w = is_out w || is_late w
may_follow Body w = is_late w
may_follow Closed w = false

-- what is read last after the word of line n, which starts at place p
abbrev pub turned : {K : Type 0} → Stage → Word K → ℕ → ℕ → Result Stage Fault
turned s w n p = cond (may_follow s w) (Ok (last_read w)) (Err (fault OutOfTurn n p))

-- Fields: what a record says.

pub data Entry (K : Type 0) : Type 0 where
  cell : List ℕ → Entry K
  input : NetAt → Entry K
  output : NetAt → Entry K
  item : K → List NetAt → Entry K
  finish : Entry K

abbrev pub single_field : ℕ → ℕ → List Part → Result Part Fault
single_field n p fs = ok_or (only_one fs) (fault FieldCount n p)

abbrev pub net_at : ℕ → Part → Result NetAt Fault
net_at n f = map_ok (λ v. record { place = f.place; value = v }) (ok_or (net_of f.bytes) (fault BadField n f.place))

-- the first field that is no net number declines
abbrev pub nets_at : ℕ → List Part → Result (List NetAt) Fault
nets_at n [] = Ok []
nets_at n (f ∷ fs) = and_then (net_at n f) (λ x. map_ok (λ xs. x ∷ xs) (nets_at n fs))

abbrev pub name_at : ℕ → Part → Result (List ℕ) Fault
name_at n f = cond (spells_name f.bytes) (Ok f.bytes) (Err (fault BadField n f.place))

-- the nets of a body record: how many there are comes before what they are
abbrev pub nets_counted : (ℕ → Bool) → ℕ → ℕ → List Part → Result (List NetAt) Fault
nets_counted takes n p fs = cond (takes (length fs)) (nets_at n fs) (Err (fault FieldCount n p))

abbrev pub values : List NetAt → List ℕ
values xs = map (λ x. x.value) xs

-- what a body record that is read has: as many nets as its kind takes, each a net number
pub record Proper {K I : Type 0} (f : Format K I) (x : K × List NetAt) : Type 0 where
  pub takes : f.takes x.0 (length x.1) ≡ true
  pub numbers : Numbered (values x.1)

abbrev pub entry_of : {K I : Type 0} → Format K I → ℕ → ℕ → Word K → List Part → Result (Entry K) Fault
entry_of f n p Cell fs = and_then (single_field n p fs) (λ x. map_ok cell (name_at n x))
entry_of f n p In fs = and_then (single_field n p fs) (λ x. map_ok input (net_at n x))
entry_of f n p Out fs = and_then (single_field n p fs) (λ x. map_ok output (net_at n x))
entry_of f n p (Item k) fs = map_ok (item k) (nets_counted (f.takes k) n p fs)
entry_of f n p End fs = cond (is_nil fs) (Ok finish) (Err (fault FieldCount n p))

-- the record of line n, which starts at place p: its word, its turn, its fields
abbrev pub leading_word : {K I : Type 0} → Format K I → ℕ → ℕ → List Part → Result (Word K) Fault
leading_word f n p [] = Err (fault UnknownWord n p)
leading_word f n p (w ∷ fs) = ok_or (word_of f w.bytes) (fault UnknownWord n p)

abbrev pub after_first : List Part → List Part
after_first [] = []
after_first (w ∷ fs) = fs

abbrev pub record_of : {K I : Type 0} → Format K I → Stage → ℕ → ℕ → List Part → Result (Stage × Entry K) Fault
record_of f s n p fs = and_then (leading_word f n p fs) (λ w. and_then (turned s w n p) (λ t. map_ok (λ e. (t, e)) (entry_of f n p w (after_first fs))))

-- Lines and fields of a text. Assumes nothing.
use Rattle.std.specs.Prelude.{◌≡◌, ℕ, ◌+◌, ◌≤◌, Bool, true, false, ◌&&◌, List, [], ◌∷◌, length, drop, Some, None, Ok, Err, Option, Result, nat_le}
use Rattle.std.specs.List.{list_all}
use Rattle.std.specs.Borrow.{Bor}
use Rattle.text.specs.declared.fault.Fault.{Fault}
use Rattle.text.specs.declared.lines.Field.{Field}
use Rattle.text.specs.declared.lines.Line.{Line}
use Rattle.text.specs.Split.{split}
use Rattle.text.specs.declared.fault.Reason.TheVariants.{MalformedLine}
use Rattle.text.specs.Faults.{fault}

-- a byte of a field
abbrev pub graphic : ℕ → Bool
graphic b = nat_le 33 b && nat_le b 126

abbrev pub is_nil : {X : Type 0} → List X → Bool
is_nil [] = true
is_nil (x ∷ xs) = false

-- a field has a byte, and no foreign one
abbrev pub field_formed : List ℕ → Bool
field_formed [] = false
field_formed (b ∷ bs) = list_all graphic (b ∷ bs)

abbrev pub formed : List ℕ → Bool
formed l = list_all field_formed (split 9 l)

-- a part of the text, with its place
pub record Part : Type 0 where
  pub place : ℕ
  pub bytes : List ℕ

-- fields in a row, a tab after each
abbrev pub placed : ℕ → List (List ℕ) → List Part
placed p [] = []
placed p (f ∷ fs) = record { place = p; bytes = f } ∷ placed (p + length f + 1) fs

abbrev pub part_of : Field → Part
part_of f = record { place = f.place; bytes = f.bytes.now }

-- the fields of a line that starts at place p
abbrev pub fields_of : ℕ → List ℕ → List Part
fields_of p l = placed p (split 9 l)

abbrev pub left_len : Option (Bor (List ℕ)) → ℕ
left_len None = 0
left_len (Some r) = length r.now

-- the text from place p on as lines; the last is what has no line feed
abbrev pub lines_from : List ℕ → ℕ → List (List ℕ)
lines_from text p = split 10 (drop p text)

-- the first line is not in form, or has no line feed
abbrev pub Malformed : List (List ℕ) → Type 0
Malformed [] = ⊥
Malformed (l ∷ []) = is_nil l ≡ false
Malformed (l ∷ m ∷ ls) = formed l ≡ false

abbrev pub only_one : List Part → Option Part
only_one [] = None
only_one (a ∷ []) = Some a
only_one (a ∷ b ∷ r) = None

abbrev pub only_three : List Part → Option (Part × Part × Part)
only_three [] = None
only_three (a ∷ []) = None
only_three (a ∷ b ∷ []) = None
only_three (a ∷ b ∷ c ∷ []) = Some (a, b, c)
only_three (a ∷ b ∷ c ∷ d ∷ r) = None

abbrev pub three_parts : Field × Field × Field → Part × Part × Part
three_parts t = (part_of t.0, part_of t.1, part_of t.2)

-- l is line n of a text, in form, from place p to the next line at place q
pub record LineAt (text : List ℕ) (p n : ℕ) (l : Line) (q : ℕ) : Type 0 where
  pub number : l.number ≡ n
  pub start : l.start ≡ p
  pub next : q ≡ p + length l.bytes.now + 1
  pub within : q ≤ length text
  pub lines : lines_from text p ≡ l.bytes.now ∷ lines_from text q
  pub good : formed l.bytes.now ≡ true

-- what a step from place p and line n to place q and line m gives
abbrev pub NextLine : List ℕ → ℕ → ℕ → Result (Option Line) Fault → ℕ → ℕ → Type 0
NextLine text p n (Err f) q m = (f ≡ fault MalformedLine n p) × Malformed (lines_from text p)
NextLine text p n (Ok None) q m = (lines_from text p ≡ [] ∷ []) × (q ≡ p) × (m ≡ n)
NextLine text p n (Ok (Some l)) q m = LineAt text p n l q × (m ≡ n + 1)

-- The text of a lawful circuit is no longer than a text may be. Assumes nothing.
use Rattle.std.proofs.Common.{◌≡◌, ℕ, ◌+◌, ◌*◌, ◌≤◌, true, ◌&&◌, leb, List, [], ◌∷◌, ◌++◌, map, length, codes, decimal, suc-mul, arith, length-append}
use Rattle.std.specs.List.{flat_map, join_with_byte, list_all}
use Rattle.std.proofs.lemmas.Fmt.{length-decimal-le}
use Rattle.std.proofs.lemmas.Bool.{and_parts, leb-true}
use Rattle.cell.specs.Lists.{Along}
use Rattle.cell.specs.Circuits.{Circuit, Numbered, FreshIn}
use Rattle.records.specs.Formats.{Format}
use Rattle.records.specs.Numbers.{spells_name, is_name_byte}
use Rattle.files.specs.Written.{row, cell_row, in_row, out_row, item_row, rows, written}
use Rattle.files.specs.Lawful.{FreshOut, Lawful}
use Rattle.files.proofs.Facts.{FormatFacts}

net_short : (v : ℕ) → v ≤ 127 → length (decimal v) ≤ 3
net_short v h = length-decimal-le 3 v (omega arith) (omega arith) (omega arith)

-- rows, each of at most b bytes
joined_short : {X : Type 0} (g : X → List ℕ) (b : ℕ) (Q : List X → X → Type 0) → ((earlier : List X) (x : X) → Q earlier x → length (g x) ≤ b) → (earlier xs : List X) → Along Q earlier xs → length (flat_map g xs) ≤ length xs * b
joined_short g b Q h earlier [] a = omega arith
joined_short g b Q h earlier (x ∷ xs) a =
    let here = h earlier x a.0 in
    let more = joined_short g b Q h (earlier ++ x ∷ []) xs a.1 in
    omega (arith, length-append (g x) (flat_map g xs), suc-mul (length xs) b)

in_short : (earlier : List ℕ) (x : ℕ) → FreshIn earlier x → length (in_row x) ≤ 7
in_short earlier x r = omega (arith, net_short x r.number, length-append (decimal x) (10 ∷ []))

out_short : (ins earlier : List ℕ) (x : ℕ) → FreshOut ins earlier x → length (out_row x) ≤ 8
out_short ins earlier x r = omega (arith, net_short x r.number, length-append (decimal x) (10 ∷ []))

name_short : (bs : List ℕ) → spells_name bs ≡ true → length bs ≤ 16
name_short bs h = leb-true (length bs) 16 (and_parts _ _ (and_parts (leb 1 (length bs) && leb (length bs) 16) (list_all is_name_byte bs) h).0).1

-- a word and net numbers
fields_short : (w : List ℕ) (xs : List ℕ) → Numbered xs → length (join_with_byte 9 (w ∷ map decimal xs)) ≤ length w + length xs * 4
fields_short w [] h = omega arith
fields_short w (x ∷ xs) h = omega (arith, net_short x h.0, fields_short (decimal x) xs h.1, length-append w (9 ∷ join_with_byte 9 (decimal x ∷ map decimal xs)))

module _ {K I : Type 0} (f : Format K I) (facts : FormatFacts f) where
  item_short : (ins : List ℕ) (earlier : List I) (i : I) → f.Rule ins earlier i → length (item_row f i) ≤ 41
  item_short ins earlier i r =
      let word = facts.short (f.kind i) in
      let few = facts.nine (f.kind i) (length (f.nets i)) (facts.takes ins earlier i r) in
      let line = join_with_byte 9 (f.word (f.kind i) ∷ map decimal (f.nets i)) in
      let fields = fields_short (f.word (f.kind i)) (f.nets i) (facts.numbered ins earlier i r) in
      omega (arith, length-append line (10 ∷ []))

  pub written_short : (c : Circuit I) → Lawful f c → length (written f c) ≤ 32768
  written_short c law =
      let a = cell_row c.name in
      let b = flat_map in_row c.ins in
      let o = flat_map out_row c.outs in
      let d = flat_map (item_row f) c.body in
      let name = name_short c.name law.name in
      let lb : length b ≤ length c.ins * 7 = joined_short in_row 7 FreshIn in_short [] c.ins law.ins in
      let lo : length o ≤ length c.outs * 8 = joined_short out_row 8 (FreshOut c.ins) (out_short c.ins) [] c.outs law.outs in
      let ld : length d ≤ length c.body * 41 = joined_short (item_row f) 41 (f.Rule c.ins) (item_short c.ins) [] c.body law.body in
      let few_ins = law.few_ins in
      let few_outs = law.few_outs in
      let few_items = law.few_items in
      let most = facts.most in
      let la : length a ≡ 5 + length (c.name ++ 10 ∷ []) = omega arith in
      omega (arith, length-append (rows f c) (row (codes "END" ∷ [])), length-append a (b ++ (o ++ d)), length-append b (o ++ d), length-append o d, length-append c.name (10 ∷ []))

-- A list cut at each d and joined again, and rows of fields in form. Assumes nothing.
use Rattle.std.proofs.Common.{◌≡◌, ℕ, ◌+◌, ◌<◌, Bool, true, not, eqb, List, [], ◌∷◌, ◌++◌, length, refl, ap, ◌∙◌, arith}
use Rattle.std.specs.List.{join_with_byte, list_all, onto_first}
use Rattle.std.proofs.lemmas.List.Splits.{join_with_byte-slice_split}
use Rattle.std.proofs.lemmas.Bool.{eq-eqb, ne_eqb, leb-true, and_parts, and_from, cond-true, cond-false, not-true, not_from_false}
use Rattle.text.specs.Split.{split}
use Rattle.text.specs.Lines.{Part, graphic, field_formed, placed}

pub join_split : (d : ℕ) (bs : List ℕ) → join_with_byte d (split d bs) ≡ bs
join_split d bs = join_with_byte-slice_split d bs

-- the bytes of parts
abbrev pub raw : List Part → List (List ℕ)
raw [] = []
raw (f ∷ fs) = f.bytes ∷ raw fs

pub raw_placed : (p : ℕ) (fs : List (List ℕ)) → raw (placed p fs) ≡ fs
raw_placed p [] = refl
raw_placed p (f ∷ fs) = ap (λ r. f ∷ r) (raw_placed (p + length f + 1) fs)

-- lists of bytes without d

abbrev away : ℕ → ℕ → Bool
away d b = not (eqb b d)

pub all_imply : (f g : ℕ → Bool) → ((b : ℕ) → f b ≡ true → g b ≡ true) → (bs : List ℕ) → list_all f bs ≡ true → list_all g bs ≡ true
all_imply f g h [] a = refl
all_imply f g h (b ∷ bs) a = let p = and_parts _ _ a in and_from _ _ (h b p.0) (all_imply f g h bs p.1)

all_append : (f : ℕ → Bool) (xs ys : List ℕ) → list_all f xs ≡ true → list_all f ys ≡ true → list_all f (xs ++ ys) ≡ true
all_append f [] ys a b = b
all_append f (x ∷ xs) ys a b = let p = and_parts _ _ a in and_from _ _ p.0 (all_append f xs ys p.1 b)

cut_field : (d : ℕ) (bs rest : List ℕ) → list_all (away d) bs ≡ true → split d (bs ++ d ∷ rest) ≡ bs ∷ split d rest
cut_field d [] rest a = cond-true _ _ _ (eq-eqb d d refl)
cut_field d (b ∷ bs) rest a =
    let p = and_parts _ _ a in
    cond-false (eqb b d) ([] ∷ split d (bs ++ d ∷ rest)) (onto_first b (split d (bs ++ d ∷ rest))) (not-true (eqb b d) p.0) ∙ ap (onto_first b) (cut_field d bs rest p.1)

whole_field : (d : ℕ) (bs : List ℕ) → list_all (away d) bs ≡ true → split d bs ≡ bs ∷ []
whole_field d [] a = refl
whole_field d (b ∷ bs) a =
    let p = and_parts _ _ a in
    cond-false (eqb b d) ([] ∷ split d bs) (onto_first b (split d bs)) (not-true (eqb b d) p.0) ∙ ap (onto_first b) (whole_field d bs p.1)

graphic_away : (d : ℕ) → d < 33 → (b : ℕ) → graphic b ≡ true → away d b ≡ true
graphic_away d l b g = let low = leb-true 33 b (and_parts _ _ g).0 in not_from_false _ (ne_eqb b d (λ e. omega arith))

field_graphic : (f : List ℕ) → field_formed f ≡ true → list_all graphic f ≡ true
field_graphic [] h = refl
field_graphic (b ∷ bs) h = h

field_away : (d : ℕ) → d < 33 → (f : List ℕ) → field_formed f ≡ true → list_all (away d) f ≡ true
field_away d l f h = all_imply graphic (away d) (graphic_away d l) f (field_graphic f h)

low9 : 9 < 33
low9 = omega arith

low10 : 10 < 33
low10 = omega arith

-- a row of fields in form is cut into its fields
pub split_row : (f : List ℕ) (fs : List (List ℕ)) → list_all field_formed (f ∷ fs) ≡ true → split 9 (join_with_byte 9 (f ∷ fs)) ≡ f ∷ fs
split_row f [] a = whole_field 9 f (field_away 9 low9 f (and_parts (field_formed f) true a).0)
split_row f (g ∷ fs) a =
    let p = and_parts (field_formed f) (list_all field_formed (g ∷ fs)) a in
    cut_field 9 f (join_with_byte 9 (g ∷ fs)) (field_away 9 low9 f p.0) ∙ ap (λ r. f ∷ r) (split_row g fs p.1)

-- and has no line feed
row_away : (f : List ℕ) (fs : List (List ℕ)) → list_all field_formed (f ∷ fs) ≡ true → list_all (away 10) (join_with_byte 9 (f ∷ fs)) ≡ true
row_away f [] a = field_away 10 low10 f (and_parts (field_formed f) true a).0
row_away f (g ∷ fs) a =
    let p = and_parts (field_formed f) (list_all field_formed (g ∷ fs)) a in
    all_append (away 10) f (9 ∷ join_with_byte 9 (g ∷ fs)) (field_away 10 low10 f p.0) (row_away g fs p.1)

pub cut_row : (f : List ℕ) (fs : List (List ℕ)) (rest : List ℕ) → list_all field_formed (f ∷ fs) ≡ true → split 10 (join_with_byte 9 (f ∷ fs) ++ 10 ∷ rest) ≡ join_with_byte 9 (f ∷ fs) ∷ split 10 rest
cut_row f fs rest a = cut_field 10 (join_with_byte 9 (f ∷ fs)) rest (row_away f fs a)

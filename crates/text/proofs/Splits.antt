-- A list cut at its first d. Assumes nothing.
use Rattle.std.proofs.Common.{◌≡◌, ℕ, suc, ◌+◌, ◌-◌, ◌<◌, ◌≤◌, true, false, cond, eqb, List, [], ◌∷◌, length, take, drop, sym, refl, ap, ◌∙◌, subst, add_assoc, arith, unwrap_or, ltb, Some, None, ⊎_elim, Bor, Option}
use Rattle.std.specs.List.{onto_first}
use native.Mathlib.Nat.{sub-zero}
use Rattle.std.proofs.lemmas.List.{drop-drop, length-take-le, take_all}
use Rattle.std.proofs.lemmas.Bool.{lt-ltb, le-ltb, cases_lt}
use Rattle.std.proofs.lemmas.List.Splits.{slice_split_first, slice_split_none, length-slice_split}
use Rattle.std.proofs.lemmas.List.Sums.{fails_before_first, count_by-le-length}
use Rattle.text.specs.Split.{split, first}
use Rattle.text.specs.declared.lines.Fields.{Fields}
use Rattle.text.specs.Fields.{parts_from, fields_left}
use Rattle.text.specs.Lines.{left_len, lines_from, is_nil, formed, Malformed, placed}

pub split_found : (d : ℕ) (bs : List ℕ) → first d bs < length bs → split d bs ≡ take (first d bs) bs ∷ split d (drop (first d bs + 1) bs)
split_found d bs h = slice_split_first (λ b. eqb b d) bs 0 h

-- where there is no d, the list is the one part
pub split_none : (d : ℕ) (bs : List ℕ) → length bs ≤ first d bs → split d bs ≡ bs ∷ []
split_none d bs h = slice_split_none (λ b. eqb b d) bs (λ k x l. fails_before_first (λ b. eqb b d) bs k x (omega (arith, h, l)))

-- the place of the first d, or else the length, as one number
pub found_or_length : (n m : ℕ) → n ≤ m → unwrap_or (cond (ltb n m) (Some n) None) m ≡ n
found_or_length n m h = ⊎_elim (λ l. rw (lt-ltb n m l) refl) (λ l. rw (le-ltb n m l) (omega (arith, h, l))) (cases_lt n m)

-- at most one part more than bytes
pub split_few : (d : ℕ) (bs : List ℕ) → length (split d bs) ≤ suc (length bs)
split_few d bs = omega (arith, length-slice_split (λ b. eqb b d) bs, count_by-le-length (λ b. eqb b d) bs)

pub placed_length : (p : ℕ) (fs : List (List ℕ)) → length (placed p fs) ≡ length fs
placed_length p [] = refl
placed_length p (f ∷ fs) = ap suc (placed_length (p + length f + 1) fs)

-- there is always a first part
onto_cons : (P : List (List ℕ) → Type 0) → ((m : List ℕ) (ms : List (List ℕ)) → P (m ∷ ms)) → (b : ℕ) (q : List (List ℕ)) → P (onto_first b q)
onto_cons P h b [] = h _ _
onto_cons P h b (p ∷ ps) = h _ _

pub split_cons : (P : List (List ℕ) → Type 0) → ((m : List ℕ) (ms : List (List ℕ)) → P (m ∷ ms)) → (d : ℕ) (bs : List ℕ) → P (split d bs)
split_cons P h d [] = h _ _
split_cons P h d (b ∷ bs) = elim (eqb b d) as (λ t. P (cond t ([] ∷ split d bs) (onto_first b (split d bs)))) [ true ↦ h _ _ | false ↦ onto_cons P h b (split d bs) ]

-- a part of a list up to its first d, and what comes after it
pub record Cut (d : ℕ) (rest bytes : List ℕ) (n : ℕ) : Type 0 where
  pub parts : split d rest ≡ bytes ∷ split d (drop (n + 1) rest)
  pub long : length bytes ≡ n
  pub inside : n < length rest

pub cut_at : (d : ℕ) (rest : List ℕ) (n : ℕ) → n ≡ first d rest → n < length rest → Cut d rest (take (n - 0) rest) n
cut_at d rest n e l =
    let back : take n rest ≡ take (n - 0) rest = ap (λ k. take k rest) (sym (sub-zero n)) in
    let at : split d rest ≡ take n rest ∷ split d (drop (n + 1) rest) = subst (λ k. k < length rest → split d rest ≡ take k rest ∷ split d (drop (k + 1) rest)) (sym e) (split_found d rest) l in
    record {
      parts = at ∙ ap (λ b. b ∷ split d (drop (n + 1) rest)) back;
      long = ap length (sym back) ∙ length-take-le n rest (omega arith);
      inside = l;
    }

-- the same of the lines of a text from place p on
pub line_cut : (text rest bytes : List ℕ) (p n : ℕ) → rest ≡ drop p text → Cut 10 rest bytes n → lines_from text p ≡ bytes ∷ lines_from text (p + n + 1)
line_cut text rest bytes p n e k =
    ap (split 10) (sym e) ∙ k.parts ∙ ap (λ r. bytes ∷ split 10 r) (ap (drop (n + 1)) e ∙ drop-drop (n + 1) p text ∙ ap (λ m. drop m text) (sym (add_assoc p n 1)))

pub line_last : (text rest : List ℕ) (p n : ℕ) → rest ≡ drop p text → n ≡ first 10 rest → n ≡ length rest → lines_from text p ≡ rest ∷ []
line_last text rest p n e f l = ap (split 10) (sym e) ∙ split_none 10 rest (omega (arith, sym f ∙ l))

some_bytes : (l : List ℕ) → 0 < length l → is_nil l ≡ false
some_bytes [] h = absurd (omega arith)
some_bytes (b ∷ l) h = refl

pub malformed_last : (text rest : List ℕ) (p : ℕ) → lines_from text p ≡ rest ∷ [] → 0 < length rest → Malformed (lines_from text p)
malformed_last text rest p e h = subst Malformed (sym e) (some_bytes rest h)

pub malformed_line : (text bytes : List ℕ) (p q : ℕ) → lines_from text p ≡ bytes ∷ lines_from text q → formed bytes ≡ false → Malformed (lines_from text p)
malformed_line text bytes p q e h = subst Malformed (sym e) (split_cons (λ ls. Malformed (bytes ∷ ls)) (λ m ms. h) 10 (drop q text))

-- the fields of a line from its place on
pub field_cut : (place n : ℕ) (rest bytes after : List ℕ) → Cut 9 rest bytes n → after ≡ drop (n + 1) rest → placed place (split 9 rest) ≡ record { place = place; bytes = bytes } ∷ placed (place + n + 1) (split 9 after)
field_cut place n rest bytes after k e =
    ap (placed place) k.parts ∙ (λ i. record { place = place; bytes = bytes } ∷ placed (place + k.long i + 1) (split 9 (sym e i)))

pub field_last : (place n : ℕ) (rest : List ℕ) → n ≡ first 9 rest → length rest ≤ n → n ≤ length rest → placed place (split 9 rest) ≡ record { place = place; bytes = take (n - 0) rest } ∷ []
field_last place n rest e h l =
    ap (placed place) (split_none 9 rest (subst (λ m. length rest ≤ m) e h)) ∙ ap (λ b. record { place = place; bytes = b } ∷ []) (sym (ap (λ m. take m rest) (sub-zero n) ∙ take_all n rest h))

-- a line has few fields
pub fields_few : (f : Fields) → length (fields_left f) ≤ 32769
fields_few f = omega (arith, few f.rest f.place, f.within)
  where
    few : (rest : Option (Bor (List ℕ))) (p : ℕ) → length (parts_from rest p) ≤ suc (left_len rest)
    few None p = omega arith
    few (Some r) p = omega (arith, placed_length p (split 9 r.now), split_few 9 r.now)

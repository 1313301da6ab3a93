-- A net number has one spelling, which is a field in form, and so has a row of them. Assumes nothing.
use Rattle.std.proofs.Common.{◌≡◌, ℕ, suc, ◌+◌, ◌-◌, ◌*◌, ◌/◌, ◌%◌, ◌<◌, ◌≤◌, true, ◌&&◌, ◌||◌, eqb, leb, List, [], ◌∷◌, ◌++◌, map, length, Some, Ok, decimal, sym, refl, ap, ◌∙◌, subst, ⊎_elim, arith}
use Rattle.std.specs.List.{list_all}
use Rattle.std.specs.Option.{ok_or}
use Rattle.std.proofs.lemmas.Fmt.{decimal_digit, decimal_step}
use Rattle.std.proofs.lemmas.Bool.{cond-true, and_parts, and_from, or_cases, leb-true, le-leb, eqb-true, cases_lt}
use Rattle.cell.specs.Circuits.{Numbered}
use Rattle.text.specs.declared.fault.Reason.TheVariants.{BadField}
use Rattle.text.specs.Faults.{fault}
use Rattle.text.specs.Outcomes.{map_ok}
use Rattle.text.specs.Lines.{Part, graphic, field_formed}
use Rattle.text.proofs.Steps.{off_on, none_some, same_ok, same_some, if_some, then_ok, map_ok_lem, or_ok}
use Rattle.text.proofs.Rows.{raw, all_imply}
use Rattle.records.specs.Formats.{NetAt}
use Rattle.records.specs.Numbers.{net_of, spells_name, is_name_byte, digit, leading, at_most_127}
use Rattle.records.specs.Records.{net_at, nets_at, values}

-- a number below 1000 in digits

decimal_two : (v : ℕ) → 10 ≤ v → v < 100 → decimal v ≡ (48 + v / 10) ∷ (48 + v % 10) ∷ []
decimal_two v l h = decimal_step v l (omega arith) ∙ ap (λ ds. ds ++ (48 + v % 10) ∷ []) (decimal_digit (v / 10) (omega arith))

decimal_three : (v : ℕ) → 100 ≤ v → v < 1000 → decimal v ≡ (48 + v / 10 / 10) ∷ (48 + v / 10 % 10) ∷ (48 + v % 10) ∷ []
decimal_three v l h = decimal_step v (omega arith) (omega arith) ∙ ap (λ ds. ds ++ (48 + v % 10) ∷ []) (decimal_two (v / 10) (omega arith) (omega arith))

-- a number that is read is what was spelled

pub record Net (bs : List ℕ) (v : ℕ) : Type 0 where
  pub spelled : bs ≡ decimal v
  pub small : v ≤ 127

pub net_read : (bs : List ℕ) (v : ℕ) → net_of bs ≡ Some v → Net bs v
net_read [] v h = none_some v h
net_read (a ∷ []) v h =
    let p = if_some (digit a) (Some (a - 48)) v h in
    let g = and_parts (leb 48 a) (leb a 57) p.0 in
    let al = leb-true 48 a g.0 in
    let ah = leb-true a 57 g.1 in
    let e = same_some (a - 48) v p.1 in
    let back : a ≡ 48 + v = omega arith in
    record { spelled = ap (λ x. x ∷ []) back ∙ sym (decimal_digit v (omega arith)); small = omega arith }
net_read (a ∷ b ∷ []) v h =
    let p = if_some (leading a && digit b) (Some (10 * (a - 48) + (b - 48))) v h in
    let g = and_parts (leading a) (digit b) p.0 in
    let ga = and_parts (leb 49 a) (leb a 57) g.0 in
    let gb = and_parts (leb 48 b) (leb b 57) g.1 in
    let al = leb-true 49 a ga.0 in
    let ah = leb-true a 57 ga.1 in
    let bl = leb-true 48 b gb.0 in
    let bh = leb-true b 57 gb.1 in
    let e = same_some (10 * (a - 48) + (b - 48)) v p.1 in
    let ea : a ≡ 48 + v / 10 = omega arith in
    let eb : b ≡ 48 + v % 10 = omega arith in
    record { spelled = (λ i. ea i ∷ eb i ∷ []) ∙ sym (decimal_two v (omega arith) (omega arith)); small = omega arith }
net_read (a ∷ b ∷ c ∷ []) v h =
    let w = 100 * (a - 48) + 10 * (b - 48) + (c - 48) in
    let p = if_some (leading a && digit b && digit c) (at_most_127 w) v h in
    let q = if_some (leb w 127) (Some w) v p.1 in
    let g = and_parts (leading a && digit b) (digit c) p.0 in
    let gab = and_parts (leading a) (digit b) g.0 in
    let ga = and_parts (leb 49 a) (leb a 57) gab.0 in
    let gb = and_parts (leb 48 b) (leb b 57) gab.1 in
    let gc = and_parts (leb 48 c) (leb c 57) g.1 in
    let al = leb-true 49 a ga.0 in
    let ah = leb-true a 57 ga.1 in
    let bl = leb-true 48 b gb.0 in
    let bh = leb-true b 57 gb.1 in
    let cl = leb-true 48 c gc.0 in
    let ch = leb-true c 57 gc.1 in
    let e = same_some w v q.1 in
    let few = leb-true w 127 q.0 in
    let ea : a ≡ 48 + v / 10 / 10 = omega arith in
    let eb : b ≡ 48 + v / 10 % 10 = omega arith in
    let ec : c ≡ 48 + v % 10 = omega arith in
    record { spelled = (λ i. ea i ∷ eb i ∷ ec i ∷ []) ∙ sym (decimal_three v (omega arith) (omega arith)); small = omega arith }
net_read (a ∷ b ∷ c ∷ d ∷ r) v h = none_some v h

-- a number that is spelled is read

pub record Spelled (bs : List ℕ) (v : ℕ) : Type 0 where
  pub number : net_of bs ≡ Some v
  pub field : field_formed bs ≡ true

digit_at : (x : ℕ) → x ≤ 9 → digit (48 + x) ≡ true
digit_at x h = and_from _ _ (le-leb 48 (48 + x) (omega arith)) (le-leb (48 + x) 57 (omega arith))

leading_at : (x : ℕ) → 1 ≤ x → x ≤ 9 → leading (48 + x) ≡ true
leading_at x l h = and_from _ _ (le-leb 49 (48 + x) (omega arith)) (le-leb (48 + x) 57 (omega arith))

graphic_at : (x : ℕ) → x ≤ 9 → graphic (48 + x) ≡ true
graphic_at x h = and_from _ _ (le-leb 33 (48 + x) (omega arith)) (le-leb (48 + x) 126 (omega arith))

spelled_one : (v : ℕ) → v ≤ 9 → Spelled ((48 + v) ∷ []) v
spelled_one v h =
    let back : 48 + v - 48 ≡ v = omega arith in
    record { number = cond-true _ _ _ (digit_at v h) ∙ ap Some back; field = and_from _ _ (graphic_at v h) refl }

spelled_two : (v : ℕ) → 10 ≤ v → v < 100 → Spelled ((48 + v / 10) ∷ (48 + v % 10) ∷ []) v
spelled_two v l h =
    let xl : 1 ≤ v / 10 = omega arith in
    let xh : v / 10 ≤ 9 = omega arith in
    let yh : v % 10 ≤ 9 = omega arith in
    let back : 10 * (48 + v / 10 - 48) + (48 + v % 10 - 48) ≡ v = omega arith in
    record {
      number = cond-true _ _ _ (and_from _ _ (leading_at (v / 10) xl xh) (digit_at (v % 10) yh)) ∙ ap Some back;
      field = and_from _ _ (graphic_at (v / 10) xh) (and_from _ _ (graphic_at (v % 10) yh) refl);
    }

spelled_three : (v : ℕ) → 100 ≤ v → v ≤ 127 → Spelled ((48 + v / 10 / 10) ∷ (48 + v / 10 % 10) ∷ (48 + v % 10) ∷ []) v
spelled_three v l h =
    let xl : 1 ≤ v / 10 / 10 = omega arith in
    let xh : v / 10 / 10 ≤ 9 = omega arith in
    let yh : v / 10 % 10 ≤ 9 = omega arith in
    let zh : v % 10 ≤ 9 = omega arith in
    let back : 100 * (48 + v / 10 / 10 - 48) + 10 * (48 + v / 10 % 10 - 48) + (48 + v % 10 - 48) ≡ v = omega arith in
    record {
      number = cond-true _ _ _ (and_from _ _ (and_from _ _ (leading_at (v / 10 / 10) xl xh) (digit_at (v / 10 % 10) yh)) (digit_at (v % 10) zh)) ∙ ap at_most_127 back ∙ cond-true _ _ _ (le-leb v 127 h);
      field = and_from _ _ (graphic_at (v / 10 / 10) xh) (and_from _ _ (graphic_at (v / 10 % 10) yh) (and_from _ _ (graphic_at (v % 10) zh) refl));
    }

pub net_spelled : (v : ℕ) → v ≤ 127 → Spelled (decimal v) v
net_spelled v h =
    let P : List ℕ → Type 0 = λ bs. Spelled bs v in
    ⊎_elim
    (λ a. subst P (sym (decimal_digit v a)) (spelled_one v (omega arith)))
    (λ a. ⊎_elim
    (λ b. subst P (sym (decimal_two v a b)) (spelled_two v a b))
    (λ b. subst P (sym (decimal_three v b (omega arith))) (spelled_three v b h))
    (cases_lt v 100))
    (cases_lt v 10)

-- a name is a field in form

between : (b l h : ℕ) → 33 ≤ l → h ≤ 126 → (leb l b && leb b h) ≡ true → graphic b ≡ true
between b l h p q t =
    let low = leb-true l b (and_parts (leb l b) (leb b h) t).0 in
    let high = leb-true b h (and_parts (leb l b) (leb b h) t).1 in
    and_from _ _ (le-leb 33 b (omega arith)) (le-leb b 126 (omega arith))

name_graphic : (b : ℕ) → is_name_byte b ≡ true → graphic b ≡ true
name_graphic b h =
    ⊎_elim
    (λ a. ⊎_elim
    (λ u. ⊎_elim (between b 48 57 (omega arith) (omega arith)) (between b 65 90 (omega arith) (omega arith)) (or_cases (digit b) (leb 65 b && leb b 90) u))
    (between b 97 122 (omega arith) (omega arith))
    (or_cases (digit b || (leb 65 b && leb b 90)) (leb 97 b && leb b 122) a))
    (λ a. let e = eqb-true b 95 a in and_from _ _ (le-leb 33 b (omega arith)) (le-leb b 126 (omega arith)))
    (or_cases (digit b || (leb 65 b && leb b 90) || (leb 97 b && leb b 122)) (eqb b 95) h)

pub name_field : (bs : List ℕ) → spells_name bs ≡ true → field_formed bs ≡ true
name_field [] h = off_on h
name_field (b ∷ bs) h = all_imply is_name_byte graphic name_graphic (b ∷ bs) (and_parts _ (list_all is_name_byte (b ∷ bs)) h).1

-- the fields of a record as nets

pub net_at_lem : (n : ℕ) (f : Part) (x : NetAt) → net_at n f ≡ Ok x → Net f.bytes x.value
net_at_lem n f x h =
    let p = map_ok_lem (λ v. record { place = f.place; value = v }) (ok_or (net_of f.bytes) (fault BadField n f.place)) x h in
    subst (λ (y : NetAt). Net f.bytes y.value) p.2 (net_read f.bytes p.0 (or_ok (net_of f.bytes) (fault BadField n f.place) p.0 p.1))

-- net numbers as fields
pub record NetFields (fs : List (List ℕ)) (xs : List NetAt) : Type 0 where
  pub spelled : fs ≡ map decimal (values xs)
  pub numbers : Numbered (values xs)

pub nets_at_lem : (n : ℕ) (fs : List Part) (xs : List NetAt) → nets_at n fs ≡ Ok xs → NetFields (raw fs) xs × (length fs ≡ length xs)
nets_at_lem n [] xs h = let P : List NetAt → Type 0 = λ ys. NetFields [] ys × (0 ≡ length ys) in subst P (same_ok [] xs h) (record { spelled = refl; numbers = tt }, refl)
nets_at_lem n (f ∷ fs) xs h =
    let o = then_ok (net_at n f) (λ x. map_ok (λ xs. x ∷ xs) (nets_at n fs)) xs h in
    let m = map_ok_lem (λ xs. o.0 ∷ xs) (nets_at n fs) xs o.2 in
    let x = net_at_lem n f o.0 o.1 in
    let more = nets_at_lem n fs m.0 m.1 in
    let P : List NetAt → Type 0 = λ ys. NetFields (raw (f ∷ fs)) ys × (length (f ∷ fs) ≡ length ys) in
    subst P m.2 (record { spelled = λ i. x.spelled i ∷ more.0.spelled i; numbers = (x.small, more.0.numbers) }, ap suc more.1)

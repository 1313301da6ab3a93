-- Whether a label is there and is a given one. Assumes nothing.
use Rattle.std.proofs.Common.{◌≡◌, ℕ, ◌<◌, ◌≤◌, ◌≢◌, Bool, true, false, cond, eqb, ◌⊎◌, List, map, length, get_or, Option, None, Some, refl, ap, ◌∙◌, inl, inr, ⊎_elim, arith}
use Rattle.std.proofs.lemmas.List.{get_or-map, get_or_past}
use Rattle.std.proofs.lemmas.Bool.{eq-eqb, ne_eqb, cond-true, cond-false, both_ways, cases_lt}
use Rattle.std.proofs.lemmas.Option.{none-some, same_Some}
use Rattle.cell.proofs.Finite.{same}
use Rattle.order.specs.Labels.{is_label, renamed, renumbered}

pub same_label : (o : Option ℕ) (label : ℕ) → (o ≡ Some label) ⊎ (o ≢ Some label)
same_label None label = inr (λ e. none-some label e)
same_label (Some l) label = ⊎_elim (λ e. inl (ap Some e)) (λ ne. inr (λ e. ne (same_Some l label e))) (same l label)

pub is_label-true : (o : Option ℕ) (label : ℕ) → o ≡ Some label → is_label o label ≡ true
is_label-true None label e = absurd (none-some label e)
is_label-true (Some l) label e = eq-eqb l label (same_Some l label e)

pub is_label-false : (o : Option ℕ) (label : ℕ) → o ≢ Some label → is_label o label ≡ false
is_label-false None label ne = refl
is_label-false (Some l) label ne = ne_eqb l label (λ e. ne (ap Some e))

pub renamed_from : (from to : ℕ) (o : Option ℕ) → o ≡ Some from → renamed from to o ≡ Some to
renamed_from from to o e = cond-true (is_label o from) (Some to) o (is_label-true o from e)

pub renamed_other : (from to : ℕ) (o : Option ℕ) → o ≢ Some from → renamed from to o ≡ o
renamed_other from to o ne = cond-false (is_label o from) (Some to) o (is_label-false o from ne)

-- the number of a net that has a label
pub renumbered_low : (from to n : ℕ) → to ≤ 127 → n ≤ 127 → renumbered from to n ≤ 127
renumbered_low from to n t l = elim (eqb n from) as (λ b. cond b to n ≤ 127) [ true ↦ t | false ↦ l ]

renumbered_is : (from to n : ℕ) → Some (renumbered from to n) ≡ renamed from to (Some n)
renumbered_is from to n = elim (eqb n from) as (λ b. Some (cond b to n) ≡ cond b (Some to) (Some n)) [ true ↦ refl | false ↦ refl ]

pub relabelled : (from to : ℕ) (numbers items : List ℕ) (inner : List Bool) (x : ℕ) → length numbers ≡ 128 → length inner ≡ 128
    → items ≡ map (renumbered from to) numbers
    → cond (get_or inner x false) (Some (get_or items x 0)) None ≡ renamed from to (cond (get_or inner x false) (Some (get_or numbers x 0)) None)
relabelled from to numbers items inner x long wide is = go (get_or inner x false) refl
  where
    low : get_or inner x false ≡ true → x < length numbers
    low e = ⊎_elim (λ h. omega (arith, h, long)) (λ h. absurd (both_ways _ (get_or_past inner x false (omega (arith, h, wide))) e)) (cases_lt x 128)

    go : (b : Bool) → get_or inner x false ≡ b → cond b (Some (get_or items x 0)) None ≡ renamed from to (cond b (Some (get_or numbers x 0)) None)
    go false e = refl
    go true e =
        ap Some (ap (λ xs. get_or xs x 0) is ∙ get_or-map (renumbered from to) numbers x 0 0 (low e)) ∙ renumbered_is from to (get_or numbers x 0)

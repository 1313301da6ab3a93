-- Elements of lists and their places. Assumes nothing.
use Rattle.std.proofs.Common.{◌≡◌, ◌==◌, ℕ, zero, suc, ◌<◌, List, [], ◌∷◌, map, length, get_or, Some, None, Option, sym, refl, ap, subst, inl, inr, le_of_suc-le-suc, not-suc-le-zero, arith}
use Rattle.std.proofs.lemmas.Grind.{common_steps}
use Rattle.std.specs.Prelude.{position}
use Rattle.std.specs.List.{position_or_len}
use Rattle.std.proofs.lemmas.List.Sums.{fails_before_first}
use Rattle.std.proofs.lemmas.List.Quantifiers.{position-Some}
use Rattle.cell.specs.Lists.{In, Every, Distinct, Rising}
use Rattle.forming.specs.Systems.{PlacedIn}
use Rattle.cell.proofs.Members.{in_get_or, in_place}
use Rattle.order.proofs.Nets.{rising_distinct}

-- the first of a list without repeats stands nowhere later in it
first_once : (k : ℕ) (ks : List ℕ) (q : ℕ) → Distinct (k ∷ ks) → q < length ks → ¬ (k ≡ get_or ks q 0)
first_once k ks q once h e = once.0 (subst (λ v. In v ks) (sym e) (in_get_or ks q 0 h))

-- so two of its places that hold the same are one
pub one_place : (ks : List ℕ) → Distinct ks → (p q : ℕ) → p < length ks → q < length ks → get_or ks p 0 ≡ get_or ks q 0 → p ≡ q
one_place [] once p q hp hq e = absurd (not-suc-le-zero hp)
one_place (k ∷ ks) once zero zero hp hq e = refl
one_place (k ∷ ks) once zero (suc q) hp hq e = absurd (first_once k ks q once (le_of_suc-le-suc hq) e)
one_place (k ∷ ks) once (suc p) zero hp hq e = absurd (first_once k ks p once (le_of_suc-le-suc hp) (sym e))
one_place (k ∷ ks) once (suc p) (suc q) hp hq e = ap suc (one_place ks once.1 p q (le_of_suc-le-suc hp) (le_of_suc-le-suc hq) e)

-- and a place of a rising list whose element is among those of other places is among these
pub in_places : (ks : List ℕ) → Rising ks → (p : ℕ) (ps : List ℕ) → p < length ks → Every (λ q. q < length ks) ps
    → In (get_or ks p 0) (map (λ q. get_or ks q 0) ps) → In p ps
in_places ks up p [] hp hs h = absurd h
in_places ks up p (q ∷ ps) hp hs (inl e) = inl (one_place ks (rising_distinct ks up) p q hp hs.0 e)
in_places ks up p (q ∷ ps) hp hs (inr h) = inr (in_places ks up p ps hp hs.1 h)

-- the first place at which a number stands in a list, if it is in it
pub placed_in : (ks : List ℕ) (k : ℕ) (r : Option ℕ) → r ≡ position (λ x. x == k) ks → PlacedIn ks k r
placed_in ks k (Some p) e = let at = position-Some (λ x. x == k) ks p 0 (sym e) in (at.0, grind (arith, at.1))
placed_in ks k None e = λ i.
    let at = in_place k ks i in
    let past : at.0 < position_or_len (λ x. x == k) ks = grind (arith, common_steps, at.1, e) in
    absurd (grind (arith, fails_before_first (λ x. x == k) ks at.0 0 past, at.2 0))

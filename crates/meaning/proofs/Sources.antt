-- The bits of the sources under one setting, and the inputs of a cell. Assumes nothing.
use Rattle.std.proofs.Common.{◌≡◌, ℕ, zero, suc, ◌+◌, ◌<◌, ◌≤◌, Bool, true, false, cond, eqb, ◌≢◌, ◌⊎◌, List, [], ◌∷◌, ◌++◌, length, get_or, sym, refl, ap, ◌∙◌, subst, inl, inr, suc-le-suc, zero-le, le_of_suc-le-suc, not-suc-le-zero, arith}
use Rattle.std.proofs.lemmas.Bool.{eq-eqb, ne_eqb, cond-true, cond-false}
use Rattle.cell.specs.Lists.{In, Distinct, Along}
use Rattle.cell.specs.Circuits.{FreshIn}
use Rattle.cell.specs.States.{setting_bit}
use Rattle.cell.proofs.Finite.{same}
use Rattle.cell.proofs.Members.{in_get_or, in_before, in_end}

-- the inputs of a cell are no rails, and none is there twice
no_rail : (earlier ins : List ℕ) → Along FreshIn earlier ins → (x : ℕ) → In x ins → 2 ≤ x
no_rail earlier [] a x h = absurd h
no_rail earlier (y ∷ ins) a x (inl e) = subst (λ v. 2 ≤ v) (sym e) a.0.no_rail
no_rail earlier (y ∷ ins) a x (inr h) = no_rail (earlier ++ y ∷ []) ins a.1 x h

not_earlier : (earlier ins : List ℕ) → Along FreshIn earlier ins → (x : ℕ) → In x earlier → ¬ (In x ins)
not_earlier earlier [] a x h k = k
not_earlier earlier (y ∷ ins) a x h (inl e) = a.0.new (subst (λ v. In v earlier) e h)
not_earlier earlier (y ∷ ins) a x h (inr k) = not_earlier (earlier ++ y ∷ []) ins a.1 x (in_before x earlier y h) k

ins_distinct : (earlier ins : List ℕ) → Along FreshIn earlier ins → Distinct ins
ins_distinct earlier [] a = tt
ins_distinct earlier (y ∷ ins) a = (not_earlier (earlier ++ y ∷ []) ins a.1 y (in_end earlier y), ins_distinct (earlier ++ y ∷ []) ins a.1)

-- the bit of x among inputs ys, the first of which is input i of n
abbrev in_bit : (n s i : ℕ) → List ℕ → ℕ → Bool
in_bit n s i [] x = false
in_bit n s i (y ∷ ys) x = cond (eqb x y) (setting_bit n s i) (in_bit n s (suc i) ys x)

-- the bit of a rail or an input
abbrev pub source_bit : List ℕ → ℕ → ℕ → Bool
source_bit ins s zero = false
source_bit ins s (suc zero) = true
source_bit ins s (suc (suc x)) = in_bit (length ins) s 0 ins (suc (suc x))

-- f gives each input its bit, in the form g of bits
module _ {X : Type 0} (f : ℕ → X) (g : Bool → X) where
  in_bit_is : (n s i : ℕ) (ys : List ℕ) → ((k : ℕ) → k < length ys → f (get_or ys k 0) ≡ g (setting_bit n s (i + k)))
      → (x : ℕ) → In x ys → f x ≡ g (in_bit n s i ys x)
  in_bit_is n s i [] h x m = absurd m
  in_bit_is n s i (y ∷ ys) h x m = go (same x y) m (in_bit_is n s (suc i) ys later x)
    where
      later : (k : ℕ) → k < length ys → f (get_or ys k 0) ≡ g (setting_bit n s (suc i + k))
      later k l = h (suc k) (suc-le-suc l) ∙ ap (λ j. g (setting_bit n s j)) (omega arith)

      go : (x ≡ y) ⊎ (x ≢ y) → In x (y ∷ ys) → (In x ys → f x ≡ g (in_bit n s (suc i) ys x)) → f x ≡ g (in_bit n s i (y ∷ ys) x)
      go (inl e) m rest =
          ap f e ∙ h 0 (suc-le-suc zero-le) ∙ ap (λ j. g (setting_bit n s j)) (omega arith)
          ∙ ap g (sym (cond-true (eqb x y) (setting_bit n s i) (in_bit n s (suc i) ys x) (eq-eqb x y e)))
      go (inr e) (inl p) rest = absurd (e p)
      go (inr e) (inr k) rest =
          rest k ∙ ap g (sym (cond-false (eqb x y) (setting_bit n s i) (in_bit n s (suc i) ys x) (ne_eqb x y e)))

  -- what says the bits of rails and inputs says those of all sources
  pub source_is : (ins : List ℕ) (s : ℕ) → f 0 ≡ g false → f 1 ≡ g true
      → ((i : ℕ) → i < length ins → f (get_or ins i 0) ≡ g (setting_bit (length ins) s i))
      → (x : ℕ) → (x < 2) ⊎ In x ins → f x ≡ g (source_bit ins s x)
  source_is ins s ground supply input zero h = ground
  source_is ins s ground supply input (suc zero) h = supply
  source_is ins s ground supply input (suc (suc x)) (inl h) = absurd (omega arith)
  source_is ins s ground supply input (suc (suc x)) (inr h) =
      in_bit_is (length ins) s 0 ins (λ k l. input k l ∙ ap (λ j. g (setting_bit (length ins) s j)) (omega arith)) (suc (suc x)) h

in_bit_at : (n s i : ℕ) (ys : List ℕ) → Distinct ys → (k : ℕ) → k < length ys → in_bit n s i ys (get_or ys k 0) ≡ setting_bit n s (i + k)
in_bit_at n s i [] d k h = absurd (not-suc-le-zero h)
in_bit_at n s i (y ∷ ys) d zero h =
    cond-true (eqb y y) (setting_bit n s i) (in_bit n s (suc i) ys y) (eq-eqb y y refl) ∙ ap (setting_bit n s) (omega arith)
in_bit_at n s i (y ∷ ys) d (suc k) h =
    cond-false (eqb (get_or ys k 0) y) (setting_bit n s i) (in_bit n s (suc i) ys (get_or ys k 0)) (ne_eqb (get_or ys k 0) y apart)
    ∙ in_bit_at n s (suc i) ys d.1 k (le_of_suc-le-suc h) ∙ ap (setting_bit n s) (omega arith)
  where
    apart : get_or ys k 0 ≢ y
    apart e = d.0 (subst (λ v. In v ys) e (in_get_or ys k 0 (le_of_suc-le-suc h)))

-- the bit of input i
pub source_at : (ins : List ℕ) → Along FreshIn [] ins → (s i : ℕ) → i < length ins → source_bit ins s (get_or ins i 0) ≡ setting_bit (length ins) s i
source_at ins a s i h =
    no_rail_bit (get_or ins i 0) (no_rail [] ins a (get_or ins i 0) (in_get_or ins i 0 h))
    ∙ in_bit_at (length ins) s 0 ins (ins_distinct [] ins a) i h ∙ ap (setting_bit (length ins) s) (omega arith)
  where
    no_rail_bit : (x : ℕ) → 2 ≤ x → source_bit ins s x ≡ in_bit (length ins) s 0 ins x
    no_rail_bit zero l = absurd (not-suc-le-zero l)
    no_rail_bit (suc zero) l = absurd (not-suc-le-zero (le_of_suc-le-suc l))
    no_rail_bit (suc (suc x)) l = refl

-- The nets with a label: which they are, that they rise, and how many they are at most. Assumes nothing.
use Rattle.std.proofs.Common.{◌≡◌, ℕ, zero, suc, ◌+◌, ◌-◌, ◌<◌, ◌≤◌, Bool, true, false, ◌≢◌, Some, List, [], ◌∷◌, ◌++◌, length, sym, refl, ap, ◌∙◌, subst, inl, inr, ⊎_elim, add-zero, add-one, arith}
use Rattle.std.proofs.lemmas.List.{append-nil, length_push}
use Rattle.std.proofs.lemmas.Bool.{cases_Bool, cond-true, cond-false}
use Rattle.cell.specs.Lists.{In, Distinct, Rising}
use Rattle.cell.proofs.Finite.{same, few}
use Rattle.order.specs.declared.labels.Labels.{Labels}
use Rattle.order.specs.Labels.{is_label}
use Rattle.order.specs.Components.{label_of}
use Rattle.order.specs.Placing.{nets_below, nets_with, marked, OthersAlone}
use Rattle.order.proofs.Tests.{same_label, is_label-true, is_label-false}
use Rattle.cell.proofs.Members.{in_left, in_right, in_push}

-- the numbers below n
below : ℕ → List ℕ
below zero = []
below (suc n) = n ∷ below n

below_all : (n x : ℕ) → x < n → In x (below n)
unfolding below
below_all zero x h = absurd (omega arith)
below_all (suc n) x h = ⊎_elim (λ e. inl e) (λ ne. inr (below_all n x (omega arith))) (same x n)

length_below : (n : ℕ) → length (below n) ≡ n
unfolding below
length_below zero = refl
length_below (suc n) = ap suc (length_below n)

-- net numbers with none twice are 128 at most
pub few_nets : (xs : List ℕ) → Distinct xs → ((x : ℕ) → In x xs → x < 128) → length xs ≤ 128
few_nets xs d low = subst (λ n. length xs ≤ n) (length_below 128) (few xs (below 128) d (λ x h. below_all 128 x (low x h)))

rising_push : (xs : List ℕ) (y : ℕ) → Rising xs → ((x : ℕ) → In x xs → x < y) → Rising (xs ++ y ∷ [])
rising_push [] y r f = ((λ m h. absurd h), tt)
rising_push (x ∷ xs) y r f = (
  (λ m h. elim (in_push m xs y h) [ inl k ↦ r.0 m k | inr e ↦ subst (λ v. x < v) (sym e) (f x (inl refl)) ]),
  rising_push xs y r.1 (λ z h. f z (inr h)),
)

pub rising_distinct : (xs : List ℕ) → Rising xs → Distinct xs
rising_distinct [] r = tt
rising_distinct (x ∷ xs) r = ((λ h. omega (arith, r.0 x h)), rising_distinct xs r.1)

module _ (labels : Labels) (label : ℕ) where
  pub below_with : (n : ℕ) → is_label (label_of labels n) label ≡ true → nets_below labels label (n + 1) ≡ nets_below labels label n ++ n ∷ []
  unfolding nets_below
  below_with n e =
      rw add-one
      (ap (λ v. nets_below labels label n ++ v)
      (cond-true (is_label (label_of labels n) label) (n ∷ []) [] e))

  pub below_without : (n : ℕ) → is_label (label_of labels n) label ≡ false → nets_below labels label (n + 1) ≡ nets_below labels label n
  unfolding nets_below
  below_without n e =
      rw add-one
      (ap (λ v. nets_below labels label n ++ v) (cond-false (is_label (label_of labels n) label) (n ∷ []) [] e)
      ∙ append-nil (nets_below labels label n))

  pub below_none : nets_below labels label 0 ≡ []
  unfolding nets_below
  below_none = refl

  abbrev Facts : ℕ → List ℕ → Type 0
  Facts n xs =
      Rising xs × ((v : ℕ) → In v xs → (v < n) × (label_of labels v ≡ Some label)) × ((v : ℕ) → v < n → label_of labels v ≡ Some label → In v xs)

  facts_with : (n : ℕ) (xs : List ℕ) → label_of labels n ≡ Some label → Facts n xs → Facts (n + 1) (xs ++ n ∷ [])
  facts_with n xs e f = (
    rising_push xs n f.0 (λ x h. (f.1 x h).0),
    (λ v h. elim (in_push v xs n h) [ inl k ↦ (omega (arith, (f.1 v k).0), (f.1 v k).1) | inr p ↦ (omega arith, ap (label_of labels) p ∙ e) ]),
    λ v lt q. ⊎_elim (λ p. in_right v xs (n ∷ []) (inl p)) (λ ne. in_left v xs (n ∷ []) (f.2 v (omega arith) q)) (same v n),
  )

  facts_without : (n : ℕ) (xs : List ℕ) → label_of labels n ≢ Some label → Facts n xs → Facts (n + 1) xs
  facts_without n xs e f = (
    f.0,
    (λ v h. (omega (arith, (f.1 v h).0), (f.1 v h).1)),
    λ v lt q. ⊎_elim (λ p. absurd (e (ap (label_of labels) (sym p) ∙ q))) (λ ne. f.2 v (omega arith) q) (same v n),
  )

  facts_more : (n : ℕ) → Facts n (nets_below labels label n) → Facts (n + 1) (nets_below labels label (n + 1))
  facts_more n f =
      ⊎_elim
      (λ e. subst (Facts (n + 1)) (sym (below_with n (is_label-true (label_of labels n) label e))) (facts_with n (nets_below labels label n) e f))
      (λ e. subst (Facts (n + 1)) (sym (below_without n (is_label-false (label_of labels n) label e))) (facts_without n (nets_below labels label n) e f))
      (same_label (label_of labels n) label)

  facts : (n : ℕ) → Facts n (nets_below labels label n)
  facts zero = subst (Facts 0) (sym below_none) (tt, (λ v h. absurd h), λ v lt q. absurd (omega arith))
  facts (suc n) = subst (λ m. Facts m (nets_below labels label m)) (add-one n) (facts_more n (facts n))

  pub nets_rising : Rising (nets_with labels label)
  nets_rising = (facts 128).0

  pub nets_are : (v : ℕ) → In v (nets_with labels label) → (v < 128) × (label_of labels v ≡ Some label)
  nets_are = (facts 128).1

  pub nets_all : (v : ℕ) → v < 128 → label_of labels v ≡ Some label → In v (nets_with labels label)
  nets_all = (facts 128).2

  below_step : (n : ℕ) → length (nets_below labels label n) ≤ length (nets_below labels label (n + 1))
  below_step n =
      ⊎_elim
      (λ e. omega (arith, ap length (below_with n e), length_push (nets_below labels label n) n))
      (λ e. omega (arith, ap length (below_without n e)))
      (cases_Bool (is_label (label_of labels n) label))

  below_rises : (n k : ℕ) → length (nets_below labels label n) ≤ length (nets_below labels label (n + k))
  below_rises n zero = rw add-zero (omega arith)
  below_rises n (suc k) =
      let e : (n + k) + 1 ≡ n + suc k = omega arith in
      subst (λ m. length (nets_below labels label n) ≤ length (nets_below labels label m)) e
      (omega (arith, below_rises n k, below_step (n + k)))

  -- one more net with the label is counted among all
  pub below_room : (n : ℕ) → n < 128 → is_label (label_of labels n) label ≡ true → length (nets_below labels label n) + 1 ≤ length (nets_with labels label)
  below_room n lt e =
      let m : (n + 1) + (128 - (n + 1)) ≡ 128 = omega arith in
      let r = subst (λ v. length (nets_below labels label (n + 1)) ≤ length (nets_below labels label v)) m (below_rises (n + 1) (128 - (n + 1))) in
      omega (arith, r, ap length (below_with n e), length_push (nets_below labels label n) n)

-- a rising list of one number
one_number : (xs : List ℕ) (y : ℕ) → Rising xs → ((x : ℕ) → In x xs → x ≡ y) → In y xs → xs ≡ y ∷ []
one_number [] y r f h = absurd h
one_number (x ∷ []) y r f h = ap (λ v. v ∷ []) (f x (inl refl))
one_number (x ∷ z ∷ xs) y r f h = absurd (omega (arith, r.0 z (inl refl), f x (inl refl), f z (inr (inl refl))))

-- the nets of a component that has one
pub nets_alone : (labels : Labels) (shared : List Bool) (label : ℕ) → OthersAlone labels shared → label_of labels label ≡ Some label → label ≤ 127
    → marked shared label ≡ false → nets_with labels label ≡ label ∷ []
nets_alone labels shared label alone own low m =
    one_number (nets_with labels label) label (nets_rising labels label)
    (λ x h. let n = nets_are labels label x h in alone x label (omega (arith, n.0)) n.1 m)
    (nets_all labels label label (omega arith) own)

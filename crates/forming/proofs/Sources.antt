-- The states of rails and inputs, put into the table one after another. Assumes nothing.
use Rattle.std.proofs.Common.{◌≡◌, ℕ, zero, suc, ◌+◌, ◌<◌, ◌≤◌, Bool, true, false, not, ◌&&◌, ltb, ◌≢◌, List, [], ◌∷◌, ◌++◌, length, get_or, take, sym, ap, ◌∙◌, subst, ⊎_elim, append_assoc, append-nil, le_of_suc-le-suc, not-suc-le-zero, arith}
use Rattle.std.proofs.lemmas.List.{get_or-take, length-take-le}
use Rattle.std.proofs.lemmas.Bool.{cases_lt, lt-ltb}
use Rattle.cell.specs.declared.State.{State}
use Rattle.cell.specs.Lists.{In, Along}
use Rattle.cell.specs.Circuits.{FreshIn}
use Rattle.cell.specs.States.{exactly, setting_bit}
use Rattle.algebra.specs.Chain.{Chain}
use Rattle.algebra.specs.Holding.{Meaning, Stays, Means}
use Rattle.algebra.specs.Signals.{seen, Boolean, IsInput, IsComplement}
use Rattle.forming.specs.Signs.{InHand, shown}
use Rattle.cell.proofs.Members.{in_get_or}
use Rattle.forming.proofs.Showing.{put, length_put, shown_put, shown_other, hand_put}
use Rattle.forming.proofs.Keeping.{shown_stays, hand_stays}
use Rattle.paths.proofs.Holding.{stays_same, stays_then}

-- what holds along a list holds of each place with those before it
along_at : {X : Type 0} (Q : List X → X → Type 0) (earlier xs : List X) → Along Q earlier xs → (i : ℕ) (d : X) → i < length xs → Q (earlier ++ take i xs) (get_or xs i d)
along_at Q earlier [] a i d h = absurd (not-suc-le-zero h)
along_at Q earlier (x ∷ xs) a zero d h = subst (λ l. Q l x) (sym (append-nil earlier)) a.0
along_at Q earlier (x ∷ xs) a (suc i) d h =
    subst (λ l. Q l (get_or xs i d)) (append_assoc earlier (x ∷ []) (take i xs)) (along_at Q (earlier ++ x ∷ []) xs a.1 i d (le_of_suc-le-suc h))

module _ (ins : List ℕ) (fresh : Along FreshIn [] ins) (i : ℕ) (h : i < length ins) where
  input_fresh : FreshIn (take i ins) (get_or ins i 0)
  input_fresh = along_at FreshIn [] ins fresh i 0 h

  -- an input is none of those before it
  input_new : (j : ℕ) → j < i → get_or ins j 0 ≢ get_or ins i 0
  input_new j lt e =
      let length_i = length-take-le i ins (omega (arith, h)) in
      let before : In (get_or ins j 0) (take i ins) = subst (λ x. In x (take i ins)) (get_or-take i ins j 0 lt) (in_get_or (take i ins) j 0 (omega (arith, lt, length_i))) in
      input_fresh.new (subst (λ x. In x (take i ins)) e before)

-- rails and the first n inputs have their values at setting s
pub record SourcedTill (ins : List ℕ) (n s : ℕ) (σ : ℕ → State Bool) : Type 0 where
  pub ground : σ 0 ≡ exactly false
  pub supply : σ 1 ≡ exactly true
  pub input : (i : ℕ) → i < n → σ (get_or ins i 0) ≡ exactly (setting_bit (length ins) s i)

-- rails and the first n inputs are formed
pub record FormedTill {S V : Type 0} (bit : V → ℕ → Bool) (m m' : Meaning S V) (ins : List ℕ) (n : ℕ) (states' : List S) : Type 0 where
  pub stays : Stays m m'
  pub hand : InHand m' states'
  pub long : length states' ≡ 256
  pub sourced : Along FreshIn [] ins → m.inputs ≡ length ins → (t : ℕ) → SourcedTill ins n (seen m.listed t) (shown bit m' states' t)

-- a net whose two signs say one bit is that bit
put_exact : {S V : Type 0} (bit : V → ℕ → Bool) (m : Meaning S V) (xs : List S) (x : ℕ) (st : State S) (t : ℕ) (b : Bool) → length xs ≡ 256 → x ≤ 127
    → bit (m.value st.may0) t ≡ not b → bit (m.value st.may1) t ≡ b → shown bit m (put xs x st) t x ≡ exactly b
put_exact bit m xs x st t b long low e0 e1 = shown_put bit m xs x st t long low ∙ (λ i. record { may0 = e0 i; may1 = e1 i })

-- the rails, by signs of zero and one
module _ {S V : Type 0} (A : Chain V) (bit : V → ℕ → Bool) (B : Boolean A bit) (m : Meaning S V) (xs : List S) (zero one : S)
    (long : length xs ≡ 256) (hand : InHand m xs) (is_zero : Means m zero A.zero) (is_one : Means m one A.one) where
  abbrev ground : List S
  ground = put xs 0 (record { may0 = one; may1 = zero })

  abbrev rails : List S
  rails = put ground 1 (record { may0 = zero; may1 = one })

  zero_reads : (t : ℕ) → bit (m.value zero) t ≡ false
  zero_reads t = ap (λ v. bit v t) is_zero.value ∙ B.zero_bit t

  one_reads : (t : ℕ) → bit (m.value one) t ≡ true
  one_reads t = ap (λ v. bit v t) is_one.value ∙ B.one_bit t

  ground_long : length ground ≡ 256
  ground_long = length_put xs 0 (record { may0 = one; may1 = zero }) ∙ long

  both_formed : (ins : List ℕ) → FormedTill bit m m ins 0 rails
  both_formed ins = record {
    stays = stays_same m;
    hand = hand_put m ground 1 _ is_zero.hand is_one.hand (hand_put m xs 0 _ is_one.hand is_zero.hand hand);
    long = length_put ground 1 (record { may0 = zero; may1 = one }) ∙ ground_long;
    sourced = λ fresh made t. record {
      ground = shown_other bit m ground 1 0 _ t (λ e. omega (arith, e)) ∙ put_exact bit m xs 0 _ t false long (omega arith) (one_reads t) (zero_reads t);
      supply = put_exact bit m ground 1 _ t true ground_long (omega arith) (zero_reads t) (one_reads t);
      input = λ i h. absurd (not-suc-le-zero h);
    };
  }

  pub rails_formed : (ins : List ℕ) (ys zs : List S) → ys ≡ ground → zs ≡ put ys 1 (record { may0 = zero; may1 = one }) → FormedTill bit m m ins 0 zs
  rails_formed ins ys zs e f = subst (FormedTill bit m m ins 0) (sym (f ∙ ap (λ v. put v 1 (record { may0 = zero; may1 = one })) e)) (both_formed ins)

-- one input more, by signs of its function and of the complement
module _ {S V : Type 0} (bit : V → ℕ → Bool) (m₀ m m₁ m₂ : Meaning S V) (ins : List ℕ) (i : ℕ) (xs : List S) (may1 may0 : S) (v w : V)
    (low : get_or ins i 0 ≤ 127) (h : i < length ins) (so_far : FormedTill bit m₀ m ins i xs)
    (stays₁ : Stays m m₁) (is_input : IsInput bit m i v) (means_v : Means m₁ may1 v)
    (stays₂ : Stays m₁ m₂) (is_not : IsComplement bit (m₁.value may1) w) (means_w : Means m₂ may0 w) where
  abbrev more : List S
  more = put xs (get_or ins i 0) (record { may0 = may0; may1 = may1 })

  stays : Stays m m₂
  stays = stays_then stays₁ stays₂

  -- the sign reads as the input's bit at the setting seen
  input_reads : m₀.inputs ≡ length ins → (t : ℕ) → bit (m₁.value may1) t ≡ setting_bit (length ins) (seen m₀.listed t) i
  input_reads made t =
      ap (λ u. bit u t) means_v.value ∙ is_input t
      ∙ (λ j. ltb i ((so_far.stays.inputs ∙ made) j) && setting_bit ((so_far.stays.inputs ∙ made) j) (seen (so_far.stays.listed j) t) i)
      ∙ ap (λ b. b && setting_bit (length ins) (seen m₀.listed t) i) (lt-ltb i (length ins) h)

  one_formed : FormedTill bit m₀ m₂ ins (i + 1) more
  one_formed = record {
    stays = stays_then so_far.stays stays;
    hand = hand_put m₂ xs (get_or ins i 0) _ means_w.hand (stays₂.hand may1 means_v.hand) (hand_stays stays xs so_far.hand);
    long = length_put xs (get_or ins i 0) (record { may0 = may0; may1 = may1 }) ∙ so_far.long;
    sourced = λ fresh made t.
        let before = so_far.sourced fresh made t in
        let rail : 2 ≤ get_or ins i 0 = (input_fresh ins fresh i h).no_rail in
        let kept : (y : ℕ) → y ≢ get_or ins i 0 → shown bit m₂ more t y ≡ shown bit m xs t y =
        λ y ne. shown_other bit m₂ xs (get_or ins i 0) y _ t ne ∙ ap (λ σ. σ y) (shown_stays bit stays xs so_far.hand t) in
        let reads = input_reads made t in
        let new : shown bit m₂ more t (get_or ins i 0) ≡ exactly (setting_bit (length ins) (seen m₀.listed t) i) =
        put_exact bit m₂ xs (get_or ins i 0) _ t _ so_far.long low (ap (λ u. bit u t) means_w.value ∙ is_not t ∙ ap not reads)
        (ap (λ u. bit u t) (stays₂.value may1 means_v.hand) ∙ reads) in
        record {
          ground = kept 0 (λ e. omega (arith, e, rail)) ∙ before.ground;
          supply = kept 1 (λ e. omega (arith, e, rail)) ∙ before.supply;
          input = λ j lt.
              ⊎_elim (λ l. kept (get_or ins j 0) (input_new ins fresh i h j l) ∙ before.input j l)
              (λ l. subst (λ k. shown bit m₂ more t (get_or ins k 0) ≡ exactly (setting_bit (length ins) (seen m₀.listed t) k)) (omega (arith, lt, l)) new)
              (cases_lt j i);
        };
  }

  pub input_formed : (ys : List S) → ys ≡ more → FormedTill bit m₀ m₂ ins (i + 1) ys
  input_formed ys e = subst (FormedTill bit m₀ m₂ ins (i + 1)) (sym e) one_formed

-- The states that a table of signs shows where a state is put, and beyond the table. Assumes nothing.
use Rattle.std.proofs.Common.{◌≡◌, ℕ, ◌<◌, ◌≤◌, Bool, true, false, ◌≢◌, List, map, length, get_or, set, ap, ◌∙◌, arith}
use Rattle.std.proofs.lemmas.List.{length-set, length-map, map-set, get_or-set_same, get_or-set_other, get_or_past}
use Rattle.cell.specs.declared.State.{State}
use Rattle.cell.specs.States.{unknown}
use Rattle.algebra.specs.Holding.{Meaning}
use Rattle.cell.proofs.Members.{every_set}
use Rattle.forming.specs.Signs.{InHand, place_of, shown}

-- the table in which the state of net x is st
abbrev pub put : {S : Type 0} → List S → ℕ → State S → List S
put xs x st = set (set xs (place_of x false) st.may0) (place_of x true) st.may1

pub length_put : {S : Type 0} (xs : List S) (x : ℕ) (st : State S) → length (put xs x st) ≡ length xs
length_put xs x st = length-set (set xs (place_of x false) st.may0) (place_of x true) st.may1 ∙ length-set xs (place_of x false) st.may0

-- the state of net x in a table of bits
abbrev state_in : List Bool → ℕ → State Bool
state_in bs x = record { may0 = get_or bs (place_of x false) true; may1 = get_or bs (place_of x true) true }

put_same : (bs : List Bool) (x : ℕ) (st : State Bool) → length bs ≡ 256 → x ≤ 127 → state_in (put bs x st) x ≡ st
put_same bs x st long low = λ i. record { may0 = first i; may1 = second i }
  where
    first : get_or (put bs x st) (place_of x false) true ≡ st.may0
    first =
        get_or-set_other (set bs (place_of x false) st.may0) (place_of x true) (place_of x false) st.may1 true (λ e. omega (arith, e))
        ∙ get_or-set_same bs (place_of x false) st.may0 true (omega (arith, long, low))

    second : get_or (put bs x st) (place_of x true) true ≡ st.may1
    second =
        get_or-set_same (set bs (place_of x false) st.may0) (place_of x true) st.may1 true
        (omega (arith, long, low, length-set bs (place_of x false) st.may0))

put_other : (bs : List Bool) (x y : ℕ) (st : State Bool) → y ≢ x → state_in (put bs x st) y ≡ state_in bs y
put_other bs x y st ne = λ i. record {
  may0 = kept (place_of y false) (λ e. ne (omega (arith, e))) (λ e. omega (arith, e)) i;
  may1 = kept (place_of y true) (λ e. omega (arith, e)) (λ e. ne (omega (arith, e))) i;
}
  where
    kept : (p : ℕ) → p ≢ place_of x false → p ≢ place_of x true → get_or (put bs x st) p true ≡ get_or bs p true
    kept p ne0 ne1 =
        get_or-set_other (set bs (place_of x false) st.may0) (place_of x true) p st.may1 true ne1
        ∙ get_or-set_other bs (place_of x false) p st.may0 true ne0

module _ {S V : Type 0} (bit : V → ℕ → Bool) where
  -- the bits of a state of signs, read at t
  abbrev read_at : Meaning S V → ℕ → State S → State Bool
  read_at m t st = record { may0 = bit (m.value st.may0) t; may1 = bit (m.value st.may1) t }

  put_bits_lem : (m : Meaning S V) (xs : List S) (x : ℕ) (st : State S) (t : ℕ)
      → map (λ s. bit (m.value s) t) (put xs x st) ≡ put (map (λ s. bit (m.value s) t) xs) x (read_at m t st)
  put_bits_lem m xs x st t =
      map-set (λ s. bit (m.value s) t) (set xs (place_of x false) st.may0) (place_of x true) st.may1
      ∙ ap (λ bs. set bs (place_of x true) (bit (m.value st.may1) t)) (map-set (λ s. bit (m.value s) t) xs (place_of x false) st.may0)

  pub shown_put : (m : Meaning S V) (xs : List S) (x : ℕ) (st : State S) (t : ℕ) → length xs ≡ 256 → x ≤ 127
      → shown bit m (put xs x st) t x ≡ read_at m t st
  shown_put m xs x st t long low =
      ap (λ bs. state_in bs x) (put_bits_lem m xs x st t)
      ∙ put_same (map (λ s. bit (m.value s) t) xs) x (read_at m t st) (length-map xs (λ s. bit (m.value s) t) ∙ long) low

  pub shown_other : (m : Meaning S V) (xs : List S) (x y : ℕ) (st : State S) (t : ℕ) → y ≢ x
      → shown bit m (put xs x st) t y ≡ shown bit m xs t y
  shown_other m xs x y st t ne =
      ap (λ bs. state_in bs y) (put_bits_lem m xs x st t)
      ∙ put_other (map (λ s. bit (m.value s) t) xs) x y (read_at m t st) ne

  pub shown_beyond : (m : Meaning S V) (xs : List S) (t x : ℕ) → length xs ≡ 256 → 127 < x → shown bit m xs t x ≡ unknown
  shown_beyond m xs t x long high =
      let bs = map (λ s. bit (m.value s) t) xs in
      let beyond : (p : ℕ) → 256 ≤ p → get_or bs p true ≡ true = λ p le. get_or_past bs p true (omega (arith, le, long, length-map xs (λ s. bit (m.value s) t))) in
      λ i. record { may0 = beyond (place_of x false) (omega (arith, high)) i; may1 = beyond (place_of x true) (omega (arith, high)) i }

module _ {S V : Type 0} where
  pub hand_put : (m : Meaning S V) (xs : List S) (x : ℕ) (st : State S) → m.hand st.may0 ≡ true → m.hand st.may1 ≡ true
      → InHand m xs → InHand m (put xs x st)
  hand_put m xs x st h0 h1 hand =
      every_set (λ s. m.hand s ≡ true) (set xs (place_of x false) st.may0) (place_of x true) st.may1 h1
      (every_set (λ s. m.hand s ≡ true) xs (place_of x false) st.may0 h0 hand)

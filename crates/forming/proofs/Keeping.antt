-- Signs that stay in hand: tables and states of them mean what they meant. Assumes nothing.
use Rattle.std.proofs.Common.{◌≡◌, ℕ, ◌<◌, Bool, true, false, List, [], ◌∷◌, map, length, get_or, sym, refl, ap, subst, ap₂}
use Rattle.cell.proofs.Members.{every_map}
use Rattle.algebra.specs.Holding.{Meaning, Stays}
use Rattle.cell.proofs.Members.{every_place}
use Rattle.forming.specs.Signs.{InHand, values, place_of, shown}

module _ {S V : Type 0} where
  pub hand_stays : {m m' : Meaning S V} → Stays m m' → (xs : List S) → InHand m xs → InHand m' xs
  hand_stays st xs h = every_map st.hand xs h

  -- the sign at a place of a table in hand
  pub hand_at : (m : Meaning S V) (xs : List S) (i : ℕ) (s : S) → i < length xs → InHand m xs → s ≡ get_or xs i s → m.hand s ≡ true
  hand_at m xs i s l h e = subst (λ u. m.hand u ≡ true) (sym e) (every_place (λ u. m.hand u ≡ true) xs i s l h)

  -- what is read of the value of each sign is the same
  read_stays : {X : Type 0} (f : V → X) {m m' : Meaning S V} → Stays m m' → (xs : List S) → InHand m xs
      → map (λ s. f (m'.value s)) xs ≡ map (λ s. f (m.value s)) xs
  read_stays f st [] h = refl
  read_stays f st (x ∷ xs) h = ap₂ (λ v vs. v ∷ vs) (ap f (st.value x h.0)) (read_stays f st xs h.1)

  pub values_stay : {m m' : Meaning S V} → Stays m m' → (xs : List S) → InHand m xs → values m' xs ≡ values m xs
  values_stay st xs h = read_stays (λ v. v) st xs h

  pub shown_stays : (bit : V → ℕ → Bool) {m m' : Meaning S V} → Stays m m' → (states : List S) → InHand m states → (t : ℕ)
      → shown bit m' states t ≡ shown bit m states t
  shown_stays bit st states h t =
      ap (λ bs x. record { may0 = get_or bs (place_of x false) true; may1 = get_or bs (place_of x true) true })
      (read_stays (λ v. bit v t) st states h)

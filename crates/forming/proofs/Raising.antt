-- Tables some cells of which are raised. Assumes nothing.
use Rattle.std.proofs.Common.{◌≡◌, ℕ, ◌+◌, ◌*◌, ◌/◌, ◌<◌, ◌≤◌, Bool, true, ◌≢◌, ◌⊎◌, ◌↔◌, List, length, get_or, set, sym, refl, ap, ◌∙◌, subst, subst₂, inl, inr, ⊎_elim, arith}
use Rattle.std.proofs.lemmas.Nat.{mul-le, mul-add-lt, div-mul-add}
use Rattle.std.proofs.lemmas.List.{get_or-map, get_or-set_same, get_or-set_other, length-set, map-set}
use Rattle.cell.proofs.Finite.{same}
use Rattle.algebra.specs.Chain.{Chain}
use Rattle.algebra.specs.Holding.{Meaning, Stays, Means}
use Rattle.algebra.specs.Signals.{Boolean}
use Rattle.forming.specs.Signs.{InHand, values}
use Rattle.forming.proofs.Marking.{Marks}
use Rattle.forming.specs.Systems.{Raised}
use Rattle.forming.proofs.Bits.{join_cases, join_left, join_right}
use Rattle.paths.proofs.Holding.{stays_then}
use Rattle.cell.proofs.Members.{every_set}
use Rattle.forming.proofs.Keeping.{hand_stays, values_stay}

-- the cells of a table become 1 at t where P t says so, by row and column; other bits stay
pub record Rises {S V : Type 0} (A : Chain V) (bit : V → ℕ → Bool) (m m' : Meaning S V) (nets width : ℕ) (P : ℕ → ℕ → ℕ → Type 0) (xs ys : List S) : Type 0 where
  pub stays : Stays m m'
  pub hand : InHand m' ys
  pub long : length ys ≡ length xs
  pub cells : (t a b : ℕ) → a < nets → b < width
      → (bit (get_or (values m' ys) (a * width + b) A.zero) t ≡ true)
      ↔ ((bit (get_or (values m xs) (a * width + b) A.zero) t ≡ true) ⊎ P t a b)

-- the table of a component of at most 24 nets, with one or two own columns, has room
pub table_fits : (n columns : ℕ) → n ≤ 24 → columns ≤ 2 → (n + columns) * n ≤ 640
table_fits n columns h k = omega (arith, mul-le (n + columns) n 26 24 (omega (arith, h, k)) h)

-- two cells that stand at one place are one
one_cell : (w a b i j : ℕ) → b < w → j < w → a * w + b ≡ i * w + j → (a ≡ i) × (b ≡ j)
one_cell w a b i j hb hj e = go (sym (div-mul-add a w b hb) ∙ ap (λ x. x / w) e ∙ div-mul-add i w j hj)
  where
    go : a ≡ i → (a ≡ i) × (b ≡ j)
    go p = (p, let q : i * w + b ≡ i * w + j = subst (λ x. x * w + b ≡ i * w + j) p e in omega arith)

module _ {S V : Type 0} {A : Chain V} {bit : V → ℕ → Bool} {nets width : ℕ} where
  -- the cells of P are joined with a sign that is 1 where Q says so
  pub raised_rises : {m m' : Meaning S V} {P : ℕ → ℕ → Type 0} {s : S} {xs ys : List S} (Q : ℕ → Type 0)
      → Marks bit m s Q → Raised A bit m m' nets width P s xs ys → Rises A bit m m' nets width (λ t a b. P a b × Q t) xs ys
  raised_rises Q marks r = record {
    stays = r.stays;
    hand = r.hand;
    long = r.long;
    cells = λ t a b ha hb. (
      (λ h. ⊎_elim inl (λ p. inr (p.0, (marks.tells t).0 p.1)) ((r.cells t a b ha hb).0 h)),
      (λ h. (r.cells t a b ha hb).1 (⊎_elim inl (λ p. inr (p.0, (marks.tells t).1 p.1)) h)),
    );
  }

  -- a table that is not touched while values are formed
  pub rises_none : {m m' : Meaning S V} {xs : List S} → Stays m m' → InHand m xs → Rises A bit m m' nets width (λ t a b. ⊥) xs xs
  rises_none {xs = xs} st h = record {
    stays = st;
    hand = hand_stays st xs h;
    long = refl;
    cells = λ t a b ha hb.
        let e = ap (λ vs. bit (get_or vs (a * width + b) A.zero) t) (values_stay st xs h) in
        ((λ k. inl (sym e ∙ k)), ⊎_elim (λ k. e ∙ k) (λ n. absurd n));
  }

  -- values were formed before, or are formed after
  pub rises_later : {m m1 m2 : Meaning S V} {P : ℕ → ℕ → ℕ → Type 0} {xs ys : List S} → Stays m m1 → InHand m xs
      → Rises A bit m1 m2 nets width P xs ys → Rises A bit m m2 nets width P xs ys
  rises_later {m2 = m2} {P = P} {xs = xs} {ys = ys} st h r = record {
    stays = stays_then st r.stays;
    hand = r.hand;
    long = r.long;
    cells = λ t a b ha hb.
        subst (λ vs. (bit (get_or (values m2 ys) (a * width + b) A.zero) t ≡ true) ↔ ((bit (get_or vs (a * width + b) A.zero) t ≡ true) ⊎ P t a b))
        (values_stay st xs h) (r.cells t a b ha hb);
  }

  pub rises_before : {m m1 m2 : Meaning S V} {P : ℕ → ℕ → ℕ → Type 0} {xs ys : List S} → Rises A bit m m1 nets width P xs ys → Stays m1 m2
      → Rises A bit m m2 nets width P xs ys
  rises_before {m = m} {P = P} {xs = xs} {ys = ys} r st = record {
    stays = stays_then r.stays st;
    hand = hand_stays st ys r.hand;
    long = r.long;
    cells = λ t a b ha hb.
        subst (λ vs. (bit (get_or vs (a * width + b) A.zero) t ≡ true) ↔ ((bit (get_or (values m xs) (a * width + b) A.zero) t ≡ true) ⊎ P t a b))
        (sym (values_stay st ys r.hand)) (r.cells t a b ha hb);
  }

  -- one rise after another
  pub rises_then : {m m1 m2 : Meaning S V} {P Q : ℕ → ℕ → ℕ → Type 0} {xs ys zs : List S}
      → Rises A bit m m1 nets width P xs ys → Rises A bit m1 m2 nets width Q ys zs → Rises A bit m m2 nets width (λ t a b. P t a b ⊎ Q t a b) xs zs
  rises_then p q = record {
    stays = stays_then p.stays q.stays;
    hand = q.hand;
    long = q.long ∙ p.long;
    cells = λ t a b ha hb. (
      (λ h. ⊎_elim (λ k. ⊎_elim inl (λ l. inr (inl l)) ((p.cells t a b ha hb).0 k)) (λ k. inr (inr k)) ((q.cells t a b ha hb).0 h)),
      ⊎_elim (λ k. (q.cells t a b ha hb).1 (inl ((p.cells t a b ha hb).1 (inl k))))
          (⊎_elim (λ k. (q.cells t a b ha hb).1 (inl ((p.cells t a b ha hb).1 (inr k)))) (λ k. (q.cells t a b ha hb).1 (inr k))),
    );
  }

-- the same of a table in equal words
pub raised_at : {S V : Type 0} {A : Chain V} {bit : V → ℕ → Bool} {m m' : Meaning S V} {nets columns n c : ℕ} {P : ℕ → ℕ → Type 0} {s : S} {xs ys zs : List S}
    → xs ≡ ys → nets ≡ n → columns ≡ c → Raised A bit m m' nets (nets + columns) P s xs zs → Raised A bit m m' n (n + c) P s ys zs
raised_at {A = A} {bit = bit} {m = m} {m' = m'} {nets = nets} {columns = columns} {P = P} {s = s} {ys = ys} {zs = zs} e f h r =
    subst₂ (λ n c. Raised A bit m m' n (n + c) P s ys zs) f h (subst (λ v. Raised A bit m m' nets (nets + columns) P s v zs) e r)

-- a cell becomes the join of what it was and a sign
module _ {S V : Type 0} {A : Chain V} {bit : V → ℕ → Bool} (B : Boolean A bit) (m m' : Meaning S V) (nets width row column at : ℕ) (xs : List S) (s d y : S)
    (st : Stays m m') (hand : InHand m xs) (hr : row < nets) (hc : column < width) (room : width * nets ≤ length xs)
    (at_is : at ≡ row * width + column) (joined : Means m' y (A.join (m.value (get_or xs at d)) (m.value s))) where
  inside : at < length xs
  inside = omega (arith, mul-add-lt row width column nets hr hc)

  abbrev old : ℕ → V
  old i = get_or (values m xs) i A.zero

  abbrev new : ℕ → V
  new i = get_or (values m' (set xs at y)) i A.zero

  -- its value is the join
  here : new at ≡ A.join (old at) (m.value s)
  here =
      get_or-map m'.value (set xs at y) at y A.zero (omega (arith, inside, length-set xs at y))
      ∙ ap m'.value (get_or-set_same xs at y y inside) ∙ joined.value
      ∙ ap (λ v. A.join v (m.value s)) (sym (get_or-map m.value xs at d A.zero inside))

  -- the others stay
  there : (i : ℕ) → i ≢ at → new i ≡ old i
  there i ne =
      ap (λ vs. get_or vs i A.zero) (map-set m'.value xs at y) ∙ get_or-set_other (values m' xs) at i (m'.value y) A.zero ne
      ∙ ap (λ vs. get_or vs i A.zero) (values_stay st xs hand)

  abbrev Changed : ℕ → ℕ → ℕ → Type 0
  Changed t a b = (bit (new (a * width + b)) t ≡ true) ↔ ((bit (old (a * width + b)) t ≡ true) ⊎ (((a ≡ row) × (b ≡ column)) × (bit (m.value s) t ≡ true)))

  cell_there : (t a b : ℕ) → b < width → (a * width + b ≡ at) ⊎ (a * width + b ≢ at) → Changed t a b
  cell_there t a b hb (inl e) = (
    (λ h. ⊎_elim (λ k. inl (ap (λ i. bit (old i) t) e ∙ k)) (λ k. inr (one_cell width a b row column hb hc (e ∙ at_is), k))
        (join_cases B t (old at) (m.value s) (ap (λ v. bit v t) (sym here) ∙ ap (λ i. bit (new i) t) (sym e) ∙ h))),
    (λ h. ap (λ i. bit (new i) t) e ∙ ap (λ v. bit v t) here
        ∙ ⊎_elim (λ k. join_left B t (old at) (m.value s) (ap (λ i. bit (old i) t) (sym e) ∙ k)) (λ k. join_right B t (old at) (m.value s) k.1) h),
  )
  cell_there t a b hb (inr ne) =
      let e = ap (λ v. bit v t) (there (a * width + b) ne) in (
        (λ h. inl (sym e ∙ h)),
        ⊎_elim (λ k. e ∙ k) (λ k. absurd (ne (subst (λ i. i * width + b ≡ at) (sym k.0.0) (ap (λ j. row * width + j) k.0.1 ∙ sym at_is)))),
      )

  pub cell_raised : Raised A bit m m' nets width (λ a b. (a ≡ row) × (b ≡ column)) s xs (set xs at y)
  cell_raised = record {
    stays = st;
    hand = every_set (λ u. m'.hand u ≡ true) xs at y joined.hand (hand_stays st xs hand);
    long = length-set xs at y;
    cells = λ t a b ha hb. cell_there t a b hb (same (a * width + b) at);
  }

-- Cells of a table relaxed through one net: some cells, and then others. Assumes nothing.
use Rattle.std.proofs.Common.{◌≡◌, ℕ, ◌+◌, ◌*◌, ◌/◌, ◌<◌, ◌≤◌, ◌≢◌, ◌⊎◌, List, length, get_or, sym, refl, ap, ◌∙◌, subst, ap₂, subst₂, inl, inr, ⊎_elim, arith}
use Rattle.std.proofs.lemmas.Nat.{mul-add-lt, div-mul-add}
use Rattle.std.proofs.lemmas.List.{length-set, get_or-set_same, get_or-set_other}
use Rattle.cell.proofs.Finite.{same}
use Rattle.algebra.specs.Chain.{Chain}
use Rattle.paths.specs.Work.{Formed, cell, value, Relaxed, relaxing, row_till, rows_till}
use Rattle.paths.proofs.Working.{Adds}

-- The cells of R are those of P and those of Q, none of them both; and those of P are in other rows than k, and after column k.
record Split (m w k : ℕ) (P Q R : ℕ → ℕ → Type 0) : Type 0 where
  left : (a b : ℕ) → P a b → R a b
  right : (a b : ℕ) → Q a b → R a b
  parts : (a b : ℕ) → a < m → b < w → R a b → P a b ⊎ Q a b
  apart : (a b : ℕ) → P a b → ¬ (Q a b)
  clear : (a b : ℕ) → P a b → (a ≢ k) × (k < b)

-- the same values where the cells stood
formed_at : {V : Type 0} (A : Chain V) {x x' y y' z z' v : V} → x ≡ x' → y ≡ y' → z ≡ z' → Formed A x y z v → Formed A x' y' z' v
formed_at A p q r (inl e) = inl (e ∙ ap₂ A.meet q r)
formed_at A p q r (inr e) = inr (e ∙ ap₂ A.join p (ap₂ A.meet q r))

module _ {V : Type 0} (A : Chain V) (m w k : ℕ) (hk : k < m) (hw : m ≤ w) where
  module _ (P Q R : ℕ → ℕ → Type 0) (s : Split m w k P Q R) (vs us : List V) (p : Relaxed A m w k P vs us) where
    -- what a cell of Q is relaxed with is as it was
    here : (a b : ℕ) → a < m → b < w → Q a b → value A w us a b ≡ value A w vs a b
    here a b ha hb q = p.old a b ha hb (λ h. s.apart a b h q)

    link : (a : ℕ) → a < m → value A w us a k ≡ value A w vs a k
    link a ha = p.old a k ha (omega arith) (λ h. let l : k < k = (s.clear a k h).1 in omega arith)

    over : (b : ℕ) → b < w → value A w us k b ≡ value A w vs k b
    over b hb = p.old k b hk hb (λ h. (s.clear k b h).0 refl)

    then_relaxed : (ws : List V) → Relaxed A m w k Q us ws → Relaxed A m w k R vs ws
    then_relaxed ws q = record {
      long = q.long ∙ p.long;
      new = λ a b ha hb r. go a b ha hb (s.parts a b ha hb r);
      old = λ a b ha hb n. q.old a b ha hb (λ h. n (s.right a b h)) ∙ p.old a b ha hb (λ h. n (s.left a b h));
    }
      where
        go : (a b : ℕ) → a < m → b < w → P a b ⊎ Q a b → value A w ws a b ≡ A.join (value A w vs a b) (A.meet (value A w vs a k) (value A w vs k b))
        go a b ha hb (inl h) = q.old a b ha hb (s.apart a b h) ∙ p.new a b ha hb h
        go a b ha hb (inr h) = q.new a b ha hb h ∙ ap₂ A.join (here a b ha hb h) (ap₂ A.meet (link a ha) (over b hb))

  relaxing_adds : (n : ℕ) (P Q R : ℕ → ℕ → Type 0) → Split m w k P Q R → Adds n (relaxing A m w k P) (relaxing A m w k Q) (relaxing A m w k R)
  unfolding relaxing
  relaxing_adds n P Q R s = record {
    done = λ vs us ws l p q. then_relaxed P Q R s vs us p ws q;
    into = λ vs us v l p. elim [
      | inl (a, b, ha, hb, h, f) ↦ (a, b, ha, hb, s.left a b h, f)
      | inr (a, b, ha, hb, h, f) ↦
          (a, b, ha, hb, s.right a b h, formed_at A (here P Q R s vs us p a b ha hb h) (link P Q R s vs us p a ha) (over P Q R s vs us p b hb) f)
    ];
    out = λ vs us v l p r. out vs us v p r.0 r.1 r.2 r.3 (s.parts r.0 r.1 r.2 r.3 r.4) r.5;
  }
    where
      out : (vs us : List V) (v : V) → Relaxed A m w k P vs us → (a b : ℕ) → a < m → b < w → P a b ⊎ Q a b → Formed A (value A w vs a b) (value A w vs a k) (value A w vs k b) v
          → (relaxing A m w k P).forms vs v ⊎ (relaxing A m w k Q).forms us v
      out vs us v p a b ha hb (inl h) f = inl (a, b, ha, hb, h, f)
      out vs us v p a b ha hb (inr h) f =
          inr (a, b, ha, hb, h, formed_at A (sym (here P Q R s vs us p a b ha hb h)) (sym (link P Q R s vs us p a ha)) (sym (over P Q R s vs us p b hb)) f)

module _ {V : Type 0} (A : Chain V) (m w k : ℕ) where
  -- no cell
  pub relaxed_none : (P : ℕ → ℕ → Type 0) → ((a b : ℕ) → ¬ (P a b)) → (vs : List V) → (relaxing A m w k P).done vs vs
  unfolding relaxing
  relaxed_none P none vs = record { long = refl; new = λ a b ha hb h. absurd (none a b h); old = λ a b ha hb n. refl }

  pub forms_none : (P : ℕ → ℕ → Type 0) → ((a b : ℕ) → ¬ (P a b)) → (vs : List V) (v : V) → ¬ ((relaxing A m w k P).forms vs v)
  unfolding relaxing
  forms_none P none vs v (a, b, ha, hb, h, f) = none a b h

  -- the same cells
  pub relaxed_same : (P Q : ℕ → ℕ → Type 0) → ((a b : ℕ) → P a b → Q a b) → ((a b : ℕ) → Q a b → P a b)
      → (vs us : List V) → (relaxing A m w k P).done vs us → (relaxing A m w k Q).done vs us
  unfolding relaxing
  relaxed_same P Q f g vs us p = record {
    long = p.long;
    new = λ a b ha hb q. p.new a b ha hb (g a b q);
    old = λ a b ha hb n. p.old a b ha hb (λ h. n (f a b h));
  }

  pub forms_wider : (P Q : ℕ → ℕ → Type 0) → ((a b : ℕ) → P a b → Q a b) → (vs : List V) (v : V) → (relaxing A m w k P).forms vs v → (relaxing A m w k Q).forms vs v
  unfolding relaxing
  forms_wider P Q f vs v (a, b, ha, hb, h, g) = (a, b, ha, hb, f a b h, g)

-- the cells of a row, one more
row_split : (m w k i j : ℕ) → i ≢ k → k < j → j ≢ i → Split m w k (row_till k i j) (λ a b. (a ≡ i) × (b ≡ j)) (row_till k i (j + 1))
row_split m w k i j ik kj ji = record {
  left = λ a b h. let l : b < j = h.2 in (h.0, h.1, omega arith, h.3);
  right = λ a b h. let e : b ≡ j = h.1 in (h.0, omega arith, omega arith, λ q. ji (sym e ∙ q));
  parts = λ a b ha hb h. go a b h (same b j);
  apart = λ a b h q. let l : b < j = h.2 in let e : b ≡ j = q.1 in omega arith;
  clear = λ a b h. ((λ q. ik (sym h.0 ∙ q)), h.1);
}
  where
    go : (a b : ℕ) → row_till k i (j + 1) a b → (b ≡ j) ⊎ (b ≢ j) → row_till k i j a b ⊎ ((a ≡ i) × (b ≡ j))
    go a b h (inl e) = inr (h.0, e)
    go a b h (inr ne) = let l : b < j + 1 = h.2 in inl (h.0, h.1, omega arith, h.3)

-- the rows, one more
rows_split : (m w k n : ℕ) → n ≢ k → Split m w k (rows_till k n) (row_till k n w) (rows_till k (n + 1))
rows_split m w k n nk = record {
  left = λ a b h. let l : a < n = h.0 in (omega arith, h.1, h.2, h.3);
  right = λ a b h. let e : a ≡ n = h.0 in (omega arith, (λ q. nk (sym e ∙ q)), h.1, λ q. h.3 (q ∙ e));
  parts = λ a b ha hb h. go a b hb h (same a n);
  apart = λ a b h q. let l : a < n = h.0 in let e : a ≡ n = q.0 in omega arith;
  clear = λ a b h. (h.1, h.2);
}
  where
    go : (a b : ℕ) → b < w → rows_till k (n + 1) a b → (a ≡ n) ⊎ (a ≢ n) → rows_till k n a b ⊎ row_till k n w a b
    go a b hb h (inl e) = inr (e, h.2, hb, λ q. h.3 (q ∙ sym e))
    go a b hb h (inr ne) = let l : a < n + 1 = h.0 in inl (omega arith, h.1, h.2, h.3)

-- two cells do not stand at one place
places_apart : (w a b i j : ℕ) → b < w → j < w → ¬ ((a ≡ i) × (b ≡ j)) → a * w + b ≢ i * w + j
places_apart w a b i j hb hj ne e = go (sym (div-mul-add a w b hb) ∙ ap (λ x. x / w) e ∙ div-mul-add i w j hj)
  where
    go : a ≡ i → ⊥
    go p = ne (p, let q : i * w + b ≡ i * w + j = subst (λ x. x * w + b ≡ i * w + j) p e in omega arith)

-- one cell, by its place
module _ {V : Type 0} (A : Chain V) (m w k i j : ℕ) (hk : k < m) (hi : i < m) (hj : j < w) where
  abbrev one : ℕ → ℕ → Type 0
  one a b = (a ≡ i) × (b ≡ j)

  cell_relaxed : (us ws : List V) → w * m ≤ length us → (cell A (i * w + j) (i * w + k) (k * w + j)).done us ws → Relaxed A m w k one us ws
  unfolding cell
  cell_relaxed us ws l e = record {
    long = ap length e ∙ length-set us (i * w + j) _;
    new = λ a b ha hb h. subst₂ (λ x y. value A w ws x y ≡ A.join (value A w us x y) (A.meet (value A w us x k) (value A w us k y))) (sym h.0) (sym h.1)
        (ap (λ zs. get_or zs (i * w + j) A.zero) e ∙ get_or-set_same us (i * w + j) _ A.zero (omega (arith, mul-add-lt i w j m hi hj)));
    old = λ a b ha hb n. ap (λ zs. get_or zs (a * w + b) A.zero) e ∙ get_or-set_other us (i * w + j) (a * w + b) _ A.zero (places_apart w a b i j hb hj n);
  }

  cell_into : (us : List V) (v : V) → (cell A (i * w + j) (i * w + k) (k * w + j)).forms us v → (relaxing A m w k one).forms us v
  unfolding cell relaxing
  cell_into us v f = (i, j, hi, hj, (refl, refl), f)

  cell_out : (us : List V) (v : V) → (relaxing A m w k one).forms us v → (cell A (i * w + j) (i * w + k) (k * w + j)).forms us v
  unfolding cell relaxing
  cell_out us v (a, b, ha, hb, h, f) = subst₂ (λ x y. Formed A (value A w us x y) (value A w us x k) (value A w us k y) v) h.0 h.1 f

  pub row_next : m ≤ w → i ≢ k → k < j → j ≢ i
      → Adds (w * m) (relaxing A m w k (row_till k i j)) (cell A (i * w + j) (i * w + k) (k * w + j)) (relaxing A m w k (row_till k i (j + 1)))
  unfolding relaxing
  row_next hw ik kj ji =
      let s = relaxing_adds A m w k hk hw (w * m) _ _ _ (row_split m w k i j ik kj ji) in
      record {
        done = λ vs us ws l p q. s.done vs us ws l p (cell_relaxed us ws (omega (arith, p.long)) q);
        into = λ vs us v l p. elim [ inl f ↦ s.into vs us v l p (inl f) | inr f ↦ s.into vs us v l p (inr (cell_into us v f)) ];
        out = λ vs us v l p r. ⊎_elim inl (λ f. inr (cell_out us v f)) (s.out vs us v l p r);
      }

pub rows_next : {V : Type 0} (A : Chain V) (m w k n : ℕ) → k < m → m ≤ w → n ≢ k
    → Adds (w * m) (relaxing A m w k (rows_till k n)) (relaxing A m w k (row_till k n w)) (relaxing A m w k (rows_till k (n + 1)))
rows_next A m w k n hk hw nk = relaxing_adds A m w k hk hw (w * m) _ _ _ (rows_split m w k n nk)

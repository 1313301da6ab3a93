-- The turns of the two inner loops: the cells of a row, and the rows. Assumes nothing.
use Rattle.std.proofs.Common.{◌≡◌, ℕ, ◌+◌, ◌*◌, ◌<◌, ◌≤◌, true, ◌≢◌, List, map, length, sym, refl, ap, ◌∙◌, subst, ap₂, subst₂, arith}
use Rattle.cell.specs.Lists.{Every}
use Rattle.algebra.specs.Chain.{Chain}
use Rattle.algebra.specs.Holding.{Meaning, Stopped}
use Rattle.paths.specs.declared.Table.{Table}
use Rattle.paths.specs.Shapes.{SameTable}
use Rattle.paths.specs.Work.{Work, Ran, cell, relaxing, row_till, rows_till}
use Rattle.paths.proofs.Holding.{stopped_more}
use Rattle.paths.proofs.Working.{Adds, ran_none, ran_same, ran_then, stopped_then}
use Rattle.paths.proofs.Cells.{relaxed_none, forms_none, relaxed_same, forms_wider, row_next, rows_next}

-- a piece of work was done on the signs of a table, and it is the same table
abbrev pub RanOn : {S V : Type 0} → (V → V → Type 0) → Work V → Meaning S V → Meaning S V → Table S → Table S → Type 0
RanOn keeps p before after t u = Ran keeps p before after t.signs.now u.signs.now × SameTable t u

pub same_refl : {S : Type 0} (t : Table S) → SameTable t t
same_refl t = (refl, refl, refl, refl)

pub same_then : {S : Type 0} (t u v : Table S) → SameTable t u → SameTable u v → SameTable t v
same_then t u v p q = (q.0 ∙ p.0, q.1 ∙ p.1, q.2 ∙ p.2, q.3 ∙ p.3)

-- what holds at one shape holds at an equal one
pub at_shape : {S : Type 0} (P : ℕ → ℕ → Type 0) (t u : Table S) → SameTable t u → P u.nets u.columns → P t.nets t.columns
at_shape P t u s = subst₂ P s.1 s.2

-- the same work, at equal ends
pub ran_at : {C S V : Type 0} (keeps : V → V → Type 0) (p : Work V) (meaning : C → Meaning S V) {before : Meaning S V} (t : Table S) (new : C) (u : Table S) {new' : C} {u' : Table S}
    → new' ≡ new → u' ≡ u → RanOn keeps p before (meaning new) t u → RanOn keeps p before (meaning new') t u'
ran_at keeps p meaning {before} t new u e f r = subst₂ (λ c v. RanOn keeps p before (meaning c) t v) (sym e) (sym f) r

module _ {S V : Type 0} (keeps : V → V → Type 0) (A : Chain V) (m w k : ℕ) where
  -- no cell yet
  start : (P : ℕ → ℕ → Type 0) → ((a b : ℕ) → ¬ (P a b)) → (c : Meaning S V) (xs : List S) → Every (λ s. c.hand s ≡ true) xs → Ran keeps (relaxing A m w k P) c c xs xs
  start P none c xs h = ran_none keeps (relaxing A m w k P) c xs h (relaxed_none A m w k P none) (forms_none A m w k P none)

  -- the same cells
  idle : (P Q : ℕ → ℕ → Type 0) → ((a b : ℕ) → P a b → Q a b) → ((a b : ℕ) → Q a b → P a b) → {before after : Meaning S V} {xs ys : List S}
      → Ran keeps (relaxing A m w k P) before after xs ys → Ran keeps (relaxing A m w k Q) before after xs ys
  idle P Q f g = ran_same keeps (relaxing A m w k P) (relaxing A m w k Q) (relaxed_same A m w k P Q f g) (forms_wider A m w k P Q f) (forms_wider A m w k Q P g)

  pub row_start : (i : ℕ) (c : Meaning S V) (xs : List S) → Every (λ s. c.hand s ≡ true) xs → Ran keeps (relaxing A m w k (row_till k i (k + 1))) c c xs xs
  row_start i = start (row_till k i (k + 1)) (λ a b h. let l : k < b = h.1 in let u : b < k + 1 = h.2 in omega arith)

  pub row_idle : (i j : ℕ) → j ≡ i → {before after : Meaning S V} {xs ys : List S}
      → Ran keeps (relaxing A m w k (row_till k i j)) before after xs ys → Ran keeps (relaxing A m w k (row_till k i (j + 1))) before after xs ys
  row_idle i j e = idle (row_till k i j) (row_till k i (j + 1))
      (λ a b h. let u : b < j = h.2 in (h.0, h.1, omega arith, h.3))
      (λ a b h. let u : b < j + 1 = h.2 in let n : b ≢ i = h.3 in (h.0, h.1, omega arith, n))

  pub rows_start : (c : Meaning S V) (xs : List S) → Every (λ s. c.hand s ≡ true) xs → Ran keeps (relaxing A m w k (rows_till k 0)) c c xs xs
  rows_start = start (rows_till k 0) (λ a b h. let l : a < 0 = h.0 in omega arith)

  pub rows_idle : (i : ℕ) → i ≡ k → {before after : Meaning S V} {xs ys : List S}
      → Ran keeps (relaxing A m w k (rows_till k i)) before after xs ys → Ran keeps (relaxing A m w k (rows_till k (i + 1))) before after xs ys
  rows_idle i e = idle (rows_till k i) (rows_till k (i + 1))
      (λ a b h. let u : a < i = h.0 in (omega arith, h.1, h.2, h.3))
      (λ a b h. let u : a < i + 1 = h.0 in let n : a ≢ k = h.1 in (omega arith, n, h.2, h.3))

  module _ (hk : k < m) (hw : m ≤ w) {before mid : Meaning S V} {xs ys : List S} (long : w * m ≤ length xs) where
    -- the cell at column j of row i, by the places that the code computes
    module _ (i j at via on : ℕ) (hi : i < m) (hj : j < w) (ik : i ≢ k) (kj : k < j) (ji : j ≢ i)
        (at_is : at ≡ i * w + j) (via_is : via ≡ i * w + k) (on_is : on ≡ k * w + j) (first : Ran keeps (relaxing A m w k (row_till k i j)) before mid xs ys) where
      adds : Adds (w * m) (relaxing A m w k (row_till k i j)) (cell A at via on) (relaxing A m w k (row_till k i (j + 1)))
      adds = subst (λ q. Adds (w * m) (relaxing A m w k (row_till k i j)) q (relaxing A m w k (row_till k i (j + 1))))
          (ap (λ x. cell A x (i * w + k) (k * w + j)) (sym at_is) ∙ ap₂ (cell A at) (sym via_is) (sym on_is))
          (row_next A m w k i j hk hi hj hw ik kj ji)

      pub row_turn : (after : Meaning S V) (zs : List S) → Ran keeps (cell A at via on) mid after ys zs → Ran keeps (relaxing A m w k (row_till k i (j + 1))) before after xs zs
      row_turn after zs second = ran_then keeps (w * m) _ _ _ adds before mid xs ys long first second

      pub row_stopped : (after : Meaning S V) → Stopped keeps mid ((cell A at via on).forms (map mid.value ys)) after
          → Stopped keeps before ((relaxing A m w k (row_till k i w)).forms (map before.value xs)) after
      row_stopped after second =
          stopped_more keeps (forms_wider A m w k (row_till k i (j + 1)) (row_till k i w) (λ a b h. let u : b < j + 1 = h.2 in (h.0, h.1, omega arith, h.3)) _)
          (stopped_then keeps (w * m) _ _ _ adds before mid xs ys long first second)

    -- row i
    module _ (i : ℕ) (hi : i < m) (ik : i ≢ k) (first : Ran keeps (relaxing A m w k (rows_till k i)) before mid xs ys) where
      pub rows_turn : (after : Meaning S V) (zs : List S) → Ran keeps (relaxing A m w k (row_till k i w)) mid after ys zs → Ran keeps (relaxing A m w k (rows_till k (i + 1))) before after xs zs
      rows_turn after zs second = ran_then keeps (w * m) _ _ _ (rows_next A m w k i hk hw ik) before mid xs ys long first second

      pub rows_stopped : (after : Meaning S V) → Stopped keeps mid ((relaxing A m w k (row_till k i w)).forms (map mid.value ys)) after
          → Stopped keeps before ((relaxing A m w k (rows_till k m)).forms (map before.value xs)) after
      rows_stopped after second =
          stopped_more keeps (forms_wider A m w k (rows_till k (i + 1)) (rows_till k m) (λ a b h. let u : a < i + 1 = h.0 in (omega arith, h.1, h.2, h.3)) _)
          (stopped_then keeps (w * m) _ _ _ (rows_next A m w k i hk hw ik) before mid xs ys long first second)

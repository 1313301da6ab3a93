-- The work of the solver on a table of signs: a cell, the cells of a row, the rows. Assumes nothing.
use Rattle.std.specs.Prelude.{◌≡◌, ℕ, ◌+◌, ◌*◌, ◌<◌, true, ◌≢◌, ◌⊎◌, List, map, length, Ok, Err, Result, slice_index_or, slice_set}
use Rattle.cell.specs.Lists.{Every}
use Rattle.algebra.specs.declared.Declined.{Declined}
use Rattle.algebra.specs.Chain.{Chain}
use Rattle.algebra.specs.Holding.{Meaning, Went, Stopped}

-- a piece of work: what it makes of a table's values, and which values it forms for that
pub record Work (V : Type 0) : Type 1 where
  pub done : List V → List V → Type 0
  pub forms : List V → V → Type 0

-- a piece of work was done on a table of signs
pub record Ran {S V : Type 0} (keeps : V → V → Type 0) (p : Work V) (before after : Meaning S V) (xs ys : List S) : Type 0 where
  pub in_hand : Every (λ s. after.hand s ≡ true) ys
  pub done : p.done (map before.value xs) (map after.value ys)
  pub went : Went keeps before (p.forms (map before.value xs)) after

-- a piece of work is done, or one of the values that it forms is declined
abbrev pub Working : {S V : Type 0} → (V → V → Type 0) → Work V → Meaning S V → Meaning S V → List S → List S → Result Unit Declined → Type 0
Working keeps p before after xs ys (Ok done) = Ran keeps p before after xs ys
Working keeps p before after xs ys (Err e) = Stopped keeps before (p.forms (map before.value xs)) after

-- the values x, y and z stood at a place, left and right: the meet of y and z is formed, and its join with x
abbrev pub Formed : {V : Type 0} → Chain V → V → V → V → V → Type 0
Formed A x y z v = (v ≡ A.meet y z) ⊎ (v ≡ A.join x (A.meet y z))

-- the cell at one place joined with the meet of the cells at two others
unfoldable pub cell : {V : Type 0} → Chain V → ℕ → ℕ → ℕ → Work V
cell A at left right = record {
  done = λ vs us. us ≡ slice_set vs at (A.join (slice_index_or vs at A.zero) (A.meet (slice_index_or vs left A.zero) (slice_index_or vs right A.zero)));
  forms = λ vs v. Formed A (slice_index_or vs at A.zero) (slice_index_or vs left A.zero) (slice_index_or vs right A.zero) v;
}

-- the value at column j of row i of a table of rows of w values
abbrev pub value : {V : Type 0} → Chain V → ℕ → List V → ℕ → ℕ → V
value A w vs i j = slice_index_or vs (i * w + j) A.zero

-- In a table of m rows each cell of P is joined with the meet of its row's link to k and the cell of row k in its column; the others stay.
pub record Relaxed {V : Type 0} (A : Chain V) (m w k : ℕ) (P : ℕ → ℕ → Type 0) (vs us : List V) : Type 0 where
  pub long : length us ≡ length vs
  pub new : (a b : ℕ) → a < m → b < w → P a b → value A w us a b ≡ A.join (value A w vs a b) (A.meet (value A w vs a k) (value A w vs k b))
  pub old : (a b : ℕ) → a < m → b < w → ¬ (P a b) → value A w us a b ≡ value A w vs a b

-- the cells of P relaxed through net k
unfoldable pub relaxing : {V : Type 0} → Chain V → ℕ → ℕ → ℕ → (ℕ → ℕ → Type 0) → Work V
relaxing A m w k P = record {
  done = Relaxed A m w k P;
  forms = λ vs v. (a b : ℕ) × (a < m) × (b < w) × P a b × Formed A (value A w vs a b) (value A w vs a k) (value A w vs k b) v;
}

-- the cells of row i after k and before j, but for the net's link to itself
abbrev pub row_till : ℕ → ℕ → ℕ → ℕ → ℕ → Type 0
row_till k i j a b = (a ≡ i) × (k < b) × (b < j) × (b ≢ i)

-- the same in all rows before n but row k
abbrev pub rows_till : ℕ → ℕ → ℕ → ℕ → Type 0
rows_till k n a b = (a < n) × (a ≢ k) × (k < b) × (b ≢ a)

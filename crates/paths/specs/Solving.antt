-- Systems with shared links in one table of signs, and what solving them gives. Assumes nothing.
use Rattle.std.specs.Prelude.{◌≡◌, ℕ, zero, suc, ◌+◌, ◌*◌, ◌<◌, true, cond, not, ◌&&◌, ◌≢◌, List, map, Ok, Err, Result, ◌==◌, nat_lt, slice_index_or}
use Rattle.cell.specs.Lists.{Every}
use Rattle.algebra.specs.declared.Declined.{Declined}
use Rattle.algebra.specs.Chain.{Chain}
use Rattle.algebra.specs.Holding.{Meaning, Went, Stopped}
use Rattle.paths.specs.Paths.{System, JoinOfPaths}

-- the values of a table of m rows of m links and then `columns` own values: the system of own column c
abbrev pub system : {V : Type 0} → Chain V → ℕ → ℕ → List V → ℕ → System V
system A m columns vs c = record { link = λ i j. slice_index_or vs (i * (m + columns) + j) A.zero; own = λ i. slice_index_or vs (i * (m + columns) + (m + c)) A.zero }

-- net k eliminated: each other net takes up what it reaches through k
abbrev pub eliminated : {V : Type 0} → Chain V → ℕ → System V → System V
eliminated A k S = record {
  link = λ i j. cond (not (i == k) && nat_lt k j && not (i == j)) (A.join (S.link i j) (A.meet (S.link i k) (S.link k j))) (S.link i j);
  own = λ i. cond (i == k) (S.own i) (A.join (S.own i) (A.meet (S.link i k) (S.own k)));
}

-- the nets below k eliminated, in rising number
abbrev pub eliminated_below : {V : Type 0} → Chain V → ℕ → System V → System V
eliminated_below A zero S = S
eliminated_below A (suc k) S = eliminated A k (eliminated_below A k S)

-- the values formed when net k is eliminated: a meet, and its join with what was there, for each other net's own value and for
-- each of its links to a third net above k
pub data FormedAt {V : Type 0} (A : Chain V) (m k : ℕ) (S : System V) : V → Type 0 where
  own_meet : (i : ℕ) → i < m → i ≢ k → FormedAt A m k S (A.meet (S.link i k) (S.own k))
  own_join : (i : ℕ) → i < m → i ≢ k → FormedAt A m k S (A.join (S.own i) (A.meet (S.link i k) (S.own k)))
  link_meet : (i j : ℕ) → i < m → j < m → i ≢ k → k < j → j ≢ i → FormedAt A m k S (A.meet (S.link i k) (S.link k j))
  link_join : (i j : ℕ) → i < m → j < m → i ≢ k → k < j → j ≢ i → FormedAt A m k S (A.join (S.link i j) (A.meet (S.link i k) (S.link k j)))

-- all that is formed when the nets of the systems are eliminated in rising number
abbrev pub FormedBy : {V : Type 0} → Chain V → ℕ → ℕ → List V → V → Type 0
FormedBy A m columns vs v =
    (c k : ℕ) × (c < columns) × (k < m) × FormedAt A m k (eliminated_below A k (system A m columns vs c)) v

-- In each own column the sign of each net means the join, over all its paths, of what they are worth.
pub record Solved {S V : Type 0} (keeps : V → V → Type 0) (A : Chain V) (m columns : ℕ) (before after : Meaning S V) (xs ys : List S) : Type 0 where
  pub in_hand : Every (λ s. after.hand s ≡ true) ys
  pub joins : (c i : ℕ) (d : S) → c < columns → i < m → JoinOfPaths A m (system A m columns (map before.value xs) c) i (after.value (slice_index_or ys (i * (m + columns) + (m + c)) d))
  pub went : Went keeps before (FormedBy A m columns (map before.value xs)) after

-- a solving is done, or one of the values that it forms is declined
abbrev pub Solving : {S V : Type 0} → (V → V → Type 0) → Chain V → ℕ → ℕ → Meaning S V → Meaning S V → List S → List S → Result Unit Declined → Type 0
Solving keeps A m columns before after xs ys (Ok done) = Solved keeps A m columns before after xs ys
Solving keeps A m columns before after xs ys (Err e) = Stopped keeps before (FormedBy A m columns (map before.value xs)) after

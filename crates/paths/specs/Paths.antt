-- The paths of a system of nets, and the join of what they are worth. The nets are the numbers below m. Assumes nothing.
use Rattle.std.specs.Prelude.{◌≡◌, ℕ, ◌<◌, List, [], ◌∷◌}
use Rattle.cell.specs.Lists.{Every, Distinct}
use Rattle.algebra.specs.Chain.{Chain}

-- the order of a chain algebra
abbrev pub Under : {V : Type 0} → Chain V → V → V → Type 0
Under A a b = A.join a b ≡ b

-- the links between nets, and each net's own value
pub record System (V : Type 0) : Type 0 where
  pub link : ℕ → ℕ → V
  pub own : ℕ → V

-- A path from i is i and then the nets ns, none of them twice.
pub record IsPath (m i : ℕ) (ns : List ℕ) : Type 0 where
  pub within : Every (λ n. n < m) (i ∷ ns)
  pub distinct : Distinct (i ∷ ns)

-- what a path is worth: its links met from left to right, and last the own value of its last net
abbrev pub worth : {V : Type 0} → Chain V → System V → ℕ → List ℕ → V
worth A S i [] = S.own i
worth A S i (n ∷ ns) = A.meet (S.link i n) (worth A S n ns)

-- x is the join of what all paths from i are worth: their least upper bound
pub record JoinOfPaths {V : Type 0} (A : Chain V) (m : ℕ) (S : System V) (i : ℕ) (x : V) : Type 0 where
  pub above : (ns : List ℕ) → IsPath m i ns → Under A (worth A S i ns) x
  pub least : (y : V) → ((ns : List ℕ) → IsPath m i ns → Under A (worth A S i ns) y) → Under A x y

-- THE LAW: the join over all paths is one value
abbrev pub OneJoin : {V : Type 0} → Chain V → Type 0
OneJoin {V} A = (m : ℕ) (S : System V) (i : ℕ) (x y : V) → JoinOfPaths A m S i x → JoinOfPaths A m S i y → x ≡ y

-- Over an algebra of signals, the join of all paths is 1 exactly where some path is worth 1. Assumes nothing.
use Rattle.std.proofs.Common.{◌≡◌, ℕ, zero, suc, ◌<◌, ◌≤◌, Bool, true, ◌↔◌, List, [], ◌∷◌, length, refl, ap, subst, inl, inr, ⊎_elim, le_of_suc-le-suc, not-suc-le-zero, eq-or-lt_of_le, arith}
use Rattle.cell.specs.Lists.{In}
use Rattle.cell.proofs.Finite.{dec_in, few}
use Rattle.algebra.specs.Chain.{Chain}
use Rattle.algebra.specs.Signals.{Boolean}
use Rattle.paths.specs.Paths.{System, IsPath, worth, JoinOfPaths}
use Rattle.cell.proofs.Members.{every_in}
use Rattle.forming.proofs.Bits.{over, unless, join_cases, join_left, join_right, meet_parts, meet_from}
use Rattle.forming.proofs.Bits.{over_found, over_from, unless_parts, unless_from, under_bit, under_from}

-- the numbers below m
below : ℕ → List ℕ
below zero = []
below (suc m) = m ∷ below m

length_below : (m : ℕ) → length (below m) ≡ m
unfolding below
length_below zero = refl
length_below (suc m) = ap suc (length_below m)

in_below : (n m : ℕ) → n < m → In n (below m)
unfolding below
in_below n zero h = absurd (not-suc-le-zero h)
in_below n (suc m) h = ⊎_elim (λ e. inl e) (λ l. inr (in_below n m l)) (eq-or-lt_of_le (le_of_suc-le-suc h))

below_in : (n m : ℕ) → In n (below m) → n < m
unfolding below
below_in n zero h = absurd h
below_in n (suc m) (inl e) = omega (arith, e)
below_in n (suc m) (inr h) = omega (arith, below_in n m h)

-- a path of one net, one net more before a path, and a path without its first
pub alone : {m i : ℕ} → i < m → IsPath m i []
alone h = record { within = (h, tt); distinct = ((λ n. n), tt) }

pub longer : {m i n : ℕ} {ns : List ℕ} → i < m → ¬ (In i (n ∷ ns)) → IsPath m n ns → IsPath m i (n ∷ ns)
longer h new p = record { within = (h, p.within); distinct = (new, p.distinct) }

pub rest : {m i n : ℕ} {ns : List ℕ} → IsPath m i (n ∷ ns) → IsPath m n ns
rest p = record { within = p.within.1; distinct = p.distinct.1 }

-- a path has at most m nets after its first
short : (m i : ℕ) (ns : List ℕ) → IsPath m i ns → length ns ≤ m
short m i ns p =
    subst (λ k. length ns ≤ k) (length_below m)
    (few ns (below m) p.distinct.1 (λ n h. in_below n m (every_in (λ k. k < m) ns n p.within.1 h)))

-- no net of ns is among those met
abbrev Free : List ℕ → List ℕ → Type 0
Free met ns = (n : ℕ) → In n ns → ¬ (In n met)

-- after the first net of a path, its rest is free of that net too
free_more : (m i n : ℕ) (met ns : List ℕ) → IsPath m i (n ∷ ns) → Free met (n ∷ ns) → Free (i ∷ met) (n ∷ ns)
free_more m i n met ns p free k h =
    elim [ inl e ↦ p.distinct.0 (subst (λ z. In z (n ∷ ns)) e h) | inr q ↦ free k h q ]

free_first : (i : ℕ) (met ns : List ℕ) → ¬ (In i met) → Free met ns → Free met (i ∷ ns)
free_first i met ns new free k = elim [ inl e ↦ (λ q. new (subst (λ z. In z met) e q)) | inr h ↦ free k h ]

module _ {V : Type 0} {A : Chain V} {bit : V → ℕ → Bool} (B : Boolean A bit) (E : System V) (m : ℕ) where
  -- what net n, unless it was met, gives to i by their link
  abbrev by : (ℕ → V) → List ℕ → ℕ → ℕ → V
  by value met i n = unless A (dec_in n met) (A.meet (E.link i n) (value n))

  -- the join of the paths from i with at most k nets more, none of these met before
  reach : ℕ → List ℕ → ℕ → V
  reach zero met i = E.own i
  reach (suc k) met i = A.join (E.own i) (over A (by (reach k (i ∷ met)) (i ∷ met) i) (below m))

  -- this join is 1 where such a path is
  reach_above : (t k : ℕ) (met : List ℕ) (i : ℕ) (ns : List ℕ) → IsPath m i ns → Free met ns → length ns ≤ k
      → bit (worth A E i ns) t ≡ true → bit (reach k met i) t ≡ true
  unfolding reach
  reach_above t zero met i [] p free le h = h
  reach_above t zero met i (n ∷ ns) p free le h = absurd (not-suc-le-zero le)
  reach_above t (suc k) met i [] p free le h = join_left B t _ _ h
  reach_above t (suc k) met i (n ∷ ns) p free le h =
      let parts = meet_parts B t (E.link i n) (worth A E n ns) h in
      let more = free_more m i n met ns p free in
      let further = reach_above t k (i ∷ met) n ns (rest p) (λ z q. more z (inr q)) (le_of_suc-le-suc le) parts.1 in
      join_right B t _ _
      (over_from B t (by (reach k (i ∷ met)) (i ∷ met) i) n (below m) (in_below n m p.within.1.0)
      (unless_from B t (dec_in n (i ∷ met)) _ (more n (inl refl)) (meet_from B t _ _ parts.0 further)))

  -- a path from i that is 1 at t, none of its nets among those met
  abbrev Found : ℕ → List ℕ → ℕ → Type 0
  Found t met i = (ns : List ℕ) × IsPath m i ns × Free met (i ∷ ns) × (bit (worth A E i ns) t ≡ true)

  found_own : (t : ℕ) (met : List ℕ) (i : ℕ) → i < m → ¬ (In i met) → bit (E.own i) t ≡ true → Found t met i
  found_own t met i hi new h = ([], alone hi, free_first i met [] new (λ n q. absurd q), h)

  found_link : (t : ℕ) (met : List ℕ) (i n : ℕ) → i < m → ¬ (In i met) → bit (E.link i n) t ≡ true → Found t (i ∷ met) n → Found t met i
  found_link t met i n hi new h r =
      (n ∷ r.0, longer hi (λ q. r.2 i q (inl refl)) r.1, free_first i met (n ∷ r.0) new (λ z q w. r.2 z q (inr w)), meet_from B t _ _ h r.3)

  -- and where this join is 1 there is such a path
  reach_found : (t k : ℕ) (met : List ℕ) (i : ℕ) → i < m → ¬ (In i met) → bit (reach k met i) t ≡ true → Found t met i
  unfolding reach
  reach_found t zero met i hi new h = found_own t met i hi new h
  reach_found t (suc k) met i hi new h =
      ⊎_elim (found_own t met i hi new)
      (λ e.
      let found = over_found B t (by (reach k (i ∷ met)) (i ∷ met) i) (below m) e in
      let n = found.0 in
      let unmet = unless_parts B t (dec_in n (i ∷ met)) _ found.2 in
      let parts = meet_parts B t (E.link i n) (reach k (i ∷ met) n) unmet.1 in
      found_link t met i n hi new parts.0 (reach_found t k (i ∷ met) n (below_in n m found.1) unmet.0 parts.1))
      (join_cases B t _ _ h)

  -- the join of all paths is under the join of those with at most m nets more, which are all
  pub join_is_path : (t i : ℕ) → i < m → (x : V) → JoinOfPaths A m E i x
      → (bit x t ≡ true) ↔ ((ns : List ℕ) × IsPath m i ns × (bit (worth A E i ns) t ≡ true))
  join_is_path t i hi x j = (to, λ w. under_bit B t (worth A E i w.0) x (j.above w.0 w.1) w.2)
    where
      to : bit x t ≡ true → (ns : List ℕ) × IsPath m i ns × (bit (worth A E i ns) t ≡ true)
      to h =
          let under = j.least (reach m [] i) (λ ns p. under_from B _ _ (λ s. reach_above s m [] i ns p (λ n q w. w) (short m i ns p))) in
          let r = reach_found t m [] i hi (λ q. q) (under_bit B t x (reach m [] i) under h) in
          (r.0, r.1, r.3)

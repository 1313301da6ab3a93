-- When all nets are eliminated in rising number, each own value is the join over all paths. Assumes nothing.
use Rattle.std.proofs.Common.{◌≡◌, ℕ, zero, suc, ◌<◌, ◌≤◌, cond, not, ◌&&◌, eqb, ltb, ◌≢◌, ◌⊎◌, List, [], ◌∷◌, ◌++◌, sym, refl, ap, ◌∙◌, subst, inl, inr, arith, lt-ltb, eq-eqb, ne_eqb}
use Rattle.cell.specs.Lists.{Every}
use Rattle.cell.proofs.Finite.{same}
use Rattle.algebra.specs.Chain.{Chain, Laws}
use Rattle.paths.specs.Paths.{Under, System, worth, JoinOfPaths}
use Rattle.paths.specs.Solving.{eliminated, eliminated_below}
use Rattle.paths.proofs.ChainOrder.{under_refl, under_trans, under_of_eq, under_left, under_right, join_under, meet_mono_left, meet_mono_right, meet_under_right}
use Rattle.paths.proofs.Lists.{every_append}
use Rattle.paths.proofs.Walks.{ending, worth_append, cut}

-- What is known of a column of values, by row, once the nets below k are eliminated: `first` is the column as it was. Each value is
-- above what it was and above what its row reaches through a net below k; and it is under all that bounds the walks, also as a part of a longer one.
record Column {V : Type 0} (A : Chain V) (link : ℕ → ℕ → V) (m : ℕ) (Live : ℕ → Type 0) (k : ℕ) (first cur : ℕ → V) : Type 0 where
  from : (i : ℕ) → Live i → Under A (first i) (cur i)
  through : (i n : ℕ) → Live i → Live n → n < k → n ≢ i → Under A (A.meet (link i n) (cur n)) (cur i)
  least : (i : ℕ) → Live i → (c d y : V) → ((ns : List ℕ) → Every (λ n. n < m) ns → Under A (A.meet c (A.meet (worth A (ending link first) i ns) d)) y)
      → Under A (A.meet c (A.meet (cur i) d)) y

module _ {V : Type 0} {A : Chain V} (L : Laws A) (link : ℕ → ℕ → V) (m : ℕ) where
  column_start : (Live : ℕ → Type 0) (first : ℕ → V) → Column A link m Live 0 first first
  column_start Live first = record {
    from = λ i h. under_refl L _;
    through = λ i n h l g ne. absurd (omega arith);
    least = λ i h c d y all. all [] tt;
  }

  -- one net more: `pivot` is the column of the links into net k
  module _ (Live : ℕ → Type 0) (first cur cur' : ℕ → V) (k : ℕ) (pivot : ℕ → V)
      (within : (i : ℕ) → Live i → i < m) (live_k : Live k)
      (col : Column A link m Live k first cur)
      (piv : Column A link m (λ i. (i < m) × (i ≢ k)) k (λ i. link i k) pivot)
      (row : cur' k ≡ cur k)
      (other : (i : ℕ) → Live i → i ≢ k → cur' i ≡ A.join (cur i) (A.meet (pivot i) (cur k))) where
    at_k : (x : V) → Under A x (cur k) → Under A x (cur' k)
    at_k x u = under_trans L u (under_of_eq L _ _ (sym row))

    -- what the new value of another row is above
    old_under : (i : ℕ) → Live i → i ≢ k → (x : V) → Under A x (cur i) → Under A x (cur' i)
    old_under i h ne x u = under_trans L u (under_trans L (under_left L _ _) (under_of_eq L _ _ (sym (other i h ne))))

    via_under : (i : ℕ) → Live i → i ≢ k → (x : V) → Under A x (A.meet (pivot i) (cur k)) → Under A x (cur' i)
    via_under i h ne x u = under_trans L u (under_trans L (under_right L _ _) (under_of_eq L _ _ (sym (other i h ne))))

    step_from : (i : ℕ) → Live i → Under A (first i) (cur' i)
    step_from i h = go (same i k)
      where
        go : (i ≡ k) ⊎ (i ≢ k) → Under A (first i) (cur' i)
        go (inl e) = subst (λ x. Under A (first x) (cur' x)) (sym e) (at_k _ (col.from k live_k))
        go (inr ne) = old_under i h ne _ (col.from i h)

    -- a link into a net that was eliminated before
    through_old : (i n : ℕ) → Live i → Live n → n < k → n ≢ k → n ≢ i → Under A (A.meet (link i n) (cur' n)) (cur' i)
    through_old i n hi hn g nk ne = under_trans L (under_of_eq L _ _ parts) (join_under L (one (same i k)) (two (same i k)))
      where
        parts : A.meet (link i n) (cur' n) ≡ A.join (A.meet (link i n) (cur n)) (A.meet (A.meet (link i n) (pivot n)) (cur k))
        parts = ap (A.meet (link i n)) (other n hn nk) ∙ L.meet_join _ _ _
            ∙ ap (A.join (A.meet (link i n) (cur n))) (sym (L.meet_assoc _ _ _))

        one : (i ≡ k) ⊎ (i ≢ k) → Under A (A.meet (link i n) (cur n)) (cur' i)
        one (inl e) = under_trans L (col.through i n hi hn g ne) (subst (λ x. Under A (cur x) (cur' x)) (sym e) (at_k _ (under_refl L _)))
        one (inr ik) = old_under i hi ik _ (col.through i n hi hn g ne)

        two : (i ≡ k) ⊎ (i ≢ k) → Under A (A.meet (A.meet (link i n) (pivot n)) (cur k)) (cur' i)
        two (inl e) = subst (λ x. Under A (A.meet (A.meet (link i n) (pivot n)) (cur k)) (cur' x)) (sym e) (at_k _ (meet_under_right L _ _))
        two (inr ik) = via_under i hi ik _ (meet_mono_left L (cur k) (piv.through i n (within i hi, ik) (within n hn, nk) g ne))

    step_through : (i n : ℕ) → Live i → Live n → n < suc k → n ≢ i → Under A (A.meet (link i n) (cur' n)) (cur' i)
    step_through i n hi hn g ne = go (same n k)
      where
        into_k : i ≢ k → Under A (A.meet (link i k) (cur' k)) (cur' i)
        into_k ik = via_under i hi ik _
            (under_trans L (under_of_eq L _ _ (ap (A.meet (link i k)) row)) (meet_mono_left L (cur k) (piv.from i (within i hi, ik))))

        go : (n ≡ k) ⊎ (n ≢ k) → Under A (A.meet (link i n) (cur' n)) (cur' i)
        go (inl e) = subst (λ x. Under A (A.meet (link i x) (cur' x)) (cur' i)) (sym e) (into_k (λ q. ne (e ∙ sym q)))
        go (inr nk) = through_old i n hi hn (omega arith) nk ne

    step_least : (i : ℕ) → Live i → (c d y : V)
        → ((ns : List ℕ) → Every (λ n. n < m) ns → Under A (A.meet c (A.meet (worth A (ending link first) i ns) d)) y) → Under A (A.meet c (A.meet (cur' i) d)) y
    step_least i h c d y all = go (same i k)
      where
        go : (i ≡ k) ⊎ (i ≢ k) → Under A (A.meet c (A.meet (cur' i) d)) y
        go (inl e) = under_trans L (under_of_eq L _ _ (ap (λ x. A.meet c (A.meet x d)) (ap cur' e ∙ row ∙ ap cur (sym e)))) (col.least i h c d y all)
        go (inr nk) = under_trans L (under_of_eq L _ _ parts) (join_under L (col.least i h c d y all) via)
          where
            parts : A.meet c (A.meet (cur' i) d) ≡ A.join (A.meet c (A.meet (cur i) d)) (A.meet c (A.meet (pivot i) (A.meet (cur k) d)))
            parts = ap (λ x. A.meet c (A.meet x d)) (other i h nk) ∙ ap (A.meet c) (L.join_meet _ _ _) ∙ L.meet_join _ _ _
                ∙ ap (λ x. A.join (A.meet c (A.meet (cur i) d)) (A.meet c x)) (L.meet_assoc _ _ _)

            walk : (ns ms : List ℕ) → A.meet (A.meet c (worth A (ending link (λ n. link n k)) i ns)) (A.meet (worth A (ending link first) k ms) d)
                ≡ A.meet c (A.meet (worth A (ending link first) i (ns ++ (k ∷ ms))) d)
            walk ns ms = L.meet_assoc _ _ _ ∙ ap (A.meet c) (sym (L.meet_assoc _ _ _) ∙ ap (λ x. A.meet x d) (worth_append L link first i ns k ms))

            via : Under A (A.meet c (A.meet (pivot i) (A.meet (cur k) d))) y
            via = piv.least i (within i h, nk) c (A.meet (cur k) d) y (λ ns w.
                under_trans L (under_of_eq L _ _ (sym (L.meet_assoc _ _ _)))
                (col.least k live_k (A.meet c (worth A (ending link (λ n. link n k)) i ns)) d y (λ ms v.
                under_trans L (under_of_eq L _ _ (walk ns ms)) (all (ns ++ (k ∷ ms)) (every_append (λ n. n < m) ns (k ∷ ms) w (within k live_k, v))))))

    column_step : Column A link m Live (suc k) first cur'
    column_step = record { from = step_from; through = step_through; least = step_least }

-- what `eliminated` gives in each row
module _ {V : Type 0} (A : Chain V) (k : ℕ) (T : System V) where
  own_at : (eliminated A k T).own k ≡ T.own k
  own_at = ap (λ t. cond t (T.own k) (A.join (T.own k) (A.meet (T.link k k) (T.own k)))) (eq-eqb k k refl)

  own_off : (i : ℕ) → i ≢ k → (eliminated A k T).own i ≡ A.join (T.own i) (A.meet (T.link i k) (T.own k))
  own_off i ne = ap (λ t. cond t (T.own i) (A.join (T.own i) (A.meet (T.link i k) (T.own k)))) (ne_eqb i k ne)

  link_at : (j : ℕ) → (eliminated A k T).link k j ≡ T.link k j
  link_at j = ap (λ t. cond (not t && ltb k j && not (eqb k j)) (A.join (T.link k j) (A.meet (T.link k k) (T.link k j))) (T.link k j)) (eq-eqb k k refl)

  link_off : (i j : ℕ) → i ≢ k → k < j → i ≢ j → (eliminated A k T).link i j ≡ A.join (T.link i j) (A.meet (T.link i k) (T.link k j))
  link_off i j ne l nj =
      ap (λ t. cond (not t && ltb k j && not (eqb i j)) (A.join (T.link i j) (A.meet (T.link i k) (T.link k j))) (T.link i j)) (ne_eqb i k ne)
      ∙ ap (λ t. cond (t && not (eqb i j)) (A.join (T.link i j) (A.meet (T.link i k) (T.link k j))) (T.link i j)) (lt-ltb k j l)
      ∙ ap (λ t. cond (not t) (A.join (T.link i j) (A.meet (T.link i k) (T.link k j))) (T.link i j)) (ne_eqb i j nj)

-- what holds when the nets below k are eliminated
record Between {V : Type 0} (A : Chain V) (m : ℕ) (S : System V) (k : ℕ) (T : System V) : Type 0 where
  own : Column A S.link m (λ i. i < m) k S.own T.own
  links : (j : ℕ) → k ≤ j → j < m → Column A S.link m (λ i. (i < m) × (i ≢ j)) k (λ i. S.link i j) (λ i. T.link i j)

module _ {V : Type 0} {A : Chain V} (L : Laws A) (m : ℕ) (S : System V) where
  between_step : (k : ℕ) (T : System V) → k < m → Between A m S k T → Between A m S (suc k) (eliminated A k T)
  between_step k T hk b = record {
    own = column_step L S.link m (λ i. i < m) S.own T.own (eliminated A k T).own k (λ i. T.link i k)
        (λ i h. h) hk b.own (b.links k (omega arith) hk) (own_at A k T) (λ i h ne. own_off A k T i ne);
    links = λ j l h. column_step L S.link m (λ i. (i < m) × (i ≢ j)) (λ i. S.link i j) (λ i. T.link i j) (λ i. (eliminated A k T).link i j) k (λ i. T.link i k)
        (λ i h. h.0) (hk, λ e. omega arith) (b.links j (omega arith) h) (b.links k (omega arith) hk) (link_at A k T j)
        (λ i h ne. link_off A k T i j ne (omega arith) h.1);
  }

  between : (k : ℕ) → k ≤ m → Between A m S k (eliminated_below A k S)
  between zero h = record {
    own = column_start L S.link m (λ i. i < m) S.own;
    links = λ j l h. column_start L S.link m (λ i. (i < m) × (i ≢ j)) (λ i. S.link i j);
  }
  between (suc k) h = between_step k (eliminated_below A k S) (omega arith) (between k (omega arith))

  -- a column that every net was eliminated from
  module _ (x : ℕ → V) (col : Column A S.link m (λ i. i < m) m S.own x) where
    walk_under : (i : ℕ) (ns : List ℕ) → i < m → Every (λ n. n < m) ns → Under A (worth A S i ns) (x i)
    walk_under i [] hi w = col.from i hi
    walk_under i (n ∷ ns) hi w = under_trans L (meet_mono_right L (S.link i n) (walk_under n ns w.0 w.1)) (go (same n i))
      where
        go : (n ≡ i) ⊎ (n ≢ i) → Under A (A.meet (S.link i n) (x n)) (x i)
        go (inl e) = under_trans L (meet_under_right L _ _) (under_of_eq L _ _ (ap x e))
        go (inr ne) = col.through i n hi w.0 w.0 ne

    column_join : (i : ℕ) → i < m → JoinOfPaths A m S i (x i)
    column_join i hi = record {
      above = λ ns p. walk_under i ns hi p.within.1;
      least = λ y up. under_trans L (under_of_eq L _ _ (sym (plain _))) (col.least i hi A.one A.one y (λ ns w.
          let s = cut L m S i ns hi w in
          under_trans L (under_of_eq L _ _ (plain _)) (under_trans L s.2 (up s.0 s.1))));
    }
      where
        plain : (y : V) → A.meet A.one (A.meet y A.one) ≡ y
        plain y = L.one_meet _ ∙ L.meet_one y

  pub solves : (i : ℕ) → i < m → JoinOfPaths A m S i ((eliminated_below A m S).own i)
  solves i h = column_join (eliminated_below A m S).own (between m (omega arith)).own i h

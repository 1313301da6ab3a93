-- The nets eliminated in place, one after the other: in the end each own value is the join over all paths. Assumes nothing.
use Rattle.std.proofs.Common.{◌≡◌, ℕ, suc, ◌+◌, ◌*◌, ◌<◌, ◌≤◌, true, ◌≢◌, ◌⊎◌, List, map, length, get_or, is_err, Ok, Err, Result, sym, refl, ◌∙◌, subst, inl, inr, true≢false, arith}
use Rattle.std.proofs.lemmas.Nat.{mul-add-lt}
use Rattle.std.proofs.lemmas.List.{get_or-map, length-map}
use Rattle.cell.specs.Lists.{Every}
use Rattle.cell.proofs.Finite.{same}
use Rattle.algebra.specs.declared.Declined.{Declined}
use Rattle.algebra.specs.Chain.{Chain, Laws}
use Rattle.algebra.specs.Holding.{Meaning, Stopped}
use Rattle.paths.specs.Paths.{System, JoinOfPaths}
use Rattle.paths.specs.Solving.{system, eliminated_below, FormedAt, FormedBy, Solved, Solving}
use Rattle.paths.specs.Work.{Work, Ran, relaxing, rows_till}
use Rattle.paths.proofs.Holding.{stopped_more}
use Rattle.paths.proofs.Elimination.{solves}
use Rattle.paths.proofs.Working.{Adds, ran_none, ran_then, stopped_then}
use Rattle.paths.proofs.Systems.{Alike, alike_same, alike_back, alike_then, eliminated_alike, formed_alike, net_alike, net_into, net_out}

-- the nets below n eliminated, in all columns
unfoldable pub eliminating : {V : Type 0} → Chain V → ℕ → ℕ → ℕ → Work V
eliminating A m columns n = record {
  done = λ vs us. (length us ≡ length vs) × ((c : ℕ) → c < columns → Alike m (system A m columns us c) (eliminated_below A n (system A m columns vs c)));
  forms = λ vs v. (c k : ℕ) × (c < columns) × (k < n) × FormedAt A m k (eliminated_below A k (system A m columns vs c)) v;
}

-- one net more
module _ {V : Type 0} (A : Chain V) (m columns n : ℕ) (some : 0 < columns) (hn : n < m) where
  abbrev below : List V → ℕ → System V
  below vs c = eliminated_below A n (system A m columns vs c)

  forms_out : (vs us : List V) (v : V) → (eliminating A m columns n).done vs us → (c k : ℕ) → c < columns → k < suc n → FormedAt A m k (eliminated_below A k (system A m columns vs c)) v
      → (k ≡ n) ⊎ (k ≢ n) → (eliminating A m columns n).forms vs v ⊎ (relaxing A m (m + columns) n (rows_till n m)).forms us v
  unfolding eliminating
  forms_out vs us v p c k hc hk f (inr ne) = inl (c, k, hc, omega arith, f)
  forms_out vs us v p c k hc hk f (inl e) = inr (net_out A m columns n us hn c hc v
      (formed_alike A m n hn (below vs c) (system A m columns us c) (alike_back m (p.1 c hc)) v (subst (λ x. FormedAt A m x (eliminated_below A x (system A m columns vs c)) v) e f)))

  nets_next : Adds ((m + columns) * m) (eliminating A m columns n) (relaxing A m (m + columns) n (rows_till n m)) (eliminating A m columns (suc n))
  unfolding eliminating relaxing
  nets_next = record {
    done = λ vs us ws l p q.
        (q.long ∙ p.0, λ c hc. alike_then m (net_alike A m columns n hn us ws q c hc) (eliminated_alike A m n hn (system A m columns us c) (below vs c) (p.1 c hc)));
    into = λ vs us v l p. elim [
      | inl (c, k, hc, hk, f) ↦ (c, k, hc, omega arith, f)
      | inr f ↦ let r = net_into A m columns n us v some f in (r.0, n, r.1, omega arith, formed_alike A m n hn (system A m columns us r.0) (below vs r.0) (p.1 r.0 r.1) v r.2)
    ];
    out = λ vs us v l p r. forms_out vs us v p r.0 r.1 r.2 r.3 r.4 (same r.1 n);
  }

module _ {S V : Type 0} (keeps : V → V → Type 0) (A : Chain V) (m columns : ℕ) where
  pub nets_start : (c : Meaning S V) (xs : List S) → Every (λ s. c.hand s ≡ true) xs → Ran keeps (eliminating A m columns 0) c c xs xs
  unfolding eliminating
  nets_start c xs h = ran_none keeps (eliminating A m columns 0) c xs h (λ vs. (refl, λ d hd. alike_same m (system A m columns vs d))) (λ vs v (d, k, hd, hk, f). omega arith)

  module _ (k : ℕ) (some : 0 < columns) (hk : k < m) {before mid : Meaning S V} {xs ys : List S} (long : (m + columns) * m ≤ length xs)
      (first : Ran keeps (eliminating A m columns k) before mid xs ys) where
    pub nets_turn : (after : Meaning S V) (zs : List S) → Ran keeps (relaxing A m (m + columns) k (rows_till k m)) mid after ys zs → Ran keeps (eliminating A m columns (k + 1)) before after xs zs
    nets_turn after zs second =
        let e : suc k ≡ k + 1 = omega arith in
        subst (λ n. Ran keeps (eliminating A m columns n) before after xs zs) e
        (ran_then keeps ((m + columns) * m) _ _ _ (nets_next A m columns k some hk) before mid xs ys long first second)

    pub nets_stopped : (after : Meaning S V) → Stopped keeps mid ((relaxing A m (m + columns) k (rows_till k m)).forms (map mid.value ys)) after
        → Stopped keeps before (FormedBy A m columns (map before.value xs)) after
    unfolding eliminating
    nets_stopped after second = stopped_more keeps (λ v (c, n, hc, hn, f). (c, n, hc, omega arith, f))
        (stopped_then keeps ((m + columns) * m) _ _ _ (nets_next A m columns k some hk) before mid xs ys long first second)

  -- all nets are eliminated
  pub solved : Laws A → {before after : Meaning S V} {xs ys : List S} → (m + columns) * m ≤ length xs → Ran keeps (eliminating A m columns m) before after xs ys → Solved keeps A m columns before after xs ys
  unfolding eliminating
  solved L {before} {after} {xs} {ys} long r = record {
    in_hand = r.in_hand;
    joins = λ c i d hc hi. subst (JoinOfPaths A m (system A m columns (map before.value xs) c) i) (sym (is c i d hc hi)) (solves L m (system A m columns (map before.value xs) c) i hi);
    went = r.went;
  }
    where
      kept : length ys ≡ length xs
      kept = sym (length-map ys after.value) ∙ r.done.0 ∙ length-map xs before.value

      is : (c i : ℕ) (d : S) → c < columns → i < m
          → after.value (get_or ys (i * (m + columns) + (m + c)) d) ≡ (eliminated_below A m (system A m columns (map before.value xs) c)).own i
      is c i d hc hi =
          let l : m + c < m + columns = omega arith in
          let within : i * (m + columns) + (m + c) < length ys = omega (arith, kept, mul-add-lt i (m + columns) (m + c) m hi l) in
          sym (get_or-map after.value ys (i * (m + columns) + (m + c)) d A.zero within) ∙ (r.done.1 c hc).own i hi

  pub solving_err : (before after : Meaning S V) (xs ys : List S) (r : Result Unit Declined) → is_err r ≡ true
      → Stopped keeps before (FormedBy A m columns (map before.value xs)) after → Solving keeps A m columns before after xs ys r
  solving_err before after xs ys (Ok x) e h = absurd (true≢false (sym e))
  solving_err before after xs ys (Err x) e h = h

-- The systems of a table when its nets are eliminated in place. Assumes nothing.
use Rattle.std.proofs.Common.{◌≡◌, ℕ, ◌+◌, ◌-◌, ◌<◌, ◌≤◌, Bool, true, false, cond, not, ◌&&◌, eqb, ltb, leb, ◌≢◌, ◌⊎◌, List, Decides, sym, refl, ◌∙◌, subst, ap₂, inl, inr, arith}
use Rattle.std.proofs.lemmas.Bool.Decides.{leb_tells, not_from_Decides, Decides-not, Decides-and, Decides-ltb, Decides-eqb}
use Rattle.algebra.specs.Chain.{Chain}
use Rattle.paths.specs.Paths.{System}
use Rattle.paths.specs.Solving.{system, eliminated, FormedAt}
use Rattle.paths.specs.Solving.FormedAt.{own_meet, own_join, link_meet, link_join}
use Rattle.paths.specs.Work.{Formed, value, Relaxed, relaxing, rows_till}

-- two systems are the same on the nets below m
pub record Alike {V : Type 0} (m : ℕ) (T U : System V) : Type 0 where
  pub link : (i j : ℕ) → i < m → j < m → T.link i j ≡ U.link i j
  pub own : (i : ℕ) → i < m → T.own i ≡ U.own i

module _ {V : Type 0} (m : ℕ) where
  pub alike_same : (T : System V) → Alike m T T
  alike_same T = record { link = λ i j hi hj. refl; own = λ i hi. refl }

  pub alike_back : {T U : System V} → Alike m T U → Alike m U T
  alike_back e = record { link = λ i j hi hj. sym (e.link i j hi hj); own = λ i hi. sym (e.own i hi) }

  pub alike_then : {T U W : System V} → Alike m T U → Alike m U W → Alike m T W
  alike_then e f = record { link = λ i j hi hj. e.link i j hi hj ∙ f.link i j hi hj; own = λ i hi. e.own i hi ∙ f.own i hi }

module _ {V : Type 0} (A : Chain V) (m k : ℕ) (hk : k < m) where
  pub eliminated_alike : (T U : System V) → Alike m T U → Alike m (eliminated A k T) (eliminated A k U)
  eliminated_alike T U e = record {
    link = λ i j hi hj. ap₂ (λ x y. cond (not (eqb i k) && ltb k j && not (eqb i j)) x y)
        (ap₂ A.join (e.link i j hi hj) (ap₂ A.meet (e.link i k hi hk) (e.link k j hk hj))) (e.link i j hi hj);
    own = λ i hi. ap₂ (λ x y. cond (eqb i k) x y) (e.own i hi) (ap₂ A.join (e.own i hi) (ap₂ A.meet (e.link i k hi hk) (e.own k hk)));
  }

  pub formed_alike : (T U : System V) → Alike m T U → (v : V) → FormedAt A m k T v → FormedAt A m k U v
  formed_alike T U e v (own_meet i hi ne) = subst (FormedAt A m k U) (sym (ap₂ A.meet (e.link i k hi hk) (e.own k hk))) (own_meet i hi ne)
  formed_alike T U e v (own_join i hi ne) =
      subst (FormedAt A m k U) (sym (ap₂ A.join (e.own i hi) (ap₂ A.meet (e.link i k hi hk) (e.own k hk)))) (own_join i hi ne)
  formed_alike T U e v (link_meet i j hi hj ne l nj) =
      subst (FormedAt A m k U) (sym (ap₂ A.meet (e.link i k hi hk) (e.link k j hk hj))) (link_meet i j hi hj ne l nj)
  formed_alike T U e v (link_join i j hi hj ne l nj) =
      subst (FormedAt A m k U) (sym (ap₂ A.join (e.link i j hi hj) (ap₂ A.meet (e.link i k hi hk) (e.link k j hk hj)))) (link_join i j hi hj ne l nj)

-- a value that is chosen by a test
chosen : {V P : Type 0} (t : Bool) {x y z : V} → Decides t P → (P → z ≡ x) → (¬ P → z ≡ y) → z ≡ cond t x y
chosen true d f g = f (d.0 refl)
chosen false d f g = g (not_from_Decides false d refl)

module _ {V : Type 0} (A : Chain V) (m columns k : ℕ) (hk : k < m) (vs us : List V) (r : Relaxed A m (m + columns) k (rows_till k m) vs us) where
  -- in place, the systems of the table become what they are with net k eliminated
  pub net_alike : (c : ℕ) → c < columns → Alike m (system A m columns us c) (eliminated A k (system A m columns vs c))
  net_alike c hc = record {
    link = λ i j hi hj. chosen (not (eqb i k) && ltb k j && not (eqb i j))
        (Decides-and _ _ (Decides-and _ _ (Decides-not _ (Decides-eqb i k)) (Decides-ltb k j)) (Decides-not _ (Decides-eqb i j)))
        (λ p. r.new i j hi (omega arith) (hi, p.0.0, p.0.1, λ e. p.1 (sym e)))
        (λ n. r.old i j hi (omega arith) (λ h. n ((h.1, h.2), λ e. h.3 (sym e))));
    own = λ i hi. chosen (eqb i k) (Decides-eqb i k)
        (λ e. r.old i (m + c) hi (omega arith) (λ h. h.1 e))
        (λ ne. r.new i (m + c) hi (omega arith) (hi, ne, omega arith, λ e. omega arith));
  }

-- what is formed in place is what the columns' systems form
module _ {V : Type 0} (A : Chain V) (m columns k : ℕ) (us : List V) (v : V) where
  Cell : ℕ → ℕ → Type 0
  Cell a b = Formed A (value A (m + columns) us a b) (value A (m + columns) us a k) (value A (m + columns) us k b) v

  link_formed : (c a b : ℕ) → a < m → b < m → a ≢ k → k < b → b ≢ a → Cell a b → FormedAt A m k (system A m columns us c) v
  unfolding Cell
  link_formed c a b ha hb ak kb ba (inl e) = subst (FormedAt A m k (system A m columns us c)) (sym e) (link_meet a b ha hb ak kb ba)
  link_formed c a b ha hb ak kb ba (inr e) = subst (FormedAt A m k (system A m columns us c)) (sym e) (link_join a b ha hb ak kb ba)

  own_formed : (c a : ℕ) → a < m → a ≢ k → Cell a (m + c) → FormedAt A m k (system A m columns us c) v
  unfolding Cell
  own_formed c a ha ak (inl e) = subst (FormedAt A m k (system A m columns us c)) (sym e) (own_meet a ha ak)
  own_formed c a ha ak (inr e) = subst (FormedAt A m k (system A m columns us c)) (sym e) (own_join a ha ak)

  pub net_into : 0 < columns → (relaxing A m (m + columns) k (rows_till k m)).forms us v → (c : ℕ) × (c < columns) × FormedAt A m k (system A m columns us c) v
  unfolding relaxing Cell
  net_into some (a, b, ha, hb, (am, ak, kb, ba), f) = go (leb_tells m b)
    where
      go : ((leb m b ≡ true) × (m ≤ b)) ⊎ ((leb m b ≡ false) × (b < m)) → (c : ℕ) × (c < columns) × FormedAt A m k (system A m columns us c) v
      go (inl (t, l)) = let e : b ≡ m + (b - m) = omega arith in (b - m, omega arith, own_formed (b - m) a ha ak (subst (Cell a) e f))
      go (inr (t, l)) = (0, some, link_formed 0 a b ha l ak kb ba f)

pub net_out : {V : Type 0} (A : Chain V) (m columns k : ℕ) (us : List V) → k < m → (c : ℕ) → c < columns → (v : V)
    → FormedAt A m k (system A m columns us c) v → (relaxing A m (m + columns) k (rows_till k m)).forms us v
unfolding relaxing
net_out A m columns k us hk c hc v (own_meet i hi ne) = (i, m + c, hi, omega arith, (hi, ne, omega arith, λ e. omega arith), inl refl)
net_out A m columns k us hk c hc v (own_join i hi ne) = (i, m + c, hi, omega arith, (hi, ne, omega arith, λ e. omega arith), inr refl)
net_out A m columns k us hk c hc v (link_meet i j hi hj ne l nj) = (i, j, hi, omega arith, (hi, ne, l, nj), inl refl)
net_out A m columns k us hk c hc v (link_join i j hi hj ne l nj) = (i, j, hi, omega arith, (hi, ne, l, nj), inr refl)

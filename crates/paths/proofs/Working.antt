-- Pieces of work on a table of signs, one after the other. Assumes nothing.
use Rattle.std.proofs.Common.{◌≡◌, ℕ, ◌<◌, ◌≤◌, true, ◌⊎◌, List, [], ◌∷◌, map, length, get_or, set, is_err, Ok, Err, Result, sym, refl, ◌∙◌, subst, ap₂, inl, inr, true≢false}
use Rattle.std.proofs.lemmas.List.{map-set, get_or-map, length-map}
use Rattle.cell.specs.Lists.{Every}
use Rattle.algebra.specs.declared.Declined.{Declined}
use Rattle.algebra.specs.Chain.{Chain}
use Rattle.algebra.specs.Holding.{Meaning, Stays, Went, Stopped, Means}
use Rattle.paths.specs.Work.{Work, Ran, Working, Formed, cell}
use Rattle.cell.proofs.Members.{every_map, every_set, every_place}
use Rattle.paths.proofs.Holding.{went_none, went_same, went_then, stays_then, stopped_more, stopped_after}

-- on tables of at least n values, q after p comes to r
pub record Adds {V : Type 0} (n : ℕ) (p q r : Work V) : Type 0 where
  pub done : (vs us ws : List V) → n ≤ length vs → p.done vs us → q.done us ws → r.done vs ws
  pub into : (vs us : List V) (v : V) → n ≤ length vs → p.done vs us → p.forms vs v ⊎ q.forms us v → r.forms vs v
  pub out : (vs us : List V) (v : V) → n ≤ length vs → p.done vs us → r.forms vs v → p.forms vs v ⊎ q.forms us v

module _ {S V : Type 0} (keeps : V → V → Type 0) where
  pub working_err : (p : Work V) (before after : Meaning S V) (xs ys : List S) (r : Result Unit Declined) → is_err r ≡ true
      → Stopped keeps before (p.forms (map before.value xs)) after → Working keeps p before after xs ys r
  working_err p before after xs ys (Ok x) e h = absurd (true≢false (sym e))
  working_err p before after xs ys (Err x) e h = h

  -- nothing was to be done
  pub ran_none : (p : Work V) (m : Meaning S V) (xs : List S) → Every (λ s. m.hand s ≡ true) xs
      → ((vs : List V) → p.done vs vs) → ((vs : List V) (v : V) → ¬ (p.forms vs v)) → Ran keeps p m m xs xs
  ran_none p m xs h done none = record { in_hand = h; done = done _; went = went_none keeps m (none _) }

  -- the same work, said in another way
  pub ran_same : (p q : Work V) {before after : Meaning S V} {xs ys : List S} → ((vs us : List V) → p.done vs us → q.done vs us)
      → ((vs : List V) (v : V) → p.forms vs v → q.forms vs v) → ((vs : List V) (v : V) → q.forms vs v → p.forms vs v)
      → Ran keeps p before after xs ys → Ran keeps q before after xs ys
  ran_same p q done into out r = record { in_hand = r.in_hand; done = done _ _ r.done; went = went_same keeps (into _) (out _) r.went }

  module _ (n : ℕ) (p q r : Work V) (a : Adds n p q r) (m m1 : Meaning S V) (xs ys : List S) (long : n ≤ length xs) (first : Ran keeps p m m1 xs ys) where
    long_values : n ≤ length (map m.value xs)
    long_values = subst (λ l. n ≤ l) (sym (length-map xs m.value)) long

    pub ran_then : {m2 : Meaning S V} {zs : List S} → Ran keeps q m1 m2 ys zs → Ran keeps r m m2 xs zs
    ran_then second = record {
      in_hand = second.in_hand;
      done = a.done _ _ _ long_values first.done second.done;
      went = went_same keeps (λ v. a.into _ _ v long_values first.done) (λ v. a.out _ _ v long_values first.done)
          (went_then keeps first.went second.went);
    }

    pub stopped_then : {m2 : Meaning S V} → Stopped keeps m1 (q.forms (map m1.value ys)) m2 → Stopped keeps m (r.forms (map m.value xs)) m2
    stopped_then second = stopped_more keeps (λ v. a.into _ _ v long_values first.done) (stopped_after keeps first.went second)

-- signs in hand mean what they meant
map_stays : {S V : Type 0} {m m1 : Meaning S V} → Stays m m1 → (xs : List S) → Every (λ s. m.hand s ≡ true) xs → map m1.value xs ≡ map m.value xs
map_stays st [] h = refl
map_stays st (x ∷ xs) h = ap₂ (λ v vs. v ∷ vs) (st.value x h.0) (map_stays st xs h.1)

-- One cell: the meet of the signs y and z is formed, and then its join with the sign x.
module _ {S V : Type 0} (keeps : V → V → Type 0) (A : Chain V) (m : Meaning S V) (xs : List S) (at left right : ℕ) (h : Every (λ s. m.hand s ≡ true) xs) where
  abbrev val : ℕ → V
  val i = get_or (map m.value xs) i A.zero

  read : (i : ℕ) (d : S) → i < length xs → m.value (get_or xs i d) ≡ val i
  read i d l = sym (get_or-map m.value xs i d A.zero l)

  -- y and z are the signs that stand there; a default stands for a place beyond the table
  module _ (one : left < length xs) (two : right < length xs) (dy dz : S) where
    abbrev y : S
    y = get_or xs left dy

    abbrev z : S
    z = get_or xs right dz

    met : A.meet (m.value y) (m.value z) ≡ A.meet (val left) (val right)
    met = ap₂ A.meet (read left dy one) (read right dz two)

    pub first_stopped : (m1 : Meaning S V) → Stopped keeps m (λ u. u ≡ A.meet (m.value y) (m.value z)) m1 → Stopped keeps m ((cell A at left right).forms (map m.value xs)) m1
    unfolding cell
    first_stopped m1 = stopped_more keeps (λ u e. inl (e ∙ met))

    module _ (m1 : Meaning S V) {t : S} (to : at < length xs) (dx : S)
        (p : Went keeps m (λ u. u ≡ A.meet (m.value y) (m.value z)) m1) (is : Means m1 t (A.meet (m.value y) (m.value z))) where
      abbrev x : S
      x = get_or xs at dx

      joined : A.join (m1.value x) (m1.value t) ≡ A.join (val at) (A.meet (val left) (val right))
      joined = ap₂ A.join (p.stays.value x (every_place (λ s. m.hand s ≡ true) xs at dx to h) ∙ read at dx to) (is.value ∙ met)

      into : (u : V) → (u ≡ A.meet (m.value y) (m.value z)) ⊎ (u ≡ A.join (m1.value x) (m1.value t)) → Formed A (val at) (val left) (val right) u
      into u (inl e) = inl (e ∙ met)
      into u (inr e) = inr (e ∙ joined)

      out : (u : V) → Formed A (val at) (val left) (val right) u → (u ≡ A.meet (m.value y) (m.value z)) ⊎ (u ≡ A.join (m1.value x) (m1.value t))
      out u (inl e) = inl (e ∙ sym met)
      out u (inr e) = inr (e ∙ sym joined)

      pub second_stopped : (m2 : Meaning S V) → Stopped keeps m1 (λ u. u ≡ A.join (m1.value x) (m1.value t)) m2 → Stopped keeps m ((cell A at left right).forms (map m.value xs)) m2
      unfolding cell
      second_stopped m2 q = stopped_more keeps into (stopped_after keeps p q)

      pub cell_ran : (m2 : Meaning S V) (s : S) → Went keeps m1 (λ u. u ≡ A.join (m1.value x) (m1.value t)) m2 → Means m2 s (A.join (m1.value x) (m1.value t))
          → Ran keeps (cell A at left right) m m2 xs (set xs at s)
      unfolding cell
      cell_ran m2 s q now = record {
        in_hand = every_set (λ u. m2.hand u ≡ true) xs at s now.hand (every_map stays.hand xs h);
        done = map-set m2.value xs at s ∙ ap₂ (λ vs v. set vs at v) (map_stays stays xs h) (now.value ∙ joined);
        went = went_same keeps into out (went_then keeps p q);
      }
        where
          stays : Stays m m2
          stays = stays_then p.stays q.stays

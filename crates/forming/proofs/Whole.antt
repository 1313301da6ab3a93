-- A component is formed: its tables filled and solved, and each of its nets given the state that its row says. Assumes nothing.
use Rattle.std.proofs.Common.{◌≡◌, ℕ, ◌+◌, ◌*◌, ◌<◌, ◌≤◌, Bool, ◌↔◌, List, [], ◌∷◌, map, length, get_or, sym, ap, ◌∙◌, subst, subst₂, arith}
use Rattle.std.proofs.lemmas.Nat.{mul-add-lt}
use Rattle.std.proofs.lemmas.List.{get_or-map}
use Rattle.cell.specs.declared.Device.{Device}
use Rattle.cell.specs.Lists.{In}
use Rattle.cell.specs.Circuits.{Drawn}
use Rattle.cell.specs.Waiting.{Component}
use Rattle.cell.specs.States.{MayBe, Rule}
use Rattle.algebra.specs.Chain.{Chain}
use Rattle.algebra.specs.Holding.{Meaning, Stays}
use Rattle.algebra.specs.Signals.{Boolean}
use Rattle.paths.specs.Paths.{System, JoinOfPaths}
use Rattle.paths.specs.Solving.{system, Solved}
use Rattle.forming.specs.Signs.{InHand, values, shown}
use Rattle.forming.specs.Systems.{Tabled, Filled}
use Rattle.forming.specs.Components.{Ruled, ComponentFormed}
use Rattle.cell.proofs.Members.{in_get_or, in_place}
use Rattle.paths.proofs.Holding.{stays_then}
use Rattle.forming.proofs.Keeping.{hand_stays, values_stay, shown_stays}
use Rattle.forming.proofs.Ruling.{Joined, joins_rule}
use Rattle.forming.proofs.Formed.{FormedTill}

-- what is solved, said of a table in equal words
pub solved_at : {S V : Type 0} {keeps : V → V → Type 0} {A : Chain V} {m m' : Meaning S V} {nets columns n c : ℕ} {xs ys zs : List S}
    → xs ≡ ys → nets ≡ n → columns ≡ c → Solved keeps A nets columns m m' xs zs → Solved keeps A n c m m' ys zs
solved_at {keeps = keeps} {A = A} {m = m} {m' = m'} {nets = nets} {columns = columns} {ys = ys} {zs = zs} e f h s =
    subst₂ (λ n c. Solved keeps A n c m m' ys zs) f h (subst (λ v. Solved keeps A nets columns m m' v zs) e s)

-- what holds of the value of the sign at a place holds of the value there
at_place : {S V : Type 0} (J : V → Type 0) (f : S → V) (v : V) (xs : List S) (i : ℕ) → i < length xs → ((d : S) → J (f (get_or xs i d))) → J (get_or (map f xs) i v)
at_place J f v [] i l j = absurd (omega (arith, l))
at_place J f v (x ∷ xs) i l j = subst J (sym (get_or-map f (x ∷ xs) i x v l)) (j x)

module _ {S V : Type 0} (keeps : V → V → Type 0) (A : Chain V) (bit : V → ℕ → Bool) (B : Boolean A bit)
    (m0 m1 m2 m3 m4 : Meaning S V) (devices : List Device) (nets : List ℕ) (states states' may may' may'' sure sure' sure'' : List S)
    (hand : InHand m0 states)
    (filled : Filled A bit m0 m1 states nets devices may may' sure sure')
    (first : Solved keeps A (length nets) 2 m1 m2 may' may'')
    (second : Solved keeps A (length nets) 1 m2 m3 sure' sure'')
    (till : FormedTill A bit m3 m4 nets may'' sure'' states states' (length nets))
    (may_room : (length nets + 2) * length nets ≤ length may'') (sure_room : (length nets + 1) * length nets ≤ length sure'') where
  -- the systems of own column c in a table of devices that may conduct, and in one of those that surely do
  abbrev mays : List V → ℕ → System V
  mays vs c = system A (length nets) 2 vs c

  abbrev sures : List V → System V
  sures vs = system A (length nets) 1 vs 0

  -- the values of the solved tables are the joins over all paths of the filled ones
  may_join : (c p : ℕ) → c < 2 → p < length nets → JoinOfPaths A (length nets) (mays (values m1 may') c) p ((mays (values m3 may'') c).own p)
  may_join c p hc hp =
      subst (λ vs. JoinOfPaths A (length nets) (mays (values m1 may') c) p ((mays vs c).own p)) (sym (values_stay second.went.stays may'' first.in_hand))
      (at_place (JoinOfPaths A (length nets) (mays (values m1 may') c) p) m2.value A.zero may'' _
      (omega (arith, may_room, mul-add-lt p (length nets + 2) (length nets + c) (length nets) hp (omega (arith, hc))))
      (λ d. first.joins c p d hc hp))

  sure_join : (p : ℕ) → p < length nets → JoinOfPaths A (length nets) (sures (values m1 sure')) p ((sures (values m3 sure'')).own p)
  sure_join p hp =
      subst (λ vs. JoinOfPaths A (length nets) (sures vs) p ((sures (values m3 sure'')).own p)) (values_stay first.went.stays sure' filled.worked.sure_hand)
      (at_place (JoinOfPaths A (length nets) (sures (values m2 sure')) p) m3.value A.zero sure'' _
      (omega (arith, sure_room, mul-add-lt p (length nets + 1) (length nets + 0) (length nets) hp (omega arith)))
      (λ d. second.joins 0 p d (omega arith) hp))

  joined : (p : ℕ) → p < length nets
      → Joined A m1 (length nets) may' sure' p ((mays (values m3 may'') 0).own p) ((mays (values m3 may'') 1).own p) ((sures (values m3 sure'')).own p)
  joined p hp = record { ones = may_join 0 p (omega arith) hp; zeros = may_join 1 p (omega arith) hp; sures = sure_join p hp }

  -- the algebra stays from the start to the loop
  stays_3 : Stays m0 m3
  stays_3 = stays_then filled.worked.stays (stays_then first.went.stays second.went.stays)

  -- so the nets of a component have the states of the rule, and the others keep theirs
  module _ (c : Drawn) (body : c.body ≡ devices) (comp : Component c nets) (t : ℕ) where
    at_net : (p : ℕ) → p < length nets → (b : Bool) → MayBe b (shown bit m4 states' t (get_or nets p 0)) ↔ Rule c (shown bit m0 states t) b (get_or nets p 0)
    at_net p hp b =
        let tabled = subst (λ ds. Tabled A bit m1 states nets may' sure' ds) (sym body) filled.tabled in
        subst₂ (λ st σ. MayBe b st ↔ Rule c σ b (get_or nets p 0)) (sym (till.new p hp t)) (shown_stays bit filled.worked.stays states hand t)
        (joins_rule A bit B m1 states c nets may' sure' comp tabled p hp _ _ _ (joined p hp) t b)

    ruled : Ruled c nets (shown bit m0 states t) (shown bit m4 states' t)
    ruled = record {
      inner = λ x h b. let r = in_place x nets h in subst (λ y. MayBe b (shown bit m4 states' t y) ↔ Rule c (shown bit m0 states t) b y) (r.2 0) (at_net r.0 r.1 b);
      other = λ x out. till.old x (λ p l e. out (subst (λ y. In y nets) (sym e) (in_get_or nets p 0 l))) t ∙ ap (λ σ. σ x) (shown_stays bit stays_3 states hand t);
    }

  pub component_formed : length may'' ≡ length may → length sure'' ≡ length sure → length states' ≡ length states
      → ComponentFormed bit m0 m4 devices nets states states' may may'' sure sure''
  component_formed may_long sure_long long = record {
    worked = record {
      stays = stays_then stays_3 till.stays;
      may_hand = hand_stays (stays_then second.went.stays till.stays) may'' first.in_hand;
      sure_hand = hand_stays till.stays sure'' second.in_hand;
      may_long = may_long;
      sure_long = sure_long;
    };
    hand = till.hand;
    long = long;
    ruled = ruled;
  }

-- The loop over the nets of a component: each gets the state that its row of the solved tables says. Assumes nothing.
use Rattle.std.proofs.Common.{◌≡◌, ℕ, ◌+◌, ◌<◌, ◌≤◌, Bool, true, false, ◌≢◌, ◌⊎◌, List, length, get_or, sym, ap, ◌∙◌, subst, ap₂, inl, inr, eq-or-lt_of_le, arith}
use Rattle.cell.specs.declared.State.{State}
use Rattle.algebra.specs.Chain.{Chain}
use Rattle.algebra.specs.Holding.{Meaning, Stays}
use Rattle.paths.specs.Solving.{system}
use Rattle.paths.proofs.Holding.{stays_then}
use Rattle.forming.specs.Signs.{InHand, values, shown}
use Rattle.forming.specs.Systems.{Formable}
use Rattle.forming.specs.Components.{NetFormed}
use Rattle.cell.proofs.Members.{every_in, in_get_or}
use Rattle.forming.proofs.Places.{one_place}
use Rattle.forming.proofs.Keeping.{hand_stays, values_stay, shown_stays}
use Rattle.forming.proofs.Showing.{put, hand_put, shown_put, shown_other}
use Rattle.forming.proofs.Ruling.{ruled_by}

-- the state that the row of the net at place p of the solved tables says
abbrev pub by_row : {S V : Type 0} → Chain V → (V → ℕ → Bool) → Meaning S V → ℕ → List S → List S → ℕ → ℕ → State Bool
by_row A bit m nets may sure p t =
    ruled_by (bit ((system A nets 2 (values m may) 0).own p) t) (bit ((system A nets 2 (values m may) 1).own p) t)
    (bit ((system A nets 1 (values m sure) 0).own p) t)

-- the nets at the first n places have their new states, and the others their old ones
pub record FormedTill {S V : Type 0} (A : Chain V) (bit : V → ℕ → Bool) (m m' : Meaning S V) (nets : List ℕ) (may sure states states' : List S) (n : ℕ) : Type 0 where
  pub stays : Stays m m'
  pub hand : InHand m' states'
  pub new : (p : ℕ) → p < n → (t : ℕ) → shown bit m' states' t (get_or nets p 0) ≡ by_row A bit m (length nets) may sure p t
  pub old : (x : ℕ) → ((p : ℕ) → p < n → x ≢ get_or nets p 0) → (t : ℕ) → shown bit m' states' t x ≡ shown bit m states t x

-- one more: the net at place n gets the state st
module _ {S V : Type 0} (A : Chain V) (bit : V → ℕ → Bool) (m m' m'' : Meaning S V) (nets : List ℕ) (may sure states states' : List S) (n : ℕ) (st : State S)
    (ok : Formable nets) (may_hand : InHand m may) (sure_hand : InHand m sure) (long : length states' ≡ 256) (hn : n < length nets)
    (till : FormedTill A bit m m' nets may sure states states' n) (net : NetFormed A bit m' m'' (length nets) n may sure st) where
  -- the table with the state of the net at place n
  abbrev after : List S
  after = put states' (get_or nets n 0) st

  -- that net has its new state
  here : (t : ℕ) → shown bit m'' after t (get_or nets n 0) ≡ by_row A bit m (length nets) may sure n t
  here t =
      shown_put bit m'' states' (get_or nets n 0) st t long (every_in (λ x. x ≤ 127) nets _ ok.numbered (in_get_or nets n 0 hn))
      ∙ (λ i. record { may0 = net.zero t i; may1 = net.one t i })
      ∙ ap₂ (λ vs ws. ruled_by (bit ((system A (length nets) 2 vs 0).own n) t) (bit ((system A (length nets) 2 vs 1).own n) t) (bit ((system A (length nets) 1 ws 0).own n) t))
      (values_stay till.stays may may_hand) (values_stay till.stays sure sure_hand)

  -- and every other the state that it had
  there : (x : ℕ) → x ≢ get_or nets n 0 → (t : ℕ) → shown bit m'' after t x ≡ shown bit m' states' t x
  there x ne t = shown_other bit m'' states' (get_or nets n 0) x st t ne ∙ ap (λ σ. σ x) (shown_stays bit net.stays states' till.hand t)

  pub formed_more : (states'' : List S) → states'' ≡ after → FormedTill A bit m m'' nets may sure states states'' (n + 1)
  formed_more states'' is = subst (λ xs. FormedTill A bit m m'' nets may sure states xs (n + 1)) (sym is) record {
    stays = stays_then till.stays net.stays;
    hand = hand_put m'' states' (get_or nets n 0) st (net.hand false) (net.hand true) (hand_stays net.stays states' till.hand);
    new = λ p l t. new p t (eq-or-lt_of_le (omega (arith, l)));
    old = λ x out t. there x (out n (omega arith)) t ∙ till.old x (λ p l. out p (omega (arith, l))) t;
  }
    where
      new : (p t : ℕ) → (p ≡ n) ⊎ (p < n) → shown bit m'' after t (get_or nets p 0) ≡ by_row A bit m (length nets) may sure p t
      new p t (inl e) = subst (λ q. shown bit m'' after t (get_or nets q 0) ≡ by_row A bit m (length nets) may sure q t) (sym e) (here t)
      new p t (inr l) = there (get_or nets p 0) apart t ∙ till.new p l t
        where
          apart : get_or nets p 0 ≢ get_or nets n 0
          apart e = omega (arith, l, one_place nets ok.distinct p n (omega (arith, l, hn)) hn e)

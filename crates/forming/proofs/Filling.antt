-- The tables of a component while the devices are taken up. Assumes nothing.
use Rattle.std.proofs.Common.{◌≡◌, ℕ, ◌+◌, ◌*◌, ◌<◌, Bool, true, List, [], length, get_or, take, sym, refl, ap, ◌∙◌, subst, arith}
use Rattle.std.proofs.lemmas.Nat.{mul-add-lt}
use Rattle.std.proofs.lemmas.List.{take_more}
use Rattle.cell.specs.declared.Device.{Device}
use Rattle.algebra.specs.Chain.{Chain}
use Rattle.algebra.specs.Holding.{Meaning}
use Rattle.algebra.specs.Signals.{Boolean}
use Rattle.paths.specs.Solving.{system}
use Rattle.forming.specs.Signs.{InHand, values}
use Rattle.forming.specs.Systems.{Stands, Tabled, Filled, TakesUp}
use Rattle.forming.proofs.Bits.{no_zero}
use Rattle.paths.proofs.Holding.{stays_same, stays_then}

-- a table of zeros stands for no devices
stands_none : {V : Type 0} {A : Chain V} {bit : V → ℕ → Bool} → Boolean A bit → (nets : List ℕ) (columns c t : ℕ) (Q : Device → Type 0) (R : ℕ → Type 0)
    (vs : List V) → c < columns → ((k : ℕ) → k < (length nets + columns) * length nets → get_or vs k A.zero ≡ A.zero)
    → Stands bit [] nets (system A (length nets) columns vs c) t Q R
stands_none {A = A} {bit = bit} B nets columns c t Q R vs hc zero = record {
  link = λ p q hp hq ne. ((λ h. absurd (off p q hp (omega (arith, hq)) h)), λ h. absurd h.1);
  own = λ p hp. ((λ h. absurd (off p (length nets + c) hp (omega (arith, hc)) h)), λ h. absurd h.2);
}
  where
    off : (p q : ℕ) → p < length nets → q < length nets + columns → ¬ (bit (get_or vs (p * (length nets + columns) + q) A.zero) t ≡ true)
    off p q hp hq h =
        no_zero B t (ap (λ v. bit v t) (sym (zero _ (mul-add-lt p (length nets + columns) q (length nets) hp hq))) ∙ h)

module _ {S V : Type 0} (A : Chain V) (bit : V → ℕ → Bool) (m : Meaning S V) (states : List S) (nets : List ℕ) (may sure : List S) where
  -- before the first device
  pub filled_none : Boolean A bit → InHand m may → InHand m sure
      → ((k : ℕ) → k < (length nets + 2) * length nets → get_or (values m may) k A.zero ≡ A.zero)
      → ((k : ℕ) → k < (length nets + 1) * length nets → get_or (values m sure) k A.zero ≡ A.zero)
      → Filled A bit m m states nets [] may may sure sure
  filled_none B may_hand sure_hand may_zero sure_zero = record {
    worked = record { stays = stays_same m; may_hand = may_hand; sure_hand = sure_hand; may_long = refl; sure_long = refl };
    tabled = record {
      ones = λ t. stands_none B nets 2 0 t _ _ (values m may) (omega arith) may_zero;
      zeros = λ t. stands_none B nets 2 1 t _ _ (values m may) (omega arith) may_zero;
      sures = λ t. stands_none B nets 1 0 t _ _ (values m sure) (omega arith) sure_zero;
    };
  }

  module _ (ds : List Device) (i : ℕ) {m1 : Meaning S V} {may1 sure1 : List S} (f : Filled A bit m m1 states nets (take i ds) may may1 sure sure1) where
    -- one more device
    pub filled_more : (e : Device) (m2 : Meaning S V) (may2 sure2 : List S) → i < length ds → TakesUp A bit m1 m2 states nets (get_or ds i e) may1 may2 sure1 sure2
        → Filled A bit m m2 states nets (take (i + 1) ds) may may2 sure sure2
    filled_more e m2 may2 sure2 l u = record {
      worked = record {
        stays = stays_then f.worked.stays u.worked.stays;
        may_hand = u.worked.may_hand;
        sure_hand = u.worked.sure_hand;
        may_long = u.worked.may_long ∙ f.worked.may_long;
        sure_long = u.worked.sure_long ∙ f.worked.sure_long;
      };
      tabled = subst (Tabled A bit m2 states nets may2 sure2) (sym (take_more ds i e l)) (u.tabled (take i ds) f.tabled);
    }

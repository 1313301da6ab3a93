-- A point forms each bit, lists its one setting, and reads its inputs from it. Assumes nothing.
use Rattle.std.proofs.Common.{◌≡◌, ℕ, ◌^◌, ◌<◌, ◌≤◌, Bool, false, ◌&&◌, ltb, [], ◌∷◌, get_or, Ok, sym, refl, ap, ◌∙◌, ⊎_elim, arith}
use native.Mathlib.Nat.{mod-one}
use Rattle.std.proofs.lemmas.Bool.{false≢true}
use Rattle.cell.specs.States.{setting_bit}
use Rattle.algebra.specs.Kinds.{bits, keeps_nothing, point_meaning}
use Rattle.algebra.specs.Holding.{Forming}
use Rattle.algebra.specs.Signals.{Boolean, Listing, IsInput, seen}
use Rattle.algebra.proofs.Keepless.{forming}

pub formed : (n setting : ℕ) (v : Bool) → Forming keeps_nothing (point_meaning n setting) v (Ok v) (point_meaning n setting)
formed n setting v = forming (point_meaning n setting) v v refl (λ u held. held) (record { hand = refl; value = refl })

seen_one : (setting t : ℕ) → seen (setting ∷ []) t ≡ setting
seen_one setting t = ap (λ (place : ℕ). get_or (setting ∷ []) place 0) (mod-one t)

-- the bit of input i, none from n on, is what an input has to be
pub reads_input : (n setting i : ℕ) (v : Bool) → v ≡ (ltb i n && setting_bit n setting i)
    → (u : Bool) × IsInput (λ (w : Bool) (t : ℕ). w) (point_meaning n setting) i u
    × Forming keeps_nothing (point_meaning n setting) u (Ok v) (point_meaning n setting)
reads_input n setting i v e =
    (v, (λ t. e ∙ ap (λ (s : ℕ). ltb i n && setting_bit n s i) (sym (seen_one setting t))), formed n setting v)

pub boolean : Boolean bits (λ (v : Bool) (t : ℕ). v)
boolean = record {
  zero_bit = λ t. refl;
  one_bit = λ t. refl;
  join_bit = λ v w t. refl;
  meet_bit = λ v w t. refl;
  only = λ v w same. same 0;
}

pub lists : (n setting : ℕ) → n ≤ 16 → setting < 2 ^ n → Listing false (point_meaning n setting)
lists n setting few exists = record {
  few = few;
  some = omega arith;
  rising = ((λ m none. absurd none), tt);
  settings = λ t. ⊎_elim (λ e. omega arith) absurd;
  itself = λ t. ⊎_elim (λ e. seen_one setting t ∙ sym e) absurd;
  all = λ covers t below. absurd (false≢true covers);
}

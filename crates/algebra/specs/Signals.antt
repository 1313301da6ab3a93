-- What makes a chain algebra one of signals: its values are functions from settings to bits. Assumes nothing.
use Rattle.std.specs.Prelude.{◌≡◌, ℕ, ◌%◌, ◌^◌, ◌<◌, ◌≤◌, Bool, true, false, not, ◌&&◌, ◌||◌, List, length, Some, None, Option, nat_lt, slice_index}
use Rattle.cell.specs.Lists.{In, Rising}
use Rattle.cell.specs.States.{setting_bit}
use Rattle.algebra.specs.Chain.{Chain}
use Rattle.algebra.specs.Holding.{Meaning}

-- A function of the listed settings is read at every number: at t as at the listed setting whose place is t modulo their count.
abbrev pub seen : List ℕ → ℕ → ℕ
seen listed t = slice_index listed (t % length listed)

-- join is or and meet is and, and the bits of a value tell it
pub record Boolean {V : Type 0} (A : Chain V) (bit : V → ℕ → Bool) : Type 0 where
  pub zero_bit : (t : ℕ) → bit A.zero t ≡ false
  pub one_bit : (t : ℕ) → bit A.one t ≡ true
  pub join_bit : (v w : V) (t : ℕ) → bit (A.join v w) t ≡ (bit v t || bit w t)
  pub meet_bit : (v w : V) (t : ℕ) → bit (A.meet v w) t ≡ (bit v t && bit w t)
  pub only : (v w : V) → ((t : ℕ) → bit v t ≡ bit w t) → v ≡ w

-- at most 16 inputs, and a rising list of settings, not empty, all of them for an algebra that covers; each is read as itself
pub record Listing {S V : Type 0} (covers : Bool) (m : Meaning S V) : Type 0 where
  pub few : m.inputs ≤ 16
  pub some : 0 < length m.listed
  pub rising : Rising m.listed
  pub settings : (t : ℕ) → In t m.listed → t < 2 ^ m.inputs
  pub itself : (t : ℕ) → In t m.listed → seen m.listed t ≡ t
  pub all : covers ≡ true → (t : ℕ) → t < 2 ^ m.inputs → In t m.listed

-- v is the function of input i, zero from n on
abbrev pub IsInput : {S V : Type 0} → (V → ℕ → Bool) → Meaning S V → ℕ → V → Type 0
IsInput bit m i v = (t : ℕ) → bit v t ≡ (nat_lt i m.inputs && setting_bit m.inputs (seen m.listed t) i)

-- w is the complement of v
abbrev pub IsComplement : {V : Type 0} → (V → ℕ → Bool) → V → V → Type 0
IsComplement bit v w = (t : ℕ) → bit w t ≡ not (bit v t)

-- the first listed setting whose bit is 1, or none
abbrev pub First : (ℕ → Bool) → List ℕ → Option ℕ → Type 0
First f listed (Some s) = In s listed × (f s ≡ true) × ((t : ℕ) → In t listed → t < s → f t ≡ false)
First f listed None = (t : ℕ) → In t listed → f t ≡ false

-- What an algebra means, what forming a value does to it, and what a row of formations leaves. Assumes nothing.
-- S: signs, V: values; keeps v w says that w is kept when v is formed.
use Rattle.std.specs.Prelude.{◌≡◌, ℕ, ◌≤◌, Bool, true, false, ◌⊎◌, ◌↔◌, List, length, Ok, Err, Result}
use Rattle.cell.specs.Lists.{Every, Distinct}
use Rattle.algebra.specs.declared.Declined.{Declined}

-- The meaning of an algebra: how many values it can hold, how many inputs it is made for and the settings it lists (none for
-- an algebra that is not one of signals), whether it is spent, which signs are in hand, the value of each sign, and the values held.
pub record Meaning (S V : Type 0) : Type 1 where
  pub room : ℕ
  pub inputs : ℕ
  pub listed : List ℕ
  pub spent : Bool
  pub hand : S → Bool
  pub value : S → V
  pub holds : V → Type 0

-- no more than room values have the property
abbrev pub AtMost : {V : Type 0} → ℕ → (V → Type 0) → Type 0
AtMost {V} room Q = (vs : List V) → Distinct vs → Every Q vs → length vs ≤ room

-- kept by some one of the values that are formed, F saying which those are
abbrev pub Kept : {V : Type 0} → (V → V → Type 0) → (V → Type 0) → V → Type 0
Kept {V} keeps F w = (v : V) × F v × keeps v w

-- held, or kept by some one of them
abbrev pub Grown : {S V : Type 0} → (V → V → Type 0) → (V → Type 0) → Meaning S V → V → Type 0
Grown keeps F m w = m.holds w ⊎ Kept keeps F w

-- room, inputs and list are as made, and each sign in hand stays in hand, with its value
pub record Stays {S V : Type 0} (m m' : Meaning S V) : Type 0 where
  pub room : m'.room ≡ m.room
  pub inputs : m'.inputs ≡ m.inputs
  pub listed : m'.listed ≡ m.listed
  pub hand : (s : S) → m.hand s ≡ true → m'.hand s ≡ true
  pub value : (s : S) → m.hand s ≡ true → m'.value s ≡ m.value s

-- all of F was formed: exactly what they keep was added, the algebra was not spent, and it all was within the room
pub record Went {S V : Type 0} (keeps : V → V → Type 0) (m : Meaning S V) (F : V → Type 0) (m' : Meaning S V) : Type 0 where
  pub stays : Stays m m'
  pub spent : m'.spent ≡ m.spent
  pub holds : (w : V) → m'.holds w ↔ Grown keeps F m w
  pub fresh : (v : V) → F v → m.spent ≡ false
  pub fits : (v : V) → F v → AtMost m.room (Grown keeps F m)

-- one of F was declined, and the algebra is spent: it was before, or what they keep would pass its room
pub record Stopped {S V : Type 0} (keeps : V → V → Type 0) (m : Meaning S V) (F : V → Type 0) (m' : Meaning S V) : Type 0 where
  pub stays : Stays m m'
  pub spent : m'.spent ≡ true
  pub why : m.spent ≡ false → ¬ (AtMost m.room (Grown keeps F m))

-- a sign is in hand and has the value
pub record Means {S V : Type 0} (m : Meaning S V) (s : S) (v : V) : Type 0 where
  pub hand : m.hand s ≡ true
  pub value : m.value s ≡ v

-- forming v gives a sign of it, or is declined
abbrev pub Forming : {S V : Type 0} → (V → V → Type 0) → Meaning S V → V → Result S Declined → Meaning S V → Type 0
Forming keeps m v (Ok s) m' = Went keeps m (λ u. u ≡ v) m' × Means m' s v
Forming keeps m v (Err e) m' = Stopped keeps m (λ u. u ≡ v) m'

-- clear empties what is held and ends a spent state
pub record Cleared {S V : Type 0} (m m' : Meaning S V) : Type 0 where
  pub room : m'.room ≡ m.room
  pub inputs : m'.inputs ≡ m.inputs
  pub listed : m'.listed ≡ m.listed
  pub fresh : m'.spent ≡ false
  pub empty : (w : V) → ¬ (m'.holds w)

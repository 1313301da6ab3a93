-- What probing a net gives. Assumes nothing.
use Rattle.std.specs.Prelude.{◌≡◌, ℕ, ◌+◌, ◌*◌, ◌^◌, ◌<◌, ◌≤◌, Bool, true, List, length, Some, None, Ok, Err, Option, Result}
use Rattle.cell.specs.declared.State.{State}
use Rattle.cell.specs.Circuits.{Drawn}
use Rattle.cell.specs.States.{States}
use Rattle.algebra.specs.Holding.{Meaning, Stays}
use Rattle.algebra.specs.Made.{Samples}
use Rattle.algebra.specs.Kinds.{word_bit}
use Rattle.algebra.specs.Signals.{seen}
use Rattle.forming.specs.Signs.{side}
use Rattle.text.specs.declared.fault.Fault.{Fault}
use Rattle.text.specs.declared.fault.Reason.TheVariants.{CircuitAbsent, WorkTableShort, OutOfRange}
use Rattle.text.specs.Faults.{fault}

-- A call on net x of the drawn circuit, over a work table of `size` signs: declined where no circuit is held, else where the table
-- is short, else where there is no such net, or not what the call asks for; else the answer.
pub data Answered {R : Type 0} (Exists : Drawn → Type 0) (Is : Drawn → R → Type 0) (size x : ℕ) : Option Drawn → Result R Fault → Type 0 where
  absent : Answered Exists Is size x None (Err (fault CircuitAbsent 0 0))
  short : (c : Drawn) → size < 2048 → Answered Exists Is size x (Some c) (Err (fault WorkTableShort 0 0))
  no_net : (c : Drawn) → 2048 ≤ size → 127 < x → Answered Exists Is size x (Some c) (Err (fault OutOfRange 0 0))
  missing : (c : Drawn) → 2048 ≤ size → x ≤ 127 → ¬ (Exists c) → Answered Exists Is size x (Some c) (Err (fault OutOfRange 0 0))
  done : (c : Drawn) (r : R) → 2048 ≤ size → x ≤ 127 → Exists c → Is c r → Answered Exists Is size x (Some c) (Ok r)

-- there are states of all nets under setting s, and in all of them net x has this one
pub record HasState (c : Drawn) (s x : ℕ) (st : State Bool) : Type 0 where
  pub there : (σ : ℕ → State Bool) × States c s σ
  pub is : (σ : ℕ → State Bool) → States c s σ → σ x ≡ st

-- the state of a net under a setting
abbrev pub Probed : ℕ → ℕ → ℕ → Option Drawn → Result (State Bool) Fault → Type 0
Probed size s x = Answered (λ c. s < 2 ^ length c.ins) (λ c st. HasState c s x st) size x

-- the state at one bit of two words
abbrev pub at_bit : State ℕ → ℕ → State Bool
at_bit st j = record { may0 = word_bit st.may0 j; may1 = word_bit st.may1 j }

-- the states of a net under the settings from 64 * k on, at most 64 of them, as the bits of two words
abbrev pub Surveyed : ℕ → ℕ → ℕ → Option Drawn → Result (State ℕ) Fault → Type 0
Surveyed size k x =
    Answered (λ c. 64 * k < 2 ^ length c.ins) (λ c st. (j : ℕ) → j < 64 → 64 * k + j < 2 ^ length c.ins → HasState c (64 * k + j) x (at_bit st j)) size x

-- the algebra stays as it was made, and the signs of a state over it are in hand, and those of the net's state at each setting that is listed
pub record Read {S V : Type 0} (bit : V → ℕ → Bool) (m m' : Meaning S V) (c : Drawn) (x : ℕ) (st : State S) : Type 0 where
  pub stays : Stays m m'
  pub hand : (b : Bool) → m'.hand (side b st) ≡ true
  pub zero : (t : ℕ) (σ : ℕ → State Bool) → States c (seen m.listed t) σ → (σ x).may0 ≡ bit (m'.value st.may0) t
  pub one : (t : ℕ) (σ : ℕ → State Bool) → States c (seen m.listed t) σ → (σ x).may1 ≡ bit (m'.value st.may1) t

-- the state of net x over the algebra of its number: what it reads after it was made for the circuit's inputs
abbrev pub Looked : {A S V : Type 0} → (ℕ → ℕ → Type 0) → (ℕ → ℕ → List ℕ) → (A → Meaning S V) → (V → ℕ → Bool) → ℕ → ℕ → ℕ → Option Drawn
    → Result (State S) Fault → Type 0
Looked {A} Exists listed meaning bit size number x =
    Answered
    (λ c. Exists (length c.ins) number)
    (λ c st. (made left : A) × Samples (length c.ins) (listed (length c.ins) number) (meaning made) × Read bit (meaning made) (meaning left) c x st)
    size x

-- What an algebra is made from. Assumes nothing.
use Rattle.std.specs.Prelude.{◌≡◌, ℕ, ◌*◌, ◌^◌, ◌<◌, ◌≤◌, List, Ok, Err, Result}
use Rattle.text.specs.declared.fault.Fault.{Fault}
use Rattle.text.specs.declared.fault.Reason.TheVariants.{NoSuchAlgebra}
use Rattle.text.specs.Faults.{fault}
use Rattle.algebra.specs.Holding.{Meaning}

-- an algebra is made as asked where there is such a one, and else declined
abbrev pub Made : {A : Type 0} → Type 0 → (A → Type 0) → Result A Fault → Type 0
Made Exists Is (Ok a) = Exists × Is a
Made Exists Is (Err f) = (¬ Exists) × (f ≡ fault NoSuchAlgebra 0 0)

-- a setting of at most 16 inputs
pub record Setting (n s : ℕ) : Type 0 where
  pub few : n ≤ 16
  pub exists : s < 2 ^ n

-- a block, of 64 settings or of all where there are fewer, of at most 16 inputs
pub record Stretch (n k : ℕ) : Type 0 where
  pub few : n ≤ 16
  pub exists : 64 * k < 2 ^ n

-- an algebra made for n inputs, with this list of settings
pub record Samples {S V : Type 0} (n : ℕ) (settings : List ℕ) (m : Meaning S V) : Type 0 where
  pub inputs : m.inputs ≡ n
  pub listed : m.listed ≡ settings

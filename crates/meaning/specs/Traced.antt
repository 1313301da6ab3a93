-- Four small cells and the states of their nets. Assumes nothing.
use Rattle.std.specs.Prelude.{◌≡◌, ℕ, ◌+◌, Bool, true, false, List, [], ◌∷◌}
use Rattle.cell.specs.declared.Device.{Device}
use Rattle.cell.specs.declared.DeviceKind.{DeviceKind}
use Rattle.cell.specs.declared.DeviceKind.TheVariants.{N, P}
use Rattle.cell.specs.declared.State.{State}
use Rattle.cell.specs.Circuits.{Drawn}
use Rattle.cell.specs.States.{AllStates, exactly, unknown}

abbrev pub device : DeviceKind → ℕ → ℕ → ℕ → Device
device k g l r = record { kind = k; gate = g; left = l; right = r }

abbrev pub drawn : List ℕ → List ℕ → List Device → Drawn
drawn ins outs ds = record { name = []; ins = ins; outs = outs; body = ds }

-- a NAND gate of two inputs
abbrev pub nand : Drawn
nand = drawn (2 ∷ 3 ∷ []) (4 ∷ []) (device P 2 1 4 ∷ device P 3 1 4 ∷ device N 2 4 5 ∷ device N 3 5 0 ∷ [])

-- an N device that passes one input where the other is 1
abbrev pub pass : Drawn
pass = drawn (2 ∷ 3 ∷ []) (4 ∷ []) (device N 3 2 4 ∷ [])

-- a P device that always conducts, against an N device
abbrev pub fight : Drawn
fight = drawn (2 ∷ []) (3 ∷ []) (device P 0 1 3 ∷ device N 2 3 0 ∷ [])

-- two nets that only hold each other
abbrev pub adrift : Drawn
adrift = drawn [] (3 ∷ []) (device N 1 3 4 ∷ [])

-- the states of a net at settings 0, 1, .. are those of the list
abbrev pub Runs : (ℕ → ℕ → State Bool) → ℕ → ℕ → List (State Bool) → Type 0
Runs σ x s [] = Unit {0}
Runs σ x s (st ∷ sts) = (σ s x ≡ st) × Runs σ x (s + 1) sts

pub record TracedStates : Type 0 where
  pub nand_out : (σ : ℕ → ℕ → State Bool) → AllStates nand σ → Runs σ 4 0 (exactly true ∷ exactly true ∷ exactly true ∷ exactly false ∷ [])
  pub nand_inside : (σ : ℕ → ℕ → State Bool) → AllStates nand σ → Runs σ 5 0 (unknown ∷ exactly false ∷ exactly true ∷ exactly false ∷ [])
  pub pass_out : (σ : ℕ → ℕ → State Bool) → AllStates pass σ → Runs σ 4 0 (unknown ∷ exactly false ∷ unknown ∷ exactly true ∷ [])
  pub fight_out : (σ : ℕ → ℕ → State Bool) → AllStates fight σ → Runs σ 3 0 (exactly true ∷ unknown ∷ [])
  pub adrift_out : (σ : ℕ → ℕ → State Bool) → AllStates adrift σ → Runs σ 3 0 (unknown ∷ [])
  pub adrift_end : (σ : ℕ → ℕ → State Bool) → AllStates adrift σ → Runs σ 4 0 (unknown ∷ [])

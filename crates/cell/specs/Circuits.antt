-- The two circuits of a cell, as their records say them. A net is a number: net 0 is ground and net 1 is supply, the rails.
-- Assumes nothing.
use Rattle.std.specs.Prelude.{ℕ, ◌≤◌, List, [], ◌∷◌, ◌++◌}
use Rattle.cell.specs.declared.Device.{Device}
use Rattle.cell.specs.declared.GateKind.{GateKind}
use Rattle.cell.specs.Lists.{In, Every}

-- a name, input nets, output nets, and a body of devices or gates, all in the order of the file
pub record Circuit (Item : Type 0) : Type 0 where
  pub name : List ℕ
  pub ins : List ℕ
  pub outs : List ℕ
  pub body : List Item

-- a cell as drawn in transistors
abbrev pub Drawn : Type 0
Drawn = Circuit Device

-- the nets of a device, as its record lists them
abbrev pub device_nets : Device → List ℕ
device_nets d = d.gate ∷ d.left ∷ d.right ∷ []

pub record Gate : Type 0 where
  pub kind : GateKind
  pub inputs : List ℕ
  pub output : ℕ

-- a cell as intended in gates
abbrev pub Intended : Type 0
Intended = Circuit Gate

-- the nets of a gate, as its record lists them
abbrev pub gate_nets : Gate → List ℕ
gate_nets g = g.inputs ++ g.output ∷ []

-- a device on nets from 0 to 127
abbrev pub OnNets : Device → Type 0
OnNets d = (d.gate ≤ 127) × (d.left ≤ 127) × (d.right ≤ 127)

-- net numbers are 0 to 127
abbrev pub Numbered : List ℕ → Type 0
Numbered xs = Every (λ x. x ≤ 127) xs

-- an IN is no rail and no earlier IN
pub record FreshIn (earlier : List ℕ) (x : ℕ) : Type 0 where
  pub no_rail : 2 ≤ x
  pub number : x ≤ 127
  pub new : ¬ (In x earlier)

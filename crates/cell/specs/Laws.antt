-- The laws of states and of intended bits. Assumes nothing.
use Rattle.std.specs.Prelude.{◌≡◌, ℕ, Bool, false, []}
use Rattle.cell.specs.declared.Device.{Device}
use Rattle.cell.specs.declared.State.{State}
use Rattle.cell.specs.Lists.{In, Along}
use Rattle.cell.specs.Circuits.{Drawn, Intended, FreshIn}
use Rattle.cell.specs.Waiting.{Inner, WaitsInRing}
use Rattle.cell.specs.States.{States, unknown}
use Rattle.cell.specs.Gates.{Bits, Known, InTurn}

-- where waiting never comes back to its start, every setting has states ..
abbrev pub HasStates : Type 0
HasStates = (c : Drawn) → Along FreshIn [] c.ins → ¬ (WaitsInRing c) → (s : ℕ) → (σ : ℕ → State Bool) × States c s σ

-- .. and no others
abbrev pub OneAssignment : Type 0
OneAssignment = (c : Drawn) → ¬ (WaitsInRing c) → (s : ℕ) (σ τ : ℕ → State Bool) → States c s σ → States c s τ → (x : ℕ) → σ x ≡ τ x

-- no net is neither 0 nor 1
abbrev pub NeverNeither : Type 0
NeverNeither = (c : Drawn) → ¬ (WaitsInRing c) → (s : ℕ) (σ : ℕ → State Bool) → States c s σ → (x : ℕ)
    → ¬ (σ x ≡ record { may0 = false; may1 = false })

-- an inner net on no device is X
abbrev pub LooseIsUnknown : Type 0
LooseIsUnknown = (c : Drawn) (s : ℕ) (σ : ℕ → State Bool) → States c s σ → (x : ℕ) → Inner c x
    → ((d : Device) → In d c.body → (¬ (d.left ≡ x)) × (¬ (d.right ≡ x))) → σ x ≡ unknown

-- where each gate stands after those that it reads, every setting has bits ..
abbrev pub HasBits : Type 0
HasBits = (g : Intended) → Along FreshIn [] g.ins → Along (InTurn g.ins) [] g.body → (s : ℕ) → (β : ℕ → Bool) × Bits g s β

-- .. and the gates allow no others
abbrev pub OneBit : Type 0
OneBit = (g : Intended) → Along (InTurn g.ins) [] g.body → (s : ℕ) (β γ : ℕ → Bool) → Bits g s β → Bits g s γ
    → (x : ℕ) → Known g.ins g.body x → β x ≡ γ x

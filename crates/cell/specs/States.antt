-- What the nets of a drawn circuit are under one setting, by paths. Assumes nothing.
use Rattle.std.specs.Prelude.{◌≡◌, ℕ, ◌-◌, ◌/◌, ◌%◌, ◌^◌, ◌<◌, Bool, true, false, not, ◌⊎◌, ◌↔◌, List, [], ◌∷◌, length, ◌==◌, slice_index}
use Rattle.cell.specs.declared.Device.{Device}
use Rattle.cell.specs.declared.DeviceKind.{DeviceKind}
use Rattle.cell.specs.declared.DeviceKind.TheVariants.{N, P}
use Rattle.cell.specs.declared.State.{State}
use Rattle.cell.specs.Lists.{In, Every}
use Rattle.cell.specs.Circuits.{Drawn}
use Rattle.cell.specs.Waiting.{Source, Inner, Links}

-- For n inputs the settings are the numbers below 2 ^ n. The bit of input i, the first input being the highest bit.
abbrev pub setting_bit : ℕ → ℕ → ℕ → Bool
setting_bit n s i = (s / (2 ^ (n - 1 - i))) % 2 == 1

-- the state 0 or 1
abbrev pub exactly : Bool → State Bool
exactly b = record { may0 = not b; may1 = b }

-- the state X
abbrev pub unknown : State Bool
unknown = record { may0 = true; may1 = true }

-- a state may be a bit
abbrev pub MayBe : Bool → State Bool → Type 0
MayBe false st = st.may0 ≡ true
MayBe true st = st.may1 ≡ true

-- the bit of its gate at which a device conducts
abbrev pub opens : DeviceKind → Bool
opens N = true
opens P = false

abbrev pub MayConduct : (ℕ → State Bool) → Device → Type 0
MayConduct σ d = MayBe (opens d.kind) (σ d.gate)

abbrev pub SurelyConducts : (ℕ → State Bool) → Device → Type 0
SurelyConducts σ d = ¬ (MayBe (not (opens d.kind)) (σ d.gate))

-- Path c x xs ds y: the devices ds, in a row, lead from the inner net x to the source y, through the inner nets xs (x the
-- first of them), none of them twice; y is the first source met.
pub data Path (c : Drawn) : ℕ → List ℕ → List Device → ℕ → Type 0 where
  last : {x y : ℕ} {d : Device} → Inner c x → In d c.body → Links d x y → Source c y → Path c x (x ∷ []) (d ∷ []) y
  step : {x y z : ℕ} {d : Device} {xs : List ℕ} {ds : List Device}
      → Inner c x → In d c.body → Links d x z → ¬ (In x xs) → Path c z xs ds y → Path c x (x ∷ xs) (d ∷ ds) y

-- a path from x to the source y, each of whose devices has the property
abbrev pub Way : Drawn → (Device → Type 0) → ℕ → ℕ → Type 0
Way c Q x y = (xs : List ℕ) × (ds : List Device) × Path c x xs ds y × Every Q ds

-- a path of devices that may conduct ends at a source that may be b
abbrev pub Reaches : Drawn → (ℕ → State Bool) → Bool → ℕ → Type 0
Reaches c σ b x = (y : ℕ) × Way c (MayConduct σ) x y × MayBe b (σ y)

-- a path of surely conducting devices starts at x
abbrev pub Driven : Drawn → (ℕ → State Bool) → ℕ → Type 0
Driven c σ x = (y : ℕ) × Way c (SurelyConducts σ) x y

-- the rule by which an inner net may be b
abbrev pub Rule : Drawn → (ℕ → State Bool) → Bool → ℕ → Type 0
Rule c σ b x = Reaches c σ b x ⊎ (¬ (Driven c σ x))

-- σ gives rails and inputs their values under setting s
pub record Sourced (ins : List ℕ) (s : ℕ) (σ : ℕ → State Bool) : Type 0 where
  pub ground : σ 0 ≡ exactly false
  pub supply : σ 1 ≡ exactly true
  pub input : (i : ℕ) → i < length ins → σ (slice_index ins i) ≡ exactly (setting_bit (length ins) s i)

-- σ gives every net its state under setting s
pub record States (c : Drawn) (s : ℕ) (σ : ℕ → State Bool) : Type 0 where
  pub sources : Sourced c.ins s σ
  pub inner : (x : ℕ) → Inner c x → (b : Bool) → MayBe b (σ x) ↔ Rule c σ b x

-- σ gives every net its state under every setting
abbrev pub AllStates : Drawn → (ℕ → ℕ → State Bool) → Type 0
AllStates c σ = (s : ℕ) → States c s (σ s)

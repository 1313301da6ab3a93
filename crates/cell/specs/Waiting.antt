-- The components of a drawn circuit, which of them waits for which, and the orders in which they can be evaluated.
-- Assumes nothing.
use Rattle.std.specs.Prelude.{◌≡◌, ℕ, ◌<◌, ◌≤◌, ◌⊎◌, ◌↔◌, List, [], length}
use Rattle.std.specs.List.{flat_map}
use Rattle.cell.specs.declared.Device.{Device}
use Rattle.cell.specs.Lists.{In, Every, Distinct, Rising, Along}
use Rattle.cell.specs.Circuits.{Drawn}

-- Rails and IN nets are sources; every other net is inner.
abbrev pub Source : Drawn → ℕ → Type 0
Source c x = (x < 2) ⊎ In x c.ins

abbrev pub Inner : Drawn → ℕ → Type 0
Inner c x = ¬ (Source c x)

-- a device's two ends, in either order
abbrev pub Links : Device → ℕ → ℕ → Type 0
Links d x y = ((d.left ≡ x) × (d.right ≡ y)) ⊎ ((d.left ≡ y) × (d.right ≡ x))

-- two inner nets of one component: linked by devices through inner nets
pub data Linked (c : Drawn) : ℕ → ℕ → Type 0 where
  self : {x : ℕ} → Inner c x → Linked c x x
  link : {x y z : ℕ} (d : Device) → Inner c x → In d c.body → Links d x y → Linked c y z → Linked c x z

-- the nets of a component, in rising number
pub record Component (c : Drawn) (ks : List ℕ) : Type 0 where
  pub rising : Rising ks
  pub net : ℕ
  pub nets : (v : ℕ) → In v ks ↔ Linked c net v

-- a device with an end in the component of x
pub record Touches (c : Drawn) (x : ℕ) (d : Device) : Type 0 where
  pub device : In d c.body
  pub at : ℕ
  pub linked : Linked c x at
  pub end : (d.left ≡ at) ⊎ (d.right ≡ at)

-- the component of x waits for that of y: a device with an end in the first has its gate net in the second
pub record Waits (c : Drawn) (x y : ℕ) : Type 0 where
  pub device : Device
  pub touches : Touches c x device
  pub gate : Linked c device.gate y

-- waiting, once or more
pub data WaitsOn (c : Drawn) : ℕ → ℕ → Type 0 where
  once : {x y : ℕ} → Waits c x y → WaitsOn c x y
  more : {x y z : ℕ} → Waits c x y → WaitsOn c y z → WaitsOn c x z

-- waiting comes back to its start
abbrev pub WaitsInRing : Drawn → Type 0
WaitsInRing c = (x : ℕ) × WaitsOn c x x

-- a component of over 24 inner nets
abbrev pub TooLarge : Drawn → Type 0
TooLarge c = (x : ℕ) × (xs : List ℕ) × Distinct xs × Every (Linked c x) xs × (24 < length xs)

-- the nets of a list of components
abbrev pub nets_of : List (List ℕ) → List ℕ
nets_of order = flat_map (λ ks. ks) order

-- an order in which the components can be evaluated: every inner net from 0 to 127 stands in it once, and each component
-- comes after those that it waits for
pub record EvaluationOrder (c : Drawn) (order : List (List ℕ)) : Type 0 where
  pub components : Every (Component c) order
  pub all : (x : ℕ) → Inner c x → x ≤ 127 → In x (nets_of order)
  pub once : Distinct (nets_of order)
  pub waits : Along (λ earlier ks. (x y : ℕ) → In x ks → Waits c x y → In y (nets_of earlier)) [] order

-- Placing the components of a circuit one after another, each told by its label. Assumes nothing.
use Rattle.std.specs.Prelude.{◌≡◌, ℕ, zero, suc, ◌<◌, ◌≤◌, Bool, true, false, cond, ◌⊎◌, ◌↔◌, List, [], ◌∷◌, ◌++◌, map, length, vec_items, Some, slice_index, slice_index_or}
use Rattle.cell.specs.declared.Device.{Device}
use Rattle.cell.specs.Lists.{In, Every, Distinct, Along}
use Rattle.cell.specs.Waiting.{nets_of}
use Rattle.order.specs.declared.order.Order.{Order}
use Rattle.order.specs.declared.labels.Labels.{Labels}
use Rattle.order.specs.Labels.{is_label}
use Rattle.order.specs.Components.{label_of}

-- the nets below n with a label, in rising number
unfoldable pub nets_below : Labels → ℕ → ℕ → List ℕ
nets_below labels label zero = []
nets_below labels label (suc n) = nets_below labels label n ++ cond (is_label (label_of labels n) label) (n ∷ []) []

abbrev pub nets_with : Labels → ℕ → List ℕ
nets_with labels label = nets_below labels label 128

abbrev pub marked : List Bool → ℕ → Bool
marked table label = slice_index_or table label false

-- a label that is not marked is that of one net, its own
abbrev pub OthersAlone : Labels → List Bool → Type 0
OthersAlone labels shared = (x label : ℕ) → x ≤ 127 → label_of labels x ≡ Some label → marked shared label ≡ false → x ≡ label

-- the label of a component is the number of a net that has this label itself
pub record IsComponent (labels : Labels) (label : ℕ) : Type 0 where
  pub own : label_of labels label ≡ Some label

-- a component that has no place yet
pub record Unplaced (labels : Labels) (placed : List Bool) (label : ℕ) : Type 0 where
  pub component : IsComponent labels label
  pub unmarked : marked placed label ≡ false

-- a device with its gate in a component that has no place yet
pub record Pending (labels : Labels) (placed : List Bool) (d : Device) : Type 0 where
  pub component : ℕ
  pub gate : label_of labels d.gate ≡ Some component
  pub unmarked : marked placed component ≡ false

-- a device with an end that has the label
abbrev pub EndsIn : Labels → Device → ℕ → Type 0
EndsIn labels d label = (label_of labels d.left ≡ Some label) ⊎ (label_of labels d.right ≡ Some label)

-- a component waits for one that has no place yet
pub record Blocked (labels : Labels) (devices : List Device) (placed : List Bool) (label : ℕ) : Type 0 where
  pub device : Device
  pub among : In device devices
  pub end : EndsIn labels device label
  pub gate : Pending labels placed device

-- each component that has no place yet waits for another such
abbrev pub Stuck : Labels → List Device → List Bool → Type 0
Stuck labels devices placed = (label : ℕ) → Unplaced labels placed label → Blocked labels devices placed label

-- the gates of a component's devices are sources or in earlier components
abbrev pub After : Labels → List Device → List ℕ → ℕ → Type 0
After labels devices earlier label =
    (d : Device) → In d devices → EndsIn labels d label → (gate : ℕ) → label_of labels d.gate ≡ Some gate → In gate earlier

-- nets and sizes of the components placed so far, each after those that it waits for
pub record Arranged (labels : Labels) (devices : List Device) (placed : List Bool) (nets sizes : List ℕ) : Type 0 where
  pub components : List ℕ
  pub nets_are : nets ≡ nets_of (map (nets_with labels) components)
  pub sizes_are : sizes ≡ map length (map (nets_with labels) components)
  pub distinct : Distinct components
  pub real : Every (IsComponent labels) components
  pub marks : (label : ℕ) → In label components ↔ (marked placed label ≡ true)
  pub after : Along (After labels devices) [] components

abbrev pub nets_in : Order → List ℕ
nets_in o = vec_items o.nets

abbrev pub sizes_in : Order → List ℕ
sizes_in o = vec_items o.sizes

abbrev pub ArrangedIn : Labels → List Device → List Bool → Order → Type 0
ArrangedIn labels devices placed o = Arranged labels devices placed (nets_in o) (sizes_in o)

-- every component has its place
abbrev pub Complete : Labels → List Device → Order → Type 0
Complete labels devices o = (placed : List Bool) × ArrangedIn labels devices placed o × ((label : ℕ) → ¬ (Unplaced labels placed label))

-- some component has no place, and neither has one that it waits for, and so on
abbrev pub Ringed : Labels → List Device → Type 0
Ringed labels devices = (placed : List Bool) × Stuck labels devices placed × ((label : ℕ) × Unplaced labels placed label)

-- a component has over 24 nets
abbrev pub SomeLarge : List ℕ → Type 0
SomeLarge sizes = (k : ℕ) × (k < length sizes) × (24 < slice_index sizes k)

abbrev pub NoneLarge : List ℕ → Type 0
NoneLarge sizes = (k : ℕ) → k < length sizes → slice_index sizes k ≤ 24

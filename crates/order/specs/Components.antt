-- Components told by labels: each net from 0 to 127 may have a label, and the nets of one component have the same.
-- Assumes nothing.
use Rattle.std.specs.Prelude.{◌≡◌, ℕ, ◌≤◌, false, cond, List, [], ◌∷◌, ◌++◌, Option, None, Some, slice_index_or}
use Rattle.cell.specs.declared.Device.{Device}
use Rattle.cell.specs.Lists.{In, Every}
use Rattle.cell.specs.Circuits.{Drawn, device_nets, Numbered}
use Rattle.cell.specs.Waiting.{Source, Inner, Linked}
use Rattle.order.specs.declared.labels.Labels.{Labels}

-- of every circuit with these inputs and devices, whatever its name and outputs
abbrev pub EachDrawn : List ℕ → List Device → (Drawn → Type 0) → Type 0
EachDrawn ins devices Q = (name outs : List ℕ) → Q (record { name = name; ins = ins; outs = outs; body = devices })

abbrev pub label_of : Labels → ℕ → Option ℕ
label_of labels x = cond (slice_index_or labels.inner x false) (Some (slice_index_or labels.numbers x 0)) None

-- A source has no label, and an inner net the number of a net of its component. The ends of each of the devices have one
-- label where both are inner.
pub record Labelled (c : Drawn) (devices : List Device) (labels : Labels) : Type 0 where
  pub source : (x : ℕ) → Source c x → label_of labels x ≡ None
  pub inner : (x : ℕ) → x ≤ 127 → Inner c x → (label : ℕ) × (label_of labels x ≡ Some label) × Linked c x label
  pub joined : (d : Device) → In d devices → Inner c d.left → Inner c d.right → label_of labels d.left ≡ label_of labels d.right

-- one more device of a circuit is gone through
abbrev pub Joins : Device → Labels → Labels → Type 0
Joins d before after =
    (c : Drawn) (devices : List Device) → Every (λ e. Numbered (device_nets e)) c.body → In d c.body
    → Labelled c devices before → Labelled c (devices ++ d ∷ []) after

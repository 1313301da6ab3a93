-- The two files: devices, and gates. Assumes nothing.
use Rattle.std.specs.Prelude.{◌≡◌, ℕ, ◌-◌, Bool, true, cond, ◌||◌, List, [], ◌∷◌, length, take, Some, None, Option, ◌==◌, slice_index}
use Rattle.std.specs.List.{list_any}
use Rattle.cell.specs.declared.Device.{Device}
use Rattle.cell.specs.declared.DeviceKind.{DeviceKind}
use Rattle.cell.specs.declared.GateKind.{GateKind}
use Rattle.cell.specs.Lists.{In, Every}
use Rattle.cell.specs.Circuits.{Drawn, Gate, Intended, device_nets, gate_nets, Numbered}
use Rattle.cell.specs.Waiting.{WaitsInRing, TooLarge}
use Rattle.cell.specs.Gates.{Known}
use Rattle.text.specs.declared.fault.Reason.{Reason}
use Rattle.text.specs.declared.fault.Reason.TheVariants.{OutputWithoutGate, WaitingRing, LargeComponent}
use Rattle.records.specs.Formats.{Format, NetAt}
use Rattle.records.specs.Kinds.{device_kinds, device_word, device_takes, gate_kinds, gate_word, arity, gate_takes}
use Rattle.files.specs.Reading.{member, rail}

-- The drawn file.

-- a gate net and two channel ends
abbrev pub device_of : DeviceKind → List ℕ → Device
device_of k xs = record { kind = k; gate = slice_index xs 0; left = slice_index xs 1; right = slice_index xs 2 }

-- a drawn circuit is declined where waiting comes back to its start, else where a component is too large
pub data DrawnAtEnd (c : Drawn) : Option Reason → Type 0 where
  ring : WaitsInRing c → DrawnAtEnd c (Some WaitingRing)
  large : ¬ (WaitsInRing c) → TooLarge c → DrawnAtEnd c (Some LargeComponent)
  sound : ¬ (WaitsInRing c) → ¬ (TooLarge c) → DrawnAtEnd c None

abbrev pub drawn_format : Format DeviceKind Device
drawn_format = record {
  kinds = device_kinds;
  word = device_word;
  takes = device_takes;
  most = 256;
  item = device_of;
  kind = λ d. d.kind;
  nets = device_nets;
  Rule = λ ins earlier d. Numbered (device_nets d);
  barred = λ ins earlier xs. None;
  AtEnd = DrawnAtEnd;
}

-- The intended file.

-- its inputs, and last its output
abbrev pub gate_from : GateKind → List ℕ → Gate
gate_from k xs = record { kind = k; inputs = take (length xs - 1) xs; output = slice_index xs (length xs - 1) }

pub record GateRule (ins : List ℕ) (earlier : List Gate) (g : Gate) : Type 0 where
  pub arity : arity g.kind (length g.inputs) ≡ true
  pub numbers : Numbered (gate_nets g)
  pub inputs : Every (Known ins earlier) g.inputs
  pub output : ¬ (Known ins earlier g.output)

abbrev pub driven : List Gate → ℕ → Bool
driven es x = list_any (λ (e : Gate). x == e.output) es

abbrev pub is_known : List ℕ → List Gate → ℕ → Bool
is_known ins earlier x = rail x || member x ins || driven earlier x

-- the first net that is not allowed: an input that is not known, or else the output, the last net, that is
abbrev pub gate_barred : List ℕ → List Gate → List NetAt → Option ℕ
gate_barred ins earlier [] = None
gate_barred ins earlier (x ∷ []) = cond (is_known ins earlier x.value) (Some x.place) None
gate_barred ins earlier (x ∷ y ∷ ys) = cond (is_known ins earlier x.value) (gate_barred ins earlier (y ∷ ys)) (Some x.place)

-- some gate has the net as its output
abbrev pub Gated : Intended → ℕ → Type 0
Gated g x = (e : Gate) × In e g.body × (x ≡ e.output)

-- an intended circuit is declined where an OUT has no gate
pub data IntendedAtEnd (g : Intended) : Option Reason → Type 0 where
  ungated : (x : ℕ) → In x g.outs → ¬ (Gated g x) → IntendedAtEnd g (Some OutputWithoutGate)
  gated : ((x : ℕ) → In x g.outs → Gated g x) → IntendedAtEnd g None

abbrev pub intended_format : Format GateKind Gate
intended_format = record {
  kinds = gate_kinds;
  word = gate_word;
  takes = gate_takes;
  most = 64;
  item = gate_from;
  kind = λ g. g.kind;
  nets = gate_nets;
  Rule = GateRule;
  barred = gate_barred;
  AtEnd = IntendedAtEnd;
}

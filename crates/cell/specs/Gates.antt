-- What the nets of an intended circuit are under one setting. Assumes nothing.
use Rattle.std.specs.Prelude.{◌≡◌, ℕ, ◌<◌, Bool, true, false, not, ◌&&◌, ◌||◌, ◌⊎◌, List, [], ◌∷◌, map, length, slice_index}
use Rattle.cell.specs.declared.GateKind.{GateKind}
use Rattle.cell.specs.declared.GateKind.TheVariants.{Not, Buf, And, Or, Nand, Nor, Xor, Xnor}
use Rattle.cell.specs.Lists.{In, Every}
use Rattle.cell.specs.Circuits.{Gate, Intended}
use Rattle.cell.specs.States.{setting_bit}

abbrev pub all : List Bool → Bool
all [] = true
all (b ∷ bs) = b && all bs

abbrev pub any : List Bool → Bool
any [] = false
any (b ∷ bs) = b || any bs

-- an odd number of them is true
abbrev pub odd : List Bool → Bool
odd [] = false
odd (b ∷ bs) = (b && not (odd bs)) || (not b && odd bs)

-- the bit of a gate's output, from the bits of its inputs
abbrev pub kind_bit : GateKind → List Bool → Bool
kind_bit Not bs = not (any bs)
kind_bit Buf bs = any bs
kind_bit And bs = all bs
kind_bit Or bs = any bs
kind_bit Nand bs = not (all bs)
kind_bit Nor bs = not (any bs)
kind_bit Xor bs = odd bs
kind_bit Xnor bs = not (odd bs)

-- β gives the nets of an intended circuit their bits under setting s
pub record Bits (g : Intended) (s : ℕ) (β : ℕ → Bool) : Type 0 where
  pub ground : β 0 ≡ false
  pub supply : β 1 ≡ true
  pub input : (i : ℕ) → i < length g.ins → β (slice_index g.ins i) ≡ setting_bit (length g.ins) s i
  pub gate : (e : Gate) → In e g.body → β e.output ≡ kind_bit e.kind (map β e.inputs)

-- a rail, an IN or an earlier gate's output
abbrev pub Known : List ℕ → List Gate → ℕ → Type 0
Known ins earlier x = (x < 2) ⊎ (In x ins ⊎ ((e : Gate) × In e earlier × (x ≡ e.output)))

-- the inputs of a gate are known before it, and its output is not
pub record InTurn (ins : List ℕ) (earlier : List Gate) (e : Gate) : Type 0 where
  pub inputs : Every (Known ins earlier) e.inputs
  pub output : ¬ (Known ins earlier e.output)

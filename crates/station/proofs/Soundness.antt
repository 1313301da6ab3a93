-- The drawn circuit that a station holds stays sound. Assumes nothing.
use Rattle.std.proofs.Common.{◌≡◌, ℕ, Bool, true, false, cond, List, IfOk, IfErr, Some, None, Ok, Err, Result, sym, ◌∙◌, subst}
use mathlib.Core.Logic.{∥∥₁_map}
use Rattle.text.specs.declared.fault.Fault.{Fault}
use Rattle.files.specs.Files.{drawn_format}
use Rattle.files.specs.Lawful.{Lawful}
use Rattle.files.proofs.Texts.{drawn_exactly}
use Rattle.netlist.specs.Circuits.{circuit_of}
use Rattle.netlist.specs.declared.netlist.Netlist.{Netlist}
use Rattle.circuits.specs.declared.devices.Devices.{Devices}
use Rattle.circuits.specs.Bodies.{devices_of, Ordered}
use Rattle.station.specs.declared.slot.Slot.{Slot}
use Rattle.station.specs.Slots.{holds, nothing, ReadsInto}
use Rattle.station.specs.Sound.{Sound}
use Rattle.station.proofs.Answering.{current}
use Rattle.text.proofs.Steps.{off_on, none_some}

-- where nothing is held, there is nothing to show
pub sound_nothing : (s : Slot Devices) → holds devices_of s ≡ nothing → ∥ Sound s ∥₁
sound_nothing s none = ∣ (λ h. absurd (held_some s.held h none)) ∣₁
  where
    held_some : (b : Bool) → b ≡ true → ¬ (cond b (Some (circuit_of devices_of s.current)) None ≡ None)
    held_some true e n = none_some _ (sym n)
    held_some false e n = off_on e

Fits : Netlist Devices → Type 0
Fits n = Lawful drawn_format (circuit_of devices_of n) × Ordered n.body (circuit_of devices_of n)

-- a reading that is done holds a lawful circuit with its order, and one that is declined changes nothing
pub sound_read : (text : List ℕ) (s s' : Slot Devices) (r : Result ℕ Fault) → ∥ Sound s ∥₁
    → ReadsInto drawn_format text (holds devices_of s) r (holds devices_of s')
    → IfOk r (λ _. Ordered s'.current.body (circuit_of devices_of s'.current))
    → IfErr r (λ _. s'.current ≡ s.current) → IfErr r (λ _. s'.held ≡ s.held) → ∥ Sound s' ∥₁
unfolding Fits
sound_read text s s' (Ok n) old h kept same still =
    let lawful = ((drawn_exactly text h.0).0 h.1).0 in
    ∣ (λ _. (subst (Lawful drawn_format) (sym (current devices_of s' h.0 h.2)) lawful, kept)) ∣₁
sound_read text s s' (Err e) old h kept same still = ∥∥₁_map old (λ sound held. subst Fits (sym same) (sound (sym still ∙ held)))

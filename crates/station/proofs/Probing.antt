-- The states that are formed of a held circuit are those of its nets. Assumes nothing.
use Rattle.std.proofs.Common.{◌≡◌, ℕ, ◌<◌, ◌≤◌, Bool, true, false, List, [], length, get_or, sym, ap, ◌∙◌, subst, arith}
use mathlib.Core.Bool.{Bool-set}
use mathlib.Core.Logic.{∥∥₁_elim}
use Rattle.std.proofs.lemmas.List.{get_or-map}
use Rattle.cell.specs.declared.Device.{Device}
use Rattle.cell.specs.declared.State.{State}
use Rattle.cell.specs.Waiting.{EvaluationOrder}
use Rattle.cell.specs.Lists.{Along}
use Rattle.cell.specs.Circuits.{Drawn, FreshIn}
use Rattle.cell.specs.States.{States}
use Rattle.meaning.proofs.Unique.{one_assignment}
use Rattle.algebra.specs.Holding.{Meaning}
use Rattle.algebra.specs.Signals.{seen}
use Rattle.order.specs.declared.order.Order.{Order}
use Rattle.order.specs.Found.{order_of}
use Rattle.cell.proofs.Members.{every_place}
use Rattle.forming.specs.Signs.{side, place_of, shown}
use Rattle.forming.specs.Components.{AllFormed}
use Rattle.netlist.specs.Circuits.{circuit_of}
use Rattle.circuits.specs.declared.devices.Devices.{Devices}
use Rattle.circuits.specs.Bodies.{devices_of}
use Rattle.station.specs.declared.slot.Slot.{Slot}
use Rattle.station.specs.Sound.{Sound}
use Rattle.station.specs.Probes.{Read}
use Rattle.station.proofs.Usable.{Usable, usable}

module _ {S V : Type 0} (bit : V → ℕ → Bool) (m m' : Meaning S V) (s : Slot Devices) (sound : ∥ Sound s ∥₁) (held : s.held ≡ true)
    (ins : List ℕ) (devices : List Device) (order : Order) (states : List S)
    (ins_are : ins ≡ (circuit_of devices_of s.current).ins) (devices_are : devices ≡ devices_of s.current.body) (order_is : order ≡ s.current.body.order)
    (inputs : m.inputs ≡ length (circuit_of devices_of s.current).ins) (F : AllFormed bit m m' ins devices (order_of order) states) where
  c : Drawn
  c = circuit_of devices_of s.current

  facts : Usable c (order_of s.current.body.order)
  unfolding c
  facts = usable s sound held

  formed : EvaluationOrder c (order_of s.current.body.order) → (t : ℕ) → States c (seen m.listed t) (shown bit m' states t)
  unfolding c facts
  formed E t =
      F.formed c (sym ins_are) (sym devices_are) (subst (Along FreshIn []) (sym ins_are) facts.fresh)
      (subst (λ o. EvaluationOrder c (order_of o)) (sym order_is) E) (inputs ∙ ap length (sym ins_are)) t

  -- whatever is read of a net's state: one bit at most
  pub read_side : (part : State Bool → Bool) (x t : ℕ) (σ : ℕ → State Bool) → States (circuit_of devices_of s.current) (seen m.listed t) σ
      → part (σ x) ≡ part (shown bit m' states t x)
  unfolding c facts formed
  read_side part x t σ S =
      ∥∥₁_elim sound (Bool-set _ _)
      (λ h. ap part (one_assignment c facts.acyclic (seen m.listed t) σ (shown bit m' states t) S (formed (h held).1 t) x))

  pub read_state : (x : ℕ) (st : State S) → x ≤ 127 → ((b : Bool) (d : S) → side b st ≡ get_or states (place_of x b) d)
      → Read bit m m' (circuit_of devices_of s.current) x st
  read_state x st low is = record {
    stays = F.stays;
    hand = λ b. subst (λ z. m'.hand z ≡ true) (sym (is b (side b st))) (every_place (λ z. m'.hand z ≡ true) states (place_of x b) (side b st) (place_low b) F.hand);
    zero = λ t σ S. read_side (λ v. v.may0) x t σ S ∙ get_or-map (λ z. bit (m'.value z) t) states (place_of x false) st.may0 true (place_low false) ∙ ap (λ z. bit (m'.value z) t) (sym (is false st.may0));
    one = λ t σ S. read_side (λ v. v.may1) x t σ S ∙ get_or-map (λ z. bit (m'.value z) t) states (place_of x true) st.may1 true (place_low true) ∙ ap (λ z. bit (m'.value z) t) (sym (is true st.may1));
  }
    where
      place_low : (b : Bool) → place_of x b < length states
      place_low false = omega (arith, F.long)
      place_low true = omega (arith, F.long)

use Rattle.std.proofs.Common.{◌≡◌, Some, refl, ap, subst}
use Rattle.cell.specs.Circuits.{Drawn}
use Rattle.cell.specs.Waiting.{EvaluationOrder}
use Rattle.order.specs.Found.{order_of}
use Rattle.files.specs.Files.{drawn_format}
use Rattle.files.proofs.Texts.{drawn_exactly, drawn_one_way}
use Rattle.netlist.specs.Circuits.{circuit_of}
use Rattle.netlist.specs.declared.netlist.Netlist.{Netlist}
use Rattle.circuits.specs.declared.devices.Devices.{Devices}
use Rattle.circuits.specs.Bodies.{devices_of, Ordered}
use Rattle.station.specs.declared.slot.Slot.{Slot}
use Rattle.station.specs.Slots.{holds}
use Rattle.station.proofs.Answering.{made_so, refused_so, current, done_exactly}
use Rattle.station.proofs.Soundness.{sound_read}
use Rattle.station.proofs.station.Station.read_drawn.Goals as goal

-- the circuit that is held is the one that the order goes with
of-held : (s : Slot Devices) → Ordered s.current.body (circuit_of devices_of s.current) → (c : Drawn) → holds devices_of s ≡ Some c → EvaluationOrder c (order_of s.current.body.order)
of-held s h c e = subst (λ x. EvaluationOrder x (order_of s.current.body.order)) (current devices_of s c e) h

pub returns : goal.returns
returns c =
    let s = c.read.new.self in
    record {
      gives = c.read.ensures.gives;
      other = refl;
      order = made_so c.read.result (Ordered s.current.body (circuit_of devices_of s.current)) _ (of-held s) c.read.ensures.kept;
      same_order = refused_so c.read.result (s.current ≡ c.args.self.now.drawn.current) _ (ap (λ (n : Netlist Devices). order_of n.body.order)) c.read.ensures.same;
      law = done_exactly drawn_format c.args.text.now (holds devices_of c.args.self.now.drawn) c.read.result (holds devices_of c.read.new.self) (drawn_exactly c.args.text.now) (drawn_one_way c.args.text.now) c.read.ensures.gives;
      exactly = drawn_exactly c.args.text.now;
      one_way = drawn_one_way c.args.text.now;
    }

pub invariant_of-self : goal.invariant_of-self
invariant_of-self c =
    let read = c.read.ensures in
    record { sound = sound_read c.args.text.now c.args.self.now.drawn c.read.new.self c.read.result c.args.self.now.sound read.gives read.kept read.same read.still }

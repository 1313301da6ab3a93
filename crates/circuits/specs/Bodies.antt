-- The gates and devices that a body holds. Assumes nothing.
use Rattle.std.specs.Prelude.{List, map, take, vec_items}
use Rattle.cell.specs.declared.Device.{Device}
use Rattle.cell.specs.Circuits.{Gate, Drawn}
use Rattle.cell.specs.Waiting.{EvaluationOrder}
use Rattle.order.specs.Found.{order_of}
use Rattle.circuits.specs.declared.devices.Devices.{Devices}
use Rattle.circuits.specs.declared.gates.LogicGate.{LogicGate}
use Rattle.circuits.specs.declared.gates.Gates.{Gates}

abbrev pub gate_held : LogicGate → Gate
gate_held g = record { kind = g.kind; inputs = take g.count g.inputs; output = g.output }

abbrev pub gates_of : Gates → List Gate
gates_of b = map gate_held (vec_items b.gates)

abbrev pub devices_of : Devices → List Device
devices_of b = vec_items b.devices

-- the order is one in which the components of the circuit can be evaluated
abbrev pub Ordered : Devices → Drawn → Type 0
Ordered b c = EvaluationOrder c (order_of b.order)

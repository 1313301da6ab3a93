-- What is always true of the drawn circuit that a station holds. Assumes nothing.
use Rattle.std.specs.Prelude.{◌≡◌, true}
use Rattle.files.specs.Files.{drawn_format}
use Rattle.files.specs.Lawful.{Lawful}
use Rattle.netlist.specs.Circuits.{circuit_of}
use Rattle.circuits.specs.declared.devices.Devices.{Devices}
use Rattle.circuits.specs.Bodies.{devices_of, Ordered}
use Rattle.station.specs.declared.slot.Slot.{Slot}

-- a held circuit is lawful, and the order that is kept with it is one in which its components can be evaluated
abbrev pub Sound : Slot Devices → Type 0
Sound s = s.held ≡ true → Lawful drawn_format (circuit_of devices_of s.current) × Ordered s.current.body (circuit_of devices_of s.current)

-- The nets of the devices of a list are numbered. Assumes nothing.
use Rattle.std.proofs.Common.{List, All, subst}
use Rattle.cell.specs.declared.DeviceList.{DeviceList}
use Rattle.cell.specs.Lists.{Every}
use Rattle.cell.specs.Circuits.{device_nets, Numbered}
use Rattle.cell.proofs.Members.{in_place, every_from}

pub every_of_all : {X : Type 0} (Q : X → Type 0) (xs : List X) → All Q xs → Every Q xs
every_of_all Q xs a = every_from Q xs (λ x h. let r = in_place x xs h in subst Q (r.2 x) (a r.0 x r.1))

pub list_numbered : (list : DeviceList) → Every (λ d. Numbered (device_nets d)) list.devices.now
list_numbered list =
    every_of_all (λ d. Numbered (device_nets d)) list.devices.now
    (λ k d h. let n = list.numbered k d h in (n.0, (n.1, (n.2, tt))))

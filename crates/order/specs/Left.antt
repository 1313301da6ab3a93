-- The components of an order that are left to go through. Assumes nothing.
use Rattle.std.specs.Prelude.{ℕ, List}
use Rattle.order.specs.declared.order.components.Components.{Components}
use Rattle.order.specs.Found.{chunks}

abbrev pub left : Components → List (List ℕ)
left c = chunks c.nets.now c.sizes.now

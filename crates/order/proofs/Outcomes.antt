-- What finding an order says of the circuit, in each of its cases. Assumes nothing.
use Rattle.cell.specs.Circuits.{Drawn}
use Rattle.cell.specs.Waiting.{WaitsInRing, TooLarge, EvaluationOrder}
use Rattle.order.specs.declared.order.Order.{Order}
use Rattle.order.specs.declared.labels.Labels.{Labels}
use Rattle.order.specs.Components.{Labelled}
use Rattle.order.specs.Placing.{sizes_in, Complete, Ringed, SomeLarge, NoneLarge}
use Rattle.order.specs.Found.{order_of}
use Rattle.order.proofs.Linking.{Low}
use Rattle.order.proofs.Evaluating.{complete_order, complete_sizes}
use Rattle.order.proofs.Rings.{ringed, order_no_ring}
use Rattle.order.proofs.Sizes.{too_large, not_too_large}

module _ (c : Drawn) (low : Low c.body) (labels : Labels) (L : Labelled c c.body labels) where
  pub found_ring : Ringed labels c.body → WaitsInRing c
  found_ring r = ringed c low labels L r

  module _ (o : Order) (all : Complete labels c.body o) where
    order : EvaluationOrder c (order_of o)
    order = complete_order c low labels L o all

    pub found_large : SomeLarge (sizes_in o) → (¬ (WaitsInRing c)) × TooLarge c
    found_large some = (
      order_no_ring c low (order_of o) order,
      too_large c low (order_of o) order (sizes_in o) (complete_sizes c low labels L o all) some,
    )

    pub found_order : NoneLarge (sizes_in o) → EvaluationOrder c (order_of o) × (¬ (WaitsInRing c)) × (¬ (TooLarge c))
    found_order none = (
      order,
      order_no_ring c low (order_of o) order,
      not_too_large c low (order_of o) order (sizes_in o) (complete_sizes c low labels L o all) none,
    )

-- What finding an evaluation order gives. Assumes nothing.
use Rattle.std.specs.Prelude.{ℕ, List, [], ◌∷◌, take, drop, Ok, Err, vec_items, Result}
use Rattle.cell.specs.Circuits.{Drawn}
use Rattle.cell.specs.Waiting.{WaitsInRing, TooLarge, EvaluationOrder}
use Rattle.order.specs.declared.Obstacle.{Obstacle}
use Rattle.order.specs.declared.Obstacle.TheVariants.{WaitingRing, LargeComponent}
use Rattle.order.specs.declared.order.Order.{Order}

-- a list cut into parts of the given sizes
abbrev pub chunks : List ℕ → List ℕ → List (List ℕ)
chunks nets [] = []
chunks nets (k ∷ ks) = take k nets ∷ chunks (drop k nets) ks

abbrev pub order_of : Order → List (List ℕ)
order_of o = chunks (vec_items o.nets) (vec_items o.sizes)

-- an order is found exactly where waiting never comes back to its start and no component is too large; a ring is told first
abbrev pub Found : Drawn → List (List ℕ) → Result Unit Obstacle → Type 0
Found c order (Ok done) = EvaluationOrder c order × (¬ (WaitsInRing c)) × (¬ (TooLarge c))
Found c order (Err WaitingRing) = WaitsInRing c
Found c order (Err LargeComponent) = (¬ (WaitsInRing c)) × TooLarge c

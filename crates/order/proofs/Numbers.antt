-- The nets of an order are net numbers. Assumes nothing.
use Rattle.std.proofs.Common.{ℕ, ◌≤◌, List, [], ◌∷◌, ◌++◌, take, drop, vec_items, subst, ⊎_elim}
use Rattle.std.proofs.lemmas.List.{take-append-drop}
use Rattle.cell.specs.Lists.{In}
use Rattle.cell.specs.Waiting.{nets_of}
use Rattle.cell.proofs.Members.{in_left, in_right, in_parts, in_place}
use Rattle.order.specs.declared.order.Order.{Order}
use Rattle.order.specs.Found.{chunks, order_of}

in_chunks : (x : ℕ) (nets sizes : List ℕ) → In x (nets_of (chunks nets sizes)) → In x nets
in_chunks x nets [] h = absurd h
in_chunks x nets (k ∷ ks) h =
    let whole : In x (take k nets ++ drop k nets) =
    ⊎_elim (λ a. in_left x (take k nets) (drop k nets) a) (λ b. in_right x (take k nets) (drop k nets) (in_chunks x (drop k nets) ks b))
    (in_parts x (take k nets) (nets_of (chunks (drop k nets) ks)) h) in
    subst (In x) (take-append-drop k nets) whole

pub order_numbered : (o : Order) (x : ℕ) → In x (nets_of (order_of o)) → x ≤ 127
order_numbered o x h =
    let r = in_place x (vec_items o.nets) (in_chunks x (vec_items o.nets) (vec_items o.sizes) h) in
    subst (λ n. n ≤ 127) (r.2 0) (o.numbered r.0 0 r.1)

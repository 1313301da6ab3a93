use Rattle.std.proofs.Common.{◌≡◌, ◌+◌, ◌≤◌, ◌++◌, length, vec_len, vec_capacity}
use Rattle.order.specs.Placing.{nets_below, nets_in}
use Rattle.order.proofs.order.Order.place_nets.Given as goal

abbrev pub invariant-loop-net : goal.invariant-loop-net
invariant-loop-net l =
    let placed = nets_below l.labels l.label l.net in
    record {
      nets : nets_in l.self ≡ nets_in l.initial.self ++ placed;
      len : vec_len l.self.nets ≡ length (nets_in l.initial.self) + length placed;
      room : 128 ≤ vec_capacity l.self.nets;
      sizes : l.self.sizes ≡ l.initial.self.sizes;
      size : l.size ≡ length placed;
    }

use Rattle.std.proofs.Common.{◌≡◌, true, false, [], ◌∷◌, length, vec_items, vec_len, vec_capacity, sym, refl, ap, ◌∙◌, arith}
use Rattle.std.proofs.lemmas.List.{append-nil, append_assoc, length_push}
use Rattle.order.specs.declared.order.Order.{Order}
use Rattle.order.specs.Labels.{is_label}
use Rattle.order.specs.Components.{label_of}
use Rattle.order.specs.Placing.{nets_below}
use Rattle.order.proofs.Nets.{below_with, below_without, below_none, below_room}
use Rattle.order.proofs.order.Order.place_nets.Goals as goal
use Rattle.order.proofs.order.Order.place_nets.Goals.{then-eq, else-eq}

pub loop-net-init : goal.loop-net-init
loop-net-init c =
    let z = below_none c.args.labels.now c.args.label in
    let n = append-nil (vec_items c.args.self.now.nets) in
    record { nets = cc; len = omega (arith, ap length z); room = omega arith; sizes = refl; size = sym (ap length z) }

pub push_reserved-requires : goal.push_reserved-requires
push_reserved-requires c =
    let with : is_label (label_of c.args.labels.now c.loop-net.net) c.args.label ≡ true = cc in
    omega (arith, below_room c.args.labels.now c.args.label c.loop-net.net c.loop-net-test.true with)

pub overflow_add-size : goal.overflow_add-size
overflow_add-size c =
    let with : is_label (label_of c.args.labels.now c.loop-net.net) c.args.label ≡ true = cc in
    omega (arith, below_room c.args.labels.now c.args.label c.loop-net.net c.loop-net-test.true with)

pub loop-net-preserved : goal.loop-net-preserved
loop-net-preserved c =
    let labels = c.args.labels.now in
    let label = c.args.label in
    let net = c.loop-net.net in
    let now = nets_below labels label net in
    elim c.if-eq.branch [
      | then-eq w ↦
          let with : is_label (label_of labels net) label ≡ true = cc in
          let more = below_with labels label net with in
          let assoc = append_assoc (vec_items c.args.self.now.nets) now (net ∷ []) in
          let longer = ap length more ∙ length_push now net in
          let is = ap (λ (o : Order). o.nets) w.self-is in
          record {
            nets = cc;
            len = omega (arith, ap vec_len is, longer, w.push_reserved.ensures.len);
            room = omega (arith, ap vec_capacity is, w.push_reserved.ensures.capacity);
            sizes = ap (λ (o : Order). o.sizes) w.self-is ∙ c.loop-net.invariant.sizes;
            size = omega (arith, longer);
          }
      | else-eq w ↦
          let with : is_label (label_of labels net) label ≡ false = cc in
          let more = below_without labels label net with in
          let is = ap (λ (o : Order). o.nets) w.self-is in
          record {
            nets = cc;
            len = omega (arith, ap vec_len is, ap length more);
            room = omega (arith, ap vec_capacity is);
            sizes = ap (λ (o : Order). o.sizes) w.self-is ∙ c.loop-net.invariant.sizes;
            size = omega (arith, ap length more);
          }
    ]

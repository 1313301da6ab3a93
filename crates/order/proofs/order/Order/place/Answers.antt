use Rattle.std.proofs.Common.{ℕ, List, ◌++◌, ◌∷◌, [], length, sym, ap, ◌∙◌}
use Rattle.order.specs.Placing.{nets_in, sizes_in}
use Rattle.order.proofs.order.Order.place.Goals as goal

pub returns-else-shared : goal.returns-else-shared
returns-else-shared c =
    let one = sym (c.requires.alone c.if-shared.false) in
    record {
      nets = c.place_net.ensures.nets ∙ ap (λ xs. nets_in c.args.self.now ++ xs) one;
      sizes = c.place_net.ensures.sizes ∙ ap (λ (xs : List ℕ). sizes_in c.args.self.now ++ length xs ∷ []) one;
    }

use Rattle.std.proofs.Common.{◌+◌, ap, ◌∙◌, Some, not, set, sym, subst, arith}
use Rattle.std.proofs.lemmas.Bool.{cond-true, cond-false}
use Rattle.cell.specs.Waiting.Linked.{self}
use Rattle.order.proofs.Own.{Own, own_none, own_more}
use Rattle.order.proofs.labels.Labels.own.Goals as goal

pub loop-net-init : goal.loop-net-init
loop-net-init c = own_none c.args.ins.now

pub loop-net-preserved : goal.loop-net-preserved
loop-net-preserved c =
    let ins = c.args.ins.now in
    let net = c.loop-net.net in
    let numbers = c.loop-net.numbers in
    let inner = c.loop-net.inner in
    let s = c.is_source.result in
    subst (λ k. Own ins (net + 1) (set numbers k net) (set inner c.from-in-loop-net.result (not s))) (sym c.from.ensures)
    (subst (λ k. Own ins (net + 1) (set numbers net net) (set inner k (not s))) (sym c.from-in-loop-net.ensures)
    (own_more ins net numbers inner s (omega arith) c.is_source.ensures.0 c.is_source.ensures.1 c.loop-net.invariant))

pub returns : goal.returns
returns c devices name outs =
    let O = c.loop-net.invariant in
    record {
      source = λ x s. cond-false _ _ _ (O.source x s);
      inner = λ x lo i. (x, cond-true _ _ _ (O.told x (omega arith) i) ∙ ap Some (O.own x (omega arith)), self i);
      joined = λ d h i j. absurd h;
    }

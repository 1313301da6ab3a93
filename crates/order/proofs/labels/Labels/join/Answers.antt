use Rattle.std.proofs.Common.{Some, sym, ap, ◌∙◌, inl, inr}
use Rattle.order.proofs.Joining.{joined_ends, joined_same, joined_source}
use Rattle.order.proofs.labels.Labels.join.Goals as goal

pub returns-in_default : goal.returns-in_default
returns-in_default c circuit ds low here L =
    joined_source circuit low ds c.args.self.now L c.args.device.now here (inl (sym c.of.ensures.label ∙ c.in_default.is))

pub returns-in_default-of : goal.returns-in_default-of
returns-in_default-of c circuit ds low here L =
    joined_source circuit low ds c.args.self.now L c.args.device.now here (inr (sym c.of-2.ensures.label ∙ c.in_default-of.is))

pub returns-then-left-right : goal.returns-then-left-right
returns-then-left-right c circuit ds low here L =
    joined_ends circuit low ds c.args.self.now L c.args.device.now here c.in-Some.left c.in-Some-of.right
    (sym c.of.ensures.label ∙ c.in-Some.is) (sym c.of-2.ensures.label ∙ c.in-Some-of.is) c.rename.new.self c.rename.ensures

pub returns-else-left-right : goal.returns-else-left-right
returns-else-left-right c circuit ds low here L =
    joined_same circuit low ds c.args.self.now L c.args.device.now here
    (sym c.of.ensures.label ∙ c.in-Some.is ∙ ap Some c.if-left-right.false ∙ sym (sym c.of-2.ensures.label ∙ c.in-Some-of.is))

use Rattle.std.proofs.Common.{Some, None, get_or, sym, refl, ap, ◌∙◌, subst, inl, inr}
use Rattle.cell.specs.Lists.{In}
use Rattle.cell.proofs.Members.{in_get_or}
use Rattle.forming.proofs.Places.{placed_in}
use Rattle.forming.proofs.tables.reach_of.Goals as goal

pub returns-in-Some-Some : goal.returns-in-Some-Some
returns-in-Some-Some c =
    let nets = c.args.nets.now in
    let left = placed_in nets c.args.device.now.left (Some c.in-Some-Some.p) c.in-Some-Some.ensures in
    let right = placed_in nets c.args.device.now.right (Some c.in-Some-Some.q) c.in-Some-Some.ensures' in (
      sym left.1 ∙ ap (λ p. get_or nets p 0) c.if-p-q.true ∙ right.1,
      subst (λ x. In x nets) left.1 (in_get_or nets c.in-Some-Some.p 0 left.0),
    )

pub returns-in-Some-Some-2 : goal.returns-in-Some-Some-2
returns-in-Some-Some-2 c =
    let left = placed_in c.args.nets.now c.args.device.now.left (Some c.in-Some-Some.p) c.in-Some-Some.ensures in
    let right = placed_in c.args.nets.now c.args.device.now.right (Some c.in-Some-Some.q) c.in-Some-Some.ensures' in
    (left.0, right.0, c.if-p-q.false, left.1, right.1)

pub returns-in-Some-None : goal.returns-in-Some-None
returns-in-Some-None c =
    let left = placed_in c.args.nets.now c.args.device.now.left (Some c.in-Some-None.p) c.in-Some-None.ensures in
    (left.0, inl (sym left.1, refl), placed_in c.args.nets.now c.args.device.now.right None (sym c.in-Some-None.is-1 ∙ c.place_in-2.ensures))

pub returns-in-None-Some : goal.returns-in-None-Some
returns-in-None-Some c =
    let right = placed_in c.args.nets.now c.args.device.now.right (Some c.in-None-Some.q) c.in-None-Some.ensures in
    (right.0, inr (refl, sym right.1), placed_in c.args.nets.now c.args.device.now.left None (sym c.in-None-Some.is-0 ∙ c.place_in.ensures))

pub returns-in-None-None : goal.returns-in-None-None
returns-in-None-None c = (
  placed_in c.args.nets.now c.args.device.now.left None (sym c.in-None-None.is-0 ∙ c.place_in.ensures),
  placed_in c.args.nets.now c.args.device.now.right None (sym c.in-None-None.is-1 ∙ c.place_in-2.ensures),
)

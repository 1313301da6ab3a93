use Rattle.std.proofs.Common.{eqb, sym, ◌∙◌, subst, inr, ⊎_elim}
use Rattle.std.proofs.lemmas.List.Elements.{contains_decides}
use Rattle.std.proofs.lemmas.Bool.Decides.{Decides-eqb}
use Rattle.cell.specs.Lists.{In}
use Rattle.text.proofs.Steps.{off_on}
use Rattle.cell.proofs.Members.{in_get_or, in_place}
use Rattle.order.proofs.labels.is_source.Goals as goal

pub returns-else-is_rail : goal.returns-else-is_rail
returns-else-is_rail c =
    let h = contains_decides eqb Decides-eqb c.args.ins.now c.args.net c.contains.result c.contains.ensures.cases in (
      (λ e. let k = h.0 e in inr (subst (λ v. In v c.args.ins.now) (k.2 0) (in_get_or c.args.ins.now k.0 0 k.1))),
      λ s. ⊎_elim (λ lo. off_on (sym c.if-is_rail.false ∙ c.is_rail.ensures.1 lo)) (λ m. h.1 (in_place c.args.net c.args.ins.now m)) s,
    )

use Rattle.std.proofs.Common.{eqb, vec_items, ◌∙◌, rules, tests}
use Rattle.std.proofs.lemmas.Iterator.{YieldsList-from_slice}
use Rattle.std.proofs.lemmas.Iterator.Search.{any_from_yields_List}
use Rattle.circuits.specs.declared.gates.LogicGate.{LogicGate}
use Rattle.circuits.proofs.Gating.{drives}
use Rattle.circuits.proofs.gates.Gates.drive.Goals as goal

pub returns : goal.returns
returns c =
    let gs = vec_items c.args.self.now.gates in
    any_from_yields_List (λ (g : LogicGate). eqb c.args.net g.output) _ _ _ c.any.ensures.ran (YieldsList-from_slice gs cc) (λ x b q k. search (rules, tests)) ∙ drives gs c.args.net

use Rattle.std.proofs.Common.{◌≡◌, Some, None, Err, sym, refl, ap, ◌∙◌, rules, tests}
use Rattle.std.specs.List.{list_all}
use Rattle.std.proofs.lemmas.Iterator.{YieldsList-from_slice}
use Rattle.std.proofs.lemmas.Iterator.Search.{all_from_yields_List}
use Rattle.text.specs.declared.fault.Reason.TheVariants.{OutputWithoutGate}
use Rattle.files.specs.Files.{driven, ungated, gated}
use Rattle.files.proofs.IntendedFacts.{driven_by, not_driven}
use Rattle.circuits.specs.Bodies.{gates_of}
use Rattle.circuits.proofs.Gating.{all_pass, one_fails}
use Rattle.circuits.proofs.gates.body.GatesBody.close.Goals as goal

pub returns-then-all-clause-found : goal.returns-then-all-clause-found
returns-then-all-clause-found c =
    let outs = c.args.outs.now in
    let gs = gates_of c.args.self.now in
    let all : c.all.result ≡ list_all (driven gs) outs = all_from_yields_List (driven gs) _ _ _ c.all.ensures.ran (YieldsList-from_slice outs cc) (λ x b q k. search (rules, tests)) in
    λ name. (None, gated (λ x h. driven_by gs x (all_pass (driven gs) outs (sym all ∙ c.if-all.true) x h)), refl)

pub returns-else-all-clause-found : goal.returns-else-all-clause-found
returns-else-all-clause-found c =
    let outs = c.args.outs.now in
    let gs = gates_of c.args.self.now in
    let all : c.all.result ≡ list_all (driven gs) outs = all_from_yields_List (driven gs) _ _ _ c.all.ensures.ran (YieldsList-from_slice outs cc) (λ x b q k. search (rules, tests)) in
    let x = one_fails (driven gs) outs (sym all ∙ c.if-all.false) in
    λ name. (Some OutputWithoutGate, ungated x.0 x.1 (λ e. not_driven gs x.0 x.2 e.0 e.1 e.2), ap Err c.fault.ensures)

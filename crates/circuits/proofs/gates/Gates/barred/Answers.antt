use Rattle.std.proofs.Common.{◌≡◌, not, Some, None, sym, ap, ◌∙◌, rules, tests}
use Rattle.std.specs.Bool.{then_some}
use Rattle.std.specs.List.{find}
use Rattle.std.specs.Option.{option_map}
use Rattle.std.proofs.lemmas.Iterator.{YieldsList-from_slice}
use Rattle.std.proofs.lemmas.Iterator.Search.{find_from_yields_List}
use Rattle.records.specs.declared.Net.{Net}
use Rattle.records.specs.Shown.{nets_shown}
use Rattle.files.specs.Files.{is_known, gate_barred}
use Rattle.circuits.specs.Bodies.{gates_of}
use Rattle.circuits.proofs.Gating.{place_of, barred_first}
use Rattle.circuits.proofs.gates.Gates.barred.Goals as goal

pub returns-in-Some : goal.returns-in-Some
returns-in-Some c =
    let ins = c.args.ins.now in
    let gs = gates_of c.args.self.now in
    let output = c.in_ok-output.output.now in
    let inputs = c.in_ok-output.inputs.now in
    let found = find_from_yields_List (λ (x : Net). not (is_known ins gs x.value)) _ _ c.find.result c.find.ensures.ran (YieldsList-from_slice inputs cc) (λ x b q k. search (rules, tests)) in
    let is : Some c.in-Some.input.now ≡ find (λ (x : Net). not (is_known ins gs x.value)) inputs = ap (option_map (λ x. x.now)) (sym c.in-Some.is) ∙ found in
    ap (place_of ins gs output) is ∙ sym (barred_first ins gs output inputs) ∙ ap (λ ns. gate_barred ins gs (nets_shown ns)) (sym c.in_ok-output.ensures.cases.0)

pub returns : goal.returns
returns c =
    let ins = c.args.ins.now in
    let gs = gates_of c.args.self.now in
    let output = c.in_ok-output.output.now in
    let inputs = c.in_ok-output.inputs.now in
    let found = find_from_yields_List (λ (x : Net). not (is_known ins gs x.value)) _ _ c.find.result c.find.ensures.ran (YieldsList-from_slice inputs cc) (λ x b q k. search (rules, tests)) in
    let is : None ≡ find (λ (x : Net). not (is_known ins gs x.value)) inputs = ap (option_map (λ x. x.now)) (sym c.in_default.is) ∙ found in
    c.then_some.ensures ∙ ap (λ b. then_some b output.field.place) c.know.ensures
    ∙ ap (place_of ins gs output) is ∙ sym (barred_first ins gs output inputs) ∙ ap (λ ns. gate_barred ins gs (nets_shown ns)) (sym c.in_ok-output.ensures.cases.0)

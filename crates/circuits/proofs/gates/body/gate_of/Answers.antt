use Rattle.std.proofs.Common.{◌≡◌, map, length, take, sym, ap, ◌∙◌, arith}
use Rattle.std.proofs.lemmas.List.{take_all}
use Rattle.records.specs.declared.Net.{Net}
use Rattle.records.specs.Records.{values}
use Rattle.records.specs.Shown.{nets_shown}
use Rattle.files.specs.Files.{gate_from}
use Rattle.circuits.proofs.Gating.{gate_made}
use Rattle.circuits.proofs.gates.body.gate_of.Goals as goal

pub returns : goal.returns
returns c =
    let kind = c.args.kind in
    let others = c.in-Some.others.now in
    let output = c.in-Some.output.now in
    let all : length others ≡ c.loop-i.i = omega arith in
    let inputs : take (length others) c.loop-i.inputs ≡ map (λ (x : Net). x.value) others =
    ap (λ n. take n c.loop-i.inputs) all ∙ c.loop-i.invariant.0 ∙ ap (map (λ (x : Net). x.value)) (take_all c.loop-i.i others c.loop-i-test.false) in
    ap (λ xs. record { kind = kind; inputs = xs; output = output.value }) inputs ∙ sym (gate_made kind others output) ∙ ap (λ ns. gate_from kind (values (nets_shown ns))) (sym c.in-Some.ensures.cases.0)

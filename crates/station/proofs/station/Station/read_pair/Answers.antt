use Rattle.std.proofs.Common.{◌≡◌, ℕ, Some, Ok, Err, Result, sym, refl, ap, ◌∙◌, subst, rules, tests}
use Rattle.std.specs.Result.{MatchResult, IsErrAnd}
use Rattle.std.proofs.lemmas.Result.{err_from_is_err_and}
use Rattle.text.specs.declared.fault.Fault.{Fault}
use Rattle.files.specs.Files.{drawn_format, intended_format}
use Rattle.circuits.specs.Bodies.{devices_of, gates_of}
use Rattle.station.specs.declared.report.Decline.{Decline}
use Rattle.station.specs.declared.report.Origin.{Origin}
use Rattle.station.specs.declared.report.Origin.TheVariants.{Drawn, Intended}
use Rattle.station.specs.declared.station.Summary.{Summary}
use Rattle.station.specs.Slots.{holds, ReadsInto}
use Rattle.station.specs.Stations.{Held, held, summed, PairRead, both, drawn_declined, intended_declined}
use Rattle.station.proofs.Answering.{current}
use Rattle.station.proofs.station.Station.read_pair.Goals as goal

-- what was read, from what a reading says with whose decline it is
declined : (origin : Origin) (r : Result ℕ Fault) (m : Result ℕ Decline) (Q : Fault → Decline → Type 0)
    → ((f : Fault) (d : Decline) → Q f d → d ≡ record { origin = origin; fault = f }) → MatchResult r (λ x. m ≡ Ok x) (λ e. IsErrAnd m (Q e))
    → (d : Decline) → m ≡ Err d → (f : Fault) × (r ≡ Err f) × (d ≡ record { origin = origin; fault = f })
declined origin (Ok x) m Q q h d e = cc
declined origin (Err f) (Ok x) Q q h d e = absurd h
declined origin (Err f) (Err b) Q q h d e = (f, refl, (cc) ∙ q f b h)

done : (r : Result ℕ Fault) (m : Result ℕ Decline) (Q : Fault → Decline → Type 0) → MatchResult r (λ x. m ≡ Ok x) (λ e. IsErrAnd m (Q e))
    → (n : ℕ) → m ≡ Ok n → r ≡ Ok n
done (Ok x) m Q h n e = cc
done (Err f) (Ok x) Q h n e = absurd h
done (Err f) (Err b) Q h n e = cc

pub returns-in_err-map_err : goal.returns-in_err-map_err
returns-in_err-map_err c =
    let before = held c.args.self.now in
    let s = c.read_drawn.new.self in
    let p = declined Drawn c.read_drawn.result c.map_err.result _ (λ f d q. search (rules, tests)) c.map_err.ensures.cases c.in_err-map_err.field-0.0 c.in_err-map_err.was in
    let e = subst (λ r. ReadsInto drawn_format c.args.drawn.now before.drawn r (held s).drawn) p.1 c.read_drawn.ensures.gives in
    let r = err_from_is_err_and c.from_residual.result c.from_residual.ensures.1 in
    let answer : c.from_residual.result ≡ Err (record { origin = Drawn; fault = p.0 }) = r.1 ∙ ap Err (r.2 ∙ p.2) in
    let after : before ≡ held s = λ i. record { drawn = sym e.1 i; intended = sym c.read_drawn.ensures.other i } in
    subst (λ (q : Result Summary Decline × Held). PairRead c.args.drawn.now c.args.intended.now before q.0 q.1) (λ i. (sym answer i, after i)) (drawn_declined p.0 e.0)

pub returns-in_err-map_err-2 : goal.returns-in_err-map_err-2
returns-in_err-map_err-2 c =
    let before = held c.args.self.now in
    let s = c.read_drawn.new.self in
    let t = c.read_intended.new.self in
    let n = done c.read_drawn.result c.map_err.result _ c.map_err.ensures.cases c.in_ok-map_err.field-0 c.in_ok-map_err.was in
    let d = subst (λ r. ReadsInto drawn_format c.args.drawn.now before.drawn r (held s).drawn) n c.read_drawn.ensures.gives in
    let p = declined Intended c.read_intended.result c.map_err-2.result _ (λ f d q. search (rules, tests)) c.map_err-2.ensures.cases c.in_err-map_err-2.field-0.0 c.in_err-map_err-2.was in
    let e = subst (λ r. ReadsInto intended_format c.args.intended.now (held s).intended r (held t).intended) p.1 c.read_intended.ensures.gives in
    let r = err_from_is_err_and c.from_residual-in_err-map_err-2.result c.from_residual-in_err-map_err-2.ensures.1 in
    let answer : c.from_residual-in_err-map_err-2.result ≡ Err (record { origin = Intended; fault = p.0 }) = r.1 ∙ ap Err (r.2 ∙ p.2) in
    let left : Held = record { drawn = Some d.0; intended = before.intended } in
    let after : left ≡ held t = λ i. record { drawn = sym (c.read_intended.ensures.other ∙ d.2) i; intended = sym (e.1 ∙ c.read_drawn.ensures.other) i } in
    subst (λ (q : Result Summary Decline × Held). PairRead c.args.drawn.now c.args.intended.now before q.0 q.1) (λ i. (sym answer i, after i)) (intended_declined d.0 p.0 d.1 e.0)

pub returns : goal.returns
returns c =
    let before = held c.args.self.now in
    let s = c.read_drawn.new.self in
    let t = c.read_intended.new.self in
    let n = done c.read_drawn.result c.map_err.result _ c.map_err.ensures.cases c.in_ok-map_err.field-0 c.in_ok-map_err.was in
    let d = subst (λ r. ReadsInto drawn_format c.args.drawn.now before.drawn r (held s).drawn) n c.read_drawn.ensures.gives in
    let m = done c.read_intended.result c.map_err-2.result _ c.map_err-2.ensures.cases c.in_ok-map_err-2.field-0 c.in_ok-map_err-2.was in
    let e = subst (λ r. ReadsInto intended_format c.args.intended.now (held s).intended r (held t).intended) m c.read_intended.ensures.gives in
    let drawn-is : holds devices_of t.drawn ≡ Some d.0 = c.read_intended.ensures.other ∙ d.2 in
    let given : Held = record { drawn = Some d.0; intended = Some e.0 } in
    let after : given ≡ held t = λ i. record { drawn = sym drawn-is i; intended = sym e.2 i } in
    let answer : summed d.0 e.0 ≡ c.summary.result = sym (c.summary.ensures ∙ (λ i. summed (current devices_of t.drawn d.0 drawn-is i) (current gates_of t.intended e.0 e.2 i))) in
    subst (λ (q : Summary × Held). PairRead c.args.drawn.now c.args.intended.now before (Ok q.0) q.1) (λ i. (answer i, after i)) (both d.0 e.0 d.1 e.1)

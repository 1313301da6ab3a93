-- The nets of a record, field by field. Assumes nothing.
use Rattle.std.proofs.Common.{◌≡◌, ℕ, List, [], ◌∷◌, length, IfOk, Ok, Err, Result, sym, refl, ap, ◌∙◌, subst, arith}
use Rattle.std.specs.Option.{ok_or}
use Rattle.std.proofs.lemmas.Bool.{cond-false, ne_eqb}
use Rattle.cell.specs.declared.DeviceKind.{DeviceKind}
use Rattle.text.specs.declared.fault.Fault.{Fault}
use Rattle.text.specs.declared.fault.Reason.TheVariants.{FieldCount}
use Rattle.text.specs.Faults.{fault}
use Rattle.text.specs.Outcomes.{and_then, map_ok}
use Rattle.text.specs.Lines.{Part, only_three}
use Rattle.text.proofs.Steps.{map_ok_lem, yes_ok}
use Rattle.records.specs.Formats.{Format, NetAt}
use Rattle.records.specs.Kinds.{device_takes}
use Rattle.records.specs.Records.{net_at, nets_at, nets_counted, Proper}
use Rattle.records.proofs.Spelling.{nets_at_lem}

-- three fields as nets, one after another
abbrev pub three_nets : ℕ → DeviceKind → Part × Part × Part → Result (DeviceKind × List NetAt) Fault
three_nets n k t = and_then (net_at n t.0) (λ a. and_then (net_at n t.1) (λ b. map_ok (λ c. (k, a ∷ b ∷ c ∷ [])) (net_at n t.2)))

abbrev pub three : ℕ → ℕ → DeviceKind → List Part → Result (DeviceKind × List NetAt) Fault
three n p k fs = and_then (ok_or (only_three fs) (fault FieldCount n p)) (three_nets n k)

steps : (k : DeviceKind) (x y z : Result NetAt Fault)
    → and_then {Y = DeviceKind × List NetAt} x (λ a. and_then {Y = DeviceKind × List NetAt} y (λ b. map_ok {Y = DeviceKind × List NetAt} (λ c. (k, a ∷ b ∷ c ∷ [])) z))
    ≡ map_ok (λ xs. (k, xs)) (and_then x (λ a. map_ok (λ xs. a ∷ xs) (and_then y (λ b. map_ok (λ xs. b ∷ xs) (and_then z (λ c. map_ok (λ xs. c ∷ xs) (Ok [])))))))
steps k (Err e) y z = refl
steps k (Ok a) (Err e) z = refl
steps k (Ok a) (Ok b) (Err e) = refl
steps k (Ok a) (Ok b) (Ok c) = refl

pub three_counted : (n p : ℕ) (k : DeviceKind) (fs : List Part) → three n p k fs ≡ map_ok (λ xs. (k, xs)) (nets_counted (device_takes k) n p fs)
three_counted n p k [] = refl
three_counted n p k (a ∷ []) = refl
three_counted n p k (a ∷ b ∷ []) = refl
three_counted n p k (a ∷ b ∷ c ∷ []) = steps k (net_at n a) (net_at n b) (net_at n c)
three_counted n p k (a ∷ b ∷ c ∷ d ∷ r) =
    sym (ap (map_ok (λ xs. (k, xs))) (cond-false _ (nets_at n (a ∷ b ∷ c ∷ d ∷ r)) (Err (fault FieldCount n p)) (ne_eqb (length (a ∷ b ∷ c ∷ d ∷ r)) 3 (λ e. omega arith))))

-- a record that is read lists as many nets as its kind takes, each a net number

pub shown_proper : {R K I : Type 0} (f : Format K I) (shown : R → K × List NetAt) (k : K) (n p : ℕ) (fs : List Part) (r : Result R Fault)
    → map_ok shown r ≡ map_ok (λ xs. (k, xs)) (nets_counted (f.takes k) n p fs) → IfOk r (λ x. Proper f (shown x))
shown_proper f shown k n p fs (Err e) h = tt
shown_proper {K = K} f shown k n p fs (Ok x) h =
    let m = map_ok_lem {Y = K × List NetAt} (λ xs. (k, xs)) (nets_counted (f.takes k) n p fs) (shown x) (sym h) in
    let y = yes_ok (f.takes k (length fs)) (nets_at n fs) (fault FieldCount n p) m.0 m.1 in
    let nets = nets_at_lem n fs m.0 y.1 in
    subst (Proper f) m.2 (record { takes = ap (f.takes k) (sym nets.1) ∙ y.0; numbers = nets.0.numbers })

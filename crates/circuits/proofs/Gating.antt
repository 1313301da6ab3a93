-- Gates gone through one by one, and the nets of a gate. Assumes nothing.
use Rattle.std.proofs.Common.{◌≡◌, ℕ, ◌-◌, Bool, true, false, cond, not, ◌&&◌, ◌||◌, eqb, List, [], ◌∷◌, ◌++◌, map, length, take, get_or, Some, None, Option, sym, refl, ap, ◌∙◌, subst, inl, inr, arith, length-append}
use Rattle.std.specs.Bool.{then_some}
use Rattle.std.specs.List.{list_any, list_all, find}
use Rattle.std.proofs.Math.Seq.{take-append_seam, get_or-append_seam}
use Rattle.std.proofs.lemmas.Bool.{and_parts}
use Rattle.cell.specs.declared.GateKind.{GateKind}
use Rattle.cell.specs.Circuits.{Gate}
use Rattle.cell.specs.Lists.{In}
use Rattle.records.specs.declared.Net.{Net}
use Rattle.records.specs.Records.{values}
use Rattle.records.specs.Shown.{nets_shown}
use Rattle.files.specs.Files.{gate_from, driven, is_known, gate_barred}
use Rattle.circuits.specs.declared.gates.LogicGate.{LogicGate}
use Rattle.circuits.specs.Bodies.{gate_held}

-- whether a gate drives a net
pub drives : (gs : List LogicGate) (net : ℕ) → list_any (λ (g : LogicGate). eqb net g.output) gs ≡ driven (map gate_held gs) net
drives [] net = refl
drives (g ∷ gs) net = ap (λ t. eqb net g.output || t) (drives gs net)

-- the nets of a list all pass a test, or one fails it
pub all_pass : (test : ℕ → Bool) (xs : List ℕ) → list_all test xs ≡ true → (x : ℕ) → In x xs → test x ≡ true
all_pass test [] h x i = absurd i
all_pass test (y ∷ ys) h x (inl e) = subst (λ z. test z ≡ true) (sym e) (and_parts (test y) (list_all test ys) h).0
all_pass test (y ∷ ys) h x (inr i) = all_pass test ys (and_parts (test y) (list_all test ys) h).1 x i

fails : (test : ℕ → Bool) (y : ℕ) (ys : List ℕ) (b : Bool) → test y ≡ b → (b && list_all test ys) ≡ false
    → (list_all test ys ≡ false → (x : ℕ) × In x ys × (test x ≡ false)) → (x : ℕ) × In x (y ∷ ys) × (test x ≡ false)
fails test y ys false e h later = (y, inl refl, e)
fails test y ys true e h later = let r = later h in (r.0, inr r.1, r.2)

pub one_fails : (test : ℕ → Bool) (xs : List ℕ) → list_all test xs ≡ false → (x : ℕ) × In x xs × (test x ≡ false)
one_fails test [] h = cc
one_fails test (y ∷ ys) h = fails test y ys (test y) refl h (one_fails test ys)

-- the first input that is not known, or else an output that is
last : (b : Bool) (place : ℕ) → cond b (Some place) None ≡ then_some b place
last true place = refl
last false place = refl

module _ (ins : List ℕ) (es : List Gate) (y : Net) where
  abbrev known : Net → Bool
  known x = is_known ins es x.value

  abbrev pub place_of : Option Net → Option ℕ
  place_of (Some x) = Some x.field.place
  place_of None = then_some (known y) y.field.place

  step : (b : Bool) (x : Net) (r : Option Net) (q : Option ℕ) → q ≡ place_of r → cond b q (Some x.field.place) ≡ place_of (cond (not b) (Some x) r)
  step true x r q e = e
  step false x r q e = refl

  pub barred_first : (xs : List Net) → gate_barred ins es (nets_shown (xs ++ y ∷ [])) ≡ place_of (find (λ x. not (known x)) xs)
  barred_first [] = last (known y) y.field.place
  barred_first (x ∷ []) = step (known x) x None _ (last (known y) y.field.place)
  barred_first (x ∷ z ∷ xs) = step (known x) x (find (λ w. not (known w)) (z ∷ xs)) _ (barred_first (z ∷ xs))

-- the gate of its inputs and its output
numbers : (xs : List Net) (y : Net) → values (nets_shown (xs ++ y ∷ [])) ≡ map (λ (x : Net). x.value) xs ++ y.value ∷ []
numbers [] y = refl
numbers (x ∷ xs) y = ap (λ vs. x.value ∷ vs) (numbers xs y)

pub gate_made : (k : GateKind) (xs : List Net) (y : Net)
    → gate_from k (values (nets_shown (xs ++ y ∷ []))) ≡ record { kind = k; inputs = map (λ (x : Net). x.value) xs; output = y.value }
gate_made k xs y =
    let vs = map (λ (x : Net). x.value) xs in
    let end : length (vs ++ y.value ∷ []) - 1 ≡ length vs = omega (arith, length-append vs (y.value ∷ [])) in
    ap (gate_from k) (numbers xs y)
    ∙ (λ i. record {
      kind = k;
      inputs = (ap (λ n. take n (vs ++ y.value ∷ [])) end ∙ take-append_seam vs (y.value ∷ [])) i;
      output = (ap (λ n. get_or (vs ++ y.value ∷ []) n 0) end ∙ get_or-append_seam vs y.value [] 0) i;
    })

-- The facts of the intended file's format. Assumes nothing.
use Rattle.std.proofs.Common.{◌≡◌, ℕ, ◌+◌, ◌-◌, ◌≤◌, true, false, ◌&&◌, ◌||◌, eqb, leb, List, [], ◌∷◌, ◌++◌, length, get_or, take, Some, None, Option, sym, refl, ap, ◌∙◌, subst, inl, inr, ⊎_elim, arith, length-append}
use lib.ListN.{length-map}
use lib.Seq.{take-append_seam, get_or-append_seam}
use Rattle.std.proofs.lemmas.List.{take_more, take_all}
use Rattle.std.proofs.lemmas.Bool.{eqb-true, eqb-false, leb-true, le-leb, ltb-true, ltb-false, and_parts, and_from, or_parts, or_cases, cases_Bool, cond-true, cond-false}
use Rattle.cell.specs.declared.GateKind.{GateKind}
use Rattle.cell.specs.declared.GateKind.TheVariants.{Not, Buf, And, Or, Nand, Nor, Xor, Xnor}
use Rattle.cell.specs.Lists.{In, Every}
use Rattle.cell.specs.Circuits.{Gate, Intended, gate_nets, Numbered}
use Rattle.text.specs.declared.fault.Reason.{Reason}
use Rattle.text.specs.Lines.{field_formed}
use Rattle.text.proofs.Steps.{off_on, yes_none, no_none}
use Rattle.records.specs.Formats.{NetAt}
use Rattle.records.specs.declared.Word.TheVariants.{Item}
use Rattle.records.specs.Records.{word_of, values}
use Rattle.files.specs.Reading.{member, rail}
use Rattle.records.specs.Kinds.{gate_word, arity}
use Rattle.cell.specs.Gates.{Known}
use Rattle.files.specs.Files.{gate_from, GateRule, driven, is_known, gate_barred, IntendedAtEnd, ungated, gated, intended_format}
use Rattle.files.proofs.Facts.{FormatFacts}
use Rattle.files.proofs.Members.{absent, present}

word_found : (k : GateKind) → word_of intended_format (gate_word k) ≡ Some (Item k)
word_found Not = refl
word_found Buf = refl
word_found And = refl
word_found Or = refl
word_found Nand = refl
word_found Nor = refl
word_found Xor = refl
word_found Xnor = refl

word_formed : (k : GateKind) → field_formed (gate_word k) ≡ true
word_formed Not = refl
word_formed Buf = refl
word_formed And = refl
word_formed Or = refl
word_formed Nand = refl
word_formed Nor = refl
word_formed Xor = refl
word_formed Xnor = refl

word_short : (k : GateKind) → length (gate_word k) ≤ 4
word_short Not = omega arith
word_short Buf = omega arith
word_short And = omega arith
word_short Or = omega arith
word_short Nand = omega arith
word_short Nor = omega arith
word_short Xor = omega arith
word_short Xnor = omega arith

up_to_eight : (m : ℕ) → (leb 2 m && leb m 8) ≡ true → m ≤ 8
up_to_eight m h = leb-true m 8 (and_parts (leb 2 m) (leb m 8) h).1

few_inputs : (k : GateKind) (m : ℕ) → arity k m ≡ true → m ≤ 8
few_inputs Not m h = omega (arith, eqb-true m 1 h)
few_inputs Buf m h = omega (arith, eqb-true m 1 h)
few_inputs And m h = up_to_eight m h
few_inputs Or m h = up_to_eight m h
few_inputs Nand m h = up_to_eight m h
few_inputs Nor m h = up_to_eight m h
few_inputs Xor m h = omega (arith, eqb-true m 2 h)
few_inputs Xnor m h = omega (arith, eqb-true m 2 h)

few_nets : (k : GateKind) (m : ℕ) → (leb 1 m && arity k (m - 1)) ≡ true → m ≤ 9
few_nets k m h = omega (arith, few_inputs k (m - 1) (and_parts (leb 1 m) (arity k (m - 1)) h).1)

-- a gate and its nets

before_last : (xs : List ℕ) (x : ℕ) → length (xs ++ x ∷ []) - 1 ≡ length xs
before_last xs x = omega (arith, length-append xs (x ∷ []))

gate_back : (g : Gate) → gate_from g.kind (gate_nets g) ≡ g
gate_back g =
    let xs = g.inputs in
    let x = g.output in
    let n = before_last xs x in
    let front : take (length (xs ++ x ∷ []) - 1) (xs ++ x ∷ []) ≡ xs = ap (λ m. take m (xs ++ x ∷ [])) n ∙ take-append_seam xs (x ∷ []) in
    let last : get_or (xs ++ x ∷ []) (length (xs ++ x ∷ []) - 1) 0 ≡ x = ap (λ m. get_or (xs ++ x ∷ []) m 0) n ∙ get_or-append_seam xs x [] 0 in
    λ i. record { kind = g.kind; inputs = front i; output = last i }

gate_nets_lem : (k : GateKind) (xs : List ℕ) → 1 ≤ length xs → gate_nets (gate_from k xs) ≡ xs
gate_nets_lem k xs h =
    let n : length xs - 1 + 1 ≡ length xs = omega arith in
    sym (take_more xs (length xs - 1) 0 (omega arith)) ∙ ap (λ m. take m xs) n ∙ take_all (length xs) xs (omega arith)

-- the test of what is known

pub driven_by : (earlier : List Gate) (x : ℕ) → driven earlier x ≡ true → (e : Gate) × In e earlier × (x ≡ e.output)
driven_by [] x h = off_on h
driven_by (e ∷ es) x h =
    ⊎_elim
    (λ a. (e, inl refl, eqb-true x e.output a))
    (λ a. let d = driven_by es x a in (d.0, inr d.1, d.2))
    (or_cases (eqb x e.output) (driven es x) h)

pub not_driven : (earlier : List Gate) (x : ℕ) → driven earlier x ≡ false → (d : Gate) → In d earlier → ¬ (x ≡ d.output)
not_driven [] x h d i = absurd i
not_driven (e ∷ es) x h d i =
    let p = or_parts (eqb x e.output) (driven es x) h in
    ⊎_elim (λ same o. eqb-false x e.output p.0 (o ∙ ap (λ (g : Gate). g.output) same)) (not_driven es x p.1 d) i

module _ (ins : List ℕ) (earlier : List Gate) where
  known : (x : ℕ) → is_known ins earlier x ≡ true → Known ins earlier x
  known x h =
      ⊎_elim
      (λ a. ⊎_elim (λ r. inl (ltb-true x 2 r)) (λ m. inr (inl (present x ins m))) (or_cases (rail x) (member x ins) a))
      (λ d. inr (inr (driven_by earlier x d)))
      (or_cases (rail x || member x ins) (driven earlier x) h)

  unknown : (x : ℕ) → is_known ins earlier x ≡ false → ¬ (Known ins earlier x)
  unknown x h =
      let p = or_parts (rail x || member x ins) (driven earlier x) h in
      let q = or_parts (rail x) (member x ins) p.0 in
      let high = ltb-false x 2 q.0 in
      ⊎_elim (λ l. omega arith) (⊎_elim (absent x ins q.1) (λ d. not_driven earlier x p.1 d.0 d.1 d.2))

  is_known_lem : (x : ℕ) → Known ins earlier x → is_known ins earlier x ≡ true
  is_known_lem x k = ⊎_elim (λ t. t) (λ t. absurd (unknown x t k)) (cases_Bool (is_known ins earlier x))

  is_unknown : (x : ℕ) → ¬ (Known ins earlier x) → is_known ins earlier x ≡ false
  is_unknown x n = ⊎_elim (λ t. absurd (n (known x t))) (λ t. t) (cases_Bool (is_known ins earlier x))

  -- nets of which none is barred
  record Allowed (xs : List ℕ) : Type 0 where
    inputs : List ℕ
    output : ℕ
    nets : xs ≡ inputs ++ output ∷ []
    knows : Every (Known ins earlier) inputs
    new : ¬ (Known ins earlier output)

  none_barred : (xs : List NetAt) → 1 ≤ length xs → gate_barred ins earlier xs ≡ None → Allowed (values xs)
  none_barred [] l h = absurd (omega arith)
  none_barred (x ∷ []) l h =
      let p = no_none (is_known ins earlier x.value) None x.place h in
      record { inputs = []; output = x.value; nets = refl; knows = tt; new = unknown x.value p.0 }
  none_barred (x ∷ y ∷ ys) l h =
      let p = yes_none (is_known ins earlier x.value) (gate_barred ins earlier (y ∷ ys)) x.place h in
      let more = none_barred (y ∷ ys) (omega arith) p.1 in
      record { inputs = x.value ∷ more.inputs; output = more.output; nets = ap (λ r. x.value ∷ r) more.nets; knows = (known x.value p.0, more.knows); new = more.new }

  not_barred : (xs : List NetAt) (inputs : List ℕ) (output : ℕ) → values xs ≡ inputs ++ output ∷ [] → Every (Known ins earlier) inputs → ¬ (Known ins earlier output) → gate_barred ins earlier xs ≡ None
  not_barred [] [] output e k n = refl
  not_barred [] (a ∷ more) output e k n = refl
  not_barred (x ∷ []) [] output e k n =
      let same : x.value ≡ output = cc in
      cond-false (is_known ins earlier x.value) (Some x.place) None (ap (is_known ins earlier) same ∙ is_unknown output n)
  not_barred (x ∷ []) (a ∷ more) output e k n = let z : 1 ≡ length (a ∷ (more ++ output ∷ [])) = ap length e in absurd (omega (arith, length-append more (output ∷ [])))
  not_barred (x ∷ y ∷ ys) [] output e k n = let z : length (values (x ∷ y ∷ ys)) ≡ 1 = ap length e in absurd (omega arith)
  not_barred (x ∷ y ∷ ys) (a ∷ more) output e k n =
      let same : x.value ≡ a = cc in
      let rest : values (y ∷ ys) ≡ more ++ output ∷ [] = cc in
      cond-true (is_known ins earlier x.value) (gate_barred ins earlier (y ∷ ys)) (Some x.place) (ap (is_known ins earlier) same ∙ is_known_lem a k.0)
      ∙ not_barred (y ∷ ys) more output rest k.1 n

  gate_ruled : (k : GateKind) (xs : List NetAt) → (leb 1 (length xs) && arity k (length xs - 1)) ≡ true → Numbered (values xs) → gate_barred ins earlier xs ≡ None → GateRule ins earlier (gate_from k (values xs))
  gate_ruled k xs t h b =
      let p = and_parts (leb 1 (length xs)) (arity k (length xs - 1)) t in
      let a = none_barred xs (leb-true 1 (length xs) p.0) b in
      let g : Gate = record { kind = k; inputs = a.inputs; output = a.output } in
      let is : gate_from k (values xs) ≡ g = ap (gate_from k) a.nets ∙ gate_back g in
      let many : length xs - 1 ≡ length a.inputs = ap (λ n. n - 1) (sym (length-map xs (λ x. x.value)) ∙ ap length a.nets) ∙ before_last a.inputs a.output in
      subst (GateRule ins earlier) (sym is) (record { arity = ap (arity k) (sym many) ∙ p.1; numbers = subst Numbered a.nets h; inputs = a.knows; output = a.new })

  gate_takes_lem : (g : Gate) → GateRule ins earlier g → (leb 1 (length (gate_nets g)) && arity g.kind (length (gate_nets g) - 1)) ≡ true
  gate_takes_lem g r =
      let l : 1 ≤ length (gate_nets g) = omega (arith, length-append g.inputs (g.output ∷ [])) in
      and_from _ _ (le-leb 1 (length (gate_nets g)) l) (ap (arity g.kind) (before_last g.inputs g.output) ∙ r.arity)

found_once : (g : Intended) (a b : Option Reason) → IntendedAtEnd g a → IntendedAtEnd g b → a ≡ b
found_once g a b (ungated x i n) (ungated y j m) = refl
found_once g a b (ungated x i n) (gated h) = absurd (n (h x i))
found_once g a b (gated h) (ungated x i n) = absurd (n (h x i))
found_once g a b (gated h) (gated k) = refl

pub intended_facts : FormatFacts intended_format
intended_facts = record {
  found = word_found;
  field = word_formed;
  short = word_short;
  back = gate_back;
  kind_of = λ k xs h. refl;
  nets_of_lem = λ k xs h. gate_nets_lem k xs (leb-true 1 (length xs) (and_parts (leb 1 (length xs)) (arity k (length xs - 1)) h).0);
  most = omega arith;
  nine = few_nets;
  ruled = gate_ruled;
  takes = gate_takes_lem;
  numbered = λ ins items g r. r.numbers;
  allowed = λ ins items g r xs e. not_barred ins items xs g.inputs g.output e r.inputs r.output;
  once = found_once;
}

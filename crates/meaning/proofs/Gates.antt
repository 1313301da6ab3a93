-- Where each gate stands after those that it reads, every setting has bits, and the gates allow no others. Assumes nothing.
use Rattle.std.proofs.Common.{◌≡◌, ℕ, ◌<◌, Bool, cond, eqb, ◌≢◌, ◌⊎◌, List, [], ◌∷◌, ◌++◌, map, get_or, sym, refl, ap, ◌∙◌, subst, inl, inr, ⊎_elim, append_assoc, append-nil, arith}
use Rattle.std.proofs.lemmas.Bool.{eq-eqb, ne_eqb, cond-true, cond-false}
use Rattle.cell.specs.Lists.{In, Every, Along}
use Rattle.cell.specs.Circuits.{Gate}
use Rattle.cell.specs.Gates.{kind_bit, Known, InTurn}
use Rattle.cell.specs.Laws.{HasBits, OneBit}
use Rattle.cell.proofs.Members.{in_get_or, in_before, in_end, in_push}
use Rattle.meaning.proofs.Sources.{source_bit, source_is, source_at}

-- the bit that the inputs of a gate ask for, and that its output has it
abbrev asked : (ℕ → Bool) → Gate → Bool
asked β e = kind_bit e.kind (map β e.inputs)

abbrev Obeys : (ℕ → Bool) → Gate → Type 0
Obeys β e = β e.output ≡ asked β e

-- the output of a gate set to that bit, the other nets left
abbrev passed : (ℕ → Bool) → Gate → ℕ → Bool
passed β e x = cond (eqb x e.output) (asked β e) (β x)

passed_output : (β : ℕ → Bool) (e : Gate) → passed β e e.output ≡ asked β e
passed_output β e = cond-true (eqb e.output e.output) (asked β e) (β e.output) (eq-eqb e.output e.output refl)

passed_other : (β : ℕ → Bool) (e : Gate) (x : ℕ) → x ≢ e.output → passed β e x ≡ β x
passed_other β e x n = cond-false (eqb x e.output) (asked β e) (β x) (ne_eqb x e.output n)

-- the gates passed in their order
abbrev passed_all : (ℕ → Bool) → List Gate → ℕ → Bool
passed_all β [] = β
passed_all β (e ∷ es) = passed_all (passed β e) es

module _ (ins : List ℕ) where
  -- what is known with one more gate
  known_more : (earlier : List Gate) (e : Gate) (x : ℕ) → Known ins earlier x → Known ins (earlier ++ e ∷ []) x
  known_more earlier e x (inl h) = inl h
  known_more earlier e x (inr (inl h)) = inr (inl h)
  known_more earlier e x (inr (inr k)) = inr (inr (k.0, in_before k.0 earlier e k.1, k.2))

  known_parts : (earlier : List Gate) (e : Gate) (x : ℕ) → Known ins (earlier ++ e ∷ []) x → Known ins earlier x ⊎ (x ≡ e.output)
  known_parts earlier e x (inl h) = inl (inl h)
  known_parts earlier e x (inr (inl h)) = inl (inr (inl h))
  known_parts earlier e x (inr (inr k)) =
      ⊎_elim (λ h. inl (inr (inr (k.0, h, k.2)))) (λ p. inr (k.2 ∙ ap (λ (v : Gate). v.output) p)) (in_push k.0 earlier e k.1)

  -- the bits agree on what is known after these gates
  abbrev Agree : (β γ : ℕ → Bool) → List Gate → Type 0
  Agree β γ earlier = (x : ℕ) → Known ins earlier x → β x ≡ γ x

  same_inputs : (β γ : ℕ → Bool) (earlier : List Gate) (xs : List ℕ) → Agree β γ earlier → Every (Known ins earlier) xs
      → map β xs ≡ map γ xs
  same_inputs β γ earlier [] ag e = refl
  same_inputs β γ earlier (x ∷ xs) ag e = λ i. ag x e.0 i ∷ same_inputs β γ earlier xs ag e.1 i

  agree_on : (β γ : ℕ → Bool) (earlier es : List Gate) → Along (InTurn ins) earlier es → Agree β γ earlier
      → ((e : Gate) → In e es → Obeys β e) → ((e : Gate) → In e es → Obeys γ e) → Agree β γ (earlier ++ es)
  agree_on β γ earlier [] a ag B C = subst (Agree β γ) (sym (append-nil earlier)) ag
  agree_on β γ earlier (e ∷ es) a ag B C =
      subst (Agree β γ) (append_assoc earlier (e ∷ []) es)
      (agree_on β γ (earlier ++ e ∷ []) es a.1 grown (λ f h. B f (inr h)) (λ f h. C f (inr h)))
    where
      output_same : β e.output ≡ γ e.output
      output_same = B e (inl refl) ∙ ap (kind_bit e.kind) (same_inputs β γ earlier e.inputs ag a.0.inputs) ∙ sym (C e (inl refl))

      grown : Agree β γ (earlier ++ e ∷ [])
      grown x k = ⊎_elim (ag x) (λ p. subst (λ v. β v ≡ γ v) (sym p) output_same) (known_parts earlier e x k)

  -- gates leave what is known before them
  passed_keeps : (earlier es : List Gate) → Along (InTurn ins) earlier es → (β : ℕ → Bool) → Agree (passed_all β es) β earlier
  passed_keeps earlier [] a β x k = refl
  passed_keeps earlier (e ∷ es) a β x k =
      passed_keeps (earlier ++ e ∷ []) es a.1 (passed β e) x (known_more earlier e x k)
      ∙ passed_other β e x (λ p. a.0.output (subst (Known ins earlier) p k))

  passed_obeys : (earlier es : List Gate) → Along (InTurn ins) earlier es → (β : ℕ → Bool) (e : Gate) → In e es → Obeys (passed_all β es) e
  passed_obeys earlier [] a β e h = absurd h
  passed_obeys earlier (d ∷ es) a β e (inl p) = subst (Obeys (passed_all β (d ∷ es))) (sym p) (
      passed_keeps (earlier ++ d ∷ []) es a.1 (passed β d) d.output (inr (inr (d, in_end earlier d, refl)))
      ∙ passed_output β d
      ∙ ap (kind_bit d.kind) (sym (same_inputs (passed_all β (d ∷ es)) β earlier d.inputs (passed_keeps earlier (d ∷ es) a β) a.0.inputs))
      )
  passed_obeys earlier (d ∷ es) a β e (inr h) = passed_obeys (earlier ++ d ∷ []) es a.1 (passed β d) e h

pub one_bit : OneBit
one_bit g o s β γ B C = agree_on g.ins β γ [] g.body o start B.gate C.gate
  where
    source_same : (x : ℕ) → (x < 2) ⊎ In x g.ins → β x ≡ γ x
    source_same x h =
        source_is β (λ b. b) g.ins s B.ground B.supply B.input x h
        ∙ sym (source_is γ (λ b. b) g.ins s C.ground C.supply C.input x h)

    start : Agree g.ins β γ []
    start x (inl h) = source_same x (inl h)
    start x (inr (inl h)) = source_same x (inr h)
    start x (inr (inr k)) = absurd k.1

pub has_bits : HasBits
has_bits g p o s = (
  passed_all (source_bit g.ins s) g.body,
  record {
    ground = keeps 0 (inl (omega arith));
    supply = keeps 1 (inl (omega arith));
    input = λ i h. keeps (get_or g.ins i 0) (inr (inl (in_get_or g.ins i 0 h))) ∙ source_at g.ins p s i h;
    gate = passed_obeys g.ins [] g.body o (source_bit g.ins s);
  },
)
  where
    keeps : Agree g.ins (passed_all (source_bit g.ins s) g.body) (source_bit g.ins s) []
    keeps = passed_keeps g.ins [] g.body o (source_bit g.ins s)

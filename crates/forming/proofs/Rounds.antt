-- The states of all nets, formed component by component in an order of evaluation. Assumes nothing.
use Rattle.std.proofs.Common.{◌≡◌, ℕ, ◌<◌, ◌≤◌, Bool, true, false, ◌⊎◌, ◌↔◌, List, [], ◌∷◌, ◌++◌, get_or, sym, refl, ap, ◌∙◌, subst, inl, inr, ⊎_elim, arith}
use Rattle.std.proofs.lemmas.List.{append-nil, append_assoc, flat_map_more}
use Rattle.std.proofs.lemmas.Bool.{cases_lt}
use Rattle.cell.specs.declared.Device.{Device}
use Rattle.cell.specs.declared.State.{State}
use Rattle.cell.specs.Lists.{In, Every, Distinct, Along}
use Rattle.cell.specs.Circuits.{Drawn}
use Rattle.cell.specs.Waiting.{Source, Inner, Links, Component, Touches, Waits, nets_of, EvaluationOrder}
use Rattle.cell.specs.Waiting.Linked.{self}
use Rattle.cell.specs.States.{MayBe, Path, Rule, States, unknown, Sourced}
use Rattle.cell.specs.States.Path.{last, step}
use Rattle.cell.proofs.Members.{in_get_or}
use Rattle.meaning.proofs.Paths.{is_source_lem}
use Rattle.meaning.proofs.Unique.{rule_same}
use Rattle.cell.proofs.Members.{in_left, in_right, in_parts}
use Rattle.order.proofs.Linking.{Low, last_inner, end_low}
use Rattle.forming.specs.Components.{Ruled}

nets_push : (es : List (List ℕ)) (ks : List ℕ) → nets_of (es ++ ks ∷ []) ≡ nets_of es ++ ks
nets_push es ks = sym (flat_map_more (λ (v : List ℕ). v) [] es ks)

-- one component more on the other side of a cut leaves the nets as they are
nets_moved : (es : List (List ℕ)) (ks : List ℕ) (rest : List (List ℕ)) → nets_of es ++ nets_of (ks ∷ rest) ≡ nets_of (es ++ ks ∷ []) ++ nets_of rest
nets_moved es ks rest = sym (append_assoc (nets_of es) ks (nets_of rest)) ∙ ap (λ v. v ++ nets_of rest) (sym (nets_push es ks))

apart : (xs ys : List ℕ) (x : ℕ) → Distinct (xs ++ ys) → In x xs → ¬ (In x ys)
apart [] ys x d h k = h
apart (z ∷ xs) ys x d (inl e) k = d.0 (subst (λ v. In v (xs ++ ys)) e (in_right x xs ys k))
apart (z ∷ xs) ys x d (inr h) k = apart xs ys x d.1 h k

module _ (c : Drawn) where
  -- An order of evaluation is cut into the components that are done and those that are left.
  pub record Cut (done left : List (List ℕ)) : Type 0 where
    pub components : Every (Component c) left
    pub all : (x : ℕ) → Inner c x → x ≤ 127 → In x (nets_of done ++ nets_of left)
    pub once : Distinct (nets_of done ++ nets_of left)
    pub closed : (x y : ℕ) → In x (nets_of done) → Waits c x y → In y (nets_of done)
    pub waits : Along (λ earlier ks. (x y : ℕ) → In x ks → Waits c x y → In y (nets_of earlier)) done left

  -- The components that are done are formed: sources have their values under setting s, and their nets follow the rule.
  pub record Formed (s : ℕ) (σ : ℕ → State Bool) (done : List (List ℕ)) : Type 0 where
    pub sourced : Sourced c.ins s σ
    pub inner : (x : ℕ) → In x (nets_of done) → (b : Bool) → MayBe b (σ x) ↔ Rule c σ b x

  pub cut_start : (order : List (List ℕ)) → EvaluationOrder c order → Cut [] order
  cut_start order o = record { components = o.components; all = o.all; once = o.once; closed = λ x y h w. absurd h; waits = o.waits }

  -- none of the components up to the next one waits for one that is not done
  waits_done : (done : List (List ℕ)) (ks : List ℕ) (rest : List (List ℕ)) → Cut done (ks ∷ rest)
      → (x y : ℕ) → In x (nets_of done ++ ks) → Waits c x y → In y (nets_of done)
  waits_done done ks rest cut x y h w = ⊎_elim (λ k. cut.closed x y k w) (λ k. cut.waits.0 x y k w) (in_parts x (nets_of done) ks h)

  pub cut_next : (done : List (List ℕ)) (ks : List ℕ) (rest : List (List ℕ)) → Cut done (ks ∷ rest) → Cut (done ++ ks ∷ []) rest
  cut_next done ks rest cut = record {
    components = cut.components.1;
    all = λ x i low. subst (In x) (nets_moved done ks rest) (cut.all x i low);
    once = subst Distinct (nets_moved done ks rest) cut.once;
    closed = λ x y h w. subst (In y) (sym (nets_push done ks)) (in_left y (nets_of done) ks (waits_done done ks rest cut x y (subst (In x) (nets_push done ks) h) w));
    waits = cut.waits.1;
  }

  -- the next component gets its states by the rule
  module _ (s : ℕ) (σ τ : ℕ → State Bool) (done : List (List ℕ)) (ks : List ℕ) (rest : List (List ℕ))
      (cut : Cut done (ks ∷ rest)) (ruled : Ruled c ks σ τ) (formed : Formed s σ done) where
    source_kept : (y : ℕ) → Source c y → τ y ≡ σ y
    source_kept y source = ruled.other y (λ h. last_inner c ((cut.components.0.nets y).0 h) source)

    done_kept : (y : ℕ) → In y (nets_of done) → τ y ≡ σ y
    done_kept y h = ruled.other y (λ k. apart (nets_of done) (nets_of (ks ∷ rest)) y cut.once h (in_left y ks (nets_of rest) k))

    -- so the gates by which it and those before it are formed keep their states
    gate_kept : (x : ℕ) → In x (nets_of done ++ ks) → (d : Device) → Touches c x d → τ d.gate ≡ σ d.gate
    gate_kept x h d touches =
        ⊎_elim (source_kept d.gate)
        (λ i. done_kept d.gate (waits_done done ks rest cut x d.gate h (record { device = d; touches = touches; gate = self i })))
        (is_source_lem c d.gate)

    rule_kept : (x : ℕ) → In x (nets_of done ++ ks) → (b : Bool) → MayBe b (τ x) ↔ Rule c σ b x → MayBe b (τ x) ↔ Rule c τ b x
    rule_kept x h b r = (
      λ m. rule_same c σ τ x (λ y source. sym (source_kept y source)) (λ d touches. sym (gate_kept x h d touches)) b (r.0 m),
      λ rule. r.1 (rule_same c τ σ x source_kept (gate_kept x h) b rule),
    )

    inner_next : (x : ℕ) → In x (nets_of done ++ ks) → (b : Bool) → MayBe b (τ x) ↔ Rule c τ b x
    inner_next x h b =
        rule_kept x h b
        (⊎_elim (λ k. subst (λ st. MayBe b st ↔ Rule c σ b x) (sym (done_kept x k)) (formed.inner x k b)) (λ k. ruled.inner x k b)
        (in_parts x (nets_of done) ks h))

    pub formed_next : Formed s τ (done ++ ks ∷ [])
    formed_next = record {
      sourced = record {
        ground = source_kept 0 (inl (omega arith)) ∙ formed.sourced.ground;
        supply = source_kept 1 (inl (omega arith)) ∙ formed.sourced.supply;
        input = λ i h. source_kept (get_or c.ins i 0) (inr (in_get_or c.ins i 0 h)) ∙ formed.sourced.input i h;
      };
      inner = λ x h b. inner_next x (subst (In x) (nets_push done ks) h) b;
    }

  near : (d : Device) (x y : ℕ) → Links d x y → (d.left ≡ x) ⊎ (d.right ≡ x)
  near d x y (inl l) = inl l.0
  near d x y (inr l) = inr l.1

  -- a path begins at an end of a device
  path_low : Low c.body → {x : ℕ} {xs : List ℕ} {ds : List Device} {y : ℕ} → Path c x xs ds y → x ≤ 127
  path_low low (last {x = x} {y = y} {d = d} i h l source) = end_low c low d x h (near d x y l)
  path_low low (step {x = x} {z = z} {d = d} i h l new p) = end_low c low d x h (near d x z l)

  unknown_may : (b : Bool) → MayBe b unknown
  unknown_may true = refl
  unknown_may false = refl

  -- none is left: a net has its rule, or is beyond all devices, where it is not driven and is X
  pub all_formed : Low c.body → (s : ℕ) (σ : ℕ → State Bool) (done : List (List ℕ)) → Cut done [] → Formed s σ done
      → ((x : ℕ) → 127 < x → σ x ≡ unknown) → States c s σ
  all_formed low s σ done cut formed beyond = record {
    sources = formed.sourced;
    inner = λ x i b. ⊎_elim (λ h. formed.inner x (subst (In x) (append-nil (nets_of done)) (cut.all x i (omega (arith, h)))) b) (high x b) (cases_lt x 128);
  }
    where
      high : (x : ℕ) (b : Bool) → 128 ≤ x → MayBe b (σ x) ↔ Rule c σ b x
      high x b h = (
        λ _. inr (λ driven. omega (arith, h, path_low low driven.1.2)),
        λ _. subst (MayBe b) (sym (beyond x h)) (unknown_may b),
      )

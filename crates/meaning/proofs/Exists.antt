-- States at every setting, by rounds: each round applies the rules to the states of the round before. Assumes nothing.
use Rattle.std.proofs.Common.{◌≡◌, ℕ, zero, suc, ◌≤◌, Bool, true, false, cond, not, ◌||◌, ◌⊎◌, ◌↔◌, [], get_or, sym, refl, ap, ◌∙◌, subst, inl, inr, ⊎_elim, le_of_suc-le-suc, not-suc-le-zero, arith}
use Rattle.std.proofs.lemmas.Bool.{cond-true, cond-false}
use Rattle.cell.specs.declared.Device.{Device}
use Rattle.cell.specs.declared.State.{State}
use Rattle.cell.specs.Lists.{Along}
use Rattle.cell.specs.Circuits.{Drawn, FreshIn}
use Rattle.cell.specs.Waiting.{Source, Inner, Touches, WaitsInRing}
use Rattle.cell.specs.States.{States, MayBe, exactly, opens, MayConduct, SurelyConducts, Rule}
use Rattle.cell.specs.Laws.{HasStates}
use Rattle.cell.proofs.Members.{in_get_or}
use Rattle.meaning.proofs.Truth.{Tells, tells_map, tells_yes, tells_not, tells_or, may, tells_may, state_same}
use Rattle.meaning.proofs.Sources.{source_bit, source_at}
use Rattle.meaning.proofs.Paths.{source_test, tells_source, is_source_lem}
use Rattle.meaning.proofs.Order.{in_rounds, rounds}
use Rattle.meaning.proofs.Unique.{rule_same, source_state}
use Rattle.meaning.proofs.Search.{leads, tells_leads}

module _ (c : Drawn) where
  -- whether a net reaches a source that may be b, whether it is driven, and so whether the rule lets it be b
  abbrev reaches : (ℕ → State Bool) → Bool → ℕ → Bool
  reaches σ b x = leads c (λ d. may (opens d.kind) (σ d.gate)) (λ y. may b (σ y)) x

  abbrev driven : (ℕ → State Bool) → ℕ → Bool
  driven σ x = leads c (λ d. not (may (not (opens d.kind)) (σ d.gate))) (λ y. true) x

  abbrev ruled : (ℕ → State Bool) → Bool → ℕ → Bool
  ruled σ b x = reaches σ b x || not (driven σ x)

  tells_ruled : (σ : ℕ → State Bool) (b : Bool) (x : ℕ) → Tells (ruled σ b x) (Rule c σ b x)
  tells_ruled σ b x = tells_or (reaches σ b x) (not (driven σ x))
      (tells_leads c (λ d. may (opens d.kind) (σ d.gate)) (MayConduct σ) (λ d. tells_may (opens d.kind) (σ d.gate))
      (λ y. may b (σ y)) (λ y. MayBe b (σ y)) (λ y. tells_may b (σ y)) x)
      (tells_not (driven σ x) (tells_map (λ w. (w.0, w.1)) (λ w. (w.0, w.1, tt))
      (tells_leads c (λ d. not (may (not (opens d.kind)) (σ d.gate))) (SurelyConducts σ)
      (λ d. tells_not (may (not (opens d.kind)) (σ d.gate)) (tells_may (not (opens d.kind)) (σ d.gate)))
      (λ y. true) (λ y. Unit {0}) (λ y. tells_yes) x)))

  -- the state by the rule
  abbrev decided : (ℕ → State Bool) → ℕ → State Bool
  decided σ x = record { may0 = ruled σ false x; may1 = ruled σ true x }

  decided_is : (σ : ℕ → State Bool) (x : ℕ) (b : Bool) → MayBe b (decided σ x) ↔ Rule c σ b x
  decided_is σ x true = let t = tells_ruled σ true x in (t.to, t.from)
  decided_is σ x false = let t = tells_ruled σ false x in (t.to, t.from)

  decided_same : (σ τ : ℕ → State Bool) (x : ℕ) → ((y : ℕ) → Source c y → σ y ≡ τ y)
      → ((d : Device) → Touches c x d → σ d.gate ≡ τ d.gate) → decided σ x ≡ decided τ x
  decided_same σ τ x so ga = state_same (decided σ x) (decided τ x)
      (λ b m. (decided_is τ x b).1 (rule_same c σ τ x so ga b ((decided_is σ x b).0 m)))
      (λ b m. (decided_is σ x b).1 (rule_same c τ σ x (λ y h. sym (so y h)) (λ d t. sym (ga d t)) b ((decided_is τ x b).0 m)))

module _ (c : Drawn) (s : ℕ) where
  -- sources by the setting, inner nets by the rule
  abbrev pub round : (ℕ → State Bool) → ℕ → State Bool
  round σ x = cond (source_test c x) (exactly (source_bit c.ins s x)) (decided c σ x)

  round_source : (σ : ℕ → State Bool) (x : ℕ) → Source c x → round σ x ≡ exactly (source_bit c.ins s x)
  round_source σ x h = cond-true (source_test c x) (exactly (source_bit c.ins s x)) (decided c σ x) ((tells_source c x).from h)

  round_inner : (σ : ℕ → State Bool) (x : ℕ) → Inner c x → round σ x ≡ decided c σ x
  round_inner σ x n = cond-false (source_test c x) (exactly (source_bit c.ins s x)) (decided c σ x) (no_test (source_test c x) (tells_source c x))
    where
      no_test : (b : Bool) → Tells b (Source c x) → b ≡ false
      no_test true t = absurd (n (t.to refl))
      no_test false t = refl

  -- a round leaves states as they are
  pub round_same : (σ : ℕ → State Bool) → States c s σ → (x : ℕ) → σ x ≡ round σ x
  round_same σ S x = ⊎_elim (λ h. source_state c s σ S x h ∙ sym (round_source σ x h)) by_rule (is_source_lem c x)
    where
      by_rule : Inner c x → σ x ≡ round σ x
      by_rule n =
          state_same (σ x) (decided c σ x) (λ b m. (decided_is c σ x b).1 ((S.inner x n b).0 m)) (λ b m. (S.inner x n b).1 ((decided_is c σ x b).0 m))
          ∙ sym (round_inner σ x n)

  -- the states after k rounds
  after : ℕ → ℕ → State Bool
  after zero x = exactly (source_bit c.ins s x)
  after (suc k) x = round (after k) x

  after_source : (k x : ℕ) → Source c x → after k x ≡ exactly (source_bit c.ins s x)
  unfolding after
  after_source zero x h = refl
  after_source (suc k) x h = round_source (after k) x h

  -- from round k on, net x stays
  abbrev Stays : ℕ → ℕ → Type 0
  Stays k x = (i j : ℕ) → k ≤ i → k ≤ j → after i x ≡ after j x

  stays_next : (k x : ℕ) → ((d : Device) → Touches c x d → Inner c d.gate → Stays k d.gate) → Stays (suc k) x
  unfolding after
  stays_next k x ih zero j hi hj = absurd (not-suc-le-zero hi)
  stays_next k x ih (suc i) zero hi hj = absurd (not-suc-le-zero hj)
  stays_next k x ih (suc i) (suc j) hi hj = go (is_source_lem c x)
    where
      sources : (y : ℕ) → Source c y → after i y ≡ after j y
      sources y h = after_source i y h ∙ sym (after_source j y h)

      gates : (d : Device) → Touches c x d → after i d.gate ≡ after j d.gate
      gates d t = ⊎_elim (sources d.gate) (λ n. ih d t n i j (le_of_suc-le-suc hi) (le_of_suc-le-suc hj)) (is_source_lem c d.gate)

      go : Source c x ⊎ Inner c x → round (after i) x ≡ round (after j) x
      go (inl h) = round_source (after i) x h ∙ sym (round_source (after j) x h)
      go (inr n) = round_inner (after i) x n ∙ decided_same c (after i) (after j) x sources gates ∙ sym (round_inner (after j) x n)

  module _ (acyclic : ¬ (WaitsInRing c)) where
    settled : (x : ℕ) → Inner c x → after (rounds c) x ≡ decided c (after (rounds c)) x
    unfolding after
    settled x n =
        in_rounds c acyclic Stays stays_next x (rounds c) (suc (rounds c)) (omega arith) (omega arith) ∙ round_inner (after (rounds c)) x n

    found : Along FreshIn [] c.ins → States c s (after (rounds c))
    found p = record {
      sources = record {
        ground = after_source (rounds c) 0 (inl (omega arith));
        supply = after_source (rounds c) 1 (inl (omega arith));
        input = λ i h. after_source (rounds c) (get_or c.ins i 0) (inr (in_get_or c.ins i 0 h)) ∙ ap exactly (source_at c.ins p s i h);
      };
      inner = λ x n b. (
        (λ m. (decided_is c (after (rounds c)) x b).0 (subst (MayBe b) (settled x n) m)),
        (λ r. subst (MayBe b) (sym (settled x n)) ((decided_is c (after (rounds c)) x b).1 r)),
      );
    }

pub has_states : HasStates
has_states c p acyclic s = (after c s (rounds c), found c s acyclic p)

-- Where waiting never comes back to its start, the states of a setting are the only ones, and none is neither 0 nor 1. Assumes nothing.
use Rattle.std.proofs.Common.{◌≡◌, ℕ, Bool, true, false, not, List, sym, refl, ◌∙◌, subst, inl, inr, ⊎_elim}
use Rattle.cell.specs.declared.Device.{Device}
use Rattle.cell.specs.declared.State.{State}
use Rattle.cell.specs.Circuits.{Drawn}
use Rattle.cell.specs.Lists.{In}
use Rattle.cell.specs.Waiting.{Source, Inner, Links, Touches}
use Rattle.cell.specs.States.Path.{last, step}
use Rattle.cell.specs.States.{States, MayBe, Path, exactly, unknown, opens, MayConduct, SurelyConducts, Driven, Rule}
use Rattle.cell.specs.Laws.{OneAssignment, NeverNeither, LooseIsUnknown}
use Rattle.meaning.proofs.Truth.{state_same, false_true, dec_may}
use Rattle.meaning.proofs.Sources.{source_bit, source_is}
use Rattle.meaning.proofs.Paths.{is_source_lem, path_end, way_map}
use Rattle.meaning.proofs.Order.{by_waiting}

-- a source is exactly its bit
pub source_state : (c : Drawn) (s : ℕ) (σ : ℕ → State Bool) → States c s σ → (y : ℕ) → Source c y → σ y ≡ exactly (source_bit c.ins s y)
source_state c s σ S y h = source_is σ exactly c.ins s S.sources.ground S.sources.supply S.sources.input y h

-- what the rule of a net heeds: the states of its component's gates and of sources
pub rule_same : (c : Drawn) (σ τ : ℕ → State Bool) (x : ℕ) → ((y : ℕ) → Source c y → σ y ≡ τ y)
    → ((d : Device) → Touches c x d → σ d.gate ≡ τ d.gate) → (b : Bool) → Rule c σ b x → Rule c τ b x
rule_same c σ τ x sources gates b (inl r) = inl (
  r.0,
  way_map c (MayConduct σ) (MayConduct τ) x r.0 (λ d t h. subst (MayBe (opens d.kind)) (gates d t) h) r.1,
  subst (MayBe b) (sources r.0 (path_end c r.1.2)) r.2,
)
rule_same c σ τ x sources gates b (inr n) = inr (λ r. n (
  r.0,
  way_map c (SurelyConducts τ) (SurelyConducts σ) x r.0 (λ d t h k. h (subst (MayBe (not (opens d.kind))) (gates d t) k)) r.1,
))

module _ (c : Drawn) (s : ℕ) (σ τ : ℕ → State Bool) (S : States c s σ) (T : States c s τ) where
  sources_same : (y : ℕ) → Source c y → σ y ≡ τ y
  sources_same y h = source_state c s σ S y h ∙ sym (source_state c s τ T y h)

  from_gates : (x : ℕ) → ((d : Device) → Touches c x d → Inner c d.gate → σ d.gate ≡ τ d.gate) → σ x ≡ τ x
  from_gates x ih = ⊎_elim (sources_same x) inner_same (is_source_lem c x)
    where
      gates : (d : Device) → Touches c x d → σ d.gate ≡ τ d.gate
      gates d t = ⊎_elim (sources_same d.gate) (ih d t) (is_source_lem c d.gate)

      inner_same : Inner c x → σ x ≡ τ x
      inner_same n = state_same (σ x) (τ x)
          (λ b m. (T.inner x n b).1 (rule_same c σ τ x sources_same gates b ((S.inner x n b).0 m)))
          (λ b m. (S.inner x n b).1 (rule_same c τ σ x (λ y h. sym (sources_same y h)) (λ d t. sym (gates d t)) b ((T.inner x n b).0 m)))

pub one_assignment : OneAssignment
one_assignment c acyclic s σ τ S T x = by_waiting c acyclic (λ v. σ v ≡ τ v) (from_gates c s σ τ S T) x

-- some bit is possible
abbrev Some : State Bool → Type 0
Some st = ¬ ((v : Bool) → ¬ (MayBe v st))

exactly_may : (b : Bool) → MayBe b (exactly b)
exactly_may true = refl
exactly_may false = refl

-- a state that may not be one bit may be the other
other : (b : Bool) (st : State Bool) → Some st → ¬ (MayBe (not b) st) → MayBe b st
other true st h n = ⊎_elim (λ m. m) (λ k. absurd (h (elim [ true ↦ k | false ↦ n ]))) (dec_may true st)
other false st h n = ⊎_elim (λ m. m) (λ k. absurd (h (elim [ true ↦ n | false ↦ k ]))) (dec_may false st)

module _ (c : Drawn) (s : ℕ) (σ : ℕ → State Bool) (S : States c s σ) where
  source_some : (y : ℕ) → Source c y → (v : Bool) × MayBe v (σ y)
  source_some y h = let b = source_bit c.ins s y in (b, subst (MayBe b) (sym (source_state c s σ S y h)) (exactly_may b))

  some_from_gates : (x : ℕ) → ((d : Device) → Touches c x d → Inner c d.gate → Some (σ d.gate)) → Some (σ x)
  some_from_gates x ih none = ⊎_elim at_source (λ n. none true ((S.inner x n true).1 (inr (driven n)))) (is_source_lem c x)
    where
      at_source : ¬ (Source c x)
      at_source h = let v = source_some x h in none v.0 v.1

      gate_some : (d : Device) → Touches c x d → Some (σ d.gate)
      gate_some d t = ⊎_elim (λ h n. let v = source_some d.gate h in n v.0 v.1) (ih d t) (is_source_lem c d.gate)

      -- devices that surely conduct may conduct, so a net that is driven may be what its source is
      may_way : (d : Device) → Touches c x d → SurelyConducts σ d → MayConduct σ d
      may_way d t h = other (opens d.kind) (σ d.gate) (gate_some d t) h

      driven : Inner c x → ¬ (Driven c σ x)
      driven n r =
          let v = source_some r.0 (path_end c r.1.2) in
          none v.0 ((S.inner x n v.0).1 (inl (r.0, way_map c (SurelyConducts σ) (MayConduct σ) x r.0 may_way r.1, v.1)))

pub never_neither : NeverNeither
never_neither c acyclic s σ S x e = by_waiting c acyclic (λ v. Some (σ v)) (some_from_gates c s σ S) x (λ b m. neither b (subst (MayBe b) e m))
  where
    neither : (b : Bool) → ¬ (MayBe b (record { may0 = false; may1 = false }))
    neither true m = false_true m
    neither false m = false_true m

-- a path begins at an end of a device, so none begins at a net on no device
pub loose_is_unknown : LooseIsUnknown
loose_is_unknown c s σ S x inn off = state_same (σ x) unknown (λ b _. may b) (λ b _. (S.inner x inn b).1 (inr loose))
  where
    may : (b : Bool) → MayBe b unknown
    may true = refl
    may false = refl

    off_device : (d : Device) (y : ℕ) → In d c.body → ¬ (Links d x y)
    off_device d y h (inl l) = (off d h).0 l.0
    off_device d y h (inr l) = (off d h).1 l.1

    from : {z : ℕ} {xs : List ℕ} {ds : List Device} {y : ℕ} → Path c z xs ds y → ¬ (z ≡ x)
    from (last {y = y} {d = d} i h l src) e = off_device d y h (subst (λ v. Links d v y) e l)
    from (step {z = z} {d = d} i h l new p) e = off_device d z h (subst (λ v. Links d v z) e l)

    loose : ¬ (Driven c σ x)
    loose r = from r.1.2 refl

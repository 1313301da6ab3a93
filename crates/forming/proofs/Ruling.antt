-- The joins over all paths of the tables of a component give its nets the states of the rule. Assumes nothing.
use Rattle.std.proofs.Common.{ℕ, ◌<◌, Bool, true, false, not, ◌||◌, ◌⊎◌, ◌↔◌, List, length, get_or, inl, inr}
use Rattle.cell.specs.declared.State.{State}
use Rattle.cell.specs.Circuits.{Drawn}
use Rattle.cell.specs.Waiting.{Component}
use Rattle.cell.specs.States.{MayBe, Reaches, Driven, Rule}
use Rattle.algebra.specs.Chain.{Chain}
use Rattle.algebra.specs.Holding.{Meaning}
use Rattle.algebra.specs.Signals.{Boolean}
use Rattle.paths.specs.Paths.{JoinOfPaths}
use Rattle.paths.specs.Solving.{system}
use Rattle.meaning.proofs.Truth.{Tells, tells_map, tells_not, tells_or}
use Rattle.forming.specs.Signs.{values, shown}
use Rattle.forming.specs.Systems.{Tabled}
use Rattle.forming.proofs.Bridge.{join_is_way}

-- a net may be b where it reaches a source that may be b, or is not driven
rule_told : (c : Drawn) (σ : ℕ → State Bool) (x : ℕ) (b driven reached : Bool) → Tells driven (Driven c σ x) → Tells reached (Reaches c σ b x)
    → Tells (not driven || reached) (Rule c σ b x)
rule_told c σ x b driven reached d r = tells_map turn back (tells_or (not driven) reached (tells_not driven d) r)
  where
    turn : (¬ (Driven c σ x)) ⊎ Reaches c σ b x → Rule c σ b x
    turn (inl n) = inr n
    turn (inr w) = inl w

    back : Rule c σ b x → (¬ (Driven c σ x)) ⊎ Reaches c σ b x
    back (inl w) = inr w
    back (inr n) = inl n

-- the values solved for the net at place p: of the sources that may be 1, of those that may be 0, and of the surely conducting devices
pub record Joined {S V : Type 0} (A : Chain V) (m : Meaning S V) (nets : ℕ) (may sure : List S) (p : ℕ) (one zero driven : V) : Type 0 where
  pub ones : JoinOfPaths A nets (system A nets 2 (values m may) 0) p one
  pub zeros : JoinOfPaths A nets (system A nets 2 (values m may) 1) p zero
  pub sures : JoinOfPaths A nets (system A nets 1 (values m sure) 0) p driven

-- the state that three bits give
abbrev pub ruled_by : Bool → Bool → Bool → State Bool
ruled_by one zero driven = record { may0 = not driven || zero; may1 = not driven || one }

pub joins_rule : {S V : Type 0} (A : Chain V) (bit : V → ℕ → Bool) → Boolean A bit
    → (m : Meaning S V) (states : List S) (c : Drawn) (nets : List ℕ) (may sure : List S)
    → Component c nets → Tabled A bit m states nets may sure c.body
    → (p : ℕ) → p < length nets → (one zero driven : V) → Joined A m (length nets) may sure p one zero driven
    → (t : ℕ) (b : Bool) → MayBe b (ruled_by (bit one t) (bit zero t) (bit driven t)) ↔ Rule c (shown bit m states t) b (get_or nets p 0)
joins_rule A bit B m states c nets may sure comp tabled p hp one zero driven joined t = go
  where
    σ : ℕ → State Bool
    σ = shown bit m states t

    x : ℕ
    x = get_or nets p 0

    sures : Tells (bit driven t) (Driven c σ x)
    sures =
        let w = join_is_way A bit B c nets comp _ t _ _ (tabled.sures t) p hp driven joined.sures in
        record { to = λ e. let r = w.0 e in (r.0, r.1); from = λ r. w.1 (r.0, r.1, tt) }

    ones : Tells (bit one t) (Reaches c σ true x)
    ones = let w = join_is_way A bit B c nets comp _ t _ _ (tabled.ones t) p hp one joined.ones in record { to = w.0; from = w.1 }

    zeros : Tells (bit zero t) (Reaches c σ false x)
    zeros = let w = join_is_way A bit B c nets comp _ t _ _ (tabled.zeros t) p hp zero joined.zeros in record { to = w.0; from = w.1 }

    go : (b : Bool) → MayBe b (ruled_by (bit one t) (bit zero t) (bit driven t)) ↔ Rule c σ b x
    go true = let r = rule_told c σ x true (bit driven t) (bit one t) sures ones in (r.to, r.from)
    go false = let r = rule_told c σ x false (bit driven t) (bit zero t) sures zeros in (r.to, r.from)

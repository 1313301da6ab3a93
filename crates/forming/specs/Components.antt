-- What forming a component makes of the states of its nets. Assumes nothing.
use Rattle.std.specs.Prelude.{◌≡◌, ℕ, Bool, true, not, ◌||◌, ◌↔◌, List, [], length}
use Rattle.cell.specs.declared.Device.{Device}
use Rattle.cell.specs.declared.State.{State}
use Rattle.cell.specs.Lists.{In, Along}
use Rattle.cell.specs.Circuits.{Drawn, FreshIn}
use Rattle.cell.specs.Waiting.{Component, EvaluationOrder}
use Rattle.cell.specs.States.{MayBe, Rule, Sourced, States}
use Rattle.algebra.specs.Chain.{Chain}
use Rattle.algebra.specs.Holding.{Meaning, Stays}
use Rattle.algebra.specs.Signals.{seen}
use Rattle.paths.specs.Solving.{system}
use Rattle.forming.specs.Signs.{InHand, values, side, shown}
use Rattle.forming.specs.Systems.{Worked}

-- the nets of a component get the states that the rule gives, and the others keep theirs
pub record Ruled (c : Drawn) (nets : List ℕ) (before after : ℕ → State Bool) : Type 0 where
  pub inner : (x : ℕ) → In x nets → (b : Bool) → MayBe b (after x) ↔ Rule c before b x
  pub other : (x : ℕ) → ¬ (In x nets) → after x ≡ before x

-- the state of the net at a place of a component: what its row of the tables says, and both bits where it is not driven
pub record NetFormed {S V : Type 0} (A : Chain V) (bit : V → ℕ → Bool) (m m' : Meaning S V) (nets net : ℕ) (may sure : List S) (st : State S) : Type 0 where
  pub stays : Stays m m'
  pub hand : (b : Bool) → m'.hand (side b st) ≡ true
  pub one : (t : ℕ) → bit (m'.value st.may1) t ≡ (not (bit ((system A nets 1 (values m sure) 0).own net) t) || bit ((system A nets 2 (values m may) 0).own net) t)
  pub zero : (t : ℕ) → bit (m'.value st.may0) t ≡ (not (bit ((system A nets 1 (values m sure) 0).own net) t) || bit ((system A nets 2 (values m may) 1).own net) t)

-- a component is formed: of every circuit with these devices in which the nets are one
pub record ComponentFormed {S V : Type 0} (bit : V → ℕ → Bool) (m m' : Meaning S V) (devices : List Device) (nets : List ℕ) (states states' may may' sure sure' : List S) : Type 0 where
  pub worked : Worked m m' may may' sure sure'
  pub hand : InHand m' states'
  pub long : length states' ≡ length states
  pub ruled : (c : Drawn) → c.body ≡ devices → Component c nets → (t : ℕ) → Ruled c nets (shown bit m states t) (shown bit m' states' t)

-- rails and inputs are formed, of inputs none of which is a rail or another
pub record SourcesFormed {S V : Type 0} (bit : V → ℕ → Bool) (m m' : Meaning S V) (ins : List ℕ) (states states' : List S) : Type 0 where
  pub stays : Stays m m'
  pub hand : InHand m' states'
  pub long : length states' ≡ length states
  pub sourced : Along FreshIn [] ins → m.inputs ≡ length ins → (t : ℕ) → Sourced ins (seen m.listed t) (shown bit m' states' t)

-- all nets are formed, at each setting that the algebra lists: of every circuit with these inputs and devices, evaluated in the order
pub record AllFormed {S V : Type 0} (bit : V → ℕ → Bool) (m m' : Meaning S V) (ins : List ℕ) (devices : List Device) (order : List (List ℕ)) (states : List S) : Type 0 where
  pub stays : Stays m m'
  pub hand : InHand m' states
  pub long : length states ≡ 256
  pub formed : (c : Drawn) → c.ins ≡ ins → c.body ≡ devices → Along FreshIn [] ins → EvaluationOrder c order → m.inputs ≡ length ins
      → (t : ℕ) → States c (seen m.listed t) (shown bit m' states t)

-- The turns of forming all states: what holds between components, from the sources to the end. Assumes nothing.
use Rattle.std.proofs.Common.{◌≡◌, ℕ, Bool, List, [], ◌∷◌, ◌++◌, length, sym, ◌∙◌, subst}
use Rattle.cell.specs.declared.Device.{Device}
use Rattle.cell.specs.Lists.{Every, Along}
use Rattle.cell.specs.Circuits.{Drawn, FreshIn}
use Rattle.cell.specs.Waiting.{EvaluationOrder}
use Rattle.cell.specs.States.{States, Sourced}
use Rattle.algebra.specs.Holding.{Meaning, Stays}
use Rattle.algebra.specs.Signals.{seen}
use Rattle.order.proofs.Linking.{Low}
use Rattle.forming.specs.Signs.{InHand, shown}
use Rattle.forming.specs.Systems.{Formable}
use Rattle.forming.specs.declared.work.WorkTable.{WorkTable}
use Rattle.forming.specs.Works.{WorkInHand}
use Rattle.forming.specs.Components.{ComponentFormed, SourcesFormed, AllFormed}
use Rattle.forming.proofs.Showing.{shown_beyond}
use Rattle.forming.proofs.Keeping.{hand_stays}
use Rattle.paths.proofs.Holding.{stays_same, stays_then}
use Rattle.forming.proofs.Rounds.{Cut, Formed, cut_start, cut_next, formed_next, all_formed}

-- All signs are in hand, and of every circuit with these inputs and devices, evaluated in the order, the components that are not
-- left are formed.
pub record FormedBut {S V : Type 0} (bit : V → ℕ → Bool) (m m' : Meaning S V) (ins : List ℕ) (devices : List Device) (order left : List (List ℕ)) (work : WorkTable S) : Type 0 where
  pub stays : Stays m m'
  pub hand : WorkInHand m' work
  pub formable : Every Formable left
  pub formed : (c : Drawn) → c.ins ≡ ins → c.body ≡ devices → Along FreshIn [] ins → EvaluationOrder c order → m.inputs ≡ length ins
      → (done : List (List ℕ)) × Cut c done left × ((t : ℕ) → Formed c (seen m.listed t) (shown bit m' work.states.signs.now t) done)

module _ {S V : Type 0} (bit : V → ℕ → Bool) (m m' : Meaning S V) (ins : List ℕ) (devices : List Device) (order : List (List ℕ)) where
  -- after the sources
  pub turns_start : (left : List (List ℕ)) (states : List S) (work : WorkTable S) → left ≡ order
      → Every Formable order → InHand m work.may.now → InHand m work.sure.now → SourcesFormed bit m m' ins states work.states.signs.now
      → FormedBut bit m' m' ins devices order left work
  turns_start left states work e formable may_hand sure_hand sources = record {
    stays = stays_same m';
    hand = record { states = sources.hand; may = hand_stays sources.stays work.may.now may_hand; sure = hand_stays sources.stays work.sure.now sure_hand };
    formable = subst (Every Formable) (sym e) formable;
    formed = λ c same_ins same_body fresh o made. (
      [],
      subst (Cut c []) (sym e) (cut_start c order o),
      λ t. record {
        sourced = subst (λ xs. Sourced xs (seen m'.listed t) (shown bit m' work.states.signs.now t)) (sym same_ins)
            (subst (λ l. Sourced ins (seen l t) (shown bit m' work.states.signs.now t)) (sym sources.stays.listed) (sources.sourced fresh (sym sources.stays.inputs ∙ made) t));
        inner = λ x h. absurd h;
      },
    );
  }

  -- after one component more
  pub turns_next : (m'' : Meaning S V) (left : List (List ℕ)) (ks : List ℕ) (rest : List (List ℕ)) (work work' : WorkTable S) → left ≡ ks ∷ rest
      → FormedBut bit m m' ins devices order left work
      → ComponentFormed bit m' m'' devices ks work.states.signs.now work'.states.signs.now work.may.now work'.may.now work.sure.now work'.sure.now
      → FormedBut bit m m'' ins devices order rest work'
  turns_next m'' left ks rest work work' e before next = record {
    stays = stays_then before.stays next.worked.stays;
    hand = record { states = next.hand; may = next.worked.may_hand; sure = next.worked.sure_hand };
    formable = (subst (Every Formable) e before.formable).1;
    formed = λ c same_ins same_body fresh o made.
        let f = before.formed c same_ins same_body fresh o made in
        let cut = subst (Cut c f.0) e f.1 in (
          f.0 ++ ks ∷ [],
          cut_next c f.0 ks rest cut,
          λ t. formed_next c (seen m.listed t) _ _ f.0 ks rest cut (next.ruled c same_body cut.components.0 t) (f.2 t),
        );
  }

  -- with none left, as seen from before the sources
  pub turns_end : (m₀ : Meaning S V) (left : List (List ℕ)) (work : WorkTable S) → left ≡ [] → Low devices → Stays m₀ m
      → FormedBut bit m m' ins devices order left work → AllFormed bit m₀ m' ins devices order work.states.signs.now
  turns_end m₀ left work e low stays f = record {
    stays = stays_then stays f.stays;
    hand = f.hand.states;
    long = work.states.size;
    formed = λ c same_ins same_body fresh o made t.
        let all = f.formed c same_ins same_body fresh o (stays.inputs ∙ made) in
        subst (λ l. States c (seen l t) (shown bit m' work.states.signs.now t)) stays.listed
        (all_formed c (subst Low (sym same_body) low) (seen m.listed t) (shown bit m' work.states.signs.now t) all.0 (subst (Cut c all.0) e all.1) (all.2 t)
        (λ x high. shown_beyond bit m' work.states.signs.now t x work.states.size high));
  }

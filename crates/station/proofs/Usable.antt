-- What the soundness of a held circuit gives to one who evaluates it. Assumes nothing.
use Rattle.std.proofs.Common.{◌≡◌, ℕ, ◌≤◌, true, List, [], ◌∷◌, ◌++◌, length, None, subst, inl, inr, ⊎_elim, arith}
use mathlib.Core.HLevel.{Unit-prop, ¬_prop}
use mathlib.Core.Logic.{∥∥₁_elim}
use native.Mathlib.Bridge.{le_prop}
use Rattle.std.proofs.lemmas.Bool.{cases_lt}
use Rattle.cell.specs.Lists.{In, Every, Distinct, Along}
use Rattle.cell.specs.Circuits.{Drawn, Numbered, FreshIn}
use Rattle.cell.specs.Waiting.{Linked, Component, WaitsInRing, TooLarge, nets_of, EvaluationOrder}
use Rattle.order.specs.Found.{order_of}
use Rattle.cell.proofs.Members.{in_left, in_right, every_in, every_from}
use Rattle.order.proofs.Nets.{rising_distinct}
use Rattle.order.proofs.Numbers.{order_numbered}
use Rattle.forming.specs.Systems.{Formable}
use Rattle.files.specs.Files.{DrawnAtEnd, drawn_format}
use Rattle.files.specs.Files.DrawnAtEnd.{sound}
use Rattle.files.specs.Lawful.{Lawful}
use Rattle.netlist.specs.Circuits.{circuit_of}
use Rattle.circuits.specs.declared.devices.Devices.{Devices}
use Rattle.circuits.specs.Bodies.{devices_of}
use Rattle.station.specs.declared.slot.Slot.{Slot}
use Rattle.station.specs.Sound.{Sound}

-- the facts that have one proof at most
pub record Usable (c : Drawn) (order : List (List ℕ)) : Type 0 where
  pub fresh : Along FreshIn [] c.ins
  pub few : length c.ins ≤ 16
  pub acyclic : ¬ (WaitsInRing c)
  pub numbered : Numbered c.ins
  pub formable : Every Formable order

every_prop : {X : Type 0} (Q : X → Type 0) → ((x : X) → IsProp (Q x)) → (xs : List X) → IsProp (Every Q xs)
every_prop Q p [] = Unit-prop
every_prop Q p (x ∷ xs) = λ u v i. (p x u.0 v.0 i, every_prop Q p xs u.1 v.1 i)

along_prop : {X : Type 0} (Q : List X → X → Type 0) → ((es : List X) (x : X) → IsProp (Q es x)) → (es xs : List X) → IsProp (Along Q es xs)
along_prop Q p es [] = Unit-prop
along_prop Q p es (x ∷ xs) = λ u v i. (p es x u.0 v.0 i, along_prop Q p (es ++ x ∷ []) xs u.1 v.1 i)

distinct_prop : (xs : List ℕ) → IsProp (Distinct xs)
distinct_prop [] = Unit-prop
distinct_prop (x ∷ xs) = λ u v i. (¬_prop u.0 v.0 i, distinct_prop xs u.1 v.1 i)

fresh_prop : (es : List ℕ) (x : ℕ) → IsProp (FreshIn es x)
fresh_prop es x u v i = record { no_rail = le_prop u.no_rail v.no_rail i; number = le_prop u.number v.number i; new = ¬_prop u.new v.new i }

formable_prop : (ks : List ℕ) → IsProp (Formable ks)
formable_prop ks u v i = record {
  distinct = distinct_prop ks u.distinct v.distinct i;
  numbered = every_prop (λ x. x ≤ 127) (λ x. le_prop) ks u.numbered v.numbered i;
  few = le_prop u.few v.few i;
}

usable_prop : (c : Drawn) (order : List (List ℕ)) → IsProp (Usable c order)
usable_prop c order u v i = record {
  fresh = along_prop FreshIn fresh_prop [] c.ins u.fresh v.fresh i;
  few = le_prop u.few v.few i;
  acyclic = ¬_prop u.acyclic v.acyclic i;
  numbered = every_prop (λ x. x ≤ 127) (λ x. le_prop) c.ins u.numbered v.numbered i;
  formable = every_prop Formable formable_prop order u.formable v.formable i;
}

fresh_numbered : (es xs : List ℕ) → Along FreshIn es xs → Numbered xs
fresh_numbered es [] a = tt
fresh_numbered es (x ∷ xs) a = (a.0.number, fresh_numbered (es ++ x ∷ []) xs a.1)

no_ring : (c : Drawn) → DrawnAtEnd c None → ¬ (WaitsInRing c)
no_ring c (sound r l) = r

none_large : (c : Drawn) → DrawnAtEnd c None → ¬ (TooLarge c)
none_large c (sound r l) = l

part_in : (order : List (List ℕ)) (ks : List ℕ) (x : ℕ) → In ks order → In x ks → In x (nets_of order)
part_in [] ks x k h = absurd k
part_in (js ∷ order) ks x (inl e) h = in_left x js (nets_of order) (subst (In x) e h)
part_in (js ∷ order) ks x (inr k) h = in_right x js (nets_of order) (part_in order ks x k h)

module _ (c : Drawn) (order : List (List ℕ)) (L : Lawful drawn_format c) (E : EvaluationOrder c order)
    (numbers : (x : ℕ) → In x (nets_of order) → x ≤ 127) where
  part_formable : (ks : List ℕ) → In ks order → Formable ks
  part_formable ks h =
      let C = every_in (Component c) order ks E.components h in
      let once = rising_distinct ks C.rising in
      record {
        distinct = once;
        numbered = every_from (λ x. x ≤ 127) ks (λ x k. numbers x (part_in order ks x h k));
        few = ⊎_elim (λ small. omega (arith, small)) (λ big. absurd (none_large c L.end (C.net, ks, once, every_from (Linked c C.net) ks (λ v k. (C.nets v).0 k), omega (arith, big)))) (cases_lt (length ks) 25);
      }

  usable_of : Usable c order
  usable_of = record {
    fresh = L.ins;
    few = L.few_ins;
    acyclic = no_ring c L.end;
    numbered = fresh_numbered [] c.ins L.ins;
    formable = every_from Formable order part_formable;
  }

pub usable : (s : Slot Devices) → ∥ Sound s ∥₁ → s.held ≡ true → Usable (circuit_of devices_of s.current) (order_of s.current.body.order)
usable s t held =
    let c = circuit_of devices_of s.current in
    let order = order_of s.current.body.order in
    ∥∥₁_elim t (usable_prop c order) (λ h. let both = h held in usable_of c order both.0 both.1 (order_numbered s.current.body.order))

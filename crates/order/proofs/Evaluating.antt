-- Components arranged by their labels are an order in which the circuit can be evaluated. Assumes nothing.
use Rattle.std.proofs.Common.{◌≡◌, ℕ, ◌<◌, ◌≤◌, Bool, ◌⊎◌, Some, List, [], ◌∷◌, ◌++◌, map, length, sym, refl, ap, ◌∙◌, subst, inl, inr, ⊎_elim, arith}
use Rattle.std.proofs.lemmas.List.{map_push, take_at, drop_at}
use Rattle.std.proofs.lemmas.Bool.{cases_Bool}
use Rattle.cell.specs.Lists.{In, Every, Along}
use Rattle.cell.specs.Circuits.{Drawn}
use Rattle.cell.specs.Waiting.{Inner, Linked, Component, Waits, nets_of, EvaluationOrder}
use Rattle.order.specs.declared.order.Order.{Order}
use Rattle.order.specs.declared.labels.Labels.{Labels}
use Rattle.order.specs.Components.{label_of, Labelled}
use Rattle.order.specs.Placing.{nets_with, marked, IsComponent, Unplaced, EndsIn, After, Arranged, nets_in, sizes_in, Complete}
use Rattle.order.specs.Found.{chunks, order_of}
use Rattle.order.proofs.Linking.{Low, first_inner, gate_low, linked_low_last}
use Rattle.order.proofs.Joining.{linked_same, same_linked, own_label}
use Rattle.order.proofs.Nets.{nets_rising, nets_are, nets_all}
use Rattle.order.proofs.Arranging.{labels_nets, nets_distinct, component_low}

-- lists joined and cut again
chunks_of : (parts : List (List ℕ)) → chunks (nets_of parts) (map length parts) ≡ parts
chunks_of [] = refl
chunks_of (ks ∷ rest) =
    let t = take_at ks (nets_of rest) (length ks) refl in
    let d = drop_at ks (nets_of rest) (length ks) refl in
    let r = chunks_of rest in
    let e = ap (λ v. chunks v (map length rest)) d in
    cc

along_map : {X Y : Type 0} (Q : List X → X → Type 0) (R : List Y → Y → Type 0) (f : X → Y)
    → ((es : List X) (x : X) → Q es x → R (map f es) (f x))
    → (es xs : List X) → Along Q es xs → Along R (map f es) (map f xs)
along_map Q R f g es [] a = tt
along_map Q R f g es (x ∷ xs) a =
    (g es x a.0, subst (λ v. Along R v (map f xs)) (map_push f es x) (along_map Q R f g (es ++ x ∷ []) xs a.1))

every_mapped : {X Y : Type 0} (Q : X → Type 0) (R : Y → Type 0) (f : X → Y) → ((x : X) → Q x → R (f x))
    → (xs : List X) → Every Q xs → Every R (map f xs)
every_mapped Q R f g [] e = tt
every_mapped Q R f g (x ∷ xs) e = (g x e.0, every_mapped Q R f g xs e.1)

module _ (c : Drawn) (low : Low c.body) (labels : Labels) (L : Labelled c c.body labels) where
  component : (l : ℕ) → IsComponent labels l → Component c (nets_with labels l)
  component l i = record { rising = nets_rising labels l; net = l; nets = λ v. (to v, from v) }
    where
      lo : l < 128
      lo = component_low labels l i

      to : (v : ℕ) → In v (nets_with labels l) → Linked c l v
      to v h = let r = nets_are labels l v h in same_linked c low labels L l v l (omega (arith, lo)) (omega (arith, r.0)) i.own r.1

      from : (v : ℕ) → Linked c l v → In v (nets_with labels l)
      from v k = nets_all labels l v (omega (arith, linked_low_last c low k (omega (arith, lo)))) (sym (linked_same c low labels L k) ∙ i.own)

  -- a component waits for earlier ones alone
  waits_earlier : (es : List ℕ) (l : ℕ) → After labels c.body es l → (x y : ℕ) → In x (nets_with labels l) → Waits c x y
      → In y (nets_of (map (nets_with labels) es))
  waits_earlier es l a x y h w =
      labels_nets labels es y gate.0 (omega (arith, linked_low_last c low w.gate gate_number))
      (sym (linked_same c low labels L w.gate) ∙ gate.1)
      (a w.device w.touches.device (end w.touches.end) gate.0 gate.1)
    where
      gate_number : w.device.gate ≤ 127
      gate_number = gate_low c low w.device w.touches.device

      gate : (g : ℕ) × (label_of labels w.device.gate ≡ Some g) × Linked c w.device.gate g
      gate = L.inner w.device.gate gate_number (first_inner c w.gate)

      here : label_of labels w.touches.at ≡ Some l
      here = sym (linked_same c low labels L w.touches.linked) ∙ (nets_are labels l x h).1

      end : (w.device.left ≡ w.touches.at) ⊎ (w.device.right ≡ w.touches.at) → EndsIn labels w.device l
      end (inl e) = inl (ap (label_of labels) e ∙ here)
      end (inr e) = inr (ap (label_of labels) e ∙ here)

  module _ (placed : List Bool) (nets sizes : List ℕ) (A : Arranged labels c.body placed nets sizes)
      (done : (l : ℕ) → ¬ (Unplaced labels placed l)) where
    all : (x : ℕ) → Inner c x → x ≤ 127 → In x (nets_of (map (nets_with labels) A.components))
    all x i lo =
        let n = L.inner x lo i in
        labels_nets labels A.components x n.0 (omega arith) n.1
        (⊎_elim
        (λ e. (A.marks n.0).1 e)
        (λ e. absurd (done n.0 (record { component = record { own = own_label c low labels L x n.0 lo n.1 }; unmarked = e })))
        (cases_Bool (marked placed n.0)))

    arranged_order : EvaluationOrder c (map (nets_with labels) A.components)
    arranged_order =
        record {
          components = every_mapped (IsComponent labels) (Component c) (nets_with labels) component A.components A.real;
          all = all;
          once = nets_distinct labels A.components A.distinct;
          waits =
              along_map (After labels c.body) (λ earlier ks. (x y : ℕ) → In x ks → Waits c x y → In y (nets_of earlier))
              (nets_with labels) waits_earlier [] A.components A.after;
        }

    cut : chunks nets sizes ≡ map (nets_with labels) A.components
    cut =
        ap (λ v. chunks v sizes) A.nets_are
        ∙ (ap (chunks (nets_of (map (nets_with labels) A.components))) A.sizes_are
        ∙ chunks_of (map (nets_with labels) A.components))

  pub complete_order : (o : Order) → Complete labels c.body o → EvaluationOrder c (order_of o)
  complete_order o p =
      subst (EvaluationOrder c) (sym (cut p.0 (nets_in o) (sizes_in o) p.1 p.2))
      (arranged_order p.0 (nets_in o) (sizes_in o) p.1 p.2)

  pub complete_sizes : (o : Order) → Complete labels c.body o → sizes_in o ≡ map length (order_of o)
  complete_sizes o p = p.1.sizes_are ∙ sym (ap (map length) (cut p.0 (nets_in o) (sizes_in o) p.1 p.2))

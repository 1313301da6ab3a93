-- Waiting comes back to its start where components that wait for one another are left over, and never where there is an order.
-- Assumes nothing.
use Rattle.std.proofs.Common.{◌≡◌, ℕ, zero, suc, ◌+◌, ◌<◌, Bool, ◌⊎◌, List, [], ◌∷◌, ◌++◌, length, sym, refl, ap, ◌∙◌, subst, inl, inr, ⊎_elim, arith}
use Rattle.std.proofs.lemmas.List.{append_assoc, flat_map_more}
use Rattle.cell.specs.declared.Device.{Device}
use Rattle.cell.specs.Lists.{In, Distinct, Along}
use Rattle.cell.specs.Circuits.{Drawn}
use Rattle.cell.specs.Waiting.{Touches, Waits, WaitsOn, WaitsInRing, nets_of, EvaluationOrder}
use Rattle.cell.specs.Waiting.WaitsOn.{once, more}
use Rattle.cell.proofs.Finite.{dec_in}
use Rattle.order.specs.declared.labels.Labels.{Labels}
use Rattle.order.specs.Components.{Labelled}
use Rattle.order.specs.Placing.{Unplaced, EndsIn, Stuck, Ringed}
use Rattle.cell.proofs.Members.{in_left, in_right, in_parts}
use Rattle.order.proofs.Linking.{Low, first_inner, linked_back, end_low, gate_low, linked_low_last}
use Rattle.order.proofs.Joining.{label_linked, own_label}
use Rattle.order.proofs.Nets.{few_nets}
use Rattle.order.proofs.Arranging.{component_low}

module _ (c : Drawn) where
  on_more : {x y z : ℕ} → WaitsOn c x y → Waits c y z → WaitsOn c x z
  on_more (once w) v = more w (once v)
  on_more (more w r) v = more w (on_more r v)

  module _ (low : Low c.body) (labels : Labels) (L : Labelled c c.body labels) (placed : List Bool)
      (stuck : Stuck labels c.body placed) where
    touches : (l : ℕ) (d : Device) → In d c.body → EndsIn labels d l → Touches c l d
    touches l d h (inl e) =
        let k = linked_back c (label_linked c c.body labels L d.left l (end_low c low d d.left h (inl refl)) e) in
        record { device = h; at = d.left; linked = k; end = inl refl }
    touches l d h (inr e) =
        let k = linked_back c (label_linked c c.body labels L d.right l (end_low c low d d.right h (inr refl)) e) in
        record { device = h; at = d.right; linked = k; end = inr refl }

    -- a component left over waits for another
    next : (l : ℕ) → Unplaced labels placed l → (g : ℕ) × Unplaced labels placed g × Waits c l g
    next l u =
        let b = stuck l u in
        let d = b.device in
        let g = b.gate in
        let lo = gate_low c low d b.among in (
          g.component,
          record { component = record { own = own_label c low labels L d.gate g.component lo g.gate }; unmarked = g.unmarked },
          record { device = d; touches = touches l d b.among b.end; gate = label_linked c c.body labels L d.gate g.component lo g.gate },
        )

    -- `seen`: components that are x or wait for it, none of them twice; k more may come
    go : (k x : ℕ) (seen : List ℕ) → Unplaced labels placed x → Distinct seen → ((g : ℕ) → In g seen → g < 128)
        → ((g : ℕ) → In g seen → (g ≡ x) ⊎ WaitsOn c g x) → 128 < length seen + k → WaitsInRing c
    go zero x seen u d lo on room = absurd (omega (arith, few_nets seen d lo))
    go (suc k) x seen u d lo on room =
        let n = next x u in
        let further : (g : ℕ) → (g ≡ x) ⊎ WaitsOn c g x → WaitsOn c g n.0 =
        λ g. elim [ inl e ↦ once (subst (λ v. Waits c v n.0) (sym e) n.2) | inr w ↦ on_more w n.2 ] in
        ⊎_elim
        (λ h. (n.0, further n.0 (on n.0 h)))
        (λ h.
        go k n.0 (n.0 ∷ seen) n.1 (h, d)
        (λ g. elim [ inl e ↦ subst (λ v. v < 128) (sym e) (component_low labels n.0 n.1.component) | inr i ↦ lo g i ])
        (λ g. elim [ inl e ↦ inl e | inr i ↦ inr (further g (on g i)) ])
        (omega arith))
        (dec_in n.0 seen)

    pub left_over : (l : ℕ) → Unplaced labels placed l → WaitsInRing c
    left_over l u = go 129 l [] u tt (λ g h. absurd h) (λ g h. absurd h) (omega arith)

  pub ringed : (low : Low c.body) (labels : Labels) → Labelled c c.body labels → Ringed labels c.body → WaitsInRing c
  ringed low labels L r = left_over low labels L r.0 r.1 r.2.0 r.2.1

  -- none of these components waits for one outside of them
  Closed : List (List ℕ) → Type 0
  Closed es = (x y : ℕ) → In x (nets_of es) → Waits c x y → In y (nets_of es)

  abbrev Behind : List (List ℕ) → List ℕ → Type 0
  Behind earlier ks = (x y : ℕ) → In x ks → Waits c x y → In y (nets_of earlier)

  nets_push : (es : List (List ℕ)) (ks : List ℕ) → nets_of (es ++ ks ∷ []) ≡ nets_of es ++ ks
  nets_push es ks = sym (flat_map_more (λ (v : List ℕ). v) [] es ks)

  closed_push : (es : List (List ℕ)) (ks : List ℕ) → Closed es → Behind es ks → Closed (es ++ ks ∷ [])
  unfolding Closed
  closed_push es ks cl b x y h w =
      subst (In y) (sym (nets_push es ks))
      (in_left y (nets_of es) ks (⊎_elim (λ k. cl x y k w) (λ k. b x y k w) (in_parts x (nets_of es) ks (subst (In x) (nets_push es ks) h))))

  closed_on : (es : List (List ℕ)) → Closed es → {x y : ℕ} → WaitsOn c x y → In x (nets_of es) → In y (nets_of es)
  unfolding Closed
  closed_on es cl (once {x = x} {y = y} w) h = cl x y h w
  closed_on es cl (more {x = x} {y = y} w r) h = closed_on es cl r (cl x y h w)

  apart : (xs ys : List ℕ) (x : ℕ) → Distinct (xs ++ ys) → In x xs → In x ys → ⊥
  apart [] ys x d h k = h
  apart (z ∷ xs) ys x d (inl e) k = d.0 (subst (λ v. In v (xs ++ ys)) e (in_right x xs ys k))
  apart (z ∷ xs) ys x d (inr h) k = apart xs ys x d.1 h k

  behind_ring : (es : List (List ℕ)) (ks : List ℕ) → Closed es → Behind es ks → {x y : ℕ} → In x ks → WaitsOn c x y → In y (nets_of es)
  behind_ring es ks cl b h (once {x = x} {y = y} w) = b x y h w
  behind_ring es ks cl b h (more {x = x} {y = y} w r) = closed_on es cl r (b x y h w)

  none : (es rest : List (List ℕ)) → Closed es → Along Behind es rest → Distinct (nets_of es ++ nets_of rest)
      → (x : ℕ) → In x (nets_of rest) → WaitsOn c x x → ⊥
  none es [] cl a d x h w = h
  none es (ks ∷ rest) cl a d x h w =
      ⊎_elim
      (λ k. apart (nets_of es) (ks ++ nets_of rest) x d (behind_ring es ks cl a.0 k w) h)
      (λ k. none (es ++ ks ∷ []) rest (closed_push es ks cl a.0) a.1 (subst Distinct same_nets d) x k w)
      (in_parts x ks (nets_of rest) h)
    where
      same_nets : nets_of es ++ (ks ++ nets_of rest) ≡ nets_of (es ++ ks ∷ []) ++ nets_of rest
      same_nets = sym (append_assoc (nets_of es) ks (nets_of rest)) ∙ ap (λ v. v ++ nets_of rest) (sym (nets_push es ks))

  waits_first : {x y : ℕ} → WaitsOn c x y → (z : ℕ) × Waits c x z
  waits_first (once {y = y} w) = (y, w)
  waits_first (more {y = y} w r) = (y, w)

  -- an order rules out that waiting comes back to its start
  pub order_no_ring : Low c.body → (order : List (List ℕ)) → EvaluationOrder c order → ¬ (WaitsInRing c)
  unfolding Closed
  order_no_ring low order E r =
      let t = (waits_first r.1).1.touches in
      none [] order (λ x y h w. absurd h) E.waits E.once r.0
      (E.all r.0 (first_inner c t.linked)
      (linked_low_last c low (linked_back c t.linked) (end_low c low _ t.at t.device t.end))) r.1

-- Whether a component is too large, by the sizes of the components in an order. Assumes nothing.
use Rattle.std.proofs.Common.{◌≡◌, ℕ, ◌<◌, ◌≤◌, ◌⊎◌, List, [], ◌∷◌, map, length, get_or, sym, refl, ap, subst, inl, inr, ⊎_elim, arith}
use Rattle.std.proofs.lemmas.Bool.{cases_lt}
use Rattle.cell.specs.Lists.{In, Every, Distinct}
use Rattle.cell.specs.Circuits.{Drawn}
use Rattle.cell.specs.Waiting.{Inner, Linked, Component, TooLarge, nets_of, EvaluationOrder}
use Rattle.cell.proofs.Finite.{few}
use Rattle.order.specs.Placing.{SomeLarge, NoneLarge}
use Rattle.cell.proofs.Members.{in_get_or, in_parts, every_in, every_from, every_from_places}
use Rattle.order.proofs.Linking.{Low, first_inner, linked_on, linked_low}
use Rattle.order.proofs.Nets.{rising_distinct}

-- the component that a net is in
part : (order : List (List ℕ)) (x : ℕ) → In x (nets_of order) → (ks : List ℕ) × In ks order × In x ks
part [] x h = absurd h
part (ks ∷ rest) x h =
    ⊎_elim (λ k. (ks, inl refl, k)) (λ k. let r = part rest x k in (r.0, inr r.1, r.2)) (in_parts x ks (nets_of rest) h)

sized : (order : List (List ℕ)) (n : ℕ) → In n (map length order) → (ks : List ℕ) × In ks order × (length ks ≡ n)
sized [] n h = absurd h
sized (ks ∷ rest) n (inl e) = (ks, inl refl, sym e)
sized (ks ∷ rest) n (inr h) = let r = sized rest n h in (r.0, inr r.1, r.2)

size_in : (order : List (List ℕ)) (ks : List ℕ) → In ks order → In (length ks) (map length order)
size_in [] ks h = h
size_in (js ∷ rest) ks (inl e) = inl (ap length e)
size_in (js ∷ rest) ks (inr h) = inr (size_in rest ks h)

module _ (c : Drawn) (low : Low c.body) (order : List (List ℕ)) (E : EvaluationOrder c order)
    (sizes : List ℕ) (are : sizes ≡ map length order) where
  pub too_large : SomeLarge sizes → TooLarge c
  too_large l =
      let r = sized order (get_or sizes l.0 0) (subst (In (get_or sizes l.0 0)) are (in_get_or sizes l.0 0 l.1)) in
      let C = every_in (Component c) order r.0 E.components r.1 in (
        C.net,
        r.0,
        rising_distinct r.0 C.rising,
        every_from (Linked c C.net) r.0 (λ v h. (C.nets v).0 h),
        omega (arith, l.2, r.2),
      )

  -- linked nets are all in one component of the order, or are one net on no device
  within : (x : ℕ) (xs : List ℕ) → Inner c x → Distinct xs → Every (Linked c x) xs → Every (λ n. n ≤ 24) sizes
      → (x < 128) ⊎ (128 ≤ x) → length xs ≤ 24
  within x xs i d e small (inl lo) =
      let p = part order x (E.all x i (omega arith)) in
      let C = every_in (Component c) order p.0 E.components p.1 in
      let n = every_in (λ n. n ≤ 24) sizes (length p.0) small (subst (In (length p.0)) (sym are) (size_in order p.0 p.1)) in
      let f = few xs p.0 d (λ v k. (C.nets v).1 (linked_on c ((C.nets x).0 p.2) (every_in (Linked c x) xs v e k))) in
      omega (arith, f, n)
  within x xs i d e small (inr hi) =
      let alone : (v : ℕ) → In v xs → In v (x ∷ []) =
      λ v k. ⊎_elim (λ q. inl (sym q)) (λ q. absurd (omega arith)) (linked_low c low (every_in (Linked c x) xs v e k)) in
      let f : length xs ≤ 1 = few xs (x ∷ []) d alone in
      omega arith

  pub not_too_large : NoneLarge sizes → ¬ (TooLarge c)
  not_too_large small t = go t.0 t.1 t.2 t.3 t.4
    where
      go : (x : ℕ) (xs : List ℕ) → Distinct xs → Every (Linked c x) xs → 24 < length xs → ⊥
      go x [] d e h = absurd (omega arith)
      go x (z ∷ zs) d e h =
          let s = every_from_places (λ n. n ≤ 24) sizes 0 small in
          omega (arith, within x (z ∷ zs) (first_inner c e.0) d e s (cases_lt x 128))

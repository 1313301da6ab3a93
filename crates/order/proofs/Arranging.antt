-- Components placed one after another: the next one keeps the order, and there is room for all. Assumes nothing.
use Rattle.std.proofs.Common.{◌≡◌, ℕ, ◌+◌, ◌<◌, ◌≤◌, Bool, true, false, cond, get_or, ◌↔◌, None, Some, List, [], ◌∷◌, ◌++◌, map, length, set, sym, refl, ap, ◌∙◌, subst, inl, inr, ⊎_elim, arith, length-append}
use Rattle.std.proofs.lemmas.List.{get_or_past, map_push, flat_map_more, length-map, length_push}
use Rattle.std.proofs.lemmas.Bool.{both_ways, cases_lt}
use Rattle.std.proofs.lemmas.Option.{none-some, same_Some}
use Rattle.cell.specs.declared.Device.{Device}
use Rattle.cell.specs.Lists.{In, Every, Distinct}
use Rattle.cell.specs.Waiting.{nets_of}
use Rattle.order.specs.declared.labels.Labels.{Labels}
use Rattle.order.specs.Components.{label_of}
use Rattle.order.specs.Placing.{nets_with, marked, IsComponent, Unplaced, EndsIn, After, Arranged}
use Rattle.cell.proofs.Along.{along_push}
use Rattle.cell.proofs.Members.{in_left, in_right, in_parts, in_push, every_in}
use Rattle.order.proofs.Nets.{few_nets, rising_distinct, nets_rising, nets_are, nets_all}
use Rattle.order.proofs.Blocking.{mark_here, mark_kept, mark_cases}

-- lists with one more element at the end
every_push : {X : Type 0} (Q : X → Type 0) (xs : List X) (y : X) → Every Q xs → Q y → Every Q (xs ++ y ∷ [])
every_push Q [] y e q = (q, tt)
every_push Q (x ∷ xs) y e q = (e.0, every_push Q xs y e.1 q)

distinct_append : (xs ys : List ℕ) → Distinct xs → Distinct ys → ((x : ℕ) → In x xs → ¬ (In x ys)) → Distinct (xs ++ ys)
distinct_append [] ys d e f = e
distinct_append (x ∷ xs) ys d e f = (
  (λ h. ⊎_elim (λ k. d.0 k) (λ k. f x (inl refl) k) (in_parts x xs ys h)),
  distinct_append xs ys d.1 e (λ z h. f z (inr h)),
)

module _ (labels : Labels) where
  -- the nets of the components are those with their labels
  pub nets_labels : (ls : List ℕ) (x : ℕ) → In x (nets_of (map (nets_with labels) ls))
      → (x < 128) × ((l : ℕ) × (label_of labels x ≡ Some l) × In l ls)
  nets_labels [] x h = absurd h
  nets_labels (l ∷ ls) x h =
      ⊎_elim
      (λ k. let r = nets_are labels l x k in (r.0, (l, r.1, inl refl)))
      (λ k. let r = nets_labels ls x k in (r.0, (r.1.0, r.1.1, inr r.1.2)))
      (in_parts x (nets_with labels l) (nets_of (map (nets_with labels) ls)) h)

  pub labels_nets : (ls : List ℕ) (x l : ℕ) → x < 128 → label_of labels x ≡ Some l → In l ls → In x (nets_of (map (nets_with labels) ls))
  labels_nets [] x l lo e h = h
  labels_nets (k ∷ ls) x l lo e (inl q) =
      in_left x (nets_with labels k) (nets_of (map (nets_with labels) ls)) (nets_all labels k x lo (e ∙ ap Some q))
  labels_nets (k ∷ ls) x l lo e (inr h) = in_right x (nets_with labels k) (nets_of (map (nets_with labels) ls)) (labels_nets ls x l lo e h)

  pub nets_distinct : (ls : List ℕ) → Distinct ls → Distinct (nets_of (map (nets_with labels) ls))
  nets_distinct [] d = tt
  nets_distinct (l ∷ ls) d =
      distinct_append (nets_with labels l) (nets_of (map (nets_with labels) ls))
      (rising_distinct (nets_with labels l) (nets_rising labels l)) (nets_distinct ls d.1)
      (λ x h k.
      let r = (nets_labels ls x k).1 in
      d.0 (subst (λ v. In v ls) (same_Some r.0 l (sym r.1 ∙ (nets_are labels l x h).1)) r.2))

  nets_push : (ls : List ℕ) (l : ℕ) → nets_of (map (nets_with labels) (ls ++ l ∷ [])) ≡ nets_of (map (nets_with labels) ls) ++ nets_with labels l
  nets_push ls l =
      ap nets_of (map_push (nets_with labels) ls l)
      ∙ sym (flat_map_more (λ (ks : List ℕ). ks) [] (map (nets_with labels) ls) (nets_with labels l))

  sizes_push : (ls : List ℕ) (l : ℕ)
      → map length (map (nets_with labels) (ls ++ l ∷ [])) ≡ map length (map (nets_with labels) ls) ++ length (nets_with labels l) ∷ []
  sizes_push ls l = ap (map length) (map_push (nets_with labels) ls l) ∙ map_push length (map (nets_with labels) ls) (nets_with labels l)

  pub label_low : (x l : ℕ) → label_of labels x ≡ Some l → l ≤ 127
  label_low x l e = go (get_or labels.inner x false) e
    where
      low : get_or labels.numbers x 0 ≤ 127
      low =
          ⊎_elim (λ h. labels.low x 0 h) (λ h. subst (λ n. n ≤ 127) (sym (get_or_past labels.numbers x 0 h)) (omega arith)) (cases_lt x (length labels.numbers))

      go : (b : Bool) → cond b (Some (get_or labels.numbers x 0)) None ≡ Some l → l ≤ 127
      go false e = absurd (none-some l e)
      go true e = subst (λ n. n ≤ 127) (same_Some (get_or labels.numbers x 0) l e) low

  pub component_low : (l : ℕ) → IsComponent labels l → l < 128
  component_low l i = omega (arith, label_low l l i.own)

  few_components : (ls : List ℕ) → Distinct ls → Every (IsComponent labels) ls → length ls ≤ 128
  few_components ls d e = few_nets ls d (λ x h. component_low x (every_in (IsComponent labels) ls x e h))

  module _ (ds : List Device) (placed : List Bool) (nets sizes : List ℕ) (A : Arranged labels ds placed nets sizes) where
    pub sizes_few : length sizes ≤ 128
    sizes_few =
        omega (
          arith,
          ap length A.sizes_are,
          length-map (map (nets_with labels) A.components) length,
          length-map A.components (nets_with labels),
          few_components A.components A.distinct A.real,
        )

    module _ (l : ℕ) (u : Unplaced labels placed l) where
      more : List ℕ
      more = A.components ++ l ∷ []

      new : ¬ (In l A.components)
      new h = both_ways (marked placed l) u.unmarked ((A.marks l).0 h)

      more_distinct : Distinct more
      unfolding more
      more_distinct =
          distinct_append A.components (l ∷ []) A.distinct ((λ h. h), tt)
          (λ x h. elim [ inl e ↦ new (subst (λ v. In v A.components) e h) | inr k ↦ k ])

      more_real : Every (IsComponent labels) more
      unfolding more
      more_real = every_push (IsComponent labels) A.components l A.real u.component

      more_nets : nets ++ nets_with labels l ≡ nets_of (map (nets_with labels) more)
      unfolding more
      more_nets = ap (λ v. v ++ nets_with labels l) A.nets_are ∙ sym (nets_push A.components l)

      more_sizes : sizes ++ length (nets_with labels l) ∷ [] ≡ map length (map (nets_with labels) more)
      unfolding more
      more_sizes = ap (λ v. v ++ length (nets_with labels l) ∷ []) A.sizes_are ∙ sym (sizes_push A.components l)

      pub nets_room : length nets + length (nets_with labels l) ≤ 128
      nets_room =
          omega (
            arith,
            ap length more_nets,
            length-append nets (nets_with labels l),
            few_nets (nets_of (map (nets_with labels) more)) (nets_distinct more more_distinct) (λ x h. (nets_labels more x h).0),
          )

      pub sizes_room : length sizes < 128
      sizes_room =
          omega (
            arith,
            ap length more_sizes,
            length_push sizes (length (nets_with labels l)),
            length-map (map (nets_with labels) more) length,
            length-map more (nets_with labels),
            few_components more more_distinct more_real,
          )

      module _ (size : length placed ≡ 128) where
        more_marks : (k : ℕ) → In k more ↔ (marked (set placed l true) k ≡ true)
        unfolding more
        more_marks k = (
          (λ h.
              ⊎_elim
              (λ i. mark_kept placed l k low ((A.marks k).0 i))
              (λ e. subst (λ v. marked (set placed l true) v ≡ true) (sym e) (mark_here placed l low))
              (in_push k A.components l h)),
          λ e.
              ⊎_elim
              (λ q. in_right k A.components (l ∷ []) (inl (sym q)))
              (λ q. in_left k A.components (l ∷ []) ((A.marks k).1 q))
              (mark_cases placed l k e),
        )
          where
            low : l < length placed
            low = omega (arith, component_low l u.component)

        -- a component whose gates are sources or in placed components comes next
        pub arranged_more : ((d : Device) → In d ds → EndsIn labels d l → (g : ℕ) → label_of labels d.gate ≡ Some g → marked placed g ≡ true)
            → Arranged labels ds (set placed l true) (nets ++ nets_with labels l) (sizes ++ length (nets_with labels l) ∷ [])
        unfolding more
        arranged_more free =
            record {
              components = more;
              nets_are = more_nets;
              sizes_are = more_sizes;
              distinct = more_distinct;
              real = more_real;
              marks = more_marks;
              after =
                  along_push (After labels ds) [] A.components l A.after
                  (λ d h e g q. (A.marks g).1 (free d h e g q));
            }

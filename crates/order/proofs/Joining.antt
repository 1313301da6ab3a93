-- Labels while components are joined, and what they say of linked nets in the end. Assumes nothing.
use Rattle.std.proofs.Common.{◌≡◌, ℕ, ◌+◌, ◌<◌, ◌≤◌, ◌≢◌, ◌⊎◌, None, Some, List, [], ◌∷◌, ◌++◌, length, get_or, take, sym, refl, ap, ◌∙◌, subst, inl, inr, ⊎_elim}
use Rattle.std.proofs.lemmas.List.{take_more, take_all}
use Rattle.std.proofs.lemmas.Option.{none-some, same_Some}
use Rattle.cell.specs.declared.Device.{Device}
use Rattle.cell.specs.Lists.{In}
use Rattle.cell.specs.Circuits.{Drawn}
use Rattle.cell.specs.Waiting.{Inner, Links, Linked}
use Rattle.cell.specs.Waiting.Linked.{self, link}
use Rattle.order.proofs.Tests.{same_label, renamed_from, renamed_other}
use Rattle.order.specs.declared.labels.Labels.{Labels}
use Rattle.order.specs.Labels.{renamed}
use Rattle.order.specs.Components.{label_of, Labelled}
use Rattle.cell.proofs.Members.{in_push}
use Rattle.order.proofs.Linking.{Low, first_inner, linked_on, linked_back, linked_ends, end_low}

-- a label that there is, is an inner net's
pub inner_label : (c : Drawn) (ds : List Device) (labels : Labels) → Labelled c ds labels → (x l : ℕ) → label_of labels x ≡ Some l → Inner c x
inner_label c ds labels L x l e s = none-some l (sym (L.source x s) ∙ e)

pub label_linked : (c : Drawn) (ds : List Device) (labels : Labels) → Labelled c ds labels → (x l : ℕ) → x ≤ 127 → label_of labels x ≡ Some l → Linked c x l
label_linked c ds labels L x l lo e =
    let n = L.inner x lo (inner_label c ds labels L x l e) in
    subst (Linked c x) (same_Some n.0 l (sym n.1 ∙ e)) n.2

renamed_to : (from to : ℕ) → renamed from to (Some to) ≡ Some to
renamed_to from to = ⊎_elim (renamed_from from to (Some to)) (renamed_other from to (Some to)) (same_label (Some to) from)

-- where one component is joined to another
abbrev pub Renames : ℕ → ℕ → Labels → Labels → Type 0
Renames from to before after = (x : ℕ) → label_of after x ≡ renamed from to (label_of before x)

-- the ends of one more device get one label
module _ (c : Drawn) (low : Low c.body) (ds : List Device) (labels : Labels) (L : Labelled c ds labels)
    (d : Device) (here : In d c.body) where
  -- nothing is to do where the ends have one label
  pub joined_same : label_of labels d.left ≡ label_of labels d.right → Labelled c (ds ++ d ∷ []) labels
  joined_same q = record { source = L.source; inner = L.inner; joined = λ e h i j. go e i j (in_push e ds d h) }
    where
      go : (e : Device) → Inner c e.left → Inner c e.right → In e ds ⊎ (e ≡ d) → label_of labels e.left ≡ label_of labels e.right
      go e i j (inl h) = L.joined e h i j
      go e i j (inr p) = subst (λ (v : Device). label_of labels v.left ≡ label_of labels v.right) (sym p) q

  -- or where an end is a source
  pub joined_source : (label_of labels d.left ≡ None) ⊎ (label_of labels d.right ≡ None) → Labelled c (ds ++ d ∷ []) labels
  joined_source z = record { source = L.source; inner = L.inner; joined = λ e h i j. go e i j z (in_push e ds d h) }
    where
      not_inner : (x : ℕ) → (d.left ≡ x) ⊎ (d.right ≡ x) → Inner c x → ¬ (label_of labels x ≡ None)
      not_inner x end i z = let n = L.inner x (end_low c low d x here end) i in none-some n.0 (sym z ∙ n.1)

      go : (e : Device) → Inner c e.left → Inner c e.right → (label_of labels d.left ≡ None) ⊎ (label_of labels d.right ≡ None)
          → In e ds ⊎ (e ≡ d) → label_of labels e.left ≡ label_of labels e.right
      go e i j z (inl h) = L.joined e h i j
      go e i j (inl z) (inr p) = absurd (not_inner d.left (inl refl) (subst (λ (v : Device). Inner c v.left) p i) z)
      go e i j (inr z) (inr p) = absurd (not_inner d.right (inr refl) (subst (λ (v : Device). Inner c v.right) p j) z)

  module _ (from to : ℕ) (left : label_of labels d.left ≡ Some from) (right : label_of labels d.right ≡ Some to)
      (after : Labels) (renames : Renames from to labels after) where
    left_low : d.left ≤ 127
    left_low = end_low c low d d.left here (inl refl)

    right_low : d.right ≤ 127
    right_low = end_low c low d d.right here (inr refl)

    ends : Linked c from to
    ends =
        let i = inner_label c ds labels L d.left from left in
        let j = inner_label c ds labels L d.right to right in
        linked_on c (linked_back c (label_linked c ds labels L d.left from left_low left)) (linked_on c (linked_ends c d here i j) (label_linked c ds labels L d.right to right_low right))

    -- a label is still there, or is now the other
    moves : (x l : ℕ) → x ≤ 127 → label_of labels x ≡ Some l → (label_of labels x ≡ Some from) ⊎ (label_of labels x ≢ Some from)
        → (m : ℕ) × (label_of after x ≡ Some m) × Linked c x m
    moves x l lo e (inl q) =
        (to, renames x ∙ renamed_from from to (label_of labels x) q, linked_on c (label_linked c ds labels L x from lo q) ends)
    moves x l lo e (inr n) =
        (l, renames x ∙ (renamed_other from to (label_of labels x) n ∙ e), label_linked c ds labels L x l lo e)

    pub joined_ends : Labelled c (ds ++ d ∷ []) after
    joined_ends =
        record {
          source = λ x s. renames x ∙ ap (renamed from to) (L.source x s);
          inner = λ x lo i. let n = L.inner x lo i in moves x n.0 lo n.1 (same_label (label_of labels x) from);
          joined = λ e h i j. go e i j (in_push e ds d h);
        }
      where
        go : (e : Device) → Inner c e.left → Inner c e.right → In e ds ⊎ (e ≡ d) → label_of after e.left ≡ label_of after e.right
        go e i j (inl h) = renames e.left ∙ (ap (renamed from to) (L.joined e h i j) ∙ sym (renames e.right))
        go e i j (inr p) =
            subst (λ (v : Device). label_of after v.left ≡ label_of after v.right) (sym p)
            (renames d.left
            ∙ (renamed_from from to (label_of labels d.left) left
            ∙ sym (renames d.right ∙ (ap (renamed from to) right ∙ renamed_to from to))))

-- devices gone through in the circuit's order
module _ (c : Drawn) (labels : Labels) (k : ℕ) where
  pub one_more : (d : Device) → k < length c.body → Labelled c (take k c.body ++ get_or c.body k d ∷ []) labels
      → Labelled c (take (k + 1) c.body) labels
  one_more d h L = subst (λ ds. Labelled c ds labels) (sym (take_more c.body k d h)) L

  pub all_through : length c.body ≤ k → Labelled c (take k c.body) labels → Labelled c c.body labels
  all_through h L = subst (λ ds. Labelled c ds labels) (take_all k c.body h) L

-- what the labels say when every device is gone through
module _ (c : Drawn) (low : Low c.body) (labels : Labels) (L : Labelled c c.body labels) where
  pub linked_same : {x y : ℕ} → Linked c x y → label_of labels x ≡ label_of labels y
  linked_same (self i) = refl
  linked_same (link {x = x} {y = y} d i h l r) = go l ∙ linked_same r
    where
      go : Links d x y → label_of labels x ≡ label_of labels y
      go (inl e) =
          ap (label_of labels) (sym e.0)
          ∙ (L.joined d h (subst (Inner c) (sym e.0) i) (subst (Inner c) (sym e.1) (first_inner c r)) ∙ ap (label_of labels) e.1)
      go (inr e) =
          ap (label_of labels) (sym e.1)
          ∙ (sym (L.joined d h (subst (Inner c) (sym e.0) (first_inner c r)) (subst (Inner c) (sym e.1) i)) ∙ ap (label_of labels) e.0)

  -- inner nets with one label
  pub same_linked : (x y l : ℕ) → x ≤ 127 → y ≤ 127 → label_of labels x ≡ Some l → label_of labels y ≡ Some l → Linked c x y
  same_linked x y l lo lo' e f = linked_on c (label_linked c c.body labels L x l lo e) (linked_back c (label_linked c c.body labels L y l lo' f))

  -- the label of a net is labelled by itself
  pub own_label : (x l : ℕ) → x ≤ 127 → label_of labels x ≡ Some l → label_of labels l ≡ Some l
  own_label x l lo e = sym (linked_same (label_linked c c.body labels L x l lo e)) ∙ e

-- Which components are blocked, as one device after another is gone through. Assumes nothing.
use Rattle.std.proofs.Common.{◌≡◌, ℕ, ◌+◌, ◌<◌, Bool, true, false, ◌⊎◌, Option, Some, List, [], ◌∷◌, ◌++◌, length, get_or, take, set, replicate, Decides, sym, refl, ◌∙◌, subst, inl, inr, ⊎_elim}
use Rattle.std.proofs.lemmas.List.{get_or-set_same, get_or-set_other, take_more}
use Rattle.std.proofs.lemmas.Bool.{both_ways}
use Rattle.cell.specs.declared.Device.{Device}
use Rattle.cell.specs.Lists.{In}
use Rattle.cell.proofs.Finite.{same}
use Rattle.order.specs.declared.labels.Labels.{Labels}
use Rattle.order.specs.Components.{label_of}
use Rattle.order.specs.Placing.{marked, Pending, EndsIn, Blocked}
use Rattle.cell.proofs.Members.{in_left, in_right, in_push}
use Rattle.order.proofs.Members.{get_or_replicated}

pub mark_here : (table : List Bool) (k : ℕ) → k < length table → marked (set table k true) k ≡ true
mark_here table k h = get_or-set_same table k true false h

pub mark_kept : (table : List Bool) (k l : ℕ) → k < length table → marked table l ≡ true → marked (set table k true) l ≡ true
mark_kept table k l h e =
    ⊎_elim
    (λ p. subst (λ v. marked (set table k true) v ≡ true) (sym p) (mark_here table k h))
    (λ ne. get_or-set_other table k l true false ne ∙ e)
    (same l k)

pub mark_cases : (table : List Bool) (k l : ℕ) → marked (set table k true) l ≡ true → (k ≡ l) ⊎ (marked table l ≡ true)
mark_cases table k l e = ⊎_elim (λ p. inl (sym p)) (λ ne. inr (sym (get_or-set_other table k l true false ne) ∙ e)) (same l k)

-- what `mark` does
abbrev pub MarksAlso : Option ℕ → List Bool → List Bool → Type 0
MarksAlso label before after = (l : ℕ) → Decides (marked after l) ((label ≡ Some l) ⊎ (marked before l ≡ true))

module _ (labels : Labels) (placed : List Bool) where
  -- a table that marks the components blocked by the devices
  abbrev pub Marks : List Device → List Bool → Type 0
  Marks ds table = (l : ℕ) → Decides (marked table l) (Blocked labels ds placed l)

  pub blocked_none : Marks [] (replicate 128 false)
  blocked_none l = ((λ e. absurd (both_ways (marked (replicate 128 false) l) (get_or_replicated 128 l false) e)), λ b. absurd b.among)

  further : (ds : List Device) (d : Device) (l : ℕ) → Blocked labels ds placed l → Blocked labels (ds ++ d ∷ []) placed l
  further ds d l b = record { device = b.device; among = in_left b.device ds (d ∷ []) b.among; end = b.end; gate = b.gate }

  before : (ds : List Device) (d : Device) (l : ℕ) (b : Blocked labels (ds ++ d ∷ []) placed l) → In b.device ds → Blocked labels ds placed l
  before ds d l b h = record { device = b.device; among = h; end = b.end; gate = b.gate }

  pub blocked_skip : (ds : List Device) (d : Device) (table : List Bool) → ¬ (Pending labels placed d) → Marks ds table
      → Marks (ds ++ d ∷ []) table
  blocked_skip ds d table none m l = (
    (λ e. further ds d l ((m l).0 e)),
    λ b.
        ⊎_elim
        (λ h. (m l).1 (before ds d l b h))
        (λ p. absurd (none (subst (Pending labels placed) p b.gate)))
        (in_push b.device ds d b.among),
  )

  -- both ends are marked
  pub blocked_mark : (ds : List Device) (d : Device) (table half full : List Bool) → Pending labels placed d → Marks ds table
      → MarksAlso (label_of labels d.left) table half → MarksAlso (label_of labels d.right) half full → Marks (ds ++ d ∷ []) full
  blocked_mark ds d table half full p m left right l = (told, back)
    where
      here : EndsIn labels d l → Blocked labels (ds ++ d ∷ []) placed l
      here e = record { device = d; among = in_right d ds (d ∷ []) (inl refl); end = e; gate = p }

      told : marked full l ≡ true → Blocked labels (ds ++ d ∷ []) placed l
      told e =
          ⊎_elim
          (λ q. here (inr q))
          (λ f. ⊎_elim (λ q. here (inl q)) (λ g. further ds d l ((m l).0 g)) ((left l).0 f))
          ((right l).0 e)

      at : EndsIn labels d l → marked full l ≡ true
      at (inl e) = (right l).1 (inr ((left l).1 (inl e)))
      at (inr e) = (right l).1 (inl e)

      back : Blocked labels (ds ++ d ∷ []) placed l → marked full l ≡ true
      back b =
          ⊎_elim
          (λ h. (right l).1 (inr ((left l).1 (inr ((m l).1 (before ds d l b h))))))
          (λ q. at (subst (λ (v : Device). EndsIn labels v l) q b.end))
          (in_push b.device ds d b.among)

  -- the device at k is gone through
  module _ (ds : List Device) (k : ℕ) (d : Device) (table : List Bool) (h : k < length ds) (m : Marks (take k ds) table) where
    pub skipped : ¬ (Pending labels placed (get_or ds k d)) → Marks (take (k + 1) ds) table
    skipped none = subst (λ v. Marks v table) (sym (take_more ds k d h)) (blocked_skip (take k ds) (get_or ds k d) table none m)

    pub marked_ends : (half full : List Bool) → Pending labels placed (get_or ds k d)
        → MarksAlso (label_of labels (get_or ds k d).left) table half → MarksAlso (label_of labels (get_or ds k d).right) half full
        → Marks (take (k + 1) ds) full
    marked_ends half full p left right =
        subst (λ v. Marks v full) (sym (take_more ds k d h)) (blocked_mark (take k ds) (get_or ds k d) table half full p m left right)

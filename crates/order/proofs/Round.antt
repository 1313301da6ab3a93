-- One round of placing components: what holds while one label after another is gone to. Assumes nothing.
use Rattle.std.proofs.Common.{◌≡◌, ℕ, ◌+◌, ◌<◌, ◌≤◌, Bool, true, false, Some, List, [], ◌∷◌, ◌++◌, length, set, Decides, sym, ◌∙◌, subst, ⊎_elim, arith}
use Rattle.std.proofs.lemmas.List.{length-set, length_push}
use Rattle.std.proofs.lemmas.Bool.{both_ways, cases_Bool, true≢false}
use Rattle.cell.specs.declared.Device.{Device}
use Rattle.cell.specs.Lists.{In}
use Rattle.cell.proofs.Finite.{same}
use Rattle.order.specs.declared.labels.Labels.{Labels}
use Rattle.order.specs.Components.{label_of}
use Rattle.order.specs.Placing.{nets_with, marked, Unplaced, EndsIn, Blocked, Arranged}
use Rattle.order.proofs.Blocking.{mark_kept}
use Rattle.order.proofs.Arranging.{component_low, arranged_more}

-- the labels below `upto` are gone to; `before` has what was placed when the round began, and `had` how many components that were
pub record Round (labels : Labels) (ds : List Device) (blocked before : List Bool) (had upto : ℕ) (placed : List Bool)
    (nets sizes : List ℕ) (any : Bool) : Type 0 where
  pub size : length placed ≡ 128
  pub arranged : Arranged labels ds placed nets sizes
  pub grown : (k : ℕ) → marked before k ≡ true → marked placed k ≡ true
  pub least : had ≤ length sizes
  pub more : any ≡ true → had < length sizes
  pub idle : any ≡ false → (placed ≡ before) × ((k : ℕ) → k < upto → Unplaced labels before k → marked blocked k ≡ true)

pub round_same : {labels : Labels} {ds : List Device} {blocked before : List Bool} {had upto : ℕ} {placed placed' : List Bool}
    {nets nets' sizes sizes' : List ℕ} {any any' : Bool}
    → placed' ≡ placed → nets' ≡ nets → sizes' ≡ sizes → any' ≡ any → Round labels ds blocked before had upto placed nets sizes any
    → Round labels ds blocked before had upto placed' nets' sizes' any'
round_same {labels} {ds} {blocked} {before} {had} {upto} {placed} {placed'} {nets} {nets'} {sizes} {sizes'} {any} {any'} p n s a R =
    subst (λ v. Round labels ds blocked before had upto v nets' sizes' any') (sym p)
    (subst (λ v. Round labels ds blocked before had upto placed v sizes' any') (sym n)
    (subst (λ v. Round labels ds blocked before had upto placed nets v any') (sym s)
    (subst (Round labels ds blocked before had upto placed nets sizes) (sym a) R)))

module _ (labels : Labels) (ds : List Device) (blocked before : List Bool)
    (blocks : (l : ℕ) → Decides (marked blocked l) (Blocked labels ds before l)) (had : ℕ) where
  module _ (upto : ℕ) (placed : List Bool) (nets sizes : List ℕ) (any : Bool)
      (R : Round labels ds blocked before had upto placed nets sizes any) where
    pub round_passes : (Unplaced labels placed upto → marked blocked upto ≡ true)
        → Round labels ds blocked before had (upto + 1) placed nets sizes any
    round_passes f =
        record {
          size = R.size;
          arranged = R.arranged;
          grown = R.grown;
          least = R.least;
          more = R.more;
          idle = λ e. ((R.idle e).0, λ k lt u. ⊎_elim (λ p. here e k u p) (λ ne. (R.idle e).1 k (omega arith) u) (same k upto));
        }
      where
        here : any ≡ false → (k : ℕ) → Unplaced labels before k → k ≡ upto → marked blocked k ≡ true
        here e k u p =
            subst (λ v. marked blocked v ≡ true) (sym p)
            (f (subst (λ b. Unplaced labels b upto) (sym (R.idle e).0) (subst (Unplaced labels before) p u)))

    -- a component that is not blocked waits for placed ones alone
    free : (l : ℕ) → marked blocked l ≡ false → (d : Device) → In d ds → EndsIn labels d l → (g : ℕ) → label_of labels d.gate ≡ Some g
        → marked placed g ≡ true
    free l n d h e g q =
        ⊎_elim (R.grown g) (λ f. absurd (both_ways (marked blocked l) n ((blocks l).1 (stands f)))) (cases_Bool (marked before g))
      where
        stands : marked before g ≡ false → Blocked labels ds before l
        stands f = record { device = d; among = h; end = e; gate = record { component = g; gate = q; unmarked = f } }

    pub round_places : Unplaced labels placed upto → marked blocked upto ≡ false
        → Round labels ds blocked before had (upto + 1) (set placed upto true) (nets ++ nets_with labels upto)
        (sizes ++ length (nets_with labels upto) ∷ []) true
    round_places u n =
        record {
          size = length-set placed upto true ∙ R.size;
          arranged = arranged_more labels ds placed nets sizes R.arranged upto u R.size (free upto n);
          grown = λ k h. mark_kept placed upto k low (R.grown k h);
          least = omega (arith, R.least, length_push sizes (length (nets_with labels upto)));
          more = λ _. omega (arith, R.least, length_push sizes (length (nets_with labels upto)));
          idle = λ e. absurd (true≢false e);
        }
      where
        low : upto < length placed
        low = omega (arith, R.size, component_low labels upto u.component)

-- That a component can be formed has one proof at most, which a ghost field needs. Assumes nothing.
use Rattle.std.specs.Prelude.{ℕ, List, [], ◌∷◌, refl}
use Rattle.std.specs.Coded.{le_prop}
use mathlib.Core.HLevel.{⊥_prop}
use Rattle.cell.specs.Lists.{Distinct}
use Rattle.cell.specs.Circuits.{Numbered}
use Rattle.forming.specs.Systems.{Formable}

distinct_prop : (ks : List ℕ) → IsProp (Distinct ks)
distinct_prop [] p q = refl
distinct_prop (k ∷ ks) p q = λ i. ((λ h. ⊥_prop (p.0 h) (q.0 h) i), distinct_prop ks p.1 q.1 i)

numbered_prop : (ks : List ℕ) → IsProp (Numbered ks)
numbered_prop [] p q = refl
numbered_prop (k ∷ ks) p q = λ i. (le_prop p.0 q.0 i, numbered_prop ks p.1 q.1 i)

pub formable_prop : (ks : List ℕ) → IsProp (Formable ks)
formable_prop ks p q = λ i. record {
  distinct = distinct_prop ks p.distinct q.distinct i;
  numbered = numbered_prop ks p.numbered q.numbered i;
  few = le_prop p.few q.few i;
}

-- What holds along a list, with one element more at its end. Assumes nothing.
use Rattle.std.proofs.Common.{List, [], ◌∷◌, ◌++◌, sym, subst, append_assoc, append-nil}
use Rattle.cell.specs.Lists.{Along}

pub along_push : {X : Type 0} (Q : List X → X → Type 0) (earlier xs : List X) (x : X) → Along Q earlier xs → Q (earlier ++ xs) x → Along Q earlier (xs ++ x ∷ [])
along_push Q earlier [] x a q = (subst (λ l. Q l x) (append-nil earlier) q, tt)
along_push Q earlier (y ∷ ys) x a q = (a.0, along_push Q (earlier ++ y ∷ []) ys x a.1 (subst (λ l. Q l x) (sym (append_assoc earlier (y ∷ []) ys)) q))

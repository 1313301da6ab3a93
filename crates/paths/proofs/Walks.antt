-- Walks: rows of nets that may come twice. A walk is worth no more than the path left when its loops are cut out. Assumes nothing.
use Rattle.std.proofs.Common.{◌≡◌, ℕ, ◌<◌, ◌⊎◌, List, [], ◌∷◌, ◌++◌, sym, refl, ap, ◌∙◌, subst, inl, inr}
use Rattle.cell.specs.Lists.{In, Every}
use Rattle.cell.proofs.Finite.{dec_in}
use Rattle.algebra.specs.Chain.{Chain, Laws}
use Rattle.paths.specs.Paths.{Under, System, IsPath, worth}
use Rattle.paths.proofs.ChainOrder.{under_refl, under_trans, under_of_eq, meet_mono_right, meet_under_right}

-- the links, with a column of values in place of the own values
abbrev pub ending : {V : Type 0} → (ℕ → ℕ → V) → (ℕ → V) → System V
ending link last = record { link = link; own = last }

-- a walk to k and one from k are one walk
pub worth_append : {V : Type 0} {A : Chain V} → Laws A → (link : ℕ → ℕ → V) (last : ℕ → V) (i : ℕ) (ns : List ℕ) (k : ℕ) (ms : List ℕ)
    → A.meet (worth A (ending link (λ n. link n k)) i ns) (worth A (ending link last) k ms) ≡ worth A (ending link last) i (ns ++ (k ∷ ms))
worth_append L link last i [] k ms = refl
worth_append {A = A} L link last i (n ∷ ns) k ms = L.meet_assoc _ _ _ ∙ ap (A.meet (link i n)) (worth_append L link last n ns k ms)

module _ {V : Type 0} {A : Chain V} (L : Laws A) (m : ℕ) (S : System V) where
  -- a path from i that is worth at least x
  Better : ℕ → V → Type 0
  Better i x = (ss : List ℕ) × IsPath m i ss × Under A x (worth A S i ss)

  -- the part of a path from the place where i stands
  rest_from : (i n : ℕ) (ns : List ℕ) → In i (n ∷ ns) → IsPath m n ns → Better i (worth A S n ns)
  unfolding Better
  rest_from i n ns (inl e) p = (ns, subst (λ x. IsPath m x ns) (sym e) p, under_of_eq L _ _ (ap (λ x. worth A S x ns) (sym e)))
  rest_from i n [] (inr h) p = absurd h
  rest_from i n (k ∷ ns) (inr h) p =
      let r = rest_from i k ns h (record { within = p.within.1; distinct = p.distinct.1 }) in
      (r.0, r.1, under_trans L (meet_under_right L (S.link n k) (worth A S k ns)) r.2)

  pub cut : (i : ℕ) (ns : List ℕ) → i < m → Every (λ n. n < m) ns → (ss : List ℕ) × IsPath m i ss × Under A (worth A S i ns) (worth A S i ss)
  unfolding Better
  cut i [] hi h = ([], record { within = (hi, tt); distinct = ((λ x. x), tt) }, under_refl L _)
  cut i (n ∷ ns) hi h = go (cut n ns h.0 h.1)
    where
      pick : (ss : List ℕ) → IsPath m n ss → Under A (worth A S n ns) (worth A S n ss) → In i (n ∷ ss) ⊎ (¬ (In i (n ∷ ss)))
          → (ts : List ℕ) × IsPath m i ts × Under A (worth A S i (n ∷ ns)) (worth A S i ts)
      pick ss p u (inl at) =
          let r = rest_from i n ss at p in
          (r.0, r.1, under_trans L (meet_under_right L (S.link i n) _) (under_trans L u r.2))
      pick ss p u (inr off) = (n ∷ ss, record { within = (hi, p.within); distinct = (off, p.distinct) }, meet_mono_right L (S.link i n) u)

      go : (ss : List ℕ) × IsPath m n ss × Under A (worth A S n ns) (worth A S n ss) → (ts : List ℕ) × IsPath m i ts × Under A (worth A S i (n ∷ ns)) (worth A S i ts)
      go r = pick r.0 r.1 r.2 (dec_in i (n ∷ r.0))

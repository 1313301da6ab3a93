-- Whether a path of devices with a property leads to a source with another is found by search. Assumes nothing.
use Rattle.std.proofs.Common.{◌≡◌, ℕ, zero, suc, ◌<◌, ◌≤◌, Bool, false, not, ◌&&◌, ◌||◌, eqb, ◌⊎◌, List, [], ◌∷◌, length, sym, refl, ap, ◌∙◌, subst, inl, inr, suc-le-suc, zero-le, le_of_suc-le-suc, arith}
use Rattle.cell.specs.declared.Device.{Device}
use Rattle.cell.specs.Lists.{In, Every}
use Rattle.cell.specs.Circuits.{Drawn}
use Rattle.cell.specs.Waiting.{Source, Inner, Links}
use Rattle.cell.specs.States.{Path, Way}
use Rattle.cell.specs.States.Path.{last, step}
use Rattle.cell.proofs.Finite.{few}
use Rattle.meaning.proofs.Truth.{Tells, tells_map, tells_no, tells_not, tells_and, tells_or, tells_equal}
use Rattle.meaning.proofs.Truth.{among, tells_among, Any, any_of, tells_any}
use Rattle.meaning.proofs.Paths.{source_test, tells_source, path_start, path_distinct}

-- whether some net at the other end of a device has a property
abbrev far : (ℕ → Bool) → Device → ℕ → Bool
far w d x = (eqb d.left x && w d.right) || (eqb d.right x && w d.left)

abbrev Far : (ℕ → Type 0) → Device → ℕ → Type 0
Far W d x = (z : ℕ) × Links d x z × W z

tells_far : (w : ℕ → Bool) (W : ℕ → Type 0) → ((z : ℕ) → Tells (w z) (W z)) → (d : Device) (x : ℕ) → Tells (far w d x) (Far W d x)
tells_far w W t d x =
    tells_map join (λ f. split f.0 f.1 f.2)
    (tells_or (eqb d.left x && w d.right) (eqb d.right x && w d.left)
    (tells_and (eqb d.left x) (w d.right) (tells_equal d.left x) (t d.right))
    (tells_and (eqb d.right x) (w d.left) (tells_equal d.right x) (t d.left)))
  where
    Ends : Type 0
    Ends = ((d.left ≡ x) × W d.right) ⊎ ((d.right ≡ x) × W d.left)

    join : Ends → Far W d x
    join (inl p) = (d.right, inl (p.0, refl), p.1)
    join (inr p) = (d.left, inr (refl, p.0), p.1)

    split : (z : ℕ) → Links d x z → W z → Ends
    split z (inl l) h = inl (l.0, subst W (sym l.1) h)
    split z (inr l) h = inr (l.1, subst W (sym l.0) h)

-- the ends of devices
abbrev ends : List Device → List ℕ
ends [] = []
ends (d ∷ ds) = d.left ∷ d.right ∷ ends ds

end_in : (d : Device) (ds : List Device) (x y : ℕ) → In d ds → Links d x y → In x (ends ds)
end_in d [] x y h l = absurd h
end_in d (e ∷ ds) x y (inl p) (inl l) = inl (sym l.0 ∙ ap (λ (v : Device). v.left) p)
end_in d (e ∷ ds) x y (inl p) (inr l) = inr (inl (sym l.1 ∙ ap (λ (v : Device). v.right) p))
end_in d (e ∷ ds) x y (inr h) l = inr (inr (end_in d ds x y h l))

module _ (c : Drawn) where
  path_first : {x : ℕ} {xs : List ℕ} {ds : List Device} {y : ℕ} → Path c x xs ds y → In x xs
  path_first (last inn h l src) = inl refl
  path_first (step inn h l new p) = inl refl

  path_long : {x : ℕ} {xs : List ℕ} {ds : List Device} {y : ℕ} → Path c x xs ds y → 0 < length xs
  path_long (last inn h l src) = suc-le-suc zero-le
  path_long (step inn h l new p) = suc-le-suc zero-le

  path_ends : {x : ℕ} {xs : List ℕ} {ds : List Device} {y : ℕ} → Path c x xs ds y → (z : ℕ) → In z xs → In z (ends c.body)
  path_ends (last {x = x} {y = y} {d = d} inn h l src) z (inl e) = subst (λ v. In v (ends c.body)) (sym e) (end_in d c.body x y h l)
  path_ends (last inn h l src) z (inr e) = absurd e
  path_ends (step {x = x} {z = w} {d = d} inn h l new p) z (inl e) = subst (λ v. In v (ends c.body)) (sym e) (end_in d c.body x w h l)
  path_ends (step inn h l new p) z (inr k) = path_ends p z k

  -- whether a path from x of at most k nets, none of them seen, by devices q leads to a source r
  abbrev search : (Device → Bool) → (ℕ → Bool) → ℕ → List ℕ → ℕ → Bool
  search q r zero seen x = false
  search q r (suc k) seen x =
      not (source_test c x) && (not (among x seen)
      && any_of (λ d. q d && far (λ z. (source_test c z && r z) || search q r k (x ∷ seen) z) d x) c.body)

  -- no path has more nets than the devices have ends
  abbrev pub leads : (Device → Bool) → (ℕ → Bool) → ℕ → Bool
  leads q r x = search q r (length (ends c.body)) [] x

  module _ (q : Device → Bool) (Q : Device → Type 0) (tq : (d : Device) → Tells (q d) (Q d))
      (r : ℕ → Bool) (R : ℕ → Type 0) (tr : (y : ℕ) → Tells (r y) (R y)) where
    -- such a path
    record Found (k : ℕ) (seen : List ℕ) (x : ℕ) : Type 0 where
      nets : List ℕ
      devices : List Device
      source : ℕ
      path : Path c x nets devices source
      by : Every Q devices
      at : R source
      unseen : (z : ℕ) → In z nets → ¬ (In z seen)
      short : length nets ≤ k

    -- after the first device comes the source, or the rest of the path
    abbrev Rest : ℕ → List ℕ → ℕ → Type 0
    Rest k seen z = (Source c z × R z) ⊎ Found k seen z

    abbrev First : ℕ → List ℕ → ℕ → Device → Type 0
    First k seen x d = Q d × Far (Rest k (x ∷ seen)) d x

    from_first : (k : ℕ) (seen : List ℕ) (x : ℕ) → Inner c x → ¬ (In x seen) → Any (First k seen x) c.body → Found (suc k) seen x
    from_first k seen x inn new a = go a.2.1.0 a.2.1.1 a.2.1.2
      where
        avoid : (xs : List ℕ) → ((z : ℕ) → In z xs → ¬ (In z (x ∷ seen))) → (z : ℕ) → In z (x ∷ xs) → ¬ (In z seen)
        avoid xs f z (inl e) h = new (subst (λ v. In v seen) e h)
        avoid xs f z (inr k) h = f z k (inr h)

        go : (z : ℕ) → Links a.0 x z → Rest k (x ∷ seen) z → Found (suc k) seen x
        go z l (inl s) = record {
          nets = x ∷ [];
          devices = a.0 ∷ [];
          source = z;
          path = last inn a.1 l s.0;
          by = (a.2.0, tt);
          at = s.1;
          unseen = avoid [] (λ w h. absurd h);
          short = suc-le-suc zero-le;
        }
        go z l (inr f) = record {
          nets = x ∷ f.nets;
          devices = a.0 ∷ f.devices;
          source = f.source;
          path = step inn a.1 l (λ h. f.unseen x h (inl refl)) f.path;
          by = (a.2.0, f.by);
          at = f.at;
          unseen = avoid f.nets f.unseen;
          short = suc-le-suc f.short;
        }

    to_first : (k : ℕ) (seen : List ℕ) {x : ℕ} {xs : List ℕ} {ds : List Device} {y : ℕ} → Path c x xs ds y → Every Q ds → R y
        → ((z : ℕ) → In z xs → ¬ (In z seen)) → length xs ≤ suc k → Any (First k seen x) c.body
    to_first k seen (last {y = y} {d = d} inn h l src) e r av le = (d, h, (e.0, (y, l, inl (src, r))))
    to_first k seen (step {x = x} {y = y} {z = z} {d = d} {xs = xs} {ds = ds} inn h l new p) e r av le = (d, h, (e.0, (z, l, inr rest)))
      where
        further : (w : ℕ) → In w xs → ¬ (In w (x ∷ seen))
        further w k (inl q) = new (subst (λ v. In v xs) q k)
        further w k (inr q) = av w (inr k) q

        rest : Found k (x ∷ seen) z
        rest = record { nets = xs; devices = ds; source = y; path = p; by = e.1; at = r; unseen = further; short = le_of_suc-le-suc le }

    tells_search : (k : ℕ) (seen : List ℕ) (x : ℕ) → Tells (search q r k seen x) (Found k seen x)
    tells_search zero seen x = tells_no (λ f. omega (arith, path_long f.path, f.short))
    tells_search (suc k) seen x =
        tells_map (λ p. from_first k seen x p.0 p.1.0 p.1.1) parts
        (tells_and (not (source_test c x)) _ (tells_not (source_test c x) (tells_source c x))
        (tells_and (not (among x seen)) _ (tells_not (among x seen) (tells_among x seen))
        (tells_any first (First k seen x) (λ d. tells_and (q d) (far rest d x) (tq d) (tells_far rest (Rest k (x ∷ seen))
        (λ z. tells_or (source_test c z && r z) (search q r k (x ∷ seen) z)
        (tells_and (source_test c z) (r z) (tells_source c z) (tr z)) (tells_search k (x ∷ seen) z))
        d x)) c.body)))
      where
        rest : ℕ → Bool
        rest z = (source_test c z && r z) || search q r k (x ∷ seen) z

        first : Device → Bool
        first d = q d && far rest d x

        parts : Found (suc k) seen x → Inner c x × ((¬ (In x seen)) × Any (First k seen x) c.body)
        parts f = (
          path_start c f.path,
          ((λ h. f.unseen x (path_first f.path) h), to_first k seen f.path f.by f.at f.unseen f.short),
        )

    pub tells_leads : (x : ℕ) → Tells (leads q r x) ((y : ℕ) × Way c Q x y × R y)
    tells_leads x = tells_map way found (tells_search (length (ends c.body)) [] x)
      where
        way : Found (length (ends c.body)) [] x → (y : ℕ) × Way c Q x y × R y
        way f = (f.source, (f.nets, f.devices, f.path, f.by), f.at)

        found : ((y : ℕ) × Way c Q x y × R y) → Found (length (ends c.body)) [] x
        found w = record {
          nets = w.1.0;
          devices = w.1.1;
          source = w.0;
          path = w.1.2;
          by = w.1.3;
          at = w.2;
          unseen = λ z h k. k;
          short = few w.1.0 (ends c.body) (path_distinct c w.1.2) (path_ends w.1.2);
        }

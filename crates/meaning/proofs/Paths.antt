-- Sources, and the nets and devices of a path. Assumes nothing.
use Rattle.std.proofs.Common.{◌≡◌, ℕ, Bool, ◌||◌, ltb, ◌⊎◌, List, inl, inr}
use Rattle.cell.specs.declared.Device.{Device}
use Rattle.cell.specs.Lists.{Every, Distinct}
use Rattle.cell.specs.Circuits.{Drawn}
use Rattle.cell.specs.Waiting.{Source, Inner, Links, Touches}
use Rattle.cell.specs.Waiting.Linked.{self, link}
use Rattle.cell.specs.States.{Path, Way}
use Rattle.cell.specs.States.Path.{last, step}
use Rattle.cell.proofs.Members.{every_map, every_both}
use Rattle.meaning.proofs.Truth.{Tells, either, among, tells_or, tells_less, tells_among}

module _ (c : Drawn) where
  -- whether a net is a source
  abbrev pub source_test : ℕ → Bool
  source_test x = ltb x 2 || among x c.ins

  pub tells_source : (x : ℕ) → Tells (source_test x) (Source c x)
  tells_source x = tells_or (ltb x 2) (among x c.ins) (tells_less x 2) (tells_among x c.ins)

  pub is_source_lem : (x : ℕ) → Source c x ⊎ Inner c x
  is_source_lem x = either (source_test x) (tells_source x)

  -- the devices of a path have an end in the component where it begins
  ends : (d : Device) (x y : ℕ) → Links d x y → (d.left ≡ x) ⊎ (d.right ≡ x)
  ends d x y (inl h) = inl h.0
  ends d x y (inr h) = inr h.1

  path_touches : {x : ℕ} {xs : List ℕ} {ds : List Device} {y : ℕ} → Path c x xs ds y → Every (Touches c x) ds
  path_touches (last {x = x} {y = y} {d = d} inn h l src) = (record { device = h; at = x; linked = self inn; end = ends d x y l }, tt)
  path_touches (step {x = x} {z = z} {d = d} {ds = ds} inn h l new p) = (
    record { device = h; at = x; linked = self inn; end = ends d x z l },
    every_map (λ e t. record { device = t.device; at = t.at; linked = link d inn h l t.linked; end = t.end }) ds (path_touches p),
  )

  pub path_start : {x : ℕ} {xs : List ℕ} {ds : List Device} {y : ℕ} → Path c x xs ds y → Inner c x
  path_start (last inn h l src) = inn
  path_start (step inn h l new p) = inn

  pub path_end : {x : ℕ} {xs : List ℕ} {ds : List Device} {y : ℕ} → Path c x xs ds y → Source c y
  path_end (last inn h l src) = src
  path_end (step inn h l new p) = path_end p

  pub path_distinct : {x : ℕ} {xs : List ℕ} {ds : List Device} {y : ℕ} → Path c x xs ds y → Distinct xs
  path_distinct (last inn h l src) = ((λ z. z), tt)
  path_distinct (step inn h l new p) = (new, path_distinct p)

  -- a way by devices of one property is a way by devices of another that each of them has
  pub way_map : (Q R : Device → Type 0) (x y : ℕ) → ((d : Device) → Touches c x d → Q d → R d) → Way c Q x y → Way c R x y
  way_map Q R x y f w = (w.0, w.1, w.2, every_both f w.1 (path_touches w.2) w.3)

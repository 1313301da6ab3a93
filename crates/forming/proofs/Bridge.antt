-- The join over all paths of a component's system is 1 exactly where a path of devices leads to a source. Assumes nothing.
use Rattle.std.proofs.Common.{◌≡◌, ℕ, ◌<◌, Bool, true, ◌↔◌, List, [], ◌∷◌, map, length, get_or, sym, refl, ap, ◌∙◌, subst, inl, inr, ⊎_elim}
use Rattle.cell.specs.declared.Device.{Device}
use Rattle.cell.specs.Lists.{In, Every}
use Rattle.cell.specs.Circuits.{Drawn}
use Rattle.cell.specs.Waiting.{Source, Inner, Links, Linked, Component}
use Rattle.cell.specs.Waiting.Linked.{self, link}
use Rattle.cell.specs.States.{Path, Way}
use Rattle.cell.specs.States.Path.{last, step}
use Rattle.algebra.specs.Chain.{Chain}
use Rattle.algebra.specs.Signals.{Boolean}
use Rattle.paths.specs.Paths.{System, IsPath, worth, JoinOfPaths}
use Rattle.forming.specs.Systems.{Stands}
use Rattle.cell.proofs.Members.{in_get_or, in_place}
use Rattle.forming.proofs.Places.{in_places}
use Rattle.order.proofs.Linking.{last_inner, linked_on}
use Rattle.meaning.proofs.Paths.{is_source_lem, path_start}
use Rattle.forming.proofs.Bits.{meet_parts, meet_from}
use Rattle.forming.proofs.Joins.{alone, longer, rest, join_is_path}

-- the nets that a device links to a component, if inner, are in it
linked_more : (c : Drawn) {a x : ℕ} → Linked c a x → (d : Device) (z : ℕ) → In d c.body → Links d x z → Inner c z → Linked c a z
linked_more c r d z h l inner = linked_on c r (link d (last_inner c r) h l (self inner))

module _ {V : Type 0} {A : Chain V} {bit : V → ℕ → Bool} (B : Boolean A bit) {c : Drawn} {nets : List ℕ} (comp : Component c nets)
    {E : System V} {t : ℕ} {Q : Device → Type 0} {R : ℕ → Type 0} (st : Stands bit c.body nets E t Q R) where
  -- the net that stands at place p of the component
  abbrev net : ℕ → ℕ
  net p = get_or nets p 0

  inner_net : (p : ℕ) → p < length nets → Inner c (net p)
  inner_net p h = last_inner c ((comp.nets (net p)).0 (in_get_or nets p 0 h))

  -- an inner net to which a device leads from the component is in it; a net out of it is a source
  next : (p : ℕ) (d : Device) (z : ℕ) → p < length nets → In d c.body → Links d (net p) z → Inner c z → In z nets
  next p d z hp h l inner = (comp.nets z).1 (linked_more c ((comp.nets (net p)).0 (in_get_or nets p 0 hp)) d z h l inner)

  outside : (p : ℕ) (d : Device) (y : ℕ) → p < length nets → In d c.body → Links d (net p) y → ¬ (In y nets) → Source c y
  outside p d y hp h l out = ⊎_elim (λ s. s) (λ inner. absurd (out (next p d y hp h l inner))) (is_source_lem c y)

  -- a path of the system that is worth 1 is a path of devices
  to_path : (p : ℕ) (ps : List ℕ) → IsPath (length nets) p ps → bit (worth A E p ps) t ≡ true
      → (y : ℕ) × (ds : List Device) × Path c (net p) (map net (p ∷ ps)) ds y × Every Q ds × R y
  to_path p [] w h =
      let hp = w.within.0 in
      let r = (st.own p hp).0 h in
      (r.1, r.0 ∷ [], last (inner_net p hp) r.2 r.3 (outside p r.0 r.1 hp r.2 r.3 r.4), (r.6, tt), r.5)
  to_path p (q ∷ ps) w h =
      let hp = w.within.0 in
      let parts = meet_parts B t (E.link p q) (worth A E q ps) h in
      let r = (st.link p q hp w.within.1.0 (λ e. w.distinct.0 (inl e))).0 parts.0 in
      let further = to_path q ps (rest w) parts.1 in
      let new : ¬ (In (net p) (map net (q ∷ ps))) = λ i. w.distinct.0 (in_places nets comp.rising p (q ∷ ps) hp w.within.1 i) in
      (further.0, r.0 ∷ further.1, step (inner_net p hp) r.1 r.2 new further.2, (r.3, further.3), further.4)

  -- and back: a path of devices from the net at p is a path of the system that is worth 1, whose nets are among its own
  from_path : {x y : ℕ} {xs : List ℕ} {ds : List Device} → Path c x xs ds y → Every Q ds → R y → (p : ℕ) → p < length nets → net p ≡ x
      → (ps : List ℕ) × ((q : ℕ) → In q (p ∷ ps) → In (net q) xs) × IsPath (length nets) p ps × (bit (worth A E p ps) t ≡ true)
  from_path (last {y = y} {d = d} inner h l source) e r p hp at =
      let leads = subst (λ v. Links d v y) (sym at) l in
      let out : ¬ (In y nets) = λ i. last_inner c ((comp.nets y).0 i) source in
      ([], (λ q. elim [ inl i ↦ inl (ap net i ∙ at) | inr i ↦ absurd i ]), alone hp, (st.own p hp).1 (d, y, h, leads, out, r, e.0))
  from_path (step {x = x} {z = z} {d = d} {xs = xs} inner h l new path) e r p hp at =
      let leads = subst (λ v. Links d v z) (sym at) l in
      let place = in_place z nets (next p d z hp h leads (path_start c path)) in
      let n = place.0 in
      let further = from_path path e.1 r n place.1 (place.2 0) in
      let fresh : ¬ (In p (n ∷ further.0)) = λ i. new (subst (λ v. In v xs) at (further.1 p i)) in
      let linked = (st.link p n hp place.1 (λ i. fresh (inl i))).1 (d, h, subst (λ v. Links d (net p) v) (sym (place.2 0)) leads, e.0) in (
        n ∷ further.0,
        (λ q. elim [ inl i ↦ inl (ap net i ∙ at) | inr i ↦ inr (further.1 q i) ]),
        longer hp fresh further.2,
        meet_from B t (E.link p n) (worth A E n further.0) linked further.3,
      )

pub join_is_way : {V : Type 0} (A : Chain V) (bit : V → ℕ → Bool) → Boolean A bit
    → (c : Drawn) (nets : List ℕ) → Component c nets
    → (E : System V) (t : ℕ) (Q : Device → Type 0) (R : ℕ → Type 0) → Stands bit c.body nets E t Q R
    → (p : ℕ) → p < length nets → (x : V) → JoinOfPaths A (length nets) E p x
    → (bit x t ≡ true) ↔ ((y : ℕ) × Way c Q (get_or nets p 0) y × R y)
join_is_way A bit B c nets comp E t Q R st p hp x j = (to, from)
  where
    to : bit x t ≡ true → (y : ℕ) × Way c Q (get_or nets p 0) y × R y
    to h =
        let w = (join_is_path B E (length nets) t p hp x j).0 h in
        let r = to_path B comp st p w.0 w.1 w.2 in
        (r.0, (map (λ q. get_or nets q 0) (p ∷ w.0), r.1, r.2, r.3), r.4)

    from : (y : ℕ) × Way c Q (get_or nets p 0) y × R y → bit x t ≡ true
    from w =
        let r = from_path B comp st w.1.2 w.1.3 w.2 p hp refl in
        (join_is_path B E (length nets) t p hp x j).1 (r.0, r.2, r.3)

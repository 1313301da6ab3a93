-- How formations add up: some values are formed, and then others. Assumes nothing.
use Rattle.std.proofs.Common.{ℕ, ◌⊎◌, sym, refl, ◌∙◌, subst, inl, inr, ⊎_elim}
use Rattle.algebra.specs.Holding.{Meaning, AtMost, Kept, Grown, Stays, Went, Stopped}
use Rattle.cell.proofs.Members.{every_map}
use Rattle.paths.proofs.Lists.{scan}

-- fewer values have a narrower property
at_most_narrower : {V : Type 0} {P Q : V → Type 0} (room : ℕ) → ((w : V) → P w → Q w) → AtMost room Q → AtMost room P
at_most_narrower room f most vs d h = most vs d (every_map f vs h)

module _ {S V : Type 0} where
  pub stays_same : (m : Meaning S V) → Stays m m
  stays_same m = record { room = refl; inputs = refl; listed = refl; hand = λ s h. h; value = λ s h. refl }

  pub stays_then : {m m1 m2 : Meaning S V} → Stays m m1 → Stays m1 m2 → Stays m m2
  stays_then p q = record {
    room = q.room ∙ p.room;
    inputs = q.inputs ∙ p.inputs;
    listed = q.listed ∙ p.listed;
    hand = λ s h. q.hand s (p.hand s h);
    value = λ s h. q.value s (p.hand s h) ∙ p.value s h;
  }

  module _ (keeps : V → V → Type 0) where
    grown_wider : {F G : V → Type 0} (m : Meaning S V) → ((v : V) → F v → G v) → (w : V) → Grown keeps F m w → Grown keeps G m w
    grown_wider m f w (inl h) = inl h
    grown_wider m f w (inr k) = inr (k.0, f k.0 k.1, k.2)

    -- nothing was formed
    pub went_none : {F : V → Type 0} (m : Meaning S V) → ((v : V) → ¬ (F v)) → Went keeps m F m
    went_none m none = record {
      stays = stays_same m;
      spent = refl;
      holds = λ w. (inl, elim [ inl h ↦ h | inr k ↦ absurd (none k.0 k.1) ]);
      fresh = λ v h. absurd (none v h);
      fits = λ v h. absurd (none v h);
    }

    -- the same values, said in another way
    pub went_same : {F G : V → Type 0} {m m1 : Meaning S V} → ((v : V) → F v → G v) → ((v : V) → G v → F v) → Went keeps m F m1 → Went keeps m G m1
    went_same {m = m} f g p = record {
      stays = p.stays;
      spent = p.spent;
      holds = λ w. ((λ h. grown_wider m f w ((p.holds w).0 h)), λ k. (p.holds w).1 (grown_wider m g w k));
      fresh = λ v h. p.fresh v (g v h);
      fits = λ v h. at_most_narrower m.room (grown_wider m g) (p.fits v (g v h));
    }

    -- what passes the room with some values passes it with more
    pub stopped_more : {F G : V → Type 0} {m m1 : Meaning S V} → ((v : V) → F v → G v) → Stopped keeps m F m1 → Stopped keeps m G m1
    stopped_more {m = m} f p = record {
      stays = p.stays;
      spent = p.spent;
      why = λ e most. p.why e (at_most_narrower m.room (grown_wider m f) most);
    }

    module _ {F G : V → Type 0} {m m1 : Meaning S V} (p : Went keeps m F m1) where
      -- what is held after F, and then kept by G, is what F and G keep
      up : (w : V) → Grown keeps G m1 w → Grown keeps (λ v. F v ⊎ G v) m w
      up w (inl h) = grown_wider m (λ v. inl) w ((p.holds w).0 h)
      up w (inr k) = inr (k.0, inr k.1, k.2)

      -- kept by G, or held after F
      apart : (w : V) → Grown keeps (λ v. F v ⊎ G v) m w → m1.holds w ⊎ Kept keeps G w
      apart w (inl h) = inl ((p.holds w).1 (inl h))
      apart w (inr (v, inl f, k)) = inl ((p.holds w).1 (inr (v, f, k)))
      apart w (inr (v, inr g, k)) = inr (v, g, k)

      pub stopped_after : {m2 : Meaning S V} → Stopped keeps m1 G m2 → Stopped keeps m (λ v. F v ⊎ G v) m2
      stopped_after q = record {
        stays = stays_then p.stays q.stays;
        spent = q.spent;
        why = λ e most. q.why (p.spent ∙ e) (subst (λ n. AtMost n (Grown keeps G m1)) (sym p.stays.room) (at_most_narrower m.room up most));
      }

      pub went_then : {m2 : Meaning S V} → Went keeps m1 G m2 → Went keeps m (λ v. F v ⊎ G v) m2
      went_then {m2} q = record {
        stays = stays_then p.stays q.stays;
        spent = q.spent ∙ p.spent;
        holds = λ w. ((λ h. up w ((q.holds w).0 h)), λ k. (q.holds w).1 (apart w k));
        fresh = λ v. ⊎_elim (p.fresh v) (λ g. sym p.spent ∙ q.fresh v g);
        fits = λ v. ⊎_elim (fits_first v) (λ g. fits_second v g);
      }
        where
          fits_second : (v : V) → G v → AtMost m.room (Grown keeps (λ u. F u ⊎ G u) m)
          fits_second v g = at_most_narrower m.room apart (subst (λ n. AtMost n (Grown keeps G m1)) p.stays.room (q.fits v g))

          -- if one of the values is kept by G it fits by G, and else by F
          fits_first : (v : V) → F v → AtMost m.room (Grown keeps (λ u. F u ⊎ G u) m)
          fits_first v f vs d h = ⊎_elim (λ k. fits_second k.1.0 k.1.1 vs d h) (λ e. p.fits v f vs d (every_map (λ w k. (p.holds w).0 k) vs e))
              (scan m1.holds (Kept keeps G) vs (every_map apart vs h))

-- How the ends of a device lie to the nets of a component, and which cells of its tables the device raises. Assumes nothing.
use Rattle.std.proofs.Common.{◌≡◌, ℕ, ◌+◌, ◌<◌, ◌≢◌, ◌⊎◌, ◌↔◌, List, length, get_or, sym, ap, ◌∙◌, subst, inl, inr, ⊎_elim, arith}
use Rattle.cell.specs.declared.Device.{Device}
use Rattle.cell.specs.Lists.{In, Distinct}
use Rattle.cell.specs.Waiting.{Links}
use Rattle.forming.specs.Systems.{Reached, Apart}
use Rattle.forming.specs.declared.tables.Reach.TheVariants.{Link, Drive, Loop}
use Rattle.cell.proofs.Members.{in_get_or}
use Rattle.forming.proofs.Places.{one_place}

-- the cells of P, by row and column, are those that device d raises in a table with the own column c, where it has the property Q:
-- those of its links, and those of the nets from which it leads out to a net with the property R
pub record Says (nets : List ℕ) (c : ℕ) (P : ℕ → ℕ → Type 0) (d : Device) (Q : Type 0) (R : ℕ → Type 0) : Type 0 where
  pub link : (a b : ℕ) → a < length nets → b < length nets → a ≢ b → P a b ↔ (Links d (get_or nets a 0) (get_or nets b 0) × Q)
  pub own : (a : ℕ) → a < length nets → P a (length nets + c) ↔ ((y : ℕ) × Links d (get_or nets a 0) y × (¬ (In y nets)) × R y × Q)

module _ (nets : List ℕ) (d : Device) where
  -- a net at a place is in the list, and so is one that equals it
  at_place : {x : ℕ} (a : ℕ) → a < length nets → x ≡ get_or nets a 0 → In x nets
  at_place a h e = subst (λ v. In v nets) (sym e) (in_get_or nets a 0 h)

  -- a device with both ends in the list does not lead out of it
  leads_in : {x y : ℕ} → In d.left nets → In d.right nets → Links d x y → In y nets
  leads_in l r (inl e) = subst (λ v. In v nets) e.1 r
  leads_in l r (inr e) = subst (λ v. In v nets) e.0 l

  -- nor does one that links two nets of the list
  links_in : {x y z : ℕ} → In x nets → In y nets → Links d x y → (w : ℕ) → Links d z w → In w nets
  links_in hx hy (inl e) w = leads_in (subst (λ v. In v nets) (sym e.0) hx) (subst (λ v. In v nets) (sym e.1) hy)
  links_in hx hy (inr e) w = leads_in (subst (λ v. In v nets) (sym e.0) hy) (subst (λ v. In v nets) (sym e.1) hx)

  -- a device leads out of the list in one way only
  one_way : {x y z w : ℕ} → In x nets → ¬ (In w nets) → Links d x y → Links d z w → (x ≡ z) × (y ≡ w)
  one_way hx nw (inl e) (inl f) = (sym e.0 ∙ f.0, sym e.1 ∙ f.1)
  one_way hx nw (inr e) (inr f) = (sym e.1 ∙ f.1, sym e.0 ∙ f.0)
  one_way hx nw (inl e) (inr f) = absurd (nw (subst (λ v. In v nets) (sym e.0 ∙ f.0) hx))
  one_way hx nw (inr e) (inl f) = absurd (nw (subst (λ v. In v nets) (sym e.1 ∙ f.1) hx))

  -- a device with both ends on one net of the list, or with none in it, raises nothing
  pub idle_says : Distinct nets → (c : ℕ) (Q : Type 0) (R : ℕ → Type 0) → Reached nets d Loop ⊎ Apart nets d → Says nets c (λ a b. ⊥) d Q R
  idle_says once c Q R r = record {
    link = λ a b ha hb ne. ((λ h. absurd h), λ h. ne (no_link r a b ha hb h.0));
    own = λ a ha. ((λ h. absurd h), λ h. h.2 (no_own r a h.0 ha h.1));
  }
    where
      off : Apart nets d → (a y : ℕ) → a < length nets → ¬ (Links d (get_or nets a 0) y)
      off r a y ha (inl e) = r.0 (at_place a ha e.0)
      off r a y ha (inr e) = r.1 (at_place a ha e.1)

      no_link : Reached nets d Loop ⊎ Apart nets d → (a b : ℕ) → a < length nets → b < length nets → Links d (get_or nets a 0) (get_or nets b 0) → a ≡ b
      no_link (inl r) a b ha hb l = one_place nets once a b ha hb (⊎_elim (λ e. sym e.0 ∙ r.0 ∙ e.1) (λ e. sym e.1 ∙ sym r.0 ∙ e.0) l)
      no_link (inr r) a b ha hb l = absurd (off r a (get_or nets b 0) ha l)

      no_own : Reached nets d Loop ⊎ Apart nets d → (a y : ℕ) → a < length nets → Links d (get_or nets a 0) y → In y nets
      no_own (inl r) a y ha l = leads_in r.1 (subst (λ v. In v nets) r.0 r.1) l
      no_own (inr r) a y ha l = absurd (off r a y ha l)

  -- a device between the nets at p and q raises their links
  pub link_says : Distinct nets → (c : ℕ) (P : ℕ → ℕ → Type 0) (Q : Type 0) (R : ℕ → Type 0) (p q : ℕ) → Reached nets d (Link p q)
      → ((a b : ℕ) → P a b ↔ ((((a ≡ p) × (b ≡ q)) ⊎ ((a ≡ q) × (b ≡ p))) × Q)) → Says nets c P d Q R
  link_says once c P Q R p q (hp, hq, ne, pl, qr) is = record {
    link = λ a b ha hb _. (
      (λ h. (from a b ((is a b).0 h).0, ((is a b).0 h).1)),
      (λ h. (is a b).1 (⊎_elim (λ e. inl (at_p a ha e.0, at_q b hb e.1)) (λ e. inr (at_q a ha e.1, at_p b hb e.0)) h.0, h.1)),
    );
    own = λ a ha. (
      (λ h. absurd (beyond a ((is a (length nets + c)).0 h).0)),
      (λ h. absurd (h.2 (leads_in (at_place p hp (sym pl)) (at_place q hq (sym qr)) h.1))),
    );
  }
    where
      at_p : (a : ℕ) → a < length nets → d.left ≡ get_or nets a 0 → a ≡ p
      at_p a ha e = one_place nets once a p ha hp (sym e ∙ sym pl)

      at_q : (a : ℕ) → a < length nets → d.right ≡ get_or nets a 0 → a ≡ q
      at_q a ha e = one_place nets once a q ha hq (sym e ∙ sym qr)

      from : (a b : ℕ) → ((a ≡ p) × (b ≡ q)) ⊎ ((a ≡ q) × (b ≡ p)) → Links d (get_or nets a 0) (get_or nets b 0)
      from a b (inl e) = inl (sym pl ∙ ap (λ i. get_or nets i 0) (sym e.0), sym qr ∙ ap (λ i. get_or nets i 0) (sym e.1))
      from a b (inr e) = inr (sym pl ∙ ap (λ i. get_or nets i 0) (sym e.1), sym qr ∙ ap (λ i. get_or nets i 0) (sym e.0))

      beyond : (a : ℕ) → ((a ≡ p) × (length nets + c ≡ q)) ⊎ ((a ≡ q) × (length nets + c ≡ p)) → ⊥
      beyond a (inl e) = omega (arith, e.1, hq)
      beyond a (inr e) = omega (arith, e.1, hp)

  -- a device from the net at p to the net y outside raises the own value at p
  pub drive_says : Distinct nets → (c : ℕ) (P : ℕ → ℕ → Type 0) (Q : Type 0) (R : ℕ → Type 0) (p y : ℕ) → Reached nets d (Drive p y)
      → ((a b : ℕ) → b < length nets → ¬ (P a b)) → ((a : ℕ) → P a (length nets + c) ↔ ((a ≡ p) × R y × Q)) → Says nets c P d Q R
  drive_says once c P Q R p y (hp, leads, out) no_link is = record {
    link = λ a b ha hb ne. ((λ h. absurd (no_link a b hb h)), λ h. absurd (out (links_in (in_get_or nets a 0 ha) (in_get_or nets b 0 hb) h.0 y leads)));
    own = λ a ha. (
      (λ h. let r = (is a).0 h in (y, subst (λ i. Links d (get_or nets i 0) y) (sym r.0) leads, out, r.1, r.2)),
      (λ h.
          let same = one_way (in_get_or nets a 0 ha) out h.1 leads in
          (is a).1 (one_place nets once a p ha hp same.0, subst R same.1 h.3, h.4)),
    );
  }

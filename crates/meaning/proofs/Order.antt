-- Where waiting never comes back to its start, a fact may be shown of each net from the gates of its component. Assumes nothing.
use Rattle.std.proofs.Common.{◌≡◌, ℕ, zero, suc, ◌+◌, ◌<◌, ◌⊎◌, List, [], ◌∷◌, map, length, sym, ap, subst, inl, inr, arith}
use Rattle.cell.specs.declared.Device.{Device}
use Rattle.cell.specs.Lists.{In, Distinct}
use Rattle.cell.specs.Circuits.{Drawn}
use Rattle.cell.specs.Waiting.{Inner, Touches, Waits, WaitsOn, WaitsInRing}
use Rattle.cell.specs.Waiting.Linked.{self}
use Rattle.cell.specs.Waiting.WaitsOn.{once, more}
use Rattle.cell.proofs.Finite.{dec_in, few}

-- the gate nets of the devices
abbrev gates : Drawn → List ℕ
gates c = map (λ (d : Device). d.gate) c.body

gate_in : (d : Device) (ds : List Device) → In d ds → In d.gate (map (λ (e : Device). e.gate) ds)
gate_in d [] h = h
gate_in d (e ∷ ds) (inl p) = inl (ap (λ (v : Device). v.gate) p)
gate_in d (e ∷ ds) (inr h) = inr (gate_in d ds h)

on_more : (c : Drawn) {x y z : ℕ} → WaitsOn c x y → Waits c y z → WaitsOn c x z
on_more c (once w) v = more w (once v)
on_more c (more w r) v = more w (on_more c r v)

-- the rounds that suffice
pub rounds : Drawn → ℕ
rounds c = suc (length (gates c))

-- Q k x: shown of net x in k rounds
module _ (c : Drawn) (acyclic : ¬ (WaitsInRing c)) (Q : ℕ → ℕ → Type 0)
    (from_gates : (k x : ℕ) → ((d : Device) → Touches c x d → Inner c d.gate → Q k d.gate) → Q (suc k) x) where
  -- `seen`: gate nets that are x or wait for it, none of them twice; k more may come
  go : (k : ℕ) (x : ℕ) (seen : List ℕ) → Distinct seen → ((g : ℕ) → In g seen → In g (gates c))
      → ((g : ℕ) → In g seen → (g ≡ x) ⊎ WaitsOn c g x) → length (gates c) < length seen + k → Q k x
  go zero x seen d sub on room = absurd (omega (arith, few seen (gates c) d sub))
  go (suc k) x seen d sub on room =
      from_gates k x (λ e t inn. next e t inn (dec_in e.gate seen) (λ h.
      go k e.gate (e.gate ∷ seen) (h, d) (sub_more e t) (on_next e t inn) (omega arith)))
    where
      waits : (e : Device) → Touches c x e → Inner c e.gate → Waits c x e.gate
      waits e t inn = record { device = e; touches = t; gate = self inn }

      sub_more : (e : Device) → Touches c x e → (g : ℕ) → In g (e.gate ∷ seen) → In g (gates c)
      sub_more e t g (inl p) = subst (λ v. In v (gates c)) (sym p) (gate_in e c.body t.device)
      sub_more e t g (inr h) = sub g h

      to_gate : (e : Device) → Touches c x e → Inner c e.gate → (g : ℕ) → (g ≡ x) ⊎ WaitsOn c g x → WaitsOn c g e.gate
      to_gate e t inn g (inl p) = once (subst (λ v. Waits c v e.gate) (sym p) (waits e t inn))
      to_gate e t inn g (inr w) = on_more c w (waits e t inn)

      on_next : (e : Device) → Touches c x e → Inner c e.gate → (g : ℕ) → In g (e.gate ∷ seen) → (g ≡ e.gate) ⊎ WaitsOn c g e.gate
      on_next e t inn g (inl p) = inl p
      on_next e t inn g (inr h) = inr (to_gate e t inn g (on g h))

      -- a gate net already seen would wait for itself
      next : (e : Device) → Touches c x e → Inner c e.gate → In e.gate seen ⊎ (¬ (In e.gate seen))
          → (¬ (In e.gate seen) → Q k e.gate) → Q k e.gate
      next e t inn (inl h) f = absurd (acyclic (e.gate, to_gate e t inn e.gate (on e.gate h)))
      next e t inn (inr h) f = f h

  pub in_rounds : (x : ℕ) → Q (rounds c) x
  unfolding rounds
  in_rounds x = go (suc (length (gates c))) x [] tt (λ g h. absurd h) (λ g h. absurd h) (omega arith)

-- of each net, from the gates of its component's devices
pub by_waiting : (c : Drawn) → ¬ (WaitsInRing c) → (Q : ℕ → Type 0)
    → ((x : ℕ) → ((d : Device) → Touches c x d → Inner c d.gate → Q d.gate) → Q x) → (x : ℕ) → Q x
by_waiting c acyclic Q f x = in_rounds c acyclic (λ k y. Q y) (λ k y h. f y h) x

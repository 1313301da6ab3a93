-- Linked nets: linking goes both ways and on, and stays within the nets of the devices. Assumes nothing.
use Rattle.std.proofs.Common.{◌≡◌, ℕ, ◌≤◌, ◌⊎◌, List, sym, refl, subst, inl, inr, ⊎_elim}
use Rattle.cell.specs.declared.Device.{Device}
use Rattle.cell.specs.Lists.{In, Every}
use Rattle.cell.specs.Circuits.{Drawn, device_nets, Numbered}
use Rattle.cell.specs.Waiting.{Inner, Links, Linked}
use Rattle.cell.specs.Waiting.Linked.{self, link}
use Rattle.cell.proofs.Members.{every_in}

-- the nets of each device are numbered 0 to 127
abbrev pub Low : List Device → Type 0
Low devices = Every (λ d. Numbered (device_nets d)) devices

module _ (c : Drawn) where
  pub first_inner : {x y : ℕ} → Linked c x y → Inner c x
  first_inner (self i) = i
  first_inner (link d i h l r) = i

  pub last_inner : {x y : ℕ} → Linked c x y → Inner c y
  last_inner (self i) = i
  last_inner (link d i h l r) = last_inner r

  pub linked_on : {x y z : ℕ} → Linked c x y → Linked c y z → Linked c x z
  linked_on (self i) s = s
  linked_on (link d i h l r) s = link d i h l (linked_on r s)

  turned : (d : Device) (x y : ℕ) → Links d x y → Links d y x
  turned d x y (inl l) = inr l
  turned d x y (inr l) = inl l

  pub linked_back : {x y : ℕ} → Linked c x y → Linked c y x
  linked_back (self i) = self i
  linked_back (link {x = x} {y = y} d i h l r) = linked_on (linked_back r) (link d (first_inner r) h (turned d x y l) (self i))

  -- by one device
  pub linked_ends : (d : Device) → In d c.body → Inner c d.left → Inner c d.right → Linked c d.left d.right
  linked_ends d h i j = link d i h (inl (refl, refl)) (self j)

  module _ (low : Low c.body) where
    pub end_low : (d : Device) (x : ℕ) → In d c.body → (d.left ≡ x) ⊎ (d.right ≡ x) → x ≤ 127
    end_low d x h (inl e) = let n = every_in (λ d. Numbered (device_nets d)) c.body d low h in subst (λ v. v ≤ 127) e n.1.0
    end_low d x h (inr e) = let n = every_in (λ d. Numbered (device_nets d)) c.body d low h in subst (λ v. v ≤ 127) e n.1.1.0

    pub gate_low : (d : Device) → In d c.body → d.gate ≤ 127
    gate_low d h = (every_in (λ d. Numbered (device_nets d)) c.body d low h).0

    near : (d : Device) (x y : ℕ) → Links d x y → (d.left ≡ x) ⊎ (d.right ≡ x)
    near d x y (inl l) = inl l.0
    near d x y (inr l) = inr l.1

    -- a net is linked to itself alone, or is a net of a device
    pub linked_low : {x y : ℕ} → Linked c x y → (x ≡ y) ⊎ (x ≤ 127)
    linked_low (self i) = inl refl
    linked_low (link {x = x} {y = y} d i h l r) = inr (end_low d x h (near d x y l))

    pub linked_low_last : {x y : ℕ} → Linked c x y → x ≤ 127 → y ≤ 127
    linked_low_last {x} {y} r h = ⊎_elim (λ e. subst (λ v. v ≤ 127) (sym e) h) (λ k. k) (linked_low (linked_back r))

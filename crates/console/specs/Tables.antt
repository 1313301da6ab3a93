-- The circuits that have a table. Assumes nothing.
use Rattle.std.specs.Prelude.{◌≡◌, ℕ, ◌≤◌, length, Some, None, Option}
use Rattle.cell.specs.Circuits.{Drawn}

-- a drawn circuit is held that has n IN, and at most 16 IN and OUT
abbrev pub Few : ℕ → Option Drawn → Type 0
Few n None = ⊥
Few n (Some c) = (n ≡ length c.ins) × (n ≤ 16) × (length c.outs ≤ 16)

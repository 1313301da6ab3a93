use Rattle.std.proofs.Common.{◌≡◌, ℕ, ◌<◌, get_or}
use Rattle.forming.proofs.tables.clear_cells.Given as goal

-- the cells before this one are zero
abbrev pub invariant-loop-cell : goal.invariant-loop-cell
invariant-loop-cell g l = (k : ℕ) (d : g.row.A-Sign.Denot) → k < l.cell-index → get_or l.cell-items k d ≡ l.zero

-- Tables that are one table before and after. Assumes nothing.
use Rattle.std.specs.Prelude.{◌≡◌, length}
use Rattle.paths.specs.declared.Table.{Table}

-- the same lent signs, in the same shape, and as many
abbrev pub SameTable : {S : Type 0} → Table S → Table S → Type 0
SameTable t u = (u.signs.ghost_name ≡ t.signs.ghost_name) × (u.nets ≡ t.nets) × (u.columns ≡ t.columns) × (length u.signs.now ≡ length t.signs.now)

-- Work tables: what tables are made of them, that all their signs are in hand, and that they are one before and after. Assumes nothing.
use Rattle.std.specs.Prelude.{◌≡◌, ℕ, List, length}
use Rattle.std.specs.Borrow.{MutBor}
use Rattle.algebra.specs.Holding.{Meaning}
use Rattle.paths.specs.declared.Table.{Table}
use Rattle.forming.specs.declared.work.WorkTable.{WorkTable}
use Rattle.forming.specs.Signs.{InHand}

-- a table of so many nets and own columns, made of lent signs
abbrev pub MadeOf : {S : Type 0} → MutBor (List S) → ℕ → ℕ → Table S → Type 0
MadeOf signs nets columns t = (t.signs.ghost_name ≡ signs.ghost_name) × (t.signs.now ≡ signs.now) × (t.nets ≡ nets) × (t.columns ≡ columns)

-- all signs of a work table are in hand
pub record WorkInHand {S V : Type 0} (m : Meaning S V) (w : WorkTable S) : Type 0 where
  pub states : InHand m w.states.signs.now
  pub may : InHand m w.may.now
  pub sure : InHand m w.sure.now

-- the same lent signs, and as many
abbrev pub SameWork : {S : Type 0} → WorkTable S → WorkTable S → Type 0
SameWork w v =
    (v.states.signs.ghost_name ≡ w.states.signs.ghost_name) × (v.may.ghost_name ≡ w.may.ghost_name) × (v.sure.ghost_name ≡ w.sure.ghost_name)
    × (length v.may.now ≡ length w.may.now) × (length v.sure.now ≡ length w.sure.now)

-- the same, and the states of the nets are as they were
abbrev pub SameStates : {S : Type 0} → WorkTable S → WorkTable S → Type 0
SameStates w v = SameWork w v × (v.states.signs.now ≡ w.states.signs.now)

use Rattle.std.specs.Prelude.{◌≡◌, ◌+◌, ◌≤◌, ◌∷◌, ◌++◌, map, take, length}
use Rattle.rows.specs.Rows.{letter_of, bits_of}
use Rattle.rows.proofs.row_of.Given as goal

abbrev pub invariant-loop-state : goal.invariant-loop-state
invariant-loop-state l = record {
  bytes : l.row.items ≡ bits_of l.inputs l.setting ++ (9 ∷ map letter_of (take l.state-index l.states));
  few : length l.row.items ≤ 17 + l.state-index;
}

use Rattle.std.specs.Prelude.{◌≡◌, map, length}
use Rattle.std.specs.List.{range_with_len}
use Rattle.rows.specs.Rows.{bit_of}
use Rattle.rows.proofs.bits.Given as goal

abbrev pub invariant-loop-input : goal.invariant-loop-input
invariant-loop-input l = record {
  bytes : l.row.items ≡ map (bit_of l.inputs l.setting) (range_with_len 0 l.input);
  few : length l.row.items ≡ l.input;
}

use Rattle.std.proofs.Common.{[], ◌∷◌, ◌++◌, sym, ◌∙◌, arith}
use Rattle.std.proofs.lemmas.List.FromFn.{map-range_with_len_more}
use Rattle.rows.specs.Rows.{bit_of}
use Rattle.rows.proofs.bits.Goals as goal

pub loop-input-preserved : goal.loop-input-preserved
loop-input-preserved c = record {
  bytes = c.push-in-loop-input.ensures.items ∙ (λ j. c.loop-input.invariant.bytes j ++ c.bit.ensures j ∷ []) ∙ sym (map-range_with_len_more (bit_of c.args.inputs c.args.setting) 0 c.loop-input.input c.loop-input.input (omega arith));
  few = omega arith;
}

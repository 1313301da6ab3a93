use Rattle.std.proofs.Common.{◌<◌, sym, ◌∙◌, arith}
use lib.Pow.{ones_lt}
use Rattle.std.proofs.lemmas.Nat.{pow_pos}
use Rattle.std.proofs.lemmas.Bool.{eq-eqb, ne_eqb}
use Rattle.algebra.proofs.Words.{zero_bit, ones_bit}
use Rattle.algebra.proofs.Listed.{lanes_most}
use Rattle.algebra.proofs.Blocks.{cut_within, cut_bit, setting_low, setting_high}
use Rattle.algebra.proofs.block.Block.column.Goals as goal

pub returns-then-p-lt-WORD_INPUTS : goal.returns-then-p-lt-WORD_INPUTS
returns-then-p-lt-WORD_INPUTS c = record {
  within = rw c.full.ensures (cut_within _ _);
  value = λ j below. let inside : j < 64 = omega (arith, lanes_most c.args.self.now.inputs) in
      rw c.full.ensures (cut_bit _ _ j below ∙ c.pattern.ensures j inside ∙ sym (setting_low _ j _ c.if-p-lt-WORD_INPUTS.true));
}

pub returns-then-self-p-eq1 : goal.returns-then-self-p-eq1
returns-then-self-p-eq1 c = record {
  within = rw c.full-then-self-p-eq1.ensures (ones_lt _);
  value = λ j below. let inside : j < 64 = omega (arith, lanes_most c.args.self.now.inputs) in
      rw c.full-then-self-p-eq1.ensures (ones_bit _ j below
      ∙ sym (setting_high _ j _ c.if-p-lt-WORD_INPUTS.false inside ∙ eq-eqb _ 1 c.if-self-p-eq1.true));
}

pub returns-else-self-p-eq1 : goal.returns-else-self-p-eq1
returns-else-self-p-eq1 c = record {
  within = pow_pos _;
  value = λ j below. let inside : j < 64 = omega (arith, lanes_most c.args.self.now.inputs) in
      zero_bit j ∙ sym (setting_high _ j _ c.if-p-lt-WORD_INPUTS.false inside ∙ ne_eqb _ 1 c.if-self-p-eq1.false);
}

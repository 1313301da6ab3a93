use Rattle.std.proofs.lemmas.Nat.{pow_pos}
use Rattle.std.proofs.lemmas.Bool.{lt-ltb, le-ltb}
use Rattle.algebra.proofs.Words.{zero_bit}
use Rattle.algebra.proofs.Blocks.{reads_input}
use Rattle.algebra.proofs.block.calls.BlockSignalAlgebra.input.Goals as goal

pub returns-then-i-self : goal.returns-then-i-self
returns-then-i-self c = reads_input _ _ _ _ (pow_pos _) (λ j below. rw (le-ltb _ _ c.if-i-self.true) (zero_bit j))

pub returns : goal.returns
returns c = reads_input _ _ _ _ c.column.ensures.within (λ j below. rw (lt-ltb _ _ c.if-i-self.false) (c.column.ensures.value j below))

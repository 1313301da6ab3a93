use Rattle.std.proofs.Common.{◌≡◌, refl, arith}
use Rattle.algebra.proofs.Words.{column_bits}
use Rattle.algebra.proofs.block.calls.pattern.Goals as goal

pub returns-in-0 : goal.returns-in-0
returns-in-0 c = λ j below. rw c.in-0.is (column_bits 64 _ 0 j refl below)

pub returns-in-1 : goal.returns-in-1
returns-in-1 c = λ j below. rw c.in-1.is (column_bits 64 _ 1 j refl below)

pub returns-in-2 : goal.returns-in-2
returns-in-2 c = λ j below. rw c.in-2.is (column_bits 64 _ 2 j refl below)

pub returns-in-3 : goal.returns-in-3
returns-in-3 c = λ j below. rw c.in-3.is (column_bits 64 _ 3 j refl below)

pub returns-in-4 : goal.returns-in-4
returns-in-4 c = λ j below. rw c.in-4.is (column_bits 64 _ 4 j refl below)

pub returns-in_default : goal.returns-in_default
returns-in_default c = let last : c.args.p ≡ 5 = omega arith in λ j below. rw last (column_bits 64 _ 5 j refl below)

use Rattle.meaning.proofs.Gates.{has_bits, one_bit}
use Rattle.meaning.proofs.bits_are_one.Goals as goal

pub returns : goal.returns
returns c = record { there = has_bits; only = one_bit }

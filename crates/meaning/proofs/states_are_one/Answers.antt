use Rattle.meaning.proofs.Unique.{one_assignment, never_neither, loose_is_unknown}
use Rattle.meaning.proofs.Exists.{has_states}
use Rattle.meaning.proofs.states_are_one.Goals as goal

pub returns : goal.returns
returns c = record { there = has_states; only = one_assignment; some = never_neither; loose = loose_is_unknown }

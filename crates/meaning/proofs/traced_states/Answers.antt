use Rattle.meaning.proofs.Traced.{traced_states_lem}
use Rattle.meaning.proofs.traced_states.Goals as goal

pub returns : goal.returns
returns c = traced_states_lem

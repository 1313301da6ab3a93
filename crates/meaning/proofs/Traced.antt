-- The states of four small cells, by computing the rules. Assumes nothing.
use Rattle.std.proofs.Common.{◌≡◌, ℕ, Bool, ap, ◌∙◌}
use mathlib.Core.Path.{fun_ext}
use Rattle.cell.specs.declared.State.{State}
use Rattle.cell.specs.Circuits.{Drawn}
use Rattle.cell.specs.States.{AllStates}
use Rattle.meaning.specs.Traced.{TracedStates, nand, pass, fight, adrift}
use Rattle.meaning.proofs.Exists.{round, round_same}

-- Two rounds leave states as they are. Where the gates of the component of x are sources, their result does not depend on σ.
computed : (c : Drawn) (σ : ℕ → ℕ → State Bool) → AllStates c σ → (x s : ℕ) → σ s x ≡ round c s (round c s (σ s)) x
computed c σ S x s = round_same c s (σ s) (S s) x ∙ ap (λ ρ. round c s ρ x) (fun_ext (round_same c s (σ s) (S s)))

pub traced_states_lem : TracedStates
traced_states_lem = record {
  nand_out = λ σ S. let at = computed nand σ S 4 in (at 0, (at 1, (at 2, (at 3, tt))));
  nand_inside = λ σ S. let at = computed nand σ S 5 in (at 0, (at 1, (at 2, (at 3, tt))));
  pass_out = λ σ S. let at = computed pass σ S 4 in (at 0, (at 1, (at 2, (at 3, tt))));
  fight_out = λ σ S. let at = computed fight σ S 3 in (at 0, (at 1, tt));
  adrift_out = λ σ S. (computed adrift σ S 3 0, tt);
  adrift_end = λ σ S. (computed adrift σ S 4 0, tt);
}

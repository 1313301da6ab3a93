use Rattle.std.proofs.Common.{not, refl}
use Rattle.algebra.proofs.Points.{formed}
use Rattle.algebra.proofs.point.calls.PointSignalAlgebra.complement.Goals as goal

pub returns : goal.returns
returns c = (not c.args.a, (λ t. refl), formed _ _ _)

use Rattle.algebra.proofs.Points.{formed}
use Rattle.algebra.proofs.point.calls.PointChainAlgebra.meet.Goals as goal

pub returns : goal.returns
returns c = formed _ _ _

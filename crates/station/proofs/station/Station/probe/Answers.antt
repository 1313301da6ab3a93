use Rattle.meaning.proofs.Unique.{one_assignment, never_neither, loose_is_unknown}
use Rattle.station.proofs.Probes.{probed}
use Rattle.station.proofs.station.Station.probe.Goals as goal

pub returns : goal.returns
returns c = record {
  gives = probed c.args.net c.args.self.now.drawn c.args.self.now.sound _ c.args.setting c.look.result c.look.ensures;
  only = one_assignment;
  some = never_neither;
  loose = loose_is_unknown;
}

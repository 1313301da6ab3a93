use Rattle.station.proofs.Probes.{surveyed}
use Rattle.station.proofs.station.Station.survey.Goals as goal

pub returns : goal.returns
returns c = surveyed c.args.net c.args.self.now.drawn c.args.self.now.sound _ c.args.block c.look.result c.look.ensures

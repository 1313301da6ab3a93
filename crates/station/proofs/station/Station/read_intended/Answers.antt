use Rattle.std.proofs.Common.{refl}
use Rattle.files.specs.Files.{intended_format}
use Rattle.files.proofs.Texts.{intended_exactly, intended_one_way}
use Rattle.circuits.specs.Bodies.{gates_of}
use Rattle.station.specs.Slots.{holds}
use Rattle.station.proofs.Answering.{done_exactly}
use Rattle.station.proofs.station.Station.read_intended.Goals as goal

pub returns : goal.returns
returns c = record {
  gives = c.read.ensures.gives;
  other = refl;
  same_order = refl;
  law = done_exactly intended_format c.args.text.now (holds gates_of c.args.self.now.intended) c.read.result (holds gates_of c.read.new.self) (intended_exactly c.args.text.now) (intended_one_way c.args.text.now) c.read.ensures.gives;
  exactly = intended_exactly c.args.text.now;
  one_way = intended_one_way c.args.text.now;
}

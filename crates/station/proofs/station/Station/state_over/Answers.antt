use Rattle.std.proofs.Common.{sym, subst}
use Rattle.cell.specs.Lists.{Every}
use Rattle.cell.specs.Circuits.{Numbered}
use Rattle.order.specs.Found.{order_of}
use Rattle.forming.specs.Systems.{Formable}
use Rattle.station.proofs.Usable.{usable}
use Rattle.station.proofs.Probing.{read_state}
use Rattle.station.proofs.station.Station.state_over.Goals as goal

pub form_states-requires : goal.form_states-requires
form_states-requires g c =
    let facts = usable c.args.self.now.drawn c.args.self.now.sound c.requires.held in
    record {
      ins = subst Numbered (sym c.ins.ensures) facts.numbered;
      order = subst (λ o. Every Formable (order_of o)) (sym c.order-order.ensures) facts.formable;
    }

pub returns : goal.returns
returns g c =
    read_state g.A.ChainAlgebra.bit (g.A.ChainAlgebra.meaning c.args.alg.now) (g.A.ChainAlgebra.meaning c.form_states.new.alg)
    c.args.self.now.drawn c.args.self.now.sound c.requires.held
    c.ins.result.now c.list-devices.result.devices.now c.order-order.result.now c.form_states.new.work.states.signs.now
    c.ins.ensures c.list-devices.ensures c.order-order.ensures c.requires.inputs c.in_ok-form_states.ensures.formed
    c.args.net c.at.result c.requires.net c.at.ensures

use Rattle.std.proofs.Common.{◌+◌, ◌*◌, length, refl, arith}
use Rattle.forming.proofs.Raising.{table_fits}
use Rattle.forming.proofs.Clearing.{first_clear}
use Rattle.forming.proofs.Filling.{filled_none}
use Rattle.forming.proofs.tables.fill.Goals as goal

pub loop-device-init : goal.loop-device-init
loop-device-init g c =
    let a = g.A.ChainAlgebra in
    let m = a.meaning c.args.alg.now in
    let w = c.args.work.now in
    let n = length c.args.component.nets.now in
    let may = first_clear a.ops m ((n + 2) * n) w.may.now c.clear_cells.new.cells
    (omega (arith, w.may_room, table_fits n 2 c.args.component.formable.few (omega arith))) c.requires.hand.may
    c.clear_cells.ensures.hand c.clear_cells.ensures.long c.clear_cells.ensures.zero in
    let sure = first_clear a.ops m ((n + 1) * n) w.sure.now c.clear_cells-2.new.cells
    (omega (arith, w.sure_room, table_fits n 1 c.args.component.formable.few (omega arith))) c.requires.hand.sure
    c.clear_cells-2.ensures.hand c.clear_cells-2.ensures.long c.clear_cells-2.ensures.zero in
    (filled_none a.ops a.bit m w.states.signs.now c.args.component.nets.now _ _ c.requires.boolean may.hand sure.hand may.zero sure.zero, ((refl, refl, refl, refl, refl), refl))

use Rattle.std.proofs.Common.{◌+◌}
use Rattle.forming.proofs.Raising.{cell_raised}
use Rattle.forming.proofs.tables.join_cell.Goals as goal

pub returns-clause-raised : goal.returns-clause-raised
returns-clause-raised g c =
    let formed = c.in_ok-table.ensures in
    let a = g.A.ChainAlgebra in
    let t = c.args.table.now in
    cell_raised c.requires.boolean (a.meaning c.args.alg.now) (a.meaning c.join.new.self)
    t.nets (t.nets + t.columns) c.args.row c.args.column c.place-at.result t.signs.now c.args.sign c.index-table-at.result _
    formed.0.stays c.requires.hand c.requires.row c.requires.column t.room c.place-at.ensures.is formed.1

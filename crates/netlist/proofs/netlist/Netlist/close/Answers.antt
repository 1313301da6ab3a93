use Rattle.netlist.proofs.netlist.Netlist.close.Goals as goal

pub returns-clause-found : goal.returns-clause-found
returns-clause-found g c =
    let self = c.args.self.now in
    rw (← c.deref.ensures.0, ← c.deref-2.ensures.0) (c.close.ensures.found self.name.items)

use Rattle.std.proofs.Common.{◌∙◌, arith}
use Rattle.std.proofs.lemmas.List.{length-set}
use Rattle.adders.specs.Values.{spare_adder}
use Rattle.adders.proofs.Places.{spare_less}
use Rattle.adders.proofs.list.AdderList.push_within_capacity.Goals as goal

pub invariant_of-self : goal.invariant_of-self
invariant_of-self g c =
    let l = c.self.inside in
    let inv = c.self.invariant in
    (omega (arith, c.if-self.false), length-set l.slots l.len c.args.adder ∙ inv.1, spare_less l.slots l.len g.row.N c.args.adder spare_adder inv.2)

use Rattle.std.proofs.Common.{◌∙◌, arith}
use Rattle.std.proofs.lemmas.List.{length-set}
use Rattle.adders.specs.Values.{spare_operand}
use Rattle.adders.proofs.Places.{spare_less}
use Rattle.ports.proofs.list.InputList.push_within_capacity.Goals as goal

pub invariant_of-self : goal.invariant_of-self
invariant_of-self c =
    let l = c.self.inside in
    let inv = c.self.invariant in
    (omega (arith, c.if-self-ge-MOST.false), length-set l.places l.len c.args.input ∙ inv.1, spare_less l.places l.len 16 c.args.input spare_operand inv.2)

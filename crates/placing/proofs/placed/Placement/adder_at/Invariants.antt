use Rattle.std.proofs.Common.{◌≡◌, drop}
use Rattle.placing.specs.Slots.{at_places, first_at}
use Rattle.placing.proofs.placed.Placement.adder_at.Given as goal

abbrev pub invariant-loop-index : goal.invariant-loop-index
invariant-loop-index l =
    let p = at_places l.self.places.now l.self.swaps.now in
    first_at p l.number l.index (drop l.index l.adders) ≡ first_at p l.number 0 l.adders

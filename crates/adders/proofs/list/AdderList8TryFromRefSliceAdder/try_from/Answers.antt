use Rattle.adders.specs.Values.{spare_adder}
use Rattle.adders.proofs.Places.{spare_behind}
use Rattle.adders.proofs.list.AdderList8TryFromRefSliceAdder.try_from.Goals as goal

pub invariant_of-result : goal.invariant_of-result
invariant_of-result c = spare_behind c.args.adders.now _ 8 spare_adder c.if-adders-gt8.false c.copy_from_slice.ensures.after

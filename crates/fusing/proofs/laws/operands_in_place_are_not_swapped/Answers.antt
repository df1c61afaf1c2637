use Rattle.fusing.proofs.InPlace.{in_place_stays}
use Rattle.fusing.proofs.laws.operands_in_place_are_not_swapped.Goals as goal

pub returns : goal.returns
returns c = in_place_stays

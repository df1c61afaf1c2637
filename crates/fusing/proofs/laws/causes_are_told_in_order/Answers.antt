use Rattle.fusing.proofs.Causes.{causes_in_order}
use Rattle.fusing.proofs.laws.causes_are_told_in_order.Goals as goal

pub returns : goal.returns
returns c = causes_in_order

use Rattle.fusing.proofs.Swaps.{swaps_pay}
use Rattle.fusing.proofs.laws.swaps_have_to_pay.Goals as goal

pub returns : goal.returns
returns c = swaps_pay

use Rattle.fusing.proofs.Determined.{determined}
use Rattle.fusing.proofs.laws.fusing_is_determined.Goals as goal

pub returns : goal.returns
returns c = determined

use Rattle.pricing.proofs.Staying.{port_stays}
use Rattle.pricing.proofs.laws.an_operand_in_place_changes_nothing.Goals as goal

pub returns : goal.returns
returns c = port_stays

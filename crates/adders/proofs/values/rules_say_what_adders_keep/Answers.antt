use Rattle.adders.proofs.Sounds.{say}
use Rattle.adders.proofs.values.rules_say_what_adders_keep.Goals as goal

pub returns : goal.returns
returns c = say

use Rattle.std.proofs.Common.{ap, replicate}
use Rattle.reading.proofs.Kept.{none_listed}
use Rattle.reading.proofs.lists.PortLists.new.Goals as goal

pub returns : goal.returns
returns c = none_listed _ (ap (replicate 17) c.new.ensures)

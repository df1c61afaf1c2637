use Rattle.history.proofs.Histories.{every_history}
use Rattle.history.proofs.laws.every_history_holds.Goals as goal

pub returns : goal.returns
returns c = every_history

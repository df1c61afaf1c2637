use Rattle.ports.proofs.Fewer.{some_inputs}
use Rattle.ports.proofs.laws.some_rows_put_some_inputs.Goals as goal

pub returns : goal.returns
returns c = some_inputs

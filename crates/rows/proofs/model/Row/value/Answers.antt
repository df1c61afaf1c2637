use Rattle.rows.proofs.Answering.{told_value}
use Rattle.rows.proofs.model.Row.value.Goals as goal

pub returns : goal.returns
returns c = told_value c.args.self.now c.args.adder c.in_ok-_used._used c.values-values.result c.in_ok-_used.ensures c.values-values.ensures

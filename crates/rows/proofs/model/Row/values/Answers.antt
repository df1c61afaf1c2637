use Rattle.rows.proofs.Answering.{valued, valued_ok}
use Rattle.rows.proofs.model.Row.values.Goals as goal

pub unwrap-requires : goal.unwrap-requires
unwrap-requires c = valued_ok c.args.self.now _ c.slot_values.ensures

pub returns : goal.returns
returns c = valued c.args.self.now _ _ c.slot_values.ensures c.unwrap.ensures

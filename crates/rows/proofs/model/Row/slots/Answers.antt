use Rattle.std.proofs.Common.{refl}
use Rattle.rows.proofs.Answering.{row_keeps}
use Rattle.rows.proofs.model.Row.slots.Goals as goal

pub returns : goal.returns
returns c = record { slots = refl; lawful = row_keeps c.args.self.now }

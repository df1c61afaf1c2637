use Rattle.chains.proofs.Judging.{valued_slots}
use Rattle.chains.proofs.rules.values_of.Goals as goal

pub returns : goal.returns
returns c = valued_slots c.args.adders.now c.slots.result c.slot_values.result c.slots.ensures.few c.slots.ensures.slots c.slot_values.ensures

use Rattle.std.proofs.Common.{rules}
use Rattle.placing.specs.Slots.{at_places}
use Rattle.placing.proofs.Made.{is_placed}
use Rattle.placing.proofs.placed.placed_row.Goals as goal

pub returns-clause-placed : goal.returns-clause-placed
returns-clause-placed c before adm = is_placed before c.args.chain.now (at_places c.args.places.now c.args.swaps.now) adm c.new.result (search rules)

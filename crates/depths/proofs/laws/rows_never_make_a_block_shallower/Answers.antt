use Rattle.depths.proofs.Fewer.{rows_never_shallower}
use Rattle.depths.proofs.laws.rows_never_make_a_block_shallower.Goals as goal

pub returns : goal.returns
returns c = rows_never_shallower

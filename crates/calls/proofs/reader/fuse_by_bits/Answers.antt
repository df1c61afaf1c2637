use Rattle.calls.proofs.Readings.{units_told}
use Rattle.calls.proofs.reader.fuse_by_bits.Goals as goal

pub returns : goal.returns
returns c = units_told c.args.units c.args.line.now _ c.in_ok-list.list c.fuse.result c.in_ok-list.ensures.answer c.fuse.ensures

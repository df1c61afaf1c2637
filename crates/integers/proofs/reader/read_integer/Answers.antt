use Rattle.std.proofs.Common.{rules}
use Rattle.integers.proofs.Readings.{reading_one}
use Rattle.integers.proofs.reader.read_integer.Goals as goal

pub returns-clause-only : goal.returns-clause-only
returns-clause-only c s said = reading_one c.args.line.now _ s said (search rules)

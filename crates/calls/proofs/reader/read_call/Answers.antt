use Rattle.std.proofs.Common.{rules}
use Rattle.calls.proofs.Readings.{reading_one}
use Rattle.calls.proofs.reader.read_call.Goals as goal

pub returns-in-Some-clause-only : goal.returns-in-Some-clause-only
returns-in-Some-clause-only c s said = reading_one c.args.line.now _ s (search rules) said

pub returns-clause-only : goal.returns-clause-only
returns-clause-only c s said = reading_one c.args.line.now _ s (search rules) said

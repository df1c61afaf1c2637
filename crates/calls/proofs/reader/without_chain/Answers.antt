use Rattle.std.proofs.Common.{true, false, refl, rules}
use Rattle.calls.specs.Form.{retire, move}
use Rattle.calls.proofs.Lines.{told_retire, told_up, told_down}
use Rattle.calls.proofs.Forms.{none_without}
use Rattle.calls.proofs.reader.without_chain.Goals as goal

pub returns-in-Ok : goal.returns-in-Ok
returns-in-Ok c = (retire _, told_retire c.args.line.now c.in-Ok.ensures, refl)

pub returns-in-Ok-read : goal.returns-in-Ok-read
returns-in-Ok-read c = (move _ _ false _, told_up c.args.line.now c.in-Ok-read.ensures, search rules)

pub returns-in-Ok-read-2 : goal.returns-in-Ok-read-2
returns-in-Ok-read-2 c = (move _ _ true _, told_down c.args.line.now c.in-Ok-read-2.ensures, search rules)

pub returns : goal.returns
returns c = none_without c.args.line.now c.in_default.ensures.broken c.in_default-read.ensures.broken c.in_default-read-2.ensures.broken

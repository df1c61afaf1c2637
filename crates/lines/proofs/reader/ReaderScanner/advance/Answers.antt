use Rattle.std.proofs.Common.{◌≡◌, Some, None, rules}
use Rattle.lines.specs.declared.scan.Move.TheVariants.{Done}
use Rattle.lines.specs.Scan.{step}
use Rattle.lines.proofs.Steps.{step_off, step_done}
use Rattle.lines.proofs.reader.ReaderScanner.advance.Goals as goal

pub returns-in_err-adder-clause-step : goal.returns-in_err-adder-clause-step
returns-in_err-adder-clause-step c bs reached =
    let none : step c.args.self.now.part c.args.byte ≡ None = search rules in
    rw c.from_residual.ensures (step_off bs c.args.byte c.args.self.now reached none)

pub returns-in-Some-clause-step : goal.returns-in-Some-clause-step
returns-in-Some-clause-step c bs reached =
    let done : step c.args.self.now.part c.args.byte ≡ Some (Done c.in-Some.adder) = search rules in
    let push = c.push_within_capacity.ensures in
    step_done bs c.args.byte c.args.self.now c.push_within_capacity.new.self c.in-Some.adder reached done (λ h. (push.room h).1) (λ h. (push.full h).1)

use Rattle.std.proofs.Common.{rules, ◌≡◌, map, ap, ◌∙◌, subst}
use Rattle.fusegen.specs.Generated.{long, width, made, sheet_of, Made}
use Rattle.fusegen.proofs.Making.{event, all_events}
use Rattle.fusegen.proofs.generate.generate.Goals as goal

pub returns-then-input-gt-MOST_BYTES-clause-answer : goal.returns-then-input-gt-MOST_BYTES-clause-answer
returns-then-input-gt-MOST_BYTES-clause-answer c = long c.if-input-gt-MOST_BYTES.true

pub returns-in-Err-clause-answer : goal.returns-in-Err-clause-answer
returns-in-Err-clause-answer c = width (search rules) c.first_line.ensures c.in-Err.ensures.answer

pub returns-in_ok-outcomes-in-Ok-clause-answer : goal.returns-in_ok-outcomes-in-Ok-clause-answer
returns-in_ok-outcomes-in-Ok-clause-answer c =
    let said = c.in_ok-script-in-Ok.ensures in
    let same : c.as_slice.result.now ≡ c.in_ok-script-in-Ok.script.calls.items = search rules in
    made (search rules) c.first_line.ensures c.in-Ok.ensures.answer said.1 (subst (λ es. Made es c.in_ok-script-in-Ok.script.stop (sheet_of c.made.new.sheet c.made.result)) (ap (map event) (same ∙ said.2) ∙ all_events c.in-Ok.width 0 said.0) c.made.ensures.answer)

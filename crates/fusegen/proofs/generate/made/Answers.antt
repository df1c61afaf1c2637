use Rattle.std.proofs.Common.{map, ap, ◌∙◌, subst, sym}
use Rattle.fusegen.specs.Generated.{Made, unless_fault, sheet_of}
use Rattle.fusegen.proofs.Making.{event, made_by}
use Rattle.fusegen.proofs.generate.made.Goals as goal

pub returns-clause-answer : goal.returns-clause-answer
returns-clause-answer c =
    let events = map event c.args.calls.now in
    let block = c.in-Ok.block in
    let length = c.in-Ok-write.length in
    let said = c.unless_fault.ensures ∙ ap (λ f. unless_fault f length) c.first_fault.ensures in
    subst (λ r. Made events c.args.stop (sheet_of c.write.new.buffer r)) (sym said)
    (made_by events c.apply_all.new.outcomes block c.in-Ok.ensures.answer.1 c.args.sheet.now c.write.new.buffer length c.in-Ok-write.ensures.answer c.args.stop)

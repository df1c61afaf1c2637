use Rattle.std.proofs.Common.{rules, ◌≡◌, ◌++◌, ◌∷◌, [], sym, ap, ◌∙◌, subst}
use Rattle.replay.specs.Scripts.{calls_in}
use Rattle.replay.proofs.Going.{Joins, joins_more, joined, one_call, no_call}
use Rattle.replay.proofs.script.Script.read.Goals as goal
use Rattle.replay.proofs.script.Script.read.Goals.{in-Ok+in_ok-push, in_default}

pub loop-rest-preserved : goal.loop-rest-preserved
loop-rest-preserved c =
    let read = c.loop-rest.answers.items in
    let all = c.push-in-loop-rest.new.self.items in
    let r = c.read_call-answer.result in
    let pushed : all ≡ read ++ r ∷ [] = search rules in
    let calls : c.match-answer.calls.items ≡ calls_in all = elim c.match-answer.branch [
      | in-Ok+in_ok-push w ↦ one_call read all r pushed c.loop-rest.calls.items c.match-answer.calls.items c.loop-rest.invariant.0 w.in-Ok.call w.in-Ok.is (ap (λ v. v.items) w.calls-is ∙ w.in_ok-push.ensures.items)
      | in_default w ↦ no_call read all r pushed c.loop-rest.calls.items c.match-answer.calls.items c.loop-rest.invariant.0 w.in_default.field-0 w.in_default.is (ap (λ v. v.items) w.calls-is)
    ] in
    (calls, subst (Joins c.args.text.now c.first_line.result.1.now) (sym pushed) (joins_more c.args.text.now c.loop-rest.rest.now c.first_line.result.0.now c.first_line.result.1.now read r c.loop-rest.invariant.1 (search rules) c.first_line.ensures c.read_call-answer.ensures.answer))

pub returns : goal.returns
returns c = (joined c.args.text.now c.loop-rest.rest.now c.loop-rest.answers.items c.loop-rest.invariant.1 (search rules), c.loop-rest.invariant.0)

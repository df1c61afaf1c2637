use Rattle.std.proofs.Common.{rules, ◌≡◌, ◌++◌, ◌∷◌, [], length}
use Rattle.fusegen.specs.Scripts.{call_at}
use Rattle.fusegen.proofs.Going.{goes_on, ends, stops}
use Rattle.fusegen.proofs.script.Script.read.Goals as goal

pub returns-in-Err : goal.returns-in-Err
returns-in-Err c =
    let calls = c.loop-chain.calls.items in
    stops c.args.width c.args.text.now c.loop-chain.rest.now c.first_line.result.0.now c.first_line.result.1.now calls calls c.loop-chain.invariant c.first_line.ensures c.in-Err.refusal c.in-Err.ensures.answer

pub returns-then-is_empty : goal.returns-then-is_empty
returns-then-is_empty c =
    let calls = c.loop-chain.calls.items in
    let pushed : c.push.new.self.items ≡ calls ++ call_at c.args.width (length calls) c.in-Ok.chain ∷ [] = search rules in
    ends c.args.width c.args.text.now c.loop-chain.rest.now c.first_line.result.0.now c.first_line.result.1.now calls c.push.new.self.items c.loop-chain.invariant c.first_line.ensures c.in-Ok.chain c.in-Ok.ensures.answer pushed (search rules)

pub loop-chain-preserved : goal.loop-chain-preserved
loop-chain-preserved c =
    let calls = c.loop-chain.calls.items in
    let pushed : c.push.new.self.items ≡ calls ++ call_at c.args.width (length calls) c.in-Ok.chain ∷ [] = search rules in
    goes_on c.args.width c.args.text.now c.loop-chain.rest.now c.first_line.result.0.now c.first_line.result.1.now calls c.push.new.self.items c.loop-chain.invariant c.first_line.ensures c.in-Ok.chain c.in-Ok.ensures.answer pushed (search rules)

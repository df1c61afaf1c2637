use Rattle.std.proofs.Common.{◌≡◌, ◌+◌, ◌<◌, ◌≤◌, length, get_or, refl, ap, ◌∙◌, arith, rules}
use Rattle.arith.specs.Operations.{times}
use Rattle.rows.specs.Rules.{row_constant}
use Rattle.running.specs.Results.{listed}
use Rattle.running.proofs.Carrying.{within_nine, carries_first, carries_more, carries_out}
use Rattle.running.proofs.runner.run.Goals as goal

pub loop-i-init : goal.loop-i-init
loop-i-init g c =
    let m = g.X.Arithmetic in
    carries_first m.operations g.met.X.Arithmetic.laws m.means c.slots-slots.result (listed c.new-results.result) c.new-results.result.0 refl

pub slot_result-result-requires : goal.slot_result-result-requires
slot_result-result-requires g c = within_nine c.slots-slots.result c.loop-i.i c.slots-slots.ensures.lawful.adders c.loop-i-test.true _ refl

pub loop-i-preserved : goal.loop-i-preserved
loop-i-preserved g c =
    let m = g.X.Arithmetic in
    let xs = c.slots-slots.result in
    let x = c.new-results.result.0 in
    let eight : length xs ≡ 8 = search rules in
    let room : c.loop-i.i + 1 < 9 = omega arith in
    carries_more m.operations g.met.X.Arithmetic.laws m.means xs c.loop-i.i (listed c.loop-i.results) _ x c.slot_result-result.result
    c.slots-slots.ensures.lawful.adders (omega arith) room c.loop-i.invariant (c.slot_result-result.ensures x) c.put.ensures

pub returns : goal.returns
returns g c =
    let m = g.X.Arithmetic in
    let xs = c.slots-slots.result in
    let x = c.new-results.result.0 in
    let same : x ≡ c.args.sample = ap (λ l. get_or l 0 x) c.new-results.ensures in
    let out = c.output.result in
    let lawful = c.slots-slots.ensures.lawful in
    let eight : length xs ≡ 8 = search rules in
    let low : out.source ≤ c.loop-i.i = omega (arith, lawful.source, ap (λ o. o.source) c.output.ensures) in
    let told = carries_out m.operations g.met.X.Arithmetic.laws m.means xs out c.loop-i.i (listed c.loop-i.results) x c.operand.result low c.loop-i.invariant (c.operand.ensures.meaning x) in
    let meaning = told
    ∙ ap (λ y. times m.operations (row_constant xs out) (m.means y)) same
    ∙ (λ i. times m.operations (row_constant (c.slots-slots.ensures.slots i) (c.output.ensures i)) (m.means c.args.sample)) in
    record {
      meaning = meaning;
      product = g.met.X.Arithmetic.multiplied _ c.args.sample c.operand.result c.operand.ensures.settled meaning;
    }

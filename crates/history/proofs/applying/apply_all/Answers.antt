use Rattle.std.proofs.Common.{rules}
use Rattle.history.specs.Events.{event_of, Step}
use Rattle.history.specs.Runs.{rests}
use Rattle.history.proofs.Runs.{run_more, run_whole}
use Rattle.history.proofs.Histories.{every_history}
use Rattle.history.proofs.applying.apply_all.Goals as goal

pub loop-i-init : goal.loop-i-init
loop-i-init g c = (c.new-block.result, c.new-block.ensures.unfounded, rests)

pub loop-i-preserved : goal.loop-i-preserved
loop-i-preserved g c =
    let f = event_of g.L.PriceList.adders g.L.PriceList.muxes in
    let before = c.loop-i.invariant in
    (before.0, before.1, run_more Step f c.args.calls.now c.loop-i.outcomes c.loop-i.i c.index-calls-i.result c.apply.result before.0 c.loop-i.block c.apply.new.block (search rules) (search rules) (search rules) before.2 c.apply.ensures)

pub returns-clause-answer : goal.returns-clause-answer
returns-clause-answer g c =
    let f = event_of g.L.PriceList.adders g.L.PriceList.muxes in
    let before = c.loop-i.invariant in
    (search rules, every_history before.0 c.loop-i.block _ _ before.1 (run_whole Step f c.args.calls.now c.loop-i.outcomes c.loop-i.i before.0 c.loop-i.block (search rules) (search rules) before.2))

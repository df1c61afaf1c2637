use Rattle.std.proofs.Common.{map, rules}
use Rattle.history.specs.Events.{event_of}
use Rattle.history.specs.Replays.{lent}
use Rattle.history.proofs.Replays.{replayed}
use Rattle.history.proofs.replaying.replay.Goals as goal

pub returns-clause-answer : goal.returns-clause-answer
returns-clause-answer g c =
    let a = g.X.Arithmetic in
    let samples = c.args.samples.now in (
      c.in_ok-block.ensures.answer.0,
      replayed a.means a.operations a.Product (map (event_of g.L.PriceList.adders g.L.PriceList.muxes) c.args.calls.now) samples.code samples.sample samples.buffer.now (lent c.args.outcomes.now c.args.sheet.now c.args.place.now c.args.output.now) c.apply_all.new.outcomes c.write.new.buffer c.read.new.block c.run_all.new.output c.in_ok-length.length c.run.result c.run_all.result c.in_ok-block.block c.in_ok-block.ensures.answer.1 c.in_ok-length.ensures.answer c.in_ok-length.ensures.again (search rules) c.run.ensures.answer c.run_all.ensures.answer,
    )

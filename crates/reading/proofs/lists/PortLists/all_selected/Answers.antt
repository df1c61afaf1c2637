use Rattle.std.proofs.Common.{rules, sym, ◌∙◌}
use Rattle.reading.specs.Orders.{lists_of}
use Rattle.reading.proofs.Selected.{not_selected, selected_there, all_checked}
use Rattle.reading.proofs.lists.PortLists.all_selected.Goals as goal

pub returns-then-not-all_among : goal.returns-then-not-all_among
returns-then-not-all_among c = sym c.loop-place.invariant ∙ not_selected c.args.block.now (lists_of c.args.self.now) c.args.block.now.adders c.loop-place.place (search rules) c.nth-port.result (search rules) c.at.result c.at.ensures (search rules)

pub loop-place-preserved : goal.loop-place-preserved
loop-place-preserved c = selected_there c.args.block.now (lists_of c.args.self.now) c.args.block.now.adders c.loop-place.place (search rules) c.nth-port.result (search rules) c.at.result c.at.ensures (search rules) ∙ c.loop-place.invariant

pub returns : goal.returns
returns c = sym c.loop-place.invariant ∙ all_checked c.args.block.now (lists_of c.args.self.now) c.args.block.now.adders c.loop-place.place (search rules)

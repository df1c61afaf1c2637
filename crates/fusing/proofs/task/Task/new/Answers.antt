use Rattle.std.proofs.Common.{rules}
use Rattle.fusing.proofs.task.Task.new.Goals as goal

pub returns-clause-task : goal.returns-clause-task
returns-clause-task g c = record {
  sample = c.width.ensures;
  count = c.adders.ensures;
  length_is = search rules;
  row = c.from-row.result;
  of_chain = search rules;
  uses = c.uses_of.ensures;
  output = search rules;
  held = c.held_of.ensures;
  held_output = c.of-2.ensures;
}

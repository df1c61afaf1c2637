use Rattle.std.proofs.Common.{sym, subst}
use Rattle.adders.specs.Rules.{InRange, Tried}
use Rattle.rows.specs.Rules.{row_constant, row_rules}
use Rattle.rows.proofs.Answering.{row_keeps}
use Rattle.rows.proofs.model.Row.constant.Goals as goal

pub returns-clause-range : goal.returns-clause-range
returns-clause-range c =
    let r = c.args.self.now in
    let told = subst (Tried (row_rules r.slots r.output) (row_constant r.slots r.output)) c.unwrap.ensures c.constant_of.ensures in
    subst InRange (sym told.1) (row_keeps r).range

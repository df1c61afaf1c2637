use Rattle.std.proofs.Common.{sym, subst}
use Rattle.adders.specs.Rules.{InRange, Tried}
use Rattle.chains.specs.Rules.{constant, chain_rules}
use Rattle.chains.proofs.Answering.{chain_keeps}
use Rattle.chains.proofs.model.Chain.constant.Goals as goal

pub returns-clause-range : goal.returns-clause-range
returns-clause-range c =
    let s = c.args.self.now in
    let told = subst (Tried (chain_rules s.adders s.shift) (constant s.adders s.shift)) c.unwrap.ensures c.constant_of.ensures in
    subst InRange (sym told.1) (chain_keeps s).range

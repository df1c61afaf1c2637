use Rattle.std.proofs.Common.{sym, subst}
use Rattle.chains.specs.Rules.{Keeps}
use Rattle.chains.proofs.Answering.{chain_keeps}
use Rattle.chains.proofs.model.Chain.adders.Goals as goal

pub returns-clause-lawful : goal.returns-clause-lawful
returns-clause-lawful c = let s = c.args.self.now in subst (λ xs. Keeps xs s.shift) (sym c.as_slice.ensures.items) (chain_keeps s)

use Rattle.std.proofs.Common.{refl, subst, arith}
use Rattle.chains.specs.Rules.{Valued}
use Rattle.chains.specs.Chains.{chain_adders}
use Rattle.chains.proofs.Answering.{value_listed, told_value, valued_ok}
use Rattle.chains.proofs.model.Chain.value.Goals as goal

pub unwrap-values-requires : goal.unwrap-values-requires
unwrap-values-requires c = valued_ok c.args.self.now _ c.values_of.ensures

pub returns : goal.returns
returns c =
    let s = c.args.self.now in
    let told = subst (Valued (chain_adders s)) c.unwrap-values.ensures c.values_of.ensures in
    told_value s c.args.adder _ (value_listed s (chain_adders s) c.unwrap-values.result c.args.adder refl told.1 (omega arith) (omega (arith, c.len.ensures.count)))

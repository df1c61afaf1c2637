use Rattle.std.proofs.Common.{refl, ap, ◌∙◌, sym}
use Rattle.std.proofs.lemmas.Result.{err_from_is_err_and}
use Rattle.adders.specs.Rules.{first_broken}
use Rattle.chains.specs.Rules.{chain_rules}
use Rattle.chains.specs.Chains.{kept, broken}
use Rattle.chains.proofs.Answering.{told_new}
use Rattle.chains.proofs.Judging.{chain_crowded}
use Rattle.chains.proofs.model.Chain.new.Goals as goal

pub returns-in_err-adders : goal.returns-in_err-adders
returns-in_err-adders c =
    let p = err_from_is_err_and c.from_residual.result c.from_residual.ensures.1 in
    let told = c.in_err-adders.ensures in
    rw (p.1, p.2, told.1) (told_new (broken (chain_crowded c.args.adders.now c.args.shift told.0)))

pub returns-in_err-constant_of : goal.returns-in_err-constant_of
returns-in_err-constant_of c =
    let p = err_from_is_err_and c.from_residual-in_err-constant_of.result c.from_residual-in_err-constant_of.ensures.1 in
    let same = c.in_ok-adders.ensures.1 in
    rw (p.1, p.2) (told_new (broken (ap (λ xs. first_broken (chain_rules xs c.args.shift)) (sym same) ∙ c.in_err-constant_of.ensures)))

pub returns : goal.returns
returns c =
    let same = c.in_ok-adders.ensures.1 in
    told_new (kept (ap (λ xs. first_broken (chain_rules xs c.args.shift)) (sym same) ∙ c.in_ok-constant_of.ensures.0) same refl)

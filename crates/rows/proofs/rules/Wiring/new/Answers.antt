use Rattle.std.proofs.Common.{◌≡◌, suc, length, ap, ◌∙◌, rules}
use Rattle.std.proofs.lemmas.Result.{err_from_is_err_and}
use Rattle.adders.specs.declared.wiring.Operand.{Operand}
use Rattle.adders.specs.Values.{Slots}
use Rattle.adders.specs.Rules.{first_broken, reading_rules}
use Rattle.adders.proofs.Broken.{otherwise, broken_append}
use Rattle.rows.specs.Rules.{wiring_from, output_wiring}
use Rattle.rows.proofs.rules.Wiring.new.Goals as goal

-- the output of eight slots reads nine sources
nine : (xs : Slots) (out : Operand) → length xs ≡ 8 → first_broken (output_wiring xs out) ≡ first_broken (reading_rules 9 0 out)
nine xs out eight = ap (λ n. first_broken (reading_rules (suc n) 0 out)) eight

pub returns-in_err-slots_wired-clause-broken : goal.returns-in_err-slots_wired-clause-broken
returns-in_err-slots_wired-clause-broken c =
    let p = err_from_is_err_and c.from_residual.result c.from_residual.ensures.1 in
    let output = output_wiring c.args.slots c.args.output in
    rw (p.1, p.2) (broken_append (wiring_from 1 c.args.slots) output ∙ ap (λ o. otherwise o (first_broken output)) c.in_err-slots_wired.ensures)

pub returns-in_err-wired_below-clause-broken : goal.returns-in_err-wired_below-clause-broken
returns-in_err-wired_below-clause-broken c =
    let eight : length c.args.slots ≡ 8 = search rules in
    let p = err_from_is_err_and c.from_residual-in_err-wired_below.result c.from_residual-in_err-wired_below.ensures.1 in
    let output = output_wiring c.args.slots c.args.output in
    rw (p.1, p.2) (
    broken_append (wiring_from 1 c.args.slots) output
    ∙ ap (λ o. otherwise o (first_broken output)) c.in_ok-slots_wired.ensures.0
    ∙ nine c.args.slots c.args.output eight
    ∙ c.in_err-wired_below.ensures)

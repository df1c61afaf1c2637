use Rattle.std.proofs.Common.{◌≡◌, sym, ◌∙◌}
use Rattle.std.proofs.lemmas.Result.{err_from_is_err_and}
use Rattle.adders.specs.declared.wiring.Operand.{Operand}
use Rattle.adders.specs.Values.{Slots}
use Rattle.adders.specs.Rules.{first_broken}
use Rattle.rows.specs.Rules.{use_rules}
use Rattle.rows.proofs.Judging.{in_wiring, in_use, in_adders, by_output}
use Rattle.rows.proofs.rules.constant_of.Goals as goal

pub returns-in_err-wiring : goal.returns-in_err-wiring
returns-in_err-wiring c =
    let p = err_from_is_err_and c.from_residual.result c.from_residual.ensures.1 in
    rw (p.1, p.2) (in_wiring c.args.slots c.args.output _ c.in_err-wiring.ensures.broken)

-- the rules of use, of the slots and the output themselves
same_use : {xs ys : Slots} {o p : Operand} → xs ≡ ys → o ≡ p → first_broken (use_rules ys p.source 1 ys) ≡ first_broken (use_rules xs o.source 1 xs)
same_use e f = (λ i. first_broken (use_rules (sym e i) (sym f i).source 1 (sym e i)))

pub returns-in_err-used_as_read : goal.returns-in_err-used_as_read
returns-in_err-used_as_read c =
    let kept = c.in_ok-wiring.ensures.kept in
    let p = err_from_is_err_and c.from_residual-in_err-used_as_read.result c.from_residual-in_err-used_as_read.ensures.1 in
    rw (p.1, p.2) (in_use c.args.slots c.args.output kept.2 kept.3 _ (same_use kept.0 kept.1 ∙ c.in_err-used_as_read.ensures))

pub returns-in_err-values : goal.returns-in_err-values
returns-in_err-values c =
    let kept = c.in_ok-wiring.ensures.kept in
    let p = err_from_is_err_and c.from_residual-in_err-values.result c.from_residual-in_err-values.ensures.1 in
    rw (p.1, p.2) (in_adders c.args.slots c.args.output kept.2 kept.3 (same_use kept.0 kept.1 ∙ c.in_ok-used_as_read.ensures.0) _ c.in_err-values.ensures)

pub returns : goal.returns
returns c =
    let kept = c.in_ok-wiring.ensures.kept in
    let told = c.in_ok-values.ensures in
    by_output c.args.slots c.args.output kept.2 kept.3 (same_use kept.0 kept.1 ∙ c.in_ok-used_as_read.ensures.0) c.in_ok-values.values told.0 told.1 c.output_value.result c.output_value.ensures

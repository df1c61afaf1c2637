use Rattle.std.proofs.Common.{◌*◌, ◌^◌, sym, ap, ◌∙◌}
use Rattle.std.proofs.lemmas.Result.{err_from_is_err_and}
use Rattle.adders.specs.Rules.{first_broken}
use Rattle.chains.specs.Rules.{read_rules}
use Rattle.chains.proofs.Judging.{in_adders, in_output, past_output, last_value}
use Rattle.chains.proofs.rules.constant_of.Goals as goal

pub returns-in_err-values : goal.returns-in_err-values
returns-in_err-values c =
    let p = err_from_is_err_and c.from_residual.result c.from_residual.ensures.1 in
    rw (p.1, p.2) (in_adders c.args.adders.now c.args.shift c.len-last.ensures.few _ c.in_err-values.ensures)

pub returns-in_err-constant : goal.returns-in_err-constant
returns-in_err-constant c =
    let p = err_from_is_err_and c.from_residual-in_err-constant.result c.from_residual-in_err-constant.ensures.1 in
    let told = c.in_ok-values.ensures in
    let last = c.len-last.ensures in
    rw (p.1, p.2) (in_output c.args.adders.now c.args.shift last.few c.in_ok-values.values c.len-last.result last.count told.1 told.0 _ c.in_err-constant.ensures)

pub returns-in_err-all_read : goal.returns-in_err-all_read
returns-in_err-all_read c =
    let p = err_from_is_err_and c.from_residual-in_err-all_read.result c.from_residual-in_err-all_read.ensures.1 in
    let told = c.in_ok-values.ensures in
    let last = c.len-last.ensures in
    rw (p.1, p.2) (
    past_output c.args.adders.now c.args.shift last.few c.in_ok-values.values c.len-last.result last.count told.1 told.0 c.in_ok-constant.ensures.0
    ∙ ap (λ xs. first_broken (read_rules xs)) (sym c.as_slice.ensures.items)
    ∙ c.in_err-all_read.ensures)

pub returns : goal.returns
returns c =
    let told = c.in_ok-values.ensures in
    let last = c.len-last.ensures in (
      past_output c.args.adders.now c.args.shift last.few c.in_ok-values.values c.len-last.result last.count told.1 told.0 c.in_ok-constant.ensures.0
          ∙ ap (λ xs. first_broken (read_rules xs)) (sym c.as_slice.ensures.items)
          ∙ c.in_ok-all_read.ensures.0,
      c.in_ok-constant.ensures.1 ∙ ap (λ v. v * 2 ^ c.args.shift) (last_value c.args.adders.now c.in_ok-values.values c.len-last.result last.count told.1),
    )

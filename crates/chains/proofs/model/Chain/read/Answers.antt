use Rattle.std.proofs.Common.{◌∙◌, subst₂, arith}
use Rattle.std.proofs.lemmas.Result.{err_from_is_err_and}
use Rattle.chains.specs.Chains.{Judged, long, misshapen, judged}
use Rattle.chains.proofs.Answering.{told_read, from_nine}
use Rattle.chains.proofs.model.Chain.read.Goals as goal

pub returns-then-line-gt-MOST_BYTES : goal.returns-then-line-gt-MOST_BYTES
returns-then-line-gt-MOST_BYTES c = told_read (long (omega arith))

pub returns-in_err-draft : goal.returns-in_err-draft
returns-in_err-draft c =
    let p = err_from_is_err_and c.from_residual.result c.from_residual.ensures.1 in
    rw (p.1, p.2) (told_read (misshapen (omega arith) c.in_err-draft.ensures))

pub returns : goal.returns
returns c =
    let d = c.in_ok-draft.ensures in
    told_read (judged (omega arith) d.line (from_nine d.all c.in_ok-draft.draft.shift (subst₂ (λ ys o. Judged ys o c.new.result) (c.adders.ensures.adders ∙ d.holds) c.shift.ensures c.new.ensures.answer)))

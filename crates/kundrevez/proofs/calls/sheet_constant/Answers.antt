use Rattle.std.proofs.Common.{◌≡◌, ℕ, List, Some, Ok, Err, Result}
use Rattle.std.proofs.lemmas.Result.{err_from_is_err_and}
use Rattle.adders.specs.declared.refusals.Refusal.{Refusal}
use Rattle.adders.specs.Rules.{Answered}
use Rattle.tables.specs.Tables.{live_rules}
use Rattle.blocks.specs.declared.model.Block.{Block}
use Rattle.blocks.specs.Blocks.{constant_at}
use Rattle.sheetlaws.specs.Sheets.{IsSheet}
use Rattle.kundrevez.specs.Host.{SheetConstant, no_sheet, no_constant, at_code}
use Rattle.kundrevez.proofs.calls.sheet_constant.Goals as goal

pub returns-in_err-read : goal.returns-in_err-read
returns-in_err-read c =
    let p = err_from_is_err_and c.from_residual.result c.from_residual.ensures.1 in
    record { answer = rw (p.1, p.2) (no_sheet c.in_err-read.ensures.answer.0) }

module _ (sheet : List ℕ) (code : ℕ) (b : Block) (h : IsSheet sheet b) where
  answered : (r : Result ℕ Refusal) → Answered (live_rules code (constant_at b code)) (λ n. constant_at b code ≡ Some n) r → SheetConstant sheet code r
  answered (Ok n) a = at_code h a.1
  answered (Err e) a = no_constant h a

pub returns : goal.returns
returns c = record { answer = answered c.args.sheet.now c.args.code c.read.new.block c.in_ok-read.ensures.answer c.constant.result c.constant.ensures }

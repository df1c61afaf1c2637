-- What reading a sheet answers, and what is printed of it.
use Rattle.std.specs.Prelude.{ℕ, List, ◌++◌, Ok, Err, Result, codes, decimal}
use Rattle.adders.specs.declared.refusals.Refusal.{Refusal}
use Rattle.adders.specs.declared.refusals.Refusal.TheVariants as R
use Rattle.adders.specs.declared.refusals.RowFault.{RowFault}
use Rattle.adders.specs.Refusals.{refusal_entry, fault_entry}
use Rattle.blocks.specs.declared.model.Block.{Block}
use Rattle.sheetlaws.specs.Sheets.{IsSheet}
use Rattle.sheetlaws.specs.Refusing.{Refused}
use Rattle.readsheet.specs.Blocks.{block_text}

-- the block that the bytes are a sheet of, or the first cause why they are none
abbrev pub ReadAs : List ℕ → Result Block Refusal → Type 0
ReadAs bytes (Ok b) = IsSheet bytes b
ReadAs bytes (Err e) = Refused bytes e

-- the rule that a row breaks, and where
abbrev pub rule_text : RowFault → List ℕ
rule_text rule = codes "\ncause=" ++ (decimal (fault_entry rule).number ++ (codes "\nplace=" ++ decimal (fault_entry rule).place))

abbrev pub at_line : Refusal → List ℕ
at_line e = codes "fault=" ++ (decimal (refusal_entry e).number ++ (codes "\nline=" ++ decimal (refusal_entry e).place))

abbrev pub cause_text : Refusal → List ℕ
cause_text (R.RowBroken line rule) = at_line (R.RowBroken line rule) ++ rule_text rule
cause_text e = at_line e

abbrev pub report_text : Result Block Refusal → List ℕ
report_text (Ok b) = block_text b
report_text (Err e) = cause_text e

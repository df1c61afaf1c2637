-- How an answer of the generator is printed.
use Rattle.std.specs.Prelude.{List, ℕ, ◌++◌, Ok, Err, Result, codes}
use Rattle.std.specs.Borrow.{Bor}
use Rattle.adders.specs.declared.refusals.LineRefusal.{LineRefusal}
use Rattle.adders.specs.Refusals.{line_refusal_text}

-- the bytes of the sheet that is lent, or what is turned down
abbrev pub said : Result (Bor (List ℕ)) LineRefusal → Result (List ℕ) LineRefusal
said (Ok sheet) = Ok sheet.now
said (Err r) = Err r

-- a sheet is printed as it is, and what is turned down in three lines
abbrev pub answer_text : Result (List ℕ) LineRefusal → List ℕ
answer_text (Ok sheet) = sheet
answer_text (Err r) = line_refusal_text r.refusal r.line ++ codes "\n"

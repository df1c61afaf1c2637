use Rattle.std.proofs.Common.{◌≡◌, ◌+◌, drop}
use Rattle.sheetlaws.specs.Sheets.{place}
use Rattle.sheets.proofs.writer.place.Given as goal

abbrev pub invariant-loop-number : goal.invariant-loop-number
invariant-loop-number l = place l.fn.input l.fn.inputs ≡ l.number + place l.fn.input (drop l.number l.fn.inputs)

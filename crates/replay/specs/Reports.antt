-- What is printed for each line of a script.
--   rs   for each line what reading it answers
--   os   for each call that is made what it answers
use Rattle.std.specs.Prelude.{◌≡◌, ℕ, List, [], ◌∷◌, ◌++◌, map, codes, decimal, Ok, Err, Result}
use Rattle.adders.specs.Refusals.{refusal_entry}
use Rattle.blocks.specs.declared.model.Block.{Block}
use Rattle.calls.specs.declared.call.Call.{Call}
use Rattle.calls.specs.Form.{SuppliedList}
use Rattle.calls.specs.declared.call.Unread.{Unread}
use Rattle.calls.specs.declared.call.Unread.TheVariants.{Unreadable, Refused}
use Rattle.sheets.specs.Calls.{written_sheet}
use Rattle.history.specs.declared.outcome.Outcome.{Outcome}
use Rattle.history.specs.declared.outcome.Outcome.TheVariants as outcome
use Rattle.history.specs.Events.{Event}
use Rattle.history.specs.Histories.{History}
use Rattle.replay.specs.declared.report.LineReport.{LineReport}
use Rattle.replay.specs.declared.report.LineReport.TheVariants.{Done, Priced, Fault, NoCall}
use Rattle.replay.specs.Scripts.{ScriptLines, calls_in, event}

abbrev pub report_of : Outcome → LineReport
report_of outcome.Done = Done
report_of (outcome.Priced price) = Priced price
report_of (outcome.Refused e) = Fault e

-- a line that gives a call has the call's outcome
abbrev pub reports_of : List (Result (Call SuppliedList) Unread) → List Outcome → List LineReport
reports_of [] os = []
reports_of (Ok call ∷ rs) [] = []
reports_of (Ok call ∷ rs) (o ∷ os) = report_of o ∷ reports_of rs os
reports_of (Err Unreadable ∷ rs) os = NoCall ∷ reports_of rs os
reports_of (Err (Refused e) ∷ rs) os = Fault e ∷ reports_of rs os

abbrev pub report_text : LineReport → List ℕ
report_text Done = codes "ok"
report_text (Priced price) = codes "ok price=" ++ decimal price
report_text (Fault e) = codes "fault=" ++ (decimal (refusal_entry e).number ++ (codes " place=" ++ decimal (refusal_entry e).place))
report_text NoCall = codes "unreadable"

-- The calls are made in turn on a place not yet founded, and the sheet is that of the block that is left.
pub record Made (events : List Event) (os : List Outcome) (sheet : List ℕ) : Type 0 where
  pub block : Block
  pub history : History events os block
  pub written : sheet ≡ written_sheet block

-- Each line has its report, and the calls that the lines give are made.
pub record Replays (text : List ℕ) (reports : List LineReport) (sheet : List ℕ) : Type 0 where
  pub answers : List (Result (Call SuppliedList) Unread)
  pub lines : ScriptLines text answers
  pub outcomes : List Outcome
  pub made : Made (map event (calls_in answers)) outcomes sheet
  pub reported : reports ≡ reports_of answers outcomes

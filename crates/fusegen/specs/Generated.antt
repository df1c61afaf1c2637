-- What the generator answers: a sheet, or what is turned down and in which line of the input.
use Rattle.std.specs.Prelude.{◌≡◌, ℕ, ◌+◌, ◌<◌, ◌≤◌, List, [], ◌∷◌, length, take, Some, None, Ok, Err, Option, Result}
use Rattle.adders.specs.declared.refusals.Refusal.{Refusal}
use Rattle.adders.specs.declared.refusals.Refusal.TheVariants.{SheetTooLong}
use Rattle.adders.specs.declared.refusals.LineRefusal.{LineRefusal}
use Rattle.forms.specs.Lines.{FirstLine}
use Rattle.chains.specs.declared.model.Chain.{Chain}
use Rattle.blocks.specs.declared.model.Block.{Block}
use Rattle.calls.specs.Widths.{WidthReading}
use Rattle.sheets.specs.Calls.{written_sheet}
use Rattle.history.specs.declared.outcome.Outcome.{Outcome}
use Rattle.history.specs.declared.outcome.Outcome.TheVariants.{Done, Priced, Refused}
use Rattle.history.specs.Events.{Event}
use Rattle.history.specs.Histories.{History}
use Rattle.fusegen.specs.Scripts.{ChainLines, events_from}

abbrev pub at_line : ℕ → Refusal → LineRefusal
at_line line e = record { refusal = e; line = line }

-- The first call that is turned down, and else what ended the reading; the first call's line is the one given.
abbrev pub first_fault : ℕ → List Outcome → Option Refusal → Option LineRefusal
first_fault line [] None = None
first_fault line [] (Some e) = Some (at_line line e)
first_fault line (Done ∷ os) stop = first_fault (line + 1) os stop
first_fault line (Priced price ∷ os) stop = first_fault (line + 1) os stop
first_fault line (Refused e ∷ os) stop = Some (at_line line e)

-- what was turned down, or else what was made
abbrev pub unless_fault : {A : Type 0} → Option LineRefusal → A → Result A LineRefusal
unless_fault None x = Ok x
unless_fault (Some r) x = Err r

-- The calls leave a block, and its sheet is written unless one of them was turned down or the reading was ended.
pub record Made (events : List Event) (stop : Option Refusal) (r : Result (List ℕ) LineRefusal) : Type 0 where
  pub outcomes : List Outcome
  pub block : Block
  pub history : History events outcomes block
  pub answer : r ≡ unless_fault (first_fault 2 outcomes stop) (written_sheet block)

-- The length is judged first, then the width line, then the lines of chains in turn.
pub data Generated (input : List ℕ) : Result (List ℕ) LineRefusal → Type 0 where
  long : 4096 < length input → Generated input (Err (at_line 0 SheetTooLong))
  width : {line text : List ℕ} {e : Refusal} → length input ≤ 4096 → FirstLine input line text → WidthReading line (Err e) → Generated input (Err (at_line 1 e))
  made : {line text : List ℕ} {w : ℕ} {cs : List Chain} {stop : Option Refusal} {r : Result (List ℕ) LineRefusal} → length input ≤ 4096 → FirstLine input line text → WidthReading line (Ok w)
      → ChainLines text cs stop → Made (events_from w 0 cs) stop r → Generated input r

-- the answer of a call that writes the sheet into a buffer
abbrev pub sheet_of : List ℕ → Result ℕ LineRefusal → Result (List ℕ) LineRefusal
sheet_of buffer (Ok n) = Ok (take n buffer)
sheet_of buffer (Err r) = Err r

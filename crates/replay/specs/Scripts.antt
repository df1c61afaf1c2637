-- A script of calls.
--   text   the script, or what is left of it
--   rs     for each of its lines what reading it answers
use Rattle.std.specs.Prelude.{ℕ, List, [], ◌∷◌, Ok, Err, Result}
use Rattle.forms.specs.Lines.{FirstLine}
use Rattle.prices.specs.Count.{count_adders, count_muxes}
use Rattle.prices.specs.PerBit.{per_bit_adders, per_bit_muxes}
use Rattle.prices.specs.Either.{either_table}
use Rattle.calls.specs.declared.call.Call.{Call}
use Rattle.calls.specs.declared.call.Unread.{Unread}
use Rattle.calls.specs.Form.{SuppliedList, Reading}
use Rattle.history.specs.Events.{Event, event_of}

-- the end of the input ends a line too
pub data ScriptLines : List ℕ → List (Result (Call SuppliedList) Unread) → Type 0 where
  done : ScriptLines [] []
  next : {b : ℕ} {text line after : List ℕ} {r : Result (Call SuppliedList) Unread} {rs : List (Result (Call SuppliedList) Unread)} → FirstLine (b ∷ text) line after → Reading line r → ScriptLines after rs → ScriptLines (b ∷ text) (r ∷ rs)

-- the calls that are made: those of the lines that give one
abbrev pub calls_in : List (Result (Call SuppliedList) Unread) → List (Call SuppliedList)
calls_in [] = []
calls_in (Ok call ∷ rs) = call ∷ calls_in rs
calls_in (Err unread ∷ rs) = calls_in rs

-- a call by its arguments, under the list that its line names
abbrev pub event : Call SuppliedList → Event
event = event_of (either_table (λ _. count_adders) per_bit_adders) (either_table (λ _. count_muxes) per_bit_muxes)

-- The sheet that the calls leave, and what an input is answered.
use Rattle.std.proofs.Common.{◌≡◌, ℕ, zero, suc, List, [], ◌∷◌, take, map, Some, None, Ok, Option, refl, ap, ◌∙◌}
use Rattle.std.proofs.Math.Seq.{take-append_seam}
use Rattle.adders.specs.declared.refusals.Refusal.{Refusal}
use Rattle.adders.specs.declared.refusals.LineRefusal.{LineRefusal}
use Rattle.chains.specs.declared.model.Chain.{Chain}
use Rattle.blocks.specs.declared.model.Block.{Block}
use Rattle.prices.specs.Count.{count_adders, count_muxes}
use Rattle.prices.specs.declared.count.CountList.{CountList}
use Rattle.calls.specs.declared.call.Call.{Call}
use Rattle.sheets.specs.Calls.{written_sheet}
use Rattle.writing.specs.Writes.{Written}
use Rattle.history.specs.declared.outcome.Outcome.{Outcome}
use Rattle.history.specs.Events.{Event, event_of}
use Rattle.history.specs.Histories.{History}
use Rattle.fusegen.specs.Scripts.{call_at, calls_from, event_at, events_from}
use Rattle.fusegen.specs.Generated.{first_fault, unless_fault, sheet_of, Made}

abbrev pub event : Call CountList → Event
event = event_of {L = CountList} (λ _. count_adders) (λ _. count_muxes)

one_event : (w code : ℕ) (c : Chain) → event (call_at w code c) ≡ event_at w code c
one_event w zero c = refl
one_event w (suc k) c = refl

-- the calls by their arguments
pub all_events : (w code : ℕ) (cs : List Chain) → map event (calls_from w code cs) ≡ events_from w code cs
all_events w code [] = refl
all_events w code (c ∷ cs) = let a = one_event w code c in let b = all_events w (suc code) cs in λ i. a i ∷ b i

module _ (events : List Event) (os : List Outcome) (block : Block) (history : History events os block) (before after : List ℕ) (n : ℕ) (written : Written (written_sheet block) before (Ok n) after) (stop : Option Refusal) where
  front : take n after ≡ written_sheet block
  front = (λ i. take (written.0 i) (written.2 i)) ∙ take-append_seam (written_sheet block) _

  pub made_by : Made events stop (sheet_of after (unless_fault (first_fault 2 os stop) n))
  made_by = record { outcomes = os; block = block; history = history; answer = by (first_fault 2 os stop) }
    where
      by : (f : Option LineRefusal) → sheet_of after (unless_fault f n) ≡ unless_fault f (written_sheet block)
      by None = ap Ok front
      by (Some r) = refl

-- The calls that an input of the generator says.
--   text   the chain lines, one after another
--   cs     the chains that they say, up to the first line that is turned down
--   w      the sample width
--   code   where the first of the chains goes
use Rattle.std.specs.Prelude.{ℕ, zero, suc, List, [], ◌∷◌, Some, None, Ok, Err, Option}
use Rattle.adders.specs.declared.refusals.Refusal.{Refusal}
use Rattle.forms.specs.Lines.{FirstLine}
use Rattle.chains.specs.declared.model.Chain.{Chain}
use Rattle.chains.specs.Chains.{Reading}
use Rattle.prices.specs.declared.count.CountList.{CountList}
use Rattle.prices.specs.Supplied.{count_list}
use Rattle.calls.specs.declared.call.Call.{Call}
use Rattle.calls.specs.declared.call.Call.TheVariants.{Found, Fuse}
use Rattle.blocks.specs.Calls.{founding}
use Rattle.history.specs.Events.{Event, calling, fusing}

-- there is at least one line, and the last one may lack its line feed; the first line that is no chain's ends the reading
pub data ChainLines : List ℕ → List Chain → Option Refusal → Type 0 where
  last : {text line : List ℕ} {c : Chain} → FirstLine text line [] → Reading line (Ok c) → ChainLines text (c ∷ []) None
  more : {text line after : List ℕ} {b : ℕ} {c : Chain} {cs : List Chain} {stop : Option Refusal} → FirstLine text line (b ∷ after) → Reading line (Ok c) → ChainLines (b ∷ after) cs stop → ChainLines text (c ∷ cs) stop
  turned_down : {text line after : List ℕ} {e : Refusal} → FirstLine text line after → Reading line (Err e) → ChainLines text [] (Some e)

-- with the first chain the block is founded at code 0; each chain after it is fused at the next code
abbrev pub call_at : ℕ → ℕ → Chain → Call CountList
call_at w zero c = Found c 0 w
call_at w (suc k) c = Fuse c (suc k) (record {})

abbrev pub calls_from : ℕ → ℕ → List Chain → List (Call CountList)
calls_from w code [] = []
calls_from w code (c ∷ cs) = call_at w code c ∷ calls_from w (suc code) cs

-- the same by their arguments, under the count list
abbrev pub event_at : ℕ → ℕ → Chain → Event
event_at w zero c = calling (founding c 0 w)
event_at w (suc k) c = fusing c (suc k) count_list

abbrev pub events_from : ℕ → ℕ → List Chain → List Event
events_from w code [] = []
events_from w code (c ∷ cs) = event_at w code c ∷ events_from w (suc code) cs

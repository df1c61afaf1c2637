-- A call by its arguments alone, and what the rules say of it.
--   before   the block before, after the block after
--   o        what the call answered
use Rattle.std.specs.Prelude.{ℕ, Ok, Err}
use Rattle.chains.specs.declared.model.Chain.{Chain}
use Rattle.blocks.specs.declared.model.Block.{Block}
use Rattle.blocks.specs.Calls.{founding, retiring, moving}
use Rattle.blocks.specs.Calls as blocks
use Rattle.calls.specs.declared.call.Call.{Call}
use Rattle.calls.specs.declared.call.Call.TheVariants.{Found, Fuse, Retire, Move}
use Rattle.prices.specs.Tables.{AdderTable, MuxTable, Tables, tables}
use Rattle.pricing.specs.Prices.{block_price}
use Rattle.fusing.specs.Fusing.{Fusing}
use Rattle.history.specs.declared.outcome.Outcome.{Outcome}
use Rattle.history.specs.declared.outcome.Outcome.TheVariants.{Done, Priced, Refused}

-- a founding, a retiring or a move; or a fusing, under the tables t of the list that it was handed
pub data Event : Type 0 where
  calling : (call : blocks.Call) → Event
  fusing : (chain : Chain) (code : ℕ) (t : Tables) → Event

-- what a call is, where a list means these tables
abbrev pub event_of : {L : Type 0} → (L → AdderTable) → (L → MuxTable) → Call L → Event
event_of adders muxes (Found chain code width) = calling (founding chain code width)
event_of adders muxes (Fuse chain code list) = fusing chain code (tables (adders list) (muxes list))
event_of adders muxes (Retire code) = calling (retiring code)
event_of adders muxes (Move code adder amount) = calling (moving code adder amount)

-- What the rules say of one call: a fusing that is done answers the block's new price, any other call nothing.
abbrev pub Step : Event → Block → Outcome → Block → Type 0
Step (calling call) before Done after = blocks.Step call before (Ok tt) after
Step (calling call) before (Priced price) after = ⊥
Step (calling call) before (Refused e) after = blocks.Step call before (Err e) after
Step (fusing chain code t) before Done after = ⊥
Step (fusing chain code t) before (Priced price) after = Fusing (block_price t) chain code before (Ok price) after
Step (fusing chain code t) before (Refused e) after = Fusing (block_price t) chain code before (Err e) after

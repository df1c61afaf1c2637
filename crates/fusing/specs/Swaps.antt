-- When an adder is swapped.
--   cost    what a block costs, and t the two tables of a price list
--   d       an adder of the chain, counted from 0
--   p       a placement of the chain in the block before, which leaves the block after
--   other   the block that is left with adder d as it is, by as_is
use Rattle.std.specs.Prelude.{◌≡◌, ℕ, zero, suc, ◌<◌, Bool, true, false, List, [], ◌∷◌, None}
use Rattle.chains.specs.declared.model.Chain.{Chain}
use Rattle.blocks.specs.declared.model.Block.{Block}
use Rattle.blocks.specs.Blocks.{row_of}
use Rattle.ports.specs.declared.port.Port.TheVariants.{Left, Right}
use Rattle.prices.specs.Tables.{Tables, Lawful}
use Rattle.pricing.specs.Laws.{InPlace}
use Rattle.pricing.specs.Prices.{block_price}
use Rattle.placing.specs.Placements.{Placement, place, swap, Placed}
use Rattle.fusing.specs.Fusing.{Chosen}

-- the swaps, with that of adder d taken back
abbrev pub kept_at : ℕ → List Bool → List Bool
kept_at d [] = []
kept_at zero (s ∷ ss) = false ∷ ss
kept_at (suc d) (s ∷ ss) = s ∷ kept_at d ss

-- the same placement, with one adder as it is
abbrev pub as_it_is : ℕ → Placement → Placement
as_it_is d p = record { places = p.places; swaps = kept_at d p.swaps }

-- a swap pays: with that adder alone as it is, the block would cost more
abbrev pub SwapsPay : Type 0
SwapsPay =
    (cost : Block → ℕ) (before : Block) (code : ℕ) (chain : Chain) (p : Placement) (d : ℕ) (after other : Block)
    → Chosen cost before code chain p after
    → swap p d ≡ true
    → Placed before code chain (as_it_is d p) other
    → cost after < cost other

-- an adder both of whose operands are in place as it is, and so add nothing at their ports, is not swapped, under any lawful list
abbrev pub InPlaceStays : Type 0
InPlaceStays =
    (t : Tables) (before : Block) (code : ℕ) (chain : Chain) (p : Placement) (d : ℕ) (after other : Block)
    → Lawful t
    → row_of before code ≡ None
    → Chosen (block_price t) before code chain p after
    → (as_is : Placed before code chain (as_it_is d p) other)
    → InPlace as_is.row before (Left (place p d))
    → InPlace as_is.row before (Right (place p d))
    → swap p d ≡ false

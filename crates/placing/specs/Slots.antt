-- Placing a chain by a computation, for any places and swaps whatever.
--   ps   for each adder of the chain the number at which it stands; adders past the end of ps stand nowhere
--   ss   for each whether its operands are swapped; those past the end of ss keep theirs
--   p    the same two as a placement
--   xs   adders of the chain in their order
--   d    how many of its adders stand before them in the chain
use Rattle.std.specs.Prelude.{◌≡◌, ℕ, ◌+◌, Bool, cond, List, [], ◌∷◌, map, length, Some, None, Ok, Err, Option, Result, nat_eq}
use Rattle.adders.specs.declared.wiring.Adder.{Adder}
use Rattle.adders.specs.declared.wiring.Operand.{Operand}
use Rattle.adders.specs.declared.refusals.Refusal.{Refusal}
use Rattle.adders.specs.Values.{Slots}
use Rattle.chains.specs.declared.model.Chain.{Chain}
use Rattle.chains.specs.Chains.{chain_adders, chain_constant}
use Rattle.rows.specs.declared.model.Row.{Row}
use Rattle.rows.specs.Rows.{constant_of}
use Rattle.placing.specs.Placements.{Placement, place, swap, placed_source, placed_adder, PlacedRow}

abbrev pub at_places : List ℕ → List Bool → Placement
at_places ps ss = record { places = ps; swaps = ss }

-- the first of the adders whose place is j, placed
abbrev pub first_at : Placement → ℕ → ℕ → List Adder → Option Adder
first_at p j d [] = None
first_at p j d (a ∷ xs) = cond (nat_eq (place p d) j) (Some (placed_adder p (swap p d) a)) (first_at p j (d + 1) xs)

abbrev pub placed_slots : Placement → List Adder → Slots
placed_slots p xs = map (λ j. first_at p j 0 xs) (1 ∷ 2 ∷ 3 ∷ 4 ∷ 5 ∷ 6 ∷ 7 ∷ 8 ∷ [])

abbrev pub placed_output : Placement → Chain → Operand
placed_output p chain = record { source = placed_source p (length (chain_adders chain)); shift = chain.shift }

-- the chain's row at the placement is answered, and it multiplies by the chain's constant
abbrev pub IsPlaced : Chain → Placement → Result Row Refusal → Type 0
IsPlaced chain p (Ok row) = PlacedRow chain p row × (constant_of row ≡ chain_constant chain)
IsPlaced chain p (Err e) = ⊥

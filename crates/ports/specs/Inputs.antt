-- A port's inputs: what live rows put there, each operand once, ascending by source and then by shift.
use Rattle.std.specs.Prelude.{◌≡◌, ℕ, Bool, true, ◌&&◌, ◌||◌, cond, ◌⊎◌, List, [], ◌∷◌, map, Some, None, Option, nat_lt, ◌==◌}
use Rattle.adders.specs.declared.wiring.Operand.{Operand}
use Rattle.blocks.specs.declared.model.Block.{Block}
use Rattle.blocks.specs.Blocks.{row_of}
use Rattle.ports.specs.declared.port.Port.{Port}
use Rattle.ports.specs.Ports.{put_at}

-- by source, then by shift
unfoldable pub precedes : Operand → Operand → Bool
precedes a b = nat_lt a.source b.source || (a.source == b.source && nat_lt a.shift b.shift)

-- into an ascending list, unless it stands there
abbrev pub insert : Operand → List Operand → List Operand
insert o [] = o ∷ []
insert o (x ∷ xs) = cond (precedes o x) (o ∷ (x ∷ xs)) (cond (precedes x o) (x ∷ insert o xs) (x ∷ xs))

-- the different operands of a column, which has what each code puts at a port
abbrev pub different : List (Option Operand) → List Operand
different [] = []
different (None ∷ os) = different os
different (Some o ∷ os) = insert o (different os)

abbrev pub inputs : Block → Port → List Operand
inputs b p = different (map (λ r. put_at r p) b.table.rows)

-- two operands are one
abbrev pub same : Operand → Operand → Bool
same a b = a.source == b.source && a.shift == b.shift

-- What they come to.

abbrev pub Among : Operand → List Operand → Type 0
Among o [] = ⊥
Among o (x ∷ xs) = (o ≡ x) ⊎ Among o xs

-- each precedes all that follow, so that none stands twice
abbrev pub Ascends : List Operand → Type 0
Ascends [] = Unit {0}
Ascends (x ∷ xs) = ((y : Operand) → Among y xs → precedes x y ≡ true) × Ascends xs

-- some live row puts the operand there
abbrev pub Selected : Block → Port → Operand → Type 0
Selected b p o = (code : ℕ) × (put_at (row_of b code) p ≡ Some o)

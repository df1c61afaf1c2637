-- An input that a port line names twice.
use Rattle.std.specs.Prelude.{◌≡◌, ◌≢◌, ℕ, ◌<◌, Bool, false, ◌||◌, List, [], ◌∷◌, length, slice_index_or}
use Rattle.std.specs.List.{list_any}
use Rattle.adders.specs.declared.wiring.Operand.{Operand}
use Rattle.adders.specs.Values.{spare_operand}
use Rattle.ports.specs.Inputs.{same, Among}

-- the inputs at two places are different
abbrev pub Differ : List Operand → ℕ → ℕ → Type 0
Differ os h k = h < k → k < length os → slice_index_or os h spare_operand ≢ slice_index_or os k spare_operand

abbrev pub AllDiffer : List Operand → Type 0
AllDiffer os = (h k : ℕ) → Differ os h k

-- the inputs at i and j are one, and are the first such pair, by the first of the two places and then by the second
pub record FirstRepeat (os : List Operand) (i j : ℕ) : Type 0 where
  pub order : i < j
  pub within : j < length os
  pub equal : slice_index_or os i spare_operand ≡ slice_index_or os j spare_operand
  pub earlier : (h k : ℕ) → h < i → Differ os h k
  pub before : (k : ℕ) → k < j → Differ os i k

-- the same as a test: some input comes again
abbrev pub repeats : List Operand → Bool
repeats [] = false
repeats (o ∷ os) = list_any (same o) os || repeats os

-- no input comes again
abbrev pub Once : List Operand → Type 0
Once [] = Unit {0}
Once (o ∷ os) = (Among o os → ⊥) × Once os

-- Which adders the output of a row reads.
--   xs       the slots of the row, adder j at place j - 1; None where the row does not use it
--   source   what the output reads: 0 for the sample, j for adder j
--   Reads    of a source: the output reads it, directly or through adders
--   is_read  the same as a test, where each adder reads only lower sources
use Rattle.std.specs.Prelude.{◌≡◌, ℕ, suc, ◌+◌, ◌≤◌, Bool, true, false, ◌&&◌, ◌||◌, ◌⊎◌, [], ◌∷◌, Some, None, Option, ◌==◌, slice_index_or}
use Rattle.adders.specs.declared.wiring.Adder.{Adder}
use Rattle.adders.specs.Values.{Slots, reads}

abbrev pub HasSource : Adder → ℕ → Type 0
HasSource a j = (a.left.source ≡ j) ⊎ (a.right.source ≡ j)

pub data Reads (xs : Slots) (source : ℕ) : ℕ → Type 0 where
  directly : Reads xs source source
  through : {j k : ℕ} {a : Adder} → Reads xs source (suc k) → slice_index_or xs k None ≡ Some a → HasSource a j → Reads xs source j

-- an empty slot reads nothing
abbrev pub slot_reads : ℕ → Option Adder → Bool
slot_reads j None = false
slot_reads j (Some a) = reads j a

-- slots from adder n on: source j is read by the output, or by an adder that is read
abbrev pub is_read : ℕ → Slots → ℕ → ℕ → Bool
is_read n [] source j = source == j
is_read n (x ∷ xs) source j = is_read (n + 1) xs source j || (is_read (n + 1) xs source n && slot_reads j x)

-- each adder reads only sources below its own number
abbrev pub Lower : Slots → Type 0
Lower xs = (k : ℕ) (a : Adder) → slice_index_or xs k None ≡ Some a → (a.left.source ≤ k) × (a.right.source ≤ k)

-- the test says what the relation says
abbrev pub TestsReading : Type 0
TestsReading = (xs : Slots) (source j : ℕ) → Lower xs → (is_read 1 xs source j ≡ true → Reads xs source j) × (Reads xs source j → is_read 1 xs source j ≡ true)

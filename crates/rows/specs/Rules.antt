-- The rules of a row, in the order in which they are tried, each with the refusal of its breach.
--   xs    the slots of the row, adder j at place j - 1; None where the row does not use it
--   out   its output operand
use Rattle.std.specs.Prelude.{◌≡◌, ℕ, suc, ◌+◌, ◌*◌, ◌^◌, ◌<◌, ◌≤◌, true, List, [], ◌∷◌, ◌++◌, length, is_some, Some, None, Option, slice_index_or}
use Rattle.std.specs.Bool.{beq}
use Rattle.adders.specs.declared.wiring.Adder.{Adder}
use Rattle.adders.specs.declared.wiring.Operand.{Operand}
use Rattle.adders.specs.declared.refusals.Refusal.TheVariants.{AdderNotAsRead}
use Rattle.adders.specs.Values.{Slots, sample, value}
use Rattle.adders.specs.Rules.{Rule, rule, reading_rules, wiring_rules, rules_from, output_rules, InRange, Sound}
use Rattle.rows.specs.Reading.{Reads, is_read}

-- what the output makes of a sample of 1
abbrev pub row_constant : Slots → Operand → ℕ
row_constant xs out = value xs out.source * 2 ^ out.shift

-- the sources and shifts of the adders, from adder n on
abbrev pub slot_wiring : ℕ → Option Adder → List Rule
slot_wiring n None = []
slot_wiring n (Some a) = wiring_rules n a

abbrev pub wiring_from : ℕ → Slots → List Rule
wiring_from n [] = []
wiring_from n (x ∷ xs) = slot_wiring n x ++ wiring_from (n + 1) xs

-- the output reads the sample or any adder
abbrev pub output_wiring : Slots → Operand → List Rule
output_wiring xs out = reading_rules (suc (length xs)) 0 out

-- a slot holds an adder exactly if the output reads it; the slots ys are those from adder n on
abbrev pub use_rules : Slots → ℕ → ℕ → Slots → List Rule
use_rules xs source n [] = []
use_rules xs source n (y ∷ ys) = rule (beq (is_some y) (is_read 1 xs source n)) (AdderNotAsRead n) ∷ use_rules xs source (n + 1) ys

-- sources and shifts first, then which adders are used; last the rules of adders and output that a chain has too, of which only the ranges can still be broken
abbrev pub row_rules : Slots → Operand → List Rule
row_rules xs out =
    wiring_from 1 xs
    ++ (output_wiring xs out
    ++ (use_rules xs out.source 1 xs
    ++ (rules_from sample xs
    ++ output_rules (value xs out.source) out.shift)))

-- What the rules come to.

-- the row has operands for the adder at place k
abbrev pub Used : Slots → ℕ → Type 0
Used xs k = is_some (slice_index_or xs k None) ≡ true

pub record KeepsRow (xs : Slots) (out : Operand) : Type 0 where
  pub adders : Sound xs
  pub source : out.source ≤ length xs
  pub shift : out.shift ≤ 30
  pub range : InRange (row_constant xs out)
  -- an adder is used exactly if the output reads it
  pub read : (k : ℕ) → k < length xs → Used xs k → Reads xs out.source (suc k)
  pub filled : (k : ℕ) → k < length xs → Reads xs out.source (suc k) → Used xs k

-- The shift-and-add rule: at each source, the factor by which a sample is multiplied there.
--   slots   the adders of a chain or of a row, adder j at place j - 1; None where a row does not use it
--   vs      the values of the sources so far: the sample's first, then adder 1's, and so on
--   value   of a source: 1 at the sample; an adder's left operand plus or minus its right
use Rattle.std.specs.Prelude.{◌≡◌, ℕ, suc, ◌+◌, ◌-◌, ◌*◌, ◌^◌, ◌≤◌, Bool, ◌||◌, List, [], ◌∷◌, ◌++◌, map, Some, None, Option, ◌==◌, slice_index, slice_index_or}
use Rattle.adders.specs.declared.wiring.Operand.{Operand}
use Rattle.adders.specs.declared.wiring.Adder.{Adder}
use Rattle.adders.specs.declared.wiring.Sign.{Sign}
use Rattle.adders.specs.declared.wiring.Sign.TheVariants.{Plus, Minus}

abbrev pub Slots : Type 0
Slots = List (Option Adder)

-- an operand is its source, doubled as often as its shift says
abbrev pub operand_value : List ℕ → Operand → ℕ
operand_value vs o = slice_index vs o.source * 2 ^ o.shift

-- under minus the left operand less the right one; where nothing positive is left this is 0, which is out of range as well
abbrev pub combined : Sign → ℕ → ℕ → ℕ
combined Plus l r = l + r
combined Minus l r = l - r

abbrev pub adder_value : List ℕ → Adder → ℕ
adder_value vs a = combined a.sign (operand_value vs a.left) (operand_value vs a.right)

-- an adder that is not used has no value, which 0 stands for
abbrev pub slot_value : List ℕ → Option Adder → ℕ
slot_value vs None = 0
slot_value vs (Some a) = adder_value vs a

-- each adder in turn, from the values before it
abbrev pub values_from : List ℕ → Slots → List ℕ
values_from vs [] = vs
values_from vs (x ∷ xs) = values_from (vs ++ slot_value vs x ∷ []) xs

-- the sample's value is 1
abbrev pub sample : List ℕ
sample = 1 ∷ []

abbrev pub value : Slots → ℕ → ℕ
value xs source = slice_index (values_from sample xs) source

-- one of the adder's operands has this source
abbrev pub reads : ℕ → Adder → Bool
reads source a = a.left.source == source || a.right.source == source

-- a chain uses each of its adders: none of its slots is empty
abbrev pub wired : List Adder → Slots
wired = map Some

-- what a slot holds that no adder is in, where slots are plain adders
abbrev pub spare_operand : Operand
spare_operand = record { source = 0; shift = 0 }

abbrev pub spare_adder : Adder
spare_adder = record { left = spare_operand; sign = Plus; right = spare_operand }

-- what an adder is by the shift-and-add rule, over the values of all sources
abbrev pub by_rule : Slots → Adder → ℕ
by_rule xs a = combined a.sign (value xs a.left.source * 2 ^ a.left.shift) (value xs a.right.source * 2 ^ a.right.shift)

-- What the values above come to: the sample is 1, and adder j + 1, with sources below it, is what its sign makes of its two sources under their shifts.
pub record ValuesFollow : Type 0 where
  pub sample_is : (xs : Slots) → value xs 0 ≡ 1
  pub adder_is : (xs : Slots) (j : ℕ) (a : Adder) → slice_index_or xs j None ≡ Some a → a.left.source ≤ j → a.right.source ≤ j
      → value xs (suc j) ≡ by_rule xs a

-- Moving the shifts of one adder, by an amount that may be below 0.
--   a   the adder whose own two shifts rise by the amount
--   z   the amount
--   j   the adder that reads an operand, 0 for the output
use Rattle.std.specs.Prelude.{ℕ, ◌+◌, cond, ◌&&◌, List, [], ◌∷◌, ◌++◌, ℤ, pos, negsuc, ◌+ℤ◌, ◌-ℤ◌, nat_abs, Some, None, Option, nat_eq, int_le}
use Rattle.adders.specs.declared.wiring.Adder.{Adder}
use Rattle.adders.specs.declared.wiring.Operand.{Operand}
use Rattle.adders.specs.declared.refusals.Refusal.TheVariants.{AmountOutOfRange, ShiftOutOfRange}
use Rattle.adders.specs.Values.{Slots}
use Rattle.adders.specs.Rules.{Rule, rule}

-- an amount lies from -30, which is negsuc 29, to 30
abbrev pub amount_rules : ℤ → List Rule
amount_rules z = rule (int_le (negsuc 29) z && int_le z (pos 30)) AmountOutOfRange ∷ []

-- by how many bits the value of a source rises: that of the adder alone does
abbrev pub rise : ℕ → ℤ → ℕ → ℤ
rise a z source = cond (nat_eq source a) z (pos 0)

-- a shift rises with the adder that has it, and falls with the source under it
abbrev pub new_shift : ℕ → ℤ → ℕ → Operand → ℤ
new_shift a z j o = (pos o.shift +ℤ rise a z j) -ℤ rise a z o.source

-- it has to stay from 0 to 30; a breach is told at the reader
abbrev pub operand_shift_rules : ℕ → ℤ → ℕ → Operand → List Rule
operand_shift_rules a z j o = rule (int_le (pos 0) (new_shift a z j o) && int_le (new_shift a z j o) (pos 30)) (ShiftOutOfRange j) ∷ []

abbrev pub moved_operand : ℕ → ℤ → ℕ → Operand → Operand
moved_operand a z j o = record { source = o.source; shift = nat_abs (new_shift a z j o) }

-- adder j
abbrev pub adder_shift_rules : ℕ → ℤ → ℕ → Adder → List Rule
adder_shift_rules a z j x = operand_shift_rules a z j x.left ++ operand_shift_rules a z j x.right

abbrev pub moved_adder : ℕ → ℤ → ℕ → Adder → Adder
moved_adder a z j x = record { left = moved_operand a z j x.left; sign = x.sign; right = moved_operand a z j x.right }

-- the slot of adder j
abbrev pub slot_shift_rules : ℕ → ℤ → ℕ → Option Adder → List Rule
slot_shift_rules a z j None = []
slot_shift_rules a z j (Some x) = adder_shift_rules a z j x

abbrev pub moved_slot : ℕ → ℤ → ℕ → Option Adder → Option Adder
moved_slot a z j None = None
moved_slot a z j (Some x) = Some (moved_adder a z j x)

-- the slots from adder j on
abbrev pub shift_rules_from : ℕ → ℤ → ℕ → Slots → List Rule
shift_rules_from a z j [] = []
shift_rules_from a z j (x ∷ xs) = slot_shift_rules a z j x ++ shift_rules_from a z (j + 1) xs

abbrev pub moved_from : ℕ → ℤ → ℕ → Slots → Slots
moved_from a z j [] = []
moved_from a z j (x ∷ xs) = moved_slot a z j x ∷ moved_from a z (j + 1) xs

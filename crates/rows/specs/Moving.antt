-- Moving the shifts of one adder of a row.
--   r   the row
--   a   the adder whose own two shifts rise
--   z   the amount by which they rise
use Rattle.std.specs.Prelude.{◌≡◌, ℕ, suc, ◌*◌, ◌^◌, ◌&&◌, true, List, [], ◌∷◌, ◌++◌, ℤ, pos, negsuc, ◌≤ℤ◌, is_some, Some, None, Option, slice_index_or}
use Rattle.adders.specs.declared.wiring.Adder.{Adder}
use Rattle.adders.specs.declared.wiring.Operand.{Operand}
use Rattle.adders.specs.declared.refusals.Refusal.TheVariants.{AdderUnused, ValueOutOfRange}
use Rattle.adders.specs.Values.{Slots, value}
use Rattle.adders.specs.Rules.{Rule, rule, in_range}
use Rattle.moves.specs.Moves.{amount_rules, new_shift, operand_shift_rules, slot_shift_rules, shift_rules_from, moved_operand, moved_from}
use Rattle.rows.specs.declared.model.Row.{Row}
use Rattle.rows.specs.Rows.{adder_at}

-- what an operand of the moved adder is worth afterwards; its source is lower than the adder, and keeps its value
abbrev pub value_after : Slots → ℕ → ℤ → Operand → ℕ
value_after xs a z o = value xs o.source * 2 ^ (moved_operand a z a o).shift

-- both stay in their range
abbrev pub range_rules : Slots → ℕ → ℤ → Option Adder → List Rule
range_rules xs a z None = []
range_rules xs a z (Some x) = rule (in_range (value_after xs a z x.left) && in_range (value_after xs a z x.right)) (ValueOutOfRange a) ∷ []

-- every shift stays in its range: the moved adder's own first, then those of all adders in ascending order, of which only its readers' change, and the output's last; then the moved adder's operands do
abbrev pub limit_rules : Row → ℕ → ℤ → List Rule
limit_rules r a z = slot_shift_rules a z a (adder_at r a) ++ (shift_rules_from a z 1 r.slots ++ (operand_shift_rules a z 0 r.output ++ range_rules r.slots a z (adder_at r a)))

-- the rules of a move, in the order in which they are tried: before these, that the row uses the adder, and the amount
abbrev pub move_rules : Row → ℕ → ℤ → List Rule
move_rules r a z = rule (is_some (adder_at r a)) AdderUnused ∷ (amount_rules z ++ limit_rules r a z)

-- the row after it
pub record MovedRow (r : Row) (a : ℕ) (z : ℤ) (after : Row) : Type 0 where
  pub slots : after.slots ≡ moved_from a z 1 r.slots
  pub output : after.output ≡ moved_operand a z 0 r.output

-- What the rules come to.

-- nothing of an operand differs but its shift, which is what the move makes of it
pub record OperandShifted (a : ℕ) (z : ℤ) (j : ℕ) (o p : Operand) : Type 0 where
  pub source : p.source ≡ o.source
  pub shift : pos p.shift ≡ new_shift a z j o

pub record AdderShifted (a : ℕ) (z : ℤ) (j : ℕ) (x y : Adder) : Type 0 where
  pub left : OperandShifted a z j x.left y.left
  pub sign : y.sign ≡ x.sign
  pub right : OperandShifted a z j x.right y.right

abbrev pub SlotShifted : ℕ → ℤ → ℕ → Option Adder → Option Adder → Type 0
SlotShifted a z j None None = Unit {0}
SlotShifted a z j None (Some y) = ⊥
SlotShifted a z j (Some x) None = ⊥
SlotShifted a z j (Some x) (Some y) = AdderShifted a z j x y

pub record RowShifted (r : Row) (a : ℕ) (z : ℤ) (after : Row) : Type 0 where
  pub slots : (k : ℕ) → SlotShifted a z (suc k) (slice_index_or r.slots k None) (slice_index_or after.slots k None)
  pub output : OperandShifted a z 0 r.output after.output

-- the row uses the adder, the amount lies from -30 to 30, and there is a row with these shifts: every row that exists keeps the rules of a row
pub record Movable (r : Row) (a : ℕ) (z : ℤ) : Type 0 where
  pub used : is_some (adder_at r a) ≡ true
  pub least : negsuc 29 ≤ℤ z
  pub most : z ≤ℤ pos 30
  pub after : Row
  pub shifted : RowShifted r a z after

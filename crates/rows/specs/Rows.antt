-- Rows, and what making one answers.
--   adder_at             the operands and the sign of an adder, if the row uses one of this number
--   row_value_at         the factor by which a sample is multiplied at it
--   RowJudged xs out r   r is what making a row of the slots xs and the output operand out answers
--   RowOf                the row that a chain is
use Rattle.std.specs.Prelude.{◌≡◌, ℕ, ◌-◌, cond, length, is_some, Some, None, Ok, Err, Option, Result, nat_le, slice_index_or}
use Rattle.adders.specs.declared.wiring.Adder.{Adder}
use Rattle.adders.specs.declared.wiring.Operand.{Operand}
use Rattle.adders.specs.declared.refusals.Refusal.{Refusal}
use Rattle.adders.specs.Values.{Slots, value, by_rule}
use Rattle.adders.specs.Rules.{first_broken}
use Rattle.chains.specs.declared.model.Chain.{Chain}
use Rattle.chains.specs.Rules.{eight_slots}
use Rattle.chains.specs.Chains.{chain_adders}
use Rattle.rows.specs.declared.model.Row.{Row}
use Rattle.rows.specs.Rules.{row_constant, row_rules}

abbrev pub adder_at : Row → ℕ → Option Adder
adder_at r j = cond (nat_le 1 j) (slice_index_or r.slots (j - 1) None) None

-- the factor by which a sample is multiplied at the output
abbrev pub constant_of : Row → ℕ
constant_of r = row_constant r.slots r.output

abbrev pub row_value_at : Row → ℕ → Option ℕ
row_value_at r j = cond (is_some (adder_at r j)) (Some (value r.slots j)) None

-- v is the value of adder j by the shift-and-add rule over the row's own values, if the row uses it
abbrev pub ShiftAndAdd : Row → ℕ → Option ℕ → Type 0
ShiftAndAdd r j v = (a : Adder) → adder_at r j ≡ Some a → v ≡ Some (by_rule r.slots a)

pub data RowJudged (xs : Slots) (out : Operand) : Result Row Refusal → Type 0 where
  kept : {r : Row} → first_broken (row_rules xs out) ≡ None → r.slots ≡ xs → r.output ≡ out → RowJudged xs out (Ok r)
  broken : {e : Refusal} → first_broken (row_rules xs out) ≡ Some e → RowJudged xs out (Err e)

-- slot by slot the adders of the chain, and an output that reads the source of its highest number (of an empty chain that is the sample) with the output shift of the chain
pub record RowOf (c : Chain) (r : Row) : Type 0 where
  pub slots : r.slots ≡ eight_slots (chain_adders c)
  pub source : r.output.source ≡ length (chain_adders c)
  pub shift : r.output.shift ≡ c.shift

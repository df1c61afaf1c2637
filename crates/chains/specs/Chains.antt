-- Chains, and what reading or making one answers.
--   Judged xs out r   r is what making a chain of the adders xs and the output shift out answers
--   Reading bs r      r is what reading the bytes bs answers
--   Accepted bs       bs is a chain line that keeps every rule
use Rattle.std.specs.Prelude.{◌≡◌, ℕ, suc, ◌<◌, ◌≤◌, cond, ◌&&◌, List, length, Some, None, Ok, Err, Option, Result, nat_le, slice_index_or}
use Rattle.adders.specs.declared.wiring.Adder.{Adder}
use Rattle.adders.specs.declared.refusals.Refusal.{Refusal}
use Rattle.adders.specs.declared.refusals.Refusal.TheVariants.{LineTooLong, BrokenForm}
use Rattle.adders.specs.Values.{value, wired, by_rule}
use Rattle.adders.specs.Rules.{first_broken}
use Rattle.forms.specs.Breaking.{BrokenAt}
use Rattle.lines.specs.Form.{Line, Form}
use Rattle.chains.specs.declared.model.Chain.{Chain}
use Rattle.chains.specs.Rules.{constant, chain_rules, Keeps}

abbrev pub chain_adders : Chain → List Adder
chain_adders c = c.adders

-- the factor by which a sample is multiplied at the output
abbrev pub chain_constant : Chain → ℕ
chain_constant c = constant (chain_adders c) c.shift

-- the same at an adder, if there is one of this number
abbrev pub adder_value_at : Chain → ℕ → Option ℕ
adder_value_at c j = cond (nat_le 1 j && nat_le j (length c.adders)) (Some (value (wired (chain_adders c)) j)) None

-- v is the value of adder j by the shift-and-add rule over the chain's own values, if there is one
abbrev pub ShiftAndAdd : Chain → ℕ → Option ℕ → Type 0
ShiftAndAdd c j v = (k : ℕ) (a : Adder) → j ≡ suc k → slice_index_or (wired (chain_adders c)) k None ≡ Some a → v ≡ Some (by_rule (wired (chain_adders c)) a)

pub data Judged (xs : List Adder) (out : ℕ) : Result Chain Refusal → Type 0 where
  kept : {c : Chain} → first_broken (chain_rules xs out) ≡ None → chain_adders c ≡ xs → c.shift ≡ out → Judged xs out (Ok c)
  broken : {r : Refusal} → first_broken (chain_rules xs out) ≡ Some r → Judged xs out (Err r)

-- the length first, then the form, then the rules
pub data Reading (bs : List ℕ) : Result Chain Refusal → Type 0 where
  long : 200 < length bs → Reading bs (Err LineTooLong)
  misshapen : {i : ℕ} → length bs ≤ 200 → BrokenAt Form bs i → Reading bs (Err (BrokenForm i))
  judged : {xs : List Adder} {out : ℕ} {r : Result Chain Refusal} → length bs ≤ 200 → Line xs out bs → Judged xs out r → Reading bs r

pub record Accepted (bs : List ℕ) : Type 0 where
  pub short : length bs ≤ 200
  pub adders : List Adder
  pub out : ℕ
  pub line : Line adders out bs
  pub keeps : Keeps adders out

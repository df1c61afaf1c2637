-- What parts are, and how the prices of blocks compare.
use Rattle.std.specs.Prelude.{◌≡◌, ℕ, ◌+◌, ◌*◌, ◌^◌, ◌≤◌, true, ◌||◌, ◌⊎◌, List, Some, None, Ok, Err, Option, Result, max}
use Rattle.adders.specs.declared.refusals.Refusal.{Refusal}
use Rattle.adders.specs.declared.wiring.Operand.{Operand}
use Rattle.adders.specs.declared.wiring.Sign.{Sign}
use Rattle.adders.specs.Values.{value}
use Rattle.adders.specs.Rules.{Changed}
use Rattle.rows.specs.declared.model.Row.{Row}
use Rattle.tables.specs.Tables.{live_rules}
use Rattle.blocks.specs.declared.model.Block.{Block}
use Rattle.blocks.specs.Blocks.{row_of, Rewritten}
use Rattle.blocks.specs.Calls.{retiring, Step}
use Rattle.ports.specs.declared.port.Port.{Port}
use Rattle.ports.specs.Ports.{operand_at}
use Rattle.ports.specs.Inputs.{insert, inputs, Among}
use Rattle.ports.specs.Fewer.{SomeRows}
use Rattle.bits.specs.Bits.{bits}
use Rattle.prices.specs.Tables.{Tables, Lawful}
use Rattle.pricing.specs.declared.net.Net.{Net}
use Rattle.pricing.specs.declared.net.Net.TheVariants.{OfPort}
use Rattle.pricing.specs.Nets.{value_on, largest_on, width_of}
use Rattle.pricing.specs.Parts.{sign_used, is_sign, met}
use Rattle.pricing.specs.Prices.{block_price}

-- m is the largest of what the codes have, 0 where none has anything
pub record IsLargest (values : ℕ → Option ℕ) (m : ℕ) : Type 0 where
  pub least : (code v : ℕ) → values code ≡ Some v → v ≤ m
  pub reached : (m ≡ 0) ⊎ ((code : ℕ) × (values code ≡ Some m))

-- a sign is met exactly where the row of some live code has it
pub record IsMet (s : Sign) (b : Block) (j : ℕ) : Type 0 where
  pub found : met s b j ≡ true → (code : ℕ) × (sign_used (row_of b code) j ≡ Some s)
  pub counted : (code : ℕ) → sign_used (row_of b code) j ≡ Some s → met s b j ≡ true

-- widths and kinds rest on these
pub record PartsLaw : Type 0 where
  pub values : (b : Block) (n : Net) → IsLargest (λ code. value_on (row_of b code) n) (largest_on b n)
  pub signs : (s : Sign) (b : Block) (j : ℕ) → IsMet s b j

-- what one row more changes at a part: only what it puts there itself

abbrev pub with_input : Option Operand → List Operand → List Operand
with_input None os = os
with_input (Some o) os = insert o os

abbrev pub with_value : Option ℕ → ℕ → ℕ
with_value None m = m
with_value (Some v) m = max v m

pub record OneMore (row : Row) (before after : Block) : Type 0 where
  pub inputs : (p : Port) → inputs after p ≡ with_input (operand_at row p) (inputs before p)
  pub values : (n : Net) → largest_on after n ≡ with_value (value_on (Some row) n) (largest_on before n)
  pub signs : (s : Sign) (j : ℕ) → met s after j ≡ (is_sign s (sign_used (Some row) j) || met s before j)

-- so that the price splits part by part
abbrev pub OneRowMore : Type 0
OneRowMore =
    (code : ℕ) (row : Row) (before after : Block)
    → row_of before code ≡ None
    → Rewritten before code (Some row) after
    → OneMore row before after

-- the row puts at a port an operand that stands there already, with a value of no more bits than the port has
pub record InPlace (row : Row) (b : Block) (p : Port) : Type 0 where
  pub operand : Operand
  pub put : operand_at row p ≡ Some operand
  pub there : Among operand (inputs b p)
  pub no_wider : bits (value row.slots operand.source * 2 ^ operand.shift) ≤ bits (largest_on b (OfPort p))

-- then it changes neither the inputs there nor the width
pub record PortSame (p : Port) (before after : Block) : Type 0 where
  pub inputs : inputs after p ≡ inputs before p
  pub width : width_of after (OfPort p) ≡ width_of before (OfPort p)

abbrev pub PortStays : Type 0
PortStays =
    (code : ℕ) (row : Row) (before after : Block) (p : Port)
    → row_of before code ≡ None
    → Rewritten before code (Some row) after
    → InPlace row before p
    → PortSame p before after

-- under every lawful list, a costs no more than b
abbrev pub NeverDearer : Block → Block → Type 0
NeverDearer a b = (t : Tables) → Lawful t → block_price t a ≤ block_price t b

-- a has some of the rows of b, and is like it otherwise
pub record SomeRowsOf (a b : Block) : Type 0 where
  pub adders : a.adders ≡ b.adders
  pub width : a.width ≡ b.width
  pub rows : SomeRows a b

-- rows cost nothing or more, whichever there are already
abbrev pub RowsNeverCheapen : Type 0
RowsNeverCheapen = (a b : Block) → SomeRowsOf a b → NeverDearer a b

-- so that retiring never makes a block dearer, and a row at an idle code never makes it cheaper
pub record CallsNeverCheapen : Type 0 where
  pub retired : (code : ℕ) (before after : Block) (r : Result Unit Refusal)
      → Step (retiring code) before r after
      → NeverDearer after before
  pub added : (code : ℕ) (row : Row) (before after : Block)
      → row_of before code ≡ None
      → Rewritten before code (Some row) after
      → NeverDearer before after

-- the code is idle after it, and the block costs so much less under one list
pub record Saved (t : Tables) (b : Block) (code less : ℕ) (after : Block) : Type 0 where
  pub rest : Rewritten b code None after
  pub saved : block_price t after + less ≡ block_price t b

-- What the rules say of a retiring that answers what it saves.
abbrev pub Saving : Tables → ℕ → Block → Result ℕ Refusal → Block → Type 0
Saving t code b r after =
    Changed (live_rules code (row_of b code)) b (λ less c. Saved t b code less c) r after

-- what the block's own retiring answers: nothing but that it is done
abbrev pub without_number : Result ℕ Refusal → Result Unit Refusal
without_number (Ok less) = Ok tt
without_number (Err e) = Err e

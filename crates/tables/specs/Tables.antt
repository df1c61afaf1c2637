-- What a table of rows holds at a code.
use Rattle.std.specs.Prelude.{◌≡◌, ℕ, cond, List, [], ◌∷◌, ◌++◌, is_some, Some, None, Option, Result, nat_le, slice_index_or, slice_set}
use Rattle.adders.specs.declared.refusals.Refusal.{Refusal}
use Rattle.adders.specs.declared.refusals.Refusal.TheVariants.{CodeAboveFifteen, CodeIdle}
use Rattle.adders.specs.Rules.{Rule, rule, Answered}
use Rattle.tables.specs.declared.Table.{Table}

-- the row at a code, none where the code is idle or above 15
abbrev pub row_at : {X : Type 0} → Table X → ℕ → Option X
row_at t code = cond (nat_le code 15) (slice_index_or t.rows code None) None

-- the table with one place written, the other fifteen as they were
abbrev pub with_place : {X : Type 0} → Table X → ℕ → Option X → Table X
with_place t code w = record { rows = slice_set t.rows code w }

-- a code is one of sixteen
abbrev pub code_rules : ℕ → List Rule
code_rules code = rule (nat_le code 15) CodeAboveFifteen ∷ []

-- and live: something stands there
abbrev pub live_rules : {A : Type 0} → ℕ → Option A → List Rule
live_rules code o = code_rules code ++ rule (is_some o) CodeIdle ∷ []

-- the row of a live code, as it is seen through what is answered, or the first cause why there is none
abbrev pub LiveRow : {X Y : Type 0} → Table X → ℕ → (Y → X) → Result Y Refusal → Type 0
LiveRow t code seen r = Answered (live_rules code (row_at t code)) (λ y. row_at t code ≡ Some (seen y)) r

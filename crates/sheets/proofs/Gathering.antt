-- The inputs of the ports of each adder, at its number.
use Rattle.std.proofs.Common.{◌≡◌, ℕ, ◌<◌, ◌≤◌, List, [], ◌∷◌, length, slice_index_or, false, is_some, Some, None, Option, sym, refl, ◌∙◌, inl, ⊎_elim, arith}
use Rattle.std.proofs.lemmas.List.{get_or_past}
use Rattle.std.proofs.lemmas.Bool.{cases_lt, false≢true}
use Rattle.adders.specs.declared.wiring.Adder.{Adder}
use Rattle.adders.specs.declared.wiring.Operand.{Operand}
use Rattle.adders.proofs.Broken.{some_none}
use Rattle.rows.specs.declared.model.Row.{Row}
use Rattle.rows.specs.Rows.{adder_at}
use Rattle.blocks.specs.declared.model.Block.{Block}
use Rattle.blocks.specs.Uses.{row_uses}
use Rattle.blocks.specs.Blocks.{row_of}
use Rattle.ports.specs.declared.port.Port.{Port}
use Rattle.ports.specs.declared.port.Port.TheVariants.{Left, Right}
use Rattle.ports.specs.Ports.{put_at, left_of, right_of}
use Rattle.ports.specs.Inputs.{inputs, Among, Selected}
use Rattle.ports.proofs.Ascending.{inputs_law}

-- where no row puts anything there are no inputs
nothing_put : (b : Block) (p : Port) → ((code : ℕ) → put_at (row_of b code) p ≡ None) → [] ≡ inputs b p
nothing_put b p idle = by (inputs b p) (inputs_law.these b p).only
  where
    by : (os : List Operand) → ((o : Operand) → Among o os → Selected b p o) → [] ≡ os
    by [] only = refl
    by (o ∷ os) only = let s = only o (inl refl) in absurd (some_none (sym s.1 ∙ idle s.0))

-- no row puts anything at an adder that the block has not
module _ (b : Block) (j : ℕ) (past : b.adders < j) where
  unused : (f : Option Adder → Option Operand) → f None ≡ None → (x : Option Adder) → is_some x ≡ false → f x ≡ None
  unused f none None h = none
  unused f none (Some a) h = absurd (false≢true (sym h))

  past_none : (p : Port) (f : Option Adder → Option Operand) → f None ≡ None → put_at None p ≡ None → ((r : Row) → put_at (Some r) p ≡ f (adder_at r j)) → [] ≡ inputs b p
  past_none p f none idle live = nothing_put b p (λ code. by (row_of b code) (b.within code j past))
    where
      by : (o : Option Row) → row_uses o j ≡ false → put_at o p ≡ None
      by None h = idle
      by (Some r) h = live r ∙ unused f none (adder_at r j) h

  pub left_past : [] ≡ inputs b (Left j)
  left_past = past_none (Left j) left_of refl refl (λ r. refl)

  pub right_past : [] ≡ inputs b (Right j)
  right_past = past_none (Right j) right_of refl refl (λ r. refl)

-- lists that are right at each number up to 8, where none is due past it
pub at_each : (f : ℕ → List Operand) (lists : List (List Operand)) → length lists ≡ 9 → ((j : ℕ) → 9 ≤ j → [] ≡ f j) → ((j : ℕ) → j < 9 → slice_index_or lists j [] ≡ f j) → (j : ℕ) → slice_index_or lists j [] ≡ f j
at_each f lists long past here j = ⊎_elim (here j) (λ h. get_or_past lists j [] (omega (arith, long)) ∙ past j h) (cases_lt j 9)

-- A block with some of the rows of another is nowhere deeper.
use Rattle.std.proofs.Common.{ℕ, zero, suc, ◌≤◌, List, [], ◌∷◌, length, Ok, Err, Result, refl, ap, inl, inr, arith}
use Rattle.adders.specs.declared.refusals.Refusal.{Refusal}
use Rattle.adders.specs.declared.wiring.Operand.{Operand}
use Rattle.blocks.specs.declared.model.Block.{Block}
use Rattle.blocks.specs.Blocks.{row_of}
use Rattle.blocks.specs.Calls.{retiring, Step}
use Rattle.ports.specs.declared.port.Port.{Port}
use Rattle.ports.specs.declared.port.Port.TheVariants.{Left, Right, Output}
use Rattle.ports.specs.Inputs.{inputs, Among}
use Rattle.ports.specs.Fewer.{SomeRows}
use Rattle.ports.proofs.Fewer.{some_inputs, more_inputs, row_less, row_more}
use Rattle.bits.proofs.Least.{bits_more}
use Rattle.depths.specs.Depths.{deepest, inputs_depth, if_any, adder_depth_within, adder_depth}
use Rattle.depths.specs.Fewer.{NoDeeper, RowsNeverShallower, CallsNeverShallower}
use Rattle.depths.proofs.Deepest.{deepest_most, deepest_over, depth_is, any_there}

-- fewer inputs, of sources that are no deeper
module _ (d f : ℕ → ℕ) (lower : (s : ℕ) → d s ≤ f s) (os us : List Operand) (too : (o : Operand) → Among o os → Among o us) where
  deepest_grows : deepest d os ≤ deepest f us
  deepest_grows = deepest_most d (deepest f us) os (λ o h. omega (arith, lower o.source, deepest_over f us o (too o h)))

  inputs_grow : length os ≤ length us → inputs_depth d os ≤ inputs_depth f us
  inputs_grow fewer =
      let x = depth_is d os in
      let y = depth_is f us in
      omega (arith, x, y, deepest_grows, bits_more (length os) (length us) fewer)

any_grows : (os us : List Operand) (m n : ℕ) → ((o : Operand) → Among o os → Among o us) → m ≤ n → if_any os m ≤ if_any us n
any_grows [] us m n too h = omega arith
any_grows (o ∷ os) us m n too h = let e = any_there o us n (too o (inl refl)) in omega arith

module _ (a b : Block) (some : SomeRows a b) where
  port_grows : (d f : ℕ → ℕ) → ((s : ℕ) → d s ≤ f s) → (p : Port) → inputs_depth d (inputs a p) ≤ inputs_depth f (inputs b p)
  port_grows d f lower p = inputs_grow d f lower (inputs a p) (inputs b p) (some_inputs a b some p) (more_inputs a b some p)

  within_grows : (rounds j : ℕ) → adder_depth_within rounds a j ≤ adder_depth_within rounds b j
  within_grows rounds zero = omega arith
  within_grows zero (suc j) = omega arith
  within_grows (suc rounds) (suc j) =
      let d = adder_depth_within rounds a in
      let f = adder_depth_within rounds b in
      let l = port_grows d f (within_grows rounds) (Left (suc j)) in
      let r = port_grows d f (within_grows rounds) (Right (suc j)) in
      any_grows (inputs a (Left (suc j))) (inputs b (Left (suc j))) _ _ (some_inputs a b some (Left (suc j))) (omega arith)

  adder_grows : (j : ℕ) → adder_depth a j ≤ adder_depth b j
  unfolding adder_depth
  adder_grows j = within_grows 8 j

  pub no_deeper : NoDeeper a b
  no_deeper = record {
    adders = adder_grows;
    ports = port_grows (adder_depth a) (adder_depth b) adder_grows;
    whole = port_grows (adder_depth a) (adder_depth b) adder_grows Output;
  }

pub rows_never_shallower : RowsNeverShallower
rows_never_shallower = no_deeper

retired : (code : ℕ) (before after : Block) (r : Result Unit Refusal) → Step (retiring code) before r after → NoDeeper after before
retired code before after (Ok u) step = no_deeper after before (row_less before after code step.1)
retired code before after (Err e) step = no_deeper after before (λ k. inr (ap (λ b. row_of b k) step.1))

pub calls_never_shallower : CallsNeverShallower
calls_never_shallower = record {
  retired = retired;
  added = λ code row before after idle w. no_deeper before after (row_more before after code row idle w);
}

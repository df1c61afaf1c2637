-- Sources are lower than what reads them, since every row keeps that.
use Rattle.std.proofs.Common.{◌≡◌, ℕ, zero, suc, ◌-◌, ◌<◌, ◌≤◌, List, [], ◌∷◌, length, get_or, Some, None, Option, refl, sym, subst, inl, inr, arith}
use Rattle.adders.specs.declared.wiring.Operand.{Operand}
use Rattle.adders.specs.Values.{spare_operand}
use Rattle.adders.proofs.Broken.{some_none}
use Rattle.rows.specs.declared.model.Row.{Row}
use Rattle.rows.specs.Rows.{adder_at}
use Rattle.rows.proofs.Answering.{there, row_keeps}
use Rattle.blocks.specs.declared.model.Block.{Block}
use Rattle.blocks.specs.Blocks.{row_of}
use Rattle.ports.specs.declared.port.Port.{Port}
use Rattle.ports.specs.declared.port.Port.TheVariants.{Left, Right, Output}
use Rattle.ports.specs.Ports.{put_at}
use Rattle.ports.specs.Inputs.{inputs, Among}
use Rattle.ports.proofs.Sides.{left_is, right_is}
use Rattle.ports.proofs.Ascending.{inputs_law}

-- what a port's sources stay below
abbrev pub rank : Port → ℕ
rank (Left j) = j
rank (Right j) = j
rank Output = 9

-- a port of an adder that a block can have, or the output
abbrev pub Possible : Port → Type 0
Possible (Left j) = j ≤ 8
Possible (Right j) = j ≤ 8
Possible Output = Unit {0}

pub record Low (p : Port) (o : Operand) : Type 0 where
  pub lower : o.source < rank p
  pub possible : Possible p

put_low : (r : Option Row) (p : Port) (o : Operand) → put_at r p ≡ Some o → Low p o
put_low None p o e = absurd (some_none (sym e))
put_low (Some r) (Left j) o e =
    let x = left_is (adder_at r j) o e in
    let t = there r j x.0 x.1 in
    let s = ((row_keeps r).adders (j - 1) x.0 t.slot).left.lower in
    record { lower = subst (λ (z : Operand). z.source < j) x.2 (omega (arith, s, t.low)); possible = omega (arith, t.high) }
put_low (Some r) (Right j) o e =
    let x = right_is (adder_at r j) o e in
    let t = there r j x.0 x.1 in
    let s = ((row_keeps r).adders (j - 1) x.0 t.slot).right.lower in
    record { lower = subst (λ (z : Operand). z.source < j) x.2 (omega (arith, s, t.low)); possible = omega (arith, t.high) }
put_low (Some r) Output o e =
    let is : r.output ≡ o = cc in
    record { lower = subst (λ (z : Operand). z.source < 9) is (omega (arith, (row_keeps r).source, r.room)); possible = tt }

pub input_low : (b : Block) (p : Port) (o : Operand) → Among o (inputs b p) → Low p o
input_low b p o h = let s = (inputs_law.these b p).only o h in put_low (row_of b s.0) p o s.1

among_at : (os : List Operand) (i : ℕ) (spare : Operand) → i < length os → Among (get_or os i spare) os
among_at [] i spare h = absurd (omega arith)
among_at (o ∷ os) zero spare h = inl refl
among_at (o ∷ os) (suc i) spare h = inr (among_at os i spare (omega arith))

pub source_low : (b : Block) (p : Port) (os : List Operand) (i : ℕ) → os ≡ inputs b p → i < length os → (get_or os i spare_operand).source < rank p
source_low b p os i e h = (input_low b p (get_or os i spare_operand) (subst (Among (get_or os i spare_operand)) e (among_at os i spare_operand h))).lower

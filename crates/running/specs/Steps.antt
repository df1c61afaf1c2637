-- One step of a run, on meanings.
--   f   what the sample and the adders so far mean, by number
use Rattle.std.specs.Prelude.{ℕ, ◌<◌, Some, None, Option}
use Rattle.adders.specs.declared.wiring.Adder.{Adder}
use Rattle.adders.specs.declared.wiring.Operand.{Operand}
use Rattle.adders.specs.declared.wiring.Sign.{Sign}
use Rattle.adders.specs.declared.wiring.Sign.TheVariants.{Plus, Minus}
use Rattle.arith.specs.Operations.{Operations, doubled}

-- a shift is so many doublings
abbrev pub operand_meaning : {M : Type 0} → Operations M → (ℕ → M) → Operand → M
operand_meaning ops f o = doubled ops o.shift (f o.source)

abbrev pub joined : {M : Type 0} → Operations M → Sign → M → M → M
joined ops Plus l r = ops.plus l r
joined ops Minus l r = ops.minus l r

-- an adder that the row does not use comes to nothing
abbrev pub slot_meaning : {M : Type 0} → Operations M → (ℕ → M) → Option Adder → M
slot_meaning ops f None = ops.neutral
slot_meaning ops f (Some a) = joined ops a.sign (operand_meaning ops f a.left) (operand_meaning ops f a.right)

-- the sources of an adder are the sample or one of eight adders
abbrev pub Within : Option Adder → Type 0
Within None = Unit {0}
Within (Some a) = (a.left.source < 9) × (a.right.source < 9)

-- A founding and then a move, and products at the code.
use Rattle.std.specs.Prelude.{◌≡◌, ℕ, ℤ, Some, None, Option}
use Rattle.arith.specs.Words.{WordProduct}
use Rattle.chains.specs.declared.model.Chain.{Chain}
use Rattle.blocks.specs.Calls.{moving, Founded, Step}
use Rattle.products.specs.declared.report.ProductReport.{ProductReport}
use Rattle.products.specs.declared.trial.Trial.{Trial}

pub record TrialOf (chain : Chain) (c adder : ℕ) (amount : ℤ) (t : Trial) : Type 0 where
  pub code : t.code ≡ c
  pub founded : Founded chain c 32 t.before
  pub moved : Step (moving c adder amount) t.before t.outcome t.after

-- both are the product of the sample and the constant at the code
abbrev pub ProductsOf : Option ℕ → ℤ → ProductReport → Type 0
ProductsOf None x p = ⊥
ProductsOf (Some c) x p = WordProduct c x p.before × WordProduct c x p.after

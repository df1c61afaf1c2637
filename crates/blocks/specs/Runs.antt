-- Running a code. What is answered rests on the constant there and on nothing else of the block.
--   o        the constant at the code, none where the code is idle
--   means    what samples mean; ops, how meanings are added; Product, n times a sample in the arithmetic's own words
use Rattle.std.specs.Prelude.{ℕ, List, [], ◌∷◌, ◌++◌, length, Some, None, Option, Result, nat_eq}
use Rattle.adders.specs.declared.refusals.Refusal.{Refusal}
use Rattle.adders.specs.declared.refusals.Refusal.TheVariants.{LengthsDiffer}
use Rattle.adders.specs.Rules.{rule, Answered, Changed}
use Rattle.arith.specs.Operations.{Operations}
use Rattle.running.specs.Buffers.{Multiplied, Filled}
use Rattle.tables.specs.Tables.{live_rules}
use Rattle.blocks.specs.declared.model.Block.{Block}
use Rattle.blocks.specs.Blocks.{constant_at, SameConstants}

module _ {X M : Type 0} (means : X → M) (ops : Operations M) (Product : ℕ → X → X → Type 0) where
  -- y is the constant times x
  abbrev pub MultipliedAt : Option ℕ → X → X → Type 0
  MultipliedAt None x y = ⊥
  MultipliedAt (Some c) x y = Multiplied means ops Product c x y

  -- each place of the output has the constant times the sample at that place
  abbrev pub FilledAt : Option ℕ → List X → List X → Type 0
  FilledAt None input after = ⊥
  FilledAt (Some c) input after = Filled means ops Product c input after

  -- what running a code on a sample answers
  abbrev pub RunAt : ℕ → Option ℕ → X → Result X Refusal → Type 0
  RunAt code o x r = Answered (live_rules code o) (λ y. MultipliedAt o x y) r

  -- what running it on a buffer answers, and what it leaves in the output
  abbrev pub RunAllAt : ℕ → Option ℕ → List X → List X → Result Unit Refusal → List X → Type 0
  RunAllAt code o input output r after = Changed (live_rules code o ++ rule (nat_eq (length input) (length output)) LengthsDiffer ∷ []) output (λ _ filled. FilledAt o input filled) r after

  -- blocks of the same constants answer alike at every code
  pub record AnswerAlike (b after : Block) : Type 0 where
    pub samples : (code : ℕ) (x : X) (r : Result X Refusal) → RunAt code (constant_at b code) x r → RunAt code (constant_at after code) x r
    pub buffers : (code : ℕ) (input output filled : List X) (r : Result Unit Refusal) → RunAllAt code (constant_at b code) input output r filled → RunAllAt code (constant_at after code) input output r filled

  abbrev pub ConstantsDecide : Type 0
  ConstantsDecide = (b after : Block) → SameConstants b after → AnswerAlike b after

-- What a worked line, sample or move claims.
--   bs   the bytes of a chain line
use Rattle.std.specs.Prelude.{◌≡◌, ℕ, ◌*◌, ◌%◌, List, ℤ, Some, None, Ok, Err, Option}
use Rattle.adders.specs.declared.refusals.Refusal.{Refusal}
use Rattle.adders.specs.Refusals.{refusal_entry}
use Rattle.adders.specs.Rules.{first_broken}
use Rattle.arith.specs.Words.{WordProduct}
use Rattle.chains.specs.declared.model.Chain.{Chain}
use Rattle.chains.specs.Chains.{chain_constant, Reading}
use Rattle.blocks.specs.declared.model.Block.{Block}
use Rattle.blocks.specs.Calls.{Call, moving, call_rules, Founded}

-- a constant, that a call is done, or the number and place of a refusal
pub data Answer : Type 0 where
  constant : ℕ → Answer
  done : Answer
  fault : (number place : ℕ) → Answer

-- reading the bytes gives this answer
pub data Answers (bs : List ℕ) : Answer → Type 0 where
  valued : {c : Chain} → Reading bs (Ok c) → Answers bs (constant (chain_constant c))
  refused : {r : Refusal} → Reading bs (Err r) → Answers bs (fault (refusal_entry r).number (refusal_entry r).place)

-- a sample with its product: the word x, which becomes r, or the residue x by m, which becomes r
pub data Sample : Type 0 where
  word : (x r : ℤ) → Sample
  residue : (m x r : ℕ) → Sample

-- n times the sample, as running answers it
abbrev pub Gives : ℕ → Sample → Type 0
Gives n (word x r) = WordProduct n x r
Gives n (residue m x r) = r ≡ (n * x) % m

-- reading the line gives a constant, whose multiple of the sample is the product
pub record Multiplies (bs : List ℕ) (s : Sample) : Type 0 where
  pub number : ℕ
  pub reads : Answers bs (constant number)
  pub gives : Gives number s

-- the first cause against a call, as it is known outside
abbrev pub answer_of : Option Refusal → Answer
answer_of None = done
answer_of (Some e) = fault (refusal_entry e).number (refusal_entry e).place

abbrev pub call_answer : Call → Block → Answer
call_answer call b = answer_of (first_broken (call_rules call b))

-- the line is read as a chain; wherever it was founded, moving this adder by this amount is answered so
pub record Moves (bs : List ℕ) (adder : ℕ) (amount : ℤ) (answer : Answer) : Type 0 where
  pub chain : Chain
  pub reads : Reading bs (Ok chain)
  pub moves : (code width : ℕ) (b : Block) → Founded chain code width b → call_answer (moving code adder amount) b ≡ answer

-- The plain book: what a customer could keep with a pencil, from the arguments of the calls alone. It has an adder count, and at each code nothing or a constant.
--   Tells k b   the book k and the block b agree
use Rattle.std.specs.Prelude.{◌≡◌, ℕ, cond, List, length, Some, None, Ok, Err, Option, Result, IfSome, nat_eq}
use Rattle.adders.specs.declared.refusals.Refusal.{Refusal}
use Rattle.adders.specs.Rules.{Rule, first_broken}
use Rattle.chains.specs.Chains.{chain_adders, chain_constant}
use Rattle.tables.specs.Tables.{live_rules}
use Rattle.blocks.specs.declared.model.Block.{Block}
use Rattle.blocks.specs.Blocks.{constant_at}
use Rattle.blocks.specs.Calls.{Call, founding, retiring, moving, founding_rules, Step}

pub record Book : Type 0 where
  pub adders : ℕ
  pub entries : ℕ → Option ℕ

-- a place that is not yet founded
abbrev pub empty_book : Book
empty_book = record { adders = 0; entries = λ code. None }

-- the causes to turn a call down that the book knows; of a move it knows only whether the code is live
abbrev pub book_rules : Book → Call → List Rule
book_rules k (founding chain code width) = founding_rules code width
book_rules k (retiring code) = live_rules code (k.entries code)
book_rules k (moving code adder amount) = live_rules code (k.entries code)

-- what is written into the book where there is none
abbrev pub written : Book → Call → Book
written k (founding chain code width) = record { adders = length (chain_adders chain); entries = λ j. cond (nat_eq j code) (Some (chain_constant chain)) None }
written k (retiring code) = record { adders = k.adders; entries = λ j. cond (nat_eq j code) None (k.entries j) }
written k (moving code adder amount) = k

abbrev pub unless_refused : Option Refusal → Book → Book → Book
unless_refused None new old = new
unless_refused (Some e) new old = old

-- the book after a call
abbrev pub noted : Book → Call → Book
noted k call = unless_refused (first_broken (book_rules k call)) (written k call) k

-- The call is answered as the book says: done where the book knows no cause, and else refused with that cause. A move may be refused for a cause that the book does not know, but not for another than it knows.
abbrev pub Judged : Book → Call → Result Unit Refusal → Type 0
Judged k call (Ok u) = first_broken (book_rules k call) ≡ None
Judged k (founding chain code width) (Err e) = first_broken (book_rules k (founding chain code width)) ≡ Some e
Judged k (retiring code) (Err e) = first_broken (book_rules k (retiring code)) ≡ Some e
Judged k (moving code adder amount) (Err e) = IfSome (first_broken (book_rules k (moving code adder amount))) (λ cause. cause ≡ e)

pub record Tells (k : Book) (b : Block) : Type 0 where
  pub adders : b.adders ≡ k.adders
  pub constants : (code : ℕ) → constant_at b code ≡ k.entries code

-- a book that agreed with the block before the call judges it as it was answered, and agrees after it
abbrev pub FollowsBook : Call → Block → Result Unit Refusal → Block → Type 0
FollowsBook call before r after = (k : Book) → Tells k before → Judged k call r × Tells (noted k call) after

-- whatever keeps to the rules of a call follows the book
abbrev pub StepsFollowBook : Type 0
StepsFollowBook = (call : Call) (before : Block) (r : Result Unit Refusal) (after : Block) → Step call before r after → FollowsBook call before r after

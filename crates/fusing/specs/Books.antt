-- The plain book over a fusing. It is fed the chain and the code alone.
--   k   the book before a fusing
use Rattle.std.specs.Prelude.{◌≡◌, ℕ, cond, List, Some, None, Ok, Err, Result, nat_eq}
use Rattle.adders.specs.declared.refusals.Refusal.{Refusal}
use Rattle.adders.specs.Rules.{Rule, first_broken}
use Rattle.chains.specs.declared.model.Chain.{Chain}
use Rattle.chains.specs.Chains.{chain_constant}
use Rattle.blocks.specs.declared.model.Block.{Block}
use Rattle.blocks.specs.Books.{Book, Tells, unless_refused}
use Rattle.fusing.specs.Fusing.{fusing_rules}

-- the causes to turn a fusing down, by the book's own entries: the book knows them all
abbrev pub fusing_causes : Book → Chain → ℕ → List Rule
fusing_causes k chain code = fusing_rules k.adders k.entries chain code

-- a fusing that is done enters the chain's constant at its code
abbrev pub entered : Book → Chain → ℕ → Book
entered k chain code = record { adders = k.adders; entries = λ j. cond (nat_eq j code) (Some (chain_constant chain)) (k.entries j) }

-- the book after a fusing
abbrev pub noted : Book → Chain → ℕ → Book
noted k chain code = unless_refused (first_broken (fusing_causes k chain code)) (entered k chain code) k

-- The fusing is answered as the book says: done exactly where the book knows no cause, and else refused with that cause.
abbrev pub Judged : Book → Chain → ℕ → Result ℕ Refusal → Type 0
Judged k chain code (Ok price) = first_broken (fusing_causes k chain code) ≡ None
Judged k chain code (Err e) = first_broken (fusing_causes k chain code) ≡ Some e

-- a book that agreed with the block before the fusing judges it as it was answered, and agrees after it
abbrev pub FollowsBook : Chain → ℕ → Block → Result ℕ Refusal → Block → Type 0
FollowsBook chain code before r after = (k : Book) → Tells k before → Judged k chain code r × Tells (noted k chain code) after

-- What holds after every list of calls from a place that is not yet founded, whatever price lists they were handed.
--   es, os   the calls, and beside each its outcome
--   k, b     the book and the block before them, z the block after them
use Rattle.std.specs.Prelude.{List, [], ◌∷◌, length, nat_eq}
use Rattle.adders.specs.declared.refusals.Refusal.TheVariants.{LengthsDiffer}
use Rattle.adders.specs.Rules.{Rule, rule}
use Rattle.blocks.specs.declared.model.Block.{Block}
use Rattle.blocks.specs.Blocks.{Unfounded}
use Rattle.blocks.specs.Calls.{founding, retiring, moving}
use Rattle.blocks.specs.Books.{Book, empty_book, Tells}
use Rattle.pricing.specs.Laws.{NeverDearer}
use Rattle.history.specs.declared.outcome.Outcome.{Outcome}
use Rattle.history.specs.Events.{Event, calling, fusing, Step}
use Rattle.history.specs.Books.{noted, book, Judged}
use Rattle.history.specs.Runs.{Run, EachKept}

-- a retiring leaves no dearer block, under every lawful pair of price tables
abbrev pub NoDearer : Event → Block → Block → Type 0
NoDearer (calling (founding chain code width)) before after = Unit {0}
NoDearer (calling (retiring code)) before after = NeverDearer after before
NoDearer (calling (moving code adder amount)) before after = Unit {0}
NoDearer (fusing chain code t) before after = Unit {0}

-- what holds of one call, where the book says k before it
pub record Kept (k : Book) (e : Event) (b : Block) (o : Outcome) (m : Block) : Type 0 where
  pub told : Tells k b
  pub step : Step e b o m
  pub judged : Judged k e o
  pub no_dearer : NoDearer e b m

-- From a place not yet founded and the empty book, that holds of each call, and the book agrees with the block after the last.
pub record History (es : List Event) (os : List Outcome) (z : Block) : Type 0 where
  pub start : Block
  pub unfounded : Unfounded start
  pub each : EachKept noted Tells Kept empty_book start es os z
  pub told : Tells (book empty_book es) z

abbrev pub EveryHistory : Type 0
EveryHistory = (start z : Block) (es : List Event) (os : List Outcome) → Unfounded start → Run Step start es os z → History es os z

-- there is a place for the outcome of each call, and no more
abbrev pub length_rules : {C : Type 0} → List C → List Outcome → List Rule
length_rules calls outcomes = rule (nat_eq (length calls) (length outcomes)) LengthsDiffer ∷ []

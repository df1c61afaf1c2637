-- The plain book over all calls. It is fed the calls' arguments alone: an adder count and, at each code, nothing or a constant; at first 0 and nothing.
--   k        the book before a call
use Rattle.std.specs.Prelude.{List, Ok, Err}
use Rattle.blocks.specs.declared.model.Block.{Block}
use Rattle.blocks.specs.Books.{Book, Tells}
use Rattle.blocks.specs.Books as blocks
use Rattle.fusing.specs.Books as fusings
use Rattle.history.specs.declared.outcome.Outcome.{Outcome}
use Rattle.history.specs.declared.outcome.Outcome.TheVariants.{Done, Priced, Refused}
use Rattle.history.specs.Events.{Event, calling, fusing, Step}
use Rattle.history.specs.Runs.{noted_all}

-- the book after a call
abbrev pub noted : Book → Event → Book
noted k (calling call) = blocks.noted k call
noted k (fusing chain code t) = fusings.noted k chain code

-- the book after some calls
abbrev pub book : Book → List Event → Book
book k es = noted_all noted k es

-- The call is answered as the book says: done exactly where the book knows no cause, and else refused with that cause. A move alone may be refused for a cause that the book does not know.
abbrev pub Judged : Book → Event → Outcome → Type 0
Judged k (calling call) Done = blocks.Judged k call (Ok tt)
Judged k (calling call) (Priced price) = ⊥
Judged k (calling call) (Refused e) = blocks.Judged k call (Err e)
Judged k (fusing chain code t) Done = ⊥
Judged k (fusing chain code t) (Priced price) = fusings.Judged k chain code (Ok price)
Judged k (fusing chain code t) (Refused e) = fusings.Judged k chain code (Err e)

-- Whatever keeps to the rules of a call is answered as the book says, and the book agrees with the block after it if it did before.
abbrev pub EventsFollowBook : Type 0
EventsFollowBook = (e : Event) (before : Block) (o : Outcome) (after : Block) → Step e before o after → (k : Book) → Tells k before → Judged k e o × Tells (noted k e) after

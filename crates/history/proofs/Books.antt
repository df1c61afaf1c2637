-- A call that keeps to its rules keeps to the plain book.
use Rattle.std.proofs.Common.{Ok, Err}
use Rattle.blocks.proofs.Books.{steps_follow_book}
use Rattle.pricing.specs.Prices.{block_price}
use Rattle.fusing.proofs.Books.{follows_book}
use Rattle.history.specs.declared.outcome.Outcome.TheVariants.{Done, Priced, Refused}
use Rattle.history.specs.Events.{calling, fusing}
use Rattle.history.specs.Books.{EventsFollowBook}

pub events_follow_book : EventsFollowBook
events_follow_book (calling call) before Done after s k told = steps_follow_book call before (Ok tt) after s k told
events_follow_book (calling call) before (Priced price) after s k told = absurd s
events_follow_book (calling call) before (Refused e) after s k told = steps_follow_book call before (Err e) after s k told
events_follow_book (fusing chain code t) before Done after s k told = absurd s
events_follow_book (fusing chain code t) before (Priced price) after s k told = follows_book (block_price t) chain code before (Ok price) after s k told
events_follow_book (fusing chain code t) before (Refused e) after s k told = follows_book (block_price t) chain code before (Err e) after s k told

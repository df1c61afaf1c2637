use Rattle.history.proofs.Books.{events_follow_book}
use Rattle.history.proofs.laws.events_follow_the_book.Goals as goal

pub returns : goal.returns
returns c = events_follow_book

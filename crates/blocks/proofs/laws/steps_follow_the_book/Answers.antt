use Rattle.blocks.proofs.Books.{steps_follow_book}
use Rattle.blocks.proofs.laws.steps_follow_the_book.Goals as goal

pub returns : goal.returns
returns c = steps_follow_book

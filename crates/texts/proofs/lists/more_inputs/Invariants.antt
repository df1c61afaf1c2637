use Rattle.std.proofs.Common.{◌≡◌, List, length}
use Rattle.adders.specs.declared.wiring.Operand.{Operand}
use Rattle.texts.specs.Pieces.{more_at}
use Rattle.texts.specs.Listings.{Lists, with_first}
use Rattle.texts.proofs.Following.{with_front}
use Rattle.texts.proofs.lists.more_inputs.Given as goal

abbrev pub invariant-loop-after : goal.invariant-loop-after
invariant-loop-after l = (done : List Operand) × Lists l.listing done × (with_front done (more_at l.rest) ≡ with_first l.fn.first (more_at l.fn.text))

abbrev pub decreases-loop-after : goal.decreases-loop-after
decreases-loop-after l = length l.rest

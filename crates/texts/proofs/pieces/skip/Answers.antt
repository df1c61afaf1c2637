use Rattle.std.proofs.lemmas.Bool.Decides.{Decides-eqb}
use Rattle.std.proofs.lemmas.Slice.Eq.{strip_prefix_is}
use Rattle.texts.proofs.Skips.{stripped}
use Rattle.texts.proofs.pieces.skip.Goals as goal

pub returns : goal.returns
returns c = stripped c.args.key.now c.args.text.now c.strip_prefix.result (strip_prefix_is Decides-eqb c.args.text.now c.args.key.now c.strip_prefix.result c.strip_prefix.ensures.cases)

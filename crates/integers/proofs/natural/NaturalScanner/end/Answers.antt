use Rattle.std.proofs.Common.{subst}
use Rattle.integers.specs.NaturalScan.{NaturalReached}
use Rattle.integers.proofs.NaturalTexts.{empty_off}
use Rattle.integers.proofs.natural.NaturalScanner.end.Goals as goal

pub returns-in-Nothing : goal.returns-in-Nothing
returns-in-Nothing g c bs reached = empty_off g.row.LAST bs (subst (NaturalReached g.row.LAST bs) c.in-Nothing.is reached)

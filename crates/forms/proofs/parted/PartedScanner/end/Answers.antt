use Rattle.std.proofs.Common.{subst}
use Rattle.forms.proofs.parted.PartedScanner.end.Goals as goal
use Rattle.forms.specs.Parts.{Reached}
use Rattle.forms.proofs.PartLines.{first_short, second_short}

pub returns-in_err-end-in-Second-2 : goal.returns-in_err-end-in-Second-2
returns-in_err-end-in-Second-2 g c bs reached =
    let s = g.S.Scanner in
    let parts = subst (Reached s.Form s.Reached g.T.Scanner.Reached bs) c.in-Second.is reached in
    let off = c.in_err-end-in-Second-2.ensures parts.back parts.behind in
    rw c.from_residual-in_err-end-in-Second-2.ensures (second_short s.Form g.met.S.Word.unspaced g.T.Scanner.Form bs parts.front parts.back parts.whole parts.before.0 off)

pub returns-in-First : goal.returns-in-First
returns-in-First g c bs reached =
    let s = g.S.Scanner in
    let here = (subst (Reached s.Form s.Reached g.T.Scanner.Reached bs) c.in-First.is reached).0 in
    first_short s.Form g.met.S.Word.unspaced g.T.Scanner.Form bs (g.met.S.Scanner.viable bs c.in-First.field-0 here)

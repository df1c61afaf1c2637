use Rattle.std.proofs.Common.{◌≡◌, rules, subst}
use Rattle.forms.proofs.parted.PartedScanner.step.Goals as goal
use Rattle.forms.specs.Parts.{Reached}
use Rattle.forms.proofs.PartLines.{first_off, space_off, second_off}

pub returns-in_err-end-in-First : goal.returns-in_err-end-in-First
returns-in_err-end-in-First g c bs reached =
    let s = g.S.Scanner in
    let here = (subst (Reached s.Form s.Reached g.T.Scanner.Reached bs) c.in-First.is reached).0 in
    let goes = g.met.S.Scanner.viable bs c.in-First.first here in
    let off = c.in_err-end-in-First.ensures bs here in
    let space : c.args.byte ≡ 32 = search rules in
    rw (c.from_residual.ensures, space) (space_off s.Form g.met.S.Word.unspaced g.T.Scanner.Form bs goes off)

pub returns-in_err-step-in-First-2 : goal.returns-in_err-step-in-First-2
returns-in_err-step-in-First-2 g c bs reached =
    let s = g.S.Scanner in
    let here = (subst (Reached s.Form s.Reached g.T.Scanner.Reached bs) c.in-First-2.is reached).0 in
    let goes = g.met.S.Scanner.viable bs c.in-First-2.first here in
    let off = c.in_err-step-in-First-2.ensures bs here in
    let other : c.args.byte ≡ 32 → ⊥ = search rules in
    rw c.from_residual-in_err-step-in-First-2.ensures (first_off s.Form g.met.S.Word.unspaced g.T.Scanner.Form bs c.args.byte other goes off)

pub returns-in_err-step-in-Second : goal.returns-in_err-step-in-Second
returns-in_err-step-in-Second g c bs reached =
    let s = g.S.Scanner in
    let parts = subst (Reached s.Form s.Reached g.T.Scanner.Reached bs) c.in-Second.is reached in
    let off = c.in_err-step-in-Second.ensures parts.back parts.behind in
    rw c.from_residual-in_err-step-in-Second.ensures (second_off s.Form g.met.S.Word.unspaced g.T.Scanner.Form bs parts.front parts.back parts.whole parts.before.0 c.args.byte off)

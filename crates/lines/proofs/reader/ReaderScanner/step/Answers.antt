use Rattle.std.proofs.Common.{◌≡◌, None, rules}
use Rattle.std.proofs.lemmas.Option.{MatchOption-at_none}
use Rattle.lines.proofs.reader.ReaderScanner.step.Goals as goal

pub returns-in_err-advance : goal.returns-in_err-advance
returns-in_err-advance c bs reached =
    let none : c.advance.result ≡ None = search rules in
    rw c.from_residual.ensures (MatchOption-at_none _ _ none (c.advance.ensures.step bs reached))

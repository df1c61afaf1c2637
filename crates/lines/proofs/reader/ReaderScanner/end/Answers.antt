use Rattle.std.proofs.Common.{◌≡◌, Some, None, sym, ap, ◌∙◌, rules}
use Rattle.lines.specs.Scan.{final}
use Rattle.lines.proofs.Steps.{end_on}
use Rattle.lines.proofs.Texts.{unsaid}
use Rattle.lines.proofs.reader.ReaderScanner.end.Goals as goal

pub returns-in_err-end : goal.returns-in_err-end
returns-in_err-end c bs reached =
    let none : final c.args.self.part ≡ None = search rules in
    rw c.from_residual.ensures (unsaid bs reached.all c.args.self.part reached.ran none)

pub returns : goal.returns
returns c bs reached =
    let some : final c.args.self.part ≡ Some c.in_ok-end.field-0 = search rules in
    end_on bs c.args.self c.new.result reached c.new.ensures.adders (some ∙ ap Some (sym c.new.ensures.shift))

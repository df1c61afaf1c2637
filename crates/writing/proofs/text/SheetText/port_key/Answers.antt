use Rattle.std.proofs.Common.{sym, subst}
use Rattle.std.specs.Prelude.{codes}
use Rattle.ports.specs.declared.port.Port.{Port}
use Rattle.texts.specs.Text.{number, port_key}
use Rattle.writing.specs.Writes.{Wrote}
use Rattle.writing.proofs.Joins.{joined}
use Rattle.writing.proofs.text.SheetText.port_key.Goals as goal

pub returns-in-Left : goal.returns-in-Left
returns-in-Left c =
    subst (λ (p : Port). Wrote c.args.self.now (port_key p) c.key.new.self) (sym c.in-Left.is) (joined c.args.self.now (number c.in-Left.adder) c.number.new.self (codes "L=") c.key.new.self c.number.ensures c.key.ensures)

pub returns-in-Right : goal.returns-in-Right
returns-in-Right c =
    subst (λ (p : Port). Wrote c.args.self.now (port_key p) c.key-in-Right.new.self) (sym c.in-Right.is)
    (joined c.args.self.now (number c.in-Right.adder) c.number-in-Right.new.self (codes "R=") c.key-in-Right.new.self c.number-in-Right.ensures c.key-in-Right.ensures)

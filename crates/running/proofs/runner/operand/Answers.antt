use Rattle.std.proofs.Common.{◌≡◌, subst}
use Rattle.arith.specs.Operations.{doubled}
use Rattle.running.proofs.runner.operand.Goals as goal

pub returns : goal.returns
returns g c =
    let m = g.X.Arithmetic in
    record {
      meaning = λ d. subst (λ x. m.means c.shifted.result ≡ doubled m.operations c.args.operand.shift (m.means x)) (c.at.ensures d) c.shifted.ensures.meaning;
      settled = c.shifted.ensures.settled;
    }

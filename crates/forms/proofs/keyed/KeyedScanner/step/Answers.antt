use Rattle.std.proofs.Common.{◌≡◌, ◌<◌, ◌≤◌, length, get_or, rules}
use Rattle.forms.proofs.keyed.KeyedScanner.step.Goals as goal
use Rattle.forms.proofs.KeyLines.{key_off, behind_off}

pub returns-in_err-step-in-None : goal.returns-in_err-step-in-None
returns-in_err-step-in-None g c bs read =
    let past : length g.K.Key.key ≤ c.args.self.place = search rules in
    rw c.from_residual.ensures (behind_off g.K.Key.key g.S.Scanner.Form _ c.args.self.place bs read c.args.byte past (c.in_err-step-in-None.ensures read.rest read.holds))

pub returns-in-Some-2 : goal.returns-in-Some-2
returns-in-Some-2 g c bs read =
    let within : c.args.self.place < length g.K.Key.key = search rules in
    let other : get_or g.K.Key.key c.args.self.place 0 ≡ c.args.byte → ⊥ = search rules in
    key_off g.K.Key.key g.S.Scanner.Form _ c.args.self.place bs read c.args.byte within other

use Rattle.std.proofs.Common.{◌<◌, ◌≤◌, length, rules}
use Rattle.forms.proofs.keyed.KeyedScanner.end.Goals as goal
use Rattle.forms.proofs.KeyLines.{short_off, ended_behind}

pub returns-then-self-key : goal.returns-then-self-key
returns-then-self-key g c bs read =
    let within : c.args.self.place < length g.K.Key.key = search rules in
    short_off g.K.Key.key g.S.Scanner.Form _ c.args.self.place bs read within

pub returns : goal.returns
returns g c bs read =
    let past : length g.K.Key.key ≤ c.args.self.place = search rules in
    ended_behind g.K.Key.key g.S.Scanner.Form _ c.args.self.place bs read g.S.Scanner.Says c.end.result past (c.end.ensures read.rest read.holds)

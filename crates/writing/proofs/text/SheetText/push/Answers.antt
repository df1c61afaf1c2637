use Rattle.std.proofs.Common.{rules, ◌≡◌, [], ◌∷◌, length, ap, arith}
use Rattle.std.proofs.lemmas.List.{length-take}
use Rattle.writing.proofs.Joins.{no_more}
use Rattle.writing.proofs.text.SheetText.push.Goals as goal

pub returns-else-self-lt-MOST-clause-wrote : goal.returns-else-self-lt-MOST-clause-wrote
returns-else-self-lt-MOST-clause-wrote c =
    let size : length c.self.inside.bytes ≡ 4096 = search rules in
    let full : length c.args.self.now ≡ 4096 = omega (arith, ap length c.self.view_is, length-take c.self.inside.len c.self.inside.bytes) in
    no_more c.args.self.now (c.args.byte ∷ []) full

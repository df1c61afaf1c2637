use Rattle.std.proofs.Common.{rules}
use Rattle.search.proofs.Meaning.{chosen}
use Rattle.search.proofs.steps.cheapest.Goals as goal

pub returns : goal.returns
returns g c =
    let s = g.S.Steps in
    let x = c.args.steps.now in
    chosen (s.count x) (s.opens x) (s.rise x) (s.last x) (s.length x) c.explore.result (search rules)

use Rattle.std.proofs.Common.{◌≡◌, ◌∙◌, w64, to_z, of_z, arith}
use Rattle.std.proofs.lemmas.Int.{ints}
use Rattle.kundrevez.specs.Host.{told}
use Rattle.kundrevez.proofs.Telling.{line_told}
use Rattle.kundrevez.proofs.calls.kundrevez_chain_constant.Goals as goal

stored : (c : goal.After-told) → to_z w64 (of_z w64 c.told.result) ≡ told c.line_constant.result
stored c =
    let same : to_z w64 (of_z w64 c.told.result) ≡ c.told.result = omega (arith, ints) in
    same ∙ c.told.ensures

pub returns-clause-only : goal.returns-clause-only
returns-clause-only c = (line_told c.args.line.now c.line_constant.result c.line_constant.ensures.answer _ (stored c)).only

pub returns-clause-exactly : goal.returns-clause-exactly
returns-clause-exactly c = (line_told c.args.line.now c.line_constant.result c.line_constant.ensures.answer _ (stored c)).exactly

-- The list of an input.
use Rattle.std.proofs.Common.{◌≡◌, ℕ, List, Ok, Err, Result, sym, subst}
use Rattle.adders.specs.declared.refusals.Refusal.{Refusal}
use Rattle.adders.specs.Rules.{Answered}
use Rattle.prices.specs.declared.per_bit.PerBitList.{PerBitList}
use Rattle.prices.specs.declared.per_bit.UnitPrices.{UnitPrices}
use Rattle.prices.specs.PerBit.{unit_rules}
use Rattle.units.specs.Form.{UnitsLine}
use Rattle.price.specs.Reports.{ListOf, unlawful}

-- the list of unit prices that the line says
pub made : (line : List ℕ) (u : UnitPrices) (r : Result PerBitList Refusal) → UnitsLine u line → Answered (unit_rules u) (λ l. l.units ≡ u) r → ListOf line r
made line u (Ok l) says a = subst (λ v. UnitsLine v line) (sym a.1) says
made line u (Err e) says a = unlawful u e says a

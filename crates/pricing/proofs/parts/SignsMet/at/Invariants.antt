use Rattle.std.proofs.Common.{◌≡◌, drop, map}
use Rattle.std.specs.List.{list_any}
use Rattle.adders.specs.declared.wiring.Sign.TheVariants.{Plus, Minus}
use Rattle.pricing.specs.Parts.{sign_used, is_sign}
use Rattle.pricing.proofs.parts.SignsMet.at.Given as goal

abbrev pub invariant-loop-code : goal.invariant-loop-code
invariant-loop-code l =
    (l.adds ≡ list_any (is_sign Plus) (drop l.code (map (λ r. sign_used r l.adder) l.block.table.rows))) × (l.subtracts ≡ list_any (is_sign Minus) (drop l.code (map (λ r. sign_used r l.adder) l.block.table.rows)))

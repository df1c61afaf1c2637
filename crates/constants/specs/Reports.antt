-- What is printed for a chain line: its constant, or the number and the place of its refusal.
use Rattle.std.specs.Prelude.{ℕ, List, ◌++◌, Ok, Err, codes, decimal, Result}
use Rattle.adders.specs.declared.refusals.Refusal.{Refusal}
use Rattle.adders.specs.Refusals.{refusal_text}
use Rattle.chains.specs.declared.model.Chain.{Chain}
use Rattle.chains.specs.Chains.{chain_constant}

abbrev pub report_text : Result Chain Refusal → List ℕ
report_text (Ok c) = codes "constant=" ++ decimal (chain_constant c)
report_text (Err r) = refusal_text r

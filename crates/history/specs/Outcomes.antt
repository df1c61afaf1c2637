-- The outcome of what a call answers.
use Rattle.std.specs.Prelude.{ℕ, Ok, Err, Result}
use Rattle.adders.specs.declared.refusals.Refusal.{Refusal}
use Rattle.history.specs.declared.outcome.Outcome.{Outcome}
use Rattle.history.specs.declared.outcome.Outcome.TheVariants.{Done, Priced, Refused}

abbrev pub outcome_of : Result Unit Refusal → Outcome
outcome_of (Ok u) = Done
outcome_of (Err e) = Refused e

abbrev pub priced_of : Result ℕ Refusal → Outcome
priced_of (Ok price) = Priced price
priced_of (Err e) = Refused e

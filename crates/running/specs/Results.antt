-- The results of a run, as a list: the sample's place first, then adder 1's, and so on.
use Rattle.std.specs.Prelude.{List, [], ◌∷◌, replicate}
use Rattle.running.specs.declared.results.Results.{Results}

abbrev pub listed : {X : Type 0} → Results X → List X
listed r = r.0 ∷ r.1 ∷ r.2 ∷ r.3 ∷ r.4 ∷ r.5 ∷ r.6 ∷ r.7 ∷ r.8 ∷ []

abbrev pub alike : {X : Type 0} → X → List X
alike x = replicate 9 x

-- One turn of a loop that values the slots: the slot at place i, over the values at of the sources below it, of which the code takes the first n.
use Rattle.std.proofs.Common.{◌≡◌, ℕ, ◌+◌, ◌<◌, List, [], ◌∷◌, ◌++◌, length, get_or, take, drop, Some, None, sym, ap, ◌∙◌}
use Rattle.std.proofs.lemmas.List.{at_drop_more}
use Rattle.adders.specs.declared.refusals.Refusal.{Refusal}
use Rattle.adders.specs.Values.{Slots, slot_value}
use Rattle.adders.specs.Rules.{first_broken, slot_rules, rules_from}
use Rattle.adders.proofs.Broken.{otherwise, broken_append}

module _ (xs : Slots) (i : ℕ) (at : List ℕ) (h : i < length xs) (room : i + 1 < length at) (n : ℕ) (up : n ≡ i + 1) where
  rest : Slots
  rest = drop (i + 1) xs

  -- the slot's rules, and those of the rest
  split : first_broken (rules_from (take (i + 1) at) (drop i xs)) ≡ otherwise (first_broken (slot_rules (take n at) (get_or xs i None))) (first_broken (rules_from (take n at ++ slot_value (take n at) (get_or xs i None) ∷ []) rest))
  unfolding rest
  split =
      ap (λ m. first_broken (rules_from (take m at) (drop i xs))) (sym up)
      ∙ at_drop_more (λ ys. first_broken (rules_from (take n at) ys)) xs i None h
      ∙ broken_append (slot_rules (take n at) (get_or xs i None)) (rules_from (take n at ++ slot_value (take n at) (get_or xs i None) ∷ []) (drop (i + 1) xs))

  pub rules_stop : (r : Refusal) → first_broken (slot_rules (take n at) (get_or xs i None)) ≡ Some r → first_broken (rules_from (take (i + 1) at) (drop i xs)) ≡ Some r
  rules_stop r p = split ∙ ap (λ o. otherwise o (first_broken (rules_from (take n at ++ slot_value (take n at) (get_or xs i None) ∷ []) rest))) p

-- One turn of the loop over the slots.
use Rattle.std.proofs.Common.{◌≡◌, ℕ, ◌+◌, ◌<◌, ℤ, length, get_or, drop, None, ◌∙◌}
use Rattle.std.proofs.lemmas.List.{at_drop_more}
use Rattle.adders.specs.Values.{Slots}
use Rattle.adders.specs.Rules.{first_broken}
use Rattle.adders.proofs.Broken.{otherwise, broken_append}
use Rattle.moves.specs.Moves.{slot_shift_rules, shift_rules_from}

module _ (a : ℕ) (z : ℤ) (xs : Slots) (i : ℕ) (h : i < length xs) where
  -- the rules of the slot at place i, and those of the rest
  pub rules_more : first_broken (shift_rules_from a z (i + 1) (drop i xs)) ≡ otherwise (first_broken (slot_shift_rules a z (i + 1) (get_or xs i None))) (first_broken (shift_rules_from a z (i + 1 + 1) (drop (i + 1) xs)))
  rules_more =
      at_drop_more (λ ys. first_broken (shift_rules_from a z (i + 1) ys)) xs i None h
      ∙ broken_append (slot_shift_rules a z (i + 1) (get_or xs i None)) (shift_rules_from a z (i + 1 + 1) (drop (i + 1) xs))

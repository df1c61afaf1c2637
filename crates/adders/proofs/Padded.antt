-- Empty slots after the last adder add no rule and no value.
use Rattle.std.proofs.Common.{◌≡◌, ℕ, zero, suc, List, [], ◌∷◌, ◌++◌, replicate, None, sym, refl, ap, ◌∙◌, append_assoc, append-nil}
use Rattle.adders.specs.Values.{Slots, slot_value, values_from}
use Rattle.adders.specs.Rules.{first_broken, slot_rules, rules_from}
use Rattle.adders.proofs.Broken.{otherwise, broken_append}

pub values_padded : (vs : List ℕ) (xs : Slots) (n : ℕ) → values_from vs (xs ++ replicate n None) ≡ values_from vs xs ++ replicate n 0
values_padded vs [] zero = sym (append-nil vs)
values_padded vs [] (suc n) = values_padded (vs ++ 0 ∷ []) [] n ∙ append_assoc vs (0 ∷ []) (replicate n 0)
values_padded vs (x ∷ xs) n = values_padded (vs ++ slot_value vs x ∷ []) xs n

pub rules_padded : (vs : List ℕ) (xs : Slots) (n : ℕ) → first_broken (rules_from vs (xs ++ replicate n None)) ≡ first_broken (rules_from vs xs)
rules_padded vs [] zero = refl
rules_padded vs [] (suc n) = rules_padded (vs ++ 0 ∷ []) [] n
rules_padded vs (x ∷ xs) n =
    let more = vs ++ slot_value vs x ∷ [] in
    broken_append (slot_rules vs x) (rules_from more (xs ++ replicate n None))
    ∙ ap (otherwise (first_broken (slot_rules vs x))) (rules_padded more xs n)
    ∙ sym (broken_append (slot_rules vs x) (rules_from more xs))

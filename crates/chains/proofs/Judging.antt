-- The steps of the loops that test the rules.
use Rattle.std.proofs.Common.{◌≡◌, ℕ, zero, suc, ◌+◌, ◌-◌, ◌<◌, ◌≤◌, true, false, cond, List, ◌++◌, length, get_or, take, drop, replicate, Some, None, Ok, Err, Option, Result, sym, refl, ap, ◌∙◌, subst, ⊎_elim, arith}
use Rattle.std.proofs.lemmas.List.{get_or-take, take_at, length-map, length-append, length-replicate}
use Rattle.std.proofs.lemmas.Bool.{cases_order, le-leb, lt-leb}
use Rattle.adders.specs.declared.wiring.Adder.{Adder}
use Rattle.adders.specs.declared.refusals.Refusal.{Refusal}
use Rattle.adders.specs.declared.refusals.Refusal.TheVariants.{TooManyAdders, AdderUnread}
use Rattle.adders.specs.Values.{Slots, sample, value, values_from, wired}
use Rattle.adders.specs.Rules.{Tried, first_broken, rules_from, output_rules}
use Rattle.adders.proofs.Broken.{otherwise, broken_append}
use Rattle.adders.proofs.Follow.{length_values}
use Rattle.adders.proofs.Padded.{rules_padded, values_padded}
use Rattle.std.specs.Prelude.{MatchOption}
use Rattle.std.specs.Option.{option_map_or}
use Rattle.chains.specs.Rules.{Valued, eight_slots, some_reads, read_rules_from, read_rules, chain_rules}

pub eight : (xs : List Adder) → length xs ≤ 8 → length (eight_slots xs) ≡ 8
eight xs few = length-append (wired xs) (replicate (8 - length xs) None) ∙ (let n = length-map xs Some in let m = length-replicate {A = Option Adder} (8 - length xs) None in omega arith)

-- valuing eight slots values the adders in them
pub valued_slots : (xs : List Adder) (ys : Slots) (r : Result (List ℕ) Refusal) → length xs ≤ 8 → ys ≡ eight_slots xs → Tried (rules_from sample ys) (values_from sample ys) r → Valued xs r
valued_slots xs ys r few e t = by r (subst (λ zs. Tried (rules_from sample zs) (values_from sample zs) r) e t)
  where
    by : (r : Result (List ℕ) Refusal) → Tried (rules_from sample (eight_slots xs)) (values_from sample (eight_slots xs)) r → Valued xs r
    by (Ok at) h =
        let n = length-map xs Some in
        let m = length_values sample (wired xs) in (
          sym (rules_padded sample (wired xs) (8 - length xs)) ∙ h.0,
          ap (take (length xs + 1)) (h.1 ∙ values_padded sample (wired xs) (8 - length xs)) ∙ take_at (values_from sample (wired xs)) (replicate (8 - length xs) 0) (length xs + 1) (omega arith),
          ap length h.1 ∙ length_values sample (eight_slots xs) ∙ (let k = eight xs few in omega arith),
        )
    by (Err f) h = sym (rules_padded sample (wired xs) (8 - length xs)) ∙ h

-- adders j to j + n - 1 are all read, or k is the first of them that is not
pub all_read : (xs : List Adder) (j n : ℕ) → ((k : ℕ) → j ≤ k → k < j + n → some_reads k (drop k xs) ≡ true) → first_broken (read_rules_from xs j n) ≡ None
all_read xs j zero f = refl
all_read xs j (suc n) f = ap (λ b. cond b (first_broken (read_rules_from xs (j + 1) n)) (Some (AdderUnread j))) (f j (omega arith) (omega arith)) ∙ all_read xs (j + 1) n (λ k a b. f k (omega arith) (omega arith))

pub unread_first : (xs : List Adder) (j n k : ℕ) → j ≤ k → k < j + n → ((m : ℕ) → j ≤ m → m < k → some_reads m (drop m xs) ≡ true) → some_reads k (drop k xs) ≡ false → first_broken (read_rules_from xs j n) ≡ Some (AdderUnread k)
unread_first xs j zero k a b f e = absurd (omega arith)
unread_first xs j (suc n) k a b f e =
    ⊎_elim
    (λ same. ap (λ c. cond c (first_broken (read_rules_from xs (j + 1) n)) (Some (AdderUnread j))) (ap (λ m. some_reads m (drop m xs)) same ∙ e) ∙ ap (λ m. Some (AdderUnread m)) same)
    (⊎_elim
    (λ lt. ap (λ c. cond c (first_broken (read_rules_from xs (j + 1) n)) (Some (AdderUnread j))) (f j (omega arith) lt) ∙ unread_first xs (j + 1) n k (omega arith) (omega arith) (λ m p q. f m (omega arith) q) e)
    (λ gt. absurd (omega arith)))
    (cases_order j k)

-- the rules of a chain of at most eight adders, part by part
pub chain_broken : (xs : List Adder) (out : ℕ) → length xs ≤ 8
    → first_broken (chain_rules xs out) ≡ otherwise (first_broken (rules_from sample (wired xs))) (otherwise (first_broken (output_rules (value (wired xs) (length xs)) out)) (first_broken (read_rules xs)))
chain_broken xs out few =
    let adders = rules_from sample (wired xs) in
    let output = output_rules (value (wired xs) (length xs)) out in
    ap (λ b. cond b (first_broken (adders ++ (output ++ read_rules xs))) (Some TooManyAdders)) (le-leb (length xs) 8 few)
    ∙ broken_append adders (output ++ read_rules xs) ∙ ap (otherwise (first_broken adders)) (broken_append output (read_rules xs))

pub chain_crowded : (xs : List Adder) (out : ℕ) → 8 < length xs → first_broken (chain_rules xs out) ≡ Some TooManyAdders
chain_crowded xs out many = ap (λ b. cond b (first_broken (rules_from sample (wired xs) ++ (output_rules (value (wired xs) (length xs)) out ++ read_rules xs))) (Some TooManyAdders)) (lt-leb (length xs) 8 many)

-- the value of the last adder, the n-th, from the values of all
pub last_value : (xs : List Adder) (at : List ℕ) (n : ℕ) → n ≡ length xs → take (length xs + 1) at ≡ values_from sample (wired xs) → get_or at n 0 ≡ value (wired xs) (length xs)
last_value xs at n up e = sym (get_or-take (length xs + 1) at n 0 (omega arith)) ∙ ap (λ l. get_or l n 0) e ∙ ap (value (wired xs)) up

-- the same as it is met: in the adders, in the output over the values at of the adders, past both
module _ (xs : List Adder) (out : ℕ) (few : length xs ≤ 8) where
  pub in_adders : (r : Refusal) → first_broken (rules_from sample (wired xs)) ≡ Some r → first_broken (chain_rules xs out) ≡ Some r
  in_adders r e = chain_broken xs out few ∙ ap (λ o. otherwise o (otherwise (first_broken (output_rules (value (wired xs) (length xs)) out)) (first_broken (read_rules xs)))) e

  module _ (at : List ℕ) (n : ℕ) (up : n ≡ length xs) (same : take (length xs + 1) at ≡ values_from sample (wired xs)) (sound : first_broken (rules_from sample (wired xs)) ≡ None) where
    past_adders : first_broken (chain_rules xs out) ≡ otherwise (first_broken (output_rules (get_or at n 0) out)) (first_broken (read_rules xs))
    past_adders =
        chain_broken xs out few
        ∙ ap (λ o. otherwise o (otherwise (first_broken (output_rules (value (wired xs) (length xs)) out)) (first_broken (read_rules xs)))) sound
        ∙ ap (λ v. otherwise (first_broken (output_rules v out)) (first_broken (read_rules xs))) (sym (last_value xs at n up same))

    pub in_output : (r : Refusal) → first_broken (output_rules (get_or at n 0) out) ≡ Some r → first_broken (chain_rules xs out) ≡ Some r
    in_output r e = past_adders ∙ ap (λ o. otherwise o (first_broken (read_rules xs))) e

    pub past_output : first_broken (output_rules (get_or at n 0) out) ≡ None → first_broken (chain_rules xs out) ≡ first_broken (read_rules xs)
    past_output e = past_adders ∙ ap (λ o. otherwise o (first_broken (read_rules xs))) e

-- the lowest adder that no later one reads, if there is one
pub unread_told : (xs : List Adder) (o : Option ℕ)
    → MatchOption o ((k : ℕ) → 1 ≤ k → k < length xs → some_reads k (drop k xs) ≡ true) (λ j. (1 ≤ j) × (j < length xs) × (some_reads j (drop j xs) ≡ false) × ((k : ℕ) → 1 ≤ k → k < j → some_reads k (drop k xs) ≡ true))
    → Tried {A = Unit {0}} (read_rules xs) tt (option_map_or {U = Result (Unit {0}) Refusal} (λ j. Err (AdderUnread j)) o (Ok tt))
unread_told xs None all = (all_read xs 1 (length xs - 1) (λ k a b. all k a (omega arith)), refl)
unread_told xs (Some j) found = unread_first xs 1 (length xs - 1) j found.0 (omega (arith, found.0, found.1)) found.3 found.2

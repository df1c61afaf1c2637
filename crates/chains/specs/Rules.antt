-- The rules of a chain, in the order in which they are tried, each with the refusal of its breach.
--   xs    the adders of the chain, adder 1 first
--   out   its output shift
use Rattle.std.specs.Prelude.{◌≡◌, ℕ, zero, suc, ◌+◌, ◌-◌, ◌*◌, ◌^◌, ◌<◌, ◌≤◌, Bool, ◌⊎◌, List, [], ◌∷◌, ◌++◌, length, take, drop, replicate, Some, None, Ok, Err, Result, nat_le, slice_index_or}
use Rattle.std.specs.List.{list_any}
use Rattle.adders.specs.declared.wiring.Adder.{Adder}
use Rattle.adders.specs.declared.refusals.Refusal.{Refusal}
use Rattle.adders.specs.declared.refusals.Refusal.TheVariants.{TooManyAdders, AdderUnread}
use Rattle.adders.specs.Values.{Slots, sample, value, values_from, wired, reads}
use Rattle.adders.specs.Rules.{Rule, rule, first_broken, rules_from, output_rules, InRange, Sound}

-- the factor of the output: that of the source of the highest number, which of an empty chain is the sample, doubled as often as the output shift says
abbrev pub constant : List Adder → ℕ → ℕ
constant xs out = value (wired xs) (length xs) * 2 ^ out

-- each adder in its slot of eight, the others empty
abbrev pub eight_slots : List Adder → Slots
eight_slots xs = wired xs ++ replicate (8 - length xs) None

-- what valuing the adders answers: nine slots, of which the first hold the values of the sample and of each adder, or the first rule that an adder breaks
abbrev pub Valued : List Adder → Result (List ℕ) Refusal → Type 0
Valued xs (Ok at) = (first_broken (rules_from sample (wired xs)) ≡ None) × (take (length xs + 1) at ≡ values_from sample (wired xs)) × (length at ≡ 9)
Valued xs (Err e) = first_broken (rules_from sample (wired xs)) ≡ Some e

abbrev pub some_reads : ℕ → List Adder → Bool
some_reads source xs = list_any (reads source) xs

-- of n adders, from number j on, each is a source of some adder after it
abbrev pub read_rules_from : List Adder → ℕ → ℕ → List Rule
read_rules_from xs j zero = []
read_rules_from xs j (suc n) = rule (some_reads j (drop j xs)) (AdderUnread j) ∷ read_rules_from xs (j + 1) n

-- all adders but the last
abbrev pub read_rules : List Adder → List Rule
read_rules xs = read_rules_from xs 1 (length xs - 1)

abbrev pub chain_rules : List Adder → ℕ → List Rule
chain_rules xs out = rule (nat_le (length xs) 8) TooManyAdders ∷ (rules_from sample (wired xs) ++ (output_rules (value (wired xs) (length xs)) out ++ read_rules xs))

-- What the rules come to.

-- an adder after adder j reads it; adder j stands at place j - 1
pub record ReadLater (xs : List Adder) (j : ℕ) : Type 0 where
  pub place : ℕ
  pub reader : Adder
  pub later : j ≤ place
  pub there : slice_index_or (wired xs) place None ≡ Some reader
  pub reads_it : (reader.left.source ≡ j) ⊎ (reader.right.source ≡ j)

pub record Keeps (xs : List Adder) (out : ℕ) : Type 0 where
  pub few : length xs ≤ 8
  pub adders : Sound (wired xs)
  pub shift : out ≤ 30
  pub range : InRange (constant xs out)
  pub read : (j : ℕ) → 1 ≤ j → j < length xs → ReadLater xs j

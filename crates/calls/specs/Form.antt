-- The lines of a script of calls, and what reading one answers.
--   Said           what a line says; after is whatever follows `chain=` in it
--   text s         the line that says s
--   CallLine s bs  the bytes bs are that line, and each number in it is below 1,000,000,000
--   Meant s r      r is what is answered of s: its call, or why its unit prices or its chain are turned down
--   Reading bs r   r is what reading the bytes bs answers
use Rattle.std.specs.Prelude.{◌≡◌, ℕ, ◌^◌, ◌<◌, Bool, true, false, ◌⊎◌, List, [], ◌∷◌, ◌++◌, Some, None, Ok, Err, Result, ℤ, pos, ◌-ℤ◌, codes, decimal}
use Rattle.std.specs.List.{AllByRecursion}
use Rattle.adders.specs.declared.refusals.Refusal.{Refusal}
use Rattle.adders.specs.Rules.{first_broken}
use Rattle.chains.specs.declared.model.Chain.{Chain}
use Rattle.chains.specs.Chains as chains
use Rattle.prices.specs.declared.count.CountList.{CountList}
use Rattle.prices.specs.declared.per_bit.UnitPrices.{UnitPrices}
use Rattle.prices.specs.declared.per_bit.PerBitList.{PerBitList}
use Rattle.prices.specs.declared.either.EitherList.{EitherList}
use Rattle.prices.specs.declared.either.EitherList.TheVariants.{First, Second}
use Rattle.prices.specs.PerBit.{unit_rules}
use Rattle.calls.specs.declared.call.Call.{Call}
use Rattle.calls.specs.declared.call.Call.TheVariants.{Found, Fuse, Retire, Move}
use Rattle.calls.specs.declared.call.Unread.{Unread}
use Rattle.calls.specs.declared.call.Unread.TheVariants.{Unreadable, Refused}

-- the list that a chain is fused under: the count list, or the per-bit list of unit prices
pub data Prices : Type 0 where
  by_count : Prices
  by_bits : UnitPrices → Prices

pub data Said : Type 0 where
  found : (code width : ℕ) (after : List ℕ) → Said
  fuse : (code : ℕ) (prices : Prices) (after : List ℕ) → Said
  retire : (code : ℕ) → Said
  move : (code adder : ℕ) (minus : Bool) (amount : ℕ) → Said

-- 32 is the space, and 45 the minus
abbrev pub chain_line : List ℕ → List ℕ
chain_line after = codes "chain=" ++ after

abbrev pub priced : Prices → List ℕ → List ℕ
priced by_count rest = codes "count " ++ rest
priced (by_bits u) rest = decimal u.adds ++ 32 ∷ (decimal u.subtracts ++ 32 ∷ (decimal u.both ++ 32 ∷ (decimal u.two_to_one ++ 32 ∷ rest)))

abbrev pub amount_text : Bool → ℕ → List ℕ
amount_text true n = codes "-" ++ decimal n
amount_text false n = decimal n

abbrev pub text : Said → List ℕ
text (found code width after) = codes "found " ++ (decimal code ++ 32 ∷ (decimal width ++ 32 ∷ chain_line after))
text (fuse code prices after) = codes "fuse " ++ (decimal code ++ 32 ∷ priced prices (chain_line after))
text (retire code) = codes "retire " ++ decimal code
text (move code adder minus amount) = codes "move " ++ (decimal code ++ 32 ∷ (decimal adder ++ 32 ∷ amount_text minus amount))

abbrev pub price_numbers : Prices → List ℕ
price_numbers by_count = []
price_numbers (by_bits u) = u.adds ∷ u.subtracts ∷ u.both ∷ u.two_to_one ∷ []

abbrev pub numbers : Said → List ℕ
numbers (found code width after) = code ∷ width ∷ []
numbers (fuse code prices after) = code ∷ price_numbers prices
numbers (retire code) = code ∷ []
numbers (move code adder minus amount) = code ∷ adder ∷ amount ∷ []

pub record CallLine (s : Said) (bs : List ℕ) : Type 0 where
  pub written : bs ≡ text s
  pub small : AllByRecursion (λ n. n < 10 ^ 9) (numbers s)

-- What is answered.
abbrev pub SuppliedList : Type 0
SuppliedList = EitherList CountList PerBitList

abbrev pub Answer : Type 0
Answer = Result (Call SuppliedList) Refusal

-- what is answered of a chain line is the call with its chain, or why the line is turned down
abbrev pub ByChain : List ℕ → (Chain → Call SuppliedList) → Answer → Type 0
ByChain line call (Ok x) = (c : Chain) × chains.Reading line (Ok c) × (x ≡ call c)
ByChain line call (Err e) = chains.Reading line (Err e)

-- the unit prices are judged first
abbrev pub ByUnits : UnitPrices → List ℕ → (PerBitList → Chain → Call SuppliedList) → Answer → Type 0
ByUnits u line call (Ok x) = (first_broken (unit_rules u) ≡ None) × ((list : PerBitList) × (list.units ≡ u) × ByChain line (call list) (Ok x))
ByUnits u line call (Err e) = (first_broken (unit_rules u) ≡ Some e) ⊎ ((first_broken (unit_rules u) ≡ None) × chains.Reading line (Err e))

abbrev pub signed : Bool → ℕ → ℤ
signed true n = pos 0 -ℤ pos n
signed false n = pos n

abbrev pub Fused : ℕ → Prices → List ℕ → Answer → Type 0
Fused code by_count line r = ByChain line (λ c. Fuse c code (First (record {}))) r
Fused code (by_bits u) line r = ByUnits u line (λ list c. Fuse c code (Second list)) r

abbrev pub Meant : Said → Answer → Type 0
Meant (found code width after) r = ByChain (chain_line after) (λ c. Found c code width) r
Meant (fuse code prices after) r = Fused code prices (chain_line after) r
Meant (retire code) r = r ≡ Ok (Retire code)
Meant (move code adder minus amount) r = r ≡ Ok (Move code adder (signed minus amount))

-- what is answered of bytes that say something
abbrev pub AnswerTo : List ℕ → Answer → Type 0
AnswerTo bs r = (s : Said) × CallLine s bs × Meant s r

abbrev pub Reading : List ℕ → Result (Call SuppliedList) Unread → Type 0
Reading bs (Ok x) = AnswerTo bs (Ok x)
Reading bs (Err (Refused e)) = AnswerTo bs (Err e)
Reading bs (Err Unreadable) = (s : Said) → CallLine s bs → ⊥

-- The lines with a chain are read apart from those without.
abbrev pub has_chain : Said → Bool
has_chain (found code width after) = true
has_chain (fuse code prices after) = true
has_chain (retire code) = false
has_chain (move code adder minus amount) = false

-- no line of that kind
abbrev pub NoLine : Bool → List ℕ → Type 0
NoLine b bs = (s : Said) → has_chain s ≡ b → CallLine s bs → ⊥

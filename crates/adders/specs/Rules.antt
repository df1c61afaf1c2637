-- The rules of an adder, in the order in which they are tried, each with the refusal of its breach.
--   vs             the values of the sources below the adder, so that their count is the adder's number
--   first_broken   the refusal of the first rule that does not hold
--   Answered       what a call answers that tries rules
--   Tried          the same where it answers a value that is known
--   Changed        the same where it changes something
use Rattle.std.specs.Prelude.{◌≡◌, ℕ, suc, ◌*◌, ◌^◌, ◌<◌, ◌≤◌, Bool, cond, ◌&&◌, List, [], ◌∷◌, ◌++◌, length, Some, None, Ok, Err, Option, Result, nat_le, nat_lt, slice_index_or}
use Rattle.adders.specs.declared.wiring.Operand.{Operand}
use Rattle.adders.specs.declared.wiring.Adder.{Adder}
use Rattle.adders.specs.declared.refusals.Refusal.{Refusal}
use Rattle.adders.specs.declared.refusals.Refusal.TheVariants.{TooManyAdders, ShiftOutOfRange, SourceNotLower, ValueOutOfRange}
use Rattle.adders.specs.Values.{Slots, operand_value, adder_value, slot_value, sample, value}

pub record Rule : Type 0 where
  pub holds : Bool
  pub refusal : Refusal

abbrev pub rule : Bool → Refusal → Rule
rule b r = record { holds = b; refusal = r }

abbrev pub first_broken : List Rule → Option Refusal
first_broken [] = None
first_broken (r ∷ rs) = cond r.holds (first_broken rs) (Some r.refusal)

-- what is answered where rules are tried: what Done says where all hold, else the refusal of the first that does not
abbrev pub Answered : {A : Type 0} → List Rule → (A → Type 0) → Result A Refusal → Type 0
Answered rs Done (Ok x) = (first_broken rs ≡ None) × Done x
Answered rs Done (Err e) = first_broken rs ≡ Some e

-- a value
abbrev pub Tried : {A : Type 0} → List Rule → A → Result A Refusal → Type 0
Tried rs v r = Answered rs (λ x. x ≡ v) r

-- a call that changes something: a refusal leaves what was there before
abbrev pub Changed : {S A : Type 0} → List Rule → S → (A → S → Type 0) → Result A Refusal → S → Type 0
Changed rs before Done (Ok x) after = (first_broken rs ≡ None) × Done x after
Changed rs before Done (Err e) after = (first_broken rs ≡ Some e) × (after ≡ before)

-- a chain has at most eight adders: they are answered as they are, more are turned down
abbrev pub FewEnough : List Adder → Result (List Adder) Refusal → Type 0
FewEnough xs (Ok ys) = (length xs ≤ 8) × (ys ≡ xs)
FewEnough xs (Err e) = (8 < length xs) × (e ≡ TooManyAdders)

-- what every value has to be, of an operand, an adder or an output: positive, and of at most 31 bits
abbrev pub in_range : ℕ → Bool
in_range v = nat_le 1 v && nat_le v 2147483647

-- a shift is at most 30
abbrev pub shift_rule : ℕ → ℕ → Rule
shift_rule shift place = rule (nat_le shift 30) (ShiftOutOfRange place)

-- a reader takes the sources below a bound, and shifts up to 30
abbrev pub reading_rules : ℕ → ℕ → Operand → List Rule
reading_rules bound place o = rule (nat_lt o.source bound) (SourceNotLower place) ∷ shift_rule o.shift place ∷ []

-- a source is lower than its reader
abbrev pub operand_rules : List ℕ → Operand → List Rule
operand_rules vs o = reading_rules (length vs) (length vs) o

abbrev pub adder_rules : List ℕ → Adder → List Rule
adder_rules vs a =
    operand_rules vs a.left
    ++ (operand_rules vs a.right
    ++ rule (in_range (operand_value vs a.left) && (in_range (operand_value vs a.right) && in_range (adder_value vs a))) (ValueOutOfRange (length vs)) ∷ [])

-- an adder reads what is lower than itself
abbrev pub wiring_rules : ℕ → Adder → List Rule
wiring_rules number a = reading_rules number number a.left ++ reading_rules number number a.right

abbrev pub slot_rules : List ℕ → Option Adder → List Rule
slot_rules vs None = []
slot_rules vs (Some a) = adder_rules vs a

-- adder by adder
abbrev pub rules_from : List ℕ → Slots → List Rule
rules_from vs [] = []
rules_from vs (x ∷ xs) = slot_rules vs x ++ rules_from (vs ++ slot_value vs x ∷ []) xs

-- the output, which reads a value under a shift, has place 0
abbrev pub output_rules : ℕ → ℕ → List Rule
output_rules v shift = shift_rule shift 0 ∷ rule (in_range (v * 2 ^ shift)) (ValueOutOfRange 0) ∷ []

-- What the rules come to.
abbrev pub InRange : ℕ → Type 0
InRange v = (1 ≤ v) × (v ≤ 2147483647)

-- an operand of the adder with this number
pub record SoundOperand (xs : Slots) (number : ℕ) (o : Operand) : Type 0 where
  pub lower : o.source < number
  pub shift : o.shift ≤ 30
  pub range : InRange (value xs o.source * 2 ^ o.shift)

pub record SoundAdder (xs : Slots) (number : ℕ) (a : Adder) : Type 0 where
  pub left : SoundOperand xs number a.left
  pub right : SoundOperand xs number a.right
  pub range : InRange (value xs number)

abbrev pub Sound : Slots → Type 0
Sound xs = (k : ℕ) (a : Adder) → slice_index_or xs k None ≡ Some a → SoundAdder xs (suc k) a

-- no rule is broken exactly if every adder is sound
abbrev pub RulesSay : Type 0
RulesSay = (xs : Slots) → (first_broken (rules_from sample xs) ≡ None → Sound xs) × (Sound xs → first_broken (rules_from sample xs) ≡ None)

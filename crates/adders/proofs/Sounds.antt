-- The rules, tried in their order, against what each adder has to keep.
use Rattle.std.proofs.Common.{◌≡◌, ℕ, zero, suc, ◌+◌, ◌*◌, ◌^◌, ◌<◌, ◌≤◌, List, [], ◌∷◌, ◌++◌, length, get_or, take, Some, None, Option, sym, refl, ap, ◌∙◌, subst, arith}
use Rattle.std.proofs.lemmas.List.{length-take-le}
use Rattle.std.proofs.lemmas.Bool.Decides.{nat_tests}
use Rattle.adders.specs.declared.wiring.Adder.{Adder}
use Rattle.adders.specs.declared.wiring.Operand.{Operand}
use Rattle.adders.specs.Values.{Slots, operand_value, adder_value, slot_value, values_from, sample, value}
use Rattle.adders.specs.Rules.{first_broken, InRange, adder_rules, slot_rules, rules_from, SoundOperand, SoundAdder, RulesSay}
use Rattle.adders.proofs.Follow.{values_prefix, value_at, length_values, within}
use Rattle.adders.proofs.Broken.{whole_parts, whole_from}

-- what the rules of one adder say of the values before it
record Fits (vs : List ℕ) (a : Adder) : Type 0 where
  left_lower : a.left.source < length vs
  left_shift : a.left.shift ≤ 30
  right_lower : a.right.source < length vs
  right_shift : a.right.shift ≤ 30
  left_range : InRange (operand_value vs a.left)
  right_range : InRange (operand_value vs a.right)
  range : InRange (adder_value vs a)

fits : (vs : List ℕ) (a : Adder) → first_broken (adder_rules vs a) ≡ None → Fits vs a
fits vs a h = record {
  left_lower = grind (arith, nat_tests);
  left_shift = grind (arith, nat_tests);
  right_lower = grind (arith, nat_tests);
  right_shift = grind (arith, nat_tests);
  left_range = grind (arith, nat_tests);
  right_range = grind (arith, nat_tests);
  range = grind (arith, nat_tests);
}

unbroken : (vs : List ℕ) (a : Adder) → Fits vs a → first_broken (adder_rules vs a) ≡ None
unbroken vs a f = grind (arith, nat_tests)

-- no rule is broken exactly if none is at each place, over the values before it
each : (vs : List ℕ) (xs : Slots) → first_broken (rules_from vs xs) ≡ None → (k : ℕ) → k < length xs → first_broken (slot_rules (values_from vs (take k xs)) (get_or xs k None)) ≡ None
each vs [] h k l = absurd (omega arith)
each vs (x ∷ xs) h zero l = (whole_parts (slot_rules vs x) (rules_from (vs ++ slot_value vs x ∷ []) xs) h).0
each vs (x ∷ xs) h (suc k) l = each (vs ++ slot_value vs x ∷ []) xs (whole_parts (slot_rules vs x) (rules_from (vs ++ slot_value vs x ∷ []) xs) h).1 k (omega arith)

all : (vs : List ℕ) (xs : Slots) → ((k : ℕ) → k < length xs → first_broken (slot_rules (values_from vs (take k xs)) (get_or xs k None)) ≡ None) → first_broken (rules_from vs xs) ≡ None
all vs [] f = refl
all vs (x ∷ xs) f = whole_from (slot_rules vs x) (rules_from (vs ++ slot_value vs x ∷ []) xs) (f 0 (omega arith)) (all (vs ++ slot_value vs x ∷ []) xs (λ k h. f (suc k) (omega arith)))

module _ (xs : Slots) (k : ℕ) (a : Adder) (e : get_or xs k None ≡ Some a) where
  -- the values before adder k + 1
  before : List ℕ
  before = values_from sample (take k xs)

  count : length before ≡ suc k
  unfolding before
  count = length_values sample (take k xs) ∙ (let h = within xs k a e in let t = length-take-le k xs (omega arith) in omega arith)

  early : (i : ℕ) → i < suc k → get_or before i 0 ≡ value xs i
  unfolding before
  early i l = let h = within xs k a e in values_prefix sample xs k i (omega arith) (omega arith)

  made : adder_value before a ≡ value xs (suc k)
  unfolding before
  made =
      let h = within xs k a e in
      let n : 1 + k ≡ suc k = omega arith in
      ap (slot_value (values_from sample (take k xs))) (sym e) ∙ sym (value_at sample xs k h) ∙ ap (value xs) n

  operand_from : (o : Operand) → o.source < length before → o.shift ≤ 30 → InRange (operand_value before o) → SoundOperand xs (suc k) o
  operand_from o l s r =
      let c = count in
      let low : o.source < suc k = omega arith in
      record { lower = low; shift = s; range = subst (λ v. InRange (v * 2 ^ o.shift)) (early o.source low) r }

  operand_range : (o : Operand) → SoundOperand xs (suc k) o → InRange (operand_value before o)
  operand_range o s = subst (λ v. InRange (v * 2 ^ o.shift)) (sym (early o.source s.lower)) s.range

  sound_from : Fits before a → SoundAdder xs (suc k) a
  sound_from f = record {
    left = operand_from a.left f.left_lower f.left_shift f.left_range;
    right = operand_from a.right f.right_lower f.right_shift f.right_range;
    range = subst InRange made f.range;
  }

  fits_from : SoundAdder xs (suc k) a → Fits before a
  fits_from s =
      let c = count in
      record {
        left_lower = omega (arith, s.left.lower);
        left_shift = s.left.shift;
        right_lower = omega (arith, s.right.lower);
        right_shift = s.right.shift;
        left_range = operand_range a.left s.left;
        right_range = operand_range a.right s.right;
        range = subst InRange (sym made) s.range;
      }

  sound_at : first_broken (slot_rules (values_from sample (take k xs)) (get_or xs k None)) ≡ None → SoundAdder xs (suc k) a
  unfolding before
  sound_at h = sound_from (fits (values_from sample (take k xs)) a (subst (λ x. first_broken (slot_rules (values_from sample (take k xs)) x) ≡ None) e h))

  unbroken_at : SoundAdder xs (suc k) a → first_broken (slot_rules (values_from sample (take k xs)) (get_or xs k None)) ≡ None
  unfolding before
  unbroken_at s = subst (λ x. first_broken (slot_rules (values_from sample (take k xs)) x) ≡ None) (sym e) (unbroken (values_from sample (take k xs)) a (fits_from s))

-- an empty place has no rules
at_slot : (vs : List ℕ) (x : Option Adder) → ((a : Adder) → x ≡ Some a → first_broken (slot_rules vs x) ≡ None) → first_broken (slot_rules vs x) ≡ None
at_slot vs None f = refl
at_slot vs (Some a) f = f a refl

pub say : RulesSay
say xs = (
  λ h k a e. sound_at xs k a e (each sample xs h k (within xs k a e)),
  λ s. all sample xs (λ k l. at_slot (values_from sample (take k xs)) (get_or xs k None) (λ a e. unbroken_at xs k a e (s k a e))),
)

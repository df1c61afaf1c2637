-- The rules of a row, tried in their order, against what a row has to keep.
use Rattle.std.proofs.Common.{◌≡◌, ℕ, zero, suc, ◌+◌, ◌*◌, ◌^◌, ◌<◌, ◌≤◌, Bool, true, false, cond, [], ◌∷◌, ◌++◌, length, get_or, is_some, Some, None, Option, sym, refl, ap, ◌∙◌, subst, arith}
use mathlib.Core.Bool.{beq}
use Rattle.std.proofs.lemmas.Bool.Decides.{nat_tests}
use Rattle.adders.specs.declared.wiring.Adder.{Adder}
use Rattle.adders.specs.declared.wiring.Operand.{Operand}
use Rattle.adders.specs.declared.refusals.Refusal.{Refusal}
use Rattle.adders.specs.declared.refusals.Refusal.TheVariants.{AdderNotAsRead}
use Rattle.adders.specs.Values.{Slots, sample, value}
use Rattle.adders.specs.Rules.{first_broken, reading_rules, wiring_rules, rules_from, output_rules, InRange, Sound}
use Rattle.adders.proofs.Broken.{some_none, whole_parts, whole_from}
use Rattle.adders.proofs.Sounds as sounds
use Rattle.rows.specs.Reading.{is_read, Lower}
use Rattle.rows.specs.Rules.{slot_wiring, wiring_from, output_wiring, use_rules, row_rules, KeepsRow}
use Rattle.rows.proofs.Passing.{tests_reading}

-- Sources and shifts.

pub wiring_each : (n : ℕ) (ys : Slots) → first_broken (wiring_from n ys) ≡ None → (k : ℕ) (a : Adder) → get_or ys k None ≡ Some a → first_broken (wiring_rules (n + k) a) ≡ None
wiring_each n [] h k a e = absurd (some_none (sym e))
wiring_each n (y ∷ ys) h zero a e =
    let own = (whole_parts (slot_wiring n y) (wiring_from (n + 1) ys) h).0 in
    subst (λ i. first_broken (wiring_rules i a) ≡ None) (let p : n ≡ n + 0 = omega arith in p) (subst (λ x. first_broken (slot_wiring n x) ≡ None) e own)
wiring_each n (y ∷ ys) h (suc k) a e =
    subst (λ i. first_broken (wiring_rules i a) ≡ None) (let p : n + 1 + k ≡ n + suc k = omega arith in p)
    (wiring_each (n + 1) ys (whole_parts (slot_wiring n y) (wiring_from (n + 1) ys) h).1 k a e)

wiring_slot : (n : ℕ) (y : Option Adder) → ((a : Adder) → y ≡ Some a → first_broken (wiring_rules n a) ≡ None) → first_broken (slot_wiring n y) ≡ None
wiring_slot n None f = refl
wiring_slot n (Some a) f = f a refl

wiring_all : (n : ℕ) (ys : Slots) → ((k : ℕ) (a : Adder) → get_or ys k None ≡ Some a → first_broken (wiring_rules (n + k) a) ≡ None) → first_broken (wiring_from n ys) ≡ None
wiring_all n [] f = refl
wiring_all n (y ∷ ys) f =
    whole_from (slot_wiring n y) (wiring_from (n + 1) ys)
    (wiring_slot n y (λ a e. subst (λ i. first_broken (wiring_rules i a) ≡ None) (let p : n + 0 ≡ n = omega arith in p) (f 0 a e)))
    (wiring_all (n + 1) ys (λ k a e. subst (λ i. first_broken (wiring_rules i a) ≡ None) (let p : n + suc k ≡ n + 1 + k = omega arith in p) (f (suc k) a e)))

lower_at : (n : ℕ) (a : Adder) → first_broken (wiring_rules n a) ≡ None → (a.left.source < n) × (a.right.source < n)
lower_at n a h = (grind (arith, nat_tests), grind (arith, nat_tests))

wired_at : (n : ℕ) (a : Adder) → a.left.source < n → a.left.shift ≤ 30 → a.right.source < n → a.right.shift ≤ 30 → first_broken (wiring_rules n a) ≡ None
wired_at n a p q r s = grind (arith, nat_tests)

-- what is known of the sources where no rule of them is broken
pub lower : (xs : Slots) → first_broken (wiring_from 1 xs) ≡ None → (k : ℕ) (a : Adder) → get_or xs k None ≡ Some a → (a.left.source < 1 + k) × (a.right.source < 1 + k)
lower xs h k a e = lower_at (1 + k) a (wiring_each 1 xs h k a e)

pub sound_lower : (xs : Slots) → Sound xs → Lower xs
sound_lower xs s k a e = let t = s k a e in (omega (arith, t.left.lower), omega (arith, t.right.lower))

sound_wired : (xs : Slots) → Sound xs → first_broken (wiring_from 1 xs) ≡ None
sound_wired xs s =
    wiring_all 1 xs (λ k a e.
    let t = s k a e in
    wired_at (1 + k) a (omega (arith, t.left.lower)) t.left.shift (omega (arith, t.right.lower)) t.right.shift)

-- Use.

same_true : (b c : Bool) → beq b c ≡ true → b ≡ c
same_true true true e = refl
same_true false false e = refl
same_true true false e = sym e
same_true false true e = e

same_from : (b c : Bool) → (b ≡ true → c ≡ true) → (c ≡ true → b ≡ true) → beq b c ≡ true
same_from true true f g = refl
same_from false false f g = refl
same_from true false f g = f refl
same_from false true f g = g refl

alone : (r : Refusal) (b : Bool) (o : Option Refusal) → cond b o (Some r) ≡ None → (b ≡ true) × (o ≡ None)
alone r true o e = (refl, e)
alone r false o e = absurd (some_none e)

module _ (xs : Slots) (source : ℕ) where
  use_each : (n : ℕ) (ys : Slots) → first_broken (use_rules xs source n ys) ≡ None → (k : ℕ) → k < length ys → is_some (get_or ys k None) ≡ is_read 1 xs source (n + k)
  use_each n [] h k l = absurd (omega arith)
  use_each n (y ∷ ys) h zero l =
      let b = beq (is_some y) (is_read 1 xs source n) in
      same_true (is_some y) (is_read 1 xs source n) (alone (AdderNotAsRead n) b (first_broken (use_rules xs source (n + 1) ys)) h).0 ∙ ap (is_read 1 xs source) (let p : n ≡ n + 0 = omega arith in p)
  use_each n (y ∷ ys) h (suc k) l =
      let b = beq (is_some y) (is_read 1 xs source n) in
      use_each (n + 1) ys (alone (AdderNotAsRead n) b (first_broken (use_rules xs source (n + 1) ys)) h).1 k (omega arith) ∙ ap (is_read 1 xs source) (let p : n + 1 + k ≡ n + suc k = omega arith in p)

  use_all : (n : ℕ) (ys : Slots) → ((k : ℕ) → k < length ys → beq (is_some (get_or ys k None)) (is_read 1 xs source (n + k)) ≡ true) → first_broken (use_rules xs source n ys) ≡ None
  use_all n [] f = refl
  use_all n (y ∷ ys) f =
      ap (λ b. cond b (first_broken (use_rules xs source (n + 1) ys)) (Some (AdderNotAsRead n)))
      (ap (λ i. beq (is_some y) (is_read 1 xs source i)) (let p : n ≡ n + 0 = omega arith in p) ∙ f 0 (omega arith))
      ∙ use_all (n + 1) ys (λ k l. ap (λ i. beq (is_some (get_or ys k None)) (is_read 1 xs source i)) (let p : n + 1 + k ≡ n + suc k = omega arith in p) ∙ f (suc k) (omega arith))

-- The output.

output_keeps : (n : ℕ) (out : Operand) → first_broken (reading_rules n 0 out) ≡ None → out.source < n
output_keeps n out h = grind (arith, nat_tests)

output_wired : (n : ℕ) (out : Operand) → out.source < n → out.shift ≤ 30 → first_broken (reading_rules n 0 out) ≡ None
output_wired n out p q = grind (arith, nat_tests)

range_keeps : (v s : ℕ) → first_broken (output_rules v s) ≡ None → (s ≤ 30) × InRange (v * 2 ^ s)
range_keeps v s h = (grind (arith, nat_tests), (grind (arith, nat_tests), grind (arith, nat_tests)))

range_from : (v s : ℕ) → s ≤ 30 → InRange (v * 2 ^ s) → first_broken (output_rules v s) ≡ None
range_from v s p q = grind (arith, nat_tests)

-- All rules.

module _ (xs : Slots) (out : Operand) where
  pub keeps_from : first_broken (row_rules xs out) ≡ None → KeepsRow xs out
  keeps_from h =
      let uses = use_rules xs out.source 1 xs in
      let ranges = output_rules (value xs out.source) out.shift in
      let a = whole_parts (wiring_from 1 xs) (output_wiring xs out ++ (uses ++ (rules_from sample xs ++ ranges))) h in
      let b = whole_parts (output_wiring xs out) (uses ++ (rules_from sample xs ++ ranges)) a.1 in
      let c = whole_parts uses (rules_from sample xs ++ ranges) b.1 in
      let d = whole_parts (rules_from sample xs) ranges c.1 in
      let sound = (sounds.say xs).0 d.0 in
      let low = sound_lower xs sound in
      let o = range_keeps (value xs out.source) out.shift d.1 in
      let reach : (k : ℕ) → k < length xs → is_some (get_or xs k None) ≡ is_read 1 xs out.source (suc k) =
      λ k l. use_each xs out.source 1 xs c.0 k l ∙ ap (is_read 1 xs out.source) (let p : 1 + k ≡ suc k = omega arith in p) in
      record {
        adders = sound;
        source = omega (arith, output_keeps (suc (length xs)) out b.0);
        shift = o.0;
        range = o.1;
        read = λ k l u. (tests_reading xs out.source (suc k) low).0 (sym (reach k l) ∙ u);
        filled = λ k l r. reach k l ∙ (tests_reading xs out.source (suc k) low).1 r;
      }

  pub rules_from_keeps : KeepsRow xs out → first_broken (row_rules xs out) ≡ None
  rules_from_keeps k =
      let uses = use_rules xs out.source 1 xs in
      let ranges = output_rules (value xs out.source) out.shift in
      let low = sound_lower xs k.adders in
      whole_from (wiring_from 1 xs) (output_wiring xs out ++ (uses ++ (rules_from sample xs ++ ranges))) (sound_wired xs k.adders)
      (whole_from (output_wiring xs out) (uses ++ (rules_from sample xs ++ ranges)) (output_wired (suc (length xs)) out (omega (arith, k.source)) k.shift)
      (whole_from uses (rules_from sample xs ++ ranges)
      (use_all xs out.source 1 xs (λ i l.
      ap (λ j. beq (is_some (get_or xs i None)) (is_read 1 xs out.source j)) (let p : 1 + i ≡ suc i = omega arith in p)
      ∙ same_from (is_some (get_or xs i None)) (is_read 1 xs out.source (suc i))
      (λ u. (tests_reading xs out.source (suc i) low).1 (k.read i l u))
      (λ t. k.filled i l ((tests_reading xs out.source (suc i) low).0 t))))
      (whole_from (rules_from sample xs) ranges ((sounds.say xs).1 k.adders) (range_from (value xs out.source) out.shift k.shift k.range))))

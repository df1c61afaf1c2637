-- A row whose sources and shifts are fine breaks a rule of use or of range alone, and at an adder of its block.
use Rattle.std.proofs.Common.{◌≡◌, ℕ, suc, ◌+◌, ◌*◌, ◌^◌, ◌≤◌, ◌&&◌, ◌⊎◌, inl, inr, Bool, true, false, cond, eqb, List, [], ◌∷◌, ◌++◌, length, get_or, is_some, Some, None, Option, refl, sym, ◌∙◌, subst, ⊎_elim, arith}
use Rattle.std.specs.Prelude.{nat_lt}
use Rattle.std.specs.Bool.{beq}
use Rattle.std.proofs.lemmas.List.{length-append}
use Rattle.std.proofs.lemmas.Bool.{eqb-true, and_parts, or_cases, false≢true}
use Rattle.adders.specs.declared.wiring.Adder.{Adder}
use Rattle.adders.specs.declared.wiring.Operand.{Operand}
use Rattle.adders.specs.declared.refusals.Refusal.{Refusal}
use Rattle.adders.specs.declared.refusals.Refusal.TheVariants.{SourceNotLower, ValueOutOfRange, AdderNotAsRead}
use Rattle.adders.specs.Values.{Slots, operand_value, adder_value, slot_value, sample, value}
use Rattle.adders.specs.Rules.{Rule, rule, first_broken, in_range, shift_rule, operand_rules, slot_rules, rules_from, output_rules}
use Rattle.adders.proofs.Broken.{otherwise, broken_append, broken_rest, some_none, whole_parts}
use Rattle.rows.specs.Reading.{slot_reads, is_read}
use Rattle.rows.specs.Rules.{slot_wiring, wiring_from, output_wiring, use_rules, row_rules}
use Rattle.texts.proofs.Takes.{some_is}

-- the rule that is broken is among the first or among the others
broken_in : (rs ss : List Rule) (e : Refusal) → first_broken (rs ++ ss) ≡ Some e → (first_broken rs ≡ Some e) ⊎ (first_broken ss ≡ Some e)
broken_in rs ss e h = by (first_broken rs) (sym (broken_append rs ss) ∙ h)
  where
    by : (o : Option Refusal) → otherwise o (first_broken ss) ≡ Some e → (o ≡ Some e) ⊎ (first_broken ss ≡ Some e)
    by None k = inr k
    by (Some r) k = inl k

-- a rule by itself
only_one : (b : Bool) (r e : Refusal) → cond b None (Some r) ≡ Some e → e ≡ r
only_one true r e h = absurd (some_none (sym h))
only_one false r e h = sym (some_is r e h)

-- A row of a block with so many adders uses no other, and reads no other.

-- the slots from adder n on: an adder among them is one of the block's, and reads none past it
pub record InBlock (a n : ℕ) (ys : Slots) : Type 0 where
  pub number : (k : ℕ) (x : Adder) → get_or ys k None ≡ Some x → n + k ≤ a
  pub left : (k : ℕ) (x : Adder) → get_or ys k None ≡ Some x → x.left.source ≤ a
  pub right : (k : ℕ) (x : Adder) → get_or ys k None ≡ Some x → x.right.source ≤ a

later_in : (a n : ℕ) (y : Option Adder) (ys : Slots) → InBlock a n (y ∷ ys) → InBlock a (n + 1) ys
later_in a n y ys h = record {
  number = λ k x g. let l = h.number (suc k) x g in omega (arith, l);
  left = λ k x g. h.left (suc k) x g;
  right = λ k x g. h.right (suc k) x g;
}

slot_low : (a n : ℕ) (y : Option Adder) (ys : Slots) (j : ℕ) → InBlock a n (y ∷ ys) → slot_reads j y ≡ true → j ≤ a
slot_low a n None ys j h t = absurd (false≢true t)
slot_low a n (Some x) ys j h t =
    ⊎_elim {C = j ≤ a}
    (λ e. let same = eqb-true x.left.source j e in let low = h.left 0 x refl in omega (arith, same, low))
    (λ e. let same = eqb-true x.right.source j e in let low = h.right 0 x refl in omega (arith, same, low))
    (or_cases (eqb x.left.source j) (eqb x.right.source j) t)

-- what is read is the block's
read_low : (a source j n : ℕ) (ys : Slots) → source ≤ a → InBlock a n ys → is_read n ys source j ≡ true → j ≤ a
read_low a source j n [] l h t = let same = eqb-true source j t in omega (arith, same)
read_low a source j n (y ∷ ys) l h t =
    ⊎_elim {C = j ≤ a}
    (λ e. read_low a source j (n + 1) ys l (later_in a n y ys h) e)
    (λ e. slot_low a n y ys j h (and_parts (is_read (n + 1) ys source n) (slot_reads j y) e).1)
    (or_cases (is_read (n + 1) ys source j) (is_read (n + 1) ys source n && slot_reads j y) t)

-- an adder that is broken, and is the block's
abbrev pub AnyUnread : ℕ → Refusal → Type 0
AnyUnread a e = (j : ℕ) × (e ≡ AdderNotAsRead j) × (1 ≤ j) × (j ≤ a)

abbrev pub AnyOut : ℕ → Refusal → Type 0
AnyOut a e = (j : ℕ) × (e ≡ ValueOutOfRange j) × (j ≤ a)

not_used : (b : Bool) → beq false b ≡ false → b ≡ true
not_used true h = refl
not_used false h = absurd (false≢true (sym h))

-- Use.
in_use : (a : ℕ) (xs : Slots) (source n : ℕ) (ys : Slots) (e : Refusal) → 1 ≤ n → InBlock a n ys → ((j : ℕ) → is_read 1 xs source j ≡ true → j ≤ a) → first_broken (use_rules xs source n ys) ≡ Some e → AnyUnread a e
in_use a xs source n [] e some h low broken = absurd (some_none (sym broken))
in_use a xs source n (y ∷ ys) e some h low broken = by (beq (is_some y) (is_read 1 xs source n)) refl broken (in_use a xs source (n + 1) ys e (omega arith) (later_in a n y ys h) low)
  where
    here : (y : Option Adder) → InBlock a n (y ∷ ys) → beq (is_some y) (is_read 1 xs source n) ≡ false → n ≤ a
    here None h t = low n (not_used (is_read 1 xs source n) t)
    here (Some x) h t = let l = h.number 0 x refl in omega (arith, l)

    by : (b : Bool) → beq (is_some y) (is_read 1 xs source n) ≡ b → cond b (first_broken (use_rules xs source (n + 1) ys)) (Some (AdderNotAsRead n)) ≡ Some e → (first_broken (use_rules xs source (n + 1) ys) ≡ Some e → AnyUnread a e) → AnyUnread a e
    by true t k later = later k
    by false t k later = (n, sym (some_is (AdderNotAsRead n) e k), some, here y h t)

-- The ranges of the adders, where their sources and shifts are fine.
in_slot : (vs : List ℕ) (x : Option Adder) (e : Refusal) → first_broken (slot_wiring (length vs) x) ≡ None → first_broken (slot_rules vs x) ≡ Some e → (e ≡ ValueOutOfRange (length vs)) × ((y : Adder) × (x ≡ Some y))
in_slot vs None e wired h = absurd (some_none (sym h))
in_slot vs (Some a) e wired h =
    let fits = in_range (operand_value vs a.left) && (in_range (operand_value vs a.right) && in_range (adder_value vs a)) in
    let last = rule fits (ValueOutOfRange (length vs)) ∷ [] in
    let sides = whole_parts (operand_rules vs a.left) (operand_rules vs a.right) wired in (
      only_one fits (ValueOutOfRange (length vs)) e
          (sym (broken_rest (operand_rules vs a.right) last sides.1) ∙ (sym (broken_rest (operand_rules vs a.left) (operand_rules vs a.right ++ last) sides.0) ∙ h)),
      (a, refl),
    )

in_adders : (a : ℕ) (vs : List ℕ) (xs : Slots) (e : Refusal) → InBlock a (length vs) xs → first_broken (wiring_from (length vs) xs) ≡ None → first_broken (rules_from vs xs) ≡ Some e → AnyOut a e
in_adders a vs [] e there wired h = absurd (some_none (sym h))
in_adders a vs (x ∷ xs) e there wired h =
    let grown = vs ++ slot_value vs x ∷ [] in
    let parts = whole_parts (slot_wiring (length vs) x) (wiring_from (length vs + 1) xs) wired in
    let n : length vs + 1 ≡ length grown = omega (arith, length-append vs (slot_value vs x ∷ [])) in
    ⊎_elim {C = AnyOut a e}
    (λ own. let s = in_slot vs x e parts.0 own in let l = there.number 0 s.1.0 s.1.1 in (length vs, s.0, omega (arith, l)))
    (λ later. in_adders a grown xs e (subst (λ m. InBlock a m xs) n (later_in a (length vs) x xs there)) (subst (λ m. first_broken (wiring_from m xs) ≡ None) n parts.1) later)
    (broken_in (slot_rules vs x) (rules_from grown xs) e h)

-- The range of the output, where its shift is fine.
in_output : (xs : Slots) (v : ℕ) (out : Operand) (e : Refusal) → first_broken (output_wiring xs out) ≡ None → first_broken (output_rules v out.shift) ≡ Some e → e ≡ ValueOutOfRange 0
in_output xs v out e wired h =
    let source = rule (nat_lt out.source (suc (length xs))) (SourceNotLower 0) ∷ [] in
    let shift = shift_rule out.shift 0 ∷ [] in
    let fits = in_range (v * 2 ^ out.shift) in
    only_one fits (ValueOutOfRange 0) e (sym (broken_rest shift (rule fits (ValueOutOfRange 0) ∷ []) (whole_parts source shift wired).1) ∙ h)

module _ (a : ℕ) (xs : Slots) (out : Operand) (e : Refusal) (there : InBlock a 1 xs) where
  -- past the use of adders
  in_ranges : first_broken (wiring_from 1 xs) ≡ None → first_broken (output_wiring xs out) ≡ None → first_broken (rules_from sample xs ++ output_rules (value xs out.source) out.shift) ≡ Some e → AnyOut a e
  in_ranges wired fine h =
      let last = output_rules (value xs out.source) out.shift in
      ⊎_elim {C = AnyOut a e} (λ adders. in_adders a sample xs e there wired adders) (λ output. (0, in_output xs (value xs out.source) out e fine output, omega arith)) (broken_in (rules_from sample xs) last e h)

  pub use_or_range : out.source ≤ a → first_broken (wiring_from 1 xs) ≡ None → first_broken (output_wiring xs out) ≡ None → first_broken (row_rules xs out) ≡ Some e → AnyUnread a e ⊎ AnyOut a e
  use_or_range low wired fine h =
      let uses = use_rules xs out.source 1 xs in
      let ranges = rules_from sample xs ++ output_rules (value xs out.source) out.shift in
      let later = sym (broken_rest (output_wiring xs out) (uses ++ ranges) fine) ∙ (sym (broken_rest (wiring_from 1 xs) (output_wiring xs out ++ (uses ++ ranges)) wired) ∙ h) in
      ⊎_elim {C = AnyUnread a e ⊎ AnyOut a e}
      (λ own. inl (in_use a xs out.source 1 xs e (omega arith) there (λ j t. read_low a out.source j 1 xs low there t) own))
      (λ range. inr (in_ranges wired fine range))
      (broken_in uses ranges e later)

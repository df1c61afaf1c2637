-- A move is accepted exactly if there is a row with the shifts that it makes.
use Rattle.std.proofs.Common.{◌≡◌, ℕ, suc, ◌+◌, ◌-◌, ◌*◌, ◌^◌, ◌<◌, ◌≤◌, ◌&&◌, Bool, true, false, cond, ℤ, pos, negsuc, ◌≤ℤ◌, [], ◌∷◌, ◌++◌, get_or, is_some, is_ok, Some, None, Ok, Err, Option, Result, Decides, sym, refl, ap, ◌∙◌, subst, arith}
use Rattle.std.specs.Prelude.{nat_abs, int_le}
use Rattle.std.proofs.lemmas.Int.{ints}
use Rattle.std.proofs.lemmas.Bool.{false≢true}
use Rattle.std.proofs.lemmas.Bool.Decides.{nat_tests}
use Rattle.adders.specs.declared.wiring.Adder.{Adder}
use Rattle.adders.specs.declared.wiring.Operand.{Operand}
use Rattle.adders.specs.declared.refusals.Refusal.{Refusal}
use Rattle.adders.specs.declared.refusals.Refusal.TheVariants.{AdderUnused, AmountOutOfRange, ShiftOutOfRange, ValueOutOfRange}
use Rattle.adders.specs.Values.{Slots, value}
use Rattle.adders.specs.Rules.{first_broken, InRange, in_range, Changed}
use Rattle.adders.proofs.Places.{same_list}
use Rattle.adders.proofs.Broken.{some_none, whole_parts, whole_from}
use Rattle.moves.specs.Moves.{amount_rules, new_shift, operand_shift_rules, slot_shift_rules, shift_rules_from, moved_operand, moved_adder, moved_slot, moved_from}
use Rattle.moves.proofs.Scales.{both_hold, at_slot, rules_of, fits, length_moved}
use Rattle.rows.specs.declared.model.Row.{Row}
use Rattle.rows.specs.Rows.{adder_at}
use Rattle.rows.specs.Moving.{range_rules, limit_rules, move_rules, MovedRow, OperandShifted, AdderShifted, SlotShifted, RowShifted, Movable}
use Rattle.rows.proofs.Answering.{row_keeps, there}
use Rattle.rows.proofs.Moving.{stays}
use Rattle.rows.proofs.Causes.{Limits, limits, used_then}

in_ranges : (v w : ℕ) (e : Refusal) → InRange v → InRange w → cond (in_range v && in_range w) None (Some e) ≡ None
in_ranges v w e p q = grind (arith, nat_tests)

module _ (a : ℕ) (z : ℤ) where
  -- From the row after to the rules.

  shift_held : (j : ℕ) (o p : Operand) → OperandShifted a z j o p → p.shift ≤ 30 → first_broken (operand_shift_rules a z j o) ≡ None
  shift_held j o p s h = by (new_shift a z j o) (sym s.shift)
    where
      by : (n : ℤ) → n ≡ pos p.shift → cond (int_le (pos 0) n && int_le n (pos 30)) None (Some (ShiftOutOfRange j)) ≡ None
      by (pos n) e = let small : n ≤ 30 = omega (arith, ints) in grind (arith, nat_tests)
      by (negsuc n) e = absurd (omega (arith, ints))

  adder_held : (j : ℕ) (x y : Adder) → AdderShifted a z j x y → y.left.shift ≤ 30 → y.right.shift ≤ 30 → first_broken (slot_shift_rules a z j (Some x)) ≡ None
  adder_held j x y s l r = whole_from (operand_shift_rules a z j x.left) (operand_shift_rules a z j x.right) (shift_held j x.left y.left s.left l) (shift_held j x.right y.right s.right r)

  slot_held : (after : Row) (j k : ℕ) (o p : Option Adder) → get_or after.slots k None ≡ p → SlotShifted a z j o p → first_broken (slot_shift_rules a z j o) ≡ None
  slot_held after j k None p e s = refl
  slot_held after j k (Some x) None e s = absurd s
  slot_held after j k (Some x) (Some y) e s = let t = (row_keeps after).adders k y e in adder_held j x y s t.left.shift t.right.shift

  rules_all : (j : ℕ) (xs : Slots) → ((k : ℕ) → first_broken (slot_shift_rules a z (j + k) (get_or xs k None)) ≡ None) → first_broken (shift_rules_from a z j xs) ≡ None
  rules_all j [] f = refl
  rules_all j (x ∷ xs) f =
      whole_from (slot_shift_rules a z j x) (shift_rules_from a z (j + 1) xs)
      (subst (λ n. first_broken (slot_shift_rules a z n x) ≡ None) (let p : j + 0 ≡ j = omega arith in p) (f 0))
      (rules_all (j + 1) xs (λ k. subst (λ n. first_broken (slot_shift_rules a z n (get_or xs k None)) ≡ None) (let p : j + suc k ≡ j + 1 + k = omega arith in p) (f (suc k))))

  -- the row after is the one that the move makes
  operand_is : (j : ℕ) (o p : Operand) → OperandShifted a z j o p → p ≡ moved_operand a z j o
  operand_is j o p s = (λ i. record { source = s.source i; shift = nat_abs (s.shift i) })

  slot_is : (j : ℕ) (o p : Option Adder) → SlotShifted a z j o p → p ≡ moved_slot a z j o
  slot_is j None None s = refl
  slot_is j None (Some y) s = absurd s
  slot_is j (Some x) None s = absurd s
  slot_is j (Some x) (Some y) s = (λ i. Some (record { left = operand_is j x.left y.left s.left i; sign = s.sign i; right = operand_is j x.right y.right s.right i }))

  rows_is : (r after : Row) → RowShifted r a z after → after.slots ≡ moved_from a z 1 r.slots
  rows_is r after s =
      same_list None after.slots (moved_from a z 1 r.slots) (after.room ∙ sym (length_moved a z 1 r.slots ∙ r.room)) (λ k h.
      slot_is (suc k) (get_or r.slots k None) (get_or after.slots k None) (s.slots k) ∙ sym (at_slot a z r.slots k))

module _ (r : Row) (a : ℕ) (z : ℤ) (m : Movable r a z) where
  own_held : first_broken (slot_shift_rules a z a (adder_at r a)) ≡ None
  own_held = by (adder_at r a) refl
    where
      by : (o : Option Adder) → adder_at r a ≡ o → first_broken (slot_shift_rules a z a o) ≡ None
      by None e = refl
      by (Some x) e =
          let t = there r a x e in
          let up : suc (a - 1) ≡ a = omega (arith, t.low) in
          subst (λ j. first_broken (slot_shift_rules a z j (Some x)) ≡ None) up
          (slot_held a z m.after (suc (a - 1)) (a - 1) (Some x) (get_or m.after.slots (a - 1) None) refl (subst (λ o. SlotShifted a z (suc (a - 1)) o (get_or m.after.slots (a - 1) None)) t.slot (m.shifted.slots (a - 1))))

  readers_held : first_broken (shift_rules_from a z 1 r.slots) ≡ None
  readers_held =
      rules_all a z 1 r.slots (λ k.
      subst (λ j. first_broken (slot_shift_rules a z j (get_or r.slots k None)) ≡ None) (let p : suc k ≡ 1 + k = omega arith in p)
      (slot_held a z m.after (suc k) k (get_or r.slots k None) (get_or m.after.slots k None) refl (m.shifted.slots k)))

  output_held : first_broken (operand_shift_rules a z 0 r.output) ≡ None
  output_held = shift_held a z 0 r.output m.after.output m.shifted.output (row_keeps m.after).shift

  ranges_held : first_broken (range_rules r.slots a z (adder_at r a)) ≡ None
  ranges_held = by (adder_at r a) refl
    where
      by : (o : Option Adder) → adder_at r a ≡ o → first_broken (range_rules r.slots a z o) ≡ None
      by None e = refl
      by (Some x) e =
          let t = there r a x e in
          let up : suc (a - 1) ≡ a = omega (arith, t.low) in
          let is = rows_is a z r m.after m.shifted in
          let then : get_or m.after.slots (a - 1) None ≡ Some (moved_adder a z a x) =
          ap (λ ys. get_or ys (a - 1) None) is ∙ at_slot a z r.slots (a - 1) ∙ (λ i. moved_slot a z (up i) (t.slot i)) in
          let s = (row_keeps m.after).adders (a - 1) (moved_adder a z a x) then in
          let same : (o : ℕ) → o < a → value m.after.slots o ≡ value r.slots o =
          λ o h. ap (λ ys. value ys o) is ∙ stays r.slots r.output a z (row_keeps r) t.low readers_held output_held o (omega arith) (let room = r.room in let high = t.high in omega arith) in
          in_ranges _ _ (ValueOutOfRange a)
          (subst (λ v. InRange (v * 2 ^ (moved_operand a z a x.left).shift)) (same x.left.source (omega (arith, s.left.lower, t.low))) s.left.range)
          (subst (λ v. InRange (v * 2 ^ (moved_operand a z a x.right).shift)) (same x.right.source (omega (arith, s.right.lower, t.low))) s.right.range)

  limits_held : first_broken (limit_rules r a z) ≡ None
  limits_held =
      whole_from (slot_shift_rules a z a (adder_at r a)) _ own_held
      (whole_from (shift_rules_from a z 1 r.slots) _ readers_held
      (whole_from (operand_shift_rules a z 0 r.output) (range_rules r.slots a z (adder_at r a)) output_held ranges_held))

-- From the rules to the row after.
module _ (r after : Row) (a : ℕ) (z : ℤ) (h : first_broken (limit_rules r a z) ≡ None) (moved : MovedRow r a z after) where
  not_negative : (n : ℤ) → int_le (pos 0) n ≡ true → pos (nat_abs n) ≡ n
  not_negative (pos n) e = refl
  not_negative (negsuc n) e = absurd (false≢true e)

  operand_shifted : (j : ℕ) (o : Operand) → first_broken (operand_shift_rules a z j o) ≡ None → OperandShifted a z j o (moved_operand a z j o)
  operand_shifted j o e = record { source = refl; shift = not_negative (new_shift a z j o) (fits a z j o e).low }

  slot_shifted : (j : ℕ) (o : Option Adder) → first_broken (slot_shift_rules a z j o) ≡ None → SlotShifted a z j o (moved_slot a z j o)
  slot_shifted j None e = tt
  slot_shifted j (Some x) e =
      let parts = whole_parts (operand_shift_rules a z j x.left) (operand_shift_rules a z j x.right) e in
      record { left = operand_shifted j x.left parts.0; sign = refl; right = operand_shifted j x.right parts.1 }

  held : Limits r a z
  held = limits r a z h

  slot_rule : (k : ℕ) (o : Option Adder) → get_or r.slots k None ≡ o → first_broken (slot_shift_rules a z (suc k) o) ≡ None
  slot_rule k None e = refl
  slot_rule k (Some x) e = rules_of a z r.slots held.readers k x e

  row_shifted : RowShifted r a z after
  row_shifted = record {
    slots = λ k. subst (SlotShifted a z (suc k) (get_or r.slots k None)) (sym (ap (λ ys. get_or ys k None) moved.slots ∙ at_slot a z r.slots k)) (slot_shifted (suc k) (get_or r.slots k None) (slot_rule k (get_or r.slots k None) refl));
    output = subst (OperandShifted a z 0 r.output) (sym moved.output) (operand_shifted 0 r.output held.output);
  }

amount_held : (z : ℤ) → negsuc 29 ≤ℤ z → z ≤ℤ pos 30 → first_broken (amount_rules z) ≡ None
amount_held z l h = both (int_le (negsuc 29) z) (int_le z (pos 30)) refl refl
  where
    both : (b c : Bool) → int_le (negsuc 29) z ≡ b → int_le z (pos 30) ≡ c → cond (b && c) None (Some AmountOutOfRange) ≡ None
    both true true e f = refl
    both true false e f = absurd (omega (arith, ints))
    both false c e f = absurd (omega (arith, ints))

amount_bounds : (z : ℤ) → first_broken (amount_rules z) ≡ None → (negsuc 29 ≤ℤ z) × (z ≤ℤ pos 30)
amount_bounds z e =
    let both = both_hold (int_le (negsuc 29) z) (int_le z (pos 30)) AmountOutOfRange e in
    (omega (arith, ints, both.0), omega (arith, ints, both.1))

-- what is answered is told by the rules, and so by the row after
pub exactly_movable : (r : Row) (a : ℕ) (z : ℤ) (res : Result Unit Refusal) (after : Row) → Changed (move_rules r a z) r (λ _ row. MovedRow r a z row) res after → Decides (is_ok res) (Movable r a z)
exactly_movable r a z (Ok u) after s =
    let uses = used_then r a z (adder_at r a) s.0 in
    let parts = whole_parts (amount_rules z) (limit_rules r a z) uses.2 in
    let bounds = amount_bounds z parts.0 in
    (λ _. record { used = ap is_some uses.1; least = bounds.0; most = bounds.1; after = after; shifted = row_shifted r after a z parts.1 s.1 }, λ _. refl)
exactly_movable r a z (Err e) after s = (
  λ f. absurd (false≢true f),
  λ m.
      absurd (some_none (
      sym s.0
      ∙ ap (λ b. cond b (first_broken (amount_rules z ++ limit_rules r a z)) (Some AdderUnused)) m.used
      ∙ whole_from (amount_rules z) (limit_rules r a z) (amount_held z m.least m.most) (limits_held r a z m))),
)

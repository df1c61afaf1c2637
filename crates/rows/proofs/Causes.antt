-- The causes against a move, one stage after the other.
use Rattle.std.proofs.Common.{◌≡◌, ℕ, suc, ◌-◌, ◌*◌, ◌^◌, ◌<◌, ◌≤◌, ◌&&◌, Bool, true, false, cond, ℤ, List, [], ◌∷◌, ◌++◌, length, get_or, take, is_some, Some, None, Option, sym, refl, ap, ◌∙◌, subst, arith}
use Rattle.std.proofs.lemmas.List.{get_or-take, length-take-le}
use Rattle.std.proofs.lemmas.Bool.Decides.{nat_tests}
use Rattle.adders.specs.declared.wiring.Adder.{Adder}
use Rattle.adders.specs.declared.wiring.Operand.{Operand}
use Rattle.adders.specs.declared.refusals.Refusal.{Refusal}
use Rattle.adders.specs.declared.refusals.Refusal.TheVariants.{AdderUnused, ValueOutOfRange}
use Rattle.adders.specs.Values.{Slots, operand_value, adder_value, combined, values_from, sample, value}
use Rattle.adders.specs.Rules.{Rule, rule, first_broken, in_range, InRange, operand_rules, adder_rules}
use Rattle.adders.proofs.Broken.{some_none, broken_first, broken_rest, whole_parts}
use Rattle.adders.proofs.Follow.{follow, within, length_values}
use Rattle.moves.specs.Moves.{amount_rules, operand_shift_rules, slot_shift_rules, shift_rules_from, moved_operand, moved_adder, moved_slot, moved_from}
use Rattle.moves.specs.Scaling.{ValuesMove}
use Rattle.moves.proofs.Scales.{Fits, adder_fits, at_slot, length_moved, moving_scales}
use Rattle.rows.specs.declared.model.Row.{Row}
use Rattle.rows.specs.Rules.{row_constant, row_rules, KeepsRow}
use Rattle.rows.specs.Rows.{adder_at, constant_of}
use Rattle.rows.specs.Moving.{value_after, range_rules, limit_rules, move_rules, MovedRow}
use Rattle.rows.proofs.Moving.{stays, constant_stays, moved_range, keeps_moved}
use Rattle.rows.proofs.Answering.{row_keeps, there}
use Rattle.rows.proofs.Keeping.{rules_from_keeps}

-- Which cause is met, where those before it are not.
module _ (r : Row) (a : ℕ) (z : ℤ) (x : Adder) (used : adder_at r a ≡ Some x) where
  abbrev ranges : List Rule
  ranges = range_rules r.slots a z (adder_at r a)

  abbrev from_output : List Rule
  from_output = operand_shift_rules a z 0 r.output ++ ranges

  abbrev from_readers : List Rule
  from_readers = shift_rules_from a z 1 r.slots ++ from_output

  -- the number of the adder, as the code has it
  module _ (n : ℕ) (is : n ≡ a) (own : first_broken (slot_shift_rules a z n (Some x)) ≡ None) where
    past_own : first_broken (limit_rules r a z) ≡ first_broken from_readers
    past_own = broken_rest (slot_shift_rules a z a (adder_at r a)) from_readers (subst (λ o. first_broken (slot_shift_rules a z a o) ≡ None) (sym used) (subst (λ i. first_broken (slot_shift_rules a z i (Some x)) ≡ None) is own))

    pub by_reader : (e : Refusal) → first_broken (shift_rules_from a z 1 r.slots) ≡ Some e → first_broken (limit_rules r a z) ≡ Some e
    by_reader e h = past_own ∙ broken_first (shift_rules_from a z 1 r.slots) from_output e h

    module _ (whole : first_broken (shift_rules_from a z 1 r.slots) ≡ None) where
      past_readers : first_broken (limit_rules r a z) ≡ first_broken from_output
      past_readers = past_own ∙ broken_rest (shift_rules_from a z 1 r.slots) from_output whole

      pub by_output : (e : Refusal) → first_broken (operand_shift_rules a z 0 r.output) ≡ Some e → first_broken (limit_rules r a z) ≡ Some e
      by_output e h = past_readers ∙ broken_first (operand_shift_rules a z 0 r.output) ranges e h

      pub by_range : first_broken (operand_shift_rules a z 0 r.output) ≡ None → first_broken (limit_rules r a z) ≡ first_broken (range_rules r.slots a z (Some x))
      by_range last = past_readers ∙ broken_rest (operand_shift_rules a z 0 r.output) ranges last ∙ ap (λ o. first_broken (range_rules r.slots a z o)) used

in_range_from : (v : ℕ) → InRange v → in_range v ≡ true
in_range_from v h = grind (arith, nat_tests)

and_true : (b : Bool) → (b && true) ≡ b
and_true true = refl
and_true false = refl

-- The moved adder's rules, over the values before the move of the sources below it.
module _ (xs : Slots) (out : Operand) (a : ℕ) (z : ℤ) (keeps : KeepsRow xs out) (one : 1 ≤ a) (whole : first_broken (shift_rules_from a z 1 xs) ≡ None) (last : first_broken (operand_shift_rules a z 0 out) ≡ None) (p : ℕ) (suc_p : suc p ≡ a) (x : Adder) (there : get_or xs p None ≡ Some x) where
  abbrev vs : List ℕ
  vs = take a (values_from sample xs)

  abbrev y : Adder
  y = moved_adder a z a x

  pub count : length vs ≡ a
  count = let h = within xs p x there in let l = length_values sample xs in length-take-le a (values_from sample xs) (omega arith)

  source : (s : ℕ) → s < a → get_or vs s 0 ≡ value xs s
  source s h = get_or-take a (values_from sample xs) s 0 h

  fits_own : Fits a z a x.left × Fits a z a x.right
  fits_own = subst (λ j. Fits a z j x.left × Fits a z j x.right) suc_p (adder_fits a z xs keeps.adders one whole p x there)

  made : adder_value vs y ≡ value (moved_from a z 1 xs) a
  made =
      let s = keeps.adders p x there in
      let h = within xs p x there in
      let ys = moved_from a z 1 xs in
      let there' : get_or ys p None ≡ Some (moved_adder a z a x) = at_slot a z xs p ∙ (λ i. moved_slot a z (suc_p i) (there i)) in
      let l = stays xs out a z keeps one whole last x.left.source (omega (arith, s.left.lower)) (omega (arith, s.left.lower)) in
      let m = stays xs out a z keeps one whole last x.right.source (omega (arith, s.right.lower)) (omega (arith, s.right.lower)) in
      (λ i. combined x.sign ((source x.left.source (omega (arith, s.left.lower)) ∙ sym l) i * 2 ^ (moved_operand a z a x.left).shift) ((source x.right.source (omega (arith, s.right.lower)) ∙ sym m) i * 2 ^ (moved_operand a z a x.right).shift))
      ∙ sym (follow.adder_is ys p (moved_adder a z a x) there' (omega (arith, s.left.lower)) (omega (arith, s.right.lower)))
      ∙ ap (value ys) suc_p

  abbrev own_range : List Rule
  own_range = rule (in_range (operand_value vs y.left) && (in_range (operand_value vs y.right) && in_range (adder_value vs y))) (ValueOutOfRange (length vs)) ∷ []

  pub range_told : first_broken (adder_rules vs y) ≡ first_broken (range_rules xs a z (Some x))
  range_told =
      let s = keeps.adders p x there in
      let n = count in
      let l = source x.left.source (omega (arith, s.left.lower)) in
      let m = source x.right.source (omega (arith, s.right.lower)) in
      let f = fits_own in
      let kept = subst InRange (sym made) (moved_range xs out a z keeps one whole last p suc_p x there) in
      broken_rest (operand_rules vs y.left) (operand_rules vs y.right ++ own_range) (wired (moved_operand a z a x.left) (omega (arith, s.left.lower)) f.0.high)
      ∙ broken_rest (operand_rules vs y.right) own_range (wired (moved_operand a z a x.right) (omega (arith, s.right.lower)) f.1.high)
      ∙ (λ i. cond (in_range (l i * 2 ^ (moved_operand a z a x.left).shift) && (in_range (m i * 2 ^ (moved_operand a z a x.right).shift) && in_range (adder_value vs (moved_adder a z a x)))) None (Some (ValueOutOfRange (n i))))
      ∙ ap (λ b. cond (in_range (value_after xs a z x.left) && (in_range (value_after xs a z x.right) && b)) None (Some (ValueOutOfRange a))) (in_range_from (adder_value vs (moved_adder a z a x)) kept)
      ∙ ap (λ b. cond (in_range (value_after xs a z x.left) && b) None (Some (ValueOutOfRange a))) (and_true (in_range (value_after xs a z x.right)))
    where
      wired : (o : Operand) → o.source < length vs → o.shift ≤ 30 → first_broken (operand_rules vs o) ≡ None
      wired o p q = grind (arith, nat_tests)

-- A row and an adder that it uses, where every shift stays in its range.
module _ (r : Row) (a : ℕ) (z : ℤ) (x : Adder) (used : adder_at r a ≡ Some x) (n : ℕ) (is : n ≡ a) (own : first_broken (slot_shift_rules a z n (Some x)) ≡ None) (whole : first_broken (shift_rules_from a z 1 r.slots) ≡ None) (last : first_broken (operand_shift_rules a z 0 r.output) ≡ None) where
  up_one : suc (a - 1) ≡ a
  up_one = let low = (there r a x used).low in omega arith

  -- what is left to be tested is the moved adder by the rules of an adder
  pub by_adder : (ws : List ℕ) (y : Adder) → ws ≡ values_from sample r.slots → y ≡ moved_adder a z n x → first_broken (limit_rules r a z) ≡ first_broken (adder_rules (take n ws) y)
  by_adder ws y values moved =
      let t = there r a x used in
      by_range r a z x used n is own whole last
      ∙ sym (range_told r.slots r.output a z (row_keeps r) t.low whole last (a - 1) up_one x t.slot)
      ∙ (λ i. first_broken (adder_rules (take (sym is i) (sym values i)) (sym (moved ∙ ap (λ j. moved_adder a z j x) is) i)))

  -- where it keeps them, the row keeps its rules
  module _ (h : first_broken (limit_rules r a z) ≡ None) (slots : Slots) (output : Operand) (moved : slots ≡ moved_from a z 1 r.slots) (moved_out : output ≡ moved_operand a z 0 r.output) where
    keeps_after : KeepsRow slots output
    keeps_after =
        let t = there r a x used in
        let keeps = keeps_moved r.slots r.output a z (row_keeps r) t.low whole last (a - 1) up_one x t.slot (sym (by_range r a z x used n is own whole last) ∙ h) in
        subst (λ ys. KeepsRow ys output) (sym moved) (subst (KeepsRow (moved_from a z 1 r.slots)) (sym moved_out) keeps)

    pub room_after : length slots ≡ 8
    room_after = ap length moved ∙ length_moved a z 1 r.slots ∙ r.room

    pub lawful_after : is_some (first_broken (row_rules slots output)) ≡ false
    lawful_after = ap is_some (rules_from_keeps slots output keeps_after)

-- each of the limits by itself
pub record Limits (r : Row) (a : ℕ) (z : ℤ) : Type 0 where
  pub own : first_broken (slot_shift_rules a z a (adder_at r a)) ≡ None
  pub readers : first_broken (shift_rules_from a z 1 r.slots) ≡ None
  pub output : first_broken (operand_shift_rules a z 0 r.output) ≡ None
  pub ranges : first_broken (range_rules r.slots a z (adder_at r a)) ≡ None

pub limits : (r : Row) (a : ℕ) (z : ℤ) → first_broken (limit_rules r a z) ≡ None → Limits r a z
limits r a z h =
    let ranges = range_rules r.slots a z (adder_at r a) in
    let outputs = operand_shift_rules a z 0 r.output in
    let readers = shift_rules_from a z 1 r.slots in
    let first = whole_parts (slot_shift_rules a z a (adder_at r a)) (readers ++ (outputs ++ ranges)) h in
    let second = whole_parts readers (outputs ++ ranges) first.1 in
    let third = whole_parts outputs ranges second.1 in
    record { own = first.0; readers = second.0; output = third.0; ranges = third.1 }

pub used_then : (r : Row) (a : ℕ) (z : ℤ) (o : Option Adder) → cond (is_some o) (first_broken (amount_rules z ++ limit_rules r a z)) (Some AdderUnused) ≡ None → (x : Adder) × (o ≡ Some x) × (first_broken (amount_rules z ++ limit_rules r a z) ≡ None)
used_then r a z None e = absurd (some_none e)
used_then r a z (Some x) e = (x, refl, e)

-- What an accepted move leaves.
module _ (r after : Row) (a : ℕ) (z : ℤ) (h : first_broken (move_rules r a z) ≡ None) (moved : MovedRow r a z after) where
  low : 1 ≤ a
  low = let u = used_then r a z (adder_at r a) h in (there r a u.0 u.1).low

  held : Limits r a z
  held = limits r a z (whole_parts (amount_rules z) (limit_rules r a z) (used_then r a z (adder_at r a) h).2).1

  pub move_keeps_constant : constant_of after ≡ constant_of r
  move_keeps_constant =
      (λ i. row_constant (moved.slots i) (moved.output i))
      ∙ constant_stays r.slots r.output a z (row_keeps r) low held.readers held.output

  pub move_scales_value : ValuesMove a z r.slots after.slots
  move_scales_value = subst (ValuesMove a z r.slots) (sym moved.slots) (moving_scales a z r.slots low (row_keeps r).adders held.readers)

-- A row whose shifts were moved keeps every rule, and its constant.
use Rattle.std.proofs.Common.{◌≡◌, ℕ, zero, suc, ◌-◌, ◌*◌, ◌^◌, ◌<◌, ◌≤◌, Bool, true, false, cond, leb, ◌≢◌, ℤ, pos, length, get_or, is_some, Some, None, Option, sym, refl, ap, ◌∙◌, subst, inl, inr, ⊎_elim, mul-one, one-mul, mul-le-mul_right, arith}
use Rattle.std.proofs.Math.Nat.{mul-le-mul_left, zero-mul}
use Rattle.std.proofs.lemmas.Nat.{pow_pos}
use Rattle.std.proofs.lemmas.Bool.{cases_eq, ne_eqb}
use Rattle.std.proofs.lemmas.Bool.Decides.{nat_tests}
use Rattle.adders.specs.declared.wiring.Adder.{Adder}
use Rattle.adders.specs.declared.wiring.Operand.{Operand}
use Rattle.adders.specs.Values.{Slots, value}
use Rattle.adders.specs.Rules.{first_broken, InRange, SoundOperand, SoundAdder, Sound}
use Rattle.adders.proofs.Broken.{some_none}
use Rattle.adders.proofs.Follow.{within}
use Rattle.moves.specs.Moves.{rise, operand_shift_rules, shift_rules_from, moved_operand, moved_adder, moved_slot, moved_from}
use Rattle.moves.proofs.Scales.{up, down, Balanced, Fits, fits, operand_moved, at_slot, length_moved, adder_fits, balanced, moving_scales}
use Rattle.rows.specs.declared.model.Row.{Row}
use Rattle.rows.specs.Rows.{adder_at}
use Rattle.rows.specs.Reading.{HasSource, Reads, directly, through}
use Rattle.rows.specs.Rules.{row_constant, KeepsRow}
use Rattle.rows.specs.Moving.{value_after, range_rules, MovedRow}

-- a moved row uses the adders that it used
slot_used : (a : ℕ) (z : ℤ) (j : ℕ) (o : Option Adder) → is_some (moved_slot a z j o) ≡ is_some o
slot_used a z j None = refl
slot_used a z j (Some x) = refl

pub uses_kept : (r after : Row) (a : ℕ) (z : ℤ) → MovedRow r a z after → (j : ℕ) → is_some (adder_at after j) ≡ is_some (adder_at r j)
uses_kept r after a z moved j =
    ap (λ ys. is_some (cond (leb 1 j) (get_or ys (j - 1) None) None)) moved.slots
    ∙ ap (λ o. is_some (cond (leb 1 j) o None)) (at_slot a z r.slots (j - 1))
    ∙ under (leb 1 j)
  where
    under : (b : Bool) → is_some (cond b (moved_slot a z (suc (j - 1)) (get_or r.slots (j - 1) None)) None) ≡ is_some (cond b (get_or r.slots (j - 1) None) None)
    under true = slot_used a z (suc (j - 1)) (get_or r.slots (j - 1) None)
    under false = refl

positive : (z : ℤ) (v w : ℕ) → Balanced z v w → 1 ≤ v → 1 ≤ w
positive z v zero b h =
    let few : 0 ≡ v * 2 ^ up z = sym (zero-mul (2 ^ down z)) ∙ b in
    let many : 1 * 2 ^ up z ≤ v * 2 ^ up z = mul-le-mul_right (2 ^ up z) h in
    let some = pow_pos (up z) in
    absurd (let e = one-mul (2 ^ up z) in omega arith)
positive z v (suc w) b h = omega arith

-- a source is worth at most what an operand makes of it
below_shifted : (v s m : ℕ) → v * 2 ^ s ≤ m → v ≤ m
below_shifted v s m h =
    let some : v * 1 ≤ v * 2 ^ s = mul-le-mul_left v (pow_pos s) in
    let e = mul-one v in
    omega arith

module _ (xs : Slots) (out : Operand) (a : ℕ) (z : ℤ) (keeps : KeepsRow xs out) (one : 1 ≤ a) (whole : first_broken (shift_rules_from a z 1 xs) ≡ None) (last : first_broken (operand_shift_rules a z 0 out) ≡ None) where
  abbrev ys : Slots
  ys = moved_from a z 1 xs

  -- every value but that of the moved adder stays
  pub stays : (j : ℕ) → j ≢ a → j ≤ length xs → value ys j ≡ value xs j
  stays = (moving_scales a z xs one keeps.adders whole).others

  -- an operand of any other reader is worth what it was
  operand_stays : (j : ℕ) (o : Operand) → j ≢ a → Fits a z j o → o.source ≤ length xs → value ys o.source * 2 ^ (moved_operand a z j o).shift ≡ value xs o.source * 2 ^ o.shift
  operand_stays j o ne f le =
      let b = operand_moved a z j o (value xs o.source) (value ys o.source) f (balanced a z xs keeps.adders one whole o.source le) in
      sym (mul-one _) ∙ subst (λ t. value ys o.source * 2 ^ (moved_operand a z j o).shift * 2 ^ down (cond_rise t) ≡ value xs o.source * 2 ^ o.shift * 2 ^ up (cond_rise t)) (ne_eqb j a ne) b ∙ mul-one _
    where
      cond_rise : Bool → ℤ
      cond_rise t = cond t z (pos 0)

  pub constant_stays : row_constant ys (moved_operand a z 0 out) ≡ row_constant xs out
  constant_stays = operand_stays 0 out (omega arith) (fits a z 0 out last) keeps.source

  -- what the output reads it reads still, and nothing else
  reads_still : (j : ℕ) → Reads xs out.source j → Reads ys out.source j
  reads_still j directly = directly
  reads_still j (through {k = k} r e has) = through (reads_still (suc k) r) (at_slot a z xs k ∙ ap (moved_slot a z (suc k)) e) has

  record Came (k : ℕ) (y : Adder) : Type 0 where
    from : Adder
    there : get_or xs k None ≡ Some from
    moved : moved_adder a z (suc k) from ≡ y

  came : (k : ℕ) (y : Adder) (o : Option Adder) → get_or xs k None ≡ o → get_or ys k None ≡ Some y → Came k y
  came k y None e f = absurd (some_none (sym f ∙ at_slot a z xs k ∙ ap (moved_slot a z (suc k)) e))
  came k y (Some x) e f = let p = sym (at_slot a z xs k ∙ ap (moved_slot a z (suc k)) e) ∙ f in record { from = x; there = e; moved = cc }

  read_before : (j : ℕ) → Reads ys out.source j → Reads xs out.source j
  read_before j directly = directly
  read_before j (through {k = k} {a = y} r e has) = let c = came k y (get_or xs k None) refl e in through (read_before (suc k) r) c.there (subst (λ x. HasSource x j) (sym c.moved) has)

  used_same : (k : ℕ) → is_some (get_or ys k None) ≡ is_some (get_or xs k None)
  used_same k = ap is_some (at_slot a z xs k) ∙ slot_used a z (suc k) (get_or xs k None)

  -- the moved adder's value is bounded by what reads it
  bounded : (j : ℕ) → Reads xs out.source j → j ≡ a → value ys j ≤ 2147483647
  bounded j directly e = below_shifted (value ys out.source) (moved_operand a z 0 out).shift 2147483647 (omega (arith, constant_stays, keeps.range.1))
  bounded j (through {k = k} {a = x} r there has) e =
      let s = keeps.adders k x there in
      let f = adder_fits a z xs keeps.adders one whole k x there in
      let h = within xs k x there in
      by_operand has s f h
    where
      read_by : (o : Operand) → SoundOperand xs (suc k) o → Fits a z (suc k) o → k < length xs → o.source ≡ j → value ys j ≤ 2147483647
      read_by o s f h e' =
          let low = s.lower in
          let same = operand_stays (suc k) o (omega arith) f (omega arith) in
          subst (λ i. value ys i ≤ 2147483647) e' (below_shifted (value ys o.source) (moved_operand a z (suc k) o).shift 2147483647 (omega (arith, same, s.range.1)))

      by_operand : HasSource x j → SoundAdder xs (suc k) x → Fits a z (suc k) x.left × Fits a z (suc k) x.right → k < length xs → value ys j ≤ 2147483647
      by_operand (inl p) s f h = read_by x.left s.left f.0 h p
      by_operand (inr p) s f h = read_by x.right s.right f.1 h p

  module _ (p : ℕ) (suc_p : suc p ≡ a) (x : Adder) (there : get_or xs p None ≡ Some x) where
    -- the value of the moved adder stays in its range
    pub moved_range : InRange (value ys a)
    moved_range =
        let h = within xs p x there in
        let is = (keeps.adders p x there).range in (
          positive (rise a z a) (value xs a) (value ys a) (balanced a z xs keeps.adders one whole a (omega arith)) (subst (λ i. 1 ≤ value xs i) suc_p is.0),
          bounded a (subst (Reads xs out.source) suc_p (keeps.read p h (ap is_some there))) refl,
        )

    -- its operands too, where they are tested
    module _ (ranges : first_broken (range_rules xs a z (Some x)) ≡ None) where
      left_range : InRange (value_after xs a z x.left)
      left_range = grind (arith, nat_tests)

      right_range : InRange (value_after xs a z x.right)
      right_range = grind (arith, nat_tests)

      operand_sound : (k : ℕ) (o : Operand) → k < length xs → SoundOperand xs (suc k) o → Fits a z (suc k) o → (suc k ≡ a → InRange (value_after xs a z o)) → SoundOperand ys (suc k) (moved_operand a z (suc k) o)
      operand_sound k o h s f own =
          let low = s.lower in
          record {
            lower = s.lower;
            shift = f.high;
            range =
                ⊎_elim
                (λ e.
                let same = stays o.source (omega arith) (omega arith) in
                subst (λ v. InRange (v * 2 ^ (moved_operand a z (suc k) o).shift)) (sym same) (subst (λ j. InRange (value xs o.source * 2 ^ (moved_operand a z j o).shift)) (sym e) (own e)))
                (λ ne. subst InRange (sym (operand_stays (suc k) o ne f (omega arith))) s.range)
                (cases_eq (suc k) a);
          }

      -- the adder at place k is x where it is the moved one
      same_adder : (k : ℕ) (y : Adder) → get_or xs k None ≡ Some y → suc k ≡ a → y ≡ x
      same_adder k y e s =
          let same : k ≡ p = omega (arith, suc_p) in
          let q = sym e ∙ ap (λ i. get_or xs i None) same ∙ there in
          cc

      sound_at : (k : ℕ) (y : Adder) → get_or xs k None ≡ Some y → SoundAdder ys (suc k) (moved_adder a z (suc k) y)
      sound_at k y e =
          let h = within xs k y e in
          let s = keeps.adders k y e in
          let f = adder_fits a z xs keeps.adders one whole k y e in
          record {
            left = operand_sound k y.left h s.left f.0 (λ q. subst (λ w. InRange (value_after xs a z w.left)) (sym (same_adder k y e q)) left_range);
            right = operand_sound k y.right h s.right f.1 (λ q. subst (λ w. InRange (value_after xs a z w.right)) (sym (same_adder k y e q)) right_range);
            range = ⊎_elim (λ q. subst (λ j. InRange (value ys j)) (sym q) moved_range) (λ ne. subst InRange (sym (stays (suc k) ne (omega arith))) s.range) (cases_eq (suc k) a);
          }

      sound_moved : Sound ys
      sound_moved k y e = let c = came k y (get_or xs k None) refl e in subst (SoundAdder ys (suc k)) c.moved (sound_at k c.from c.there)

      pub keeps_moved : KeepsRow ys (moved_operand a z 0 out)
      keeps_moved =
          let long = length_moved a z 1 xs in
          record {
            adders = sound_moved;
            source = omega (arith, keeps.source, long);
            shift = (fits a z 0 out last).high;
            range = subst InRange (sym constant_stays) keeps.range;
            read = λ k h u. reads_still (suc k) (keeps.read k (omega (arith, long)) (sym (used_same k) ∙ u));
            filled = λ k h r. used_same k ∙ keeps.filled k (omega (arith, long)) (read_before (suc k) r);
          }

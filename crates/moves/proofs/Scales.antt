-- Values under a move.
use Rattle.std.proofs.Common.{◌≡◌, ℕ, zero, suc, ◌+◌, ◌-◌, ◌*◌, ◌^◌, ◌<◌, ◌≤◌, ◌/◌, Bool, true, false, cond, ◌&&◌, ℤ, pos, negsuc, ◌+ℤ◌, ◌-ℤ◌, [], ◌∷◌, length, get_or, Some, None, Option, sym, refl, ap, ◌∙◌, subst, mul_assoc, mul_comm, mul-one, pow-add, ⊎_elim, eq-or-lt_of_le, arith}
use Rattle.std.specs.Prelude.{nat_abs, int_le}
use Rattle.std.proofs.Math.Nat.{mul-div_cancel, add-mul, mul-sub, zero-mul}
use Rattle.std.proofs.lemmas.Nat.{pow_pos}
use Rattle.std.proofs.lemmas.Int.{ints}
use Rattle.std.proofs.lemmas.Bool.{eq-eqb, ne_eqb, false≢true}
use Rattle.adders.specs.declared.refusals.Refusal.{Refusal}
use Rattle.adders.specs.declared.wiring.Adder.{Adder}
use Rattle.adders.specs.declared.wiring.Operand.{Operand}
use Rattle.adders.specs.declared.wiring.Sign.{Sign}
use Rattle.adders.specs.declared.wiring.Sign.TheVariants.{Plus, Minus}
use Rattle.adders.specs.Values.{Slots, combined, slot_value, sample, value}
use Rattle.adders.specs.Rules.{first_broken, Sound}
use Rattle.adders.proofs.Broken.{some_none, whole_parts}
use Rattle.adders.proofs.Follow.{follow, value_at, within}
use Rattle.moves.specs.Moves.{rise, new_shift, operand_shift_rules, adder_shift_rules, slot_shift_rules, shift_rules_from, moved_operand, moved_adder, moved_slot, moved_from}
use Rattle.moves.specs.Scaling.{Scaled, MovingScales}

-- an amount as how far up and how far down, of which one is 0
abbrev pub up : ℤ → ℕ
up (pos n) = n
up (negsuc n) = 0

abbrev pub down : ℤ → ℕ
down (pos n) = 0
down (negsuc n) = suc n

abbrev pub Balanced : ℤ → ℕ → ℕ → Type 0
Balanced z v w = w * 2 ^ down z ≡ v * 2 ^ up z

cancelled : (k v w : ℕ) → 0 < k → v * k ≡ w * k → v ≡ w
cancelled k v w h e = sym (mul-div_cancel v h) ∙ ap (λ x. x / k) e ∙ mul-div_cancel w h

joined : (x a b : ℕ) → x * 2 ^ a * 2 ^ b ≡ x * 2 ^ (a + b)
joined x a b = mul_assoc x (2 ^ a) (2 ^ b) ∙ ap (λ k. x * k) (sym (pow-add 2 a b))

regrouped : (x a b c d : ℕ) → x * 2 ^ a * 2 ^ b * 2 ^ (c + d) ≡ x * 2 ^ d * 2 ^ (a + b + c)
regrouped x a b c d =
    ap (λ y. y * 2 ^ (c + d)) (joined x a b)
    ∙ joined x (a + b) (c + d)
    ∙ ap (λ n. x * 2 ^ n) (let e : a + b + (c + d) ≡ d + (a + b + c) = omega arith in e)
    ∙ sym (joined x d (a + b + c))

-- what an operand's shift becomes, where its reader rises by r and its source by q
pub shift_balanced : (s : ℕ) (r q : ℤ) → int_le (pos 0) ((pos s +ℤ r) -ℤ q) ≡ true → nat_abs ((pos s +ℤ r) -ℤ q) + down r + up q ≡ s + up r + down q
shift_balanced s (pos m) (pos n) e = omega (arith, ints)
shift_balanced s (pos m) (negsuc n) e = omega (arith, ints)
shift_balanced s (negsuc m) (pos n) e = omega (arith, ints)
shift_balanced s (negsuc m) (negsuc n) e = omega (arith, ints)

-- an operand rises by what its reader does
pub operand_balanced : (v w s t : ℕ) (r q : ℤ) → t + down r + up q ≡ s + up r + down q → Balanced q v w → Balanced r (v * 2 ^ s) (w * 2 ^ t)
operand_balanced v w s t r q e b =
    let k = up q + down q in
    cancelled (2 ^ k) (w * 2 ^ t * 2 ^ down r) (v * 2 ^ s * 2 ^ up r) (pow_pos k) (
    regrouped w t (down r) (up q) (down q)
    ∙ (λ i. b i * 2 ^ e i)
    ∙ sym (regrouped v s (up r) (down q) (up q))
    ∙ ap (λ n. v * 2 ^ s * 2 ^ up r * 2 ^ n) (let c : down q + up q ≡ up q + down q = omega arith in c))

subtracted : (n m k : ℕ) → (n - m) * k ≡ n * k - m * k
subtracted n m k = mul_comm (n - m) k ∙ mul-sub k n m ∙ (λ i. mul_comm k n i - mul_comm k m i)

combined_balanced : (s : Sign) (z : ℤ) (l r m n : ℕ) → Balanced z l m → Balanced z r n → Balanced z (combined s l r) (combined s m n)
combined_balanced Plus z l r m n b c = add-mul m n (2 ^ down z) ∙ (λ i. b i + c i) ∙ sym (add-mul l r (2 ^ up z))
combined_balanced Minus z l r m n b c = subtracted m n (2 ^ down z) ∙ (λ i. b i - c i) ∙ sym (subtracted l r (2 ^ up z))

same_balanced : (v : ℕ) → Balanced (pos 0) v v
same_balanced v = refl

none_balanced : (z : ℤ) → Balanced z 0 0
none_balanced z = zero-mul (2 ^ down z) ∙ sym (zero-mul (2 ^ up z))

-- an adder that is not used has the value 0
value_none : (xs : Slots) (k : ℕ) → k < length xs → get_or xs k None ≡ None → value xs (suc k) ≡ 0
value_none xs k h e = ap (value xs) (let p : suc k ≡ 1 + k = omega arith in p) ∙ value_at sample xs k h ∙ ap (slot_value _) e

pub both_hold : (b c : Bool) (r : Refusal) → cond (b && c) None (Some r) ≡ None → (b ≡ true) × (c ≡ true)
both_hold true true r e = (refl, refl)
both_hold true false r e = absurd (some_none e)
both_hold false c r e = absurd (some_none e)

at_most_thirty : (t : ℤ) → int_le (pos 0) t ≡ true → int_le t (pos 30) ≡ true → nat_abs t ≤ 30
at_most_thirty (pos n) l h = omega (arith, ints)
at_most_thirty (negsuc n) l h = absurd (false≢true l)

module _ (a : ℕ) (z : ℤ) where
  pub length_moved : (j : ℕ) (xs : Slots) → length (moved_from a z j xs) ≡ length xs
  length_moved j [] = refl
  length_moved j (x ∷ xs) = ap suc (length_moved (j + 1) xs)

  -- what stands in a slot afterwards, and the rules of that slot
  at_moved : (j : ℕ) (xs : Slots) (k : ℕ) → get_or (moved_from a z j xs) k None ≡ moved_slot a z (j + k) (get_or xs k None)
  at_moved j [] k = refl
  at_moved j (x ∷ xs) zero = ap (λ n. moved_slot a z n x) (let p : j ≡ j + 0 = omega arith in p)
  at_moved j (x ∷ xs) (suc k) = at_moved (j + 1) xs k ∙ ap (λ n. moved_slot a z n (get_or xs k None)) (let p : j + 1 + k ≡ j + suc k = omega arith in p)

  pub at_slot : (xs : Slots) (k : ℕ) → get_or (moved_from a z 1 xs) k None ≡ moved_slot a z (suc k) (get_or xs k None)
  at_slot xs k = at_moved 1 xs k ∙ ap (λ n. moved_slot a z n (get_or xs k None)) (let p : 1 + k ≡ suc k = omega arith in p)

  rules_at : (j : ℕ) (xs : Slots) → first_broken (shift_rules_from a z j xs) ≡ None → (k : ℕ) → k < length xs → first_broken (slot_shift_rules a z (j + k) (get_or xs k None)) ≡ None
  rules_at j [] e k h = absurd (omega arith)
  rules_at j (x ∷ xs) e zero h =
      subst (λ n. first_broken (slot_shift_rules a z n x) ≡ None) (let p : j ≡ j + 0 = omega arith in p) (whole_parts (slot_shift_rules a z j x) (shift_rules_from a z (j + 1) xs) e).0
  rules_at j (x ∷ xs) e (suc k) h =
      subst (λ n. first_broken (slot_shift_rules a z n (get_or xs k None)) ≡ None) (let p : j + 1 + k ≡ j + suc k = omega arith in p)
      (rules_at (j + 1) xs (whole_parts (slot_shift_rules a z j x) (shift_rules_from a z (j + 1) xs) e).1 k (omega arith))

  pub rules_of : (xs : Slots) → first_broken (shift_rules_from a z 1 xs) ≡ None → (k : ℕ) (x : Adder) → get_or xs k None ≡ Some x → first_broken (adder_shift_rules a z (suc k) x) ≡ None
  rules_of xs whole k x e =
      subst (λ o. first_broken (slot_shift_rules a z (suc k) o) ≡ None) e
      (subst (λ n. first_broken (slot_shift_rules a z n (get_or xs k None)) ≡ None) (let p : 1 + k ≡ suc k = omega arith in p) (rules_at 1 xs whole k (within xs k x e)))

  -- an operand whose shift stays in its range
  pub record Fits (j : ℕ) (o : Operand) : Type 0 where
    pub low : int_le (pos 0) (new_shift a z j o) ≡ true
    pub high : (moved_operand a z j o).shift ≤ 30

  pub fits : (j : ℕ) (o : Operand) → first_broken (operand_shift_rules a z j o) ≡ None → Fits j o
  fits j o e =
      let t = new_shift a z j o in
      let both = both_hold (int_le (pos 0) t) (int_le t (pos 30)) _ e in
      record { low = both.0; high = at_most_thirty t both.0 both.1 }

  -- an operand is worth what it was, scaled with its reader
  pub operand_moved : (j : ℕ) (o : Operand) (v w : ℕ) → Fits j o → Balanced (rise a z o.source) v w → Balanced (rise a z j) (v * 2 ^ o.shift) (w * 2 ^ (moved_operand a z j o).shift)
  operand_moved j o v w f b = operand_balanced v w o.shift (moved_operand a z j o).shift (rise a z j) (rise a z o.source) (shift_balanced o.shift (rise a z j) (rise a z o.source) f.low) b

  module _ (xs : Slots) (sound : Sound xs) (one : 1 ≤ a) (whole : first_broken (shift_rules_from a z 1 xs) ≡ None) where
    abbrev ys : Slots
    ys = moved_from a z 1 xs

    pub adder_fits : (k : ℕ) (x : Adder) → get_or xs k None ≡ Some x → Fits (suc k) x.left × Fits (suc k) x.right
    adder_fits k x e =
        let parts = whole_parts (operand_shift_rules a z (suc k) x.left) (operand_shift_rules a z (suc k) x.right) (rules_of xs whole k x e) in
        (fits (suc k) x.left parts.0, fits (suc k) x.right parts.1)

    AllTo : ℕ → Type 0
    AllTo n = (j : ℕ) → j ≤ n → j ≤ length xs → Balanced (rise a z j) (value xs j) (value ys j)

    slot_balanced : (k : ℕ) → k < length xs → AllTo k → (x : Option Adder) → get_or xs k None ≡ x → Balanced (rise a z (suc k)) (value xs (suc k)) (value ys (suc k))
    unfolding AllTo
    slot_balanced k h before None e =
        let none = value_none xs k h e in
        let longer : k < length ys = omega (arith, length_moved 1 xs) in
        let none' = value_none ys k longer (at_slot xs k ∙ ap (moved_slot a z (suc k)) e) in
        subst (λ n. Balanced (rise a z (suc k)) n (value ys (suc k))) (sym none) (subst (Balanced (rise a z (suc k)) 0) (sym none') (none_balanced (rise a z (suc k))))
    slot_balanced k h before (Some x) e =
        let s = sound k x e in
        let f = adder_fits k x e in
        let low : x.left.source ≤ k = omega (arith, s.left.lower) in
        let high : x.right.source ≤ k = omega (arith, s.right.lower) in
        let r = rise a z (suc k) in
        let is = follow.adder_is xs k x e low high in
        let is' = follow.adder_is ys k (moved_adder a z (suc k) x) (at_slot xs k ∙ ap (moved_slot a z (suc k)) e) low high in
        let l = operand_moved (suc k) x.left (value xs x.left.source) (value ys x.left.source) f.0 (before x.left.source low (omega arith)) in
        let m = operand_moved (suc k) x.right (value xs x.right.source) (value ys x.right.source) f.1 (before x.right.source high (omega arith)) in
        subst (λ n. Balanced r n (value ys (suc k))) (sym is) (subst (Balanced r _) (sym is') (combined_balanced x.sign r _ _ _ _ l m))

    first_balanced : Balanced (rise a z 0) (value xs 0) (value ys 0)
    first_balanced =
        subst (λ n. Balanced (rise a z 0) n (value ys 0)) (sym (follow.sample_is xs)) (subst (Balanced (rise a z 0) 1) (sym (follow.sample_is ys))
        (subst (λ b. Balanced (cond b z (pos 0)) 1 1) (sym (ne_eqb 0 a (omega arith))) (same_balanced 1)))

    all_to : (n : ℕ) → AllTo n
    unfolding AllTo
    all_to zero j h le = subst (λ i. Balanced (rise a z i) (value xs i) (value ys i)) (let p : 0 ≡ j = omega arith in p) first_balanced
    all_to (suc n) j h le =
        ⊎_elim
        (λ same. subst (λ i. Balanced (rise a z i) (value xs i) (value ys i)) (sym same) (slot_balanced n (omega arith) (all_to n) (get_or xs n None) refl))
        (λ less. all_to n j (omega arith) le)
        (eq-or-lt_of_le h)

    pub balanced : (j : ℕ) → j ≤ length xs → Balanced (rise a z j) (value xs j) (value ys j)
    unfolding AllTo
    balanced j le = all_to j j (omega arith) le

to_scaled : (z : ℤ) (v w : ℕ) → Balanced z v w → Scaled z v w
to_scaled (pos n) v w b = sym (mul-one w) ∙ b
to_scaled (negsuc n) v w b = b ∙ mul-one v

pub moving_scales : MovingScales
moving_scales a z xs one sound whole = record {
  moved = λ le. to_scaled z (value xs a) (value (moved_from a z 1 xs) a) (subst (λ b. Balanced (cond b z (pos 0)) (value xs a) (value (moved_from a z 1 xs) a)) (eq-eqb a a refl) (balanced a z xs sound one whole a le));
  others = λ j ne le. sym (mul-one (value (moved_from a z 1 xs) j)) ∙ subst (λ b. Balanced (cond b z (pos 0)) (value xs j) (value (moved_from a z 1 xs) j)) (ne_eqb j a ne) (balanced a z xs sound one whole j le) ∙ mul-one (value xs j);
}

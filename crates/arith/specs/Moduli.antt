-- Sums, differences and copies by remainder.
use Rattle.std.specs.Prelude.{◌≡◌, ℕ, zero, suc, ◌+◌, ◌-◌, ◌*◌, ◌%◌, ◌^◌, ◌<◌}
use Rattle.std.proofs.Common.{sym, ap, ◌∙◌, mul-one, mod-eq_of_lt, zero-mul, suc-mul, add_assoc, add_comm, add-zero, arith}
use Rattle.std.proofs.Math.Nat.{mod-add-mod, add-mod, add-mod-mod, add-mod_right}
use Rattle.std.proofs.lemmas.Nat.{mul-mod_second}
use native.Mathlib.Fin
use Rattle.arith.specs.Operations.{Laws, times, doubled}
use Rattle.arith.specs.Times.{twice}
use Rattle.arith.specs.Remainders.{Below, remainder, remainders}

-- a remainder is fixed by its number
pub same_below : {n : ℕ} (x y : Below n) → x.number ≡ y.number → x ≡ y
same_below {n} x y e =
    ap (λ (p : (k : ℕ) × (k < n)). let b : Below n = record { number = p.0; within = p.1 } in b)
    (Fin.val_path {i = (x.number, x.within)} {j = (y.number, y.within)} e)

-- numbers of the same remainder mean the same
pub same_remainder : (n : ℕ) (h : 0 < n) (k l : ℕ) → k % n ≡ l % n → remainder n h k ≡ remainder n h l
same_remainder n h k l = same_below (remainder n h k) (remainder n h l)

pub remainder_laws : (n : ℕ) (h : 0 < n) → Laws (remainders n h)
remainder_laws n h = record {
  brackets = λ x y z. same_below _ _ (
      mod-add-mod (x.number + y.number) n z.number
      ∙ ap (λ k. k % n) (add_assoc x.number y.number z.number)
      ∙ sym (add-mod-mod x.number (y.number + z.number) n));
  turned = λ x y. same_below _ _ (ap (λ k. k % n) (add_comm x.number y.number));
  unchanged = λ x. same_below _ _ (
      add-mod-mod x.number 0 n ∙ ap (λ k. k % n) (add-zero x.number) ∙ mod-eq_of_lt x.within);
  restored = λ x y. same_below _ _ (
      let within = y.within in
      let whole : x.number + (n - y.number) + y.number ≡ x.number + n = omega arith in
      mod-add-mod (x.number + (n - y.number)) n y.number
      ∙ ap (λ k. k % n) whole
      ∙ add-mod_right x.number n
      ∙ mod-eq_of_lt x.within);
}

-- copies of a remainder, added up
pub times_number : (n : ℕ) (h : 0 < n) (k : ℕ) (x : Below n) → (times (remainders n h) k x).number ≡ (k * x.number) % n
times_number n h zero x = ap (λ m. m % n) (sym (zero-mul x.number))
times_number n h (suc k) x =
    ap (λ m. (m + x.number) % n) (times_number n h k x)
    ∙ mod-add-mod (k * x.number) n x.number
    ∙ ap (λ m. m % n) (sym (suc-mul k x.number))

-- a remainder, doubled over and over
pub doubled_number : (n : ℕ) (h : 0 < n) (s : ℕ) (x : Below n) → (doubled (remainders n h) s x).number ≡ (x.number * 2 ^ s) % n
doubled_number n h zero x = sym (ap (λ m. m % n) (mul-one x.number) ∙ mod-eq_of_lt x.within)
doubled_number n h (suc s) x =
    ap (λ m. (m + m) % n) (doubled_number n h s x)
    ∙ sym (add-mod (x.number * 2 ^ s) (x.number * 2 ^ s) n)
    ∙ ap (λ m. m % n) (sym (twice x.number s))

-- a number below n that means k copies of another is the remainder of the product
pub remainder_product : (n : ℕ) (h : 0 < n) (k x r : ℕ) → r < n → remainder n h r ≡ times (remainders n h) k (remainder n h x) → r ≡ (k * x) % n
remainder_product n h k x r below e =
    sym (mod-eq_of_lt below)
    ∙ ap (λ (y : Below n). y.number) e
    ∙ times_number n h k (remainder n h x)
    ∙ mul-mod_second k x n

-- What the laws give of copies added up.
use Rattle.std.specs.Prelude.{◌≡◌, ℕ, zero, suc, ◌+◌, ◌-◌, ◌*◌, ◌^◌, ◌≤◌, refl}
use Rattle.std.proofs.Common.{sym, ap, ◌∙◌, add-zero, add-suc, mul-one, one-mul, mul_assoc, sub-add_cancel, pow-suc, arith}
use Rattle.arith.specs.Operations.{Operations, Laws, times, doubled, paired}

pub twice : (n s : ℕ) → n * 2 ^ suc s ≡ n * 2 ^ s + n * 2 ^ s
twice n s = rw (pow-suc, ← mul_assoc) (omega arith)

module _ {M : Type 0} (ops : Operations M) (laws : Laws ops) where
  -- a sum, after its last part was taken away by its opposite
  opposite : (x y : M) → ops.plus (ops.plus x y) (ops.minus ops.neutral y) ≡ x
  opposite x y =
      laws.brackets x y (ops.minus ops.neutral y)
      ∙ ap (ops.plus x) (laws.turned y (ops.minus ops.neutral y) ∙ laws.restored ops.neutral y)
      ∙ laws.unchanged x

  cancel : (x y z : M) → ops.plus x y ≡ ops.plus z y → x ≡ z
  cancel x y z e = sym (opposite x y) ∙ ap (λ w. ops.plus w (ops.minus ops.neutral y)) e ∙ opposite z y

  -- a sum less what was added
  minus_plus : (x y : M) → ops.minus (ops.plus x y) y ≡ x
  minus_plus x y = cancel (ops.minus (ops.plus x y) y) y x (laws.restored (ops.plus x y) y)

  pub times_one : (x : M) → times ops 1 x ≡ x
  times_one x = laws.turned ops.neutral x ∙ laws.unchanged x

  pub times_add : (m n : ℕ) (x : M) → times ops (m + n) x ≡ ops.plus (times ops m x) (times ops n x)
  times_add m zero x = ap (λ k. times ops k x) (add-zero m) ∙ sym (laws.unchanged (times ops m x))
  times_add m (suc n) x =
      ap (λ k. times ops k x) (add-suc m n)
      ∙ ap (λ y. ops.plus y x) (times_add m n x)
      ∙ laws.brackets (times ops m x) (times ops n x) x

  pub times_sub : (m n : ℕ) (x : M) → n ≤ m → times ops (m - n) x ≡ ops.minus (times ops m x) (times ops n x)
  times_sub m n x h =
      sym (minus_plus (times ops (m - n) x) (times ops n x))
      ∙ ap (λ y. ops.minus y (times ops n x)) (sym (times_add (m - n) n x) ∙ ap (λ k. times ops k x) (sub-add_cancel h))

  -- so many doublings multiply by a power of two
  pub times_doubled : (s n : ℕ) (x : M) → times ops (n * 2 ^ s) x ≡ doubled ops s (times ops n x)
  times_doubled zero n x = ap (λ k. times ops k x) (mul-one n)
  times_doubled (suc s) n x =
      let halves : n * 2 ^ suc s ≡ n * 2 ^ s + n * 2 ^ s = twice n s in
      ap (λ k. times ops k x) halves
      ∙ times_add (n * 2 ^ s) (n * 2 ^ s) x
      ∙ ap (λ y. ops.plus y y) (times_doubled s n x)

  pub doubled_times : (s : ℕ) (x : M) → doubled ops s x ≡ times ops (2 ^ s) x
  doubled_times s x = ap (doubled ops s) (sym (times_one x)) ∙ sym (times_doubled s 1 x) ∙ ap (λ n. times ops n x) (one-mul (2 ^ s))

module _ {M N : Type 0} (l : Operations M) (r : Operations N) where
  -- each side of a pair is doubled and added up by itself
  pub doubled_pair : (s : ℕ) (x : M) (y : N) → doubled (paired l r) s (x, y) ≡ (doubled l s x, doubled r s y)
  doubled_pair zero x y = refl
  doubled_pair (suc s) x y = ap (λ (p : M × N). (paired l r).plus p p) (doubled_pair s x y)

  pub times_pair : (n : ℕ) (x : M) (y : N) → times (paired l r) n (x, y) ≡ (times l n x, times r n y)
  times_pair zero x y = refl
  times_pair (suc n) x y = ap (λ (p : M × N). (paired l r).plus p (x, y)) (times_pair n x y)

  pub paired_laws : Laws l → Laws r → Laws (paired l r)
  paired_laws p q = record {
    brackets = λ x y z i. (p.brackets x.0 y.0 z.0 i, q.brackets x.1 y.1 z.1 i);
    turned = λ x y i. (p.turned x.0 y.0 i, q.turned x.1 y.1 i);
    unchanged = λ x i. (p.unchanged x.0 i, q.unchanged x.1 i);
    restored = λ x y i. (p.restored x.0 y.0 i, q.restored x.1 y.1 i);
  }

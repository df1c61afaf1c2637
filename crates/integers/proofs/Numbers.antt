-- The digits of a number, and what they say.
use Rattle.std.proofs.Common.{◌≡◌, ℕ, zero, suc, ◌+◌, ◌-◌, ◌*◌, ◌/◌, ◌%◌, ◌^◌, ◌<◌, ◌≤◌, List, [], ◌∷◌, ◌++◌, length, get_or, pos, negsuc, decimal, sym, refl, ap, ◌∙◌, arith}
use Rattle.std.proofs.lemmas.Fmt.{decimal_digit, decimal_step, digits_value-decimal, first_decimal}
use Rattle.std.proofs.lemmas.Str.Parse.{IsNumeralModel, numerals_by_fold, tells_digits}
use Rattle.std.proofs.lemmas.Int.{ints}
use Rattle.std.specs.Str.Parse.{AllDigits}
use Rattle.arith.specs.Words.{InWord}

abbrev read_on : ℕ → List ℕ → ℕ
read_on n [] = n
read_on n (c ∷ cs) = read_on (n * 10 + (c - 48)) cs

own : IsNumeralModel (AllDigits 10) (read_on 0)
own = numerals_by_fold (AllDigits 10) tells_digits read_on (record { empty = λ n. refl; more = λ n c cs h. refl })

read_append : (n : ℕ) (xs ys : List ℕ) → read_on n (xs ++ ys) ≡ read_on (read_on n xs) ys
read_append n [] ys = refl
read_append n (x ∷ xs) ys = read_append (n * 10 + (x - 48)) xs ys

read_least : (n : ℕ) (xs : List ℕ) → n ≤ read_on n xs
read_least n [] = omega arith
read_least n (x ∷ xs) = let h = read_least (n * 10 + (x - 48)) xs in omega arith

-- one digit more behind a number, and anything behind that
pub at_least : (n m d : ℕ) (rest : List ℕ) → n < 2 ^ 64 → m < 2 ^ 64 → decimal n ++ (48 + d) ∷ rest ≡ decimal m → 10 * n + d ≤ m
at_least n m d rest hn hm e =
    let front = digits_value-decimal own n hn in
    let all : read_on (n * 10 + (48 + d - 48)) rest ≡ m =
    ap (λ k. read_on (k * 10 + (48 + d - 48)) rest) (sym front) ∙ sym (read_append 0 (decimal n) ((48 + d) ∷ rest)) ∙ ap (read_on 0) e ∙ digits_value-decimal own m hm in
    let h = read_least (n * 10 + (48 + d - 48)) rest in
    omega arith

-- a digit, and anything behind it
pub first_least : (m d : ℕ) (rest : List ℕ) → m < 2 ^ 64 → (48 + d) ∷ rest ≡ decimal m → d ≤ m
first_least m d rest h e =
    let all : read_on (0 * 10 + (48 + d - 48)) rest ≡ m = ap (read_on 0) e ∙ digits_value-decimal own m h in
    let least = read_least (0 * 10 + (48 + d - 48)) rest in
    omega arith

pub grows : (n d : ℕ) → 1 ≤ n → d ≤ 9 → 10 * n + d < 2 ^ 64 → decimal n ++ (48 + d) ∷ [] ≡ decimal (10 * n + d)
grows n d low small fits =
    let tens : (10 * n + d) / 10 ≡ n = omega arith in
    let units : (10 * n + d) % 10 ≡ d = omega arith in
    sym (decimal_step (10 * n + d) (omega arith) fits ∙ simp (tens, units))

-- only 0 begins with the digit 0
pub zero_first : (n : ℕ) (cs : List ℕ) → n < 2 ^ 64 → 48 ∷ cs ≡ decimal n → n ≡ 0
zero_first zero cs h e = refl
zero_first (suc n) cs h e = let above = first_decimal (suc n) (omega arith) h in let first : get_or (decimal (suc n)) 0 0 ≡ 48 = ap (λ l. get_or l 0 0) (sym e) in absurd (omega arith)

-- no digit follows a zero
pub zero_alone : (n c : ℕ) (rest : List ℕ) → n < 2 ^ 64 → 48 ∷ c ∷ rest ≡ decimal n → ⊥
zero_alone n c rest h e =
    let none = zero_first n (c ∷ rest) h e in
    let one : length (decimal n) ≡ 1 = ap (λ k. length (decimal k)) none ∙ ap length (decimal_digit 0 (omega arith)) in
    let more = ap length e in
    omega arith

-- a word's magnitude
pub held_above : (n : ℕ) → InWord (pos n) → n ≤ 2 ^ 63 - 1
held_above n h = let m = h.most in omega (arith, ints)

pub held_below : (n : ℕ) → InWord (negsuc n) → suc n ≤ 2 ^ 63
held_below n h = let l = h.least in omega (arith, ints)

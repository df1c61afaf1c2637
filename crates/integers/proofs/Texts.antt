-- How what was read of a number goes on.
use Rattle.std.proofs.Common.{◌≡◌, ℕ, zero, suc, ◌+◌, ◌-◌, ◌*◌, ◌^◌, ◌<◌, ◌≤◌, List, [], ◌∷◌, ◌++◌, length, get_or, ℤ, pos, negsuc, Some, None, decimal, Option, sym, refl, ap, ◌∙◌, subst, append_assoc, arith}
use Rattle.std.proofs.lemmas.Fmt.{decimal_digit, decimal_nonempty, decimal_is_IsNumeral}
use Rattle.std.proofs.lemmas.Str.Parse.{digit_at}
use Rattle.std.proofs.lemmas.List.{get_or_append_left}
use Rattle.std.proofs.lemmas.Int.{ints}
use Rattle.std.specs.Int.{IsInRange}
use Rattle.std.specs.Fmt.{signed_decimal}
use Rattle.std.specs.Prelude.{SomeIff, MatchOption}
use Rattle.std.specs.Option.{option_map}
use Rattle.arith.specs.Words.{InWord}
use Rattle.forms.specs.Breaking.{Viable}
use Rattle.integers.specs.declared.scan.Part.{Part}
use Rattle.integers.specs.declared.scan.Part.TheVariants.{Nothing, Minus, Number}
use Rattle.integers.specs.Decimals.{digit_byte}
use Rattle.integers.specs.Form.{Integer, Form}
use Rattle.integers.specs.Scan.{Reached, Continued, longer, digit_said, minus_said}
use Rattle.integers.proofs.Numbers.{at_least, grows, zero_first, zero_alone, held_above, held_below}

-- Numbers and their first bytes.

-- a number begins with a digit
pub first_byte : (n b : ℕ) (rest cs : List ℕ) → n < 2 ^ 64 → decimal n ++ rest ≡ b ∷ cs → IsInRange 48 57 b
first_byte n b rest cs h e =
    let is : get_or (decimal n) 0 0 ≡ b = sym (get_or_append_left (decimal n) rest 0 0 (decimal_nonempty n h)) ∙ ap (λ l. get_or l 0 0) e in
    subst (IsInRange 48 57) is (digit_at (decimal n) 0 (decimal_is_IsNumeral n h).0.1 (decimal_nonempty n h))

-- a number in digits is none with a minus
not_minus : (n : ℕ) (rest : List ℕ) (cs : List ℕ) → n < 2 ^ 64 → decimal n ++ rest ≡ 45 ∷ cs → ⊥
not_minus n rest cs h e = let digit = first_byte n 45 rest cs h e in omega (arith, digit.0)

some_digits : (z : ℤ) → InWord z → 1 ≤ length (signed_decimal z)
some_digits (pos n) h = let m = held_above n h in decimal_nonempty n (omega arith)
some_digits (negsuc n) h = omega arith

-- One byte more, where numbers begin so.
record Begun (bs : List ℕ) (b : ℕ) : Type 0 where
  rest : List ℕ
  number : ℤ
  held : InWord number
  written : bs ++ b ∷ rest ≡ signed_decimal number

begun : (bs front : List ℕ) (b : ℕ) → bs ≡ front → Viable Form (bs ++ b ∷ []) → Begun front b
begun bs front b e (rest, (z, says)) = record { rest = rest; number = z; held = says.held; written = ap (λ l. l ++ b ∷ rest) (sym e) ∙ sym (append_assoc bs (b ∷ []) rest) ∙ says.written }

-- A byte that is no digit stands at the front alone, and is the minus.
odd_byte : (bs : List ℕ) (b : ℕ) → Begun bs b → ¬ IsInRange 48 57 b → (length bs ≡ 0) × (b ≡ 45)
odd_byte bs b v odd = by bs v.rest v.number v.held v.written
  where
    by : (bs rest : List ℕ) (z : ℤ) → InWord z → bs ++ b ∷ rest ≡ signed_decimal z → (length bs ≡ 0) × (b ≡ 45)
    by bs rest (pos m) held w = let top = held_above m held in absurd (odd (digit_byte m b bs rest (omega arith) w))
    by [] rest (negsuc m) held w = (refl, cc)
    by (c ∷ cs) rest (negsuc m) held w = let top = held_below m held in absurd (odd (digit_byte (suc m) b cs rest (omega arith) (cc)))

pub odd_off : (bs : List ℕ) (p : Part) (b : ℕ) → Reached bs p → ¬ IsInRange 48 57 b → ((p ≡ Nothing) → b ≡ 45 → ⊥) → ¬ Viable Form (bs ++ b ∷ [])
odd_off bs Nothing b e odd other v = other refl (odd_byte bs b (begun bs bs b refl v) odd).1
odd_off bs Minus b e odd other v = let n = (odd_byte (45 ∷ []) b (begun bs (45 ∷ []) b e v) odd).0 in omega arith
odd_off bs (Number z) b e odd other v = let n = (odd_byte (signed_decimal z) b (begun bs (signed_decimal z) b e.written v) odd).0 in let some = some_digits z e.held in omega arith

-- the first digit
pub nothing_on : (bs : List ℕ) (d : ℕ) (z : ℤ) → bs ≡ [] → d ≤ 9 → z ≡ pos d → Integer z (bs ++ (48 + d) ∷ [])
nothing_on bs d z e h is = rw (e, is) (digit_said d h)

pub minus_on : (bs : List ℕ) (d : ℕ) (z : ℤ) → bs ≡ 45 ∷ [] → 1 ≤ d → d ≤ 9 → z ≡ negsuc (d - 1) → Integer z (bs ++ (48 + d) ∷ [])
minus_on bs d z e some h is =
    let back : 48 + suc (d - 1) ≡ 48 + d = omega arith in
    rw (e, is) (subst (λ b. Integer (negsuc (d - 1)) (45 ∷ b ∷ [])) back (minus_said (d - 1) (omega arith)))

-- no zero follows a minus
pub minus_off : (bs : List ℕ) (d : ℕ) → bs ≡ 45 ∷ [] → d ≡ 0 → ¬ Viable Form (bs ++ (48 + d) ∷ [])
minus_off bs d e zero_is v = let g = begun bs (45 ∷ []) 48 e (subst (λ n. Viable Form (bs ++ (48 + n) ∷ [])) zero_is v) in by g.rest g.number g.held g.written
  where
    by : (rest : List ℕ) (z : ℤ) → InWord z → 45 ∷ 48 ∷ rest ≡ signed_decimal z → ⊥
    by rest (pos m) held w = let top = held_above m held in let c = digit_byte m 45 [] (48 ∷ rest) (omega arith) w in omega (arith, c.0)
    by rest (negsuc m) held w = let top = held_below m held in let n = zero_first (suc m) rest (omega arith) (cc w) in omega arith

-- no digit follows a zero
pub zero_off : (bs : List ℕ) (d : ℕ) → Integer (pos 0) bs → ¬ Viable Form (bs ++ (48 + d) ∷ [])
zero_off bs d says v = let g = begun bs (48 ∷ []) (48 + d) (says.written ∙ decimal_digit 0 (omega arith)) v in by g.rest g.number g.held g.written
  where
    by : (rest : List ℕ) (z : ℤ) → InWord z → 48 ∷ (48 + d) ∷ rest ≡ signed_decimal z → ⊥
    by rest (pos m) held w = let top = held_above m held in zero_alone m (48 + d) rest (omega arith) w
    by rest (negsuc m) held w = let c : ◌≡◌ {A = ℕ} 48 45 = cc w in omega arith

longer_on : (bs : List ℕ) (z : ℤ) (d : ℕ) → Integer z bs → (z ≡ pos 0 → ⊥) → d ≤ 9 → InWord (longer z d) → Integer (longer z d) (bs ++ (48 + d) ∷ [])
longer_on bs (pos zero) d says some h held = absurd (some refl)
longer_on bs (pos (suc n)) d says some h held =
    let most = held_above (10 * suc n + d) held in
    record { held = held; written = ap (λ l. l ++ (48 + d) ∷ []) says.written ∙ grows (suc n) d (omega arith) h (omega arith) }
longer_on bs (negsuc n) d says some h held =
    let most = held_below (10 * n + 9 + d) held in
    let same : 10 * suc n + d ≡ suc (10 * n + 9 + d) = omega arith in
    record { held = held; written = ap (λ l. l ++ (48 + d) ∷ []) says.written ∙ ap (λ l. 45 ∷ l) (grows (suc n) d (omega arith) h (omega arith) ∙ ap decimal same) }

longer_held : (bs : List ℕ) (z : ℤ) (d : ℕ) → Integer z bs → Viable Form (bs ++ (48 + d) ∷ []) → InWord (longer z d)
longer_held bs z d says v = let g = begun bs (signed_decimal z) (48 + d) says.written v in by g.rest z g.number says.held g.held g.written
  where
    by : (rest : List ℕ) (z w : ℤ) → InWord z → InWord w → signed_decimal z ++ (48 + d) ∷ rest ≡ signed_decimal w → InWord (longer z d)
    by rest (pos n) (pos m) h held e =
        let low = held_above n h in
        let top = held_above m held in
        let least = at_least n m d rest (omega arith) (omega arith) e in
        record { least = omega (arith, ints); most = omega (arith, ints) }
    by rest (pos n) (negsuc m) h held e = let low = held_above n h in absurd (not_minus n ((48 + d) ∷ rest) (decimal (suc m)) (omega arith) e)
    by rest (negsuc n) (pos m) h held e = let top = held_above m held in let c = digit_byte m 45 [] (decimal (suc n) ++ (48 + d) ∷ rest) (omega arith) e in absurd (omega (arith, c.0))
    by rest (negsuc n) (negsuc m) h held e =
        let low = held_below n h in
        let top = held_below m held in
        let least = at_least (suc n) (suc m) d rest (omega arith) (omega arith) (cc e) in
        record { least = omega (arith, ints); most = omega (arith, ints) }

pub longer_told : (bs : List ℕ) (z : ℤ) (d : ℕ) (o : Option ℤ) → Integer z bs → (z ≡ pos 0 → ⊥) → d ≤ 9 → SomeIff o (InWord (longer z d)) (longer z d) → Continued (bs ++ (48 + d) ∷ []) o
longer_told bs z d (Some w) says some h o = subst (λ y. Integer y (bs ++ (48 + d) ∷ [])) (sym o.1) (longer_on bs z d says some h o.0)
longer_told bs z d None says some h o = λ v. o (longer_held bs z d says v)

pub continued_reached : (bs : List ℕ) (o : Option ℤ) → Continued bs o → MatchOption (option_map Number o) (¬ Viable Form bs) (Reached bs)
continued_reached bs (Some z) is = is
continued_reached bs None is = is

-- Where a number may stop.
pub short_off : (bs : List ℕ) (p : Part) → Reached bs p → ((z : ℤ) → p ≡ Number z → ⊥) → ¬ Form bs
short_off bs Nothing e other (z, says) = let some = some_digits z says.held in let none = ap length (sym says.written ∙ e) in omega arith
short_off bs Minus e other (pos m, says) = let top = held_above m says.held in let c = digit_byte m 45 [] [] (omega arith) (sym e ∙ says.written) in omega (arith, c.0)
short_off bs Minus e other (negsuc m, says) = let top = held_below m says.held in let some = decimal_nonempty (suc m) (omega arith) in let none = ap length (sym e ∙ says.written) in omega arith
short_off bs (Number z) e other says = other z refl

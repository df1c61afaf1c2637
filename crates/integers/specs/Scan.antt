-- What is read of a number, and how it goes on. The digits are the bytes from 48, and 45 is the minus.
use Rattle.std.specs.Prelude.{◌≡◌, ℕ, suc, ◌+◌, ◌*◌, ◌<◌, ◌≤◌, List, [], ◌∷◌, ◌++◌, ℤ, pos, negsuc, Option, MatchOption}
use Rattle.std.proofs.Common.{sym, ap, subst, append-nil, arith}
use Rattle.std.proofs.lemmas.Fmt.{decimal_digit}
use Rattle.std.proofs.lemmas.Int.{ints}
use Rattle.forms.specs.Breaking.{Viable}
use Rattle.integers.specs.Form.{Integer, Form}
use Rattle.integers.specs.declared.scan.Part.{Part}
use Rattle.integers.specs.declared.scan.Part.TheVariants.{Nothing, Minus, Number}

-- the bytes that lead to a part
abbrev pub Reached : List ℕ → Part → Type 0
Reached bs Nothing = bs ≡ []
Reached bs Minus = bs ≡ 45 ∷ []
Reached bs (Number z) = Integer z bs

-- the number that the bytes say, none where no number begins with them
abbrev pub Continued : List ℕ → Option ℤ → Type 0
Continued bs o = MatchOption o (¬ Viable Form bs) (λ z. Integer z bs)

-- a number with one digit more on its own side of 0
abbrev pub longer : ℤ → ℕ → ℤ
longer (pos n) d = pos (10 * n + d)
longer (negsuc n) d = negsuc (10 * n + 9 + d)

-- Each part goes on to a number.
pub digit_said : (d : ℕ) → d ≤ 9 → Integer (pos d) ((48 + d) ∷ [])
digit_said d h = record { held = record { least = omega (arith, ints); most = omega (arith, ints) }; written = sym (decimal_digit d (omega arith)) }

pub minus_said : (d : ℕ) → d < 9 → Integer (negsuc d) (45 ∷ (48 + suc d) ∷ [])
minus_said d h = record { held = record { least = omega (arith, ints); most = omega (arith, ints) }; written = ap (λ l. 45 ∷ l) (sym (decimal_digit (suc d) (omega arith))) }

pub viable : (bs : List ℕ) (part : Part) → Reached bs part → Viable Form bs
viable bs Nothing e = (48 ∷ [], (pos 0, subst (λ l. Integer (pos 0) (l ++ 48 ∷ [])) (sym e) (digit_said 0 (omega arith))))
viable bs Minus e = (49 ∷ [], (negsuc 0, subst (λ l. Integer (negsuc 0) (l ++ 49 ∷ [])) (sym e) (minus_said 0 (omega arith))))
viable bs (Number z) says = ([], (z, subst (Integer z) (sym (append-nil bs)) says))

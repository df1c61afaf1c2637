-- What is read of a number without a sign, and how it goes on. The digits are the bytes from 48.
use Rattle.std.specs.Prelude.{◌≡◌, ℕ, zero, suc, ◌+◌, ◌*◌, List, [], ◌∷◌, ◌++◌, Some, None, Option}
use Rattle.std.proofs.Common.{sym, ◌∙◌, subst, append-nil, append_assoc, arith}
use Rattle.std.proofs.lemmas.Fmt.{decimal_digit}
use Rattle.std.specs.Int.{IsInRange}
use Rattle.forms.specs.Breaking.{Viable}
use Rattle.integers.specs.Decimals.{digit_byte}
use Rattle.integers.specs.Naturals.{NumberUpTo, FormUpTo}
use Rattle.integers.specs.declared.natural.Natural.{Natural}
use Rattle.integers.specs.declared.natural.Natural.TheVariants.{Nothing, Number}

-- the bytes that lead to what is read
abbrev pub NaturalReached : (last : ℕ) → List ℕ → Natural last → Type 0
NaturalReached last bs Nothing = bs ≡ []
NaturalReached last bs (Number n) = NumberUpTo last n bs

-- what is read, with one digit more; none behind a zero
abbrev pub grown : {last : ℕ} → Natural last → ℕ → Option ℕ
grown Nothing d = Some d
grown (Number zero) d = None
grown (Number (suc n)) d = Some (10 * suc n + d)

module _ (last : ℕ) where
  -- What is read goes on to a number.
  pub natural_viable : (bs : List ℕ) (natural : Natural last) → NaturalReached last bs natural → Viable (FormUpTo last) bs
  natural_viable bs Nothing e =
      let zero : NumberUpTo last 0 (48 ∷ []) = record { most = omega arith; held = omega arith; written = sym (decimal_digit 0 (omega arith)) } in
      (48 ∷ [], (0, subst (λ l. NumberUpTo last 0 (l ++ 48 ∷ [])) (sym e) zero))
  natural_viable bs (Number n) says = ([], (n, subst (NumberUpTo last n) (sym (append-nil bs)) says))

  -- No number goes on behind a byte that is no digit, such as a space.
  pub natural_byte : (b : ℕ) (bs : List ℕ) → Viable (FormUpTo last) (bs ++ b ∷ []) → IsInRange 48 57 b
  natural_byte b bs (rest, (n, says)) = let held = says.held in digit_byte n b bs rest (omega arith) (sym (append_assoc bs (b ∷ []) rest) ∙ says.written)

  pub natural_unspaced : (bs : List ℕ) → ¬ Viable (FormUpTo last) (bs ++ 32 ∷ [])
  natural_unspaced bs goes = let digit = natural_byte 32 bs goes in omega (arith, digit.0)

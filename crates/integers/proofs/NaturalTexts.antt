-- How what was read of a number without a sign goes on.
use Rattle.std.proofs.Common.{◌≡◌, ℕ, zero, suc, ◌+◌, ◌*◌, ◌^◌, ◌<◌, ◌≤◌, Some, None, List, [], ◌∷◌, ◌++◌, length, decimal, sym, ap, ◌∙◌, append_assoc, arith}
use Rattle.std.proofs.lemmas.Fmt.{decimal_digit, decimal_nonempty}
use Rattle.forms.specs.Breaking.{Viable}
use Rattle.forms.specs.Digits.{digit}
use Rattle.forms.proofs.Digits.{digit_none, digit_some}
use Rattle.integers.specs.declared.natural.Natural.{Natural}
use Rattle.integers.specs.declared.natural.Natural.TheVariants.{Nothing, Number}
use Rattle.integers.specs.Naturals.{NumberUpTo, FormUpTo}
use Rattle.integers.specs.NaturalScan.{NaturalReached, grown, natural_byte}
use Rattle.integers.proofs.Numbers.{at_least, first_least, grows, zero_alone}

some_is : (m n : ℕ) → Some m ≡ Some n → m ≡ n
some_is m n e = cc

none_some : (n : ℕ) → Some n ≡ None → ⊥
none_some n e = absurd (cc)

module _ (last : ℕ) (bs : List ℕ) where
  pub no_digit_off : (b : ℕ) → digit b ≡ None → ¬ Viable (FormUpTo last) (bs ++ b ∷ [])
  no_digit_off b e goes = digit_none b e (natural_byte last b bs goes)

  pub empty_off : bs ≡ [] → ¬ FormUpTo last bs
  empty_off e (n, says) =
      let held = says.held in
      let some = decimal_nonempty n (omega arith) in
      let none = ap length (sym says.written ∙ e) in
      omega arith

  module _ (b d : ℕ) (is : digit b ≡ Some d) where
    written : b ≡ 48 + d
    written = (digit_some b d is).0

    small_digit : d ≤ 9
    small_digit = (digit_some b d is).1

    -- a number whose digits begin with those that are read and one more
    begun : (front : List ℕ) (m : ℕ) (rest : List ℕ) → bs ≡ front → NumberUpTo last m ((bs ++ b ∷ []) ++ rest) → front ++ (48 + d) ∷ rest ≡ decimal m
    begun front m rest e longer = (λ i. sym e i ++ sym written i ∷ rest) ∙ sym (append_assoc bs (b ∷ []) rest) ∙ longer.written

    pub grown_on : (part : Natural last) (n : ℕ) → NaturalReached last bs part → grown part d ≡ Some n → n ≤ last → n < 2 ^ 32 → NumberUpTo last n (bs ++ b ∷ [])
    grown_on Nothing n e made most held =
        let h = small_digit in
        let same = some_is d n made in
        record { most = most; held = held; written = (λ i. e i ++ written i ∷ []) ∙ sym (decimal_digit d (omega arith)) ∙ ap decimal same }
    grown_on (Number zero) n says made most held = absurd (cc)
    grown_on (Number (suc k)) n says made most held =
        let h = small_digit in
        let same = some_is (10 * suc k + d) n made in
        record { most = most; held = held; written = (λ i. says.written i ++ written i ∷ []) ∙ grows (suc k) d (omega arith) h (omega arith) ∙ ap decimal same }

    pub zero_off : (part : Natural last) → NaturalReached last bs part → grown part d ≡ None → ¬ Viable (FormUpTo last) (bs ++ b ∷ [])
    zero_off Nothing e made goes = none_some d made
    zero_off (Number zero) says made (rest, (m, longer)) =
        let held = longer.held in
        zero_alone m (48 + d) rest (omega arith) (ap (λ l. l ++ (48 + d) ∷ rest) (sym (decimal_digit 0 (omega arith))) ∙ begun (decimal 0) m rest says.written longer)
    zero_off (Number (suc k)) says made goes = none_some (10 * suc k + d) made

    -- no number is above the last
    pub past_off : (part : Natural last) (n : ℕ) → NaturalReached last bs part → grown part d ≡ Some n → last < n → ¬ Viable (FormUpTo last) (bs ++ b ∷ [])
    past_off Nothing n e made past (rest, (m, longer)) =
        let held = longer.held in
        let most = longer.most in
        let same = some_is d n made in
        let least = first_least m d rest (omega arith) (begun [] m rest e longer) in
        omega arith
    past_off (Number zero) n says made past goes = absurd (cc)
    past_off (Number (suc k)) n says made past (rest, (m, longer)) =
        let held = longer.held in
        let most = longer.most in
        let small = says.held in
        let same = some_is (10 * suc k + d) n made in
        let least = at_least (suc k) m d rest (omega arith) (omega arith) (begun (decimal (suc k)) m rest says.written longer) in
        omega arith

-- Reading answers one thing.
use Rattle.std.proofs.Common.{◌≡◌, ℕ, ◌^◌, ◌<◌, List, [], ◌∷◌, ◌++◌, ℤ, pos, negsuc, decimal, Ok, Err, Result, sym, refl, ap, ◌∙◌, append-nil, arith}
use lib.Signed.{mag}
use Rattle.std.proofs.lemmas.Fmt.{decimal_injective, signed_decimal_injective}
use Rattle.arith.specs.Words.{InWord}
use Rattle.forms.specs.declared.error.FormError.{FormError}
use Rattle.forms.specs.Breaking.{Viable}
use Rattle.forms.proofs.Breaks.{breaks_once}
use Rattle.forms.proofs.PartLines.{one_seam}
use Rattle.integers.specs.Form.{Form, Reading}
use Rattle.integers.specs.Naturals.{NineDigits, FormUpTo}
use Rattle.integers.specs.NaturalScan.{natural_unspaced}
use Rattle.integers.proofs.Numbers.{held_above, held_below}

magnitude : (z : ℤ) → InWord z → mag z < 2 ^ 63
magnitude (pos n) h = let m = held_above n h in omega arith
magnitude (negsuc n) h = let m = held_below n h in omega arith

pub reading_one : (bs : List ℕ) (r s : Result ℤ FormError) → Reading bs s → Reading bs r → s ≡ r
reading_one bs (Ok y) (Ok z) b a = ap Ok (signed_decimal_injective z y (magnitude z b.held) (magnitude y a.held) (sym b.written ∙ a.written))
reading_one bs (Ok y) (Err j) b a = absurd (b.broken (y, a))
reading_one bs (Err i) (Ok z) b a = absurd (a.broken (z, b))
reading_one bs (Err i) (Err j) b a = ap (λ n. Err (record { place = n })) (breaks_once Form bs j.place i.place b a)

-- at most nine digits are a number below 1,000,000,000
pub small_said : (n : ℕ) → n < 10 ^ 9 → NineDigits n (decimal n)
small_said n small = record { most = omega arith; held = omega arith; written = refl }

pub small_told : {n : ℕ} {bs : List ℕ} → NineDigits n bs → n < 10 ^ 9
small_told says = let most = says.most in omega arith

-- a number of at most nine digits that a space ends is read in one way
pub number_before_space : (m n : ℕ) (x y : List ℕ) → m < 10 ^ 9 → n < 10 ^ 9 → decimal m ++ 32 ∷ x ≡ decimal n ++ 32 ∷ y → (m ≡ n) × (x ≡ y)
number_before_space m n x y small low e =
    let form = FormUpTo 999999999 in
    let first : form (decimal m) = (m, record { most = omega arith; held = omega arith; written = refl }) in
    let goes : Viable form (decimal n) = ([], (n, record { most = omega arith; held = omega arith; written = append-nil (decimal n) })) in
    let parts = one_seam form (natural_unspaced 999999999) (decimal m) x (decimal n) y first goes e in
    (decimal_injective m n (omega arith) (omega arith) parts.0, parts.1)

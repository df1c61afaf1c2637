-- Numbers in decimal.
use Rattle.std.specs.Prelude.{◌≡◌, ℕ, ◌^◌, ◌<◌, List, ◌∷◌, ◌++◌, length, decimal}
use Rattle.std.proofs.Common.{get_or, sym, ap, ◌∙◌, subst, length-append, arith}
use Rattle.std.proofs.Math.Seq.{get_or-append_seam}
use Rattle.std.proofs.lemmas.Fmt.{decimal_is_IsNumeral}
use Rattle.std.proofs.lemmas.Str.Parse.{digit_at}
use Rattle.std.specs.Int.{IsInRange}

-- each byte of a number is a digit
pub digit_byte : (n b : ℕ) (bs rest : List ℕ) → n < 2 ^ 64 → bs ++ b ∷ rest ≡ decimal n → IsInRange 48 57 b
digit_byte n b bs rest h e =
    let long = ap length e in
    let parts = length-append bs (b ∷ rest) in
    let here : get_or (decimal n) (length bs) 0 ≡ b = ap (λ l. get_or l (length bs) 0) (sym e) ∙ get_or-append_seam bs b rest 0 in
    subst (IsInRange 48 57) here (digit_at (decimal n) (length bs) (decimal_is_IsNumeral n h).0.1 (omega arith))

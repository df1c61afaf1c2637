-- The line of a width, as its scanner reads it, and that it is read in one way.
use Rattle.std.proofs.Common.{◌≡◌, ℕ, ◌≤◌, List, ◌++◌, length, decimal, Ok, Err, Result, sym, refl, ap, ◌∙◌, arith}
use Rattle.std.specs.Prelude.{codes}
use Rattle.std.proofs.lemmas.List.{append_cancel_left, length-append}
use Rattle.std.proofs.lemmas.Fmt.{decimal_injective, length-decimal-le}
use Rattle.forms.specs.Breaking.{BrokenAt}
use Rattle.forms.specs.Keys.{KeyThen}
use Rattle.forms.proofs.Breaks.{breaks_once, broken_alike}
use Rattle.adders.specs.declared.refusals.Refusal.{Refusal}
use Rattle.adders.specs.declared.refusals.Refusal.TheVariants.{BrokenForm}
use Rattle.integers.specs.Naturals.{NumberUpTo, FormUpTo}
use Rattle.calls.specs.Widths.{WidthLine, WidthForm, WidthReading, width, long, misshapen, outside}

pub told_width : (w : ℕ) (bs : List ℕ) → KeyThen (codes "width=") (NumberUpTo 99 w) bs → WidthLine w bs
told_width w bs line = let most = line.holds.most in record { written = line.whole ∙ ap (λ l. codes "width=" ++ l) line.holds.written; small = omega arith }

formed : (bs : List ℕ) → KeyThen (codes "width=") (FormUpTo 99) bs → WidthForm bs
formed bs line = (line.holds.0, told_width line.holds.0 bs (record { rest = line.rest; whole = line.whole; holds = line.holds.1 }))

parted : (bs : List ℕ) → WidthForm bs → KeyThen (codes "width=") (FormUpTo 99) bs
parted bs (w, is) =
    let small = is.small in
    record { rest = decimal w; whole = is.written; holds = (w, record { most = omega arith; held = omega arith; written = refl }) }

width_one : (v w : ℕ) (bs : List ℕ) → WidthLine v bs → WidthLine w bs → v ≡ w
width_one v w bs a b =
    let small = a.small in
    let low = b.small in
    decimal_injective v w (omega arith) (omega arith) (append_cancel_left (codes "width=") _ _ (sym a.written ∙ b.written))

-- a line that says a width is short
few_bytes : (w : ℕ) (bs : List ℕ) → WidthLine w bs → length bs ≤ 8
few_bytes w bs is =
    let small = is.small in
    let digits : length (decimal w) ≤ 2 = length-decimal-le 2 w (omega arith) (omega arith) (omega arith) in
    omega (arith, ap length is.written, length-append (codes "width=") (decimal w))

module _ {bs : List ℕ} where
  pub broken : {i : ℕ} → length bs ≤ 200 → BrokenAt (KeyThen (codes "width=") (FormUpTo 99)) bs i → WidthReading bs (Err (BrokenForm i))
  broken {i} few b = misshapen few (broken_alike (KeyThen (codes "width=") (FormUpTo 99)) WidthForm formed parted bs i b)

  reading_one : {r s : Result ℕ Refusal} → WidthReading bs r → WidthReading bs s → s ≡ r
  reading_one (width {w = v} a l h) (width {w = w} b m k) = ap Ok (width_one w v bs b a)
  reading_one (width {w = v} a l h) (long most) = let few = few_bytes v bs a in absurd (omega arith)
  reading_one (width {w = v} a l h) (misshapen few b) = absurd (b.broken (v, a))
  reading_one (width {w = v} a l h) (outside {w = w} b off) = let e = width_one v w bs a b in absurd (off (omega arith) (omega arith))
  reading_one (long most) (width {w = w} b m k) = let few = few_bytes w bs b in absurd (omega arith)
  reading_one (long most) (long more) = refl
  reading_one (long most) (misshapen few b) = absurd (omega arith)
  reading_one (long most) (outside {w = w} b off) = let few = few_bytes w bs b in absurd (omega arith)
  reading_one (misshapen few a) (width {w = w} b m k) = absurd (a.broken (w, b))
  reading_one (misshapen few a) (long most) = absurd (omega arith)
  reading_one (misshapen {i = i} few a) (misshapen {i = n} less b) = ap (λ p. Err (BrokenForm p)) (breaks_once WidthForm bs n i b a)
  reading_one (misshapen few a) (outside {w = w} b off) = absurd (a.broken (w, b))
  reading_one (outside {w = v} a off) (width {w = w} b m k) = let e = width_one v w bs a b in absurd (off (omega arith) (omega arith))
  reading_one (outside {w = v} a off) (long most) = let few = few_bytes v bs a in absurd (omega arith)
  reading_one (outside {w = v} a off) (misshapen few b) = absurd (b.broken (v, a))
  reading_one (outside a off) (outside b out) = refl

  -- the clauses of `read_width`
  pub told_reading : {r : Result ℕ Refusal} → WidthReading bs r → record { answer : WidthReading bs r; only : (s : Result ℕ Refusal) → WidthReading bs s → s ≡ r }
  told_reading a = record { answer = a; only = λ s. reading_one a }

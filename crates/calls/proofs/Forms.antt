-- Lines that are printed have the forms that the scanners read.
use Rattle.std.proofs.Common.{◌≡◌, ℕ, true, false, List, ◌∷◌, ◌++◌, decimal, refl}
use Rattle.std.specs.Prelude.{codes, ◌^◌, ◌<◌}
use Rattle.forms.specs.Keys.{KeyThen}
use Rattle.forms.specs.Parts.{SpaceBetween}
use Rattle.integers.specs.Naturals.{FormUpTo}
use Rattle.integers.proofs.Readings.{small_said}
use Rattle.calls.specs.Form.{by_count, by_bits, found, fuse, retire, move, NoLine}

abbrev Number : List ℕ → Type 0
Number = FormUpTo 999999999

abbrev Then : (List ℕ → Type 0) → List ℕ → Type 0
Then Q = SpaceBetween Number Q

abbrev Chained : List ℕ → Type 0
Chained = KeyThen (codes "chain=") (λ after. Unit {0})

abbrev pub FoundForm : List ℕ → Type 0
FoundForm = KeyThen (codes "found ") (Then (Then Chained))

abbrev pub CountForm : List ℕ → Type 0
CountForm = KeyThen (codes "fuse ") (Then (KeyThen (codes "count ") Chained))

abbrev pub BitsForm : List ℕ → Type 0
BitsForm = KeyThen (codes "fuse ") (Then (Then (Then (Then (Then Chained)))))

abbrev pub RetireForm : List ℕ → Type 0
RetireForm = KeyThen (codes "retire ") Number

abbrev pub UpForm : List ℕ → Type 0
UpForm = KeyThen (codes "move ") (Then (Then Number))

abbrev pub DownForm : List ℕ → Type 0
DownForm = KeyThen (codes "move ") (Then (Then (KeyThen (codes "-") Number)))

keyed : (key : List ℕ) {F : List ℕ → Type 0} {bs : List ℕ} (rest : List ℕ) → bs ≡ key ++ rest → F rest → KeyThen key F bs
keyed key rest e is = record { rest = rest; whole = e; holds = is }

number : (n : ℕ) → n < 10 ^ 9 → Number (decimal n)
number n small = (n, small_said n small)

word : (n : ℕ) {F : List ℕ → Type 0} (rest : List ℕ) → n < 10 ^ 9 → F rest → Then F (decimal n ++ 32 ∷ rest)
word n rest small is = record { front = decimal n; back = rest; whole = refl; before = number n small; behind = is }

chain : (after : List ℕ) → Chained (codes "chain=" ++ after)
chain after = keyed (codes "chain=") after refl tt

module _ (bs : List ℕ) where
  pub none_with : (FoundForm bs → ⊥) → (CountForm bs → ⊥) → (BitsForm bs → ⊥) → NoLine true bs
  none_with no_found no_count no_bits (found code width after) e line =
      no_found (keyed (codes "found ") _ line.written (word code _ line.small.0 (word width _ line.small.1.0 (chain after))))
  none_with no_found no_count no_bits (fuse code by_count after) e line =
      no_count (keyed (codes "fuse ") _ line.written (word code _ line.small.0 (keyed (codes "count ") _ refl (chain after))))
  none_with no_found no_count no_bits (fuse code (by_bits u) after) e line =
      let s = line.small in
      no_bits (keyed (codes "fuse ") _ line.written (word code _ s.0 (word u.adds _ s.1.0 (word u.subtracts _ s.1.1.0 (word u.both _ s.1.1.1.0 (word u.two_to_one _ s.1.1.1.1.0 (chain after)))))))
  none_with no_found no_count no_bits (retire code) e line = absurd (cc)
  none_with no_found no_count no_bits (move code adder minus amount) e line = absurd (cc)

  pub none_without : (RetireForm bs → ⊥) → (UpForm bs → ⊥) → (DownForm bs → ⊥) → NoLine false bs
  none_without no_retire no_up no_down (found code width after) e line = absurd (cc)
  none_without no_retire no_up no_down (fuse code prices after) e line = absurd (cc)
  none_without no_retire no_up no_down (retire code) e line = no_retire (keyed (codes "retire ") _ line.written (number code line.small.0))
  none_without no_retire no_up no_down (move code adder false amount) e line =
      let s = line.small in
      no_up (keyed (codes "move ") _ line.written (word code _ s.0 (word adder _ s.1.0 (number amount s.1.1.0))))
  none_without no_retire no_up no_down (move code adder true amount) e line =
      let s = line.small in
      no_down (keyed (codes "move ") _ line.written (word code _ s.0 (word adder _ s.1.0 (keyed (codes "-") _ refl (number amount s.1.1.0)))))

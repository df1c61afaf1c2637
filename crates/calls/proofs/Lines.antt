-- What the scanners of a line say, as the line that is printed.
use Rattle.std.proofs.Common.{◌≡◌, ℕ, true, false, List, [], ◌∷◌, ◌++◌, decimal, sym, ap, ◌∙◌, append_assoc}
use Rattle.std.specs.Prelude.{codes}
use Rattle.forms.specs.Keys.{KeyThen}
use Rattle.forms.specs.Parts.{SpaceBetween}
use Rattle.integers.specs.Naturals.{NineDigits}
use Rattle.integers.proofs.Readings.{small_told}
use Rattle.prices.specs.declared.per_bit.UnitPrices.{UnitPrices}
use Rattle.calls.specs.Counts.{Counts, Ends}
use Rattle.calls.specs.Form.{Said, by_count, by_bits, found, fuse, retire, move, chain_line, CallLine}

-- a number, a space, and then what is read by Q
abbrev Then : ℕ → (List ℕ → Type 0) → List ℕ → Type 0
Then n Q = SpaceBetween (NineDigits n) Q

-- `chain=` and so many bytes
abbrev Chained : ℕ → List ℕ → Type 0
Chained n = KeyThen (codes "chain=") (λ after. Counts after n)

-- what is said by a line that ends in a chain with so many bytes behind `chain=`
pub record Told (says : List ℕ → Said) (n : ℕ) (bs : List ℕ) : Type 0 where
  pub after : List ℕ
  pub line : CallLine (says after) bs
  pub count : Counts after n
  pub ends : Ends (chain_line after) bs

module _ {tail bs : List ℕ} where
  alone : bs ≡ tail → Ends tail bs
  alone e = ([], e)

  behind_key : (key rest : List ℕ) → bs ≡ key ++ rest → Ends tail rest → Ends tail bs
  behind_key key rest whole e = (key ++ e.0, whole ∙ ap (λ l. key ++ l) e.1 ∙ sym (append_assoc key e.0 tail))

  behind_word : {n : ℕ} {Q : List ℕ → Type 0} (read : Then n Q bs) → Ends tail read.back → Ends tail bs
  behind_word read e = (read.front ++ 32 ∷ e.0, read.whole ∙ ap (λ l. read.front ++ 32 ∷ l) e.1 ∙ sym (append_assoc read.front (32 ∷ e.0) tail))

-- a number with what follows its space, which is printed so
word : {n : ℕ} {Q : List ℕ → Type 0} {bs printed : List ℕ} → (read : Then n Q bs) → read.back ≡ printed → bs ≡ decimal n ++ 32 ∷ printed
word read e = read.whole ∙ (λ i. read.before.written i ++ 32 ∷ e i)

module _ (bs : List ℕ) where
  pub told_found : {code width n : ℕ} → KeyThen (codes "found ") (Then code (Then width (Chained n))) bs → Told (found code width) n bs
  told_found line =
      let first = line.holds in
      let second = first.behind in
      let chain = second.behind in
      record {
        after = chain.rest;
        line = record {
          written = line.whole ∙ ap (λ l. codes "found " ++ l) (word first (word second chain.whole));
          small = (small_told first.before, (small_told second.before, tt));
        };
        count = chain.holds;
        ends = behind_key (codes "found ") _ line.whole (behind_word first (behind_word second (alone chain.whole)));
      }

  pub told_by_count : {code n : ℕ} → KeyThen (codes "fuse ") (Then code (KeyThen (codes "count ") (Chained n))) bs → Told (fuse code by_count) n bs
  told_by_count line =
      let first = line.holds in
      let second = first.behind in
      let chain = second.holds in
      record {
        after = chain.rest;
        line = record {
          written = line.whole ∙ ap (λ l. codes "fuse " ++ l) (word first (second.whole ∙ ap (λ l. codes "count " ++ l) chain.whole));
          small = (small_told first.before, tt);
        };
        count = chain.holds;
        ends = behind_key (codes "fuse ") _ line.whole (behind_word first (behind_key (codes "count ") _ second.whole (alone chain.whole)));
      }

  pub told_by_bits : {code n : ℕ} (u : UnitPrices) → KeyThen (codes "fuse ") (Then code (Then u.adds (Then u.subtracts (Then u.both (Then u.two_to_one (Chained n)))))) bs → Told (fuse code (by_bits u)) n bs
  told_by_bits u line =
      let first = line.holds in
      let second = first.behind in
      let third = second.behind in
      let fourth = third.behind in
      let fifth = fourth.behind in
      let chain = fifth.behind in
      record {
        after = chain.rest;
        line = record {
          written = line.whole ∙ ap (λ l. codes "fuse " ++ l) (word first (word second (word third (word fourth (word fifth chain.whole)))));
          small = (small_told first.before, (small_told second.before, (small_told third.before, (small_told fourth.before, (small_told fifth.before, tt)))));
        };
        count = chain.holds;
        ends = behind_key (codes "fuse ") _ line.whole (behind_word first (behind_word second (behind_word third (behind_word fourth (behind_word fifth (alone chain.whole))))));
      }

  pub told_retire : {code : ℕ} → KeyThen (codes "retire ") (NineDigits code) bs → CallLine (retire code) bs
  told_retire line = record { written = line.whole ∙ ap (λ l. codes "retire " ++ l) line.holds.written; small = (small_told line.holds, tt) }

  pub told_up : {code adder amount : ℕ} → KeyThen (codes "move ") (Then code (Then adder (NineDigits amount))) bs → CallLine (move code adder false amount) bs
  told_up line =
      let first = line.holds in
      let second = first.behind in
      record {
        written = line.whole ∙ ap (λ l. codes "move " ++ l) (word first (word second second.behind.written));
        small = (small_told first.before, (small_told second.before, (small_told second.behind, tt)));
      }

  pub told_down : {code adder amount : ℕ} → KeyThen (codes "move ") (Then code (Then adder (KeyThen (codes "-") (NineDigits amount)))) bs → CallLine (move code adder true amount) bs
  told_down line =
      let first = line.holds in
      let second = first.behind in
      let third = second.behind in
      record {
        written = line.whole ∙ ap (λ l. codes "move " ++ l) (word first (word second (third.whole ∙ ap (λ l. codes "-" ++ l) third.holds.written)));
        small = (small_told first.before, (small_told second.before, (small_told third.holds, tt)));
      }

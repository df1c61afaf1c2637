-- A line is read in one way, and answered one thing.
use Rattle.std.proofs.Common.{◌≡◌, ℕ, ◌^◌, ◌<◌, Bool, true, false, inl, inr, List, [], ◌++◌, get_or, decimal, Some, None, Ok, Err, Result, sym, refl, ap, ◌∙◌, subst, arith}
use Rattle.std.specs.Prelude.{codes}
use Rattle.std.proofs.lemmas.List.{append_cancel_left}
use Rattle.std.proofs.lemmas.Fmt.{decimal_injective}
use denote.Struct.Record.{values_one}
use Rattle.adders.specs.declared.refusals.Refusal.{Refusal}
use Rattle.adders.specs.Rules.{first_broken}
use Rattle.adders.proofs.Broken.{some_none}
use Rattle.integers.specs.Decimals.{digit_byte}
use Rattle.integers.proofs.Readings.{number_before_space}
use Rattle.integers.proofs.Texts.{first_byte}
use Rattle.chains.specs.declared.model.Chain.{Chain}
use Rattle.chains.proofs.Answering as answering
use Rattle.prices.specs.contracts.per_bit.UnitPrices as units
use Rattle.prices.specs.contracts.per_bit.PerBitList.{struct, the_propositions}
use Rattle.prices.specs.declared.per_bit.UnitPrices.{UnitPrices}
use Rattle.prices.specs.PerBit.{unit_rules}
use Rattle.prices.specs.declared.per_bit.PerBitList.{PerBitList}
use Rattle.prices.specs.declared.either.EitherList.TheVariants.{First, Second}
use Rattle.calls.specs.declared.call.Call.{Call}
use Rattle.calls.specs.declared.call.Call.TheVariants.{Found, Fuse}
use Rattle.calls.specs.declared.call.Unread.{Unread}
use Rattle.calls.specs.declared.call.Unread.TheVariants.{Unreadable, Refused}
use Rattle.calls.specs.Form.{Said, Prices, by_count, by_bits, found, fuse, retire, move, chain_line, priced, amount_text, CallLine, SuppliedList, Answer, ByChain, ByUnits, Meant, AnswerTo, Reading}
use Rattle.calls.proofs.Lines.{Told}

-- The third byte tells the four kinds of line apart.
abbrev letter : Said → ℕ
letter (found code width after) = 117
letter (fuse code prices after) = 115
letter (retire code) = 116
letter (move code adder minus amount) = 118

letter_there : (s : Said) (bs : List ℕ) → CallLine s bs → get_or bs 2 0 ≡ letter s
letter_there (found code width after) bs line = ap (λ l. get_or l 2 0) line.written
letter_there (fuse code prices after) bs line = ap (λ l. get_or l 2 0) line.written
letter_there (retire code) bs line = ap (λ l. get_or l 2 0) line.written
letter_there (move code adder minus amount) bs line = ap (λ l. get_or l 2 0) line.written

-- What stands behind the code, and behind the adder.
chain_one : (x y : List ℕ) → chain_line x ≡ chain_line y → x ≡ y
chain_one x y e = append_cancel_left (codes "chain=") x y e

-- no unit price is the word `count`
no_count : (n : ℕ) (x y : List ℕ) → n < 10 ^ 9 → codes "count " ++ x ≡ decimal n ++ y → ⊥
no_count n x y small e = let digit = first_byte n 99 y (codes "ount " ++ x) (omega arith) (sym e) in omega (arith, digit.1)

abbrev Small : Prices → Type 0
Small by_count = Unit {0}
Small (by_bits u) = (u.adds < 10 ^ 9) × (u.subtracts < 10 ^ 9) × (u.both < 10 ^ 9) × (u.two_to_one < 10 ^ 9)

prices_one : (p q : Prices) (x y : List ℕ) → Small p → Small q → priced p x ≡ priced q y → (p ≡ q) × (x ≡ y)
prices_one by_count by_count x y a b e = (refl, append_cancel_left (codes "count ") x y e)
prices_one by_count (by_bits v) x y a b e = absurd (no_count v.adds _ _ b.0 e)
prices_one (by_bits u) by_count x y a b e = absurd (no_count u.adds _ _ a.0 (sym e))
prices_one (by_bits u) (by_bits v) x y a b e =
    let first = number_before_space u.adds v.adds _ _ a.0 b.0 e in
    let second = number_before_space u.subtracts v.subtracts _ _ a.1 b.1 first.1 in
    let third = number_before_space u.both v.both _ _ a.2 b.2 second.1 in
    let fourth = number_before_space u.two_to_one v.two_to_one _ _ a.3 b.3 third.1 in
    (λ i. by_bits (record { adds = first.0 i; subtracts = second.0 i; both = third.0 i; two_to_one = fourth.0 i }), fourth.1)

-- a number without a sign does not begin with a minus
no_minus : (m n : ℕ) → n < 10 ^ 9 → codes "-" ++ decimal m ≡ decimal n → ⊥
no_minus m n small e = let digit = digit_byte n 45 [] (decimal m) (omega arith) e in omega (arith, digit.0)

amount_one : (a b : Bool) (m n : ℕ) → m < 10 ^ 9 → n < 10 ^ 9 → amount_text a m ≡ amount_text b n → (a ≡ b) × (m ≡ n)
amount_one true true m n small low e = (refl, decimal_injective m n (omega arith) (omega arith) (append_cancel_left (codes "-") _ _ e))
amount_one true false m n small low e = absurd (no_minus m n low e)
amount_one false true m n small low e = absurd (no_minus n m small (sym e))
amount_one false false m n small low e = (refl, decimal_injective m n (omega arith) (omega arith) e)

small_prices : (code : ℕ) (p : Prices) (after bs : List ℕ) → CallLine (fuse code p after) bs → Small p
small_prices code by_count after bs line = tt
small_prices code (by_bits u) after bs line = let s = line.small in (s.1.0, s.1.1.0, s.1.1.1.0, s.1.1.1.1.0)

module _ (bs : List ℕ) where
  letters : (s t : Said) → CallLine s bs → CallLine t bs → letter s ≡ letter t
  letters s t a b = sym (letter_there s bs a) ∙ letter_there t bs b

  line_one : (s t : Said) → CallLine s bs → CallLine t bs → s ≡ t
  line_one (found c w x) (found d v y) a b =
      let first = number_before_space c d _ _ a.small.0 b.small.0 (append_cancel_left (codes "found ") _ _ (sym a.written ∙ b.written)) in
      let second = number_before_space w v _ _ a.small.1.0 b.small.1.0 first.1 in
      let third = chain_one x y second.1 in
      λ i. found (first.0 i) (second.0 i) (third i)
  line_one (fuse c p x) (fuse d q y) a b =
      let first = number_before_space c d _ _ a.small.0 b.small.0 (append_cancel_left (codes "fuse ") _ _ (sym a.written ∙ b.written)) in
      let second = prices_one p q _ _ (small_prices c p x bs a) (small_prices d q y bs b) first.1 in
      let third = chain_one x y second.1 in
      λ i. fuse (first.0 i) (second.0 i) (third i)
  line_one (retire c) (retire d) a b =
      let low = a.small.0 in
      let small = b.small.0 in
      ap retire (decimal_injective c d (omega arith) (omega arith) (append_cancel_left (codes "retire ") _ _ (sym a.written ∙ b.written)))
  line_one (move c j n m) (move d k o l) a b =
      let first = number_before_space c d _ _ a.small.0 b.small.0 (append_cancel_left (codes "move ") _ _ (sym a.written ∙ b.written)) in
      let second = number_before_space j k _ _ a.small.1.0 b.small.1.0 first.1 in
      let third = amount_one n o m l a.small.1.1.0 b.small.1.1.0 second.1 in
      λ i. move (first.0 i) (second.0 i) (third.0 i) (third.1 i)
  line_one (found c w x) (fuse d q y) a b = let e = letters (found c w x) (fuse d q y) a b in absurd (omega arith)
  line_one (found c w x) (retire d) a b = let e = letters (found c w x) (retire d) a b in absurd (omega arith)
  line_one (found c w x) (move d k o l) a b = let e = letters (found c w x) (move d k o l) a b in absurd (omega arith)
  line_one (fuse c p x) (found d v y) a b = let e = letters (fuse c p x) (found d v y) a b in absurd (omega arith)
  line_one (fuse c p x) (retire d) a b = let e = letters (fuse c p x) (retire d) a b in absurd (omega arith)
  line_one (fuse c p x) (move d k o l) a b = let e = letters (fuse c p x) (move d k o l) a b in absurd (omega arith)
  line_one (retire c) (found d v y) a b = let e = letters (retire c) (found d v y) a b in absurd (omega arith)
  line_one (retire c) (fuse d q y) a b = let e = letters (retire c) (fuse d q y) a b in absurd (omega arith)
  line_one (retire c) (move d k o l) a b = let e = letters (retire c) (move d k o l) a b in absurd (omega arith)
  line_one (move c j n m) (found d v y) a b = let e = letters (move c j n m) (found d v y) a b in absurd (omega arith)
  line_one (move c j n m) (fuse d q y) a b = let e = letters (move c j n m) (fuse d q y) a b in absurd (omega arith)
  line_one (move c j n m) (retire d) a b = let e = letters (move c j n m) (retire d) a b in absurd (omega arith)

-- What is said is answered one thing.
ok_one : {A E : Type 0} (x y : A) → ◌≡◌ {A = Result A E} (Ok x) (Ok y) → x ≡ y
ok_one x y e = cc

err_one : {A E : Type 0} (x y : E) → ◌≡◌ {A = Result A E} (Err x) (Err y) → x ≡ y
err_one x y e = cc

ok_err : {A E : Type 0} (x : A) (e : E) → ◌≡◌ {A = Result A E} (Ok x) (Err e) → ⊥
ok_err x e h = absurd (cc)

some_one : (x y : Refusal) → Some x ≡ Some y → x ≡ y
some_one x y e = cc

chain_answer : (line : List ℕ) (call : Chain → Call SuppliedList) (r q : Answer) → ByChain line call r → ByChain line call q → q ≡ r
chain_answer line call (Ok x) (Ok y) a b = ap Ok (b.2 ∙ ap call (ok_one b.0 a.0 (answering.reading_one a.1 b.1)) ∙ sym a.2)
chain_answer line call (Ok x) (Err e) a b = absurd (ok_err a.0 e (sym (answering.reading_one a.1 b)))
chain_answer line call (Err d) (Ok y) a b = absurd (ok_err b.0 d (answering.reading_one a b.1))
chain_answer line call (Err d) (Err e) a b = ap Err (err_one e d (answering.reading_one a b))

same_list : (l k : PerBitList) → l.units ≡ k.units → l ≡ k
same_list l k e = values_one struct (the_propositions (units.the_row).coded) l k (λ i. (e i, tt))

units_answer : (u : UnitPrices) (line : List ℕ) (call : PerBitList → Chain → Call SuppliedList) (r q : Answer) → ByUnits u line call r → ByUnits u line call q → q ≡ r
units_answer u line call (Ok x) (Ok y) a b =
    let same = same_list b.1.0 a.1.0 (b.1.1 ∙ sym a.1.1) in
    chain_answer line (call a.1.0) (Ok x) (Ok y) a.1.2 (subst (λ l. ByChain line (call l) (Ok y)) same b.1.2)
units_answer u line call (Ok x) (Err e) a (inl b) = absurd (some_none (sym b ∙ a.0))
units_answer u line call (Ok x) (Err e) a (inr b) = chain_answer line (call a.1.0) (Ok x) (Err e) a.1.2 b.1
units_answer u line call (Err d) (Ok y) (inl a) b = absurd (some_none (sym a ∙ b.0))
units_answer u line call (Err d) (Ok y) (inr a) b = chain_answer line (call b.1.0) (Err d) (Ok y) a.1 b.1.2
units_answer u line call (Err d) (Err e) (inl a) (inl b) = ap Err (some_one e d (sym b ∙ a))
units_answer u line call (Err d) (Err e) (inl a) (inr b) = absurd (some_none (sym a ∙ b.0))
units_answer u line call (Err d) (Err e) (inr a) (inl b) = absurd (some_none (sym b ∙ a.0))
units_answer u line call (Err d) (Err e) (inr a) (inr b) = ap Err (err_one e d (answering.reading_one a.1 b.1))

pub units_told : (u : UnitPrices) (line : List ℕ) (call : PerBitList → Chain → Call SuppliedList) (list : PerBitList) (r : Answer) → (first_broken (unit_rules u) ≡ None) × (list.units ≡ u) → ByChain line (call list) r → ByUnits u line call r
units_told u line call list (Ok x) made is = (made.0, (list, made.1, is))
units_told u line call list (Err e) made is = inr (made.0, is)

-- What is read of a line with a chain, and answered of the chain.
module _ {bs line : List ℕ} {r : Answer} {code n : ℕ} where
  pub by_found : {width : ℕ} (t : Told (found code width) n bs) → line ≡ chain_line t.after → ByChain line (λ c. Found c code width) r → AnswerTo bs r
  by_found {width} t e is = (found code width t.after, t.line, subst (λ l. ByChain l (λ c. Found c code width) r) e is)

  pub by_fused : (t : Told (fuse code by_count) n bs) → line ≡ chain_line t.after → ByChain line (λ c. Fuse c code (First (record {}))) r → AnswerTo bs r
  by_fused t e is = (fuse code by_count t.after, t.line, subst (λ l. ByChain l (λ c. Fuse c code (First (record {}))) r) e is)

  pub by_units : (u : UnitPrices) (t : Told (fuse code (by_bits u)) n bs) → line ≡ chain_line t.after → ByUnits u line (λ list c. Fuse c code (Second list)) r → AnswerTo bs r
  by_units u t e is = (fuse code (by_bits u) t.after, t.line, subst (λ l. ByUnits u l (λ list c. Fuse c code (Second list)) r) e is)

meant_one : (s : Said) (r q : Answer) → Meant s r → Meant s q → q ≡ r
meant_one (found code width after) r q a b = chain_answer _ _ r q a b
meant_one (fuse code by_count after) r q a b = chain_answer _ _ r q a b
meant_one (fuse code (by_bits u) after) r q a b = units_answer u _ _ r q a b
meant_one (retire code) r q a b = b ∙ sym a
meant_one (move code adder minus amount) r q a b = b ∙ sym a

abbrev told : Answer → Result (Call SuppliedList) Unread
told (Ok x) = Ok x
told (Err e) = Err (Refused e)

module _ (bs : List ℕ) where
  answered_one : (r q : Answer) → AnswerTo bs r → AnswerTo bs q → q ≡ r
  answered_one r q a b = meant_one a.0 r q a.2 (subst (λ s. Meant s q) (line_one bs b.0 a.0 b.1 a.1) b.2)

  pub reading_one : (r s : Result (Call SuppliedList) Unread) → Reading bs r → Reading bs s → s ≡ r
  reading_one (Ok x) (Ok y) a b = ap told (answered_one (Ok x) (Ok y) a b)
  reading_one (Ok x) (Err (Refused e)) a b = ap told (answered_one (Ok x) (Err e) a b)
  reading_one (Ok x) (Err Unreadable) a b = absurd (b a.0 a.1)
  reading_one (Err (Refused d)) (Ok y) a b = ap told (answered_one (Err d) (Ok y) a b)
  reading_one (Err (Refused d)) (Err (Refused e)) a b = ap told (answered_one (Err d) (Err e) a b)
  reading_one (Err (Refused d)) (Err Unreadable) a b = absurd (b a.0 a.1)
  reading_one (Err Unreadable) (Ok y) a b = absurd (a b.0 b.1)
  reading_one (Err Unreadable) (Err (Refused e)) a b = absurd (a b.0 b.1)
  reading_one (Err Unreadable) (Err Unreadable) a b = refl

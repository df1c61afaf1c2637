-- What a reader takes from the front is the text of what it answers.
use Rattle.std.proofs.Common.{◌≡◌, ℕ, zero, suc, ◌+◌, ◌*◌, ◌/◌, ◌%◌, ◌<◌, ◌≤◌, Bool, true, false, cond, eqb, List, [], ◌∷◌, ◌++◌, length, Some, None, Option, sym, refl, ap, ◌∙◌, subst, append_assoc, ⊎_elim, arith}
use Rattle.std.specs.Prelude.{codes}
use Rattle.std.proofs.lemmas.Fmt.{decimal_digit, decimal_step}
use Rattle.std.proofs.lemmas.List.{length-append}
use Rattle.std.proofs.lemmas.Bool.{cases_lt, lt-ltb, le-ltb, eqb-true, eqb-false}
use Rattle.forms.specs.Digits.{digit}
use Rattle.forms.proofs.Digits.{digit_some}
use Rattle.adders.specs.declared.wiring.Operand.{Operand}
use Rattle.adders.proofs.Broken.{some_none}
use Rattle.adders.specs.declared.wiring.Sign.{Sign}
use Rattle.adders.specs.declared.wiring.Sign.TheVariants.{Plus, Minus}
use Rattle.ports.specs.declared.port.Port.{Port}
use Rattle.ports.specs.declared.port.Port.TheVariants.{Left, Right, Output}
use Rattle.texts.specs.declared.selection.Selection.{Selection}
use Rattle.texts.specs.Text.{number, number_line, operand, more_inputs, input_list, port_key, port_line, mark, entry, entries, code_key, selections, Small, AllSmall, SmallEntry, AllSmallEntries}
use Rattle.texts.specs.Steps.{◌>>=◌, Read}
use Rattle.texts.specs.Pieces.{skip, if_next, some_read, digit_at, second_digit, number_at, operand_at, more_within, more_at, input_list_at, side_at, port_key_at, port_line_at, number_line_at, sign_at, selection_at, entry_at, entries_at, selections_at}
use Rattle.texts.proofs.Skips.{skip_takes}

-- the value of a step that read something
pub bind_some : {A B : Type 0} (o : Option A) (f : A → Option B) (y : B) → (o >>= f) ≡ Some y → (x : A) × (o ≡ Some x) × (f x ≡ Some y)
bind_some None f y e = absurd (some_none (sym e))
bind_some (Some x) f y e = (x, refl, e)

-- a test that passed
pub chosen : {A : Type 0} (b : Bool) (x : Option A) (y : A) → cond b x None ≡ Some y → (b ≡ true) × (x ≡ Some y)
chosen true x y e = (refl, e)
chosen false x y e = absurd (some_none (sym e))

pub some_is : {A : Type 0} (x y : A) → ◌≡◌ {A = Option A} (Some x) (Some y) → x ≡ y
some_is x y e = cc

digit_takes : (text : List ℕ) (x : ℕ × List ℕ) → digit_at text ≡ Some x → (text ≡ (48 + x.0) ∷ x.1) × (x.0 ≤ 9)
digit_takes [] x e = absurd (some_none (sym e))
digit_takes (b ∷ bs) x e =
    let s = bind_some (digit b) (λ d. Some (d, bs)) x e in
    let d = digit_some b s.0 s.1 in
    let same = some_is (s.0, bs) x s.2 in
    subst (λ y. (b ∷ bs ≡ (48 + y.0) ∷ y.1) × (y.0 ≤ 9)) same (ap (λ c. c ∷ bs) d.0, d.1)

-- one digit or two
module _ (n : ℕ) where
  pub one_digit : n < 10 → number n ≡ (48 + n) ∷ []
  one_digit h = decimal_digit n h

  pub two_digits : 10 ≤ n → n ≤ 99 → number n ≡ (48 + n / 10) ∷ (48 + n % 10) ∷ []
  two_digits low high = decimal_step n low (omega arith) ∙ ap (λ l. l ++ (48 + n % 10) ∷ []) (decimal_digit (n / 10) (omega arith))

-- the key of a code of two digits
pub code_key_is : (c : ℕ) → c ≤ 99 → code_key c ≡ 115 ∷ (48 + c / 10) ∷ (48 + c % 10) ∷ 61 ∷ []
code_key_is c few = ⊎_elim {C = code_key c ≡ 115 ∷ (48 + c / 10) ∷ (48 + c % 10) ∷ 61 ∷ []} one two (cases_lt c 10)
  where
    key : List ℕ → List ℕ
    key digits = 115 ∷ (digits ++ 61 ∷ [])

    one : c < 10 → code_key c ≡ 115 ∷ (48 + c / 10) ∷ (48 + c % 10) ∷ 61 ∷ []
    one h =
        let tens : 0 ≡ c / 10 = omega arith in
        let units : c ≡ c % 10 = omega arith in
        ap (λ b. key (cond b (48 ∷ number c) (number c))) (lt-ltb c 10 h) ∙ ap (λ l. key (48 ∷ l)) (one_digit c h) ∙ (λ i. 115 ∷ (48 + tens i) ∷ (48 + units i) ∷ 61 ∷ [])

    two : 10 ≤ c → code_key c ≡ 115 ∷ (48 + c / 10) ∷ (48 + c % 10) ∷ 61 ∷ []
    two h = ap (λ b. key (cond b (48 ∷ number c) (number c))) (le-ltb c 10 h) ∙ ap key (two_digits c h few)

pub number_takes : (text : List ℕ) (x : ℕ × List ℕ) → number_at text ≡ Some x → (text ≡ number x.0 ++ x.1) × (x.0 ≤ 99)
unfolding number_at
number_takes text x e =
    let s = bind_some (digit_at text) (λ first. cond (eqb first.0 0) (Some first) (second_digit first (digit_at first.1))) x e in
    let d = digit_takes text s.0 s.1 in
    by s.0 d.0 d.1 (eqb s.0.0 0) refl s.2
  where
    alone : (first : ℕ × List ℕ) → text ≡ (48 + first.0) ∷ first.1 → first.0 ≤ 9 → first ≡ x → (text ≡ number x.0 ++ x.1) × (x.0 ≤ 99)
    alone first t h same = subst (λ y. (text ≡ number y.0 ++ y.1) × (y.0 ≤ 99)) same (t ∙ ap (λ l. l ++ first.1) (sym (one_digit first.0 (omega arith))), omega arith)

    second : (first : ℕ × List ℕ) → text ≡ (48 + first.0) ∷ first.1 → first.0 ≤ 9 → (1 ≤ first.0) → (r : Read ℕ) → digit_at first.1 ≡ r → second_digit first r ≡ Some x → (text ≡ number x.0 ++ x.1) × (x.0 ≤ 99)
    second first t h some None came e = alone first t h (some_is first x e)
    second first t h some (Some ones) came e =
        let d = digit_takes first.1 ones came in
        let n = 10 * first.0 + ones.0 in
        let tens : n / 10 ≡ first.0 = omega (arith, d.1) in
        let units : n % 10 ≡ ones.0 = omega (arith, d.1) in
        let low : 10 ≤ n = omega arith in
        let high : n ≤ 99 = omega (arith, d.1) in
        let text_is : text ≡ number n ++ ones.1 = t ∙ ap (λ l. (48 + first.0) ∷ l) d.0 ∙ ap (λ l. l ++ ones.1) (ap (λ k. (48 + k) ∷ (48 + ones.0) ∷ []) (sym tens) ∙ ap (λ k. (48 + n / 10) ∷ (48 + k) ∷ []) (sym units) ∙ sym (two_digits n low high)) in
        subst (λ y. (text ≡ number y.0 ++ y.1) × (y.0 ≤ 99)) (some_is (n, ones.1) x e) (text_is, high)

    by : (first : ℕ × List ℕ) → text ≡ (48 + first.0) ∷ first.1 → first.0 ≤ 9 → (b : Bool) → eqb first.0 0 ≡ b → cond b (Some first) (second_digit first (digit_at first.1)) ≡ Some x → (text ≡ number x.0 ++ x.1) × (x.0 ≤ 99)
    by first t h true same e = alone first t h (some_is first x e)
    by first t h false same e = second first t h (omega (arith, eqb-false first.0 0 same)) (digit_at first.1) refl e

pub operand_takes : (text : List ℕ) (x : Operand × List ℕ) → operand_at text ≡ Some x → (text ≡ operand x.0 ++ x.1) × Small x.0
unfolding operand_at
operand_takes text x e =
    let a = bind_some _ _ x e in
    let b = bind_some _ _ x a.2 in
    let c = bind_some _ _ x b.2 in
    let source = number_takes text a.0 a.1 in
    let dot = skip_takes (46 ∷ []) a.0.1 b.0 b.1 in
    let shift = number_takes b.0 c.0 c.1 in
    let o : Operand = record { source = a.0.0; shift = c.0.0 } in
    let whole : text ≡ operand o ++ c.0.1 = source.0 ∙ ap (λ l. number a.0.0 ++ l) (dot ∙ ap (λ l. 46 ∷ l) shift.0) ∙ sym (append_assoc (number a.0.0) (46 ∷ number c.0.0) c.0.1) in
    subst (λ (y : Operand × List ℕ). (text ≡ operand y.0 ++ y.1) × Small y.0) (some_is (o, c.0.1) x c.2) (whole, (source.1, shift.1))

pub operand_shorter : (text : List ℕ) (x : Operand × List ℕ) → operand_at text ≡ Some x → length x.1 ≤ length text
operand_shorter text x e = omega (arith, ap length (operand_takes text x e).0, length-append (operand x.0) x.1)

pub skip_shorter : (key text rest : List ℕ) → skip key text ≡ Some rest → length text ≡ length key + length rest
skip_shorter key text rest e = ap length (skip_takes key text rest e) ∙ length-append key rest

pub more_take : (n : ℕ) (text : List ℕ) (x : List Operand × List ℕ) → more_within n text ≡ Some x → (text ≡ more_inputs x.0 ++ x.1) × AllSmall x.0
unfolding more_within
more_take zero text x e = absurd (some_none (sym e))
more_take (suc n) text x e = by (skip (32 ∷ []) text) refl e (more_take n)
  where
    by : (o : Option (List ℕ)) → skip (32 ∷ []) text ≡ o
        → if_next o (Some ([], text)) (λ rest. operand_at rest >>= λ o. more_within n o.1 >>= λ os. Some (o.0 ∷ os.0, os.1)) ≡ Some x
        → ((t : List ℕ) (y : List Operand × List ℕ) → more_within n t ≡ Some y → (t ≡ more_inputs y.0 ++ y.1) × AllSmall y.0)
        → (text ≡ more_inputs x.0 ++ x.1) × AllSmall x.0
    by None came e more = subst (λ (y : List Operand × List ℕ). (text ≡ more_inputs y.0 ++ y.1) × AllSmall y.0) (some_is ([], text) x e) (refl, tt)
    by (Some rest) came e more =
        let a = bind_some _ _ x e in
        let b = bind_some _ _ x a.2 in
        let first = operand_takes rest a.0 a.1 in
        let others = more a.0.1 b.0 b.1 in
        let whole : text ≡ more_inputs (a.0.0 ∷ b.0.0) ++ b.0.1 = skip_takes (32 ∷ []) text rest came ∙ ap (λ l. 32 ∷ l) (first.0 ∙ ap (λ l. operand a.0.0 ++ l) others.0 ∙ sym (append_assoc (operand a.0.0) (more_inputs b.0.0) b.0.1)) in
        subst (λ (y : List Operand × List ℕ). (text ≡ more_inputs y.0 ++ y.1) × AllSmall y.0) (some_is (a.0.0 ∷ b.0.0, b.0.1) x b.2) (whole, (first.1, others.1))

pub input_list_takes : (text : List ℕ) (x : List Operand × List ℕ) → input_list_at text ≡ Some x → (text ≡ input_list x.0 ++ (10 ∷ x.1)) × AllSmall x.0
unfolding input_list_at
input_list_takes text x e = by (skip (10 ∷ []) text) refl e
  where
    by : (o : Option (List ℕ)) → skip (10 ∷ []) text ≡ o
        → if_next o (operand_at text >>= λ o. more_at o.1 >>= λ os. skip (10 ∷ []) os.1 >>= λ rest. Some (o.0 ∷ os.0, rest)) (λ rest. Some ([], rest)) ≡ Some x
        → (text ≡ input_list x.0 ++ (10 ∷ x.1)) × AllSmall x.0
    by (Some rest) came e = subst (λ (y : List Operand × List ℕ). (text ≡ input_list y.0 ++ (10 ∷ y.1)) × AllSmall y.0) (some_is ([], rest) x e) (skip_takes (10 ∷ []) text rest came, tt)
    by None came e =
        let a = bind_some _ _ x e in
        let b = bind_some _ _ x a.2 in
        let c = bind_some _ _ x b.2 in
        let first = operand_takes text a.0 a.1 in
        let others = more_take (suc (length a.0.1)) a.0.1 b.0 b.1 in
        let whole : text ≡ input_list (a.0.0 ∷ b.0.0) ++ (10 ∷ c.0) =
        first.0 ∙ ap (λ l. operand a.0.0 ++ l) (others.0 ∙ ap (λ l. more_inputs b.0.0 ++ l) (skip_takes (10 ∷ []) b.0.1 c.0 c.1)) ∙ sym (append_assoc (operand a.0.0) (more_inputs b.0.0) (10 ∷ c.0)) in
        subst (λ (y : List Operand × List ℕ). (text ≡ input_list y.0 ++ (10 ∷ y.1)) × AllSmall y.0) (some_is (a.0.0 ∷ b.0.0, c.0) x c.2) (whole, (first.1, others.1))

pub side_takes : (j : ℕ) (key text rest : List ℕ) → side_at j key text ≡ Some rest → text ≡ (number j ++ key) ++ rest
unfolding side_at
side_takes j key text rest e =
    let a = bind_some _ _ rest e in
    let c = chosen (eqb a.0.0 j) (skip key a.0.1) rest a.2 in
    (number_takes text a.0 a.1).0 ∙ ap (λ n. number n ++ a.0.1) (eqb-true a.0.0 j c.0) ∙ ap (λ l. number j ++ l) (skip_takes key a.0.1 rest c.1) ∙ sym (append_assoc (number j) key rest)

pub port_key_takes : (p : Port) (text rest : List ℕ) → port_key_at p text ≡ Some rest → text ≡ port_key p ++ rest
port_key_takes (Left j) text rest e = side_takes j (codes "L=") text rest e
port_key_takes (Right j) text rest e = side_takes j (codes "R=") text rest e
port_key_takes Output text rest e = skip_takes (codes "out=") text rest e

pub port_line_takes : (p : Port) (text : List ℕ) (x : List Operand × List ℕ) → port_line_at p text ≡ Some x → (text ≡ port_line p x.0 ++ x.1) × AllSmall x.0
unfolding port_line_at
port_line_takes p text x e =
    let a = bind_some _ _ x e in
    let l = input_list_takes a.0 x a.2 in (
      port_key_takes p text a.0 a.1 ∙ ap (λ t. port_key p ++ t) (l.0 ∙ sym (append_assoc (input_list x.0) (10 ∷ []) x.1)) ∙ sym (append_assoc (port_key p) (input_list x.0 ++ 10 ∷ []) x.1),
      l.1,
    )

pub number_line_takes : (key text : List ℕ) (x : ℕ × List ℕ) → number_line_at key text ≡ Some x → (text ≡ number_line key x.0 ++ x.1) × (x.0 ≤ 99)
unfolding number_line_at
number_line_takes key text x e =
    let a = bind_some _ _ x e in
    let b = bind_some _ _ x a.2 in
    let c = bind_some _ _ x b.2 in
    let n = number_takes a.0 b.0 b.1 in
    let whole : text ≡ number_line key b.0.0 ++ c.0 =
    skip_takes key text a.0 a.1 ∙ ap (λ l. key ++ l) (n.0 ∙ ap (λ l. number b.0.0 ++ l) (skip_takes (10 ∷ []) b.0.1 c.0 c.1) ∙ sym (append_assoc (number b.0.0) (10 ∷ []) c.0)) ∙ sym (append_assoc key (number b.0.0 ++ 10 ∷ []) c.0) in
    subst (λ (y : ℕ × List ℕ). (text ≡ number_line key y.0 ++ y.1) × (y.0 ≤ 99)) (some_is (b.0.0, c.0) x c.2) (whole, n.1)

sign_takes : (text : List ℕ) (x : Sign × List ℕ) → sign_at text ≡ Some x → text ≡ mark x.0 ∷ x.1
sign_takes text x e = by (skip (43 ∷ []) text) refl e
  where
    by : (o : Option (List ℕ)) → skip (43 ∷ []) text ≡ o → if_next o (skip (45 ∷ []) text >>= λ rest. Some (Minus, rest)) (λ rest. Some (Plus, rest)) ≡ Some x → text ≡ mark x.0 ∷ x.1
    by (Some rest) came e = subst (λ (y : Sign × List ℕ). text ≡ mark y.0 ∷ y.1) (some_is (Plus, rest) x e) (skip_takes (43 ∷ []) text rest came)
    by None came e = let a = bind_some _ _ x e in subst (λ (y : Sign × List ℕ). text ≡ mark y.0 ∷ y.1) (some_is (Minus, a.0) x a.2) (skip_takes (45 ∷ []) text a.0 a.1)

selection_takes : (text : List ℕ) (x : Selection × List ℕ) → selection_at text ≡ Some x → (text ≡ entry (Some x.0) ++ x.1) × SmallEntry (Some x.0)
unfolding selection_at
selection_takes text x e =
    let a = bind_some _ _ x e in
    let b = bind_some _ _ x a.2 in
    let c = bind_some _ _ x b.2 in
    let d = bind_some _ _ x c.2 in
    let left = number_takes text a.0 a.1 in
    let right = number_takes b.0.1 c.0 c.1 in
    let s : Selection = record { left = a.0.0; sign = b.0.0; right = c.0.0 } in
    let whole : text ≡ entry (Some s) ++ d.0 =
    left.0 ∙ ap (λ l. number a.0.0 ++ l) (sign_takes a.0.1 b.0 b.1 ∙ ap (λ l. mark b.0.0 ∷ l) (right.0 ∙ ap (λ l. number c.0.0 ++ l) (skip_takes (32 ∷ []) c.0.1 d.0 d.1) ∙ sym (append_assoc (number c.0.0) (32 ∷ []) d.0)))
    ∙ sym (append_assoc (number a.0.0) (mark b.0.0 ∷ (number c.0.0 ++ 32 ∷ [])) d.0) in
    subst (λ (y : Selection × List ℕ). (text ≡ entry (Some y.0) ++ y.1) × SmallEntry (Some y.0)) (some_is (s, d.0) x d.2) (whole, (left.1, right.1))

entry_takes : (text : List ℕ) (x : Option Selection × List ℕ) → entry_at text ≡ Some x → (text ≡ entry x.0 ++ x.1) × SmallEntry x.0
entry_takes text x e = by (skip (codes "- ") text) refl e
  where
    by : (o : Option (List ℕ)) → skip (codes "- ") text ≡ o → if_next o (some_read (selection_at text)) (λ rest. Some (None, rest)) ≡ Some x → (text ≡ entry x.0 ++ x.1) × SmallEntry x.0
    by (Some rest) came e = subst (λ (y : Option Selection × List ℕ). (text ≡ entry y.0 ++ y.1) × SmallEntry y.0) (some_is (None, rest) x e) (skip_takes (codes "- ") text rest came, tt)
    by None came e = let a = bind_some _ _ x e in subst (λ (y : Option Selection × List ℕ). (text ≡ entry y.0 ++ y.1) × SmallEntry y.0) (some_is (Some a.0.0, a.0.1) x a.2) (selection_takes text a.0 a.1)

pub entries_take : (n : ℕ) (text : List ℕ) (x : List (Option Selection) × List ℕ) → entries_at n text ≡ Some x → (text ≡ entries x.0 ++ x.1) × (length x.0 ≡ n) × AllSmallEntries x.0
unfolding entries_at
entries_take zero text x e = subst (λ (y : List (Option Selection) × List ℕ). (text ≡ entries y.0 ++ y.1) × (length y.0 ≡ 0) × AllSmallEntries y.0) (some_is ([], text) x e) (refl, refl, tt)
entries_take (suc n) text x e =
    let a = bind_some _ _ x e in
    let b = bind_some _ _ x a.2 in
    let first = entry_takes text a.0 a.1 in
    let others = entries_take n a.0.1 b.0 b.1 in
    let whole : text ≡ entries (a.0.0 ∷ b.0.0) ++ b.0.1 = first.0 ∙ ap (λ l. entry a.0.0 ++ l) others.0 ∙ sym (append_assoc (entry a.0.0) (entries b.0.0) b.0.1) in
    subst (λ (y : List (Option Selection) × List ℕ). (text ≡ entries y.0 ++ y.1) × (length y.0 ≡ suc n) × AllSmallEntries y.0) (some_is (a.0.0 ∷ b.0.0, b.0.1) x b.2) (whole, ap suc others.1, (first.1, others.2))

pub selections_take : (n : ℕ) (text : List ℕ) (x : (List (Option Selection) × ℕ) × List ℕ) → selections_at n text ≡ Some x → (text ≡ selections x.0.0 x.0.1 ++ x.1) × (length x.0.0 ≡ n) × AllSmallEntries x.0.0 × (x.0.1 ≤ 99)
unfolding selections_at
selections_take n text x e =
    let a = bind_some _ _ x e in
    let b = bind_some _ _ x a.2 in
    let c = bind_some _ _ x b.2 in
    let es = entries_take n text a.0 a.1 in
    let out = number_takes a.0.1 b.0 b.1 in
    let whole : text ≡ selections a.0.0 b.0.0 ++ c.0 =
    es.0 ∙ ap (λ l. entries a.0.0 ++ l) (out.0 ∙ ap (λ l. number b.0.0 ++ l) (skip_takes (10 ∷ []) b.0.1 c.0 c.1) ∙ sym (append_assoc (number b.0.0) (10 ∷ []) c.0)) ∙ sym (append_assoc (entries a.0.0) (number b.0.0 ++ 10 ∷ []) c.0) in
    subst (λ (y : (List (Option Selection) × ℕ) × List ℕ). (text ≡ selections y.0.0 y.0.1 ++ y.1) × (length y.0.0 ≡ n) × AllSmallEntries y.0.0 × (y.0.1 ≤ 99)) (some_is ((a.0.0, b.0.0), c.0) x c.2) (whole, es.1, es.2, out.1)

-- What is written is read again, whatever follows it.
use Rattle.std.proofs.Common.{◌≡◌, ℕ, zero, suc, ◌+◌, ◌*◌, ◌/◌, ◌%◌, ◌<◌, ◌≤◌, Bool, true, false, cond, eqb, List, [], ◌∷◌, ◌++◌, length, Some, None, Option, sym, refl, ap, ◌∙◌, append_assoc, ⊎_elim, arith}
use Rattle.std.specs.Prelude.{codes}
use Rattle.std.proofs.lemmas.List.{length-append}
use Rattle.std.proofs.lemmas.Bool.{cases_lt, eq-eqb, ne_eqb}
use Rattle.std.proofs.lemmas.Bool.Decides.{nat_tests}
use Rattle.forms.specs.Digits.{digit}
use Rattle.adders.specs.declared.wiring.Operand.{Operand}
use Rattle.adders.specs.declared.wiring.Sign.{Sign}
use Rattle.adders.specs.declared.wiring.Sign.TheVariants.{Plus, Minus}
use Rattle.ports.specs.declared.port.Port.{Port}
use Rattle.ports.specs.declared.port.Port.TheVariants.{Left, Right, Output}
use Rattle.texts.specs.declared.selection.Selection.{Selection}
use Rattle.texts.specs.Text.{number, number_line, operand, more_inputs, input_list, port_key, port_line, mark, entry, entries, selections, Small, AllSmall, SmallEntry, AllSmallEntries}
use Rattle.texts.specs.Laws.{SmallPort}
use Rattle.texts.specs.Steps.{◌>>=◌, Read}
use Rattle.texts.specs.Pieces.{skip, if_next, some_read, digit_at, second_digit, number_at, operand_at, more_within, input_list_at, side_at, port_key_at, port_line_at, number_line_at, sign_at, selection_at, entry_at, entries_at, selections_at}
use Rattle.texts.proofs.Skips.{skip_again}
use Rattle.texts.proofs.Takes.{one_digit, two_digits}

-- no digit comes next
abbrev pub Ends : List ℕ → Type 0
Ends text = digit_at text ≡ None

digit_again : (d : ℕ) (rest : List ℕ) → d ≤ 9 → digit_at ((48 + d) ∷ rest) ≡ Some (d, rest)
digit_again d rest h = ap (λ o. o >>= λ d. Some (d, rest)) (is d h)
  where
    is : (d : ℕ) → d ≤ 9 → digit (48 + d) ≡ Some d
    is d h = grind (arith, nat_tests)

pub number_again : (n : ℕ) (rest : List ℕ) → n ≤ 99 → Ends rest → number_at (number n ++ rest) ≡ Some (n, rest)
unfolding number_at
number_again n rest small ends = ⊎_elim {C = number_at (number n ++ rest) ≡ Some (n, rest)} one two (cases_lt n 10)
  where
    goes_on : ℕ × List ℕ → Read ℕ
    goes_on first = cond (eqb first.0 0) (Some first) (second_digit first (digit_at first.1))

    alone : (b : Bool) (r : Read ℕ) → r ≡ None → cond b (Some (n, rest)) (second_digit (n, rest) r) ≡ Some (n, rest)
    alone true r e = refl
    alone false r e = ap (second_digit (n, rest)) e

    one : n < 10 → number_at (number n ++ rest) ≡ Some (n, rest)
    one h = ap (λ l. number_at (l ++ rest)) (one_digit n h) ∙ ap (λ r. r >>= goes_on) (digit_again n rest (omega arith)) ∙ alone (eqb n 0) (digit_at rest) ends

    two : 10 ≤ n → number_at (number n ++ rest) ≡ Some (n, rest)
    two h =
        let whole : 10 * (n / 10) + n % 10 ≡ n = omega arith in
        let some : eqb (n / 10) 0 ≡ false = ne_eqb (n / 10) 0 (λ e. omega arith) in
        ap (λ l. number_at (l ++ rest)) (two_digits n h small) ∙ ap (λ r. r >>= goes_on) (digit_again (n / 10) ((48 + n % 10) ∷ rest) (omega arith))
        ∙ ap (λ b. cond b (Some (n / 10, (48 + n % 10) ∷ rest)) (second_digit (n / 10, (48 + n % 10) ∷ rest) (digit_at ((48 + n % 10) ∷ rest)))) some
        ∙ ap (second_digit (n / 10, (48 + n % 10) ∷ rest)) (digit_again (n % 10) rest (omega arith)) ∙ ap (λ k. Some (k, rest)) whole

pub operand_again : (o : Operand) (rest : List ℕ) → Small o → Ends rest → operand_at (operand o ++ rest) ≡ Some (o, rest)
unfolding operand_at
operand_again o rest small ends =
    ap operand_at (append_assoc (number o.source) (46 ∷ number o.shift) rest)
    ∙ rw (number_again o.source (46 ∷ (number o.shift ++ rest)) small.0 refl, number_again o.shift rest small.1 ends) refl

-- what begins with a digit does not begin with a lower byte
pub no_digit : (k n : ℕ) (ks rest : List ℕ) → k < 48 → n ≤ 99 → skip (k ∷ ks) (number n ++ rest) ≡ None
no_digit k n ks rest h small = ⊎_elim {C = skip (k ∷ ks) (number n ++ rest) ≡ None} (λ l. ap (λ t. skip (k ∷ ks) (t ++ rest)) (one_digit n l) ∙ other (48 + n) rest (omega arith)) (λ g. ap (λ t. skip (k ∷ ks) (t ++ rest)) (two_digits n g small) ∙ other (48 + n / 10) ((48 + n % 10) ∷ rest) (omega arith)) (cases_lt n 10)
  where
    other : (b : ℕ) (bs : List ℕ) → 48 ≤ b → skip (k ∷ ks) (b ∷ bs) ≡ None
    other b bs g = ap (λ t. cond t (skip ks bs) None) (ne_eqb k b (λ e. omega arith))

-- no digit follows where another input or the end of the list does
more_ends : (os : List Operand) (rest : List ℕ) → Ends rest → Ends (more_inputs os ++ rest)
more_ends [] rest h = h
more_ends (o ∷ os) rest h = refl

more_again : (n : ℕ) (os : List Operand) (rest : List ℕ) → AllSmall os → Ends rest → skip (32 ∷ []) rest ≡ None → length os < n → more_within n (more_inputs os ++ rest) ≡ Some (os, rest)
unfolding more_within
more_again zero os rest small ends none h = absurd (omega arith)
more_again (suc n) [] rest small ends none h = ap (λ r. if_next r (Some ([], rest)) (λ t. operand_at t >>= λ o. more_within n o.1 >>= λ os. Some (o.0 ∷ os.0, os.1))) none
more_again (suc n) (o ∷ os) rest small ends none h =
    ap (λ t. operand_at t >>= λ o. more_within n o.1 >>= λ os. Some (o.0 ∷ os.0, os.1)) (append_assoc (operand o) (more_inputs os) rest)
    ∙ rw (operand_again o (more_inputs os ++ rest) small.0 (more_ends os rest ends), more_again n os rest small.1 ends none (omega arith)) refl

-- each input that follows takes one byte at least
more_long : (os : List Operand) → length os ≤ length (more_inputs os)
more_long [] = omega arith
more_long (o ∷ os) = omega (arith, more_long os, length-append (operand o) (more_inputs os))

pub input_list_again : (os : List Operand) (rest : List ℕ) → AllSmall os → input_list_at (input_list os ++ (10 ∷ rest)) ≡ Some (os, rest)
unfolding input_list_at
input_list_again [] rest small = refl
input_list_again (o ∷ os) rest small =
    let after = more_inputs os ++ (10 ∷ rest) in
    let regrouped : input_list (o ∷ os) ++ (10 ∷ rest) ≡ number o.source ++ (46 ∷ (number o.shift ++ after)) =
    append_assoc (operand o) (more_inputs os) (10 ∷ rest) ∙ append_assoc (number o.source) (46 ∷ number o.shift) after in
    let first : operand_at (number o.source ++ (46 ∷ (number o.shift ++ after))) ≡ Some (o, after) =
    ap operand_at (sym (append_assoc (number o.source) (46 ∷ number o.shift) after)) ∙ operand_again o after small.0 (more_ends os (10 ∷ rest) refl) in
    let enough : length os < suc (length after) = omega (arith, more_long os, length-append (more_inputs os) (10 ∷ rest)) in
    ap input_list_at regrouped
    ∙ rw (no_digit 10 o.source [] (46 ∷ (number o.shift ++ after)) (omega arith) small.0.0, first, more_again (suc (length after)) os (10 ∷ rest) small.1 refl refl enough) refl

side_again : (j : ℕ) (key rest : List ℕ) → j ≤ 99 → Ends (key ++ rest) → side_at j key ((number j ++ key) ++ rest) ≡ Some rest
unfolding side_at
side_again j key rest h ends =
    ap (side_at j key) (append_assoc (number j) key rest)
    ∙ ap (λ r. r >>= λ n. cond (eqb n.0 j) (skip key n.1) None) (number_again j (key ++ rest) h ends) ∙ ap (λ b. cond b (skip key (key ++ rest)) None) (eq-eqb j j refl) ∙ skip_again key rest

pub port_key_again : (p : Port) (rest : List ℕ) → SmallPort p → port_key_at p (port_key p ++ rest) ≡ Some rest
port_key_again (Left j) rest h = side_again j (codes "L=") rest h refl
port_key_again (Right j) rest h = side_again j (codes "R=") rest h refl
port_key_again Output rest h = skip_again (codes "out=") rest

pub port_line_again : (p : Port) (os : List Operand) (rest : List ℕ) → SmallPort p → AllSmall os → port_line_at p (port_line p os ++ rest) ≡ Some (os, rest)
unfolding port_line_at
port_line_again p os rest h small =
    ap (port_line_at p) (append_assoc (port_key p) (input_list os ++ 10 ∷ []) rest ∙ ap (λ t. port_key p ++ t) (append_assoc (input_list os) (10 ∷ []) rest))
    ∙ ap (λ r. r >>= input_list_at) (port_key_again p (input_list os ++ (10 ∷ rest)) h) ∙ input_list_again os rest small

pub number_line_again : (key : List ℕ) (n : ℕ) (rest : List ℕ) → n ≤ 99 → number_line_at key (number_line key n ++ rest) ≡ Some (n, rest)
unfolding number_line_at
number_line_again key n rest small =
    ap (number_line_at key) (append_assoc key (number n ++ 10 ∷ []) rest ∙ ap (λ t. key ++ t) (append_assoc (number n) (10 ∷ []) rest))
    ∙ rw (skip_again key (number n ++ (10 ∷ rest)), number_again n (10 ∷ rest) small refl) refl

sign_again : (s : Sign) (rest : List ℕ) → sign_at (mark s ∷ rest) ≡ Some (s, rest)
sign_again Plus rest = refl
sign_again Minus rest = refl

mark_ends : (s : Sign) (rest : List ℕ) → Ends (mark s ∷ rest)
mark_ends Plus rest = refl
mark_ends Minus rest = refl

selection_again : (s : Selection) (rest : List ℕ) → SmallEntry (Some s) → selection_at (entry (Some s) ++ rest) ≡ Some (s, rest)
unfolding selection_at
selection_again s rest small =
    let after = number s.right ++ (32 ∷ rest) in
    ap selection_at (append_assoc (number s.left) (mark s.sign ∷ (number s.right ++ 32 ∷ [])) rest ∙ ap (λ t. number s.left ++ (mark s.sign ∷ t)) (append_assoc (number s.right) (32 ∷ []) rest))
    ∙ rw (number_again s.left (mark s.sign ∷ after) small.0 (mark_ends s.sign after), sign_again s.sign after, number_again s.right (32 ∷ rest) small.1 refl) refl

entry_again : (x : Option Selection) (rest : List ℕ) → SmallEntry x → entry_at (entry x ++ rest) ≡ Some (x, rest)
entry_again None rest small = refl
entry_again (Some s) rest small =
    let none : skip (codes "- ") (entry (Some s) ++ rest) ≡ None = ap (skip (codes "- ")) (append_assoc (number s.left) (mark s.sign ∷ (number s.right ++ 32 ∷ [])) rest) ∙ no_digit 45 s.left (32 ∷ []) (mark s.sign ∷ ((number s.right ++ 32 ∷ []) ++ rest)) (omega arith) small.0 in
    ap (λ r. if_next r (some_read (selection_at (entry (Some s) ++ rest))) (λ t. Some (None, t))) none ∙ ap some_read (selection_again s rest small)

pub entries_again : (es : List (Option Selection)) (rest : List ℕ) → AllSmallEntries es → entries_at (length es) (entries es ++ rest) ≡ Some (es, rest)
unfolding entries_at
entries_again [] rest small = refl
entries_again (e ∷ es) rest small =
    ap (entries_at (suc (length es))) (append_assoc (entry e) (entries es) rest) ∙ rw (entry_again e (entries es ++ rest) small.0, entries_again es rest small.1) refl

pub selections_again : (es : List (Option Selection)) (out : ℕ) (rest : List ℕ) → AllSmallEntries es → out ≤ 99 → selections_at (length es) (selections es out ++ rest) ≡ Some ((es, out), rest)
unfolding selections_at
selections_again es out rest small few =
    ap (selections_at (length es)) (append_assoc (entries es) (number out ++ 10 ∷ []) rest ∙ ap (λ t. entries es ++ t) (append_assoc (number out) (10 ∷ []) rest))
    ∙ rw (entries_again es (number out ++ (10 ∷ rest)) small, number_again out (10 ∷ rest) few refl) refl

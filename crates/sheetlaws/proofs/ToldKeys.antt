-- The key of a code line, and what stands after it.
use Rattle.std.proofs.Common.{◌≡◌, ℕ, ◌+◌, ◌/◌, ◌%◌, ◌≤◌, ◌⊎◌, inl, inr, List, [], ◌∷◌, ◌++◌, Some, None, Option, Ok, Err, Result, refl, ap, ◌∙◌, sym, subst, append_assoc, arith}
use Rattle.adders.specs.declared.refusals.Refusal.{Refusal}
use Rattle.adders.specs.declared.refusals.Refusal.TheVariants.{SheetForm, InputAbsent, RowBroken}
use Rattle.adders.specs.Rules.{first_broken}
use Rattle.adders.proofs.Broken.{some_none}
use Rattle.rows.specs.Rules.{row_rules}
use Rattle.texts.specs.declared.selection.Selection.{Selection}
use Rattle.texts.specs.Text.{code_key, selections}
use Rattle.texts.specs.Pieces.{skip, selections_at}
use Rattle.texts.specs.Listings.{eight_places}
use Rattle.texts.proofs.Skips.{skip_again}
use Rattle.texts.proofs.Takes.{code_key_is, selections_take}
use Rattle.texts.proofs.Again.{selections_again}
use Rattle.reading.specs.Orders.{Orders}
use Rattle.reading.specs.Data.{RowData}
use Rattle.reading.specs.Stages.{◌>>=◌, or_refused}
use Rattle.reading.specs.Lookup.{row_data}
use Rattle.reading.specs.Reader.{fault_of, judged_by, select_row, read_row}
use Rattle.sheetlaws.specs.Refusing.{CodeLine, CodeFault, form, absent, broken, CodeFine}
use Rattle.reading.proofs.Staged.{ok_not_err, there, row_read}
use Rattle.sheetlaws.proofs.ToldNumbers.{err_is, bind_err, not_there}

-- a text begins with the key of one code at most
pub one_key : (c d : ℕ) (s t : List ℕ) → c ≤ 99 → d ≤ 99 → code_key c ++ s ≡ code_key d ++ t → (c ≡ d) × (s ≡ t)
one_key c d s t few less e =
    let same : 115 ∷ (48 + c / 10) ∷ (48 + c % 10) ∷ 61 ∷ s ≡ 115 ∷ (48 + d / 10) ∷ (48 + d % 10) ∷ 61 ∷ t = ap (λ k. k ++ s) (sym (code_key_is c few)) ∙ e ∙ ap (λ k. k ++ t) (code_key_is d less) in
    let tens : 48 + c / 10 ≡ 48 + d / 10 = cc in
    let units : 48 + c % 10 ≡ 48 + d % 10 = cc in
    let rest : s ≡ t = cc in
    (omega arith, rest)

-- the line of a code begins with its key
pub line_apart : (a c : ℕ) (text : List ℕ) (es : List (Option Selection)) (out : ℕ) (rest : List ℕ) → CodeLine a c text es out rest → text ≡ code_key c ++ (selections es out ++ rest)
line_apart a c text es out rest line = line.text_is ∙ append_assoc (code_key c) (selections es out) rest

module _ (a c : ℕ) (text : List ℕ) where
  pub line_key : (es : List (Option Selection)) (out : ℕ) (rest : List ℕ) → CodeLine a c text es out rest → skip (code_key c) text ≡ Some (selections es out ++ rest)
  line_key es out rest line = ap (skip (code_key c)) (line_apart a c text es out rest line) ∙ skip_again (code_key c) (selections es out ++ rest)

  pub line_read : (es : List (Option Selection)) (out : ℕ) (rest : List ℕ) → CodeLine a c text es out rest → selections_at a (selections es out ++ rest) ≡ Some ((es, out), rest)
  line_read es out rest line = ap (λ n. selections_at n (selections es out ++ rest)) (sym line.each) ∙ selections_again es out rest line.small line.small_output

  pub line_from : (after : List ℕ) → text ≡ code_key c ++ after → (es : List (Option Selection)) (out : ℕ) (rest : List ℕ) → selections_at a after ≡ Some ((es, out), rest) → CodeLine a c text es out rest
  line_from after t es out rest read =
      let s = selections_take a after ((es, out), rest) read in
      record { each = s.1; small = s.2; small_output = s.3; text_is = t ∙ ap (λ u. code_key c ++ u) s.0 ∙ sym (append_assoc (code_key c) (selections es out) rest) }

  -- there is no line if what follows the key is none
  pub no_line : (after : List ℕ) → text ≡ code_key c ++ after → selections_at a after ≡ None → (d : ℕ) (es : List (Option Selection)) (out : ℕ) (rest : List ℕ) → c ≤ d → d ≤ 15 → CodeLine a d text es out rest → ⊥
  no_line after t none d es out rest l h line =
      let k = one_key c d after (selections es out ++ rest) (omega arith) (omega arith) (sym t ∙ line_apart a d text es out rest line) in
      some_none (sym (ap (λ n. selections_at n (selections es out ++ rest)) (sym line.each) ∙ selections_again es out rest line.small line.small_output) ∙ ap (selections_at a) (sym k.1) ∙ none)

-- The row of a code line.
module _ (orders : Orders) (a c n : ℕ) (text after : List ℕ) where
  judged_err : (d out : ℕ) (es : List (Option Selection)) (rest : List ℕ) (r : RowData) (e : Refusal) (o : Option Refusal) → c ≤ d → d ≤ 15 → CodeLine a d text es out rest → row_data orders (eight_places es) out ≡ Some r → first_broken (row_rules r.slots r.output) ≡ o → judged_by n r o ≡ Err e
      → CodeFault orders a c n text e
  judged_err d out es rest r e None l h line holds is j = absurd (ok_not_err r e j)
  judged_err d out es rest r e (Some b) l h line holds is j = subst (CodeFault orders a c n text) (err_is {A = RowData} (RowBroken n (fault_of b)) e j) (broken d out es rest r b l h line holds is)

  select_err : (s : (List (Option Selection) × ℕ) × List ℕ) (e : Refusal) → c ≤ 15 → CodeLine a c text s.0.0 s.0.1 s.1 → select_row orders n (eight_places s.0.0) s.0.1 ≡ Err e → CodeFault orders a c n text e
  unfolding select_row
  select_err s e h line r = by (bind_err _ _ e r)
    where
      by : (or_refused (InputAbsent n) (row_data orders (eight_places s.0.0) s.0.1) ≡ Err e) ⊎ ((x : RowData) × (or_refused (InputAbsent n) (row_data orders (eight_places s.0.0) s.0.1) ≡ Ok x) × (judged_by n x (first_broken (row_rules x.slots x.output)) ≡ Err e)) → CodeFault orders a c n text e
      by (inl lacks) = let q = not_there (InputAbsent n) e (row_data orders (eight_places s.0.0) s.0.1) lacks in subst (CodeFault orders a c n text) q.1 (absent c s.0.1 s.0.0 s.1 (omega arith) h line q.0)
      by (inr j) = judged_err c s.0.1 s.0.0 s.1 j.0 e (first_broken (row_rules j.0.slots j.0.output)) (omega arith) h line (there (InputAbsent n) (row_data orders (eight_places s.0.0) s.0.1) j.0 j.1) refl j.2

  pub row_told : (e : Refusal) → c ≤ 15 → text ≡ code_key c ++ after → read_row orders a n after ≡ Err e → CodeFault orders a c n text e
  unfolding read_row
  row_told e h t r = by (bind_err _ _ e r)
    where
      rest_of : (List (Option Selection) × ℕ) × List ℕ → Result (RowData × List ℕ) Refusal
      rest_of = λ s. select_row orders n (eight_places s.0.0) s.0.1 >>= λ row. Ok (row, s.1)

      selects : (s : (List (Option Selection) × ℕ) × List ℕ) → CodeLine a c text s.0.0 s.0.1 s.1 → (select_row orders n (eight_places s.0.0) s.0.1 ≡ Err e) ⊎ ((x : RowData) × (select_row orders n (eight_places s.0.0) s.0.1 ≡ Ok x) × (◌≡◌ {A = Result (RowData × List ℕ) Refusal} (Ok (x, s.1)) (Err e))) → CodeFault orders a c n text e
      selects s line (inl stops) = select_err s e h line stops
      selects s line (inr goes) = absurd (ok_not_err (goes.0, s.1) e goes.2)

      by : (or_refused (SheetForm n) (selections_at a after) ≡ Err e) ⊎ ((s : (List (Option Selection) × ℕ) × List ℕ) × (or_refused (SheetForm n) (selections_at a after) ≡ Ok s) × (rest_of s ≡ Err e)) → CodeFault orders a c n text e
      by (inl lacks) = let q = not_there (SheetForm n) e (selections_at a after) lacks in subst (CodeFault orders a c n text) q.1 (form (λ none. let z : code_key c ++ after ≡ [] = sym t ∙ none in cc) (λ d es out rest l k line. no_line a c text after t q.0 d es out rest l k line))
      by (inr s) = selects s.0 (line_from a c text after t s.0.0.0 s.0.0.1 s.0.1 (there (SheetForm n) (selections_at a after) s.0 s.1)) (bind_err _ _ e s.2)

  pub row_fine : (r : RowData) (rest : List ℕ) → text ≡ code_key c ++ after → read_row orders a n after ≡ Ok (r, rest) → CodeFine orders a c text r rest
  row_fine r rest t read =
      let x = row_read orders a n after r rest read in
      record { entries = x.entries; output = x.output; line = line_from a c text after t x.entries x.output rest x.line; selects = x.selected; lawful = x.whole }

-- What comes of a line that is there.
module _ (orders : Orders) (a c n : ℕ) (text : List ℕ) (es : List (Option Selection)) (out : ℕ) (rest : List ℕ) (line : CodeLine a c text es out rest) where
  after_line : Option ((List (Option Selection) × ℕ) × List ℕ) → Result (RowData × List ℕ) Refusal
  after_line o = or_refused (SheetForm n) o >>= λ s. select_row orders n (eight_places s.0.0) s.0.1 >>= λ row. Ok (row, s.1)

  after_data : Option RowData → Result (RowData × List ℕ) Refusal
  after_data o = (or_refused (InputAbsent n) o >>= λ r. judged_by n r (first_broken (row_rules r.slots r.output))) >>= λ row. Ok (row, rest)

  row_there : read_row orders a n (selections es out ++ rest) ≡ after_data (row_data orders (eight_places es) out)
  unfolding read_row select_row after_line after_data
  row_there = ap after_line (line_read a c text es out rest line)

  pub row_absent : row_data orders (eight_places es) out ≡ None → read_row orders a n (selections es out ++ rest) ≡ Err (InputAbsent n)
  unfolding after_data
  row_absent e = row_there ∙ ap after_data e

  module _ (r : RowData) (selects : row_data orders (eight_places es) out ≡ Some r) where
    pub row_broken : (e : Refusal) → first_broken (row_rules r.slots r.output) ≡ Some e → read_row orders a n (selections es out ++ rest) ≡ Err (RowBroken n (fault_of e))
    unfolding after_data
    row_broken e b = row_there ∙ ap after_data selects ∙ ap (λ o. judged_by n r o >>= λ row. Ok (row, rest)) b

    pub row_taken : first_broken (row_rules r.slots r.output) ≡ None → read_row orders a n (selections es out ++ rest) ≡ Ok (r, rest)
    unfolding after_data
    row_taken w = row_there ∙ ap after_data selects ∙ ap (λ o. judged_by n r o >>= λ row. Ok (row, rest)) w

-- The code lines: which is turned down first.
use Rattle.std.proofs.Common.{◌≡◌, ℕ, zero, suc, ◌+◌, ◌≤◌, ◌⊎◌, inl, inr, eqb, List, [], ◌∷◌, ◌++◌, length, Some, None, Option, Ok, Err, Result, refl, ap, ◌∙◌, sym, subst, ⊎_elim, arith}
use Rattle.std.proofs.lemmas.Bool.{cases_eq, false≢true}
use Rattle.adders.specs.declared.refusals.Refusal.{Refusal}
use Rattle.adders.specs.declared.refusals.Refusal.TheVariants.{SheetForm}
use Rattle.adders.proofs.Broken.{some_none}
use Rattle.texts.specs.declared.selection.Selection.{Selection}
use Rattle.texts.specs.Text.{code_key}
use Rattle.texts.specs.Pieces.{skip, if_next}
use Rattle.reading.specs.Orders.{Orders}
use Rattle.reading.specs.Data.{RowData}
use Rattle.reading.specs.Stages.{◌>>=◌}
use Rattle.reading.specs.Reader.{read_row, then_row, read_codes}
use Rattle.sheetlaws.specs.Refusing.{CodeLine, CodeFault, form, absent, broken, CodesFine, none, next}
use Rattle.reading.proofs.Staged.{ok_not_err}
use Rattle.sheetlaws.proofs.ToldNumbers.{bind_err, not_passed}
use Rattle.texts.proofs.Skips.{skip_takes}
use Rattle.sheetlaws.proofs.ToldKeys.{line_key, row_told, row_fine}

abbrev pub Rest : Type 0
Rest = Result (List (Option RowData)) Refusal

then_err : (r : Option RowData) (rs : Rest) (e : Refusal) → then_row r rs ≡ Err e → rs ≡ Err e
then_err r (Ok rows) e h = absurd (ok_not_err (r ∷ rows) e h)
then_err r (Err d) e h = h

module _ (orders : Orders) (a : ℕ) where
  -- the row of a line, and those after it
  abbrev pub rows_after : ℕ → ℕ → ℕ → List ℕ → Rest
  rows_after k c n after = read_row orders a n after >>= λ row. then_row (Some row.0) (read_codes orders a k (suc c) (suc n) row.1)

  module _ (k c n : ℕ) (text : List ℕ) where
    pub code_idle : skip (code_key c) text ≡ None → read_codes orders a (suc k) c n text ≡ then_row None (read_codes orders a k (suc c) n text)
    unfolding read_codes
    code_idle e = ap (λ o. if_next o (then_row None (read_codes orders a k (suc c) n text)) (rows_after k c n)) e

    pub code_live : (after : List ℕ) → skip (code_key c) text ≡ Some after → read_codes orders a (suc k) c n text ≡ rows_after k c n after
    unfolding read_codes
    code_live after e = ap (λ o. if_next o (then_row None (read_codes orders a k (suc c) n text)) (rows_after k c n)) e

  -- the first line that is turned down
  pub record CodeStop (c n : ℕ) (text : List ℕ) (e : Refusal) : Type 0 where
    pub code : ℕ
    pub line : ℕ
    pub rest : List ℕ
    pub before : CodesFine orders a c n text code line rest
    pub fault : CodeFault orders a code line rest e

  -- a code that has no line is no cause
  fault_down : (c b n : ℕ) (text : List ℕ) (e : Refusal) → b ≡ suc c → skip (code_key c) text ≡ None → CodeFault orders a b n text e → CodeFault orders a c n text e
  fault_down c b n text e s idle (form some other) = form some here
    where
      here : (d : ℕ) (es : List (Option Selection)) (out : ℕ) (rest : List ℕ) → c ≤ d → d ≤ 15 → CodeLine a d text es out rest → ⊥
      here d es out rest l h line =
          ⊎_elim {C = ⊥} (λ same. some_none (sym (line_key a d text es out rest line) ∙ ap (λ x. skip (code_key x) text) (sym same) ∙ idle)) (λ differ. other d es out rest (omega arith) h line) (cases_eq c d)
  fault_down c b n text e s idle (absent d out es rest l h line lacks) = absent d out es rest (omega arith) h line lacks
  fault_down c b n text e s idle (broken d out es rest r f l h line selects b2) = broken d out es rest r f (omega arith) h line selects b2

  stop_down : (c b n d m : ℕ) (text rest : List ℕ) (e : Refusal) → b ≡ suc c → skip (code_key c) text ≡ None → CodesFine orders a b n text d m rest → CodeFault orders a d m rest e → CodeStop c n text e
  stop_down c b n d m text rest e s idle none fault = record { code = c; line = n; rest = text; before = none; fault = fault_down c b n text e s idle fault }
  stop_down c b n e m text rest f s idle (next b2 n2 d e2 m2 text2 mid rest2 r l h fine more) fault = record { code = e; line = m; rest = rest; before = next c n d e m text mid rest r (omega arith) h fine more; fault = fault }

  pub codes_told : (k c n : ℕ) (text : List ℕ) (e : Refusal) → k + c ≡ 16 → read_codes orders a k c n text ≡ Err e → CodeStop c n text e
  unfolding read_codes
  codes_told zero c n text e sixteen h =
      let p = not_passed {A = List (Option RowData)} (eqb (length text) 0) (SheetForm n) e [] h in
      record {
        code = c;
        line = n;
        rest = text;
        before = none;
        fault = subst (CodeFault orders a c n text) p.1 (form (λ t. false≢true (sym p.0 ∙ ap (λ u. eqb (length u) 0) t)) (λ d es out rest l k line. absurd (omega arith)));
      }
  codes_told (suc k) c n text e sixteen h = by (skip (code_key c) text) refl (λ m t. codes_told k (suc c) m t e (omega arith))
    where
      by : (o : Option (List ℕ)) → skip (code_key c) text ≡ o → ((m : ℕ) (t : List ℕ) → read_codes orders a k (suc c) m t ≡ Err e → CodeStop (suc c) m t e) → CodeStop c n text e
      by None idle others =
          let s = others n text (then_err None (read_codes orders a k (suc c) n text) e (sym (code_idle k c n text idle) ∙ h)) in
          stop_down c (suc c) n s.code s.line text s.rest e refl idle s.before s.fault
      by (Some after) live others = row (bind_err _ _ e (sym (code_live k c n text after live) ∙ h))
        where
          text_is : text ≡ code_key c ++ after
          text_is = skip_takes (code_key c) text after live

          row : (read_row orders a n after ≡ Err e) ⊎ ((x : RowData × List ℕ) × (read_row orders a n after ≡ Ok x) × (then_row (Some x.0) (read_codes orders a k (suc c) (suc n) x.1) ≡ Err e)) → CodeStop c n text e
          row (inl stops) = record { code = c; line = n; rest = text; before = none; fault = row_told orders a c n text after e (omega arith) text_is stops }
          row (inr goes) =
              let x = goes.0 in
              let s = others (suc n) x.1 (then_err (Some x.0) (read_codes orders a k (suc c) (suc n) x.1) e goes.2) in
              let code : suc c ≡ c + 1 = omega arith in
              let line : suc n ≡ n + 1 = omega arith in
              let more = subst (λ m. CodesFine orders a (c + 1) m x.1 s.code s.line s.rest) line (subst (λ d. CodesFine orders a d (suc n) x.1 s.code s.line s.rest) code s.before) in
              record { code = s.code; line = s.line; rest = s.rest; before = next c n c s.code s.line text x.1 s.rest x.0 (omega arith) (omega arith) (row_fine orders a c n text after x.0 x.1 text_is goes.1) more; fault = s.fault }

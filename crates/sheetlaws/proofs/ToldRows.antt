-- The rows that the code lines select.
use Rattle.std.proofs.Common.{◌≡◌, ℕ, zero, suc, ◌+◌, ◌<◌, true, eqb, List, [], ◌∷◌, ◌++◌, length, Some, None, Option, Ok, refl, ap, ◌∙◌, sym, subst, arith}
use Rattle.std.proofs.lemmas.Bool.{eqb-true}
use Rattle.adders.specs.declared.refusals.Refusal.TheVariants.{SheetForm}
use Rattle.adders.proofs.Broken.{some_none}
use Rattle.texts.specs.Text.{code_key, selections}
use Rattle.texts.specs.Pieces.{skip}
use Rattle.reading.specs.Orders.{Orders}
use Rattle.reading.specs.Data.{RowData}
use Rattle.reading.specs.Stages.{◌>>=◌, if_passed}
use Rattle.reading.specs.Reader.{read_row, then_row, read_codes}
use Rattle.sheetlaws.specs.Refusing.{Rows, end, idle, live}
use Rattle.reading.proofs.Staged.{bind_ok, passed, ok_is}
use Rattle.texts.proofs.Skips.{skip_takes}
use Rattle.sheetlaws.proofs.ToldKeys.{one_key, line_apart, line_key, row_fine, row_taken}
use Rattle.sheetlaws.proofs.ToldCodes.{Rest, code_idle, code_live}

then_ok : (r : Option RowData) (rs : Rest) (rows : List (Option RowData)) → then_row r rs ≡ Ok rows → (others : List (Option RowData)) × (rs ≡ Ok others) × (r ∷ others ≡ rows)
then_ok r rs rows h = let b = bind_ok rs (λ xs. Ok (r ∷ xs)) rows h in (b.0, b.1, ok_is (r ∷ b.0) rows b.2)

empty_text : (text : List ℕ) → eqb (length text) 0 ≡ true → text ≡ []
empty_text [] e = refl
empty_text (b ∷ bs) e = let z = eqb-true (length (b ∷ bs)) 0 e in absurd (omega arith)

module _ (orders : Orders) (a : ℕ) where
  pub rows_told : (k c n : ℕ) (text : List ℕ) (rows : List (Option RowData)) → k + c ≡ 16 → read_codes orders a k c n text ≡ Ok rows → Rows orders a c text rows
  unfolding read_codes
  rows_told zero c n text rows sixteen h =
      let p = passed {A = List (Option RowData)} (eqb (length text) 0) (SheetForm n) [] rows h in
      let last : 16 ≡ c = omega arith in
      subst (Rows orders a c text) p.1 (subst (λ d. Rows orders a d text []) last (end (empty_text text p.0)))
  rows_told (suc k) c n text rows sixteen h = by (skip (code_key c) text) refl (λ m t rs. rows_told k (suc c) m t rs (omega arith))
    where
      code : suc c ≡ c + 1
      code = omega arith

      by : (o : Option (List ℕ)) → skip (code_key c) text ≡ o → ((m : ℕ) (t : List ℕ) (rs : List (Option RowData)) → read_codes orders a k (suc c) m t ≡ Ok rs → Rows orders a (suc c) t rs) → Rows orders a c text rows
      by None none others =
          let s = then_ok None (read_codes orders a k (suc c) n text) rows (sym (code_idle orders a k c n text none) ∙ h) in
          subst (Rows orders a c text) s.2 (idle c text s.0 (omega arith) (λ es out rest line. some_none (sym (line_key a c text es out rest line) ∙ none)) (subst (λ d. Rows orders a d text s.0) code (others n text s.0 s.1)))
      by (Some after) some others =
          let b = bind_ok (read_row orders a n after) (λ row. then_row (Some row.0) (read_codes orders a k (suc c) (suc n) row.1)) rows (sym (code_live orders a k c n text after some) ∙ h) in
          let s = then_ok (Some b.0.0) (read_codes orders a k (suc c) (suc n) b.0.1) rows b.2 in
          subst (Rows orders a c text) s.2 (live c text b.0.1 b.0.0 s.0 (omega arith) (row_fine orders a c n text after b.0.0 b.0.1 (skip_takes (code_key c) text after some) b.1) (subst (λ d. Rows orders a d b.0.1 s.0) code (others (suc n) b.0.1 s.0 s.1)))

  -- no rows are left where a line of an earlier code stands
  no_rows : (c : ℕ) (after : List ℕ) (d : ℕ) (text : List ℕ) (rows : List (Option RowData)) → Rows orders a d text rows → text ≡ code_key c ++ after → c < d → ⊥
  no_rows c after d text rows (end nothing) t l = let z : code_key c ++ after ≡ [] = sym t ∙ nothing in cc
  no_rows c after d text rows (idle d2 text2 rows2 h none more) t l = no_rows c after (d2 + 1) text rows2 more t (omega arith)
  no_rows c after d text rows (live d2 text2 rest r rows2 h fine more) t l =
      let same = (one_key c d after (selections fine.entries fine.output ++ rest) (omega arith) (omega arith) (sym t ∙ line_apart a d text fine.entries fine.output rest fine.line)).0 in omega arith

  pub rows_read : (c : ℕ) (text : List ℕ) (rows : List (Option RowData)) → Rows orders a c text rows → (k n : ℕ) → k + c ≡ 16 → read_codes orders a k c n text ≡ Ok rows
  unfolding read_codes
  rows_read c text rows (end nothing) zero n sixteen = ap (λ t. if_passed (eqb (length t) 0) (SheetForm n) []) nothing
  rows_read c text rows (end nothing) (suc k) n sixteen = absurd (omega arith)
  rows_read c text rows (idle c2 text2 others h none more) zero n sixteen = absurd (omega arith)
  rows_read c text rows (idle c2 text2 others h none more) (suc k) n sixteen =
      let code : suc c ≡ c + 1 = omega arith in
      code_idle orders a k c n text (by (skip (code_key c) text) refl) ∙ ap (then_row None) (ap (λ d. read_codes orders a k d n text) code ∙ rows_read (c + 1) text others more k n (omega arith))
    where
      by : (o : Option (List ℕ)) → skip (code_key c) text ≡ o → o ≡ None
      by None e = refl
      by (Some after) e = absurd (no_rows c after (c + 1) text others more (skip_takes (code_key c) text after e) (omega arith))
  rows_read c text rows (live c2 text2 rest r others h fine more) zero n sixteen = absurd (omega arith)
  rows_read c text rows (live c2 text2 rest r others h fine more) (suc k) n sixteen =
      let code : suc c ≡ c + 1 = omega arith in
      code_live orders a k c n text (selections fine.entries fine.output ++ rest) (line_key a c text fine.entries fine.output rest fine.line)
      ∙ ap (λ q. q >>= λ row. then_row (Some row.0) (read_codes orders a k (suc c) (suc n) row.1)) (row_taken orders a c n text fine.entries fine.output rest fine.line r fine.selects fine.lawful)
      ∙ ap (then_row (Some r)) (ap (λ d. read_codes orders a k d (suc n) rest) code ∙ rows_read (c + 1) rest others more k (suc n) (omega arith))

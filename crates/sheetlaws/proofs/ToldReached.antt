-- The code lines: a cause that is there is told.
use Rattle.std.proofs.Common.{◌≡◌, ◌≢◌, ℕ, zero, suc, ◌+◌, ◌-◌, ◌<◌, ◌≤◌, List, [], ◌∷◌, ◌++◌, length, Some, None, Option, Ok, Err, refl, ap, ◌∙◌, sym, arith}
use Rattle.std.proofs.lemmas.Bool.{ne_eqb}
use Rattle.adders.specs.declared.refusals.Refusal.{Refusal}
use Rattle.adders.specs.declared.refusals.Refusal.TheVariants.{SheetForm}
use Rattle.texts.specs.declared.selection.Selection.{Selection}
use Rattle.texts.specs.Text.{code_key, selections}
use Rattle.texts.specs.Pieces.{skip, selections_at}
use Rattle.reading.specs.Orders.{Orders}
use Rattle.reading.specs.Stages.{◌>>=◌, or_refused, if_passed}
use Rattle.reading.specs.Reader.{read_row, select_row, then_row, read_codes}
use Rattle.texts.specs.Listings.{eight_places}
use Rattle.sheetlaws.specs.Refusing.{CodeLine, CodeFault, form, absent, broken, CodesFine, none, next}
use Rattle.texts.proofs.Skips.{skip_takes}
use Rattle.sheetlaws.proofs.ToldKeys.{one_key, line_key, line_from, row_absent, row_broken, row_taken}
use Rattle.sheetlaws.proofs.ToldCodes.{rows_after, code_idle, code_live}

-- a text that begins with the key of one code has no other's
pub other_key : (c d : ℕ) (text after : List ℕ) → skip (code_key d) text ≡ Some after → c < d → d ≤ 15 → skip (code_key c) text ≡ None
other_key c d text after there l h = by (skip (code_key c) text) refl
  where
    by : (o : Option (List ℕ)) → skip (code_key c) text ≡ o → o ≡ None
    by None e = refl
    by (Some rest) e = let same = (one_key c d rest after (omega arith) (omega arith) (sym (skip_takes (code_key c) text rest e) ∙ skip_takes (code_key d) text after there)).0 in absurd (omega arith)

module _ (orders : Orders) (a : ℕ) where
  -- what stops the line of a later code stops the reading
  reach : (j k c d i n : ℕ) (text after : List ℕ) (e : Refusal) → j + c ≡ d → k + c ≡ 16 → suc i + d ≡ 16 → skip (code_key d) text ≡ Some after → rows_after orders a i d n after ≡ Err e → read_codes orders a k c n text ≡ Err e
  reach zero k c d i n text after e there sixteen left key h =
      let code : c ≡ d = omega arith in
      let count : k ≡ suc i = omega arith in
      ap (λ m. read_codes orders a m c n text) count ∙ ap (λ m. read_codes orders a (suc i) m n text) code ∙ code_live orders a i d n text after key ∙ h
  reach (suc j) zero c d i n text after e there sixteen left key h = absurd (omega arith)
  reach (suc j) (suc k) c d i n text after e there sixteen left key h =
      code_idle orders a k c n text (other_key c d text after key (omega arith) (omega arith)) ∙ ap (then_row None) (reach j k (suc c) d i n text after e (omega arith) (omega arith) left key h)

  -- the same from any code before it
  stopped : (k c d n : ℕ) (text after : List ℕ) (e : Refusal) → c ≤ d → d ≤ 15 → k + c ≡ 16 → skip (code_key d) text ≡ Some after → rows_after orders a (15 - d) d n after ≡ Err e → read_codes orders a k c n text ≡ Err e
  stopped k c d n text after e l h sixteen key stops = reach (d - c) k c d (15 - d) n text after e (omega arith) sixteen (omega arith) key stops

  row_stops : (k c d n : ℕ) (text after : List ℕ) (e : Refusal) → c ≤ d → d ≤ 15 → k + c ≡ 16 → skip (code_key d) text ≡ Some after → read_row orders a n after ≡ Err e → read_codes orders a k c n text ≡ Err e
  row_stops k c d n text after e l h sixteen key stops = stopped k c d n text after e l h sixteen key (ap (λ r. r >>= λ row. then_row (Some row.0) (read_codes orders a (15 - d) (suc d) (suc n) row.1)) stops)

  -- a key after which no line goes on
  no_row : (c n : ℕ) (text after : List ℕ) → text ≡ code_key c ++ after → ((es : List (Option Selection)) (out : ℕ) (rest : List ℕ) → CodeLine a c text es out rest → ⊥) → (o : Option ((List (Option Selection) × ℕ) × List ℕ)) → selections_at a after ≡ o → read_row orders a n after ≡ Err (SheetForm n)
  unfolding read_row
  no_row c n text after t lacks None e = ap (λ o. or_refused (SheetForm n) o >>= λ s. select_row orders n (eight_places s.0.0) s.0.1 >>= λ row. Ok (row, s.1)) e
  no_row c n text after t lacks (Some s) e = absurd (lacks s.0.0 s.0.1 s.1 (line_from a c text after t s.0.0 s.0.1 s.1 e))

  form_refused : (k c n : ℕ) (text : List ℕ) → k + c ≡ 16 → text ≢ [] → ((d : ℕ) (es : List (Option Selection)) (out : ℕ) (rest : List ℕ) → c ≤ d → d ≤ 15 → CodeLine a d text es out rest → ⊥) → read_codes orders a k c n text ≡ Err (SheetForm n)
  unfolding read_codes
  form_refused zero c n [] sixteen some lacks = absurd (some refl)
  form_refused zero c n (b ∷ bs) sixteen some lacks = ap (λ t. if_passed t (SheetForm n) []) (ne_eqb (length (b ∷ bs)) 0 (λ e. omega arith))
  form_refused (suc k) c n text sixteen some lacks = by (skip (code_key c) text) refl (form_refused k (suc c) n text (omega arith) some (λ d es out rest l h. lacks d es out rest (omega arith) h))
    where
      by : (o : Option (List ℕ)) → skip (code_key c) text ≡ o → read_codes orders a k (suc c) n text ≡ Err (SheetForm n) → read_codes orders a (suc k) c n text ≡ Err (SheetForm n)
      by None e others = code_idle orders a k c n text e ∙ ap (then_row None) others
      by (Some after) e others =
          code_live orders a k c n text after e
          ∙ ap (λ r. r >>= λ row. then_row (Some row.0) (read_codes orders a k (suc c) (suc n) row.1)) (no_row c n text after (skip_takes (code_key c) text after e) (λ es out rest. lacks c es out rest (omega arith) (omega arith)) (selections_at a after) refl)

  fault_refused : (k c n : ℕ) (text : List ℕ) (e : Refusal) → k + c ≡ 16 → CodeFault orders a c n text e → read_codes orders a k c n text ≡ Err e
  fault_refused k c n text e sixteen (form some lacks) = form_refused k c n text sixteen some lacks
  fault_refused k c n text e sixteen (absent d out es rest l h line lacks) =
      row_stops k c d n text (selections es out ++ rest) e l h sixteen (line_key a d text es out rest line) (row_absent orders a d n text es out rest line lacks)
  fault_refused k c n text e sixteen (broken d out es rest r f l h line selects breaks) =
      row_stops k c d n text (selections es out ++ rest) e l h sixteen (line_key a d text es out rest line) (row_broken orders a d n text es out rest line r selects f breaks)

  pub codes_refused : (c n : ℕ) (text : List ℕ) (d m : ℕ) (rest : List ℕ) (e : Refusal) → CodesFine orders a c n text d m rest → CodeFault orders a d m rest e → (k : ℕ) → k + c ≡ 16 → read_codes orders a k c n text ≡ Err e
  codes_refused c n text d m rest e none fault k sixteen = fault_refused k c n text e sixteen fault
  codes_refused c n text d m rest e (next c2 n2 b d2 m2 text2 mid rest2 r l h fine more) fault k sixteen =
      let others = codes_refused (b + 1) (n + 1) mid d m rest e more fault (15 - b) (omega arith) in
      let code : b + 1 ≡ suc b = omega arith in
      let line : n + 1 ≡ suc n = omega arith in
      let goes = ap (λ x. read_codes orders a (15 - b) x (suc n) mid) (sym code) ∙ ap (λ x. read_codes orders a (15 - b) (b + 1) x mid) (sym line) ∙ others in
      stopped k c b n text (selections fine.entries fine.output ++ mid) e l h sixteen (line_key a b text fine.entries fine.output mid fine.line)
      (ap (λ q. q >>= λ row. then_row (Some row.0) (read_codes orders a (15 - b) (suc b) (suc n) row.1)) (row_taken orders a b n text fine.entries fine.output mid fine.line r fine.selects fine.lawful) ∙ ap (then_row (Some r)) goes)

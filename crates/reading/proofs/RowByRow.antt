-- The rows of a block that is read, code by code.
use Rattle.std.proofs.Common.{◌≡◌, ℕ, zero, suc, ◌+◌, ◌-◌, ◌*◌, ◌<◌, ◌≤◌, Bool, true, false, not, leb, eqb, List, [], ◌∷◌, ◌++◌, length, map, take, drop, replicate, get_or, set, is_some, Some, None, Option, Ok, Err, Result, sym, refl, ap, ◌∙◌, subst, ⊎_elim, append_assoc, append-nil, arith}
use Rattle.std.specs.List.{list_all}
use Rattle.std.specs.Prelude.{is_none, option_map, slice_get}
use Rattle.std.proofs.lemmas.List.{length-map, length-set, take_more, take_more_set, take_all, get_or-set_same, get_or-set_other}
use Rattle.std.proofs.lemmas.Bool.{cases_eq, le-leb, false≢true}
use Rattle.adders.specs.declared.refusals.Refusal.{Refusal}
use Rattle.adders.specs.declared.refusals.Refusal.TheVariants.{SheetForm, CodeAboveFifteen, CodeLive, BlockTooSmall}
use Rattle.adders.specs.declared.wiring.Adder.{Adder}
use Rattle.adders.specs.Values.{Slots}
use Rattle.adders.specs.Rules.{rule, first_broken}
use Rattle.adders.proofs.Places.{same_list}
use Rattle.adders.proofs.Broken.{some_none}
use Rattle.rows.specs.declared.model.Row.{Row}
use Rattle.blocks.specs.declared.model.Block.{Block}
use Rattle.blocks.specs.Blocks.{row_of, Rewritten}
use Rattle.blocks.specs.Filling.{uses_none_past, filling_rules, Bare}
use Rattle.ports.specs.declared.port.Port.TheVariants.{Output}
use Rattle.ports.proofs.Columns.{row_is}
use Rattle.texts.specs.declared.selection.Selection.{Selection}
use Rattle.texts.specs.Text.{code_key}
use Rattle.texts.specs.Steps as texts
use Rattle.texts.specs.Pieces.{skip, if_next}
use Rattle.texts.specs.Listings.{eight_places}
use Rattle.texts.proofs.Takes.{selections_take, bind_some, some_is}
use Rattle.reading.specs.Orders.{Orders}
use Rattle.reading.specs.Data.{RowData, data_of, said, rows_of}
use Rattle.reading.specs.Stages.{◌>>=◌, if_passed}
use Rattle.reading.specs.Lookup.{slot_of, slots_of, row_data}
use Rattle.reading.specs.Reader.{read_row, then_row, read_codes, read_block}
use Rattle.reading.proofs.Staged.{RowRead, row_read}

-- A row that is read has no adder past the block's.

abbrev then_rest : Orders → ℕ → List (Option Selection) → Option Adder → Option Slots
then_rest orders j xs x = texts.◌>>=◌ (slots_of orders (suc j) xs) (λ ys. Some (x ∷ ys))

unused_kept : (orders : Orders) (j n : ℕ) (xs : List (Option Selection)) (slots : Slots) → slots_of orders j xs ≡ Some slots → list_all is_none (drop n xs) ≡ true → list_all is_none (drop n slots) ≡ true
unfolding slots_of
unused_kept orders j zero [] slots e h = subst (λ ys. list_all is_none ys ≡ true) (some_is [] slots e) refl
unused_kept orders j (suc n) [] slots e h = subst (λ ys. list_all is_none (drop (suc n) ys) ≡ true) (some_is [] slots e) refl
unused_kept orders j zero (None ∷ xs) slots e h =
    let a = bind_some _ _ slots e in
    subst (λ ys. list_all is_none ys ≡ true) (some_is (None ∷ a.0) slots a.2) (unused_kept orders (suc j) zero xs a.0 a.1 h)
unused_kept orders j zero (Some s ∷ xs) slots e h = absurd (false≢true h)
unused_kept orders j (suc n) (x ∷ xs) slots e h =
    let a = bind_some (slot_of orders j x) (then_rest orders j xs) slots e in
    let b = bind_some (slots_of orders (suc j) xs) (λ ys. Some (a.0 ∷ ys)) slots a.2 in
    subst (λ ys. list_all is_none (drop (suc n) ys) ≡ true) (some_is (a.0 ∷ b.0) slots b.2) (unused_kept orders (suc j) n xs b.0 b.1 h)

behind_none : (es : List (Option Selection)) (m : ℕ) → list_all is_none (drop (length es) (es ++ replicate m None)) ≡ true
behind_none [] zero = refl
behind_none [] (suc m) = behind_none [] m
behind_none (e ∷ es) m = behind_none es m

pub none_past : (orders : Orders) (a : ℕ) (text : List ℕ) (r : Row) (rest : List ℕ) → RowRead orders a text (data_of r) rest → uses_none_past a r ≡ true
unfolding row_data
none_past orders a text r rest h =
    let s = bind_some _ _ (data_of r) h.selected in
    let o = bind_some (slice_get (orders Output) h.output) (λ out. Some (record { slots = s.0; output = out })) (data_of r) s.2 in
    let slots = ap (λ (d : RowData). d.slots) (some_is (record { slots = s.0; output = o.0 }) (data_of r) o.2) in
    let count = (selections_take a text ((h.entries, h.output), rest) h.line).1 in
    let unused = unused_kept orders 1 a (eight_places h.entries) s.0 s.1 (subst (λ n. list_all is_none (drop n (eight_places h.entries)) ≡ true) count (behind_none h.entries (8 - length h.entries))) in
    subst (λ ys. list_all is_none (drop a ys) ≡ true) slots unused

-- The block so far.

abbrev pub with_rows : List (Option RowData) → Result (List (Option RowData)) Refusal → Result (List (Option RowData)) Refusal
with_rows done (Ok rows) = Ok (done ++ rows)
with_rows done (Err e) = Err e

regrouped : (rows : List (Option RowData)) (x : Option RowData) (r : Result (List (Option RowData)) Refusal) → with_rows (rows ++ x ∷ []) r ≡ with_rows rows (then_row x r)
regrouped rows x (Ok xs) = ap Ok (append_assoc rows (x ∷ []) xs)
regrouped rows x (Err e) = refl

pub record Filled (orders : Orders) (a w : ℕ) (text : List ℕ) (code : ℕ) (line : ℕ) (rest : List ℕ) (b : Block) : Type 0 where
  pub adders : b.adders ≡ a
  pub width : b.width ≡ w
  pub idle : (k : ℕ) → code ≤ k → row_of b k ≡ None
  pub few : line ≤ 2 * a + 4 + code
  pub whole : with_rows (take code (rows_of b)) (read_codes orders a (16 - code) code line rest) ≡ read_codes orders a 16 0 (2 * a + 4) text

pub rows_length : (b : Block) → length (rows_of b) ≡ 16
rows_length b = length-map b.table.rows (option_map data_of) ∙ b.room

pub rows_at : (b : Block) (k : ℕ) → get_or (rows_of b) k None ≡ option_map data_of (row_of b k)
rows_at b k = mapped b.table.rows k ∙ ap (option_map data_of) (sym (row_is b k))
  where
    mapped : (rows : List (Option Row)) (k : ℕ) → get_or (map (option_map data_of) rows) k None ≡ option_map data_of (get_or rows k None)
    mapped [] k = refl
    mapped (r ∷ rows) zero = refl
    mapped (r ∷ rows) (suc k) = mapped rows k

-- a row more
pub rows_filled : (b after : Block) (code : ℕ) (r : Row) → code < 16 → Rewritten b code (Some r) after → rows_of after ≡ set (rows_of b) code (Some (data_of r))
rows_filled b after code r lt h = same_list None (rows_of after) (set (rows_of b) code (Some (data_of r))) (rows_length after ∙ sym (length-set (rows_of b) code (Some (data_of r)) ∙ rows_length b)) at
  where
    at : (k : ℕ) → k < length (rows_of after) → get_or (rows_of after) k None ≡ get_or (set (rows_of b) code (Some (data_of r))) k None
    at k g =
        ⊎_elim {C = get_or (rows_of after) k None ≡ get_or (set (rows_of b) code (Some (data_of r))) k None}
        (λ e. ap (λ n. get_or (rows_of after) n None) e ∙ rows_at after code ∙ ap (option_map data_of) h.there ∙ sym (get_or-set_same (rows_of b) code (Some (data_of r)) None (omega (arith, rows_length b))) ∙ ap (λ n. get_or (set (rows_of b) code (Some (data_of r))) n None) (sym e))
        (λ ne. rows_at after k ∙ ap (option_map data_of) (h.others k ne) ∙ sym (rows_at b k) ∙ sym (get_or-set_other (rows_of b) code k (Some (data_of r)) None ne))
        (cases_eq k code)

passes : (x y z : Bool) → x ≡ true → y ≡ true → z ≡ true → first_broken (rule x CodeAboveFifteen ∷ rule y CodeLive ∷ rule z BlockTooSmall ∷ []) ≡ None
passes x y z e f g = rw (e, f, g) refl

module _ (orders : Orders) (a w : ℕ) (text : List ℕ) (code line : ℕ) (rest : List ℕ) (b : Block) (h : Filled orders a w text code line rest b) where
  module _ (lt : code < 16) where
    one : read_codes orders a (16 - code) code line rest
        ≡ if_next (skip (code_key code) rest) (then_row None (read_codes orders a (16 - (code + 1)) (suc code) line rest)) (λ after. read_row orders a line after >>= λ row. then_row (Some row.0) (read_codes orders a (16 - (code + 1)) (suc code) (suc line) row.1))
    unfolding read_codes
    one = let k : 16 - code ≡ suc (16 - (code + 1)) = omega arith in ap (λ n. read_codes orders a n code line rest) k

    next_is : suc code ≡ code + 1
    next_is = omega arith

    line_is : suc line ≡ line + 1
    line_is = omega arith

    -- the code has no line
    pub skipped : skip (code_key code) rest ≡ None → Filled orders a w text (code + 1) line rest b
    skipped e = record {
      adders = h.adders;
      width = h.width;
      idle = λ k l. h.idle k (omega arith);
      few = omega (arith, h.few);
      whole = ap (λ rows. with_rows rows (read_codes orders a (16 - (code + 1)) (code + 1) line rest)) (take_more (rows_of b) code None (omega (arith, rows_length b)) ∙ ap (λ x. take code (rows_of b) ++ x ∷ []) (rows_at b code ∙ ap (option_map data_of) (h.idle code (omega arith))))
          ∙ regrouped (take code (rows_of b)) None (read_codes orders a (16 - (code + 1)) (code + 1) line rest)
          ∙ ap (λ n. with_rows (take code (rows_of b)) (then_row None (read_codes orders a (16 - (code + 1)) n line rest))) (sym next_is)
          ∙ ap (with_rows (take code (rows_of b))) (sym (one ∙ ap (λ o. if_next o (then_row None (read_codes orders a (16 - (code + 1)) (suc code) line rest)) (λ after. read_row orders a line after >>= λ row. then_row (Some row.0) (read_codes orders a (16 - (code + 1)) (suc code) (suc line) row.1))) e))
          ∙ h.whole;
    }

    module _ (after : List ℕ) (key : skip (code_key code) rest ≡ Some after) where
      has_line : read_codes orders a (16 - code) code line rest ≡ (read_row orders a line after >>= λ row. then_row (Some row.0) (read_codes orders a (16 - (code + 1)) (suc code) (suc line) row.1))
      has_line = one ∙ ap (λ o. if_next o (then_row None (read_codes orders a (16 - (code + 1)) (suc code) line rest)) (λ after. read_row orders a line after >>= λ row. then_row (Some row.0) (read_codes orders a (16 - (code + 1)) (suc code) (suc line) row.1))) key

      pub row_stops : (e : Refusal) → read_row orders a line after ≡ Err e → read_block orders a w text ≡ Err e
      unfolding read_block
      row_stops e r =
          ap (λ rs. rs >>= λ rows. Ok (record { adders = a; width = w; rows = rows }))
          (sym h.whole ∙ ap (with_rows (take code (rows_of b))) (has_line ∙ ap (λ q. q >>= λ row. then_row (Some row.0) (read_codes orders a (16 - (code + 1)) (suc code) (suc line) row.1)) r))

      module _ (r : Row) (last : List ℕ) (read : read_row orders a line after ≡ Ok (data_of r, last)) where
        -- the row can be put there
        pub can_fill : first_broken (filling_rules b code r) ≡ None
        can_fill =
            let idle = h.idle code (omega arith) in
            let unused = ap (λ n. uses_none_past n r) h.adders ∙ none_past orders a after r last (row_read orders a line after (data_of r) last read) in
            let there = le-leb code 15 (omega arith) in
            passes (leb code 15) (not (is_some (row_of b code))) (uses_none_past b.adders r) there (ap (λ o. not (is_some o)) idle) unused

        pub filled : (new : Block) → Rewritten b code (Some r) new → Filled orders a w text (code + 1) (line + 1) last new
        filled new put = record {
          adders = put.adders ∙ h.adders;
          width = put.width ∙ h.width;
          idle = λ k l. put.others k (λ e. omega arith) ∙ h.idle k (omega arith);
          few = omega (arith, h.few);
          whole = ap (λ rows. with_rows (take (code + 1) rows) (read_codes orders a (16 - (code + 1)) (code + 1) (line + 1) last)) (rows_filled b new code r lt put)
              ∙ ap (λ rows. with_rows rows (read_codes orders a (16 - (code + 1)) (code + 1) (line + 1) last)) (take_more_set (rows_of b) code (Some (data_of r)) (omega (arith, rows_length b)))
              ∙ regrouped (take code (rows_of b)) (Some (data_of r)) (read_codes orders a (16 - (code + 1)) (code + 1) (line + 1) last)
              ∙ ap (λ n. with_rows (take code (rows_of b)) (then_row (Some (data_of r)) (read_codes orders a (16 - (code + 1)) n (line + 1) last))) (sym next_is)
              ∙ ap (λ n. with_rows (take code (rows_of b)) (then_row (Some (data_of r)) (read_codes orders a (16 - (code + 1)) (suc code) n last))) (sym line_is)
              ∙ ap (with_rows (take code (rows_of b))) (sym (has_line ∙ ap (λ q. q >>= λ row. then_row (Some row.0) (read_codes orders a (16 - (code + 1)) (suc code) (suc line) row.1)) read))
              ∙ h.whole;
        }

  module _ (all : 16 ≤ code) where
    ended_as : read_codes orders a (16 - code) code line rest ≡ if_passed (eqb (length rest) 0) (SheetForm line) []
    unfolding read_codes
    ended_as = let k : 16 - code ≡ 0 = omega arith in ap (λ n. read_codes orders a n code line rest) k

    total : (r : Result (List (Option RowData)) Refusal) → read_codes orders a (16 - code) code line rest ≡ r → read_block orders a w text ≡ (with_rows (rows_of b) r >>= λ rows. Ok (record { adders = a; width = w; rows = rows }))
    unfolding read_block
    total r e =
        ap (λ rs. rs >>= λ rows. Ok (record { adders = a; width = w; rows = rows }))
        (sym h.whole ∙ ap (λ rows. with_rows rows (read_codes orders a (16 - code) code line rest)) (take_all code (rows_of b) (omega (arith, rows_length b))) ∙ ap (with_rows (rows_of b)) e)

    pub more_left : eqb (length rest) 0 ≡ false → read_block orders a w text ≡ Err (SheetForm line)
    more_left e = total (Err (SheetForm line)) (ended_as ∙ ap (λ t. if_passed t (SheetForm line) []) e)

    pub block_read : eqb (length rest) 0 ≡ true → read_block orders a w text ≡ Ok (said b)
    block_read e =
        total (Ok []) (ended_as ∙ ap (λ t. if_passed t (SheetForm line) []) e)
        ∙ ap (λ rows. Ok (record { adders = a; width = w; rows = rows })) (append-nil (rows_of b))
        ∙ ap (λ n. Ok (record { adders = n; width = w; rows = rows_of b })) (sym h.adders)
        ∙ ap (λ n. Ok (record { adders = b.adders; width = n; rows = rows_of b })) (sym h.width)

pub refused : (orders : Orders) (a w : ℕ) (text : List ℕ) (code line : ℕ) (rest : List ℕ) (b : Block) → Filled orders a w text code line rest b → code < 16 → (after : List ℕ) → skip (code_key code) rest ≡ Some after
    → (r : Row) (last : List ℕ) → read_row orders a line after ≡ Ok (data_of r, last) → (e : Refusal) → first_broken (filling_rules b code r) ≡ Some e → ⊥
refused orders a w text code line rest b h lt after key r last read e f = some_none (sym f ∙ can_fill orders a w text code line rest b h lt after key r last read)

pub none_filled : (orders : Orders) (a w : ℕ) (text : List ℕ) (b : Block) → Bare a w b → Filled orders a w text 0 (2 * a + 4) text b
none_filled orders a w text b h = record { adders = h.adders; width = h.width; idle = λ k l. h.idle k; few = omega arith; whole = unchanged (read_codes orders a 16 0 (2 * a + 4) text) }
  where
    unchanged : (r : Result (List (Option RowData)) Refusal) → with_rows [] r ≡ r
    unchanged (Ok rows) = refl
    unchanged (Err e) = refl

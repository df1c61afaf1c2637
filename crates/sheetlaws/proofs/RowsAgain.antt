-- Code lines that are written are read again.
use Rattle.std.proofs.Common.{◌≡◌, ◌≢◌, ℕ, zero, suc, ◌+◌, ◌-◌, ◌/◌, ◌%◌, ◌<◌, ◌≤◌, true, cond, List, [], ◌∷◌, ◌++◌, length, take, drop, replicate, get_or, Some, None, Option, Ok, refl, ap, ◌∙◌, subst, append_assoc, ⊎_elim, arith}
use Rattle.std.specs.List.{list_all}
use Rattle.std.specs.Prelude.{is_none, option_map, slice_get}
use Rattle.std.proofs.lemmas.List.{length-take-le}
use Rattle.std.proofs.lemmas.Bool.{cases_eq, eq-eqb, ne_eqb, false≢true}
use Rattle.adders.specs.declared.refusals.Refusal.TheVariants.{SheetForm, InputAbsent}
use Rattle.adders.specs.declared.wiring.Adder.{Adder}
use Rattle.adders.specs.Values.{Slots}
use Rattle.adders.specs.Rules.{first_broken}
use Rattle.rows.specs.Rules.{row_rules}
use Rattle.ports.specs.declared.port.Port.{Port}
use Rattle.ports.specs.declared.port.Port.TheVariants.{Left, Right, Output}
use Rattle.ports.specs.Inputs.{Among}
use Rattle.texts.specs.declared.selection.Selection.{Selection}
use Rattle.texts.specs.Text.{code_key, selections, SmallEntry, AllSmallEntries}
use Rattle.texts.specs.Steps as steps
use Rattle.texts.specs.Pieces.{skip, if_next, selections_at}
use Rattle.texts.specs.Listings.{eight_places}
use Rattle.texts.proofs.Skips.{skip_again}
use Rattle.texts.proofs.Takes.{code_key_is}
use Rattle.texts.proofs.Again.{selections_again}
use Rattle.reading.specs.Orders.{Orders}
use Rattle.reading.specs.Data.{RowData}
use Rattle.reading.specs.Stages.{◌>>=◌, or_refused}
use Rattle.reading.specs.Lookup.{wired, slot_of, slots_of, row_data}
use Rattle.reading.specs.Reader.{judged_by, select_row, read_row, then_row, read_codes}
use Rattle.sheetlaws.specs.Sheets.{place, selection_of, selections_of, row_lines}
use Rattle.sheetlaws.proofs.Placed.{get_place, place_few}
use Rattle.sheetlaws.proofs.RowsRead.{then_rest}

-- an adder from j on whose operands are inputs of its ports
abbrev pub Wires : Orders → ℕ → Slots → Type 0
Wires orders j xs = (k : ℕ) (x : Adder) → get_or xs k None ≡ Some x → Among x.left (orders (Left (j + k))) × Among x.right (orders (Right (j + k)))

wired_again : (orders : Orders) (j : ℕ) (x : Adder) → Among x.left (orders (Left j)) → Among x.right (orders (Right j)) → wired orders j (record { left = place x.left (orders (Left j)); sign = x.sign; right = place x.right (orders (Right j)) }) ≡ Some x
unfolding wired
wired_again orders j x l r =
    ap (λ o. steps.◌>>=◌ o (λ left. steps.◌>>=◌ (slice_get (orders (Right j)) (place x.right (orders (Right j)))) (λ right. Some (record { left = left; sign = x.sign; right = right })))) (get_place (orders (Left j)) x.left l)
    ∙ ap (λ o. steps.◌>>=◌ o (λ right. Some (record { left = x.left; sign = x.sign; right = right }))) (get_place (orders (Right j)) x.right r)

slot_again : (orders : Orders) (j : ℕ) (x : Option Adder) → ((y : Adder) → x ≡ Some y → Among y.left (orders (Left j)) × Among y.right (orders (Right j))) → slot_of orders j (selection_of orders j x) ≡ Some x
slot_again orders j None f = refl
slot_again orders j (Some x) f = ap (option_map Some) (wired_again orders j x (f x refl).0 (f x refl).1)

wires_head : (orders : Orders) (j : ℕ) (x : Option Adder) (xs : Slots) → Wires orders j (x ∷ xs) → (y : Adder) → x ≡ Some y → Among y.left (orders (Left j)) × Among y.right (orders (Right j))
wires_head orders j x xs f y e = let n : j + 0 ≡ j = omega arith in subst (λ m. Among y.left (orders (Left m)) × Among y.right (orders (Right m))) n (f 0 y e)

wires_tail : (orders : Orders) (j : ℕ) (x : Option Adder) (xs : Slots) → Wires orders j (x ∷ xs) → Wires orders (suc j) xs
wires_tail orders j x xs f k y e = let n : j + suc k ≡ suc j + k = omega arith in subst (λ m. Among y.left (orders (Left m)) × Among y.right (orders (Right m))) n (f (suc k) y e)

-- the slots behind are empty
empty_again : (orders : Orders) (j : ℕ) (xs : Slots) → list_all is_none xs ≡ true → slots_of orders j (replicate (length xs) None) ≡ Some xs
unfolding slots_of
empty_again orders j [] h = refl
empty_again orders j (None ∷ xs) h = ap (λ r. steps.◌>>=◌ r (λ ys. Some (None ∷ ys))) (empty_again orders (suc j) xs h)
empty_again orders j (Some x ∷ xs) h = absurd (false≢true h)

slots_again : (orders : Orders) (j n : ℕ) (xs : Slots) → Wires orders j xs → list_all is_none (drop n xs) ≡ true → slots_of orders j (selections_of orders j (take n xs) ++ replicate (length xs - n) None) ≡ Some xs
unfolding slots_of
slots_again orders j zero xs f h = let e : length xs - 0 ≡ length xs = omega arith in ap (λ m. slots_of orders j (replicate m None)) e ∙ empty_again orders j xs h
slots_again orders j (suc n) [] f h = let e : 0 - suc n ≡ 0 = omega arith in ap (λ m. slots_of orders j (replicate m None)) e
slots_again orders j (suc n) (x ∷ xs) f h =
    let e : suc (length xs) - suc n ≡ length xs - n = omega arith in
    ap (λ m. slots_of orders j (selections_of orders j (take (suc n) (x ∷ xs)) ++ replicate m None)) e
    ∙ ap (λ r. steps.◌>>=◌ r (then_rest orders j (selections_of orders (suc j) (take n xs) ++ replicate (length xs - n) None))) (slot_again orders j x (wires_head orders j x xs f))
    ∙ ap (λ r. steps.◌>>=◌ r (λ ys. Some (x ∷ ys))) (slots_again orders (suc j) n xs (wires_tail orders j x xs f) h)

pub selections_length : (orders : Orders) (j : ℕ) (xs : Slots) → length (selections_of orders j xs) ≡ length xs
selections_length orders j [] = refl
selections_length orders j (x ∷ xs) = ap suc (selections_length orders (suc j) xs)

abbrev pub FewEach : Orders → Type 0
FewEach orders = (p : Port) → length (orders p) ≤ 16

pub small_entries : (orders : Orders) (j : ℕ) (xs : Slots) → FewEach orders → AllSmallEntries (selections_of orders j xs)
small_entries orders j [] few = tt
small_entries orders j (x ∷ xs) few = (one x, small_entries orders (suc j) xs few)
  where
    one : (x : Option Adder) → SmallEntry (selection_of orders j x)
    one None = tt
    one (Some x) = (omega (arith, place_few (orders (Left j)) x.left, few (Left j)), omega (arith, place_few (orders (Right j)) x.right, few (Right j)))

-- a row over these inputs that keeps the rules
pub record RowFits (orders : Orders) (a : ℕ) (r : RowData) : Type 0 where
  pub room : length r.slots ≡ 8
  pub unused : list_all is_none (drop a r.slots) ≡ true
  pub wires : Wires orders 1 r.slots
  pub output : Among r.output (orders Output)
  pub lawful : first_broken (row_rules r.slots r.output) ≡ None

module _ (orders : Orders) (a : ℕ) (few_adders : a ≤ 8) (few : FewEach orders) where
  module _ (r : RowData) (h : RowFits orders a r) where
    es : List (Option Selection)
    es = selections_of orders 1 (take a r.slots)

    entries_count : length (selections_of orders 1 (take a r.slots)) ≡ a
    entries_count = selections_length orders 1 (take a r.slots) ∙ length-take-le a r.slots (omega (arith, h.room))

    row_selected : row_data orders (eight_places (selections_of orders 1 (take a r.slots))) (place r.output (orders Output)) ≡ Some r
    unfolding row_data
    row_selected =
        let e : 8 - length (selections_of orders 1 (take a r.slots)) ≡ length r.slots - a = omega (arith, h.room, entries_count) in
        ap (λ m. steps.◌>>=◌ (slots_of orders 1 (selections_of orders 1 (take a r.slots) ++ replicate m None)) (λ slots. steps.◌>>=◌ (slice_get (orders Output) (place r.output (orders Output))) (λ output. Some (record { slots = slots; output = output })))) e
        ∙ ap (λ o. steps.◌>>=◌ o (λ slots. steps.◌>>=◌ (slice_get (orders Output) (place r.output (orders Output))) (λ output. Some (record { slots = slots; output = output })))) (slots_again orders 1 a r.slots h.wires h.unused)
        ∙ ap (λ o. steps.◌>>=◌ o (λ output. Some (record { slots = r.slots; output = output }))) (get_place (orders Output) r.output h.output)

    pub row_again : (n : ℕ) (rest : List ℕ) → read_row orders a n (selections (selections_of orders 1 (take a r.slots)) (place r.output (orders Output)) ++ rest) ≡ Ok (r, rest)
    unfolding read_row select_row
    row_again n rest =
        let xs = selections_of orders 1 (take a r.slots) in
        let out = place r.output (orders Output) in
        let line = subst (λ m. selections_at m (selections xs out ++ rest) ≡ Some ((xs, out), rest)) entries_count (selections_again xs out rest (small_entries orders 1 (take a r.slots) few) (omega (arith, place_few (orders Output) r.output, few Output))) in
        ap (λ s. or_refused (SheetForm n) s >>= λ s. select_row orders n (eight_places s.0.0) s.0.1 >>= λ row. Ok (row, s.1)) line
        ∙ ap (λ s. (or_refused (InputAbsent n) s >>= λ r. judged_by n r (first_broken (row_rules r.slots r.output))) >>= λ row. Ok (row, rest)) row_selected
        ∙ ap (λ o. judged_by n r o >>= λ row. Ok (row, rest)) h.lawful

  -- another code's key is not this one's
  keys_differ : (c d : ℕ) (rest : List ℕ) → c < d → d ≤ 99 → skip (code_key c) (code_key d ++ rest) ≡ None
  keys_differ c d rest lt most =
      ap (λ k. skip k (code_key d ++ rest)) (code_key_is c (omega arith)) ∙ ap (λ k. skip (115 ∷ (48 + c / 10) ∷ (48 + c % 10) ∷ 61 ∷ []) (k ++ rest)) (code_key_is d most)
      ∙ ⊎_elim {C = skip (115 ∷ (48 + c / 10) ∷ (48 + c % 10) ∷ 61 ∷ []) (115 ∷ (48 + d / 10) ∷ (48 + d % 10) ∷ 61 ∷ rest) ≡ None}
      (λ tens.
      let ones : c % 10 ≢ d % 10 = λ e. omega (arith, tens, e) in
      ap (λ b. cond b (skip ((48 + c % 10) ∷ 61 ∷ []) ((48 + d % 10) ∷ 61 ∷ rest)) None) (eq-eqb (48 + c / 10) (48 + d / 10) (ap (λ n. 48 + n) tens))
      ∙ ap (λ b. cond b (skip (61 ∷ []) (61 ∷ rest)) None) (ne_eqb (48 + c % 10) (48 + d % 10) (λ e. ones (omega arith))))
      (λ ne. ap (λ b. cond b (skip ((48 + c % 10) ∷ 61 ∷ []) ((48 + d % 10) ∷ 61 ∷ rest)) None) (ne_eqb (48 + c / 10) (48 + d / 10) (λ e. ne (omega arith))))
      (cases_eq (c / 10) (d / 10))

  no_key : (c d : ℕ) (rs : List (Option RowData)) → c < d → d + length rs ≤ 16 → skip (code_key c) (row_lines orders a d rs) ≡ None
  no_key c d [] lt most = refl
  no_key c d (None ∷ rs) lt most = no_key c (suc d) rs (omega arith) (omega arith)
  no_key c d (Some r ∷ rs) lt most =
      let body = selections (selections_of orders 1 (take a r.slots)) (place r.output (orders Output)) in
      ap (skip (code_key c)) (append_assoc (code_key d) body (row_lines orders a (suc d) rs)) ∙ keys_differ c d (body ++ row_lines orders a (suc d) rs) lt (omega arith)

  pub codes_again : (c n : ℕ) (rs : List (Option RowData)) → c + length rs ≤ 16 → ((k : ℕ) (r : RowData) → get_or rs k None ≡ Some r → RowFits orders a r) → read_codes orders a (length rs) c n (row_lines orders a c rs) ≡ Ok rs
  unfolding read_codes
  codes_again c n [] most fit = refl
  codes_again c n (None ∷ rs) most fit =
      ap (λ o. if_next o (then_row None (read_codes orders a (length rs) (suc c) n (row_lines orders a (suc c) rs))) (λ rest. read_row orders a n rest >>= λ row. then_row (Some row.0) (read_codes orders a (length rs) (suc c) (suc n) row.1)))
      (no_key c (suc c) rs (omega arith) (omega arith))
      ∙ ap (then_row None) (codes_again (suc c) n rs (omega arith) (λ k r e. fit (suc k) r e))
  codes_again c n (Some r ∷ rs) most fit =
      let body = selections (selections_of orders 1 (take a r.slots)) (place r.output (orders Output)) in
      let text = body ++ row_lines orders a (suc c) rs in
      ap (read_codes orders a (suc (length rs)) c n) (append_assoc (code_key c) body (row_lines orders a (suc c) rs))
      ∙ ap (λ o. if_next o (then_row None (read_codes orders a (length rs) (suc c) n (code_key c ++ text))) (λ rest. read_row orders a n rest >>= λ row. then_row (Some row.0) (read_codes orders a (length rs) (suc c) (suc n) row.1)))
      (skip_again (code_key c) text)
      ∙ ap (λ q. q >>= λ row. then_row (Some row.0) (read_codes orders a (length rs) (suc c) (suc n) row.1)) (row_again r (fit 0 r refl) n (row_lines orders a (suc c) rs))
      ∙ ap (then_row (Some r)) (codes_again (suc c) (suc n) rs (omega arith) (λ k r e. fit (suc k) r e))

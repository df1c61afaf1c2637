-- Code lines that were read.
use Rattle.std.proofs.Common.{◌≡◌, ℕ, zero, suc, ◌+◌, ◌-◌, leb, eqb, List, [], ◌∷◌, ◌++◌, length, take, replicate, get_or, Some, None, Option, Ok, sym, refl, ap, ◌∙◌, subst, append_assoc, arith}
use Rattle.std.specs.Prelude.{option_map, slice_get}
use Rattle.std.proofs.lemmas.List.{nil_from_length}
use Rattle.std.proofs.lemmas.Bool.{eqb-true, cond-true, le-leb}
use Rattle.adders.specs.declared.refusals.Refusal.TheVariants.{SheetForm}
use Rattle.adders.specs.declared.wiring.Adder.{Adder}
use Rattle.adders.specs.declared.wiring.Operand.{Operand}
use Rattle.adders.specs.Values.{Slots}
use Rattle.adders.proofs.Broken.{some_none}
use Rattle.ports.specs.declared.port.Port.{Port}
use Rattle.ports.specs.declared.port.Port.TheVariants.{Left, Right, Output}
use Rattle.ports.specs.Ports.{left_of, right_of}
use Rattle.ports.specs.Inputs.{Among}
use Rattle.texts.specs.declared.selection.Selection.{Selection}
use Rattle.texts.specs.Text.{code_key, selections}
use Rattle.texts.specs.Steps as steps
use Rattle.texts.specs.Pieces.{skip, if_next}
use Rattle.texts.specs.Listings.{eight_places}
use Rattle.texts.proofs.Skips.{skip_takes}
use Rattle.texts.proofs.Takes.{selections_take, bind_some, some_is}
use Rattle.reading.specs.Orders.{Orders}
use Rattle.reading.specs.Data.{RowData, slot_at, data_at}
use Rattle.reading.specs.Stages.{◌>>=◌}
use Rattle.reading.specs.Lookup.{wired, slot_of, slots_of, row_data}
use Rattle.reading.specs.Repeats.{Once}
use Rattle.reading.specs.Reader.{read_row, then_row, read_codes}
use Rattle.sheetlaws.specs.Sheets.{place, selection_of, selections_of, row_lines}
use Rattle.reading.proofs.Staged.{bind_ok, passed, ok_is, RowRead, row_read}
use Rattle.sheetlaws.proofs.Placed.{among_get, place_get}

abbrev pub AllOnce : Orders → Type 0
AllOnce orders = (p : Port) → Once (orders p)

-- the inputs of a selection
pub wired_by : (orders : Orders) (j : ℕ) (s : Selection) (x : Adder) → wired orders j s ≡ Some x → (slice_get (orders (Left j)) s.left ≡ Some x.left) × (s.sign ≡ x.sign) × (slice_get (orders (Right j)) s.right ≡ Some x.right)
unfolding wired
wired_by orders j s x e =
    let l = bind_some (slice_get (orders (Left j)) s.left) (λ left. steps.◌>>=◌ (slice_get (orders (Right j)) s.right) (λ right. Some (record { left = left; sign = s.sign; right = right }))) x e in
    let r = bind_some (slice_get (orders (Right j)) s.right) (λ right. Some (record { left = l.0; sign = s.sign; right = right })) x l.2 in
    let same : record { left = l.0; sign = s.sign; right = r.0 } ≡ x = some_is (record { left = l.0; sign = s.sign; right = r.0 }) x r.2 in
    (l.1 ∙ ap (λ (y : Adder). Some y.left) same, ap (λ (y : Adder). y.sign) same, r.1 ∙ ap (λ (y : Adder). Some y.right) same)

selection_back : (orders : Orders) (j : ℕ) (e : Option Selection) (x : Option Adder) → AllOnce orders → slot_of orders j e ≡ Some x → selection_of orders j x ≡ e
selection_back orders j None x once h = ap (selection_of orders j) (sym (some_is None x h))
selection_back orders j (Some s) x once h = by (wired orders j s) refl h
  where
    by : (o : Option Adder) → wired orders j s ≡ o → option_map Some o ≡ Some x → selection_of orders j x ≡ Some s
    by None w k = absurd (some_none (sym k))
    by (Some a) w k =
        let p = wired_by orders j s a w in
        let left = place_get (orders (Left j)) s.left a.left (once (Left j)) p.0 in
        let right = place_get (orders (Right j)) s.right a.right (once (Right j)) p.2 in
        ap (selection_of orders j) (sym (some_is (Some a) x k)) ∙ (λ i. Some (record { left = left i; sign = sym p.1 i; right = right i }))

abbrev pub then_rest : Orders → ℕ → List (Option Selection) → Option Adder → Option Slots
then_rest orders j xs x = steps.◌>>=◌ (slots_of orders (suc j) xs) (λ ys. Some (x ∷ ys))

selections_back : (orders : Orders) (j m : ℕ) (es : List (Option Selection)) (slots : Slots) → AllOnce orders → slots_of orders j (es ++ replicate m None) ≡ Some slots → selections_of orders j (take (length es) slots) ≡ es
unfolding slots_of
selections_back orders j m [] slots once h = refl
selections_back orders j m (e ∷ es) slots once h =
    let a = bind_some (slot_of orders j e) (then_rest orders j (es ++ replicate m None)) slots h in
    let b = bind_some (slots_of orders (suc j) (es ++ replicate m None)) (λ ys. Some (a.0 ∷ ys)) slots a.2 in
    let first = selection_back orders j e a.0 once a.1 in
    let others = selections_back orders (suc j) m es b.0 once b.1 in
    ap (λ s. selections_of orders j (take (length (e ∷ es)) s)) (sym (some_is (a.0 ∷ b.0) slots b.2)) ∙ (λ i. first i ∷ others i)

-- an adder of the row was wired by a selection
pub slots_wired : (orders : Orders) (j k : ℕ) (xs : List (Option Selection)) (slots : Slots) (x : Adder) → slots_of orders j xs ≡ Some slots → get_or slots k None ≡ Some x → (s : Selection) × (wired orders (j + k) s ≡ Some x)
unfolding slots_of
slots_wired orders j k [] slots x h g = absurd (some_none (sym (ap (λ ys. get_or ys k None) (some_is [] slots h) ∙ g)))
slots_wired orders j k (e ∷ es) slots x h g =
    let a = bind_some (slot_of orders j e) (then_rest orders j es) slots h in
    let b = bind_some (slots_of orders (suc j) es) (λ ys. Some (a.0 ∷ ys)) slots a.2 in
    by k a.0 b.0 (ap (λ ys. get_or ys k None) (some_is (a.0 ∷ b.0) slots b.2) ∙ g) e a.1 (λ i. slots_wired orders (suc j) i es b.0 x b.1)
  where
    one : (e : Option Selection) → slot_of orders j e ≡ Some (Some x) → (s : Selection) × (wired orders j s ≡ Some x)
    one None f = absurd (some_none (sym (some_is None (Some x) f)))
    one (Some s) f = found (wired orders j s) refl f
      where
        found : (o : Option Adder) → wired orders j s ≡ o → option_map Some o ≡ Some (Some x) → (s : Selection) × (wired orders j s ≡ Some x)
        found None w q = absurd (some_none (sym q))
        found (Some y) w q = (s, w ∙ some_is (Some y) (Some x) q)

    by : (k : ℕ) (y : Option Adder) (ys : Slots) → get_or (y ∷ ys) k None ≡ Some x → (e : Option Selection) → slot_of orders j e ≡ Some y → ((i : ℕ) → get_or ys i None ≡ Some x → (s : Selection) × (wired orders (suc j + i) s ≡ Some x)) → (s : Selection) × (wired orders (j + k) s ≡ Some x)
    by zero y ys q e f later = let n : j ≡ j + 0 = omega arith in subst (λ m. (s : Selection) × (wired orders m s ≡ Some x)) n (one e (f ∙ ap Some q))
    by (suc i) y ys q e f later = let n : suc j + i ≡ j + suc i = omega arith in subst (λ m. (s : Selection) × (wired orders m s ≡ Some x)) n (later i q)

-- a row that was read: its entries, and the inputs that it has at the ports
pub record RowFrom (orders : Orders) (r : RowData) : Type 0 where
  pub entries : List (Option Selection)
  pub output : ℕ
  pub selects : row_data orders entries output ≡ Some r

pub row_parts : (orders : Orders) (xs : List (Option Selection)) (out : ℕ) (r : RowData) → row_data orders xs out ≡ Some r → (slots_of orders 1 xs ≡ Some r.slots) × (slice_get (orders Output) out ≡ Some r.output)
unfolding row_data
row_parts orders xs out r h =
    let s = bind_some (slots_of orders 1 xs) (λ slots. steps.◌>>=◌ (slice_get (orders Output) out) (λ output. Some (record { slots = slots; output = output }))) r h in
    let o = bind_some (slice_get (orders Output) out) (λ output. Some (record { slots = s.0; output = output })) r s.2 in
    let same = some_is (record { slots = s.0; output = o.0 }) r o.2 in
    (s.1 ∙ ap (λ (d : RowData). Some d.slots) same, o.1 ∙ ap (λ (d : RowData). Some d.output) same)

pub slot_is : (xs : Slots) (k : ℕ) → slot_at xs (suc k) ≡ get_or xs k None
slot_is xs k =
    let n : suc k - 1 ≡ k = omega arith in
    cond-true (leb 1 (suc k)) (get_or xs (suc k - 1) None) None (le-leb 1 (suc k) (omega arith)) ∙ ap (λ m. get_or xs m None) n

-- at one side of an adder: g is the operand there, f that of an adder, and n the number of its input
side_input : (orders : Orders) (r : RowData) (h : RowFrom orders r) (k : ℕ) (p : Port) (g : Option Adder → Option Operand) (f : Adder → Operand) (n : Selection → ℕ) → g None ≡ None → ((x : Adder) → g (Some x) ≡ Some (f x))
    → ((s : Selection) (x : Adder) → wired orders (suc k) s ≡ Some x → slice_get (orders p) (n s) ≡ Some (f x)) → (o : Operand) → g (slot_at r.slots (suc k)) ≡ Some o → Among o (orders p)
side_input orders r h k p g f n none some read o e = by (get_or r.slots k None) refl (ap g (sym (slot_is r.slots k)) ∙ e)
  where
    by : (x : Option Adder) → get_or r.slots k None ≡ x → g x ≡ Some o → Among o (orders p)
    by None here q = absurd (some_none (sym q ∙ none))
    by (Some x) here q =
        let parts = row_parts orders h.entries h.output r h.selects in
        let s = slots_wired orders 1 k h.entries r.slots x parts.0 here in
        let m : 1 + k ≡ suc k = omega arith in
        among_get (orders p) (n s.0) o (read s.0 x (subst (λ i. wired orders i s.0 ≡ Some x) m s.1) ∙ sym (some x) ∙ q)

pub has_input : (orders : Orders) (r : RowData) → RowFrom orders r → (p : Port) (o : Operand) → data_at r p ≡ Some o → Among o (orders p)
has_input orders r h Output o e = let p = row_parts orders h.entries h.output r h.selects in among_get (orders Output) h.output o (p.1 ∙ e)
has_input orders r h (Left zero) o e = absurd (some_none (sym e))
has_input orders r h (Left (suc k)) o e = side_input orders r h k (Left (suc k)) left_of (λ x. x.left) (λ s. s.left) refl (λ x. refl) (λ s x w. (wired_by orders (suc k) s x w).0) o e
has_input orders r h (Right zero) o e = absurd (some_none (sym e))
has_input orders r h (Right (suc k)) o e = side_input orders r h k (Right (suc k)) right_of (λ x. x.right) (λ s. s.right) refl (λ x. refl) (λ s x w. (wired_by orders (suc k) s x w).2) o e

-- one line
line_read : (orders : Orders) (a : ℕ) (text : List ℕ) (r : RowData) (rest : List ℕ) → AllOnce orders → RowRead orders a text r rest → text ≡ selections (selections_of orders 1 (take a r.slots)) (place r.output (orders Output)) ++ rest
line_read orders a text r rest once h =
    let t = selections_take a text ((h.entries, h.output), rest) h.line in
    let p = row_parts orders (eight_places h.entries) h.output r h.selected in
    let es = selections_back orders 1 (8 - length h.entries) h.entries r.slots once p.0 in
    let out = place_get (orders Output) h.output r.output (once Output) p.1 in
    t.0 ∙ ap (λ xs. selections xs h.output ++ rest) (sym es ∙ ap (λ n. selections_of orders 1 (take n r.slots)) t.1) ∙ ap (λ n. selections (selections_of orders 1 (take a r.slots)) n ++ rest) (sym out)

-- all lines up to the end
pub record RowsRead (orders : Orders) (a c : ℕ) (text : List ℕ) (rows : List (Option RowData)) : Type 0 where
  pub text_is : text ≡ row_lines orders a c rows
  pub each : (k : ℕ) (r : RowData) → get_or rows k None ≡ Some r → RowFrom orders r

pub rows_read : (orders : Orders) (a k c n : ℕ) (text : List ℕ) (rows : List (Option RowData)) → AllOnce orders → read_codes orders a k c n text ≡ Ok rows → RowsRead orders a c text rows
unfolding read_codes
rows_read orders a zero c n text rows once e =
    let p = passed (eqb (length text) 0) (SheetForm n) [] rows e in
    subst (RowsRead orders a c text) p.1 (record { text_is = nil_from_length text (eqb-true (length text) 0 p.0); each = λ k r h. absurd (some_none (sym h)) })
rows_read orders a (suc k) c n text rows once e = by (skip (code_key c) text) refl e (λ m t rs. rows_read orders a k (suc c) m t rs once)
  where
    by : (o : Option (List ℕ)) → skip (code_key c) text ≡ o
        → if_next o (then_row None (read_codes orders a k (suc c) n text)) (λ rest. read_row orders a n rest >>= λ row. then_row (Some row.0) (read_codes orders a k (suc c) (suc n) row.1)) ≡ Ok rows
        → ((m : ℕ) (t : List ℕ) (rs : List (Option RowData)) → read_codes orders a k (suc c) m t ≡ Ok rs → RowsRead orders a (suc c) t rs) → RowsRead orders a c text rows
    by None key h later =
        let rs = bind_ok _ _ rows h in
        let l = later n text rs.0 rs.1 in
        subst (RowsRead orders a c text) (ok_is (None ∷ rs.0) rows rs.2) (record { text_is = l.text_is; each = none_first rs.0 l })
      where
        none_first : (rs : List (Option RowData)) → RowsRead orders a (suc c) text rs → (i : ℕ) (r : RowData) → get_or (None ∷ rs) i None ≡ Some r → RowFrom orders r
        none_first rs l zero r g = absurd (some_none (sym g))
        none_first rs l (suc i) r g = l.each i r g
    by (Some rest) key h later =
        let row = bind_ok _ _ rows h in
        let rs = bind_ok _ _ rows row.2 in
        let read = row_read orders a n rest row.0.0 row.0.1 row.1 in
        let l = later (suc n) row.0.1 rs.0 rs.1 in
        let line = line_read orders a rest row.0.0 row.0.1 once read in
        subst (RowsRead orders a c text) (ok_is (Some row.0.0 ∷ rs.0) rows rs.2) (record {
          text_is = skip_takes (code_key c) text rest key ∙ ap (λ t. code_key c ++ t) (line ∙ ap (λ t. selections (selections_of orders 1 (take a row.0.0.slots)) (place row.0.0.output (orders Output)) ++ t) l.text_is)
              ∙ sym (append_assoc (code_key c) (selections (selections_of orders 1 (take a row.0.0.slots)) (place row.0.0.output (orders Output))) (row_lines orders a (suc c) rs.0));
          each = λ i r g. each_of row.0.0 rs.0 read l i r g;
        })
      where
        each_of : (d : RowData) (rs : List (Option RowData)) {t u v : List ℕ} → RowRead orders a t d u → RowsRead orders a (suc c) v rs → (i : ℕ) (r : RowData) → get_or (Some d ∷ rs) i None ≡ Some r → RowFrom orders r
        each_of d rs read l zero r g = record { entries = eight_places read.entries; output = read.output; selects = read.selected ∙ g }
        each_of d rs read l (suc i) r g = l.each i r g

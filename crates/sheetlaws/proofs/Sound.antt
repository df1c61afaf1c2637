-- What is accepted is a sheet.
use Rattle.std.proofs.Common.{get_or, arith, ◌≡◌, ℕ, zero, suc, ◌*◌, ◌+◌, ◌<◌, ◌≤◌, Bool, true, false, cond, leb, List, [], ◌∷◌, ◌++◌, length, Some, None, Option, Ok, Err, sym, refl, ap, ◌∙◌, subst, ⊎_elim}
use Rattle.std.specs.Prelude.{codes, option_map}
use Rattle.std.specs.List.{list_all, list_any}
use Rattle.std.proofs.lemmas.List.{take_all}
use Rattle.std.proofs.lemmas.Bool.{and_parts, leb-true}
use Rattle.adders.specs.declared.refusals.Refusal.TheVariants.{SheetTooLong, InputUnselected}
use Rattle.adders.specs.declared.wiring.Operand.{Operand}
use Rattle.adders.proofs.Broken.{some_none}
use Rattle.rows.specs.declared.model.Row.{Row}
use Rattle.blocks.specs.declared.model.Block.{Block}
use Rattle.blocks.specs.Blocks.{row_of}
use Rattle.ports.specs.declared.port.Port.{Port}
use Rattle.ports.specs.declared.port.Port.TheVariants.{Output}
use Rattle.ports.specs.Ports.{ports, put_at}
use Rattle.ports.specs.Inputs.{same, Among, Selected}
use Rattle.ports.proofs.Ascending.{inputs_law}
use Rattle.texts.specs.Text.{number_line}
use Rattle.reading.specs.Orders.{Orders, no_lines}
use Rattle.reading.specs.Data.{RowData, data_of, Said, rows_of, said}
use Rattle.reading.specs.Stages.{if_passed}
use Rattle.reading.specs.Repeats.{Once}
use Rattle.reading.specs.Reader.{data_inputs, all_selected, check_ports, read_number, read_ports, read_codes, read_block, read_sheet}
use Rattle.sheetlaws.specs.Sheets.{port_lines, InputsInOrder, IsSheet}
use Rattle.reading.proofs.Staged.{bind_ok, passed, ok_is, ok_not_err}
use Rattle.reading.proofs.Repeated.{any_among}
use Rattle.reading.proofs.Selected.{same_put, same_inputs}
use Rattle.sheetlaws.proofs.ToldNumbers.{number_fine}
use Rattle.sheetlaws.proofs.ToldOrder.{Fresh, proper, find_port, fresh_from}
use Rattle.sheetlaws.proofs.ToldLines.{Fine, fine_at, ports_fine}
use Rattle.sheetlaws.proofs.ToldStages.{after_block, after_ports, after_width, after_adders, after_length, as_stages}
use Rattle.reading.proofs.RowByRow.{rows_at}
use Rattle.sheetlaws.proofs.RowsRead.{AllOnce, RowsRead, rows_read, has_input}

-- what was checked of each port
checked : (rows : List (Option RowData)) (orders : Orders) (n : ℕ) (ps : List Port) → check_ports rows orders n ps ≡ Ok tt → (k : ℕ) → k < length ps → all_selected rows (get_or ps k Output) (orders (get_or ps k Output)) ≡ true
checked rows orders n [] e k h = absurd (omega arith)
checked rows orders n (q ∷ ps) e k h = by (all_selected rows q (orders q)) refl e k h (checked rows orders (suc n) ps)
  where
    by : (b : Bool) → all_selected rows q (orders q) ≡ b → cond b (check_ports rows orders (suc n) ps) (Err (InputUnselected n)) ≡ Ok tt → (k : ℕ) → k < length (q ∷ ps)
        → (check_ports rows orders (suc n) ps ≡ Ok tt → (i : ℕ) → i < length ps → all_selected rows (get_or ps i Output) (orders (get_or ps i Output)) ≡ true) → all_selected rows (get_or (q ∷ ps) k Output) (orders (get_or (q ∷ ps) k Output)) ≡ true
    by false s f k h later = absurd (ok_not_err tt (InputUnselected n) (sym f))
    by true s f zero h later = s
    by true s f (suc i) h later = later f i (omega arith)

all_among : (ys os : List Operand) (o : Operand) → list_all (λ o. list_any (same o) ys) os ≡ true → Among o os → Among o ys
all_among ys [] o e h = absurd h
all_among ys (x ∷ os) o e h =
    let p = and_parts (list_any (same x) ys) (list_all (λ o. list_any (same o) ys) os) e in
    ⊎_elim {C = Among o ys} (λ same. subst (λ z. Among z ys) (sym same) (any_among x ys p.0)) (λ k. all_among ys os o p.1 k) h

module _ (b : Block) (orders : Orders) (rest : List ℕ) (fine : Fine b.adders orders (ports b.adders)) (others : (q : Port) → Fresh q (ports b.adders) → orders q ≡ []) where
  -- a port either has its line or no inputs
  by_line : (p : Port) (P : Type 0) → ((k : ℕ) → k < length (ports b.adders) → get_or (ports b.adders) k Output ≡ p → P) → (orders p ≡ [] → P) → P
  by_line p P f g = ⊎_elim {C = P} (λ found. f found.0 found.1 found.2) (λ none. g (others p (fresh_from p (ports b.adders) none))) (find_port p (ports b.adders))

  pub all_once : AllOnce orders
  all_once p =
      by_line p (Once (orders p))
      (λ k h e. subst (λ q. Once (orders q)) e (fine_at b.adders orders (length (ports b.adders)) (ports b.adders) (omega arith) (subst (Fine b.adders orders) (sym (take_all (length (ports b.adders)) (ports b.adders) (omega arith))) fine) k h).once)
      (λ e. subst Once (sym e) tt)

  module _ (codes : RowsRead orders b.adders 0 rest (rows_of b)) (selected : check_ports (rows_of b) orders 3 (ports b.adders) ≡ Ok tt) where
    only : (p : Port) (o : Operand) → Among o (orders p) → Selected b p o
    only p o h =
        by_line p (Selected b p o)
        (λ k lt e. (inputs_law.these b p).only o (subst (Among o) (same_inputs b p) (all_among (data_inputs (rows_of b) p) (orders p) o (subst (λ q. all_selected (rows_of b) q (orders q) ≡ true) e (checked (rows_of b) orders 3 (ports b.adders) selected k lt)) h)))
        (λ e. absurd (subst (Among o) e h))

    all : (p : Port) (o : Operand) → Selected b p o → Among o (orders p)
    all p o h = by (row_of b h.0) refl h.1
      where
        by : (r : Option Row) → row_of b h.0 ≡ r → put_at r p ≡ Some o → Among o (orders p)
        by None e g = absurd (some_none (sym g))
        by (Some r) e g = has_input orders (data_of r) (codes.each h.0 (data_of r) (rows_at b h.0 ∙ ap (option_map data_of) e)) p o (same_put (Some r) p ∙ g)

    pub in_order : (p : Port) → InputsInOrder b p (orders p)
    in_order p = record { once = all_once p; only = only p; all = all p }

-- The stages of a sheet that was read.

pub record SheetRead (bytes : List ℕ) (s : Said) : Type 0 where
  pub short : length bytes ≤ 4096
  pub after_adders : List ℕ
  pub adders : bytes ≡ number_line (codes "adders=") s.adders ++ after_adders
  pub after_width : List ℕ
  pub width : after_adders ≡ number_line (codes "width=") s.width ++ after_width
  pub orders : Orders
  pub after_ports : List ℕ
  pub lines : after_width ≡ port_lines orders (ports s.adders) ++ after_ports
  pub fine : Fine s.adders orders (ports s.adders)
  pub others : (q : Port) → Fresh q (ports s.adders) → orders q ≡ []
  pub codes_read : read_codes orders s.adders 16 0 (2 * s.adders + 4) after_ports ≡ Ok s.rows
  pub selected : check_ports s.rows orders 3 (ports s.adders) ≡ Ok tt

tt_is : (u : Unit {0}) → u ≡ tt
tt_is u = refl

pub sheet_read : (bytes : List ℕ) (s : Said) → read_sheet bytes ≡ Ok s → SheetRead bytes s
unfolding read_block
sheet_read bytes s e =
    let t = bind_ok (if_passed (leb (length bytes) 4096) SheetTooLong bytes) after_length s (sym (as_stages bytes) ∙ e) in
    let short = passed (leb (length bytes) 4096) SheetTooLong bytes t.0 t.1 in
    let a = bind_ok (read_number (codes "adders=") 0 8 1 t.0) after_adders s t.2 in
    let w = bind_ok (read_number (codes "width=") 1 32 2 a.0.1) (after_width a.0.0) s a.2 in
    let orders = bind_ok (read_ports a.0.0 3 (ports a.0.0) no_lines w.0.1) (after_ports a.0.0 w.0.0) s w.2 in
    let block = bind_ok (read_block orders.0.0 a.0.0 w.0.0 orders.0.1) (after_block orders.0.0) s orders.2 in
    let selected = bind_ok (check_ports block.0.rows orders.0.0 3 (ports block.0.adders)) (λ selected. Ok block.0) s block.2 in
    let rows = bind_ok (read_codes orders.0.0 a.0.0 16 0 (2 * a.0.0 + 4) orders.0.1) (λ rows. Ok (record { adders = a.0.0; width = w.0.0; rows = rows })) block.0 block.1 in
    let said_so = ok_is (record { adders = a.0.0; width = w.0.0; rows = rows.0 }) block.0 rows.2 in
    let whole = said_so ∙ ok_is block.0 s selected.2 in
    let adders = number_fine (codes "adders=") 0 8 1 t.0 a.0 a.1 in
    let width = number_fine (codes "width=") 1 32 2 a.0.1 w.0 w.1 in
    let lines = ports_fine a.0.0 3 (ports a.0.0) no_lines w.0.1 orders.0 (proper a.0.0 adders.2) orders.1 in
    subst (SheetRead bytes) whole (record {
      short = leb-true (length bytes) 4096 short.0;
      after_adders = a.0.1;
      adders = short.1 ∙ adders.0;
      after_width = w.0.1;
      width = width.0;
      orders = orders.0.0;
      after_ports = orders.0.1;
      lines = lines.0;
      fine = lines.1.0;
      others = lines.1.1;
      codes_read = rows.1;
      selected = ap (λ (b : Said). check_ports b.rows orders.0.0 3 (ports b.adders)) said_so ∙ selected.1 ∙ ap Ok (tt_is selected.0);
    })

pub sound : (bytes : List ℕ) (b : Block) → read_sheet bytes ≡ Ok (said b) → IsSheet bytes b
sound bytes b e =
    let h = sheet_read bytes (said b) e in
    let once = all_once b h.orders h.after_ports h.fine h.others in
    let codes_of = rows_read h.orders b.adders 16 0 (2 * b.adders + 4) h.after_ports (rows_of b) once h.codes_read in
    record {
      orders = h.orders;
      ordered = in_order b h.orders h.after_ports h.fine h.others codes_of h.selected;
      text = h.adders
          ∙ ap (λ t. number_line (codes "adders=") b.adders ++ t)
          (h.width ∙ ap (λ t. number_line (codes "width=") b.width ++ t) (h.lines ∙ ap (λ t. port_lines h.orders (ports b.adders) ++ t) codes_of.text_is));
    }

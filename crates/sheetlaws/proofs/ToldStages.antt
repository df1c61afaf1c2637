-- A sheet whose first stages are fine is read on from there.
use Rattle.std.proofs.Common.{◌≡◌, ◌≢◌, ℕ, ◌+◌, ◌*◌, ◌<◌, ◌≤◌, ◌⊎◌, inl, inr, leb, List, ◌++◌, length, take, get_or, Option, Ok, Err, Result, refl, ap, ◌∙◌, sym, subst, arith}
use Rattle.std.specs.Prelude.{codes}
use Rattle.std.proofs.lemmas.List.{take_all}
use Rattle.std.proofs.lemmas.Bool.{le-leb, lt-leb}
use Rattle.adders.specs.declared.refusals.Refusal.{Refusal}
use Rattle.adders.specs.declared.refusals.Refusal.TheVariants.{SheetTooLong}
use Rattle.ports.specs.declared.port.Port.{Port}
use Rattle.ports.specs.declared.port.Port.TheVariants.{Output}
use Rattle.ports.specs.Ports.{ports}
use Rattle.texts.specs.Text.{number_line}
use Rattle.reading.specs.Orders.{Orders, no_lines}
use Rattle.reading.specs.Data.{RowData, Said}
use Rattle.sheetlaws.specs.Sheets.{port_lines}
use Rattle.reading.specs.Stages.{◌>>=◌, if_passed}
use Rattle.reading.specs.Reader.{read_number, read_ports, read_block, check_ports, read_sheet}
use Rattle.sheetlaws.specs.Refusing.{Begun, PortsBegun, AllPorts, CodesFine, CodeFault, Rows, Refused, too_long, in_adders, in_width, in_port, in_code, unselected}
use Rattle.reading.proofs.PortOrder.{ports_count}
use Rattle.sheetlaws.proofs.ToldNumbers.{number_read, number_refused}
use Rattle.sheetlaws.proofs.ToldOrder.{proper, find_port}
use Rattle.sheetlaws.proofs.ToldLines.{Fine, fine_from, overlay, kept_at, kept_there, ports_read, ports_refused}
use Rattle.sheetlaws.proofs.ToldReached.{codes_refused}
use Rattle.sheetlaws.proofs.ToldRows.{rows_read}
use Rattle.sheetlaws.proofs.ToldSelected.{check_refused}

-- What is read after each stage.

abbrev pub after_block : Orders → Said → Result Said Refusal
after_block orders block = check_ports block.rows orders 3 (ports block.adders) >>= λ selected. Ok block

abbrev pub after_ports : ℕ → ℕ → Orders × List ℕ → Result Said Refusal
after_ports a w orders = read_block orders.0 a w orders.1 >>= after_block orders.0

abbrev pub after_width : ℕ → ℕ × List ℕ → Result Said Refusal
after_width a w = read_ports a 3 (ports a) no_lines w.1 >>= after_ports a w.0

abbrev pub after_adders : ℕ × List ℕ → Result Said Refusal
after_adders a = read_number (codes "width=") 1 32 2 a.1 >>= after_width a.0

abbrev pub after_length : List ℕ → Result Said Refusal
after_length text = read_number (codes "adders=") 0 8 1 text >>= after_adders

pub as_stages : (bytes : List ℕ) → read_sheet bytes ≡ (if_passed (leb (length bytes) 4096) SheetTooLong bytes >>= after_length)
unfolding read_sheet
as_stages bytes = refl

pub places : (a : ℕ) → length (ports a) ≡ 2 * a + 1
places a = omega (arith, ports_count a 1)

pub all_taken : (a : ℕ) → take (2 * a + 1) (ports a) ≡ ports a
all_taken a = take_all (2 * a + 1) (ports a) (omega (arith, places a))

module _ (bytes : List ℕ) where
  pub sheet_long : 4096 < length bytes → read_sheet bytes ≡ Err SheetTooLong
  sheet_long l = as_stages bytes ∙ ap (λ b. if_passed b SheetTooLong bytes >>= after_length) (lt-leb (length bytes) 4096 l)

  pub sheet_short : length bytes ≤ 4096 → read_sheet bytes ≡ after_length bytes
  sheet_short l = as_stages bytes ∙ ap (λ b. if_passed b SheetTooLong bytes >>= after_length) (le-leb (length bytes) 4096 l)

  pub sheet_adders : (a : ℕ) (rest : List ℕ) → length bytes ≤ 4096 → a ≤ 8 → bytes ≡ number_line (codes "adders=") a ++ rest → read_sheet bytes ≡ after_adders (a, rest)
  sheet_adders a rest l few t = sheet_short l ∙ ap (λ r. r >>= after_adders) (number_read (codes "adders=") 0 8 1 bytes a rest (omega arith) (omega arith) few t)

  module _ (a w : ℕ) where
    pub sheet_begun : (text : List ℕ) → Begun bytes a w text → read_sheet bytes ≡ after_width a (w, text)
    sheet_begun text b =
        sheet_adders a (number_line (codes "width=") w ++ text) b.short b.few b.text_is
        ∙ ap (λ r. r >>= after_width a) (number_read (codes "width=") 1 32 2 (number_line (codes "width=") w ++ text) w text (omega (arith, b.few_bits)) b.some_bits b.few_bits refl)

    module _ (orders : Orders) (rest : List ℕ) where
      fine_before : (k : ℕ) → k ≤ 2 * a + 1 → PortsBegun bytes a w orders k rest → Fine a orders (take k (ports a))
      fine_before k l b = fine_from a orders k (ports a) (omega (arith, places a)) b.fine

      pub sheet_port : (k : ℕ) (e : Refusal) (b : PortsBegun bytes a w orders k rest) → k ≤ 2 * a → read_ports a 3 (ports a) no_lines b.text ≡ Err e → read_sheet bytes ≡ Err e
      sheet_port k e b l stops = sheet_begun b.text b.begun ∙ ap (λ r. r >>= after_ports a w) stops

      -- what is kept is what the lines say, and nothing at any other port
      same_orders : AllPorts bytes a w orders rest → overlay a orders (ports a) no_lines ≡ orders
      same_orders h = λ i q. at q (find_port q (ports a)) i
        where
          at : (q : Port) → ((k : ℕ) × (k < length (ports a)) × (get_or (ports a) k Output ≡ q)) ⊎ ((k : ℕ) → k < length (ports a) → get_or (ports a) k Output ≢ q) → overlay a orders (ports a) no_lines q ≡ orders q
          at q (inl found) = kept_at a orders (ports a) no_lines found.0 found.1 q found.2
          at q (inr nowhere) = kept_there a orders (ports a) no_lines q (sym (h.others q (λ i l. nowhere i (omega (arith, places a)))))

      module _ (h : AllPorts bytes a w orders rest) where
        pub sheet_ports : read_sheet bytes ≡ after_ports a w (orders, rest)
        sheet_ports =
            let b = h.begun in
            let fine = subst (Fine a orders) (all_taken a) (fine_before (2 * a + 1) (omega arith) b) in
            let lines = b.lines ∙ ap (λ ps. port_lines orders ps ++ rest) (all_taken a) in
            sheet_begun b.text b.begun ∙ ap (λ r. r >>= after_ports a w) (ports_read a orders 3 (ports a) no_lines b.text rest (proper a b.begun.few) fine lines ∙ ap (λ o. Ok (o, rest)) (same_orders h))

        pub sheet_code : (d m : ℕ) (text : List ℕ) (e : Refusal) → CodesFine orders a 0 (2 * a + 4) rest d m text → CodeFault orders a d m text e → read_sheet bytes ≡ Err e
        unfolding read_block
        sheet_code d m text e before fault = sheet_ports ∙ ap (λ r. (r >>= λ rows. Ok (record { adders = a; width = w; rows = rows })) >>= after_block orders) (codes_refused orders a 0 (2 * a + 4) rest d m text e before fault 16 (omega arith))

        pub sheet_rows : (rows : List (Option RowData)) → Rows orders a 0 rest rows → read_sheet bytes ≡ after_block orders (record { adders = a; width = w; rows = rows })
        unfolding read_block
        sheet_rows rows r = sheet_ports ∙ ap (λ r. (r >>= λ rows. Ok (record { adders = a; width = w; rows = rows })) >>= after_block orders) (rows_read orders a 0 rest rows r 16 (2 * a + 4) (omega arith))

-- Each cause is told.
pub told_back : (bytes : List ℕ) (e : Refusal) → Refused bytes e → read_sheet bytes ≡ Err e
told_back bytes e (too_long l) = sheet_long bytes l
told_back bytes e (in_adders e2 l fault) = sheet_short bytes l ∙ ap (λ r. r >>= after_adders) (number_refused (codes "adders=") 0 8 1 bytes e fault)
told_back bytes e (in_width a rest e2 l few t fault) = sheet_adders bytes a rest l few t ∙ ap (λ r. r >>= after_width a) (number_refused (codes "width=") 1 32 2 rest e fault)
told_back bytes e (in_port a w k orders rest e2 b l fault) =
    sheet_port bytes a w orders rest k e b l (ports_refused a orders k 3 (ports a) no_lines b.text rest e (proper a b.begun.few) (omega (arith, places a)) (fine_from a orders k (ports a) (omega (arith, places a)) b.fine) b.lines fault)
told_back bytes e (in_code a w d m orders text rest e2 h before fault) = sheet_code bytes a w orders text h d m rest e before fault
told_back bytes e (unselected a w k orders text rows h r l before here) =
    sheet_rows bytes a w orders text h rows r ∙ ap (λ c. c >>= λ selected. Ok (record { adders = a; width = w; rows = rows })) (check_refused rows orders k 3 (ports a) (omega (arith, places a)) before here)

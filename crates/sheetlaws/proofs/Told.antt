-- The reader's refusals and the causes.
use Rattle.std.proofs.Common.{◌≡◌, ◌≢◌, ℕ, suc, ◌+◌, ◌*◌, ◌<◌, ◌≤◌, ◌⊎◌, inl, inr, leb, List, [], ◌∷◌, ◌++◌, length, get_or, Option, Ok, Err, Result, ap, ◌∙◌, sym, subst, arith}
use Rattle.std.specs.Prelude.{codes}
use Rattle.std.proofs.lemmas.Bool.{leb-true, leb-false}
use Rattle.adders.specs.declared.refusals.Refusal.{Refusal}
use Rattle.adders.specs.declared.refusals.Refusal.TheVariants.{SheetTooLong}
use Rattle.ports.specs.declared.port.Port.{Port}
use Rattle.ports.specs.declared.port.Port.TheVariants.{Output}
use Rattle.ports.specs.Ports.{ports}
use Rattle.texts.specs.Text.{number_line}
use Rattle.reading.specs.Orders.{Orders, no_lines}
use Rattle.reading.specs.Data.{RowData, Said}
use Rattle.sheetlaws.specs.Sheets.{port_lines}
use Rattle.reading.specs.Stages.{if_passed}
use Rattle.reading.specs.Reader.{read_number, read_ports, read_codes, read_block, check_ports, read_sheet}
use Rattle.sheetlaws.specs.Refusing.{Begun, AllPorts, Refused, too_long, in_adders, in_width, in_port, in_code, unselected}
use Rattle.sheetlaws.specs.SheetLaws.{RefusalsAreTold}
use Rattle.reading.proofs.Staged.{bind_ok, passed, ok_is, ok_not_err}
use Rattle.sheetlaws.proofs.ToldNumbers.{bind_err, not_passed, number_told, number_fine}
use Rattle.sheetlaws.proofs.ToldOrder.{Fresh, proper}
use Rattle.sheetlaws.proofs.ToldLines.{Fine, fine_at, ports_told, ports_fine}
use Rattle.sheetlaws.proofs.ToldCodes.{codes_told}
use Rattle.sheetlaws.proofs.ToldRows.{rows_told}
use Rattle.sheetlaws.proofs.ToldSelected.{check_told}
use Rattle.sheetlaws.proofs.ToldStages.{after_block, after_ports, after_width, after_adders, after_length, as_stages, places, all_taken, told_back}

fresh_from : (p : Port) (ps : List Port) → ((i : ℕ) → i < length ps → get_or ps i Output ≢ p) → Fresh p ps
fresh_from p [] f = tt
fresh_from p (q ∷ ps) f = (f 0 (omega arith), fresh_from p ps (λ i l. f (suc i) (omega arith)))

-- the stage is turned down, or is passed and what follows is turned down
abbrev Either : {A : Type 0} → Result A Refusal → (A → Result Said Refusal) → Refusal → Type 0
Either {A} r f e = (r ≡ Err e) ⊎ ((x : A) × (r ≡ Ok x) × (f x ≡ Err e))

module _ (bytes : List ℕ) (e : Refusal) where
  module _ (a w : ℕ) (orders : Orders) (text : List ℕ) (all : AllPorts bytes a w orders text) where
    block_of : List (Option RowData) → Said
    block_of rows = record { adders = a; width = w; rows = rows }

    ports_stop : (rows : List (Option RowData)) → read_codes orders a 16 0 (2 * a + 4) text ≡ Ok rows → check_ports rows orders 3 (ports a) ≡ Err e → Refused bytes e
    ports_stop rows read stops =
        let u = check_told rows orders 3 (ports a) e stops in
        subst (Refused bytes) u.told (unselected a w u.place orders text rows all (rows_told orders a 16 0 (2 * a + 4) text rows (omega arith) read) (omega (arith, places a, u.some)) u.before u.here)

    block_passed : (rows : List (Option RowData)) → read_codes orders a 16 0 (2 * a + 4) text ≡ Ok rows → after_block orders (record { adders = a; width = w; rows = rows }) ≡ Err e → Refused bytes e
    block_passed rows read h = by (bind_err (check_ports rows orders 3 (ports a)) (λ selected. Ok (record { adders = a; width = w; rows = rows })) e h)
      where
        by : Either (check_ports rows orders 3 (ports a)) (λ selected. Ok (record { adders = a; width = w; rows = rows })) e → Refused bytes e
        by (inl stops) = ports_stop rows read stops
        by (inr goes) = absurd (ok_not_err {A = Said} (record { adders = a; width = w; rows = rows }) e goes.2)

    codes_stop : read_block orders a w text ≡ Err e → Refused bytes e
    unfolding read_block
    codes_stop h = by (bind_err (read_codes orders a 16 0 (2 * a + 4) text) (λ rows. Ok (record { adders = a; width = w; rows = rows })) e h)
      where
        by : Either (read_codes orders a 16 0 (2 * a + 4) text) (λ rows. Ok (record { adders = a; width = w; rows = rows })) e → Refused bytes e
        by (inl stops) = let s = codes_told orders a 16 0 (2 * a + 4) text e (omega arith) stops in in_code a w s.code s.line orders text s.rest e all s.before s.fault
        by (inr goes) = absurd (ok_not_err {A = Said} (record { adders = a; width = w; rows = goes.0 }) e goes.2)

    codes_passed : (block : Said) → read_block orders a w text ≡ Ok block → after_block orders block ≡ Err e → Refused bytes e
    unfolding read_block
    codes_passed block read h =
        let r = bind_ok (read_codes orders a 16 0 (2 * a + 4) text) (λ rows. Ok (record { adders = a; width = w; rows = rows })) block read in
        let same = ok_is {A = Said} (record { adders = a; width = w; rows = r.0 }) block r.2 in
        block_passed r.0 r.1 (subst (λ b. after_block orders b ≡ Err e) (sym same) h)

    told_block : after_ports a w (orders, text) ≡ Err e → Refused bytes e
    told_block h = by (bind_err (read_block orders a w text) (after_block orders) e h)
      where
        by : Either (read_block orders a w text) (after_block orders) e → Refused bytes e
        by (inl stops) = codes_stop stops
        by (inr goes) = codes_passed goes.0 goes.1 goes.2

  module _ (a w : ℕ) (text : List ℕ) (begun : Begun bytes a w text) where
    -- the ports' lines are all fine
    all_ports : (o : Orders × List ℕ) → read_ports a 3 (ports a) no_lines text ≡ Ok o → AllPorts bytes a w o.0 o.1
    all_ports o read =
        let f = ports_fine a 3 (ports a) no_lines text o (proper a begun.few) read in
        let fine = subst (Fine a o.0) (sym (all_taken a)) f.1.0 in
        record {
          begun = record { text = text; begun = begun; lines = f.0 ∙ ap (λ ps. port_lines o.0 ps ++ o.1) (sym (all_taken a)); fine = fine_at a o.0 (2 * a + 1) (ports a) (omega (arith, places a)) fine };
          others = λ p none. f.1.1 p (fresh_from p (ports a) (λ i l. none i (omega (arith, places a))));
        }

    told_ports : after_width a (w, text) ≡ Err e → Refused bytes e
    told_ports h = by (bind_err (read_ports a 3 (ports a) no_lines text) (after_ports a w) e h)
      where
        by : Either (read_ports a 3 (ports a) no_lines text) (after_ports a w) e → Refused bytes e
        by (inl stops) =
            let s = ports_told a 3 (ports a) no_lines text e (proper a begun.few) stops in
            in_port a w s.before s.orders s.rest e (record { text = text; begun = begun; lines = s.lines; fine = fine_at a s.orders s.before (ports a) (omega (arith, s.some)) s.fine }) (omega (arith, places a, s.some)) s.fault
        by (inr goes) = told_block a w goes.0.0 goes.0.1 (all_ports goes.0 goes.1) goes.2

  module _ (short : length bytes ≤ 4096) where
    told_width : (a : ℕ) (rest : List ℕ) → a ≤ 8 → bytes ≡ number_line (codes "adders=") a ++ rest → after_adders (a, rest) ≡ Err e → Refused bytes e
    told_width a rest few t h = by (bind_err (read_number (codes "width=") 1 32 2 rest) (after_width a) e h)
      where
        by : Either (read_number (codes "width=") 1 32 2 rest) (after_width a) e → Refused bytes e
        by (inl stops) = in_width a rest e short few t (number_told (codes "width=") 1 32 2 rest e stops)
        by (inr goes) =
            let f = number_fine (codes "width=") 1 32 2 rest goes.0 goes.1 in
            told_ports a goes.0.0 goes.0.1 (record { short = short; few = few; some_bits = f.1; few_bits = f.2; text_is = t ∙ ap (λ u. number_line (codes "adders=") a ++ u) f.0 }) goes.2

    told_adders : after_length bytes ≡ Err e → Refused bytes e
    told_adders h = by (bind_err (read_number (codes "adders=") 0 8 1 bytes) after_adders e h)
      where
        by : Either (read_number (codes "adders=") 0 8 1 bytes) after_adders e → Refused bytes e
        by (inl stops) = in_adders e short (number_told (codes "adders=") 0 8 1 bytes e stops)
        by (inr goes) = let f = number_fine (codes "adders=") 0 8 1 bytes goes.0 goes.1 in told_width goes.0.0 goes.0.1 f.2 f.0 goes.2

  told : read_sheet bytes ≡ Err e → Refused bytes e
  told h = by (bind_err (if_passed (leb (length bytes) 4096) SheetTooLong bytes) after_length e (sym (as_stages bytes) ∙ h))
    where
      by : Either (if_passed (leb (length bytes) 4096) SheetTooLong bytes) after_length e → Refused bytes e
      by (inl stops) = let p = not_passed (leb (length bytes) 4096) SheetTooLong e bytes stops in subst (Refused bytes) p.1 (too_long (leb-false (length bytes) 4096 p.0))
      by (inr goes) =
          let p = passed (leb (length bytes) 4096) SheetTooLong bytes goes.0 goes.1 in
          told_adders (leb-true (length bytes) 4096 p.0) (subst (λ t. after_length t ≡ Err e) (sym p.1) goes.2)

pub refusals_told : RefusalsAreTold
refusals_told bytes e = (told bytes e, told_back bytes e)

-- Every sheet is accepted, as its block.
use Rattle.std.proofs.Common.{◌≡◌, ◌≢◌, ℕ, zero, suc, ◌+◌, ◌*◌, ◌≤◌, true, false, cond, ◌&&◌, List, [], ◌∷◌, ◌++◌, drop, get_or, is_some, Some, None, Option, Ok, Err, sym, refl, ap, ◌∙◌, subst, inl, inr, arith}
use Rattle.std.specs.Prelude.{option_map, is_none}
use Rattle.std.specs.List.{list_all}
use Rattle.std.proofs.lemmas.Bool.{false≢true}
use Rattle.adders.specs.declared.refusals.Refusal.TheVariants.{InputUnselected}
use Rattle.adders.specs.declared.wiring.Adder.{Adder}
use Rattle.adders.specs.declared.wiring.Operand.{Operand}
use Rattle.adders.specs.Values.{Slots}
use Rattle.adders.proofs.Broken.{some_none}
use Rattle.rows.specs.declared.model.Row.{Row}
use Rattle.rows.specs.Rows.{adder_at}
use Rattle.rows.proofs.Answering.{unbroken}
use Rattle.blocks.specs.declared.model.Block.{Block}
use Rattle.blocks.specs.Uses.{row_uses}
use Rattle.blocks.specs.Blocks.{row_of}
use Rattle.ports.specs.declared.port.Port.{Port}
use Rattle.ports.specs.declared.port.Port.TheVariants.{Left, Right, Output}
use Rattle.ports.specs.Ports.{ports, nth_port, left_of, right_of, put_at}
use Rattle.ports.specs.Inputs.{Among}
use Rattle.ports.proofs.Ascending.{inputs_law}
use Rattle.texts.proofs.Takes.{some_is}
use Rattle.reading.specs.Orders.{Orders}
use Rattle.reading.specs.Data.{RowData, data_of, rows_of, said}
use Rattle.reading.specs.Stages.{◌>>=◌}
use Rattle.reading.specs.Reader.{data_inputs, all_selected, check_ports, read_codes, read_sheet, read_block}
use Rattle.sheetlaws.specs.Refusing.{PortFine, AllPorts}
use Rattle.sheetlaws.specs.Sheets.{port_lines, row_lines, sheet_text, InputsInOrder, IsSheet}
use Rattle.reading.proofs.Repeated.{among_any}
use Rattle.reading.proofs.Selected.{same_inputs}
use Rattle.sheetlaws.proofs.Rowed.{put_there}
use Rattle.sheetlaws.proofs.Counted.{few_inputs, in_limits, all_small}
use Rattle.reading.proofs.RowByRow.{rows_at, rows_length}
use Rattle.sheetlaws.proofs.RowsRead.{slot_is}
use Rattle.sheetlaws.proofs.RowsAgain.{RowFits, FewEach, codes_again}
use Rattle.sheetlaws.proofs.Sizes.{sheet_length}
use Rattle.sheetlaws.proofs.ToldStages.{after_block, all_taken, sheet_ports}

none_past : (xs : Slots) (n : ℕ) → ((k : ℕ) → n ≤ k → get_or xs k None ≡ None) → list_all is_none (drop n xs) ≡ true
none_past [] zero f = refl
none_past [] (suc n) f = refl
none_past (x ∷ xs) zero f = ap (λ y. is_none y && list_all is_none xs) (f 0 (omega arith)) ∙ none_past xs zero (λ k h. f (suc k) (omega arith))
none_past (x ∷ xs) (suc n) f = none_past xs n (λ k h. f (suc k) (omega arith))

not_some : {A : Type 0} (o : Option A) → is_some o ≡ false → o ≡ None
not_some None e = refl
not_some (Some x) e = absurd (false≢true (sym e))

module _ (b : Block) (orders : Orders) (ordered : (p : Port) → InputsInOrder b p (orders p)) where
  few : FewEach orders
  few p = few_inputs b p (orders p) (ordered p)

  fine : (p : Port) → PortFine b.adders p (orders p)
  fine p = record { small = all_small b p (orders p) (ordered p); limits = in_limits b p (orders p) (ordered p); once = (ordered p).once }

  -- a port that the block has not has no inputs
  no_inputs : (q : Port) → ((i : ℕ) → i ≤ 2 * b.adders → nth_port b.adders i ≢ q) → orders q ≡ []
  no_inputs q out = by (orders q) refl
    where
      by : (os : List Operand) → orders q ≡ os → orders q ≡ []
      by [] e = e
      by (o ∷ os) e = let t = (put_there b q o ((ordered q).only o (subst (Among o) (sym e) (inl refl)))).listed in absurd (out t.0 (omega (arith, t.1)) t.2)

  row_fits : (code : ℕ) (r : Row) → row_of b code ≡ Some r → RowFits orders b.adders (data_of r)
  row_fits code r here = record {
    room = r.room;
    unused = none_past r.slots b.adders (λ k h. sym (slot_is r.slots k) ∙ not_some (adder_at r (suc k)) (ap (λ o. row_uses o (suc k)) (sym here) ∙ b.within code (suc k) (omega arith)));
    wires = λ k x e. (
      (ordered (Left (1 + k))).all x.left (code, left k x e),
      (ordered (Right (1 + k))).all x.right (code, right k x e),
    );
    output = (ordered Output).all r.output (code, ap (λ o. put_at o Output) here);
    lawful = unbroken r;
  }
    where
      at : (k : ℕ) (x : Adder) → get_or r.slots k None ≡ Some x → adder_at r (1 + k) ≡ Some x
      at k x e = let n : 1 + k ≡ suc k = omega arith in ap (adder_at r) n ∙ slot_is r.slots k ∙ e

      left : (k : ℕ) (x : Adder) → get_or r.slots k None ≡ Some x → put_at (row_of b code) (Left (1 + k)) ≡ Some x.left
      left k x e = ap (λ o. put_at o (Left (1 + k))) here ∙ ap left_of (at k x e)

      right : (k : ℕ) (x : Adder) → get_or r.slots k None ≡ Some x → put_at (row_of b code) (Right (1 + k)) ≡ Some x.right
      right k x e = ap (λ o. put_at o (Right (1 + k))) here ∙ ap right_of (at k x e)

  each_fits : (k : ℕ) (d : RowData) → get_or (rows_of b) k None ≡ Some d → RowFits orders b.adders d
  each_fits k d e = by (row_of b k) refl (sym (rows_at b k) ∙ e)
    where
      by : (o : Option Row) → row_of b k ≡ o → option_map data_of o ≡ Some d → RowFits orders b.adders d
      by None here f = absurd (some_none (sym f))
      by (Some r) here f = subst (RowFits orders b.adders) (some_is (data_of r) d f) (row_fits k r here)

  -- each input is selected
  inputs_selected : (p : Port) (os : List Operand) → ((o : Operand) → Among o os → Among o (orders p)) → all_selected (rows_of b) p os ≡ true
  inputs_selected p [] f = refl
  inputs_selected p (o ∷ os) f =
      let among = subst (Among o) (sym (same_inputs b p)) ((inputs_law.these b p).all o ((ordered p).only o (f o (inl refl)))) in
      ap (λ t. t && all_selected (rows_of b) p os) (among_any o (data_inputs (rows_of b) p) among) ∙ inputs_selected p os (λ u h. f u (inr h))

  all_checked : (n : ℕ) (ps : List Port) → check_ports (rows_of b) orders n ps ≡ Ok tt
  all_checked n [] = refl
  all_checked n (p ∷ ps) = ap (λ t. cond t (check_ports (rows_of b) orders (suc n) ps) (Err (InputUnselected n))) (inputs_selected p (orders p) (λ o h. h)) ∙ all_checked (suc n) ps

  rows_again : (n : ℕ) → read_codes orders b.adders 16 0 n (row_lines orders b.adders 0 (rows_of b)) ≡ Ok (rows_of b)
  rows_again n =
      let fit = codes_again orders b.adders b.few few 0 n (rows_of b) (omega (arith, rows_length b)) each_fits in
      subst (λ k. read_codes orders b.adders k 0 n (row_lines orders b.adders 0 (rows_of b)) ≡ Ok (rows_of b)) (rows_length b) fit

  -- all lines of the ports
  all_ports : AllPorts (sheet_text orders (said b)) b.adders b.width orders (row_lines orders b.adders 0 (rows_of b))
  all_ports = record {
    begun = record {
      text = port_lines orders (ports b.adders) ++ row_lines orders b.adders 0 (rows_of b);
      begun = record { short = sheet_length orders b few (λ p. (fine p).small); few = b.few; some_bits = b.some_bits; few_bits = b.few_bits; text_is = refl };
      lines = ap (λ ps. port_lines orders ps ++ row_lines orders b.adders 0 (rows_of b)) (sym (all_taken b.adders));
      fine = λ i h. fine (nth_port b.adders i);
    };
    others = no_inputs;
  }

  pub read_again : read_sheet (sheet_text orders (said b)) ≡ Ok (said b)
  unfolding read_block
  read_again =
      let rows = row_lines orders b.adders 0 (rows_of b) in
      sheet_ports (sheet_text orders (said b)) b.adders b.width orders rows all_ports
      ∙ ap (λ r. (r >>= λ rows. Ok (record { adders = b.adders; width = b.width; rows = rows })) >>= after_block orders) (rows_again (2 * b.adders + 4))
      ∙ ap (λ r. r >>= λ selected. Ok (said b)) (all_checked 3 (ports b.adders))

pub complete : (bytes : List ℕ) (b : Block) → IsSheet bytes b → read_sheet bytes ≡ Ok (said b)
complete bytes b h = ap read_sheet h.text ∙ read_again b h.orders h.ordered

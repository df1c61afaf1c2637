-- The lines of a sheet, written one after another.
use Rattle.std.proofs.Common.{◌≡◌, ℕ, zero, suc, ◌+◌, ◌*◌, ◌<◌, ◌≤◌, List, [], ◌∷◌, ◌++◌, length, take, drop, cond, Some, None, Option, Ok, Err, Result, sym, refl, ap, ◌∙◌, subst, arith}
use Rattle.std.specs.Prelude.{codes, option_map, IfOk}
use Rattle.std.proofs.lemmas.Bool.{le-leb}
use Rattle.std.proofs.Math.Seq.{take-append_seam}
use Rattle.std.proofs.lemmas.List.{drop_more, drop_all, take_all}
use Rattle.adders.specs.declared.refusals.Refusal.{Refusal}
use Rattle.adders.specs.declared.wiring.Operand.{Operand}
use Rattle.adders.specs.declared.refusals.Refusal.TheVariants.{CodeAboveFifteen}
use Rattle.adders.specs.Values.{Slots}
use Rattle.adders.specs.Rules.{first_broken}
use Rattle.adders.proofs.Broken.{some_none}
use Rattle.rows.specs.declared.model.Row.{Row}
use Rattle.blocks.specs.declared.model.Block.{Block}
use Rattle.tables.specs.Tables.{live_rules}
use Rattle.blocks.specs.Blocks.{row_of}
use Rattle.ports.specs.declared.port.Port.{Port}
use Rattle.ports.specs.declared.port.Port.TheVariants.{Output}
use Rattle.ports.specs.Ports.{ports, nth_port}
use Rattle.ports.specs.Inputs.{inputs}
use Rattle.texts.specs.declared.selection.Selection.{Selection}
use Rattle.texts.specs.Text.{number_line, port_line, code_line, AllSmall}
use Rattle.writing.specs.Writes.{Wrote, Written}
use Rattle.writing.proofs.Joins.{joined, Finishes, finishes_next, finished}
use Rattle.reading.specs.Orders.{Orders}
use Rattle.reading.specs.Data.{data_of, rows_of}
use Rattle.sheetlaws.specs.Sheets.{place, selection_of, selections_of, port_lines, row_line, row_lines}
use Rattle.sheets.specs.Calls.{written_sheet, ReadsBack}
use Rattle.reading.proofs.PortOrder.{next_port, no_port}
use Rattle.sheetlaws.proofs.Counted.{all_small, few_inputs}
use Rattle.reading.proofs.RowByRow.{rows_at, rows_length}
use Rattle.sheetlaws.proofs.RowsAgain.{FewEach}
use Rattle.sheetlaws.proofs.Sizes.{sheet_length}
use Rattle.sheets.proofs.Canonical.{canonical, is_sheet}
use Rattle.sheets.proofs.ReadOver.{reads_back}

pub few_each : (b : Block) → FewEach (inputs b)
few_each b p = few_inputs b p (inputs b p) (canonical b p)

pub small_inputs : (b : Block) (p : Port) → AllSmall (inputs b p)
small_inputs b p = all_small b p (inputs b p) (canonical b p)

module _ (b : Block) (k : ℕ) (old now : List ℕ) (f : Finishes old (port_lines (inputs b) (ports b.adders)) now (port_lines (inputs b) (drop k (ports b.adders)))) where
  pub port_written : k < 2 * b.adders + 1 → (next : List ℕ) → Wrote now (port_line (nth_port b.adders k) (inputs b (nth_port b.adders k))) next
      → Finishes old (port_lines (inputs b) (ports b.adders)) next (port_lines (inputs b) (drop (k + 1) (ports b.adders)))
  port_written lt next w =
      finishes_next old (port_lines (inputs b) (ports b.adders)) now (port_line (nth_port b.adders k) (inputs b (nth_port b.adders k))) (port_lines (inputs b) (drop (k + 1) (ports b.adders))) next
      (subst (λ ps. Finishes old (port_lines (inputs b) (ports b.adders)) now (port_lines (inputs b) ps)) (next_port b.adders k lt) f) w

  pub ports_written : 2 * b.adders + 1 ≤ k → Wrote old (port_lines (inputs b) (ports b.adders)) now
  ports_written all = finished old (port_lines (inputs b) (ports b.adders)) now (subst (λ ps. Finishes old (port_lines (inputs b) (ports b.adders)) now (port_lines (inputs b) ps)) (no_port b.adders k all) f)

-- The code lines.

take_selections : (orders : Orders) (j n : ℕ) (xs : Slots) → take n (selections_of orders j xs) ≡ selections_of orders j (take n xs)
take_selections orders j zero xs = refl
take_selections orders j (suc n) [] = refl
take_selections orders j (suc n) (x ∷ xs) = ap (λ l. selection_of orders j x ∷ l) (take_selections orders (suc j) n xs)

abbrev pub CodesFinish : Block → List ℕ → List ℕ → ℕ → Type 0
CodesFinish b old now code = Finishes old (row_lines (inputs b) b.adders 0 (rows_of b)) now (row_lines (inputs b) b.adders code (drop code (rows_of b)))

module _ (b : Block) (code : ℕ) (old now : List ℕ) (f : CodesFinish b old now code) where
  module _ (lt : code < 16) where
    next_row : drop code (rows_of b) ≡ option_map data_of (row_of b code) ∷ drop (code + 1) (rows_of b)
    next_row = drop_more (rows_of b) code None (omega (arith, rows_length b)) ∙ ap (λ r. r ∷ drop (code + 1) (rows_of b)) (rows_at b code)

    split : Finishes old (row_lines (inputs b) b.adders 0 (rows_of b)) now (row_line (inputs b) b.adders code (option_map data_of (row_of b code)) ++ row_lines (inputs b) b.adders (code + 1) (drop (code + 1) (rows_of b)))
    split =
        let n : suc code ≡ code + 1 = omega arith in
        subst (Finishes old (row_lines (inputs b) b.adders 0 (rows_of b)) now)
        (ap (row_lines (inputs b) b.adders code) next_row ∙ ap (λ m. row_line (inputs b) b.adders code (option_map data_of (row_of b code)) ++ row_lines (inputs b) b.adders m (drop (code + 1) (rows_of b))) n) f

    pub idle_written : row_of b code ≡ None → CodesFinish b old now (code + 1)
    idle_written e = subst (λ r. Finishes old (row_lines (inputs b) b.adders 0 (rows_of b)) now (row_line (inputs b) b.adders code (option_map data_of r) ++ row_lines (inputs b) b.adders (code + 1) (drop (code + 1) (rows_of b)))) e split

    module _ (r : Row) (here : row_of b code ≡ Some r) (es : List (Option Selection)) (is : es ≡ take b.adders (selections_of (inputs b) 1 r.slots)) where
      entries_are : es ≡ selections_of (inputs b) 1 (take b.adders r.slots)
      entries_are = is ∙ take_selections (inputs b) 1 b.adders r.slots

      pub live_written : (next : List ℕ) → Wrote now (code_line code es (place r.output (inputs b Output))) next → CodesFinish b old next (code + 1)
      live_written next w =
          finishes_next old (row_lines (inputs b) b.adders 0 (rows_of b)) now (code_line code (selections_of (inputs b) 1 (take b.adders r.slots)) (place r.output (inputs b Output))) (row_lines (inputs b) b.adders (code + 1) (drop (code + 1) (rows_of b))) next
          (subst (λ o. Finishes old (row_lines (inputs b) b.adders 0 (rows_of b)) now (row_line (inputs b) b.adders code (option_map data_of o) ++ row_lines (inputs b) b.adders (code + 1) (drop (code + 1) (rows_of b)))) here split)
          (subst (λ xs. Wrote now (code_line code xs (place r.output (inputs b Output))) next) entries_are w)

  pub codes_written : 16 ≤ code → Wrote old (row_lines (inputs b) b.adders 0 (rows_of b)) now
  codes_written all = finished old (row_lines (inputs b) b.adders 0 (rows_of b)) now (subst (λ rs. Finishes old (row_lines (inputs b) b.adders 0 (rows_of b)) now (row_lines (inputs b) b.adders code rs)) (drop_all code (rows_of b) (omega (arith, rows_length b))) f)

-- the line of a live code
pub line_written : (b : Block) (code : ℕ) (old now next : List ℕ) → CodesFinish b old now code → code < 16 → (r : Row) → row_of b code ≡ Some r → (a out o : ℕ) (es : List (Option Selection)) → a ≡ b.adders → es ≡ selections_of (inputs b) 1 r.slots
    → o ≡ place r.output (inputs b Output) → out ≡ o → Wrote now (code_line code (take a es) out) next → CodesFinish b old next (code + 1)
line_written b code old now next f lt r here a out o es ea ee eo same w =
    let is : take a es ≡ take b.adders (selections_of (inputs b) 1 r.slots) = ap (λ n. take n es) ea ∙ ap (take b.adders) ee in
    live_written b code old now f lt r here (take a es) is next (subst (λ n. Wrote now (code_line code (take a es) n) next) (same ∙ eo) w)

-- a code that is turned down is idle
pub idle_code : (b : Block) (code : ℕ) (e : Refusal) → code < 16 → first_broken (live_rules code (row_of b code)) ≡ Some e → row_of b code ≡ None
idle_code b code e lt h = by (row_of b code) refl
  where
    live : (r : Row) → first_broken (live_rules code (Some r)) ≡ None
    live r = ap (λ t. cond t None (Some CodeAboveFifteen)) (le-leb code 15 (omega arith))

    by : (o : Option Row) → row_of b code ≡ o → row_of b code ≡ None
    by None here = here
    by (Some r) here = absurd (some_none (sym h ∙ ap (λ o. first_broken (live_rules code o)) here ∙ live r))

-- all of it
pub all_written : (b : Block) (s t u v w : List ℕ) (a n : ℕ) → s ≡ [] → a ≡ b.adders → n ≡ b.width → Wrote s (number_line (codes "adders=") a) t → Wrote t (number_line (codes "width=") n) u
    → Wrote u (port_lines (inputs b) (ports b.adders)) v → Wrote v (row_lines (inputs b) b.adders 0 (rows_of b)) w → w ≡ written_sheet b
all_written b s t u v w a n es ea en f g h k =
    let first = number_line (codes "adders=") b.adders in
    let second = number_line (codes "width=") b.width in
    let lines = port_lines (inputs b) (ports b.adders) in
    let rows = row_lines (inputs b) b.adders 0 (rows_of b) in
    let wrote_first : Wrote [] first t = subst (λ m. Wrote [] (number_line (codes "adders=") m) t) ea (subst (λ l. Wrote l (number_line (codes "adders=") a) t) es f) in
    let wrote_second : Wrote t second u = subst (λ m. Wrote t (number_line (codes "width=") m) u) en g in
    joined [] first t (second ++ (lines ++ rows)) w wrote_first (joined t second u (lines ++ rows) w wrote_second (joined u lines v rows w h k))
    ∙ take_all 4096 (written_sheet b) (sheet_length (inputs b) b (few_each b) (small_inputs b))

-- one port's line
pub port_wrote : (b : Block) (k : ℕ) (now next : List ℕ) (p : Port) (os : List Operand) → p ≡ nth_port b.adders k → os ≡ inputs b p → Wrote now (port_line p os) next → Wrote now (port_line (nth_port b.adders k) (inputs b (nth_port b.adders k))) next
port_wrote b k now next p os e f w =
    subst (λ q. Wrote now (port_line q (inputs b q)) next) e
    (subst (λ us. Wrote now (port_line p us) next) f w)

-- what was handed out is read back
pub written_back : (b : Block) (text out : List ℕ) (r : Result ℕ Refusal) (after : List ℕ) → text ≡ written_sheet b → Written text out r after → IfOk r (λ n. ReadsBack (take n after) b)
written_back b text out (Err e) after is h = tt
written_back b text out (Ok n) after is h =
    let front : take n after ≡ written_sheet b = ap (λ m. take m after) h.0 ∙ ap (take (length text)) h.2 ∙ take-append_seam text (drop (length text) out) ∙ is in
    subst (λ bytes. ReadsBack bytes b) (sym front) (reads_back (written_sheet b) b (is_sheet b))

-- A stage that was passed.
use Rattle.std.proofs.Common.{◌≡◌, ℕ, Bool, true, false, List, Some, None, Option, Ok, Err, Result, refl, ap, ◌∙◌, sym}
use Rattle.adders.specs.declared.refusals.Refusal.{Refusal}
use Rattle.adders.specs.declared.refusals.Refusal.TheVariants.{SheetForm, InputAbsent, RowBroken}
use Rattle.adders.specs.Rules.{first_broken}
use Rattle.rows.specs.Rules.{row_rules}
use Rattle.texts.specs.declared.selection.Selection.{Selection}
use Rattle.texts.specs.Pieces.{selections_at}
use Rattle.texts.specs.Listings.{eight_places}
use Rattle.reading.specs.Orders.{Orders}
use Rattle.reading.specs.Data.{RowData}
use Rattle.reading.specs.Stages.{◌>>=◌, or_refused, if_passed}
use Rattle.reading.specs.Lookup.{row_data}
use Rattle.reading.specs.Reader.{fault_of, judged_by, select_row, read_row}

abbrev pub done : {A : Type 0} → A → Result A Refusal
done x = Ok x

pub ok_is : {A : Type 0} (x y : A) → done x ≡ done y → x ≡ y
ok_is x y e = cc

pub ok_not_err : {A : Type 0} (x : A) (e : Refusal) → done x ≡ Err e → ⊥
ok_not_err x e h = cc

pub bind_ok : {A B : Type 0} (r : Result A Refusal) (f : A → Result B Refusal) (y : B) → (r >>= f) ≡ Ok y → (x : A) × (r ≡ Ok x) × (f x ≡ Ok y)
bind_ok (Ok x) f y e = (x, refl, e)
bind_ok (Err d) f y e = absurd (ok_not_err y d (sym e))

pub there : {A : Type 0} (e : Refusal) (o : Option A) (x : A) → or_refused e o ≡ Ok x → o ≡ Some x
there e None x h = absurd (ok_not_err x e (sym h))
there e (Some y) x h = ap Some (ok_is y x h)

pub passed : {A : Type 0} (b : Bool) (e : Refusal) (x y : A) → if_passed b e x ≡ Ok y → (b ≡ true) × (x ≡ y)
passed true e x y h = (refl, ok_is x y h)
passed false e x y h = absurd (ok_not_err y e (sym h))

judged_whole : (n : ℕ) (r x : RowData) (o : Option Refusal) → judged_by n r o ≡ Ok x → (o ≡ None) × (r ≡ x)
judged_whole n r x None h = (refl, ok_is r x h)
judged_whole n r x (Some e) h = absurd (ok_not_err x (RowBroken n (fault_of e)) (sym h))

pub select_whole : (orders : Orders) (n : ℕ) (xs : List (Option Selection)) (out : ℕ) (x : RowData) → select_row orders n xs out ≡ Ok x → (row_data orders xs out ≡ Some x) × (first_broken (row_rules x.slots x.output) ≡ None)
unfolding select_row
select_whole orders n xs out x h =
    let a = bind_ok _ _ x h in
    let j = judged_whole n a.0 x _ a.2 in
    (there (InputAbsent n) (row_data orders xs out) a.0 a.1 ∙ ap Some j.1, ap (λ r. first_broken (row_rules r.slots r.output)) (sym j.1) ∙ j.0)

-- the line of a row that is read
pub record RowRead (orders : Orders) (a : ℕ) (text : List ℕ) (x : RowData) (rest : List ℕ) : Type 0 where
  pub entries : List (Option Selection)
  pub output : ℕ
  pub line : selections_at a text ≡ Some ((entries, output), rest)
  pub selected : row_data orders (eight_places entries) output ≡ Some x
  pub whole : first_broken (row_rules x.slots x.output) ≡ None

pub row_read : (orders : Orders) (a n : ℕ) (text : List ℕ) (x : RowData) (rest : List ℕ) → read_row orders a n text ≡ Ok (x, rest) → RowRead orders a text x rest
unfolding read_row
row_read orders a n text x rest h =
    let s = bind_ok _ _ (x, rest) h in
    let r = bind_ok _ _ (x, rest) s.2 in
    let same = ok_is (r.0, s.0.1) (x, rest) r.2 in
    let row = ap (λ (p : RowData × List ℕ). p.0) same in
    let after = ap (λ (p : RowData × List ℕ). p.1) same in
    let w = select_whole orders n (eight_places s.0.0.0) s.0.0.1 r.0 r.1 in
    record {
      entries = s.0.0.0;
      output = s.0.0.1;
      line = there (SheetForm n) (selections_at a text) s.0 s.1 ∙ ap (λ t. Some ((s.0.0.0, s.0.0.1), t)) after;
      selected = w.0 ∙ ap Some row;
      whole = ap (λ r. first_broken (row_rules r.slots r.output)) (sym row) ∙ w.1;
    }

-- What a code line says of each adder, one after another.
use Rattle.std.proofs.Common.{◌≡◌, ℕ, suc, ◌+◌, ◌<◌, ◌≤◌, List, [], ◌∷◌, ◌++◌, length, take, drop, get_or, set, None, Option, sym, ap, ◌∙◌, append_assoc, append-nil, arith}
use Rattle.std.proofs.lemmas.List.{length-set, drop_more, drop_all, take_more_set, take_all}
use Rattle.adders.specs.declared.wiring.Operand.{Operand}
use Rattle.adders.specs.Values.{Slots}
use Rattle.texts.specs.declared.selection.Selection.{Selection}
use Rattle.reading.specs.Orders.{Orders}
use Rattle.sheetlaws.specs.Sheets.{place, selection_of, selections_of}
use Rattle.sheetlaws.proofs.Placed.{place_few}

-- a number is at most the count of the inputs
pub number_few : (os : List Operand) (o : Operand) → place o os ≤ length os
number_few = place_few

pub record Selected (orders : Orders) (xs : Slots) (place : ℕ) (es : List (Option Selection)) : Type 0 where
  pub room : length es ≡ 8
  pub whole : take place es ++ selections_of orders (suc place) (drop place xs) ≡ selections_of orders 1 xs

module _ (orders : Orders) (xs : Slots) (place : ℕ) (es : List (Option Selection)) (eight : length xs ≡ 8) (h : Selected orders xs place es) where
  pub one_selected : place < 8 → Selected orders xs (place + 1) (set es place (selection_of orders (place + 1) (get_or xs place None)))
  one_selected lt =
      let k : suc place ≡ place + 1 = omega arith in
      let x = selection_of orders (place + 1) (get_or xs place None) in
      record {
        room = length-set es place x ∙ h.room;
        whole = ap (λ l. l ++ selections_of orders (suc (place + 1)) (drop (place + 1) xs)) (take_more_set es place x (omega (arith, h.room)))
            ∙ append_assoc (take place es) (x ∷ []) (selections_of orders (suc (place + 1)) (drop (place + 1) xs))
            ∙ ap (λ n. take place es ++ (selection_of orders n (get_or xs place None) ∷ selections_of orders (suc n) (drop (place + 1) xs))) (sym k)
            ∙ ap (λ l. take place es ++ selections_of orders (suc place) l) (sym (drop_more xs place None (omega (arith, eight))))
            ∙ h.whole;
      }

  pub all_selected : 8 ≤ place → es ≡ selections_of orders 1 xs
  all_selected all =
      sym (ap (λ l. l ++ []) (take_all place es (omega (arith, h.room))) ∙ append-nil es)
      ∙ ap (λ l. take place es ++ selections_of orders (suc place) l) (sym (drop_all place xs (omega (arith, eight)))) ∙ h.whole

-- The slots of a row, one after another.
use Rattle.std.proofs.Common.{◌≡◌, ℕ, suc, ◌+◌, ◌<◌, ◌≤◌, List, [], ◌∷◌, ◌++◌, length, take, drop, get_or, set, Some, None, Option, sym, refl, ap, ◌∙◌, append_assoc, append-nil, arith}
use Rattle.std.proofs.lemmas.List.{length-set, drop_more, drop_all, take_more_set, take_all}
use Rattle.adders.specs.declared.wiring.Adder.{Adder}
use Rattle.adders.specs.Values.{Slots}
use Rattle.texts.specs.declared.selection.Selection.{Selection}
use Rattle.texts.specs.Steps.{◌>>=◌}
use Rattle.reading.specs.Orders.{Orders}
use Rattle.reading.specs.Lookup.{slot_of, slots_of}

abbrev pub behind : Slots → Option Slots → Option Slots
behind done None = None
behind done (Some xs) = Some (done ++ xs)

abbrev then_slot : Option Adder → Option Slots → Option Slots
then_slot x xs = xs >>= λ ys. Some (x ∷ ys)

regrouped : (done : Slots) (x : Option Adder) (r : Option Slots) → behind (done ++ x ∷ []) r ≡ behind done (then_slot x r)
regrouped done x None = refl
regrouped done x (Some xs) = ap Some (append_assoc done (x ∷ []) xs)

-- so many are wired
pub record Slotted (orders : Orders) (xs : List (Option Selection)) (place : ℕ) (slots : Slots) : Type 0 where
  pub room : length slots ≡ 8
  pub whole : behind (take place slots) (slots_of orders (suc place) (drop place xs)) ≡ slots_of orders 1 xs

module _ (orders : Orders) (xs : List (Option Selection)) (place : ℕ) (slots : Slots) (eight : length xs ≡ 8) (h : Slotted orders xs place slots) where
  module _ (some : place < 8) where
    one : slots_of orders (suc place) (drop place xs) ≡ (slot_of orders (suc place) (get_or xs place None) >>= λ x. then_slot x (slots_of orders (suc (suc place)) (drop (place + 1) xs)))
    unfolding slots_of
    one = ap (slots_of orders (suc place)) (drop_more xs place None (omega (arith, eight)))

    pub absent : slot_of orders (place + 1) (get_or xs place None) ≡ None → slots_of orders 1 xs ≡ None
    absent e =
        let k : suc place ≡ place + 1 = omega arith in
        sym h.whole ∙ ap (behind (take place slots)) (one ∙ ap (λ r. r >>= λ x. then_slot x (slots_of orders (suc (suc place)) (drop (place + 1) xs))) (ap (λ n. slot_of orders n (get_or xs place None)) k ∙ e))

    pub slotted : (x : Option Adder) → slot_of orders (place + 1) (get_or xs place None) ≡ Some x → Slotted orders xs (place + 1) (set slots place x)
    slotted x e =
        let k : suc place ≡ place + 1 = omega arith in
        record {
          room = length-set slots place x ∙ h.room;
          whole = ap (λ l. behind l (slots_of orders (suc (place + 1)) (drop (place + 1) xs))) (take_more_set slots place x (omega (arith, h.room)))
              ∙ regrouped (take place slots) x (slots_of orders (suc (place + 1)) (drop (place + 1) xs))
              ∙ ap (behind (take place slots)) (ap (λ n. then_slot x (slots_of orders (suc n) (drop (place + 1) xs))) (sym k) ∙ sym (one ∙ ap (λ r. r >>= λ x. then_slot x (slots_of orders (suc (suc place)) (drop (place + 1) xs))) (ap (λ n. slot_of orders n (get_or xs place None)) k ∙ e)))
              ∙ h.whole;
        }

  pub all_slotted : 8 ≤ place → slots_of orders 1 xs ≡ Some slots
  unfolding slots_of
  all_slotted all = sym h.whole ∙ ap (λ l. behind (take place slots) (slots_of orders (suc place) l)) (drop_all place xs (omega (arith, eight))) ∙ ap Some (append-nil (take place slots) ∙ take_all place slots (omega (arith, h.room)))

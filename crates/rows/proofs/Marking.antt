-- The marks of the sources that are read, from the last adder down, and the steps of the loops over the slots.
use Rattle.std.proofs.Common.{◌≡◌, ℕ, ◌+◌, ◌<◌, ◌≤◌, Bool, true, false, ◌&&◌, ◌||◌, eqb, ◌≢◌, List, length, get_or, drop, set, replicate, Some, None, sym, refl, ap, ◌∙◌, ⊎_elim, arith}
use Rattle.std.proofs.lemmas.List.{at_drop_more, at_drop_all, length-set, get_or-set_same, get_or-set_other, get_or-replicate}
use Rattle.std.proofs.lemmas.Bool.{cases_eq, eq-eqb, ne_eqb, or_right}
use Rattle.adders.specs.declared.wiring.Adder.{Adder}
use Rattle.adders.specs.Values.{Slots}
use Rattle.adders.specs.Rules.{first_broken}
use Rattle.adders.proofs.Broken.{otherwise, broken_append}
use Rattle.rows.specs.Reading.{slot_reads, is_read}
use Rattle.rows.specs.Rules.{slot_wiring, wiring_from}

-- the marks, where the slots from adder n + 1 on were passed
abbrev pub Marked : Slots → ℕ → List Bool → ℕ → Type 0
Marked xs source read n = (length read ≡ 9) × ((j : ℕ) → j < 9 → get_or read j false ≡ is_read (n + 1) (drop n xs) source j)

or_none : (x y : Bool) → y ≡ false → (x || y) ≡ x
or_none true y e = refl
or_none false y e = e

or_assoc : (x y z : Bool) → ((x || y) || z) ≡ (x || (y || z))
or_assoc true y z = refl
or_assoc false y z = refl

-- one mark more
flagged : (read : List Bool) (i j : ℕ) → i < length read → get_or (set read i true) j false ≡ (get_or read j false || eqb i j)
flagged read i j h =
    ⊎_elim
    (λ e. ap (λ k. get_or (set read i true) k false) (sym e) ∙ get_or-set_same read i true false h ∙ sym (or_right (get_or read j false) (eqb i j) (eq-eqb i j e)))
    (λ ne.
    let other : j ≢ i = λ e. ne (sym e) in
    get_or-set_other read i j true false other ∙ sym (or_none (get_or read j false) (eqb i j) (ne_eqb i j ne)))
    (cases_eq i j)

pub marked_first : (xs : Slots) (source : ℕ) → length xs ≡ 8 → source < 9 → Marked xs source (set (replicate 9 false) source true) 8
marked_first xs source eight h = (
  length-set (replicate 9 false) source true,
  λ j l. flagged (replicate 9 false) source j h ∙ ap (λ b. b || eqb source j) (get_or-replicate 9 j false false l) ∙ sym (at_drop_all (λ ys. is_read 9 ys source j) xs 8 (omega arith)),
)

-- the slot at place q, below the slots that were passed
module _ (xs : Slots) (source p q : ℕ) (up : p ≡ q + 1) (room : q < length xs) (few : p ≤ 8) (read : List Bool) (inv : Marked xs source read p) where
  -- what is read is what was read, and what the slot reads if it is read itself
  passed : (j : ℕ) → j < 9 → is_read (q + 1) (drop q xs) source j ≡ (get_or read j false || (get_or read (q + 1) false && slot_reads j (get_or xs q None)))
  passed j l =
      at_drop_more (λ ys. is_read (q + 1) ys source j) xs q None room
      ∙ ap (λ k. is_read (k + 1) (drop k xs) source j || (is_read (k + 1) (drop k xs) source (q + 1) && slot_reads j (get_or xs q None))) (sym up)
      ∙ (λ i. sym (inv.1 j l) i || (sym (inv.1 (q + 1) (omega arith)) i && slot_reads j (get_or xs q None)))

  pub unread : get_or read (q + 1) false ≡ false → Marked xs source read q
  unread e = (inv.0, λ j l. sym (passed j l ∙ or_none (get_or read j false) _ (ap (λ b. b && slot_reads j (get_or xs q None)) e)))

  -- an empty slot that is read leads to nothing
  pub empty : get_or read (q + 1) false ≡ true → get_or xs q None ≡ None → Marked xs source read q
  empty t e = (inv.0, λ j l. sym (passed j l ∙ or_none (get_or read j false) _ ((λ i. t i && slot_reads j (e i)))))

  pub filled : (a : Adder) → get_or read (q + 1) false ≡ true → get_or xs q None ≡ Some a → a.left.source < 9 → a.right.source < 9 → Marked xs source (set (set read a.left.source true) a.right.source true) q
  filled a t e left right =
      let l = a.left.source in
      let r = a.right.source in
      let once = length-set read l true in (
        length-set (set read l true) r true ∙ once ∙ inv.0,
        λ j h.
            flagged (set read l true) r j (omega (arith, once, inv.0))
            ∙ ap (λ b. b || eqb r j) (flagged read l j (omega (arith, inv.0)))
            ∙ or_assoc (get_or read j false) (eqb l j) (eqb r j)
            ∙ sym (passed j h ∙ (λ i. get_or read j false || (t i && slot_reads j (e i)))),
      )

-- the rules of sources and shifts from the slot at place i on
pub wiring_more : (xs : Slots) (i : ℕ) → i < length xs → first_broken (wiring_from (i + 1) (drop i xs)) ≡ otherwise (first_broken (slot_wiring (i + 1) (get_or xs i None))) (first_broken (wiring_from (i + 1 + 1) (drop (i + 1) xs)))
wiring_more xs i h = at_drop_more (λ ys. first_broken (wiring_from (i + 1) ys)) xs i None h ∙ broken_append (slot_wiring (i + 1) (get_or xs i None)) (wiring_from (i + 1 + 1) (drop (i + 1) xs))

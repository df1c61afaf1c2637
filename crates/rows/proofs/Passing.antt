-- The test of what the output reads, against the relation.
use Rattle.std.proofs.Common.{◌≡◌, ℕ, zero, suc, ◌+◌, ◌<◌, true, ◌&&◌, ◌||◌, eqb, [], ◌∷◌, get_or, drop, Some, None, Option, refl, ap, ◌∙◌, subst, inl, inr, ⊎_elim, add-one, arith}
use Rattle.std.proofs.lemmas.List.{at_drop_more}
use Rattle.std.proofs.lemmas.Bool.{and_parts, and_from, or_cases, or_left, or_right, eqb-true, eq-eqb, false≢true}
use Rattle.adders.specs.declared.wiring.Adder.{Adder}
use Rattle.adders.specs.Values.{Slots, reads}
use Rattle.adders.proofs.Follow.{within}
use Rattle.rows.specs.Reading.{HasSource, Reads, directly, through, slot_reads, is_read, Lower, TestsReading}

has_from : (a : Adder) (j : ℕ) → reads j a ≡ true → HasSource a j
has_from a j e = ⊎_elim (λ l. inl (eqb-true a.left.source j l)) (λ r. inr (eqb-true a.right.source j r)) (or_cases (eqb a.left.source j) (eqb a.right.source j) e)

reads_from : (a : Adder) (j : ℕ) → HasSource a j → reads j a ≡ true
reads_from a j (inl e) = or_left (eqb a.left.source j) (eqb a.right.source j) (eq-eqb a.left.source j e)
reads_from a j (inr e) = or_right (eqb a.left.source j) (eqb a.right.source j) (eq-eqb a.right.source j e)

module _ (xs : Slots) (source : ℕ) where
  -- through the adder n + 1, which is read and stands in the slot y
  by_slot : (n j : ℕ) (y : Option Adder) → get_or xs n None ≡ y → Reads xs source (n + 1) → slot_reads j y ≡ true → Reads xs source j
  by_slot n j None e r t = absurd (false≢true t)
  by_slot n j (Some a) e r t = through (subst (Reads xs source) (add-one n) r) e (has_from a j t)

  -- the slots ys are those from adder n + 1 on
  pub reads_told : (n : ℕ) (ys : Slots) (j : ℕ) → ((k : ℕ) → get_or xs (n + k) None ≡ get_or ys k None) → is_read (n + 1) ys source j ≡ true → Reads xs source j
  reads_told n [] j there t = subst (Reads xs source) (eqb-true source j t) directly
  reads_told n (y ∷ ys) j there t =
      let deeper : (k : ℕ) → get_or xs (n + 1 + k) None ≡ get_or ys k None = λ k. ap (λ i. get_or xs i None) (let e : n + 1 + k ≡ n + suc k = omega arith in e) ∙ there (suc k) in
      let later = is_read (n + 1 + 1) ys source j in
      let own = is_read (n + 1 + 1) ys source (n + 1) in
      ⊎_elim
      (λ l. reads_told (n + 1) ys j deeper l)
      (λ r.
      let both = and_parts own (slot_reads j y) r in
      by_slot n j y (ap (λ i. get_or xs i None) (let e : n ≡ n + 0 = omega arith in e) ∙ there 0) (reads_told (n + 1) ys (n + 1) deeper both.0) both.1)
      (or_cases later (own && slot_reads j y) t)

module _ (source : ℕ) where
  self : (n : ℕ) (ys : Slots) → is_read n ys source source ≡ true
  self n [] = eq-eqb source source refl
  self n (y ∷ ys) = or_left (is_read (n + 1) ys source source) (is_read (n + 1) ys source n && slot_reads source y) (self (n + 1) ys)

  -- what is read through the slots past the first k is read through all
  wider : (n : ℕ) (ys : Slots) (k j : ℕ) → is_read (n + k) (drop k ys) source j ≡ true → is_read n ys source j ≡ true
  wider n ys zero j t = subst (λ i. is_read i ys source j ≡ true) (let e : n + 0 ≡ n = omega arith in e) t
  wider n [] (suc k) j t = t
  wider n (y ∷ ys) (suc k) j t =
      or_left (is_read (n + 1) ys source j) (is_read (n + 1) ys source n && slot_reads j y)
      (wider (n + 1) ys k j (subst (λ i. is_read i (drop k ys) source j ≡ true) (let e : n + suc k ≡ n + 1 + k = omega arith in e) t))

  not_by_slot : (y : Option Adder) (t : ℕ) → ((a : Adder) → y ≡ Some a → (a.left.source < t) × (a.right.source < t)) → slot_reads t y ≡ true → ⊥
  not_by_slot None t low e = false≢true e
  not_by_slot (Some a) t low e = let l = low a refl in ⊎_elim (λ p. omega (arith, l.0)) (λ p. omega (arith, l.1)) (has_from a t e)

  -- slots that read only sources below t do not serve to read t
  narrower : (n : ℕ) (ys : Slots) (m t : ℕ) → ((i : ℕ) (a : Adder) → i < m → get_or ys i None ≡ Some a → (a.left.source < t) × (a.right.source < t)) → is_read n ys source t ≡ true → is_read (n + m) (drop m ys) source t ≡ true
  narrower n ys zero t low e = subst (λ i. is_read i ys source t ≡ true) (let p : n ≡ n + 0 = omega arith in p) e
  narrower n [] (suc m) t low e = e
  narrower n (y ∷ ys) (suc m) t low e =
      let later = is_read (n + 1) ys source t in
      let own = is_read (n + 1) ys source n in
      subst (λ i. is_read i (drop m ys) source t ≡ true) (let p : n + 1 + m ≡ n + suc m = omega arith in p) (
      narrower (n + 1) ys m t (λ i a h p. low (suc i) a (omega arith) p)
      (⊎_elim (λ l. l) (λ r. absurd (not_by_slot y t (λ a p. low 0 a (omega arith) p) (and_parts own (slot_reads t y) r).1)) (or_cases later (own && slot_reads t y) e)))

  pub told_reads : (xs : Slots) (j : ℕ) → Lower xs → Reads xs source j → is_read 1 xs source j ≡ true
  told_reads xs j low directly = self 1 xs
  told_reads xs j low (through {k = k} {a = a} r e has) =
      let before = told_reads xs (suc k) low r in
      let room = within xs k a e in
      let own : is_read (1 + (k + 1)) (drop (k + 1) xs) source (suc k) ≡ true =
      narrower 1 xs (k + 1) (suc k) (λ i b h p. let l = low i b p in (omega (arith, l.0), omega (arith, l.1))) before in
      let own' : is_read (1 + k + 1) (drop (k + 1) xs) source (1 + k) ≡ true =
      subst (λ i. is_read (1 + k + 1) (drop (k + 1) xs) source i ≡ true) (let p : suc k ≡ 1 + k = omega arith in p)
      (subst (λ i. is_read i (drop (k + 1) xs) source (suc k) ≡ true) (let p : 1 + (k + 1) ≡ 1 + k + 1 = omega arith in p) own) in
      wider 1 xs k j (
      at_drop_more (λ ys. is_read (1 + k) ys source j) xs k None room
      ∙ ap (λ x. is_read (1 + k + 1) (drop (k + 1) xs) source j || (is_read (1 + k + 1) (drop (k + 1) xs) source (1 + k) && slot_reads j x)) e
      ∙ or_right (is_read (1 + k + 1) (drop (k + 1) xs) source j) (is_read (1 + k + 1) (drop (k + 1) xs) source (1 + k) && reads j a) (and_from _ _ own' (reads_from a j has)))

pub tests_reading : TestsReading
tests_reading xs source j low = (
  reads_told xs source 0 xs j (λ k. ap (λ i. get_or xs i None) (let e : 0 + k ≡ k = omega arith in e)),
  told_reads source xs j low,
)

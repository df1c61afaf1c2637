-- The ascending list of a port's inputs.
use Rattle.std.proofs.Common.{◌≡◌, ℕ, zero, suc, ◌+◌, ◌-◌, ◌<◌, ◌≤◌, true, false, cond, eqb, ◌⊎◌, List, [], ◌∷◌, length, map, drop, get_or, Some, None, Option, sym, refl, ap, ◌∙◌, subst, inl, inr, ⊎_elim, arith}
use Rattle.std.proofs.lemmas.List.{length-drop}
use Rattle.std.proofs.lemmas.Bool.{and_parts, eqb-true, cases_order, cond-true, cond-false}
use Rattle.std.proofs.lemmas.Bool.Decides.{nat_tests}
use Rattle.adders.specs.declared.wiring.Operand.{Operand}
use Rattle.adders.proofs.Broken.{some_none}
use Rattle.blocks.specs.declared.model.Block.{Block}
use Rattle.blocks.specs.Blocks.{row_of}
use Rattle.ports.specs.declared.port.Port.{Port}
use Rattle.ports.specs.Ports.{put_at}
use Rattle.ports.specs.Inputs.{precedes, insert, different, inputs, same, Among, Ascends}
use Rattle.ports.specs.InputLaws.{InputsOf, InputsLaw}
use Rattle.ports.proofs.Columns.{column_at, column_length, column_end, column_turn}

-- one of two operands precedes the other unless they are one
pub data Order (a b : Operand) : Type 0 where
  equal : a ≡ b → precedes a b ≡ false → precedes b a ≡ false → Order a b
  under : precedes a b ≡ true → precedes b a ≡ false → Order a b
  over : precedes a b ≡ false → precedes b a ≡ true → Order a b

pub operand_same : (a b : Operand) → a.source ≡ b.source → a.shift ≡ b.shift → a ≡ b
operand_same a b p q =
    let f : ℕ → Operand = λ n. record { source = n; shift = a.shift } in
    let g : ℕ → Operand = λ n. record { source = b.source; shift = n } in
    ap f p ∙ ap g q

-- the test of two operands
pub same_one : (a b : Operand) → same a b ≡ true → a ≡ b
same_one a b e = let p = and_parts (eqb a.source b.source) (eqb a.shift b.shift) e in operand_same a b (eqb-true a.source b.source p.0) (eqb-true a.shift b.shift p.1)

pub same_self : (a : Operand) → same a a ≡ true
same_self a = grind (arith, nat_tests)

pub order : (a b : Operand) → Order a b
unfolding precedes
order a b =
    elim (cases_order a.source b.source) [
      | inl e ↦ elim (cases_order a.shift b.shift) [
        | inl d ↦ equal (operand_same a b e d) (grind (arith, nat_tests)) (grind (arith, nat_tests))
        | inr (inl l) ↦ under (grind (arith, nat_tests)) (grind (arith, nat_tests))
        | inr (inr g) ↦ over (grind (arith, nat_tests)) (grind (arith, nat_tests))
      ]
      | inr (inl l) ↦ under (grind (arith, nat_tests)) (grind (arith, nat_tests))
      | inr (inr g) ↦ over (grind (arith, nat_tests)) (grind (arith, nat_tests))
    ]

before_trans : (a b d : Operand) → precedes a b ≡ true → precedes b d ≡ true → precedes a d ≡ true
unfolding precedes
before_trans a b d p q = grind (arith, nat_tests)

pub before_irrefl : (a : Operand) → precedes a a ≡ true → ⊥
unfolding precedes
before_irrefl a p = grind (arith, nat_tests)

before_asym : (a b : Operand) → precedes a b ≡ true → precedes b a ≡ true → ⊥
before_asym a b p q = before_irrefl a (before_trans a b a p q)

-- one step of an insertion
module _ (o x : Operand) (xs : List Operand) where
  pub step_under : precedes o x ≡ true → insert o (x ∷ xs) ≡ o ∷ (x ∷ xs)
  step_under p = cond-true (precedes o x) (o ∷ (x ∷ xs)) (cond (precedes x o) (x ∷ insert o xs) (x ∷ xs)) p

  pub step_over : precedes o x ≡ false → precedes x o ≡ true → insert o (x ∷ xs) ≡ x ∷ insert o xs
  step_over p q = cond-false (precedes o x) (o ∷ (x ∷ xs)) (cond (precedes x o) (x ∷ insert o xs) (x ∷ xs)) p ∙ cond-true (precedes x o) (x ∷ insert o xs) (x ∷ xs) q

  pub step_same : precedes o x ≡ false → precedes x o ≡ false → insert o (x ∷ xs) ≡ x ∷ xs
  step_same p q = cond-false (precedes o x) (o ∷ (x ∷ xs)) (cond (precedes x o) (x ∷ insert o xs) (x ∷ xs)) p ∙ cond-false (precedes x o) (x ∷ insert o xs) (x ∷ xs) q

  -- what holds of each of the three ways
  pub by_order : (P : List Operand → Type 0) → (o ≡ x → P (x ∷ xs)) → (precedes o x ≡ true → P (o ∷ (x ∷ xs))) → (precedes x o ≡ true → P (x ∷ insert o xs)) → P (insert o (x ∷ xs))
  by_order P s u v =
      elim (order o x) [
        | equal e p q ↦ subst P (sym (step_same p q)) (s e)
        | under p q ↦ subst P (sym (step_under p)) (u p)
        | over p q ↦ subst P (sym (step_over p q)) (v q)
      ]

pub has_new : (o : Operand) (xs : List Operand) → Among o (insert o xs)
has_new o [] = inl refl
has_new o (x ∷ xs) = by_order o x xs (Among o) inl (λ _. inl refl) (λ _. inr (has_new o xs))

pub has_kept : (o y : Operand) (xs : List Operand) → Among y xs → Among y (insert o xs)
has_kept o y [] h = absurd h
has_kept o y (x ∷ xs) h =
    by_order o x xs (Among y) (λ _. h) (λ _. inr h)
    (λ _. ⊎_elim {C = Among y (x ∷ insert o xs)} inl (λ (k : Among y xs). inr (has_kept o y xs k)) h)

pub has_only : (o y : Operand) (xs : List Operand) → Among y (insert o xs) → (y ≡ o) ⊎ Among y xs
has_only o y [] h = h
has_only o y (x ∷ xs) g =
    by_order o x xs (λ zs. Among y zs → (y ≡ o) ⊎ Among y (x ∷ xs)) (λ _. inr) (λ _ h. h)
    (λ _. ⊎_elim {C = (y ≡ o) ⊎ Among y (x ∷ xs)} (λ (e : y ≡ x). inr (inl e))
    (λ (k : Among y (insert o xs)). ⊎_elim {C = (y ≡ o) ⊎ Among y (x ∷ xs)} inl (λ (m : Among y xs). inr (inr m)) (has_only o y xs k))) g

-- an operand before the first of an ascending list is before all of it
under_all : (o x : Operand) (xs : List Operand) → precedes o x ≡ true → Ascends (x ∷ xs) → (y : Operand) → Among y (x ∷ xs) → precedes o y ≡ true
under_all o x xs p a y h =
    ⊎_elim {C = precedes o y ≡ true} (λ (e : y ≡ x). subst (λ (z : Operand). precedes o z ≡ true) (sym e) p)
    (λ (k : Among y xs). before_trans o x y p (a.0 y k)) h

pub insert_ascends : (o : Operand) (xs : List Operand) → Ascends xs → Ascends (insert o xs)
insert_ascends o [] a = (λ y h. absurd h, tt)
insert_ascends o (x ∷ xs) a =
    by_order o x xs Ascends (λ _. a) (λ p. (under_all o x xs p a, a))
    (λ p. (λ y h. ⊎_elim {C = precedes x y ≡ true} (λ (e : y ≡ o). subst (λ (z : Operand). precedes x z ≡ true) (sym e) p) (a.0 y) (has_only o y xs h), insert_ascends o xs a.1))

-- two ascending lists of the same operands are one
module _ (x y : Operand) (xs ys : List Operand) (a : Ascends (x ∷ xs)) (b : Ascends (y ∷ ys)) (f : (o : Operand) → Among o (x ∷ xs) → Among o (y ∷ ys)) (g : (o : Operand) → Among o (y ∷ ys) → Among o (x ∷ xs)) where
  heads : x ≡ y
  heads =
      ⊎_elim {C = x ≡ y} (λ (e : x ≡ y). e)
      (λ (h : Among x ys). ⊎_elim {C = x ≡ y} (λ (e : y ≡ x). sym e) (λ (k : Among y xs). absurd (before_asym x y (a.0 y k) (b.0 x h))) (g y (inl refl)))
      (f x (inl refl))

  tail_in : (o : Operand) → Among o xs → Among o ys
  tail_in o h =
      ⊎_elim {C = Among o ys} (λ (e : o ≡ y). absurd (before_irrefl x (subst (λ (z : Operand). precedes x z ≡ true) (e ∙ sym heads) (a.0 o h)))) (λ (k : Among o ys). k) (f o (inr h))

pub ascending_same : (xs ys : List Operand) → Ascends xs → Ascends ys → ((o : Operand) → Among o xs → Among o ys) → ((o : Operand) → Among o ys → Among o xs) → xs ≡ ys
ascending_same [] [] a b f g = refl
ascending_same [] (y ∷ ys) a b f g = absurd (g y (inl refl))
ascending_same (x ∷ xs) [] a b f g = absurd (f x (inl refl))
ascending_same (x ∷ xs) (y ∷ ys) a b f g =
    let e = heads x y xs ys a b f g in
    let t : xs ≡ ys = ascending_same xs ys a.1 b.1 (tail_in x y xs ys a b f g) (tail_in y x ys xs b a g f) in
    ap (λ (z : Operand). z ∷ xs) e ∙ ap (λ (zs : List Operand). y ∷ zs) t

-- an ascending list whose operands are all in another is no longer
pub ascending_fewer : (xs ys : List Operand) → Ascends xs → Ascends ys → ((o : Operand) → Among o xs → Among o ys) → length xs ≤ length ys
ascending_fewer [] ys a b f = omega arith
ascending_fewer (x ∷ xs) [] a b f = absurd (f x (inl refl))
ascending_fewer (x ∷ xs) (y ∷ ys) a b f =
    ⊎_elim {C = length (x ∷ xs) ≤ length (y ∷ ys)}
    (λ (e : x ≡ y). let t = ascending_fewer xs ys a.1 b.1 (λ o h. ⊎_elim {C = Among o ys} (λ (d : o ≡ y). absurd (before_irrefl x (subst (λ (z : Operand). precedes x z ≡ true) (d ∙ sym e) (a.0 o h)))) (λ (k : Among o ys). k) (f o (inr h))) in omega arith)
    (λ (m : Among x ys). let t = ascending_fewer (x ∷ xs) ys a b.1 (λ o h. ⊎_elim {C = Among o ys} (λ (d : o ≡ y). absurd (late m (subst (λ (z : Operand). Among z (x ∷ xs)) d h))) (λ (k : Among o ys). k) (f o h)) in omega arith)
    (f x (inl refl))
  where
    -- y is before x, so that it is not in the list from x on
    late : Among x ys → Among y (x ∷ xs) → ⊥
    late m h = ⊎_elim {C = ⊥} (λ (e : y ≡ x). before_irrefl y (subst (λ (z : Operand). precedes y z ≡ true) (sym e) (b.0 x m))) (λ (k : Among y xs). before_asym x y (a.0 y k) (b.0 x m)) h

pub different_ascend : (es : List (Option Operand)) → Ascends (different es)
different_ascend [] = tt
different_ascend (None ∷ es) = different_ascend es
different_ascend (Some e ∷ es) = insert_ascends e (different es) (different_ascend es)

pub put_has : (es : List (Option Operand)) (o : Operand) (k : ℕ) → get_or es k None ≡ Some o → Among o (different es)
put_has [] o k h = absurd (some_none (sym h))
put_has (None ∷ es) o zero h = absurd (some_none (sym h))
put_has (None ∷ es) o (suc k) h = put_has es o k h
put_has (Some e ∷ es) o zero h = subst (λ z. Among z (insert e (different es))) (cc) (has_new e (different es))
put_has (Some e ∷ es) o (suc k) h = has_kept e o (different es) (put_has es o k h)

pub has_put : (es : List (Option Operand)) (o : Operand) → Among o (different es) → (k : ℕ) × (get_or es k None ≡ Some o)
has_put [] o h = absurd h
has_put (None ∷ es) o h = let r = has_put es o h in (suc r.0, r.1)
has_put (Some e ∷ es) o h =
    ⊎_elim {C = (k : ℕ) × (get_or (Some e ∷ es) k None ≡ Some o)} (λ (q : o ≡ e). (0, ap Some (sym q))) (λ (g : Among o (different es)). let r = has_put es o g in (suc r.0, r.1)) (has_only e o (different es) h)

pub insert_one : (o : Operand) (xs : List Operand) → length (insert o xs) ≤ length xs + 1
insert_one o [] = omega arith
insert_one o (x ∷ xs) = by_order o x xs (λ zs. length zs ≤ length (x ∷ xs) + 1) (λ _. omega arith) (λ _. omega arith) (λ _. omega (arith, insert_one o xs))

pub different_few : (es : List (Option Operand)) → length (different es) ≤ length es
different_few [] = omega arith
different_few (None ∷ es) = omega (arith, different_few es)
different_few (Some e ∷ es) = omega (arith, different_few es, insert_one e (different es))

module _ (b : Block) (p : Port) where
  selected_at : (o : Operand) (k : ℕ) → (put_at (row_of b k) p ≡ Some o → get_or (map (λ r. put_at r p) b.table.rows) k None ≡ Some o) × (get_or (map (λ r. put_at r p) b.table.rows) k None ≡ Some o → put_at (row_of b k) p ≡ Some o)
  selected_at o k =
      let e = column_at (λ r. put_at r p) b k in
      (λ h. e ∙ h, λ h. sym e ∙ h)

  these : InputsOf b p (inputs b p)
  these = record {
    ascending = different_ascend (map (λ r. put_at r p) b.table.rows);
    only = λ o h. let r = has_put (map (λ r. put_at r p) b.table.rows) o h in (r.0, (selected_at o r.0).1 r.1);
    all = λ o h. put_has (map (λ r. put_at r p) b.table.rows) o h.0 ((selected_at o h.0).0 h.1);
  }

  alone : (os : List Operand) → InputsOf b p os → os ≡ inputs b p
  alone os h = ascending_same os (inputs b p) h.ascending these.ascending (λ o k. these.all o (h.only o k)) (λ o k. h.all o (these.only o k))

  few : length (inputs b p) ≤ 16
  few = omega (arith, different_few (map (λ r. put_at r p) b.table.rows), column_length (λ r. put_at r p) b)

-- A column from a code on, when the code before is added.

module _ (b : Block) (p : Port) where
  abbrev pub column : List (Option Operand)
  column = map (λ r. put_at r p) b.table.rows

  pub none_yet : different (drop 16 column) ≡ []
  none_yet = ap different (column_end (λ r. put_at r p) b)

  module _ (c : ℕ) (some : 0 < c) (most : c ≤ 16) where
    pub room_left : length (different (drop c column)) < 16
    room_left = omega (arith, different_few (drop c column), length-drop c column, column_length (λ r. put_at r p) b)

    turned : (o : Option Operand) → put_at (row_of b (c - 1)) p ≡ o → drop (c - 1) column ≡ o ∷ drop c column
    turned o e = column_turn (λ r. put_at r p) b c some most ∙ ap (λ x. x ∷ drop c column) e

    pub one_put : (o : Operand) (list : List Operand) → put_at (row_of b (c - 1)) p ≡ Some o → list ≡ different (drop c column) → insert o list ≡ different (drop (c - 1) column)
    one_put o list e same = ap (insert o) same ∙ ap different (sym (turned (Some o) e))

    pub none_put : (list : List Operand) → put_at (row_of b (c - 1)) p ≡ None → list ≡ different (drop c column) → list ≡ different (drop (c - 1) column)
    none_put list e same = same ∙ ap different (sym (turned None e))

pub inputs_law : InputsLaw
inputs_law = record { these = these; alone = alone; few = few }

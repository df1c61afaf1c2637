-- What a run carries from adder to adder: the meaning of each result is so many copies of the sample's as the adder's value says.
use Rattle.std.proofs.Common.{◌≡◌, ℕ, suc, ◌+◌, ◌*◌, ◌^◌, ◌<◌, ◌≤◌, ◌≢◌, List, length, get_or, set, Some, None, Option, sym, refl, ap, ◌∙◌, subst, ⊎_elim, eq-or-lt_of_le, arith}
use Rattle.std.proofs.lemmas.List.{get_or-set_same, get_or-set_other}
use Rattle.adders.specs.declared.wiring.Adder.{Adder}
use Rattle.adders.specs.declared.wiring.Operand.{Operand}
use Rattle.adders.specs.declared.wiring.Sign.{Sign}
use Rattle.adders.specs.declared.wiring.Sign.TheVariants.{Plus, Minus}
use Rattle.adders.specs.Values.{Slots, combined, slot_value, sample, value}
use Rattle.adders.specs.Rules.{Sound}
use Rattle.adders.proofs.Follow.{follow, value_at}
use Rattle.arith.specs.Operations.{Operations, Laws, times, doubled}
use Rattle.arith.specs.Times.{times_one, times_add, times_sub, times_doubled}
use Rattle.rows.specs.Rules.{row_constant}
use Rattle.running.specs.Steps.{operand_meaning, joined, slot_meaning, Within}

-- the sources of a sound adder are results
pub within_nine : (xs : Slots) (k : ℕ) → Sound xs → k < 8 → (x : Option Adder) → get_or xs k None ≡ x → Within x
within_nine xs k s h None e = tt
within_nine xs k s h (Some a) e = let t = s k a e in (omega (arith, t.left.lower), omega (arith, t.right.lower))

-- an adder that is not used has the value 0
value_none : (xs : Slots) (k : ℕ) → k < length xs → get_or xs k None ≡ None → value xs (suc k) ≡ 0
value_none xs k h e = ap (value xs) (let p : suc k ≡ 1 + k = omega arith in p) ∙ value_at sample xs k h ∙ ap (slot_value _) e

module _ {M : Type 0} (ops : Operations M) (laws : Laws ops) where
  -- what an adder makes of its operands is what its slot means
  pub slot_told : (f : ℕ → M) (slot : Option Adder) (a : Adder) (s : Sign) (x l r : M) → slot ≡ Some a → a.sign ≡ s → x ≡ joined ops s l r → l ≡ operand_meaning ops f a.left → r ≡ operand_meaning ops f a.right → x ≡ slot_meaning ops f slot
  slot_told f slot a s x l r is sign told left right =
      told
      ∙ (λ i. joined ops (sym sign i) (left i) (right i))
      ∙ ap (slot_meaning ops f) (sym is)

  -- an operand of a source that means v copies of x
  operand_times : (f : ℕ → M) (o : Operand) (v : ℕ) (x : M) → f o.source ≡ times ops v x → operand_meaning ops f o ≡ times ops (v * 2 ^ o.shift) x
  operand_times f o v x e = ap (doubled ops o.shift) e ∙ sym (times_doubled ops laws o.shift v x)

  -- a difference that is at least 1 is exact
  signed : (s : Sign) (l r : ℕ) (x : M) → 1 ≤ combined s l r → joined ops s (times ops l x) (times ops r x) ≡ times ops (combined s l r) x
  signed Plus l r x h = sym (times_add ops laws l r x)
  signed Minus l r x h = sym (times_sub ops laws l r x (omega arith))

  module _ (xs : Slots) (sound : Sound xs) (f : ℕ → M) (x : M) (k : ℕ) (h : k < length xs) (before : (j : ℕ) → j ≤ k → f j ≡ times ops (value xs j) x) where
    slot_times : (y : Option Adder) → get_or xs k None ≡ y → slot_meaning ops f y ≡ times ops (value xs (suc k)) x
    slot_times None e = ap (λ n. times ops n x) (sym (value_none xs k h e))
    slot_times (Some a) e =
        let s = sound k a e in
        let low : a.left.source ≤ k = omega (arith, s.left.lower) in
        let high : a.right.source ≤ k = omega (arith, s.right.lower) in
        let l = value xs a.left.source in
        let r = value xs a.right.source in
        let is = follow.adder_is xs k a e low high in
        (λ i. joined ops a.sign (operand_times f a.left l x (before a.left.source low) i) (operand_times f a.right r x (before a.right.source high) i))
        ∙ signed a.sign (l * 2 ^ a.left.shift) (r * 2 ^ a.right.shift) x (subst (λ n. 1 ≤ n) is s.range.0)
        ∙ ap (λ n. times ops n x) (sym is)

  -- the results up to adder i
  abbrev pub Carries : {X : Type 0} → (X → M) → Slots → ℕ → List X → X → Type 0
  Carries means xs i rs x = (k : ℕ) → k ≤ i → means (get_or rs k x) ≡ times ops (value xs k) (means x)

  -- the sample by itself
  pub carries_first : {X : Type 0} (means : X → M) (xs : Slots) (rs : List X) (x : X) → get_or rs 0 x ≡ x → Carries means xs 0 rs x
  carries_first means xs rs x e k h =
      let none : k ≡ 0 = omega arith in
      ap (λ n. means (get_or rs n x)) none
      ∙ ap means e
      ∙ sym (times_one ops laws (means x))
      ∙ ap (λ n. times ops n (means x)) (sym (ap (value xs) none ∙ follow.sample_is xs))

  -- one adder more
  pub carries_more : {X : Type 0} (means : X → M) (xs : Slots) (i : ℕ) (rs after : List X) (x r : X) → Sound xs → i < length xs → i + 1 < length rs → Carries means xs i rs x → means r ≡ slot_meaning ops (λ k. means (get_or rs k x)) (get_or xs i None) → after ≡ set rs (i + 1) r → Carries means xs (i + 1) after x
  carries_more means xs i rs after x r sound h room inv e put k le =
      ap (λ l. means (get_or l k x)) put
      ∙ ⊎_elim
      (λ same.
      ap (λ n. means (get_or (set rs (i + 1) r) n x)) same
      ∙ ap means (get_or-set_same rs (i + 1) r x room)
      ∙ e
      ∙ slot_times xs sound (λ j. means (get_or rs j x)) (means x) i h inv (get_or xs i None) refl
      ∙ ap (λ n. times ops (value xs n) (means x)) (let p : suc i ≡ k = omega arith in p))
      (λ less.
      let other : k ≢ i + 1 = omega arith in
      ap means (get_or-set_other rs (i + 1) k r x other) ∙ inv k (omega arith))
      (eq-or-lt_of_le le)

  -- the output, over the results of all adders
  pub carries_out : {X : Type 0} (means : X → M) (xs : Slots) (out : Operand) (i : ℕ) (rs : List X) (x r : X) → out.source ≤ i → Carries means xs i rs x → means r ≡ operand_meaning ops (λ k. means (get_or rs k x)) out → means r ≡ times ops (row_constant xs out) (means x)
  carries_out means xs out i rs x r h inv e = e ∙ operand_times (λ k. means (get_or rs k x)) out (value xs out.source) (means x) (inv out.source h)

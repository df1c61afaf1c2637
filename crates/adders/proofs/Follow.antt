-- The values of the sources, place by place.
use Rattle.std.proofs.Common.{◌≡◌, ℕ, zero, suc, ◌+◌, ◌*◌, ◌^◌, ◌<◌, ◌≤◌, List, [], ◌∷◌, ◌++◌, length, get_or, take, Some, None, sym, refl, ap, ◌∙◌, arith}
use Rattle.std.proofs.lemmas.List.{length_push, get_or_append_left, get_or_push}
use Rattle.adders.specs.declared.wiring.Adder.{Adder}
use Rattle.adders.specs.Values.{Slots, operand_value, combined, adder_value, slot_value, values_from, sample, ValuesFollow}

-- adders leave the values before them as they are
pub values_early : (vs : List ℕ) (xs : Slots) (i : ℕ) → i < length vs → get_or (values_from vs xs) i 0 ≡ get_or vs i 0
values_early vs [] i h = refl
values_early vs (x ∷ xs) i h =
    values_early (vs ++ slot_value vs x ∷ []) xs i (let e = length_push vs (slot_value vs x) in omega arith) ∙ get_or_append_left vs (slot_value vs x ∷ []) 0 i h

pub length_values : (vs : List ℕ) (xs : Slots) → length (values_from vs xs) ≡ length vs + length xs
length_values vs [] = omega arith
length_values vs (x ∷ xs) = length_values (vs ++ slot_value vs x ∷ []) xs ∙ (let e = length_push vs (slot_value vs x) in omega arith)

-- the value of the adder at place k is made from the values before it
pub value_at : (vs : List ℕ) (xs : Slots) (k : ℕ) → k < length xs → get_or (values_from vs xs) (length vs + k) 0 ≡ slot_value (values_from vs (take k xs)) (get_or xs k None)
value_at vs [] k h = absurd (omega arith)
value_at vs (x ∷ xs) zero h =
    ap (λ n. get_or (values_from (vs ++ slot_value vs x ∷ []) xs) n 0) (omega arith)
    ∙ values_early (vs ++ slot_value vs x ∷ []) xs (length vs) (let e = length_push vs (slot_value vs x) in omega arith)
    ∙ get_or_push vs (slot_value vs x) 0 (length vs) refl
value_at vs (x ∷ xs) (suc k) h =
    ap (λ n. get_or (values_from (vs ++ slot_value vs x ∷ []) xs) n 0) (let e = length_push vs (slot_value vs x) in omega arith)
    ∙ value_at (vs ++ slot_value vs x ∷ []) xs k (omega arith)

-- the values of the first k adders are those of all of them
pub values_prefix : (vs : List ℕ) (xs : Slots) (k i : ℕ) → i < length vs + k → k ≤ length xs → get_or (values_from vs (take k xs)) i 0 ≡ get_or (values_from vs xs) i 0
values_prefix vs xs zero i h le = sym (values_early vs xs i (omega arith))
values_prefix vs [] (suc k) i h le = refl
values_prefix vs (x ∷ xs) (suc k) i h le = values_prefix (vs ++ slot_value vs x ∷ []) xs k i (let e = length_push vs (slot_value vs x) in omega arith) (omega arith)

pub same_adder_value : (vs ws : List ℕ) (a : Adder) → get_or vs a.left.source 0 ≡ get_or ws a.left.source 0 → get_or vs a.right.source 0 ≡ get_or ws a.right.source 0 → adder_value vs a ≡ adder_value ws a
same_adder_value vs ws a l r = ap (λ n. combined a.sign (n * 2 ^ a.left.shift) (operand_value vs a.right)) l ∙ ap (λ n. combined a.sign (operand_value ws a.left) (n * 2 ^ a.right.shift)) r

-- a place that holds an adder lies within the slots
pub within : (xs : Slots) (k : ℕ) (a : Adder) → get_or xs k None ≡ Some a → k < length xs
within [] k a e = let z : ◌≡◌ {A = ℕ} 0 1 = cc in absurd (omega arith)
within (x ∷ xs) zero a e = omega arith
within (x ∷ xs) (suc k) a e = let h = within xs k a e in omega arith

pub follow : ValuesFollow
follow = record {
  sample_is = λ xs. values_early sample xs 0 (omega arith);
  adder_is = λ xs j a e l r.
      let h = within xs j a e in
      ap (λ n. get_or (values_from sample xs) n 0) (omega arith)
      ∙ value_at sample xs j h
      ∙ ap (slot_value (values_from sample (take j xs))) e
      ∙ same_adder_value (values_from sample (take j xs)) (values_from sample xs) a (values_prefix sample xs j a.left.source (omega arith) (omega arith)) (values_prefix sample xs j a.right.source (omega arith) (omega arith));
}

-- What calls at each number in turn gave, place by place.
use Rattle.std.proofs.Common.{◌≡◌, ℕ, zero, suc, ◌+◌, ◌-◌, ◌<◌, ◌≤◌, List, [], ◌∷◌, ◌++◌, length, map, take, drop, replicate, set, slice_index_or, refl, subst, sym, ap, ◌∙◌, ⊎_elim, arith}
use Rattle.std.proofs.lemmas.List.{drop-drop, drop-set-lt, drop-replicate, map_more, take_all, take_more_set, take-append-drop}
use Rattle.std.proofs.Math.Seq.{drop-append_seam}
use Rattle.std.proofs.lemmas.Grind.{common_steps}
use Rattle.std.proofs.lemmas.Bool.{cases_order}
use Rattle.std.specs.Array.{IsFromFnResultFrom}
use denote.Param.Members.{Mut, Called}

module _ {F B : Type 0} (g : Mut F (ℕ × Unit {0}) B) (I : F → Type 0) (P : ℕ → B → Type 0) (keeps : (s : F) (i : ℕ) (y : B) (q : F) → I s → Called g s (i, tt) y q → P i y × I q) where
  pub places : (f : F) (ys : List B) (i n k : ℕ) (d : B) → I f → IsFromFnResultFrom g f ys i n → i ≤ k → k < i + n → P k (slice_index_or ys k d)
  places f ys i zero k d s r low high = absurd (omega arith)
  places f ys i (suc n) k d s r low high =
      let now = keeps f i r.1 r.0 s r.3 in
      ⊎_elim (λ e. subst (λ j. P j (slice_index_or ys j d)) e (subst (P i) (sym (r.2.1 d)) now.0)) (⊎_elim (λ l. places r.0 ys (i + 1) n k d now.1 r.4 (omega arith) (omega arith)) (λ l. absurd (omega arith))) (cases_order i k)

-- the spare slots after one more is filled
pub spare_less : {A : Type 0} (xs : List A) (n m : ℕ) (a b : A) → drop n xs ≡ replicate (m - n) b → drop (n + 1) (set xs n a) ≡ replicate (m - (n + 1)) b
spare_less xs n m a b e =
    drop-set-lt (n + 1) xs n a (omega arith)
    ∙ sym (drop-drop 1 n xs)
    ∙ ap (drop 1) e
    ∙ drop-replicate 1 (m - n) b
    ∙ ap (λ k. replicate k b) (omega arith)

-- one more is filled, with what f makes of the next of a list
pub filled_more : {A B : Type 0} (f : A → B) (xs : List A) (slots : List B) (i : ℕ) (d : A) → i < length slots → i < length xs → take i slots ≡ map f (take i xs) → take (i + 1) (set slots i (f (slice_index_or xs i d))) ≡ map f (take (i + 1) xs)
filled_more f xs slots i d room h same = take_more_set slots i (f (slice_index_or xs i d)) room ∙ ap (λ l. l ++ f (slice_index_or xs i d) ∷ []) same ∙ sym (map_more f xs i d h)

-- the whole list is in its slots
pub filled_all : {A B : Type 0} (f : A → B) (spare : B) (xs : List A) (slots : List B) (i n : ℕ) → i ≡ length xs → take i slots ≡ map f (take i xs) → drop i slots ≡ replicate (n - i) spare → slots ≡ map f xs ++ replicate (n - length xs) spare
filled_all f spare xs slots i n end front back =
    sym (take-append-drop i slots)
    ∙ ap (λ l. l ++ drop i slots) (front ∙ ap (map f) (take_all i xs (omega arith)))
    ∙ ap (λ l. map f xs ++ l) (back ∙ ap (λ k. replicate (n - k) spare) end)

-- slots of which the first are filled, the others spare
pub spare_behind : {A : Type 0} (xs ys : List A) (m : ℕ) (b : A) → length xs ≤ m → ys ≡ xs → (length xs ≤ m) × (length (ys ++ drop (length xs) (replicate m b)) ≡ m) × (drop (length xs) (ys ++ drop (length xs) (replicate m b)) ≡ replicate (m - length xs) b)
spare_behind xs ys m b h e = (
  h,
  grind (arith, common_steps, e, drop-replicate),
  ap (λ l. drop (length xs) (l ++ drop (length xs) (replicate m b))) e ∙ drop-append_seam xs (drop (length xs) (replicate m b)) ∙ drop-replicate (length xs) m b,
)

-- two lists of one length that have the same at each place are the same
pub same_list : {A : Type 0} (d : A) (xs ys : List A) → length xs ≡ length ys → ((k : ℕ) → k < length xs → slice_index_or xs k d ≡ slice_index_or ys k d) → xs ≡ ys
same_list d [] [] e f = refl
same_list d [] (y ∷ ys) e f = absurd (omega arith)
same_list d (x ∷ xs) [] e f = absurd (omega arith)
same_list d (x ∷ xs) (y ∷ ys) e f = (λ i. f 0 (omega arith) i ∷ same_list d xs ys (omega arith) (λ k h. f (suc k) (omega arith)) i)

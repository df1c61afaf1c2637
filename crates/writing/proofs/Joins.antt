-- One piece written after another.
use Rattle.std.proofs.Common.{◌≡◌, ℕ, zero, suc, ◌+◌, ◌-◌, ◌<◌, ◌≤◌, ◌⊎◌, inl, inr, List, [], ◌∷◌, ◌++◌, take, set, length, min, cond, refl, sym, ap, ◌∙◌, append_assoc, append-nil, arith}
use Rattle.std.proofs.Math.Seq.{take-append-add, take-append_seam}
use Rattle.std.proofs.lemmas.Bool.{cases_lt, lt-ltb, le-ltb}
use Rattle.std.proofs.lemmas.List.{length-append, length-take, length-take-le, take_all, take-append-le, take_more_set}
use Rattle.texts.specs.Text.{number, code_digits}
use Rattle.writing.specs.Writes.{Wrote}

-- what does not fit is let go of once or twice
pub let_go : (n : ℕ) (a b : List ℕ) → take n (take n a ++ b) ≡ take n (a ++ b)
let_go zero a b = refl
let_go (suc n) [] b = refl
let_go (suc n) (x ∷ a) b = ap (λ l. x ∷ l) (let_go n a b)

pub nothing : (a : List ℕ) → length a ≤ 4096 → Wrote a [] a
nothing a room = sym (ap (take 4096) (append-nil a) ∙ take_all 4096 a room)

pub roomy : (a xs b : List ℕ) → Wrote a xs b → length b ≤ 4096
roomy a xs b f = omega (arith, ap length f, length-take 4096 (a ++ xs))

pub joined : (a xs b ys c : List ℕ) → Wrote a xs b → Wrote b ys c → Wrote a (xs ++ ys) c
joined a xs b ys c f g = g ∙ ap (λ l. take 4096 (l ++ ys)) f ∙ let_go 4096 (a ++ xs) ys ∙ ap (take 4096) (append_assoc a xs ys)

-- what is still to be written finishes the whole
abbrev pub Finishes : List ℕ → List ℕ → List ℕ → List ℕ → Type 0
Finishes old whole now rest = (length now ≤ 4096) × (take 4096 (now ++ rest) ≡ take 4096 (old ++ whole))

pub finishes_next : (old whole now line rest next : List ℕ) → Finishes old whole now (line ++ rest) → Wrote now line next → Finishes old whole next rest
finishes_next old whole now line rest next f w = (
  roomy now line next w,
  ap (λ l. take 4096 (l ++ rest)) w ∙ let_go 4096 (now ++ line) rest ∙ ap (take 4096) (append_assoc now line rest) ∙ f.1,
)

pub finished : (old whole now : List ℕ) → Finishes old whole now [] → Wrote old whole now
finished old whole now f = nothing now f.0 ∙ f.1

-- the digits of a code
pub below_ten : (c : ℕ) → c < 10 → 115 ∷ 48 ∷ number c ≡ 115 ∷ code_digits c
below_ten c h = ap (λ b. 115 ∷ cond b (48 ∷ number c) (number c)) (sym (lt-ltb c 10 h))

pub from_ten : (c : ℕ) → 10 ≤ c → 115 ∷ number c ≡ 115 ∷ code_digits c
from_ten c h = ap (λ b. 115 ∷ cond b (48 ∷ number c) (number c)) (sym (le-ltb c 10 h))

-- one byte more where there is room, and any bytes where there is none
pub one_more : (bytes : List ℕ) (n b : ℕ) → n < 4096 → length bytes ≡ 4096 → take (n + 1) (set bytes n b) ≡ take 4096 (take n bytes ++ b ∷ [])
one_more bytes n b some size =
    let few : length (take n bytes ++ b ∷ []) ≤ 4096 = omega (arith, length-append (take n bytes) (b ∷ []), length-take-le n bytes (omega arith)) in
    take_more_set bytes n b (omega arith) ∙ sym (take_all 4096 (take n bytes ++ b ∷ []) few)

pub no_more : (a xs : List ℕ) → length a ≡ 4096 → a ≡ take 4096 (a ++ xs)
no_more a xs full = sym (take-append-le 4096 a xs (omega arith) ∙ take_all 4096 a (omega arith))

-- the front of some bytes, as many as there is room for
pub kept_front : (bytes key ys rest : List ℕ) (n k : ℕ) → length bytes ≡ 4096 → n ≤ 4096 → k ≡ min (length key) (4096 - n) → ys ≡ take k key → take (n + k) (take n bytes ++ (ys ++ rest)) ≡ take 4096 (take n bytes ++ key)
kept_front bytes key ys rest n k size room is front =
    let a = take n bytes in
    let begun : length a ≡ n = length-take-le n bytes (omega arith) in
    let added : length ys ≡ k = ap length front ∙ length-take-le k key (omega arith) in
    let left : take (4096 - n) key ≡ take k key = by (cases_lt (4096 - n) (length key)) in
    let total : length a + (4096 - n) ≡ 4096 = omega arith in
    ap (λ m. take m (a ++ (ys ++ rest))) (let e : n + k ≡ length a + k = omega arith in e)
    ∙ take-append-add a (ys ++ rest) k
    ∙ ap (λ l. a ++ l) (ap (λ m. take m (ys ++ rest)) (sym added) ∙ take-append_seam ys rest ∙ front ∙ sym left)
    ∙ sym (take-append-add a key (4096 - n)) ∙ ap (λ m. take m (a ++ key)) total
  where
    by : (4096 - n < length key) ⊎ (length key ≤ 4096 - n) → take (4096 - n) key ≡ take k key
    by (inl more) = let same : 4096 - n ≡ k = omega arith in ap (λ m. take m key) same
    by (inr few) = take_all (4096 - n) key few ∙ sym (take_all k key (omega arith))

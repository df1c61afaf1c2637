-- Lists in place: the slots of a list are given back by its adders.
use Rattle.std.specs.Prelude.{◌≡◌, ℕ, ◌-◌, ◌≤◌, List, ◌++◌, length, take, drop, replicate}
use Rattle.std.proofs.Common.{sym, ap, ◌∙◌, arith}
use Rattle.std.proofs.lemmas.List.{length-take, take-append-drop}

pub relen : {A : Type 0} (xs : List A) (n m : ℕ) → n ≤ m → length xs ≡ m → length (take n xs) ≡ n
relen xs n m h e = grind (arith, length-take)

pub refilled : {A : Type 0} (xs : List A) (n m : ℕ) (a : A) → n ≤ m → length xs ≡ m → drop n xs ≡ replicate (m - n) a → take n xs ++ replicate (m - length (take n xs)) a ≡ xs
refilled xs n m a h e d =
    ap (λ k. take n xs ++ replicate (m - k) a) (relen xs n m h e) ∙ ap (λ ys. take n xs ++ ys) (sym d) ∙ take-append-drop n xs

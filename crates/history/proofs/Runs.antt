-- Runs of calls on any kind of state.
use Rattle.std.proofs.Common.{◌≡◌, ℕ, ◌+◌, ◌<◌, ◌≤◌, List, [], ◌∷◌, ◌++◌, length, map, take, set, get_or, sym, ap, ◌∙◌, subst}
use Rattle.std.proofs.lemmas.List.{take_more, take_more_set, take_all, map-append}
use Rattle.history.specs.Runs.{Run, rests, goes, noted_all, EachKept, ends, next}

-- what is kept by each call holds of every run
module _ {E S O K : Type 0} (Step : E → S → O → S → Type 0) (noted : K → E → K) (Tells : K → S → Type 0) (Kept : K → E → S → O → S → Type 0) where
  pub each_kept : ((e : E) (b : S) (o : O) (m : S) → Step e b o m → (k : K) → Tells k b → Kept k e b o m × Tells (noted k e) m)
      → (k : K) (b z : S) (es : List E) (os : List O) → Tells k b → Run Step b es os z → EachKept noted Tells Kept k b es os z
  each_kept step k b z [] [] told rests = ends told
  each_kept step k b z [] (o ∷ os) told run = elim run [ ]
  each_kept step k b z (e ∷ es) [] told run = elim run [ ]
  each_kept step k b z (e ∷ es) (o ∷ os) told (goes {m = m} s run) =
      let kept = step e b o m s k told in
      next kept.0 (each_kept step (noted k e) m z es os kept.1 run)

  pub told_last : (k : K) (b z : S) (es : List E) (os : List O) → EachKept noted Tells Kept k b es os z → Tells (noted_all noted k es) z
  told_last k b z [] [] (ends told) = told
  told_last k b z [] (o ∷ os) each = elim each [ ]
  told_last k b z (e ∷ es) [] each = elim each [ ]
  told_last k b z (e ∷ es) (o ∷ os) (next {m = m} kept each) = told_last (noted k e) m z es os each

module _ {E S O : Type 0} (Step : E → S → O → S → Type 0) where
  -- one call more
  run_push : (b m z : S) (es : List E) (os : List O) (e : E) (o : O) → Run Step b es os m → Step e m o z → Run Step b (es ++ e ∷ []) (os ++ o ∷ []) z
  run_push b m z [] [] e o rests s = goes s rests
  run_push b m z [] (p ∷ os) e o run s = elim run [ ]
  run_push b m z (f ∷ es) [] e o run s = elim run [ ]
  run_push b m z (f ∷ es) (p ∷ os) e o (goes {m = n} t run) s = goes t (run_push n m z es os e o run s)

  -- a turn of a loop over the calls, and its end
  pub run_more : {X : Type 0} (f : X → E) (calls : List X) (outs : List O) (i : ℕ) (x : X) (o : O) (start m z : S) → i < length calls → i < length outs → x ≡ get_or calls i x → Run Step start (map f (take i calls)) (take i outs) m → Step (f x) m o z → Run Step start (map f (take (i + 1) calls)) (take (i + 1) (set outs i o)) z
  run_more f calls outs i x o start m z low short there run s =
      let more = take_more calls i x low ∙ ap (λ y. take i calls ++ y ∷ []) (sym there) in
      let events = ap (map f) more ∙ map-append f (take i calls) (x ∷ []) in
      subst (λ es. Run Step start es (take (i + 1) (set outs i o)) z) (sym events)
      (subst (λ os. Run Step start (map f (take i calls) ++ f x ∷ []) os z) (sym (take_more_set outs i o short))
      (run_push start m z (map f (take i calls)) (take i outs) (f x) o run s))

  pub run_whole : {X : Type 0} (f : X → E) (calls : List X) (outs : List O) (i : ℕ) (start z : S) → length calls ≤ i → length outs ≤ i → Run Step start (map f (take i calls)) (take i outs) z → Run Step start (map f calls) outs z
  run_whole f calls outs i start z all each run =
      subst (λ es. Run Step start es outs z) (ap (map f) (take_all i calls all))
      (subst (λ os. Run Step start (map f (take i calls)) os z) (take_all i outs each) run)

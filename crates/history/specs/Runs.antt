-- Runs of calls on any kind of state, and a book kept beside them.
--   E, S, O, K      calls, states, outcomes, books
--   Step e b o m    what the rules say of a call e on a state b, its outcome o and the state m after it
--   noted k e       the book after a call
--   Tells k b       the book and the state agree
--   Kept k e b o m  what holds of a call where the book says k before it
--   es, os          calls, and beside each its outcome
use Rattle.std.specs.Prelude.{List, [], ◌∷◌}

-- the calls one after another, each keeping to its rules
pub data Run {E S O : Type 0} (Step : E → S → O → S → Type 0) : S → List E → List O → S → Type 0 where
  rests : {b : S} → Run Step b [] [] b
  goes : {b m z : S} {e : E} {es : List E} {o : O} {os : List O}
      → Step e b o m
      → Run Step m es os z
      → Run Step b (e ∷ es) (o ∷ os) z

-- the book after some calls
abbrev pub noted_all : {E K : Type 0} → (K → E → K) → K → List E → K
noted_all noted k [] = k
noted_all noted k (e ∷ es) = noted_all noted (noted k e) es

-- that holds of each call, and the book agrees with the state after the last
pub data EachKept {E S O K : Type 0}
    (noted : K → E → K) (Tells : K → S → Type 0) (Kept : K → E → S → O → S → Type 0)
    : K → S → List E → List O → S → Type 0 where
  ends : {k : K} {b : S} → Tells k b → EachKept noted Tells Kept k b [] [] b
  next : {k : K} {b m z : S} {e : E} {es : List E} {o : O} {os : List O}
      → Kept k e b o m
      → EachKept noted Tells Kept (noted k e) m es os z
      → EachKept noted Tells Kept k b (e ∷ es) (o ∷ os) z

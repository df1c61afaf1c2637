-- What is found is the cheapest of all choices, and the first among equals.
use Rattle.std.proofs.Common.{◌≡◌, ℕ, zero, suc, ◌+◌, ◌<◌, ◌≤◌, Bool, true, false, cond, List, [], ◌∷◌, ◌++◌, Some, None, Option, ◌⊎◌, sym, refl, ap, ◌∙◌, subst, inl, inr, arith}
use Rattle.std.proofs.lemmas.Bool.{false≢true, cases_lt, lt-ltb, le-ltb}
use Rattle.std.proofs.lemmas.List.{append_assoc, append-nil}
use Rattle.search.specs.declared.found.Found.{Found}
use Rattle.search.specs.Choosing.{Lower, Follows, cost, Cheapest, Choice, cheaper, cheapest_of, through, best_from}

-- f is the cheapest of a class of choices that go on after those before
record Best (before : List ℕ) (v : List ℕ → ℕ) (C : List ℕ → Type 0) (f : Found) : Type 0 where
  pub rest : List ℕ
  pub among : C rest
  pub choices : f.choices ≡ before ++ rest
  pub price : f.price ≡ v rest
  pub least : (qs : List ℕ) → C qs → v rest ≤ v qs
  pub first : (qs : List ℕ) → C qs → Lower qs rest → v rest < v qs

abbrev BestOf : List ℕ → (List ℕ → ℕ) → (List ℕ → Type 0) → Option Found → Type 0
BestOf before v C None = (qs : List ℕ) → C qs → ⊥
BestOf before v C (Some f) = Best before v C f

module _ (before : List ℕ) (v : List ℕ → ℕ) (C D : List ℕ → Type 0) where
  same_class : (o : Option Found) → ((x : List ℕ) → C x → D x) → ((x : List ℕ) → D x → C x) → BestOf before v C o → BestOf before v D o
  same_class None f g b = λ qs d. b qs (g qs d)
  same_class (Some r) f g b = record { rest = b.rest; among = f b.rest b.among; choices = b.choices; price = b.price; least = λ qs d. b.least qs (g qs d); first = λ qs d. b.first qs (g qs d) }

  abbrev Either : List ℕ → Type 0
  Either x = C x ⊎ D x

  module _ (apart : (x y : List ℕ) → C x → D y → Lower y x → ⊥) where
    first_stays : (a : Found) (b : Best before v C a) → ((y : List ℕ) → D y → v b.rest ≤ v y) → BestOf before v Either (Some a)
    first_stays a b h = record {
      rest = b.rest;
      among = inl b.among;
      choices = b.choices;
      price = b.price;
      least = λ qs e. elim e [ inl c ↦ b.least qs c | inr d ↦ h qs d ];
      first = λ qs e l. elim e [ inl c ↦ b.first qs c l | inr d ↦ absurd (apart b.rest qs b.among d l) ];
    }

    second_wins : (a : Found) (b : Best before v D a) → ((x : List ℕ) → C x → v b.rest < v x) → BestOf before v Either (Some a)
    second_wins a b h = record {
      rest = b.rest;
      among = inr b.among;
      choices = b.choices;
      price = b.price;
      least = λ qs e. elim e [ inl c ↦ omega (arith, h qs c) | inr d ↦ b.least qs d ];
      first = λ qs e l. elim e [ inl c ↦ h qs c | inr d ↦ b.first qs d l ];
    }

    of_both : (a b : Option Found) → BestOf before v C a → BestOf before v D b → BestOf before v Either (cheaper a b)
    of_both None None x y = λ qs e. elim e [ inl c ↦ x qs c | inr d ↦ y qs d ]
    of_both None (Some b) x y = second_wins b y (λ qs c. absurd (x qs c))
    of_both (Some a) None x y = first_stays a x (λ qs d. absurd (y qs d))
    of_both (Some a) (Some b) x y =
        elim (cases_lt b.price a.price) [
          | inl less ↦ subst (λ t. BestOf before v Either (cond t (Some b) (Some a))) (sym (lt-ltb b.price a.price less)) (second_wins b y (λ qs c. omega (arith, x.price, y.price, x.least qs c)))
          | inr more ↦ subst (λ t. BestOf before v Either (cond t (Some b) (Some a))) (sym (le-ltb b.price a.price more)) (first_stays a x (λ qs d. omega (arith, x.price, y.price, y.least qs d)))
        ]

module _ (count : ℕ) (opens : List ℕ → ℕ → Bool) (rise : List ℕ → ℕ → ℕ) (last : List ℕ → ℕ) where
  abbrev Goes : ℕ → List ℕ → List ℕ → Type 0
  Goes = Follows count opens rise last

  abbrev paying : ℕ → List ℕ → List ℕ → ℕ
  paying paid before qs = paid + cost count opens rise last before qs

  -- the next choice is at most k, or k itself
  abbrev UpTo : ℕ → List ℕ → ℕ → List ℕ → Type 0
  UpTo n before k [] = ⊥
  UpTo n before k (p ∷ ps) = (p ≤ k) × Goes (suc n) before (p ∷ ps)

  abbrev At : ℕ → List ℕ → ℕ → List ℕ → Type 0
  At n before k [] = ⊥
  At n before k (p ∷ ps) = (p ≡ k) × Goes (suc n) before (p ∷ ps)

  module _ (n : ℕ) (before : List ℕ) (paid : ℕ) where
    abbrev rests : ℕ → Option Found
    rests k = best_from count opens rise last n (before ++ k ∷ []) (paid + rise before k)

    abbrev step : ℕ → Option Found
    step = through count opens rise last (best_from count opens rise last n) before paid

    module _ (whole : (k : ℕ) → BestOf (before ++ k ∷ []) (paying (paid + rise before k) (before ++ k ∷ [])) (Goes n (before ++ k ∷ [])) (rests k)) where
      no_rest : (k : ℕ) → ((qs : List ℕ) → Goes n (before ++ k ∷ []) qs → ⊥) → (qs : List ℕ) → At n before k qs → ⊥
      no_rest k b [] a = a
      no_rest k b (p ∷ ps) a = b ps (subst (λ i. Goes n (before ++ i ∷ []) ps) a.0 a.1.3)

      shut : (k : ℕ) → opens before k ≡ false → (qs : List ℕ) → At n before k qs → ⊥
      shut k e [] a = a
      shut k e (p ∷ ps) a = absurd (false≢true (sym e ∙ ap (opens before) (sym a.0) ∙ a.1.2))

      none_yet : (qs : List ℕ) → UpTo n before 0 qs → ⊥
      none_yet [] a = a
      none_yet (p ∷ ps) a = omega arith

      grown : (k : ℕ) → 1 ≤ k → k ≤ count → opens before k ≡ true → (o : Option Found) → BestOf (before ++ k ∷ []) (paying (paid + rise before k) (before ++ k ∷ [])) (Goes n (before ++ k ∷ [])) o → BestOf before (paying paid before) (At n before k) o
      grown k low high free None b = λ qs a. no_rest k b qs a
      grown k low high free (Some f) b = record {
        rest = k ∷ b.rest;
        among = (refl, (low, high, free, b.among));
        choices = b.choices ∙ append_assoc before (k ∷ []) b.rest;
        price = omega (arith, b.price);
        least = least;
        first = first;
      }
        where
          least : (qs : List ℕ) → At n before k qs → paying paid before (k ∷ b.rest) ≤ paying paid before qs
          least [] a = absurd a
          least (p ∷ ps) a = subst (λ i. Goes n (before ++ i ∷ []) ps → paying paid before (k ∷ b.rest) ≤ paying paid before (i ∷ ps)) (sym a.0) (λ g. omega (arith, b.least ps g)) a.1.3

          first : (qs : List ℕ) → At n before k qs → Lower qs (k ∷ b.rest) → paying paid before (k ∷ b.rest) < paying paid before qs
          first [] a l = absurd a
          first (p ∷ ps) a (inl l) = absurd (omega (arith, a.0))
          first (p ∷ ps) a (inr l) = subst (λ i. Goes n (before ++ i ∷ []) ps → paying paid before (k ∷ b.rest) < paying paid before (i ∷ ps)) (sym a.0) (λ g. omega (arith, b.first ps g l.1)) a.1.3

      stepped : (k : ℕ) → 1 ≤ k → k ≤ count → BestOf before (paying paid before) (At n before k) (step k)
      stepped k low high = by (opens before k) refl
        where
          by : (t : Bool) → opens before k ≡ t → BestOf before (paying paid before) (At n before k) (cond t (rests k) None)
          by true e = grown k low high e (rests k) (whole k)
          by false e = λ qs a. shut k e qs a

      up_to : (k : ℕ) → k ≤ count → BestOf before (paying paid before) (UpTo n before k) (cheapest_of step k)
      up_to zero h = λ qs a. none_yet qs a
      up_to (suc k) h =
          same_class before (paying paid before) (λ x. UpTo n before k x ⊎ At n before (suc k) x) (UpTo n before (suc k)) (cheaper (cheapest_of step k) (step (suc k))) to from
          (of_both before (paying paid before) (UpTo n before k) (At n before (suc k)) apart (cheapest_of step k) (step (suc k)) (up_to k (omega arith)) (stepped (suc k) (omega arith) h))
        where
          to : (x : List ℕ) → UpTo n before k x ⊎ At n before (suc k) x → UpTo n before (suc k) x
          to [] (inl a) = a
          to [] (inr a) = a
          to (p ∷ ps) (inl a) = (omega arith, a.1)
          to (p ∷ ps) (inr a) = (omega arith, a.1)

          from : (x : List ℕ) → UpTo n before (suc k) x → UpTo n before k x ⊎ At n before (suc k) x
          from [] a = absurd a
          from (p ∷ ps) a =
              elim (cases_lt p (suc k)) [
                | inl l ↦ inl (omega arith, a.1)
                | inr l ↦ inr (omega (arith, a.0), a.1)
              ]

          apart : (x y : List ℕ) → UpTo n before k x → At n before (suc k) y → Lower y x → ⊥
          apart [] y u a l = u
          apart (p ∷ ps) [] u a l = a
          apart (p ∷ ps) (q ∷ qs) u a (inl l) = omega (arith, u.0, a.0)
          apart (p ∷ ps) (q ∷ qs) u a (inr l) = omega (arith, u.0, a.0, l.0)

  found_best : (n : ℕ) (before : List ℕ) (paid : ℕ) → BestOf before (paying paid before) (Goes n before) (best_from count opens rise last n before paid)
  found_best zero before paid = record { rest = []; among = tt; choices = sym (append-nil before); price = refl; least = least; first = first }
    where
      least : (qs : List ℕ) → Goes zero before qs → paying paid before [] ≤ paying paid before qs
      least [] a = omega arith
      least (p ∷ ps) a = absurd a

      first : (qs : List ℕ) → Goes zero before qs → Lower qs [] → paying paid before [] < paying paid before qs
      first [] a l = absurd l
      first (p ∷ ps) a l = absurd a
  found_best (suc n) before paid =
      same_class before (paying paid before) (UpTo n before count) (Goes (suc n) before) (cheapest_of (step n before paid) count) to from
      (up_to n before paid (λ k. found_best n (before ++ k ∷ []) (paid + rise before k)) count (omega arith))
    where
      to : (x : List ℕ) → UpTo n before count x → Goes (suc n) before x
      to [] a = absurd a
      to (p ∷ ps) a = a.1

      from : (x : List ℕ) → Goes (suc n) before x → UpTo n before count x
      from [] a = a
      from (p ∷ ps) a = (a.1, a)

  pub chosen : (n : ℕ) (r : Option Found) → r ≡ best_from count opens rise last n [] 0 → Choice count opens rise last n r
  chosen n r e = subst (Choice count opens rise last n) (sym e) (of (best_from count opens rise last n [] 0) (found_best n [] 0))
    where
      of : (o : Option Found) → BestOf [] (paying 0 []) (Goes n []) o → Choice count opens rise last n o
      of None b = b
      of (Some f) b = (
        subst (Cheapest count opens rise last n) (sym b.choices) (record { follows = b.among; least = λ qs g. omega (arith, b.least qs g); first = λ qs g l. omega (arith, b.first qs g l) }),
        omega (arith, b.price, ap (cost count opens rise last []) b.choices),
      )

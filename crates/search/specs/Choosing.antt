-- Choosing step by step, as cheaply as any choice allows.
--   count    each step chooses a number from 1 to this
--   opens    whether the next step may choose a number, after those chosen
--   rise     what that choice costs
--   last     what the whole costs besides, once all is chosen
--   before   what the steps before chose, in their order
--   ps, qs   choices of the steps from there on
use Rattle.std.specs.Prelude.{◌≡◌, ℕ, zero, suc, ◌+◌, ◌<◌, ◌≤◌, Bool, true, false, cond, ◌⊎◌, List, [], ◌∷◌, ◌++◌, Some, None, Option, nat_le, nat_lt}
use Rattle.search.specs.declared.found.Found.{Found}

-- lower at the first difference
abbrev pub Lower : List ℕ → List ℕ → Type 0
Lower [] ps = ⊥
Lower (q ∷ qs) [] = ⊥
Lower (q ∷ qs) (p ∷ ps) = (q < p) ⊎ ((q ≡ p) × Lower qs ps)

module _ (count : ℕ) (opens : List ℕ → ℕ → Bool) (rise : List ℕ → ℕ → ℕ) (last : List ℕ → ℕ) where
  -- the next n steps may choose so
  abbrev pub Follows : ℕ → List ℕ → List ℕ → Type 0
  Follows zero before [] = Unit {0}
  Follows zero before (p ∷ ps) = ⊥
  Follows (suc n) before [] = ⊥
  Follows (suc n) before (p ∷ ps) = (1 ≤ p) × (p ≤ count) × (opens before p ≡ true) × Follows n (before ++ p ∷ []) ps

  -- what these steps cost, and the end
  abbrev pub cost : List ℕ → List ℕ → ℕ
  cost before [] = last before
  cost before (p ∷ ps) = rise before p + cost (before ++ p ∷ []) ps

  -- no other choice costs less, and none that is lower as little
  pub record Cheapest (n : ℕ) (ps : List ℕ) : Type 0 where
    pub follows : Follows n [] ps
    pub least : (qs : List ℕ) → Follows n [] qs → cost [] ps ≤ cost [] qs
    pub first : (qs : List ℕ) → Follows n [] qs → Lower qs ps → cost [] ps < cost [] qs

  -- none where nothing can be chosen
  abbrev pub Choice : ℕ → Option Found → Type 0
  Choice n None = (qs : List ℕ) → Follows n [] qs → ⊥
  Choice n (Some f) = Cheapest n f.choices × (f.price ≡ cost [] f.choices)

-- How it is found.

-- the cheaper of two, and the first of two that cost the same
abbrev pub cheaper : Option Found → Option Found → Option Found
cheaper None next = next
cheaper (Some a) None = Some a
cheaper (Some a) (Some b) = cond (nat_lt b.price a.price) (Some b) (Some a)

-- one is found that costs no more
abbrev pub no_dearer : Option Found → ℕ → Bool
no_dearer None paid = false
no_dearer (Some a) paid = nat_le a.price paid

-- the cheapest of f 1, f 2, ..., f n
abbrev pub cheapest_of : (ℕ → Option Found) → ℕ → Option Found
cheapest_of f zero = None
cheapest_of f (suc n) = cheaper (cheapest_of f n) (f (suc n))

module _ (count : ℕ) (opens : List ℕ → ℕ → Bool) (rise : List ℕ → ℕ → ℕ) (last : List ℕ → ℕ) where
  -- if the next step may choose p, what the rest makes of it
  abbrev pub through : (List ℕ → ℕ → Option Found) → List ℕ → ℕ → ℕ → Option Found
  through rest before paid p = cond (opens before p) (rest (before ++ p ∷ []) (paid + rise before p)) None

  -- after steps that cost so much, the cheapest way to go on by n more
  abbrev pub best_from : ℕ → List ℕ → ℕ → Option Found
  best_from zero before paid = Some (record { price = paid + last before; choices = before })
  best_from (suc n) before paid = cheapest_of (through (best_from n) before paid) count

-- The cheaper of two, and what a bound leaves.
use Rattle.std.proofs.Common.{◌≡◌, ℕ, zero, suc, ◌+◌, ◌-◌, ◌≤◌, Bool, true, false, cond, ltb, List, [], ◌∷◌, ◌++◌, Some, None, Option, sym, refl, ap, ◌∙◌, subst, inl, inr, arith}
use Rattle.std.proofs.lemmas.Bool.{false≢true, cases_lt, leb-true, lt-ltb, le-ltb}
use Rattle.search.specs.declared.found.Found.{Found}
use Rattle.search.specs.Choosing.{cheaper, no_dearer, cheapest_of, through, best_from}

pub alone : (a : Option Found) → cheaper a None ≡ a
alone None = refl
alone (Some a) = refl

abbrev pub AtLeast : ℕ → Option Found → Type 0
AtLeast p None = Unit {0}
AtLeast p (Some f) = p ≤ f.price

pub kept : (best next : Option Found) (p : ℕ) → no_dearer best p ≡ true → AtLeast p next → best ≡ cheaper best next
kept None next p h l = absurd (false≢true h)
kept (Some a) None p h l = refl
kept (Some a) (Some b) p h l = let e = le-ltb b.price a.price (omega (arith, leb-true a.price p h)) in rw e refl

both_least : (p : ℕ) (a b : Option Found) → AtLeast p a → AtLeast p b → AtLeast p (cheaper a b)
both_least p None b x y = y
both_least p (Some a) None x y = x
both_least p (Some a) (Some b) x y = by (ltb b.price a.price)
  where
    by : (t : Bool) → AtLeast p (cond t (Some b) (Some a))
    by true = y
    by false = x

cheaper_assoc : (a b c : Option Found) → cheaper (cheaper a b) c ≡ cheaper a (cheaper b c)
cheaper_assoc None b c = refl
cheaper_assoc (Some a) None c = refl
cheaper_assoc (Some a) (Some b) None = alone (cheaper (Some a) (Some b))
cheaper_assoc (Some a) (Some b) (Some c) =
    elim (cases_lt b.price a.price) [
      | inl ba ↦ elim (cases_lt c.price b.price) [
        | inl cb ↦ rw (lt-ltb b.price a.price ba, lt-ltb c.price b.price cb, lt-ltb c.price a.price (omega arith)) refl
        | inr bc ↦ rw (lt-ltb b.price a.price ba, le-ltb c.price b.price bc, lt-ltb b.price a.price ba) refl
      ]
      | inr ab ↦ elim (cases_lt c.price b.price) [
        | inl cb ↦ rw (le-ltb b.price a.price ab, lt-ltb c.price b.price cb) refl
        | inr bc ↦ rw (le-ltb b.price a.price ab, le-ltb c.price b.price bc, le-ltb c.price a.price (omega arith), le-ltb b.price a.price ab) refl
      ]
    ]

turned : (f : ℕ → Option Found) (k : ℕ) (old now new : Option Found) → now ≡ cheaper old (cheapest_of f k) → new ≡ cheaper now (f (k + 1)) → new ≡ cheaper old (cheapest_of f (k + 1))
turned f k old now new was is =
    let n : k + 1 ≡ suc k = omega arith in
    is ∙ ap (λ x. cheaper x (f (k + 1))) was ∙ cheaper_assoc old (cheapest_of f k) (f (k + 1)) ∙ subst (λ i. cheaper old (cheaper (cheapest_of f k) (f i)) ≡ cheaper old (cheapest_of f i)) (sym n) refl

module _ (count : ℕ) (opens : List ℕ → ℕ → Bool) (rise : List ℕ → ℕ → ℕ) (last : List ℕ → ℕ) where
  -- nothing that goes on from there costs less than what is paid
  all_least : (f : ℕ → Option Found) (p n : ℕ) → ((k : ℕ) → AtLeast p (f k)) → AtLeast p (cheapest_of f n)
  all_least f p zero h = tt
  all_least f p (suc n) h = both_least p (cheapest_of f n) (f (suc n)) (all_least f p n h) (h (suc n))

  weaker : (o : Option Found) (p q : ℕ) → p ≤ q → AtLeast q o → AtLeast p o
  weaker None p q h l = tt
  weaker (Some a) p q h l = omega arith

  pub at_least : (n : ℕ) (before : List ℕ) (paid : ℕ) → AtLeast paid (best_from count opens rise last n before paid)
  at_least zero before paid = omega arith
  at_least (suc n) before paid = all_least (through count opens rise last (best_from count opens rise last n) before paid) paid count (λ k. by k (opens before k) (at_least n (before ++ k ∷ []) (paid + rise before k)))
    where
      by : (k : ℕ) (t : Bool) → AtLeast (paid + rise before k) (best_from count opens rise last n (before ++ k ∷ []) (paid + rise before k))
          → AtLeast paid (cond t (best_from count opens rise last n (before ++ k ∷ []) (paid + rise before k)) None)
      by k true l = weaker (best_from count opens rise last n (before ++ k ∷ []) (paid + rise before k)) paid (paid + rise before k) (omega arith) l
      by k false l = tt

  module _ (n : ℕ) (before : List ℕ) (paid : ℕ) where
    abbrev pub next : ℕ → Option Found
    next = through count opens rise last (best_from count opens rise last n) before paid

    pub opened : (k q : ℕ) (all : List ℕ) (old now new : Option Found) → true ≡ opens before (k + 1) → all ≡ before ++ (k + 1) ∷ [] → q ≡ rise before (k + 1) → new ≡ cheaper now (best_from count opens rise last n all (paid + q))
        → now ≡ cheaper old (cheapest_of next k) → new ≡ cheaper old (cheapest_of next (k + 1))
    opened k q all old now new free a r is was =
        let p = k + 1 in
        let e : best_from count opens rise last n all (paid + q) ≡ next p = ap (λ x. best_from count opens rise last n x (paid + q)) a ∙ ap (λ x. best_from count opens rise last n (before ++ p ∷ []) (paid + x)) r ∙ ap (λ t. cond t (best_from count opens rise last n (before ++ p ∷ []) (paid + rise before p)) None) free in
        turned next k old now new was (is ∙ ap (cheaper now) e)

    pub closed : (k : ℕ) (old now new : Option Found) → false ≡ opens before (k + 1) → new ≡ now → now ≡ cheaper old (cheapest_of next k) → new ≡ cheaper old (cheapest_of next (k + 1))
    closed k old now new shut is was =
        let p = k + 1 in
        let e : None ≡ next p = ap (λ t. cond t (best_from count opens rise last n (before ++ p ∷ []) (paid + rise before p)) None) shut in
        turned next k old now new was (is ∙ sym (alone now) ∙ ap (cheaper now) e)

  pub whole : (n : ℕ) (before : List ℕ) (paid : ℕ) (old now : Option Found) → (n ≡ 0 → ⊥) → now ≡ cheaper old (cheapest_of (next (n - 1) before paid) count) → now ≡ cheaper old (best_from count opens rise last n before paid)
  whole zero before paid old now some h = absurd (some refl)
  whole (suc n) before paid old now some h = let m : suc n - 1 ≡ n = omega arith in h ∙ ap (λ i. cheaper old (cheapest_of (next i before paid) count)) m

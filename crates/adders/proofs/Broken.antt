-- The first of some rules that is broken.
use Rattle.std.proofs.Common.{◌≡◌, ℕ, Bool, true, false, cond, List, [], ◌∷◌, ◌++◌, is_some, Some, None, Option, sym, refl, ap, ◌∙◌, arith}
use Rattle.std.proofs.lemmas.Bool.{false≢true}
use Rattle.adders.specs.declared.refusals.Refusal.{Refusal}
use Rattle.adders.specs.Rules.{Rule, first_broken}

abbrev pub otherwise : Option Refusal → Option Refusal → Option Refusal
otherwise (Some r) s = Some r
otherwise None s = s

pub broken_append : (rs ss : List Rule) → first_broken (rs ++ ss) ≡ otherwise (first_broken rs) (first_broken ss)
broken_append [] ss = refl
broken_append (r ∷ rs) ss = by_first r.holds (broken_append rs ss)
  where
    by_first : (b : Bool) → first_broken (rs ++ ss) ≡ otherwise (first_broken rs) (first_broken ss) → cond b (first_broken (rs ++ ss)) (Some r.refusal) ≡ otherwise (cond b (first_broken rs) (Some r.refusal)) (first_broken ss)
    by_first true e = e
    by_first false e = refl

-- the first rules are broken, or hold
pub broken_first : (rs ss : List Rule) (r : Refusal) → first_broken rs ≡ Some r → first_broken (rs ++ ss) ≡ Some r
broken_first rs ss r h = broken_append rs ss ∙ ap (λ o. otherwise o (first_broken ss)) h

pub broken_rest : (rs ss : List Rule) → first_broken rs ≡ None → first_broken (rs ++ ss) ≡ first_broken ss
broken_rest rs ss h = broken_append rs ss ∙ ap (λ o. otherwise o (first_broken ss)) h

pub some_none : {A : Type 0} {x : A} → Some x ≡ None → ⊥
some_none e = let z : ◌≡◌ {A = ℕ} 0 1 = cc in omega arith

pub none_from : (o : Option Refusal) → is_some o ≡ false → o ≡ None
none_from None h = refl
none_from (Some r) h = absurd (false≢true (sym h))

otherwise_none : (o p : Option Refusal) → otherwise o p ≡ None → (o ≡ None) × (p ≡ None)
otherwise_none None p h = (refl, h)
otherwise_none (Some r) p h = absurd (some_none h)

-- no rule of two lists is broken exactly if none of either is
pub whole_parts : (rs ss : List Rule) → first_broken (rs ++ ss) ≡ None → (first_broken rs ≡ None) × (first_broken ss ≡ None)
whole_parts rs ss h = otherwise_none (first_broken rs) (first_broken ss) (let e = broken_append rs ss in cc)

pub whole_from : (rs ss : List Rule) → first_broken rs ≡ None → first_broken ss ≡ None → first_broken (rs ++ ss) ≡ None
whole_from rs ss h k = broken_append rs ss ∙ ap (λ o. otherwise o (first_broken ss)) h ∙ k

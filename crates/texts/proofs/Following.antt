-- The inputs that follow another, one after another.
use Rattle.std.proofs.Common.{◌≡◌, ℕ, zero, suc, ◌<◌, List, [], ◌∷◌, ◌++◌, length, Some, None, Option, sym, refl, ap, ◌∙◌, subst, append_assoc, append-nil, arith}
use Rattle.adders.specs.declared.wiring.Operand.{Operand}
use Rattle.texts.specs.declared.listing.Listing.{Listing}
use Rattle.texts.specs.Steps.{◌>>=◌, Read}
use Rattle.texts.specs.Pieces.{skip, if_next, operand_at, more_within, more_at}
use Rattle.texts.specs.Listings.{Lists, ListingRead}
use Rattle.texts.proofs.Takes.{operand_shorter, skip_shorter}

abbrev pub with_front : {A : Type 0} → List A → Read (List A) → Read (List A)
with_front done None = None
with_front done (Some os) = Some (done ++ os.0, os.1)

-- one more before those after it
abbrev pub one_more : {A : Type 0} → A × List ℕ → Read (List A) → Read (List A)
one_more o r = r >>= λ os. Some (o.0 ∷ os.0, os.1)

-- any number that is enough gives the same
enough : (n m : ℕ) (text : List ℕ) → length text < n → length text < m → more_within n text ≡ more_within m text
unfolding more_within
enough zero m text h k = absurd (omega arith)
enough (suc n) zero text h k = absurd (omega arith)
enough (suc n) (suc m) text h k = by (skip (32 ∷ []) text) refl (enough n m)
  where
    by : (o : Option (List ℕ)) → skip (32 ∷ []) text ≡ o → ((t : List ℕ) → length t < n → length t < m → more_within n t ≡ more_within m t)
        → if_next o (Some ([], text)) (λ rest. operand_at rest >>= λ o. one_more o (more_within n o.1)) ≡ if_next o (Some ([], text)) (λ rest. operand_at rest >>= λ o. one_more o (more_within m o.1))
    by None came f = refl
    by (Some rest) came f = then (operand_at rest) refl
      where
        then : (r : Read Operand) → operand_at rest ≡ r → (r >>= λ o. one_more o (more_within n o.1)) ≡ (r >>= λ o. one_more o (more_within m o.1))
        then None read = refl
        then (Some o) read =
            let s = skip_shorter (32 ∷ []) text rest came in
            let t = operand_shorter rest o read in
            ap (one_more o) (f o.1 (omega arith) (omega arith))

pub more_none : (text : List ℕ) → skip (32 ∷ []) text ≡ None → more_at text ≡ Some ([], text)
unfolding more_within
more_none text e = ap (λ o. if_next o (Some ([], text)) (λ rest. operand_at rest >>= λ o. one_more o (more_within (length text) o.1))) e

pub more_broken : (text rest : List ℕ) → skip (32 ∷ []) text ≡ Some rest → operand_at rest ≡ None → more_at text ≡ None
unfolding more_within
more_broken text rest e f =
    ap (λ o. if_next o (Some ([], text)) (λ rest. operand_at rest >>= λ o. one_more o (more_within (length text) o.1))) e ∙ ap (λ r. r >>= λ o. one_more o (more_within (length text) o.1)) f

pub more_then : (text rest : List ℕ) (o : Operand × List ℕ) → skip (32 ∷ []) text ≡ Some rest → operand_at rest ≡ Some o → more_at text ≡ one_more o (more_at o.1)
unfolding more_within
more_then text rest o e f =
    let s = skip_shorter (32 ∷ []) text rest e in
    let t = operand_shorter rest o f in
    ap (λ o. if_next o (Some ([], text)) (λ rest. operand_at rest >>= λ o. one_more o (more_within (length text) o.1))) e ∙ ap (λ r. r >>= λ o. one_more o (more_within (length text) o.1)) f
    ∙ ap (one_more o) (enough (length text) (suc (length o.1)) o.1 (omega arith) (omega arith))

-- one more turn
pub regrouped : {A : Type 0} (done : List A) (o : A × List ℕ) (r : Read (List A)) → with_front (done ++ o.0 ∷ []) r ≡ with_front done (one_more o r)
regrouped done o None = refl
regrouped done o (Some os) = ap (λ l. Some (l, os.1)) (append_assoc done (o.0 ∷ []) os.0)

pub listed_all : (l : Listing) (done : List Operand) (rest : List ℕ) (whole : Read (List Operand)) → Lists l done → with_front done (Some ([], rest)) ≡ whole → ListingRead (Some (l, rest)) whole
listed_all l done rest whole h e = subst (ListingRead (Some (l, rest))) e (subst (Lists l) (sym (append-nil done)) h, refl)

-- Inputs that are listed one after another.
use Rattle.std.proofs.Common.{◌≡◌, ◌+◌, ◌<◌, ◌≤◌, true, List, [], ◌∷◌, ◌++◌, length, Ok, Err, Result, subst, sym, ap, ◌∙◌, ⊎_elim, arith}
use Rattle.std.proofs.lemmas.List.{length-append, take_all, take-append-le, length-take, length-take-le}
use Rattle.std.proofs.lemmas.Bool.{lt-ltb, le-ltb, cases_lt, false≢true}
use Rattle.std.specs.Result.{is_err}
use Rattle.adders.specs.declared.wiring.Operand.{Operand}
use Rattle.texts.specs.declared.listing.Listing.{Listing}
use Rattle.texts.specs.Listings.{Lists}

module _ (l : Listing) (os : List Operand) (o : Operand) (h : Lists l os) where
  longer : length (os ++ o ∷ []) ≡ length os + 1
  longer = length-append os (o ∷ [])

  pub room_taken : length l.first < 16 → Lists (record { first = l.first ++ o ∷ []; more = l.more }) (os ++ o ∷ [])
  room_taken lt =
      let few : length os < 16 = short in
      record {
        first = ap (λ ys. ys ++ o ∷ []) (h.first ∙ take_all 16 os (omega arith)) ∙ sym (take_all 16 (os ++ o ∷ []) (omega (arith, longer)));
        more = h.more ∙ le-ltb 16 (length os) (omega arith) ∙ sym (le-ltb 16 (length (os ++ o ∷ [])) (omega (arith, longer)));
      }
    where
      short : length os < 16
      short = ⊎_elim (λ lt. lt) (λ ge. absurd (omega (arith, length-take-le 16 os ge, ap length h.first))) (cases_lt (length os) 16)

  pub none_left : 16 ≤ length l.first → Lists (record { first = l.first; more = true }) (os ++ o ∷ [])
  none_left ge =
      let many : 16 ≤ length os = omega (arith, length-take 16 os, ap length h.first) in
      record { first = h.first ∙ sym (take-append-le 16 os (o ∷ []) many); more = sym (lt-ltb 16 (length (os ++ o ∷ [])) (omega (arith, longer))) }

-- a push that was turned down
pub turned_down : (l : Listing) (os : List Operand) (o : Operand) (r : Result Unit Operand) (new : List Operand) → is_err r ≡ true
    → (length l.first < 16 → (r ≡ Ok tt) × (new ≡ l.first ++ o ∷ [])) → (16 ≤ length l.first → (r ≡ Err o) × (new ≡ l.first)) → Lists l os → Lists (record { first = new; more = true }) (os ++ o ∷ [])
turned_down l os o r new e room full h =
    ⊎_elim {C = Lists (record { first = new; more = true }) (os ++ o ∷ [])} (λ lt. absurd (false≢true (sym (ap is_err (room lt).0) ∙ e)))
    (λ ge. subst (λ ys. Lists (record { first = ys; more = true }) (os ++ o ∷ [])) (sym (full ge).1) (none_left l os o h ge))
    (cases_lt (length l.first) 16)

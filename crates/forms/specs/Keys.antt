-- Bytes that begin with fixed ones.
--   KeyThen key P bs      bs is the key, and P holds of what follows it
--   Along key R place bs  bs are the first bytes of the key, so many as place says, and then what follows the key, of which R holds; nothing follows a key that is not yet whole
--   Reached key R bs s    bs lead to s, where R says what leads to the scanner of what follows the key
use Rattle.std.specs.Prelude.{◌≡◌, ℕ, ◌<◌, List, [], ◌++◌, length, take}
use Rattle.std.proofs.Common.{◌≤◌, drop, sym, ap, ◌∙◌, ⊎_elim, append_assoc, append-nil}
use Rattle.std.proofs.lemmas.List.{take_all, take-append-drop}
use Rattle.std.proofs.lemmas.Bool.{cases_lt}
use Rattle.forms.specs.Breaking.{Viable}
use Rattle.forms.specs.declared.keyed.Keyed.{Keyed}

pub record KeyThen (key : List ℕ) (P : List ℕ → Type 0) (bs : List ℕ) : Type 0 where
  pub rest : List ℕ
  pub whole : bs ≡ key ++ rest
  pub holds : P rest

pub record Along (key : List ℕ) (R : List ℕ → Type 0) (place : ℕ) (bs : List ℕ) : Type 0 where
  pub rest : List ℕ
  pub whole : bs ≡ take place key ++ rest
  pub holds : R rest
  pub early : place < length key → rest ≡ []

abbrev pub Reached : {K S : Type 0} → List ℕ → (List ℕ → S → Type 0) → List ℕ → Keyed K S → Type 0
Reached key R bs keyed = Along key (λ rest. R rest keyed.scanner) keyed.place bs

module _ (key : List ℕ) (R : List ℕ → Type 0) (place : ℕ) (bs : List ℕ) where
  -- a key that is not yet whole has nothing behind it, and one that is whole stands there
  pub along_early : (read : Along key R place bs) → place < length key → bs ≡ take place key
  along_early read h = read.whole ∙ ap (λ l. take place key ++ l) (read.early h) ∙ append-nil (take place key)

  pub along_late : (read : Along key R place bs) → length key ≤ place → bs ≡ key ++ read.rest
  along_late read h = read.whole ∙ ap (λ l. l ++ read.rest) (take_all place key h)

  along_viable : (F : List ℕ → Type 0) → ((rest : List ℕ) → R rest → Viable F rest) → Along key R place bs → Viable (KeyThen key F) bs
  along_viable F goes read =
      let more = (goes read.rest read.holds).0 in
      let all = read.rest ++ more in
      let is : F all = (goes read.rest read.holds).1 in
      ⊎_elim
      (λ h.
      let joined : bs ++ (drop place key ++ all) ≡ key ++ all =
      ap (λ l. l ++ (drop place key ++ all)) (along_early read h)
      ∙ sym (append_assoc (take place key) (drop place key) all)
      ∙ ap (λ l. l ++ all) (take-append-drop place key) in
      (drop place key ++ all, record { rest = all; whole = joined; holds = is }))
      (λ h. (more, record { rest = all; whole = ap (λ l. l ++ more) (along_late read h) ∙ append_assoc key read.rest more; holds = is }))
      (cases_lt place (length key))

-- what is read of such bytes goes on to them, if what is read behind the key does
module _ {K S : Type 0} (key : List ℕ) (F : List ℕ → Type 0) (R : List ℕ → S → Type 0) (goes : (rest : List ℕ) (s : S) → R rest s → Viable F rest) where
  pub keyed_viable : (bs : List ℕ) (keyed : Keyed K S) → Reached key R bs keyed → Viable (KeyThen key F) bs
  keyed_viable bs keyed = along_viable key (λ rest. R rest keyed.scanner) keyed.place bs F (λ rest. goes rest keyed.scanner)

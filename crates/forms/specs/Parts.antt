-- Two parts with a space between them, which is the byte 32.
--   SpaceBetween P Q bs   P holds of what stands before a space in bs, and Q of what stands behind it
--   Reached F R Q bs s    bs lead to s, where R says what leads to the scanner of the first part, and Q what leads to that of the second. Before the space nothing is read of the second, and behind it the first has its form F
use Rattle.std.specs.Prelude.{◌≡◌, ℕ, List, [], ◌∷◌, ◌++◌}
use Rattle.std.proofs.Common.{sym, ap, ◌∙◌, append_assoc}
use Rattle.forms.specs.Breaking.{Viable}
use Rattle.forms.specs.declared.parted.Parted.{Parted}
use Rattle.forms.specs.declared.parted.Parted.TheVariants.{First, Second}

pub record SpaceBetween (P Q : List ℕ → Type 0) (bs : List ℕ) : Type 0 where
  pub front : List ℕ
  pub back : List ℕ
  pub whole : bs ≡ front ++ 32 ∷ back
  pub before : P front
  pub behind : Q back

abbrev pub Reached : {A B : Type 0} → (List ℕ → Type 0) → (List ℕ → A → Type 0) → (List ℕ → B → Type 0) → List ℕ → Parted A B → Type 0
Reached F R Q bs (First s t) = R bs s × Q [] t
Reached F R Q bs (Second s t) = SpaceBetween (λ x. F x × R x s) (λ y. Q y t) bs

-- what is read of two parts goes on to them, if what is read of each does
module _ {A B : Type 0} (F G : List ℕ → Type 0) (R : List ℕ → A → Type 0) (Q : List ℕ → B → Type 0) where
  pub parted_viable : ((x : List ℕ) (s : A) → R x s → Viable F x) → ((y : List ℕ) (t : B) → Q y t → Viable G y) → (bs : List ℕ) (parted : Parted A B) → Reached F R Q bs parted → Viable (SpaceBetween F G) bs
  parted_viable first second bs (First s t) reached =
      let v = first bs s reached.0 in
      let w = second [] t reached.1 in
      (v.0 ++ 32 ∷ w.0, record { front = bs ++ v.0; back = w.0; whole = sym (append_assoc bs v.0 (32 ∷ w.0)); before = v.1; behind = w.1 })
  parted_viable first second bs (Second s t) reached =
      let w = second reached.back t reached.behind in
      let joined : bs ++ w.0 ≡ reached.front ++ 32 ∷ (reached.back ++ w.0) =
      ap (λ l. l ++ w.0) reached.whole ∙ append_assoc reached.front (32 ∷ reached.back) w.0 in
      (w.0, record { front = reached.front; back = reached.back ++ w.0; whole = joined; before = reached.before.0; behind = w.1 })

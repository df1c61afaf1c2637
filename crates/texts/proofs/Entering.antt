-- The entries of a code line, one after another.
use Rattle.std.proofs.Common.{◌≡◌, ℕ, suc, ◌+◌, ◌-◌, ◌<◌, ◌≤◌, List, ◌++◌, length, take, drop, replicate, set, Some, None, Option, sym, ap, ◌∙◌, append-nil, arith}
use Rattle.std.proofs.lemmas.List.{length-set, length-take-le, take-append-drop, take_more_set}
use Rattle.adders.proofs.Places.{spare_less}
use Rattle.texts.specs.declared.selection.Selection.{Selection}
use Rattle.texts.specs.Steps.{◌>>=◌}
use Rattle.texts.specs.Pieces.{entry_at, entries_at}
use Rattle.texts.specs.Listings.{with_room}
use Rattle.texts.proofs.Following.{with_front, one_more, regrouped}

-- so many are read, and the places behind are empty
pub record Entered (count : ℕ) (text : List ℕ) (place : ℕ) (es : List (Option Selection)) (rest : List ℕ) : Type 0 where
  pub room : length es ≡ 8
  pub empty : drop place es ≡ replicate (8 - place) None
  pub whole : with_front (take place es) (entries_at (count - place) rest) ≡ entries_at count text

module _ (count : ℕ) (text : List ℕ) (place : ℕ) (es : List (Option Selection)) (rest : List ℕ) (h : Entered count text place es rest) where
  module _ (some : place < count) where
    one : entries_at (count - place) rest ≡ (entry_at rest >>= λ e. one_more e (entries_at (count - (place + 1)) e.1))
    unfolding entries_at
    one = let k : count - place ≡ suc (count - (place + 1)) = omega arith in ap (λ n. entries_at n rest) k

    pub broken : entry_at rest ≡ None → entries_at count text ≡ None
    broken e = sym h.whole ∙ ap (with_front (take place es)) (one ∙ ap (λ r. r >>= λ e. one_more e (entries_at (count - (place + 1)) e.1)) e)

    pub entered : count ≤ 8 → (e : Option Selection) (after : List ℕ) → entry_at rest ≡ Some (e, after) → Entered count text (place + 1) (set es place e) after
    entered few e after read = record {
      room = length-set es place e ∙ h.room;
      empty = spare_less es place 8 e None h.empty;
      whole = ap (λ l. with_front l (entries_at (count - (place + 1)) after)) (take_more_set es place e (omega (arith, h.room)))
          ∙ regrouped (take place es) (e, after) (entries_at (count - (place + 1)) after)
          ∙ ap (with_front (take place es)) (sym (one ∙ ap (λ r. r >>= λ e. one_more e (entries_at (count - (place + 1)) e.1)) read))
          ∙ h.whole;
    }

  pub all_entered : count ≤ place → place ≤ 8 → with_room (entries_at count text) ≡ Some (es, rest)
  unfolding entries_at
  all_entered all few =
      let none : count - place ≡ 0 = omega arith in
      let read : entries_at count text ≡ Some (take place es, rest) = sym h.whole ∙ ap (λ n. with_front (take place es) (entries_at n rest)) none ∙ ap (λ l. Some (l, rest)) (append-nil (take place es)) in
      let long : length (take place es) ≡ place = length-take-le place es (omega (arith, h.room)) in
      ap with_room read ∙ ap (λ l. Some (l, rest)) (ap (λ n. take place es ++ replicate (8 - n) None) long ∙ ap (λ l. take place es ++ l) (sym h.empty) ∙ take-append-drop place es)

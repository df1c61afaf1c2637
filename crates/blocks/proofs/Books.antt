-- The block and the plain book agree after each call.
use Rattle.std.proofs.Common.{◌≡◌, ℕ, ◌≢◌, cond, eqb, ℤ, Some, None, Ok, Err, Option, sym, refl, ap, ◌∙◌, subst, ⊎_elim}
use Rattle.std.specs.Prelude.{IfSome}
use Rattle.std.proofs.lemmas.Bool.{cases_eq, eq-eqb, ne_eqb}
use Rattle.adders.specs.declared.refusals.Refusal.{Refusal}
use Rattle.adders.specs.Rules.{first_broken}
use Rattle.adders.proofs.Broken.{otherwise, broken_append, whole_parts}
use Rattle.chains.specs.declared.model.Chain.{Chain}
use Rattle.chains.specs.Chains.{chain_constant}
use Rattle.rows.specs.declared.model.Row.{Row}
use Rattle.rows.proofs.Causes.{move_keeps_constant}
use Rattle.tables.specs.Tables.{live_rules}
use Rattle.blocks.specs.declared.model.Block.{Block}
use Rattle.blocks.specs.Blocks.{row_of, row_constant_of, constant_at, Rewritten, SameConstants}
use Rattle.blocks.specs.Calls.{Call, founding, retiring, moving, row_move_rules, Founded, Moved}
use Rattle.blocks.specs.Books.{Book, book_rules, written, unless_refused, noted, Tells, StepsFollowBook}

-- the book has the causes of a code that the block has
same_live : (k : Book) (b : Block) → Tells k b → (code : ℕ) → first_broken (live_rules code (k.entries code)) ≡ first_broken (live_rules code (row_of b code))
same_live k b t code = ap (λ o. first_broken (live_rules code o)) (sym (t.constants code)) ∙ by (row_of b code)
  where
    by : (o : Option Row) → first_broken (live_rules code (row_constant_of o)) ≡ first_broken (live_rules code o)
    by None = refl
    by (Some r) = refl

-- a call without a cause is noted, one with a cause is not
noted_then : (k : Book) (call : Call) (b : Block) → first_broken (book_rules k call) ≡ None → Tells (written k call) b → Tells (noted k call) b
noted_then k call b e t = subst (λ o. Tells (unless_refused o (written k call) k) b) (sym e) t

kept_then : (k : Book) (call : Call) (e : Refusal) (b after : Block) → first_broken (book_rules k call) ≡ Some e → after ≡ b → Tells k b → Tells (noted k call) after
kept_then k call e b after h same t = subst (λ o. Tells (unless_refused o (written k call) k) after) (sym h) (subst (Tells k) (sym same) t)

-- one entry is written
pub entry : (code : ℕ) (f g : ℕ → Option ℕ) (o : Option ℕ) → f code ≡ o → ((j : ℕ) → j ≢ code → f j ≡ g j) → (j : ℕ) → f j ≡ cond (eqb j code) o (g j)
entry code f g o here others j =
    ⊎_elim
    (λ e. ap f e ∙ here ∙ ap (λ b. cond b o (g j)) (sym (eq-eqb j code e)))
    (λ ne. others j ne ∙ ap (λ b. cond b o (g j)) (sym (ne_eqb j code ne)))
    (cases_eq j code)

founded_told : (k : Book) (c : Chain) (code w : ℕ) (after : Block) → Founded c code w after → Tells (written k (founding c code w)) after
founded_told k c code w after f = record {
  adders = f.adders;
  constants = entry code (constant_at after) (λ j. None) (Some (chain_constant c)) (ap row_constant_of f.there ∙ ap Some f.constant) (λ j ne. ap row_constant_of (f.others j ne));
}

retired_told : (k : Book) (b : Block) (code : ℕ) (after : Block) → Tells k b → Rewritten b code None after → Tells (written k (retiring code)) after
retired_told k b code after t f = record {
  adders = f.adders ∙ t.adders;
  constants = entry code (constant_at after) k.entries None (ap row_constant_of f.there) (λ j ne. ap row_constant_of (f.others j ne) ∙ t.constants j);
}

-- Moving.

pub same_constants : (b after : Block) (code a : ℕ) (z : ℤ) → first_broken (row_move_rules (row_of b code) a z) ≡ None → Moved b code a z after → SameConstants b after
same_constants b after code a z h m k =
    ⊎_elim
    (λ e.
    ap (λ j. constant_at after j) e
    ∙ ap row_constant_of m.rest.there
    ∙ ap Some (move_keeps_constant m.before m.row a z (sym (ap (λ o. first_broken (row_move_rules o a z)) m.was) ∙ h) m.moved)
    ∙ sym (ap row_constant_of m.was)
    ∙ sym (ap (λ j. constant_at b j) e))
    (λ ne. ap row_constant_of (m.rest.others k ne))
    (cases_eq k code)

no_note : (k : Book) (b : Block) (o : Option Refusal) → Tells k b → Tells (unless_refused o k k) b
no_note k b None t = t
no_note k b (Some e) t = t

-- where the causes of the code are met first, the book knows the cause
known : (o p : Option Refusal) (e : Refusal) → otherwise o p ≡ Some e → IfSome o (λ cause. cause ≡ e)
known None p e h = tt
known (Some c) p e h = cc

pub steps_follow_book : StepsFollowBook
steps_follow_book (founding c code w) b (Ok u) after s k t = (s.0, noted_then k (founding c code w) after s.0 (founded_told k c code w after s.1))
steps_follow_book (founding c code w) b (Err e) after s k t = (s.0, kept_then k (founding c code w) e b after s.0 s.1 t)
steps_follow_book (retiring code) b (Ok u) after s k t =
    let whole = same_live k b t code ∙ s.0 in
    (whole, noted_then k (retiring code) after whole (retired_told k b code after t s.1))
steps_follow_book (retiring code) b (Err e) after s k t =
    let cause = same_live k b t code ∙ s.0 in
    (cause, kept_then k (retiring code) e b after cause s.1 t)
steps_follow_book (moving code a z) b (Ok u) after s k t =
    let parts = whole_parts (live_rules code (row_of b code)) (row_move_rules (row_of b code) a z) s.0 in (
      same_live k b t code ∙ parts.0,
      no_note k after (first_broken (live_rules code (k.entries code))) (record { adders = s.1.rest.adders ∙ t.adders; constants = λ j. same_constants b after code a z parts.1 s.1 j ∙ t.constants j }),
    )
steps_follow_book (moving code a z) b (Err e) after s k t = (
  known (first_broken (live_rules code (k.entries code))) (first_broken (row_move_rules (row_of b code) a z)) e
      (ap (λ o. otherwise o (first_broken (row_move_rules (row_of b code) a z))) (same_live k b t code) ∙ sym (broken_append (live_rules code (row_of b code)) (row_move_rules (row_of b code) a z)) ∙ s.0),
  no_note k after (first_broken (live_rules code (k.entries code))) (subst (Tells k) (sym s.1) t),
)

-- The lines of a script while they are gone through.
use Rattle.std.proofs.Common.{◌≡◌, ◌≢◌, ℕ, List, [], ◌∷◌, ◌++◌, length, Ok, Err, Result, sym, refl, ap, ◌∙◌, subst, append_assoc, append-nil, arith}
use Rattle.forms.specs.Lines.{FirstLine}
use Rattle.calls.specs.declared.call.Call.{Call}
use Rattle.calls.specs.declared.call.Unread.{Unread}
use Rattle.calls.specs.Form.{SuppliedList, Reading}
use Rattle.replay.specs.Scripts.{ScriptLines, done, next, calls_in}

abbrev Line : Type 0
Line = Result (Call SuppliedList) Unread

-- what was read, put before whatever is read of the rest, is what is read of the whole
abbrev pub Joins : List ℕ → List ℕ → List Line → Type 0
Joins text rest read = (rs : List Line) → ScriptLines rest rs → ScriptLines text (read ++ rs)

pub joins_more : (text rest line after : List ℕ) (read : List Line) (r : Line) → Joins text rest read → length rest ≢ 0 → FirstLine rest line after → Reading line r → Joins text after (read ++ r ∷ [])
joins_more text rest line after read r joins some first reads rs l = subst (ScriptLines text) (sym (append_assoc read (r ∷ []) rs)) (joins (r ∷ rs) (by rest some first))
  where
    by : (xs : List ℕ) → length xs ≢ 0 → FirstLine xs line after → ScriptLines xs (r ∷ rs)
    by [] h f = absurd (h refl)
    by (x ∷ xs) h f = next f reads l

pub joined : (text rest : List ℕ) (read : List Line) → Joins text rest read → length rest ≡ 0 → ScriptLines text read
joined text [] read joins none = subst (ScriptLines text) (append-nil read) (joins [] done)
joined text (x ∷ xs) read joins none = absurd (omega arith)

pub calls_more : (read : List Line) (r : Line) → calls_in (read ++ r ∷ []) ≡ calls_in read ++ calls_in (r ∷ [])
calls_more [] (Ok call) = refl
calls_more [] (Err e) = refl
calls_more (Ok call ∷ read) r = ap (λ l. call ∷ l) (calls_more read r)
calls_more (Err e ∷ read) r = calls_more read r

module _ (read all : List Line) (r : Line) (pushed : all ≡ read ++ r ∷ []) (calls new : List (Call SuppliedList)) (so_far : calls ≡ calls_in read) where
  pub one_call : (call : Call SuppliedList) → r ≡ Ok call → new ≡ calls ++ call ∷ [] → new ≡ calls_in all
  one_call call e is = is ∙ (λ i. so_far i ++ calls_in (sym e i ∷ [])) ∙ sym (ap calls_in pushed ∙ calls_more read r)

  pub no_call : (e : Unread) → r ≡ Err e → new ≡ calls → new ≡ calls_in all
  no_call e is same = same ∙ sym (append-nil calls) ∙ (λ i. so_far i ++ calls_in (sym is i ∷ [])) ∙ sym (ap calls_in pushed ∙ calls_more read r)

-- The lines of chains while they are gone through.
use Rattle.std.proofs.Common.{◌≡◌, ◌≢◌, ℕ, suc, ◌+◌, List, [], ◌∷◌, ◌++◌, length, Some, None, Ok, Err, Option, sym, refl, ap, ◌∙◌, subst, append_assoc, append-nil, arith}
use Rattle.adders.specs.declared.refusals.Refusal.{Refusal}
use Rattle.forms.specs.Lines.{FirstLine}
use Rattle.chains.specs.declared.model.Chain.{Chain}
use Rattle.chains.specs.Chains.{Reading}
use Rattle.prices.specs.declared.count.CountList.{CountList}
use Rattle.calls.specs.declared.call.Call.{Call}
use Rattle.fusegen.specs.Scripts.{ChainLines, last, more, turned_down, call_at, calls_from}

-- what was read, put before whatever is read of the rest, is what is read of the whole
pub record Going (w : ℕ) (text rest : List ℕ) (calls : List (Call CountList)) : Type 0 where
  pub done : List Chain
  pub made : calls ≡ calls_from w 0 done
  pub joins : (cs : List Chain) (stop : Option Refusal) → ChainLines rest cs stop → ChainLines text (done ++ cs) stop

pub started : (w : ℕ) (text : List ℕ) → Going w text text []
started w text = record { done = []; made = refl; joins = λ cs stop l. l }

length_calls : (w code : ℕ) (cs : List Chain) → length (calls_from w code cs) ≡ length cs
length_calls w code [] = refl
length_calls w code (c ∷ cs) = ap suc (length_calls w (suc code) cs)

one_call_more : (w code : ℕ) (cs : List Chain) (c : Chain) → calls_from w code (cs ++ c ∷ []) ≡ calls_from w code cs ++ call_at w (code + length cs) c ∷ []
one_call_more w code [] c = ap (λ k. call_at w k c ∷ []) (let e : code ≡ code + 0 = omega arith in e)
one_call_more w code (d ∷ cs) c =
    ap (λ l. call_at w code d ∷ l) (one_call_more w (suc code) cs c)
    ∙ ap (λ k. call_at w code d ∷ (calls_from w (suc code) cs ++ call_at w k c ∷ [])) (let e : suc code + length cs ≡ code + suc (length cs) = omega arith in e)

module _ (w : ℕ) (text rest line after : List ℕ) (calls new : List (Call CountList)) (g : Going w text rest calls) (first : FirstLine rest line after) where
  module _ (c : Chain) (reads : Reading line (Ok c)) (pushed : new ≡ calls ++ call_at w (length calls) c ∷ []) where
    made_more : new ≡ calls_from w 0 (g.done ++ c ∷ [])
    made_more =
        let size : length calls ≡ 0 + length g.done = omega (arith, ap length g.made, length_calls w 0 g.done) in
        pushed ∙ (λ i. g.made i ++ call_at w (size i) c ∷ []) ∙ sym (one_call_more w 0 g.done c)

    pub goes_on : length after ≢ 0 → Going w text after new
    goes_on some = record {
      done = g.done ++ c ∷ [];
      made = made_more;
      joins = λ cs stop l. subst (λ ds. ChainLines text ds stop) (sym (append_assoc g.done (c ∷ []) cs)) (g.joins (c ∷ cs) stop (by after some first cs stop l));
    }
      where
        by : (xs : List ℕ) → length xs ≢ 0 → FirstLine rest line xs → (cs : List Chain) (stop : Option Refusal) → ChainLines xs cs stop → ChainLines rest (c ∷ cs) stop
        by [] h f cs stop l = absurd (h refl)
        by (x ∷ xs) h f cs stop l = more f reads l

    pub ends : length after ≡ 0 → (cs : List Chain) × ChainLines text cs None × (new ≡ calls_from w 0 cs)
    ends none = (g.done ++ c ∷ [], g.joins (c ∷ []) None (by after none first), made_more)
      where
        by : (xs : List ℕ) → length xs ≡ 0 → FirstLine rest line xs → ChainLines rest (c ∷ []) None
        by [] h f = last f reads
        by (x ∷ xs) h f = absurd (omega arith)

  pub stops : (e : Refusal) → Reading line (Err e) → (cs : List Chain) × ChainLines text cs (Some e) × (calls ≡ calls_from w 0 cs)
  stops e reads = (g.done, subst (λ ds. ChainLines text ds (Some e)) (append-nil g.done) (g.joins [] (Some e) (turned_down first reads)), g.made)

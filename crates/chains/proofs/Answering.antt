-- What reading or making a chain answers, and that it answers nothing else.
use Rattle.std.proofs.Common.{◌≡◌, ℕ, ◌+◌, ◌<◌, ◌≤◌, ◌&&◌, leb, List, length, get_or, take, is_ok, IfOk, Some, None, Ok, Err, Decides, Option, Result, sym, refl, ap, ◌∙◌, subst, subst₂, ⊎_elim, arith}
use denote.Struct.Record.{values_one}
use Rattle.std.specs.Coded.{coded_list}
use Rattle.std.proofs.lemmas.List.{get_or-take, length-map, length-take-le, take_all}
use Rattle.std.proofs.lemmas.Bool.{cases_lt, cond-true, and_from, le-leb, false≢true}
use Rattle.adders.specs.contracts.wiring.Adder as adder
use Rattle.adders.specs.declared.wiring.Adder.{Adder}
use Rattle.adders.specs.declared.refusals.Refusal.{Refusal}
use Rattle.adders.specs.declared.refusals.Refusal.TheVariants.{BrokenForm}
use Rattle.adders.specs.Values.{sample, value, values_from, wired}
use Rattle.adders.specs.Rules.{first_broken}
use Rattle.adders.proofs.Broken.{some_none, none_from}
use Rattle.adders.proofs.Follow.{within, follow}
use Rattle.adders.proofs.Sounds as sounds
use Rattle.std.specs.Prelude.{IsOk}
use Rattle.lines.proofs.Texts.{says_one}
use Rattle.lines.specs.Form.{line_text}
use Rattle.forms.proofs.Breaks.{breaks_once}
use Rattle.lines.specs.Form.{Form}
use Rattle.lines.proofs.Readings.{line_written}
use Rattle.chains.specs.contracts.model.Chain.{struct, the_propositions}
use Rattle.chains.specs.declared.model.Chain.{Chain}
use Rattle.chains.specs.Rules.{Valued, chain_rules, Keeps}
use Rattle.chains.specs.Chains.{chain_adders, adder_value_at, ShiftAndAdd, Judged, kept, broken, Reading, long, misshapen, judged, Accepted}
use Rattle.chains.proofs.Judging.{chain_crowded}
use Rattle.chains.proofs.Keeping.{keeps_from, rules_from_keeps}

-- Two chains of the same adders and output shift are the same.
pub same_chain : (c d : Chain) → chain_adders c ≡ chain_adders d → c.shift ≡ d.shift → c ≡ d
same_chain c d e f = values_one struct (the_propositions (coded_list (adder.the_row).coded)) c d (λ i. (e i, (f i, tt)))

-- the rules that a chain keeps, as they are tried
pub unbroken : (c : Chain) → first_broken (chain_rules (chain_adders c) c.shift) ≡ None
unbroken c = none_from _ c.lawful

pub chain_keeps : (c : Chain) → Keeps (chain_adders c) c.shift
chain_keeps c = keeps_from (chain_adders c) c.shift (unbroken c)

-- the values of a chain are told, and its constant
pub valued_ok : (c : Chain) (r : Result (List ℕ) Refusal) → Valued (chain_adders c) r → IsOk r
valued_ok c (Ok at) v = refl
valued_ok c (Err e) v = absurd (some_none (sym v ∙ (sounds.say (wired (chain_adders c))).1 (chain_keeps c).adders))

-- an adder of the chain has a value
value_there : (c : Chain) (j : ℕ) → 1 ≤ j → j ≤ length (chain_adders c) → adder_value_at c j ≡ Some (value (wired (chain_adders c)) j)
value_there c j low high = cond-true (leb 1 j && leb j (length (chain_adders c))) (Some (value (wired (chain_adders c)) j)) None (and_from (leb 1 j) (leb j (length (chain_adders c))) (le-leb 1 j low) (le-leb j (length (chain_adders c)) high))

-- the value of an adder, from the values at of all
pub value_listed : (c : Chain) (xs : List Adder) (at : List ℕ) (j : ℕ) → xs ≡ chain_adders c → take (length xs + 1) at ≡ values_from sample (wired xs) → 1 ≤ j → j ≤ length (chain_adders c) → Some (get_or at j 0) ≡ adder_value_at c j
value_listed c xs at j e all low high =
    let n = ap length e in
    ap Some (sym (get_or-take (length xs + 1) at j 0 (omega arith)) ∙ ap (λ l. get_or l j 0) all ∙ ap (λ ys. value (wired ys) j) e) ∙ sym (value_there c j low high)

-- the clauses of `Chain::value`
pub told_value : (c : Chain) (j : ℕ) (v : Option ℕ) → v ≡ adder_value_at c j → record { value : v ≡ adder_value_at c j; rule : ShiftAndAdd c j v }
told_value c j v e = record {
  value = e;
  rule = λ k a up there.
      let xs = chain_adders c in
      let m = length-map xs Some in
      let inside = within (wired xs) k a there in
      let s = (chain_keeps c).adders k a there in
      e ∙ value_there c j (omega arith) (omega arith) ∙ ap (λ i. Some (value (wired xs) i)) up ∙ ap Some (follow.adder_is (wired xs) k a there (omega (arith, s.left.lower)) (omega (arith, s.right.lower)));
}

-- Making a chain answers one thing.

module _ {xs : List Adder} {out : ℕ} where
  pub judged_one : {r s : Result Chain Refusal} → Judged xs out r → Judged xs out s → s ≡ r
  judged_one (kept {c = c} h e f) (kept {c = d} k g i) = ap Ok (same_chain d c (g ∙ sym e) (i ∙ sym f))
  judged_one (kept h e f) (broken k) = absurd (some_none (sym k ∙ h))
  judged_one (broken h) (kept k g i) = absurd (some_none (sym h ∙ k))
  judged_one (broken h) (broken k) = let e = sym k ∙ h in cc

  pub judged_exactly : {r : Result Chain Refusal} → Judged xs out r → Decides (is_ok r) (Keeps xs out)
  judged_exactly (kept h e f) = (λ _. keeps_from xs out h, λ _. refl)
  judged_exactly (broken h) = (λ e. absurd (false≢true e), λ k. absurd (some_none (sym h ∙ rules_from_keeps xs out k)))

  -- the clauses of `Chain::new`
  pub told_new : {r : Result Chain Refusal} → Judged xs out r → record { answer : Judged xs out r; only : (s : Result Chain Refusal) → Judged xs out s → s ≡ r; exactly : Decides (is_ok r) (Keeps xs out) }
  told_new j = record { answer = j; only = λ s. judged_one j; exactly = judged_exactly j }

-- the first nine adders tell as much of a line as all
pub from_nine : (xs : List Adder) (out : ℕ) {r : Result Chain Refusal} → Judged (take 9 xs) out r → Judged xs out r
from_nine xs out {r} j = ⊎_elim (λ many. crowded many j) (λ few. subst (λ ys. Judged ys out r) (take_all 9 xs few) j) (cases_lt 9 (length xs))
  where
    crowded : {s : Result Chain Refusal} → 9 < length xs → Judged (take 9 xs) out s → Judged xs out s
    crowded many (kept h e f) = let nine = length-take-le 9 xs (omega arith) in absurd (some_none (sym (chain_crowded (take 9 xs) out (omega arith)) ∙ h))
    crowded many (broken h) = let nine = length-take-le 9 xs (omega arith) in broken (chain_crowded xs out (omega arith) ∙ sym (chain_crowded (take 9 xs) out (omega arith)) ∙ h)

-- Reading a line answers one thing.

module _ {bs : List ℕ} where
  pub reading_one : {r s : Result Chain Refusal} → Reading bs r → Reading bs s → s ≡ r
  reading_one (long h) (long k) = refl
  reading_one (long h) (misshapen k b) = absurd (omega arith)
  reading_one (long h) (judged k l j) = absurd (omega arith)
  reading_one (misshapen h b) (long k) = absurd (omega arith)
  reading_one (misshapen {i = i} h b) (misshapen {i = n} k d) = ap (λ p. Err (BrokenForm p)) (breaks_once Form bs n i d b)
  reading_one (misshapen h b) (judged {xs = xs} {out = out} k l j) = absurd (b.broken (xs, out, l))
  reading_one (judged h l j) (long k) = absurd (omega arith)
  reading_one (judged {xs = xs} {out = out} h l j) (misshapen k b) = absurd (b.broken (xs, out, l))
  reading_one (judged {xs = xs} {out = out} h l j) (judged {xs = ys} {out = n} {r = s} k m i) =
      let e = says_one m l in
      judged_one j (subst₂ (λ zs o. Judged zs o s) e.0 e.1 i)

  pub reading_exactly : {r : Result Chain Refusal} → Reading bs r → Decides (is_ok r) (Accepted bs)
  reading_exactly (long h) = (λ e. absurd (false≢true e), λ a. let s = a.short in absurd (omega arith))
  reading_exactly (misshapen h b) = (λ e. absurd (false≢true e), λ a. absurd (b.broken (a.adders, a.out, a.line)))
  reading_exactly (judged {xs = xs} {out = out} h l j) =
      let d = judged_exactly j in (
        λ e. record { short = h; adders = xs; out = out; line = l; keeps = d.0 e },
        λ a. let e = says_one a.line l in d.1 (subst₂ Keeps e.0 e.1 a.keeps),
      )

  pub reading_again : {r : Result Chain Refusal} → Reading bs r → IfOk r (λ c. bs ≡ line_text (chain_adders c) c.shift)
  reading_again (long h) = tt
  reading_again (misshapen h b) = tt
  reading_again (judged h l (kept {c = c} k e f)) = line_written l ∙ (λ i. line_text (sym e i) (sym f i))
  reading_again (judged h l (broken k)) = tt

  -- the clauses of `Chain::read`
  pub told_read : {r : Result Chain Refusal} → Reading bs r → record {
    answer : Reading bs r;
    only : (s : Result Chain Refusal) → Reading bs s → s ≡ r;
    exactly : Decides (is_ok r) (Accepted bs);
    again : IfOk r (λ c. bs ≡ line_text (chain_adders c) c.shift);
  }
  told_read a = record { answer = a; only = λ s. reading_one a; exactly = reading_exactly a; again = reading_again a }

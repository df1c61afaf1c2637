-- The rules of a chain, tried in their order, against what a chain has to keep.
use Rattle.std.proofs.Common.{◌≡◌, ℕ, zero, suc, ◌+◌, ◌-◌, ◌*◌, ◌^◌, ◌<◌, ◌≤◌, Bool, true, false, cond, eqb, leb, List, [], ◌∷◌, ◌++◌, length, get_or, drop, Some, None, sym, refl, ap, ◌∙◌, inl, inr, ⊎_elim, arith}
use Rattle.std.proofs.lemmas.List.{drop-map, get_or-drop}
use Rattle.std.proofs.lemmas.Bool.{or_cases, or_left, or_right, eqb-true, eq-eqb, cases_order}
use Rattle.std.proofs.lemmas.Bool.Decides.{nat_tests}
use Rattle.adders.specs.declared.wiring.Adder.{Adder}
use Rattle.adders.specs.declared.refusals.Refusal.TheVariants.{TooManyAdders, AdderUnread}
use Rattle.adders.specs.Values.{sample, value, wired, reads}
use Rattle.adders.specs.Rules.{Rule, rule, first_broken, rules_from, output_rules, InRange}
use Rattle.adders.proofs.Broken.{some_none, whole_parts, whole_from}
use Rattle.adders.proofs.Sounds as sounds
use Rattle.chains.specs.Rules.{some_reads, read_rules_from, read_rules, chain_rules, ReadLater, Keeps}
use Rattle.chains.proofs.Judging.{all_read}

output_keeps : (v out : ℕ) → first_broken (output_rules v out) ≡ None → (out ≤ 30) × InRange (v * 2 ^ out)
output_keeps v out h = (grind (arith, nat_tests), grind (arith, nat_tests))

output_from : (v out : ℕ) → out ≤ 30 → InRange (v * 2 ^ out) → first_broken (output_rules v out) ≡ None
output_from v out a b = grind (arith, nat_tests)

-- one rule alone
abbrev crowded : List Adder → List Rule
crowded xs = rule (leb (length xs) 8) TooManyAdders ∷ []

few_from : (xs : List Adder) → first_broken (crowded xs) ≡ None → length xs ≤ 8
few_from xs h = grind (arith, nat_tests)

few_rule : (xs : List Adder) → length xs ≤ 8 → first_broken (crowded xs) ≡ None
few_rule xs h = grind (arith, nat_tests)

-- an adder that reads j stands at this place
record Reader (ys : List Adder) (j : ℕ) : Type 0 where
  place : ℕ
  reader : Adder
  there : get_or (wired ys) place None ≡ Some reader
  reads_it : reads j reader ≡ true

reader_of : (ys : List Adder) (j : ℕ) → some_reads j ys ≡ true → Reader ys j
reader_of [] j h = let z : ◌≡◌ {A = ℕ} 0 1 = cc in absurd (omega arith)
reader_of (a ∷ ys) j h =
    ⊎_elim (λ e. record { place = 0; reader = a; there = refl; reads_it = e })
    (λ e. let r = reader_of ys j e in record { place = suc r.place; reader = r.reader; there = r.there; reads_it = r.reads_it })
    (or_cases (reads j a) (some_reads j ys) h)

some_none' : {a : Adder} → None ≡ Some a → ⊥
some_none' e = some_none (sym e)

reads_from : (ys : List Adder) (j p : ℕ) (a : Adder) → get_or (wired ys) p None ≡ Some a → reads j a ≡ true → some_reads j ys ≡ true
reads_from [] j p a e h = absurd (some_none' e)
reads_from (b ∷ ys) j zero a e h = let same : b ≡ a = cc in or_left (reads j b) (some_reads j ys) (ap (reads j) same ∙ h)
reads_from (b ∷ ys) j (suc p) a e h = or_right (reads j b) (some_reads j ys) (reads_from ys j p a e h)

later_place : (xs : List Adder) (j p : ℕ) → get_or (wired (drop j xs)) p None ≡ get_or (wired xs) (j + p) None
later_place xs j p = ap (λ l. get_or l p None) (sym (drop-map Some j xs)) ∙ get_or-drop j (wired xs) p None

read_later : (xs : List Adder) (j : ℕ) → some_reads j (drop j xs) ≡ true → ReadLater xs j
read_later xs j h =
    let r = reader_of (drop j xs) j h in
    record {
      place = j + r.place;
      reader = r.reader;
      later = omega arith;
      there = sym (later_place xs j r.place) ∙ r.there;
      reads_it = ⊎_elim (λ e. inl (eqb-true _ j e)) (λ e. inr (eqb-true _ j e)) (or_cases (eqb r.reader.left.source j) (eqb r.reader.right.source j) r.reads_it);
    }

later_read : (xs : List Adder) (j : ℕ) → ReadLater xs j → some_reads j (drop j xs) ≡ true
later_read xs j r =
    let up : j + (r.place - j) ≡ r.place = omega (arith, r.later) in
    let left = r.reader.left.source in
    let right = r.reader.right.source in
    reads_from (drop j xs) j (r.place - j) r.reader (later_place xs j (r.place - j) ∙ ap (λ n. get_or (wired xs) n None) up ∙ r.there)
    (⊎_elim (λ e. or_left (eqb left j) (eqb right j) (eq-eqb left j e)) (λ e. or_right (eqb left j) (eqb right j) (eq-eqb right j e)) r.reads_it)

each_read : (xs : List Adder) (j n : ℕ) → first_broken (read_rules_from xs j n) ≡ None → (k : ℕ) → j ≤ k → k < j + n → some_reads k (drop k xs) ≡ true
each_read xs j zero h k a b = absurd (omega arith)
each_read xs j (suc n) h k a b =
    let first = rule (some_reads j (drop j xs)) (AdderUnread j) in
    let parts = whole_parts (first ∷ []) (read_rules_from xs (j + 1) n) h in
    ⊎_elim (λ e. ap (λ m. some_reads m (drop m xs)) (sym e) ∙ alone (some_reads j (drop j xs)) parts.0)
    (⊎_elim (λ lt. each_read xs (j + 1) n parts.1 k (omega arith) (omega arith)) (λ gt. absurd (omega arith)))
    (cases_order j k)
  where
    alone : (b : Bool) → cond b None (Some (AdderUnread j)) ≡ None → b ≡ true
    alone true e = refl
    alone false e = absurd (some_none e)

pub keeps_from : (xs : List Adder) (out : ℕ) → first_broken (chain_rules xs out) ≡ None → Keeps xs out
keeps_from xs out h =
    let adders = rules_from sample (wired xs) in
    let output = output_rules (value (wired xs) (length xs)) out in
    let p = whole_parts (crowded xs) (adders ++ (output ++ read_rules xs)) h in
    let q = whole_parts adders (output ++ read_rules xs) p.1 in
    let r = whole_parts output (read_rules xs) q.1 in
    let o = output_keeps (value (wired xs) (length xs)) out r.0 in
    record {
      few = few_from xs p.0;
      adders = (sounds.say (wired xs)).0 q.0;
      shift = o.0;
      range = o.1;
      read = λ j a b. read_later xs j (each_read xs 1 (length xs - 1) r.1 j a (omega arith));
    }

pub rules_from_keeps : (xs : List Adder) (out : ℕ) → Keeps xs out → first_broken (chain_rules xs out) ≡ None
rules_from_keeps xs out k =
    let adders = rules_from sample (wired xs) in
    let output = output_rules (value (wired xs) (length xs)) out in
    whole_from (crowded xs) (adders ++ (output ++ read_rules xs)) (few_rule xs k.few)
    (whole_from adders (output ++ read_rules xs) ((sounds.say (wired xs)).1 k.adders)
    (whole_from output (read_rules xs) (output_from (value (wired xs) (length xs)) out k.shift k.range)
    (all_read xs 1 (length xs - 1) (λ j a b. later_read xs j (k.read j a (omega arith))))))

-- Worked lines, samples and moves: what each line says is computed, and the rules are tried on it.
use Rattle.std.proofs.Common.{◌≡◌, ℕ, ◌≤◌, Bool, true, false, cond, leb, List, ◌++◌, length, is_some, Some, None, Ok, Option, sym, refl, ap, ◌∙◌, subst, ℤ, pos, ◌*ℤ◌, arith}
use Rattle.std.proofs.lemmas.Bool.{leb-true}
use Rattle.std.proofs.lemmas.Bool.Decides.{nat_tests}
use Rattle.std.proofs.lemmas.Int.{ints}
use Rattle.adders.specs.declared.wiring.Adder.{Adder}
use Rattle.adders.specs.declared.wiring.Operand.{Operand}
use Rattle.adders.specs.declared.refusals.Refusal.{Refusal}
use Rattle.adders.specs.Refusals.{refusal_entry}
use Rattle.adders.specs.Rules.{first_broken}
use Rattle.adders.proofs.Broken.{some_none, broken_rest}
use Rattle.arith.specs.Words.{InWord, WordProduct}
use Rattle.lines.specs.Form.{Line}
use Rattle.lines.proofs.Computed.{says, says_right}
use Rattle.chains.specs.declared.model.Chain.{Chain}
use Rattle.chains.specs.Rules as rules
use Rattle.chains.specs.Rules.{chain_rules, eight_slots}
use Rattle.chains.specs.Chains.{Reading, kept, broken, judged}
use Rattle.chains.proofs.Keeping.{keeps_from}
use Rattle.rows.specs.declared.model.Row.{Row}
use Rattle.rows.specs.Rules.{row_rules}
use Rattle.rows.specs.Moving.{move_rules}
use Rattle.rows.proofs.Answering.{same_row}
use Rattle.tables.specs.Tables.{live_rules}
use Rattle.blocks.specs.declared.model.Block.{Block}
use Rattle.blocks.specs.Blocks.{row_of}
use Rattle.blocks.specs.Calls.{moving, call_rules, row_move_rules}
use Rattle.blocks.proofs.Placing.{below_sixteen}
use Rattle.worked.specs.Lines.{Answer, constant, fault, Answers, valued, refused, Sample, Gives, Multiplies, answer_of, Moves}

-- the chain of adders that break no rule
abbrev pub chain : (xs : List Adder) (out : ℕ) → first_broken (chain_rules xs out) ≡ None → Chain
chain xs out h = record { adders = xs; shift = out; few = (keeps_from xs out h).few; lawful = ap is_some h }

-- a line that says such adders is read as their chain
pub is_read : (bs : List ℕ) (xs : List Adder) (out : ℕ) → says bs ≡ Some (xs, out) → leb (length bs) 200 ≡ true → (h : first_broken (chain_rules xs out) ≡ None) → Reading bs (Ok (chain xs out h))
is_read bs xs out e short h = judged (leb-true (length bs) 200 short) (says_right bs (xs, out) e) (kept h refl refl)

-- the answer to a line that says the adders xs and the output shift out
abbrev answered : List Adder → ℕ → Option Refusal → Answer
answered xs out None = constant (rules.constant xs out)
answered xs out (Some r) = fault (refusal_entry r).number (refusal_entry r).place

abbrev by_form : Option (List Adder × ℕ) → Option Answer
by_form (Some l) = Some (answered l.0 l.1 (first_broken (chain_rules l.0 l.1)))
by_form None = None

-- the answer, as far as it is computed here: that of a line of the form
abbrev pub computed : List ℕ → Option Answer
computed bs = cond (leb (length bs) 200) (by_form (says bs)) None

by_rules : (bs : List ℕ) → length bs ≤ 200 → (xs : List Adder) (out : ℕ) → Line xs out bs → (o : Option Refusal) → first_broken (chain_rules xs out) ≡ o → Answers bs (answered xs out o)
by_rules bs short xs out l None h = valued {c = chain xs out h} (judged short l (kept h refl refl))
by_rules bs short xs out l (Some r) h = refused (judged short l (broken h))

pub computed_right : (bs : List ℕ) (a : Answer) → computed bs ≡ Some a → Answers bs a
computed_right bs a g = by_length (leb (length bs) 200) refl g
  where
    by_what : length bs ≤ 200 → (o : Option (List Adder × ℕ)) → says bs ≡ o → by_form o ≡ Some a → Answers bs a
    by_what short (Some l) e h = subst (Answers bs) (cc h) (by_rules bs short l.0 l.1 (says_right bs l e) (first_broken (chain_rules l.0 l.1)) refl)
    by_what short None e h = absurd (some_none (sym h))

    by_length : (b : Bool) → leb (length bs) 200 ≡ b → cond b (by_form (says bs)) None ≡ Some a → Answers bs a
    by_length true e h = by_what (leb-true (length bs) 200 e) (says bs) refl h
    by_length false e h = absurd (some_none (sym h))

pub multiplied : (bs : List ℕ) (s : Sample) (n : ℕ) → computed bs ≡ Some (constant n) → Gives n s → Multiplies bs s
multiplied bs s n e g = record { number = n; reads = computed_right bs (constant n) e; gives = g }

-- a product that no wrapping touches
pub whole : (n : ℕ) (x r : ℤ) → InWord r → pos n *ℤ x ≡ r → WordProduct n x r
whole n x r h e = record { held = h; wraps = pos 0; congruent = omega (arith, ints) }

-- at a live code the causes are those of its row
at_live : (b : Block) (code a : ℕ) (z : ℤ) (r : Row) → row_of b code ≡ Some r → first_broken (call_rules (moving code a z) b) ≡ first_broken (move_rules r a z)
at_live b code a z r e =
    ap (λ o. first_broken (live_rules code o ++ row_move_rules o a z)) e
    ∙ broken_rest (live_rules code (Some r)) (move_rules r a z) (whole_rules code (below_sixteen b.table code r e))
  where
    whole_rules : (n : ℕ) → n ≤ 15 → first_broken (live_rules n (Some r)) ≡ None
    whole_rules n h = grind (arith, nat_tests)

module _ (bs : List ℕ) (a : ℕ) (z : ℤ) (answer : Answer) (xs : List Adder) (out : ℕ) (says_so : says bs ≡ Some (xs, out)) (short : leb (length bs) 200 ≡ true) (lawful_chain : first_broken (chain_rules xs out) ≡ None) where
  abbrev output : Operand
  output = record { source = length xs; shift = out }

  pub moves : (room : length (eight_slots xs) ≡ 8) (lawful : is_some (first_broken (row_rules (eight_slots xs) output)) ≡ false)
      → answer_of (first_broken (move_rules (record { slots = eight_slots xs; output = output; room = room; lawful = lawful }) a z)) ≡ answer → Moves bs a z answer
  moves room lawful told = record {
    chain = chain xs out lawful_chain;
    reads = is_read bs xs out says_so short lawful_chain;
    moves = λ code w b f.
        let row : Row = record { slots = eight_slots xs; output = output; room = room; lawful = lawful } in
        let same : f.row ≡ row = same_row f.row row f.of_chain.slots (λ i. record { source = f.of_chain.source i; shift = f.of_chain.shift i }) in
        ap answer_of (at_live b code a z f.row f.there ∙ ap (λ r. first_broken (move_rules r a z)) same) ∙ told;
  }

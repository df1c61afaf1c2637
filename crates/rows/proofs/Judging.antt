-- The rules of a row as they are met: in the sources and shifts of the adders and of the output, in the use of adders, in their ranges, in the output's.
use Rattle.std.proofs.Common.{◌≡◌, ℕ, ◌*◌, ◌^◌, List, ◌++◌, get_or, Some, None, Ok, Err, Option, Result, sym, refl, ap, ◌∙◌}
use Rattle.adders.specs.declared.wiring.Operand.{Operand}
use Rattle.adders.specs.declared.refusals.Refusal.{Refusal}
use Rattle.adders.specs.Values.{Slots, sample, value, values_from}
use Rattle.adders.specs.Rules.{first_broken, Tried, rules_from, output_rules}
use Rattle.adders.proofs.Broken.{otherwise, broken_append}
use Rattle.rows.specs.Rules.{row_constant, wiring_from, output_wiring, use_rules, row_rules}

stopped : (o p : Option Refusal) (r : Refusal) → o ≡ Some r → otherwise o p ≡ Some r
stopped o p r e = ap (λ q. otherwise q p) e

past : (o p : Option Refusal) → o ≡ None → otherwise o p ≡ p
past o p e = ap (λ q. otherwise q p) e

otherwise_assoc : (o p q : Option Refusal) → otherwise o (otherwise p q) ≡ otherwise (otherwise o p) q
otherwise_assoc None p q = refl
otherwise_assoc (Some r) p q = refl

module _ (xs : Slots) (out : Operand) where
  uses : Option Refusal
  uses = first_broken (use_rules xs out.source 1 xs)

  adders : Option Refusal
  adders = first_broken (rules_from sample xs)

  output : Option Refusal
  output = first_broken (output_rules (value xs out.source) out.shift)

  wiring : Option Refusal
  wiring = first_broken (output_wiring xs out)

  split : first_broken (row_rules xs out) ≡ otherwise (first_broken (wiring_from 1 xs)) (otherwise wiring (otherwise uses (otherwise adders output)))
  unfolding uses adders output wiring
  split =
      let held = use_rules xs out.source 1 xs in
      let range = output_rules (value xs out.source) out.shift in
      broken_append (wiring_from 1 xs) (output_wiring xs out ++ (held ++ (rules_from sample xs ++ range)))
      ∙ ap (otherwise (first_broken (wiring_from 1 xs))) (
      broken_append (output_wiring xs out) (held ++ (rules_from sample xs ++ range))
      ∙ ap (otherwise (first_broken (output_wiring xs out))) (broken_append held (rules_from sample xs ++ range) ∙ ap (otherwise (first_broken held)) (broken_append (rules_from sample xs) range)))

  -- sources and shifts of adders and output together
  pub in_wiring : (r : Refusal) → first_broken (wiring_from 1 xs ++ output_wiring xs out) ≡ Some r → first_broken (row_rules xs out) ≡ Some r
  unfolding wiring
  in_wiring r e =
      split
      ∙ otherwise_assoc (first_broken (wiring_from 1 xs)) (first_broken (output_wiring xs out)) _
      ∙ stopped (otherwise (first_broken (wiring_from 1 xs)) (first_broken (output_wiring xs out))) _ r (sym (broken_append (wiring_from 1 xs) (output_wiring xs out)) ∙ e)

  module _ (wired : first_broken (wiring_from 1 xs) ≡ None) where
    past_wiring : first_broken (row_rules xs out) ≡ otherwise wiring (otherwise uses (otherwise adders output))
    past_wiring = split ∙ past (first_broken (wiring_from 1 xs)) _ wired

    module _ (there : first_broken (output_wiring xs out) ≡ None) where
      past_output : first_broken (row_rules xs out) ≡ otherwise uses (otherwise adders output)
      unfolding wiring
      past_output = past_wiring ∙ past (first_broken (output_wiring xs out)) _ there

      pub in_use : (r : Refusal) → first_broken (use_rules xs out.source 1 xs) ≡ Some r → first_broken (row_rules xs out) ≡ Some r
      unfolding uses
      in_use r e = past_output ∙ stopped (first_broken (use_rules xs out.source 1 xs)) _ r e

      module _ (used : first_broken (use_rules xs out.source 1 xs) ≡ None) where
        past_use : first_broken (row_rules xs out) ≡ otherwise adders output
        unfolding uses
        past_use = past_output ∙ past (first_broken (use_rules xs out.source 1 xs)) _ used

        pub in_adders : (r : Refusal) → first_broken (rules_from sample xs) ≡ Some r → first_broken (row_rules xs out) ≡ Some r
        unfolding adders
        in_adders r e = past_use ∙ stopped (first_broken (rules_from sample xs)) _ r e

        -- the answer of the output, over the values at of the sources, is the row's
        pub by_output : (at : List ℕ) → first_broken (rules_from sample xs) ≡ None → at ≡ values_from sample xs → (r : Result ℕ Refusal) → Tried (output_rules (get_or at out.source 0) out.shift) (get_or at out.source 0 * 2 ^ out.shift) r → Tried (row_rules xs out) (row_constant xs out) r
        unfolding adders output
        by_output at sound same r t = by r t
          where
            is : get_or at out.source 0 ≡ value xs out.source
            is = ap (λ vs. get_or vs out.source 0) same

            last : first_broken (row_rules xs out) ≡ first_broken (output_rules (get_or at out.source 0) out.shift)
            last = past_use ∙ past (first_broken (rules_from sample xs)) _ sound ∙ ap (λ v. first_broken (output_rules v out.shift)) (sym is)

            by : (r : Result ℕ Refusal) → Tried (output_rules (get_or at out.source 0) out.shift) (get_or at out.source 0 * 2 ^ out.shift) r → Tried (row_rules xs out) (row_constant xs out) r
            by (Ok v) h = (last ∙ h.0, h.1 ∙ ap (λ n. n * 2 ^ out.shift) is)
            by (Err e) h = last ∙ h

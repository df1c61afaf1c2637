use Rattle.std.proofs.Common.{◌≡◌, ℕ, List, [], ◌∷◌, ◌++◌, None, sym, ap, ◌∙◌, arith}
use Rattle.std.specs.Prelude.{option_map}
use Rattle.adders.specs.declared.wiring.Operand.{Operand}
use Rattle.texts.specs.Pieces.{more_at}
use Rattle.texts.specs.Listings.{with_first}
use Rattle.texts.proofs.Takes.{operand_shorter, skip_shorter}
use Rattle.texts.proofs.Following.{more_none, more_broken, more_then, regrouped, listed_all, with_front}
use Rattle.texts.proofs.lists.more_inputs.Goals as goal

pub returns-in_err-next : goal.returns-in_err-next
returns-in_err-next c =
    let inv = c.loop-after.invariant in
    let broken : with_first c.args.first (more_at c.args.text.now) ≡ None =
    sym inv.2 ∙ ap (with_front inv.0) (more_broken c.loop-after.rest.now c.in-Some.after.now (sym c.skip.ensures ∙ ap (option_map (λ r. r.now)) c.in-Some.is) (sym c.in_err-next.ensures)) in
    rw (c.from_residual.ensures, broken) tt

pub loop-after-smaller : goal.loop-after-smaller
loop-after-smaller c =
    let s = skip_shorter (32 ∷ []) c.loop-after.rest.now c.in-Some.after.now (sym c.skip.ensures ∙ ap (option_map (λ r. r.now)) c.in-Some.is) in
    let t = operand_shorter c.in-Some.after.now (c.in_ok-next.next, c.in_ok-next.after.now) (sym c.in_ok-next.ensures) in
    omega arith

pub loop-after-preserved : goal.loop-after-preserved
loop-after-preserved c =
    let inv = c.loop-after.invariant in
    let next : Operand × List ℕ = (c.in_ok-next.next, c.in_ok-next.after.now) in
    let more = more_then c.loop-after.rest.now c.in-Some.after.now next (sym c.skip.ensures ∙ ap (option_map (λ r. r.now)) c.in-Some.is) (sym c.in_ok-next.ensures) in
    (inv.0 ++ c.in_ok-next.next ∷ [], c.push-in-Some.ensures inv.0 inv.1, regrouped inv.0 next (more_at c.in_ok-next.after.now) ∙ ap (with_front inv.0) (sym more) ∙ inv.2)

pub returns : goal.returns
returns c =
    let inv = c.loop-after.invariant in
    listed_all c.loop-after.listing inv.0 c.loop-after.rest.now _ inv.1 (ap (with_front inv.0) (sym (more_none c.loop-after.rest.now (sym c.skip.ensures ∙ ap (option_map (λ r. r.now)) c.in_default.is))) ∙ inv.2)

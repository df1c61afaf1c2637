use Rattle.std.proofs.Common.{◌≡◌, true, false, drop, Ok, Err, Result, sym, subst, rules}
use Rattle.std.proofs.lemmas.Iterator.{first_from_Range}
use Rattle.std.proofs.lemmas.List.{take_rest}
use Rattle.std.proofs.lemmas.Bool.{not-true, not-false}
use Rattle.std.specs.Option.{option_map_or}
use Rattle.adders.specs.declared.refusals.Refusal.{Refusal}
use Rattle.adders.specs.declared.refusals.Refusal.TheVariants.{AdderUnread}
use Rattle.adders.specs.Rules.{Tried}
use Rattle.chains.specs.Rules.{some_reads, read_rules}
use Rattle.chains.proofs.Judging.{unread_told}
use Rattle.chains.proofs.rules.all_read.Goals as goal

pub returns : goal.returns
returns c =
    let xs = c.args.adders.now in
    let told = first_from_Range _ _ _ c.find-unread.result (λ k. some_reads k (drop k xs) ≡ false) (λ k. some_reads k (drop k xs) ≡ true) c.find-unread.ensures.ran (λ x q k. search (rules, take_rest, not-true)) (λ x q k. (search rules, search (rules, take_rest, not-false))) in
    let same : c.map_or.result ≡ option_map_or {U = Result (Unit {0}) Refusal} (λ j. Err (AdderUnread j)) c.find-unread.result (Ok tt) = search rules in
    subst (Tried {A = Unit {0}} (read_rules xs) tt) (sym same) (unread_told xs c.find-unread.result told)

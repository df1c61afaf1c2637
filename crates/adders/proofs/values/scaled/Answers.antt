use Rattle.std.proofs.Common.{◌≡◌, ℕ, ◌+◌, ◌*◌, ◌^◌, ◌<◌, sym, ap, ◌∙◌, subst, lt_of_lt_of_le, arith, pow_mono}
use Rattle.std.proofs.lemmas.Nat.{shl_whole, shl_below}
use Rattle.adders.proofs.values.scaled.Goals as goal

pub returns : goal.returns
returns c =
    let k : ℕ = c.args.shift in
    let same : c.from.result ≡ c.args.value = c.from.ensures in
    let small : c.from.result < 2 ^ 32 = omega arith in
    let few = c.requires in
    let whole = shl_whole c.from.result 32 k 64 small (omega arith) in
    let below = lt_of_lt_of_le (shl_below c.from.result 32 k small) (pow_mono {i = 32 + k} {j = 62} (omega arith)) in
    record { value = whole ∙ ap (λ n. n * 2 ^ k) same; small = subst (λ n. n < 2 ^ 62) (sym whole) below }

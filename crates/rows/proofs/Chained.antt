-- A chain is a row.
use Rattle.std.proofs.Common.{◌≡◌, ℕ, zero, suc, ◌+◌, ◌-◌, ◌*◌, ◌^◌, ◌<◌, ◌≤◌, List, length, get_or, replicate, is_some, Some, None, Option, sym, ap, ◌∙◌, subst, ⊎_elim, arith}
use Rattle.std.proofs.lemmas.List.{length-map, get_or-map, get_or_append_left, get_or-append_right, get_or-replicate}
use Rattle.std.proofs.lemmas.Bool.{cases_lt, false≢true}
use Rattle.adders.specs.declared.wiring.Adder.{Adder}
use Rattle.adders.specs.declared.wiring.Operand.{Operand}
use Rattle.adders.specs.Values.{spare_adder, sample, value, values_from, wired}
use Rattle.adders.specs.Rules.{InRange, Sound}
use Rattle.adders.proofs.Follow.{within, length_values}
use Rattle.adders.proofs.Padded.{rules_padded, values_padded}
use Rattle.adders.proofs.Sounds as sounds
use Rattle.chains.specs.Rules.{constant, eight_slots, Keeps}
use Rattle.chains.proofs.Judging.{eight}
use Rattle.rows.specs.Reading.{Reads, directly, through}
use Rattle.rows.specs.Rules.{row_constant, Used, KeepsRow}
use Rattle.rows.proofs.Keeping.{sound_lower}

module _ (xs : List Adder) (out : ℕ) (k : Keeps xs out) where
  -- the values of the adders are those of the eight slots
  pub same_value : (i : ℕ) → i ≤ length xs → value (eight_slots xs) i ≡ value (wired xs) i
  same_value i h =
      let n = length-map xs Some in
      let m = length_values sample (wired xs) in
      ap (λ vs. get_or vs i 0) (values_padded sample (wired xs) (8 - length xs))
      ∙ get_or_append_left (values_from sample (wired xs)) (replicate (8 - length xs) 0) 0 i (omega arith)

  sound : Sound (eight_slots xs)
  sound = (sounds.say (eight_slots xs)).0 (rules_padded sample (wired xs) (8 - length xs) ∙ (sounds.say (wired xs)).1 k.adders)

  -- the slot of an adder of the chain
  front : (i : ℕ) → i < length xs → get_or (eight_slots xs) i None ≡ get_or (wired xs) i None
  front i h = get_or_append_left (wired xs) (replicate (8 - length xs) None) None i (let n = length-map xs Some in omega arith)

  -- from the last adder down: each is read by a later one
  reached : (fuel j : ℕ) → 1 ≤ j → j ≤ length xs → length xs ≤ j + fuel → Reads (eight_slots xs) (length xs) j
  reached zero j low high near = subst (Reads (eight_slots xs) (length xs)) (let e : length xs ≡ j = omega arith in e) directly
  reached (suc fuel) j low high near =
      ⊎_elim
      (λ less.
      let r = k.read j low less in
      let n = length-map xs Some in
      let room = within (wired xs) r.place r.reader r.there in
      let later = r.later in
      through (reached fuel (suc r.place) (omega arith) (omega arith) (omega arith)) (front r.place (omega arith) ∙ r.there) r.reads_it)
      (λ last. subst (Reads (eight_slots xs) (length xs)) (let e : length xs ≡ j = omega arith in e) directly)
      (cases_lt j (length xs))

  -- nothing past the last adder is read
  bounded : (j : ℕ) → Reads (eight_slots xs) (length xs) j → j ≤ length xs
  bounded j directly = omega arith
  bounded j (through {k = i} {a = a} r e has) =
      let above = bounded (suc i) r in
      let low = sound_lower (eight_slots xs) sound i a e in
      ⊎_elim (λ p. omega (arith, low.0)) (λ p. omega (arith, low.1)) has

  -- a slot past the last adder is empty
  used_front : (i : ℕ) → i < 8 → Used (eight_slots xs) i → i < length xs
  used_front i h u =
      let n = length-map xs Some in
      ⊎_elim (λ l. l)
      (λ past.
      let empty : get_or (eight_slots xs) i None ≡ None =
      get_or-append_right (wired xs) (replicate (8 - length xs) None) (length xs) i None n past
      ∙ get_or-replicate {A = Option Adder} (8 - length xs) (i - length xs) None None (omega arith) in
      absurd (false≢true (sym (ap is_some empty) ∙ u)))
      (cases_lt i (length xs))

  pub same_constant : (o : Operand) → o.source ≡ length xs → o.shift ≡ out → row_constant (eight_slots xs) o ≡ constant xs out
  same_constant o s t = (λ i. value (eight_slots xs) (s i) * 2 ^ t i) ∙ ap (λ v. v * 2 ^ out) (same_value (length xs) (omega arith))

  pub chain_row : (o : Operand) → o.source ≡ length xs → o.shift ≡ out → KeepsRow (eight_slots xs) o
  chain_row o s t =
      let n = eight xs k.few in
      let few = k.few in
      record {
        adders = sound;
        source = omega arith;
        shift = subst (λ v. v ≤ 30) (sym t) k.shift;
        range = subst InRange (sym (same_constant o s t)) k.range;
        read = λ i l u.
            let h = used_front i (omega arith) u in
            subst (λ v. Reads (eight_slots xs) v (suc i)) (sym s) (reached (length xs) (suc i) (omega arith) (omega arith) (omega arith));
        filled = λ i l r.
            let h = bounded (suc i) (subst (λ v. Reads (eight_slots xs) v (suc i)) s r) in
            ap is_some (front i (omega arith) ∙ get_or-map Some xs i spare_adder None (omega arith));
      }

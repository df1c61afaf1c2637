-- How many inputs a port has.
use Rattle.std.proofs.Common.{◌≡◌, ℕ, zero, suc, ◌≤◌, List, [], ◌∷◌, length, map, get_or, Some, None, sym, refl, ap, ◌∙◌, inl, inr, ⊎_elim, arith}
use Rattle.adders.specs.declared.wiring.Operand.{Operand}
use Rattle.adders.proofs.Broken.{some_none}
use Rattle.blocks.specs.declared.model.Block.{Block}
use Rattle.ports.specs.declared.port.Port.{Port}
use Rattle.ports.specs.Inputs.{insert, different, Among}
use Rattle.ports.specs.InputLaws.{InputsOf}
use Rattle.ports.proofs.Ascending.{by_order, different_ascend, put_has, has_put, inputs_law}
use Rattle.texts.specs.Text.{AllSmall}
use Rattle.texts.proofs.Takes.{some_is}
use Rattle.reading.specs.Repeats.{Once}
use Rattle.reading.specs.Limits.{InLimits}
use Rattle.sheetlaws.specs.Sheets.{InputsInOrder}
use Rattle.sheetlaws.proofs.Rowed.{put_there}

-- an input that does not stand there makes a list longer
insert_new : (o : Operand) (xs : List Operand) → (Among o xs → ⊥) → length (insert o xs) ≡ suc (length xs)
insert_new o [] f = refl
insert_new o (x ∷ xs) f = by_order o x xs (λ zs. length zs ≡ suc (length (x ∷ xs))) (λ e. absurd (f (inl e))) (λ p. refl) (λ p. ap suc (insert_new o xs (λ h. f (inr h))))

mapped_among : (os : List Operand) (k : ℕ) (o : Operand) → get_or (map Some os) k None ≡ Some o → Among o os
mapped_among [] k o e = absurd (some_none (sym e))
mapped_among (x ∷ os) zero o e = inl (sym (some_is x o e))
mapped_among (x ∷ os) (suc k) o e = inr (mapped_among os k o e)

among_mapped : (os : List Operand) (o : Operand) → Among o os → (k : ℕ) × (get_or (map Some os) k None ≡ Some o)
among_mapped [] o h = absurd h
among_mapped (x ∷ os) o h = ⊎_elim {C = (k : ℕ) × (get_or (map Some (x ∷ os)) k None ≡ Some o)} (λ e. (0, ap Some (sym e))) (λ k. let r = among_mapped os o k in (suc r.0, r.1)) h

sorted_length : (os : List Operand) → Once os → length (different (map Some os)) ≡ length os
sorted_length [] h = refl
sorted_length (o ∷ os) h =
    insert_new o (different (map Some os)) (λ k. let r = has_put (map Some os) o k in h.0 (mapped_among os r.0 o r.1)) ∙ ap suc (sorted_length os h.1)

module _ (b : Block) (p : Port) (os : List Operand) (h : InputsInOrder b p os) where
  -- in ascending order they are the port's inputs
  sorted : InputsOf b p (different (map Some os))
  sorted = record {
    ascending = different_ascend (map Some os);
    only = λ o k. let r = has_put (map Some os) o k in h.only o (mapped_among os r.0 o r.1);
    all = λ o s. let r = among_mapped os o (h.all o s) in put_has (map Some os) o r.0 r.1;
  }

  pub few_inputs : length os ≤ 16
  few_inputs = let same = ap length (inputs_law.alone b p (different (map Some os)) sorted) in omega (arith, sorted_length os h.once, inputs_law.few b p, same)

  pub in_limits : InLimits b.adders p os
  in_limits = record { few = few_inputs; sources = λ o m. (put_there b p o (h.only o m)).lower; shifts = λ o m. (put_there b p o (h.only o m)).shift }

  each_small : (us : List Operand) → ((o : Operand) → Among o us → Among o os) → AllSmall us
  each_small [] f = tt
  each_small (u ∷ us) f = let t = put_there b p u (h.only u (f u (inl refl))) in ((omega (arith, t.low), omega (arith, t.shift)), each_small us (λ o k. f o (inr k)))

  pub all_small : AllSmall os
  all_small = each_small os (λ o k. k)

-- The line of one port: why it is turned down, and what it says.
use Rattle.std.proofs.Common.{◌≡◌, ℕ, Bool, true, false, not, List, ◌++◌, Some, None, Ok, Err, Result, refl, ap, ◌∙◌, sym, subst}
use Rattle.std.proofs.lemmas.Bool.{not-true, not-false, false≢true, false_from_ne_true}
use Rattle.adders.specs.declared.wiring.Operand.{Operand}
use Rattle.adders.specs.declared.refusals.Refusal.{Refusal}
use Rattle.adders.specs.declared.refusals.Refusal.TheVariants.{SheetForm, SheetLimit, InputRepeated}
use Rattle.adders.proofs.Broken.{some_none}
use Rattle.ports.specs.declared.port.Port.{Port}
use Rattle.texts.specs.Text.{port_line, AllSmall}
use Rattle.texts.specs.Laws.{SmallPort}
use Rattle.texts.specs.Steps.{Read}
use Rattle.texts.specs.Pieces.{port_line_at}
use Rattle.texts.proofs.Takes.{port_line_takes}
use Rattle.texts.proofs.Again.{port_line_again}
use Rattle.reading.specs.Stages.{◌>>=◌, or_refused, if_passed}
use Rattle.reading.specs.Repeats.{repeats}
use Rattle.reading.specs.Limits.{InLimits}
use Rattle.reading.specs.Reader.{bound, within_limits, read_port}
use Rattle.sheetlaws.specs.Refusing.{PortFault, form, limit, repeat, PortFine}
use Rattle.reading.proofs.Allowed.{limits_tested}
use Rattle.reading.proofs.Repeated.{repeats_by, once_of, of_once}
use Rattle.reading.proofs.Staged.{bind_ok, there, passed}
use Rattle.sheetlaws.proofs.ToldNumbers.{err_is, not_passed}
use Rattle.sheetlaws.proofs.ToldRepeats.{first_pair}

-- what passes the test is in its limits, and what does not is not
in_limits : (a : ℕ) (p : Port) (os : List Operand) → within_limits (bound a p) os ≡ true → InLimits a p os
in_limits a p os = (limits_tested a p os).0

limits_pass : (a : ℕ) (p : Port) (os : List Operand) → InLimits a p os → within_limits (bound a p) os ≡ true
limits_pass a p os = (limits_tested a p os).1

past_limits : (a : ℕ) (p : Port) (os : List Operand) → (InLimits a p os → ⊥) → within_limits (bound a p) os ≡ false
past_limits a p os out = false_from_ne_true (within_limits (bound a p) os) (λ t. out (in_limits a p os t))

module _ (a n : ℕ) (p : Port) (text : List ℕ) where
  -- what is tested of the inputs
  judged : List Operand × List ℕ → Result (List Operand × List ℕ) Refusal
  judged os = if_passed (within_limits (bound a p) os.0) (SheetLimit n) os.0 >>= λ inputs. if_passed (not (repeats inputs)) (InputRepeated n) os

  after_line : Read (List Operand) → Result (List Operand × List ℕ) Refusal
  unfolding judged
  after_line o = or_refused (SheetForm n) o >>= judged

  module _ (small_port : SmallPort p) where
    pub port_told : (e : Refusal) → read_port a n p text ≡ Err e → PortFault a n p text e
    unfolding read_port after_line judged
    port_told e h = by (port_line_at p text) refl h
      where
        once : (os : List Operand × List ℕ) → text ≡ port_line p os.0 ++ os.1 → AllSmall os.0 → within_limits (bound a p) os.0 ≡ true → if_passed (not (repeats os.0)) (InputRepeated n) os ≡ Err e → PortFault a n p text e
        once os t small fine h =
            let q = not_passed (not (repeats os.0)) (InputRepeated n) e os h in
            let f = first_pair os.0 (not-false (repeats os.0) q.0) in
            subst (PortFault a n p text) q.1 (repeat os.0 os.1 f.0 f.1 small t (in_limits a p os.0 fine) f.2)

        limits : (os : List Operand × List ℕ) → text ≡ port_line p os.0 ++ os.1 → AllSmall os.0 → (b : Bool) → within_limits (bound a p) os.0 ≡ b → (if_passed b (SheetLimit n) os.0 >>= λ inputs. if_passed (not (repeats inputs)) (InputRepeated n) os) ≡ Err e → PortFault a n p text e
        limits os t small true fine h = once os t small fine h
        limits os t small false past h = subst (PortFault a n p text) (err_is {A = List Operand × List ℕ} (SheetLimit n) e h) (limit os.0 os.1 small t (λ l. false≢true (sym past ∙ limits_pass a p os.0 l)))

        by : (o : Read (List Operand)) → port_line_at p text ≡ o → after_line o ≡ Err e → PortFault a n p text e
        by None none h = subst (PortFault a n p text) (err_is {A = List Operand × List ℕ} (SheetForm n) e h) (form (λ os rest small t. some_none (sym (port_line_again p os rest small_port small) ∙ ap (port_line_at p) (sym t) ∙ none)))
        by (Some os) some h = let t = port_line_takes p text os some in limits os t.0 t.1 (within_limits (bound a p) os.0) refl h

    line_there : (os : List Operand) (rest : List ℕ) → AllSmall os → text ≡ port_line p os ++ rest → read_port a n p text ≡ judged (os, rest)
    unfolding read_port after_line judged
    line_there os rest small t = ap after_line (ap (port_line_at p) t ∙ port_line_again p os rest small_port small)

    pub port_refused : (e : Refusal) → PortFault a n p text e → read_port a n p text ≡ Err e
    unfolding read_port after_line judged
    port_refused e (form none) = by (port_line_at p text) refl
      where
        by : (o : Read (List Operand)) → port_line_at p text ≡ o → after_line o ≡ Err (SheetForm n)
        by None came = refl
        by (Some os) came = let t = port_line_takes p text os came in absurd (none os.0 os.1 t.1 t.0)
    port_refused e (limit os rest small t past) = line_there os rest small t ∙ ap (λ b. if_passed b (SheetLimit n) os >>= λ inputs. if_passed (not (repeats inputs)) (InputRepeated n) (os, rest)) (past_limits a p os past)
    port_refused e (repeat os rest i j small t fine twice) =
        line_there os rest small t ∙ ap (λ b. if_passed b (SheetLimit n) os >>= λ inputs. if_passed (not (repeats inputs)) (InputRepeated n) (os, rest)) (limits_pass a p os fine)
        ∙ ap (λ b. if_passed (not b) (InputRepeated n) (os, rest)) (repeats_by os (Some (i, j)) twice)

    pub port_read : (os : List Operand) (rest : List ℕ) → PortFine a p os → text ≡ port_line p os ++ rest → read_port a n p text ≡ Ok (os, rest)
    unfolding judged
    port_read os rest f t =
        line_there os rest f.small t ∙ ap (λ b. if_passed b (SheetLimit n) os >>= λ inputs. if_passed (not (repeats inputs)) (InputRepeated n) (os, rest)) (limits_pass a p os f.limits)
        ∙ ap (λ b. if_passed (not b) (InputRepeated n) (os, rest)) (of_once os f.once)

  pub port_fine : (x : List Operand × List ℕ) → read_port a n p text ≡ Ok x → (text ≡ port_line p x.0 ++ x.1) × PortFine a p x.0
  unfolding read_port
  port_fine x h =
      let o = bind_ok _ _ x h in
      let t = port_line_takes p text o.0 (there (SheetForm n) (port_line_at p text) o.0 o.1) in
      let l = bind_ok _ _ x o.2 in
      let within = passed (within_limits (bound a p) o.0.0) (SheetLimit n) o.0.0 l.0 l.1 in
      let r = passed (not (repeats l.0)) (InputRepeated n) o.0 x l.2 in
      let once = once_of o.0.0 (ap repeats within.1 ∙ not-true (repeats l.0) r.0) in
      subst (λ (y : List Operand × List ℕ). (text ≡ port_line p y.0 ++ y.1) × PortFine a p y.0) r.1 (t.0, record { small = t.1; limits = in_limits a p o.0.0 within.0; once = once })

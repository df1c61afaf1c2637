-- The reader's test of a port's inputs says that they are in their limits.
use Rattle.std.proofs.Common.{◌≡◌, ℕ, ◌<◌, ◌≤◌, true, leb, List, [], ◌∷◌, length, refl, sym, subst, inl, inr, ⊎_elim, arith}
use Rattle.std.specs.List.{list_all}
use Rattle.std.proofs.lemmas.Bool.{and_parts, leb-true}
use Rattle.std.proofs.lemmas.Bool.Decides.{nat_tests}
use Rattle.adders.specs.declared.wiring.Operand.{Operand}
use Rattle.ports.specs.declared.port.Port.{Port}
use Rattle.ports.specs.declared.port.Port.TheVariants.{Left, Right, Output}
use Rattle.ports.specs.Inputs.{Among}
use Rattle.reading.specs.Reader.{bound, allowed, within_limits}
use Rattle.reading.specs.Limits.{MayRead, InLimits, LimitsAreTested}

abbrev Within : ℕ → Operand → Type 0
Within limit o = (o.source < limit) × (o.shift ≤ 30)

each_allowed : (limit : ℕ) (os : List Operand) (o : Operand) → list_all (allowed limit) os ≡ true → Among o os → Within limit o
each_allowed limit [] o h m = absurd m
each_allowed limit (x ∷ os) o h m =
    let parts = and_parts (allowed limit x) (list_all (allowed limit) os) h in
    ⊎_elim {C = Within limit o} (λ e. subst (Within limit) (sym e) (this parts.0)) (λ k. each_allowed limit os o parts.1 k) m
  where
    this : allowed limit x ≡ true → Within limit x
    this t = (grind (arith, nat_tests), grind (arith, nat_tests))

allowed_each : (limit : ℕ) (os : List Operand) → ((o : Operand) → Among o os → Within limit o) → list_all (allowed limit) os ≡ true
allowed_each limit [] f = refl
allowed_each limit (x ∷ os) f = let h = f x (inl refl) in let s = h.0 in let t = h.1 in let others = allowed_each limit os (λ o m. f o (inr m)) in grind (arith, nat_tests)

-- a source is below the bound exactly if it may be read
below : (a : ℕ) (p : Port) (source : ℕ) → source < bound a p → MayRead a p source
below a (Left j) source h = h
below a (Right j) source h = h
below a Output source h = omega arith

may_read : (a : ℕ) (p : Port) (source : ℕ) → MayRead a p source → source < bound a p
may_read a (Left j) source h = h
may_read a (Right j) source h = h
may_read a Output source h = omega arith

pub limits_tested : LimitsAreTested
limits_tested a p os = (passes, tests)
  where
    passes : within_limits (bound a p) os ≡ true → InLimits a p os
    passes h =
        let parts = and_parts (leb (length os) 16) (list_all (allowed (bound a p)) os) h in
        record {
          few = leb-true (length os) 16 parts.0;
          sources = λ o m. below a p o.source (each_allowed (bound a p) os o parts.1 m).0;
          shifts = λ o m. (each_allowed (bound a p) os o parts.1 m).1;
        }

    tests : InLimits a p os → within_limits (bound a p) os ≡ true
    tests l =
        let few = l.few in
        let each = allowed_each (bound a p) os (λ o m. (may_read a p o.source (l.sources o m), l.shifts o m)) in
        grind (arith, nat_tests)

-- The ports in their order are all different, and their numbers have two digits at most.
use Rattle.std.proofs.Common.{◌≡◌, ◌≢◌, ℕ, zero, suc, ◌+◌, ◌<◌, ◌≤◌, ◌⊎◌, inl, inr, Bool, true, false, cond, List, [], ◌∷◌, length, get_or, refl, ap, ◌∙◌, sym, arith}
use Rattle.std.proofs.lemmas.Bool.{eqb-true, eq-eqb, false≢true, false_from_ne_true}
use Rattle.adders.specs.declared.wiring.Operand.{Operand}
use Rattle.ports.specs.declared.port.Port.{Port}
use Rattle.ports.specs.declared.port.Port.TheVariants.{Left, Right, Output}
use Rattle.ports.specs.Ports.{ports_from, ports}
use Rattle.texts.specs.Laws.{SmallPort}
use Rattle.reading.specs.Orders.{Orders, same_port, with_line}

pub one_port : (p q : Port) → same_port p q ≡ true → p ≡ q
one_port (Left i) (Left j) e = ap Left (eqb-true i j e)
one_port (Right i) (Right j) e = ap Right (eqb-true i j e)
one_port Output Output e = refl
one_port (Left i) (Right j) e = absurd (false≢true e)
one_port (Left i) Output e = absurd (false≢true e)
one_port (Right i) (Left j) e = absurd (false≢true e)
one_port (Right i) Output e = absurd (false≢true e)
one_port Output (Left j) e = absurd (false≢true e)
one_port Output (Right j) e = absurd (false≢true e)

port_self : (p : Port) → same_port p p ≡ true
port_self (Left i) = eq-eqb i i refl
port_self (Right i) = eq-eqb i i refl
port_self Output = refl

-- what a port has that is given a line
pub line_here : (p : Port) (os : List Operand) (orders : Orders) → with_line p os orders p ≡ os
line_here p os orders = ap (λ b. cond b os (orders p)) (port_self p)

-- what another has
pub line_elsewhere : (p q : Port) (os : List Operand) (orders : Orders) → p ≢ q → with_line p os orders q ≡ orders q
line_elsewhere p q os orders ne = ap (λ b. cond b os (orders q)) (false_from_ne_true (same_port p q) (λ e. ne (one_port p q e)))

-- the port is none of these
abbrev pub Fresh : Port → List Port → Type 0
Fresh p [] = Unit {0}
Fresh p (q ∷ qs) = (q ≢ p) × Fresh p qs

-- all different, and their numbers small
abbrev pub Proper : List Port → Type 0
Proper [] = Unit {0}
Proper (p ∷ ps) = SmallPort p × (Fresh p ps × Proper ps)

fresh_left : (i j n : ℕ) → i < j → Fresh (Left i) (ports_from j n)
fresh_left i j zero l = (λ e. cc, tt)
fresh_left i j (suc n) l = (λ e. let s : j ≡ i = cc in omega arith, (λ e. cc, fresh_left i (suc j) n (omega arith)))

fresh_right : (i j n : ℕ) → i < j → Fresh (Right i) (ports_from j n)
fresh_right i j zero l = (λ e. cc, tt)
fresh_right i j (suc n) l = (λ e. cc, (λ e. let s : j ≡ i = cc in omega arith, fresh_right i (suc j) n (omega arith)))

proper_from : (n j : ℕ) → j + n ≤ 99 → Proper (ports_from j n)
proper_from zero j h = (tt, (tt, tt))
proper_from (suc n) j h = (omega arith, ((λ e. cc, fresh_left j (suc j) n (omega arith)), (omega arith, (fresh_right j (suc j) n (omega arith), proper_from n (suc j) (omega arith)))))

pub proper : (a : ℕ) → a ≤ 8 → Proper (ports a)
proper a few = proper_from a 1 (omega arith)

-- a port is one of these, or none of them
pub find_port : (q : Port) (ps : List Port) → ((k : ℕ) × (k < length ps) × (get_or ps k Output ≡ q)) ⊎ ((k : ℕ) → k < length ps → get_or ps k Output ≢ q)
find_port q [] = inr (λ k h e. absurd (omega arith))
find_port q (p ∷ ps) = by (same_port p q) refl (find_port q ps)
  where
    by : (b : Bool) → same_port p q ≡ b → ((k : ℕ) × (k < length ps) × (get_or ps k Output ≡ q)) ⊎ ((k : ℕ) → k < length ps → get_or ps k Output ≢ q)
        → ((k : ℕ) × (k < length (p ∷ ps)) × (get_or (p ∷ ps) k Output ≡ q)) ⊎ ((k : ℕ) → k < length (p ∷ ps) → get_or (p ∷ ps) k Output ≢ q)
    by true s next = inl (0, omega arith, one_port p q s)
    by false s (inl found) = inl (suc found.0, omega (arith, found.1), found.2)
    by false s (inr none) = inr nowhere
      where
        nowhere : (k : ℕ) → k < length (p ∷ ps) → get_or (p ∷ ps) k Output ≢ q
        nowhere zero h e = false≢true (sym s ∙ ap (same_port p) (sym e) ∙ port_self p)
        nowhere (suc k) h e = none k (omega arith) e

-- what is found nowhere is none of these
pub fresh_from : (q : Port) (ps : List Port) → ((k : ℕ) → k < length ps → get_or ps k Output ≢ q) → Fresh q ps
fresh_from q [] f = tt
fresh_from q (p ∷ ps) f = (f 0 (omega arith), fresh_from q ps (λ k h. f (suc k) (omega arith)))

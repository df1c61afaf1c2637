-- The ports in their order, one line after another.
use Rattle.std.proofs.Common.{◌≡◌, ℕ, zero, suc, ◌+◌, ◌-◌, ◌*◌, ◌/◌, ◌%◌, ◌<◌, ◌≤◌, cond, leb, ◌&&◌, List, [], ◌∷◌, length, drop, Ok, Err, sym, refl, ap, ◌∙◌, subst, ⊎_elim, arith}
use Rattle.std.proofs.lemmas.List.{drop_more, drop_all}
use Rattle.std.proofs.lemmas.Bool.{cases_lt, cases_eq, le-leb}
use Rattle.adders.specs.declared.refusals.Refusal.{Refusal}
use Rattle.adders.specs.declared.wiring.Operand.{Operand}
use Rattle.ports.specs.declared.port.Port.TheVariants.{Output}
use Rattle.ports.specs.Ports.{ports_from, ports, nth_port}
use Rattle.ports.proofs.Places.{nth_output, nth_left, nth_right}
use Rattle.reading.specs.Orders.{Orders, with_line, place_of}
use Rattle.reading.specs.Stages.{◌>>=◌}
use Rattle.reading.specs.Reader.{read_port, read_ports}

pub ports_count : (n j : ℕ) → length (ports_from j n) ≡ 2 * n + 1
ports_count zero j = refl
ports_count (suc n) j = omega (arith, ports_count n (suc j))

-- each has a place of its own
pub has_place : (a k : ℕ) → a ≤ 8 → place_of (nth_port a k) < 17
has_place a k few = ⊎_elim {C = place_of (nth_port a k) < 17} adder_port (λ past. subst (λ p. place_of p < 17) (nth_output a k past) (omega arith)) (cases_lt (k / 2) a)
  where
    inside : (n m : ℕ) → n < 17 → 1 ≤ m → m ≤ 8 → cond (leb 1 m && leb m 8) n 17 < 17
    inside n m h low high = subst (λ b. cond b n 17 < 17) (sym (ap (λ b. b && leb m 8) (le-leb 1 m low) ∙ le-leb m 8 high)) h

    adder_port : k / 2 < a → place_of (nth_port a k) < 17
    adder_port lt =
        ⊎_elim {C = place_of (nth_port a k) < 17} (λ even. subst (λ p. place_of p < 17) (nth_left a k lt even) (inside (2 * (k / 2 + 1) - 2) (k / 2 + 1) (omega arith) (omega arith) (omega arith)))
        (λ odd. subst (λ p. place_of p < 17) (nth_right a k lt odd) (inside (2 * (k / 2 + 1) - 1) (k / 2 + 1) (omega arith) (omega arith) (omega arith)))
        (cases_eq (k % 2) 0)

pub next_port : (a k : ℕ) → k < 2 * a + 1 → drop k (ports a) ≡ nth_port a k ∷ drop (k + 1) (ports a)
next_port a k some = drop_more (ports a) k Output (omega (arith, ports_count a 1))

pub no_port : (a k : ℕ) → 2 * a + 1 ≤ k → drop k (ports a) ≡ []
no_port a k all = drop_all k (ports a) (omega (arith, ports_count a 1))

module _ (a k : ℕ) (orders : Orders) (text : List ℕ) where
  module _ (some : k < 2 * a + 1) where
    pub line_stops : (e : Refusal) → read_port a (k + 3) (nth_port a k) text ≡ Err e → read_ports a (k + 3) (drop k (ports a)) orders text ≡ Err e
    unfolding read_ports
    line_stops e h = ap (λ ps. read_ports a (k + 3) ps orders text) (next_port a k some) ∙ ap (λ r. r >>= λ os. read_ports a (suc (k + 3)) (drop (k + 1) (ports a)) (with_line (nth_port a k) os.0 orders) os.1) h

    pub line_goes_on : (os : List Operand) (rest : List ℕ) → read_port a (k + 3) (nth_port a k) text ≡ Ok (os, rest) → read_ports a (k + 3) (drop k (ports a)) orders text ≡ read_ports a (k + 1 + 3) (drop (k + 1) (ports a)) (with_line (nth_port a k) os orders) rest
    unfolding read_ports
    line_goes_on os rest h =
        ap (λ ps. read_ports a (k + 3) ps orders text) (next_port a k some) ∙ ap (λ r. r >>= λ os. read_ports a (suc (k + 3)) (drop (k + 1) (ports a)) (with_line (nth_port a k) os.0 orders) os.1) h
        ∙ ap (λ n. read_ports a n (drop (k + 1) (ports a)) (with_line (nth_port a k) os orders) rest) (omega arith)

  pub lines_end : 2 * a + 1 ≤ k → read_ports a (k + 3) (drop k (ports a)) orders text ≡ Ok (orders, text)
  unfolding read_ports
  lines_end all = ap (λ ps. read_ports a (k + 3) ps orders text) (no_port a k all)

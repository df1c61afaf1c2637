-- The lines of the ports, one after another: which is turned down first, and what they say.
use Rattle.std.proofs.Common.{◌≡◌, ℕ, zero, suc, ◌+◌, ◌<◌, ◌≤◌, ◌⊎◌, inl, inr, Bool, true, false, cond, List, [], ◌∷◌, ◌++◌, length, take, get_or, Ok, Err, refl, ap, ◌∙◌, sym, subst, append_assoc, arith}
use Rattle.adders.specs.declared.wiring.Operand.{Operand}
use Rattle.adders.specs.declared.refusals.Refusal.{Refusal}
use Rattle.ports.specs.declared.port.Port.{Port}
use Rattle.ports.specs.declared.port.Port.TheVariants.{Output}
use Rattle.texts.specs.Text.{port_line}
use Rattle.reading.specs.Orders.{Orders, no_lines, same_port, with_line}
use Rattle.sheetlaws.specs.Sheets.{port_lines}
use Rattle.reading.specs.Stages.{◌>>=◌}
use Rattle.reading.specs.Reader.{read_port, read_ports}
use Rattle.sheetlaws.specs.Refusing.{PortFault, PortFine}
use Rattle.reading.proofs.Staged.{bind_ok, ok_is, ok_not_err}
use Rattle.sheetlaws.proofs.ToldNumbers.{bind_err}
use Rattle.sheetlaws.proofs.ToldPorts.{port_told, port_refused, port_read, port_fine}
use Rattle.sheetlaws.proofs.ToldOrder.{Fresh, Proper, one_port, line_here, line_elsewhere}

-- no cause is met at any of these
abbrev pub Fine : ℕ → Orders → List Port → Type 0
Fine a orders [] = Unit {0}
Fine a orders (p ∷ ps) = PortFine a p (orders p) × Fine a orders ps

-- at each place
pub fine_at : (a : ℕ) (orders : Orders) (k : ℕ) (ps : List Port) → k ≤ length ps → Fine a orders (take k ps) → (i : ℕ) → i < k → PortFine a (get_or ps i Output) (orders (get_or ps i Output))
fine_at a orders zero ps l f i h = absurd (omega arith)
fine_at a orders (suc k) [] l f i h = absurd (omega arith)
fine_at a orders (suc k) (p ∷ ps) l f zero h = f.0
fine_at a orders (suc k) (p ∷ ps) l f (suc i) h = fine_at a orders k ps (omega arith) f.1 i (omega arith)

pub fine_from : (a : ℕ) (orders : Orders) (k : ℕ) (ps : List Port) → k ≤ length ps → ((i : ℕ) → i < k → PortFine a (get_or ps i Output) (orders (get_or ps i Output))) → Fine a orders (take k ps)
fine_from a orders zero ps l f = tt
fine_from a orders (suc k) [] l f = absurd (omega arith)
fine_from a orders (suc k) (p ∷ ps) l f = (f 0 (omega arith), fine_from a orders k ps (omega arith) (λ i h. f (suc i) (omega arith)))

-- a line that another port is given changes nothing of these
module _ (a : ℕ) (p : Port) (os : List Operand) (orders : Orders) where
  lines_kept : (k : ℕ) (ps : List Port) → Fresh p ps → port_lines (with_line p os orders) (take k ps) ≡ port_lines orders (take k ps)
  lines_kept zero ps f = refl
  lines_kept (suc k) [] f = refl
  lines_kept (suc k) (q ∷ ps) f = ap (λ ys. port_line q ys ++ port_lines (with_line p os orders) (take k ps)) (line_elsewhere p q os orders (λ e. f.0 (sym e))) ∙ ap (λ t. port_line q (orders q) ++ t) (lines_kept k ps f.1)

  fine_kept : (k : ℕ) (ps : List Port) → Fresh p ps → Fine a orders (take k ps) → Fine a (with_line p os orders) (take k ps)
  fine_kept zero ps f g = tt
  fine_kept (suc k) [] f g = tt
  fine_kept (suc k) (q ∷ ps) f g = (subst (PortFine a q) (sym (line_elsewhere p q os orders (λ e. f.0 (sym e)))) g.0, fine_kept k ps f.1 g.1)

-- the first line that is turned down
pub record PortStop (a n : ℕ) (ps : List Port) (text : List ℕ) (e : Refusal) : Type 0 where
  pub before : ℕ
  pub some : before < length ps
  pub orders : Orders
  pub rest : List ℕ
  pub lines : text ≡ port_lines orders (take before ps) ++ rest
  pub fine : Fine a orders (take before ps)
  pub fault : PortFault a (before + n) (get_or ps before Output) rest e

-- a refusal has its cause at one of them
pub ports_told : (a n : ℕ) (ps : List Port) (orders : Orders) (text : List ℕ) (e : Refusal) → Proper ps → read_ports a n ps orders text ≡ Err e → PortStop a n ps text e
unfolding read_ports
ports_told a n [] orders text e small h = absurd (ok_not_err (orders, text) e h)
ports_told a n (p ∷ ps) orders text e small h = by (bind_err _ _ e h) (λ os. ports_told a (suc n) ps (with_line p os.0 orders) os.1 e small.1.1)
  where
    by : (read_port a n p text ≡ Err e) ⊎ ((os : List Operand × List ℕ) × (read_port a n p text ≡ Ok os) × (read_ports a (suc n) ps (with_line p os.0 orders) os.1 ≡ Err e))
        → ((os : List Operand × List ℕ) → read_ports a (suc n) ps (with_line p os.0 orders) os.1 ≡ Err e → PortStop a (suc n) ps os.1 e)
        → PortStop a n (p ∷ ps) text e
    by (inl stops) next =
        let same : n ≡ 0 + n = omega arith in
        record { before = 0; some = omega arith; orders = no_lines; rest = text; lines = refl; fine = tt; fault = subst (λ m. PortFault a m p text e) same (port_told a n p text small.0 e stops) }
    by (inr goes) next =
        let os = goes.0 in
        let line = port_fine a n p text os goes.1 in
        let s = next os goes.2 in
        let all = with_line p os.0 s.orders in
        let here = line_here p os.0 s.orders in
        let same : s.before + suc n ≡ suc s.before + n = omega arith in
        record {
          before = suc s.before;
          some = omega (arith, s.some);
          orders = all;
          rest = s.rest;
          lines = line.0 ∙ ap (λ t. port_line p os.0 ++ t) s.lines ∙ sym (append_assoc (port_line p os.0) (port_lines s.orders (take s.before ps)) s.rest)
              ∙ ap (λ t. (port_line p os.0 ++ t) ++ s.rest) (sym (lines_kept a p os.0 s.orders s.before ps small.1.0))
              ∙ ap (λ ys. (port_line p ys ++ port_lines all (take s.before ps)) ++ s.rest) (sym here);
          fine = (subst (PortFine a p) (sym here) line.1, fine_kept a p os.0 s.orders s.before ps small.1.0 s.fine);
          fault = subst (λ m. PortFault a m (get_or ps s.before Output) s.rest e) same s.fault;
        }

module _ (a : ℕ) (orders : Orders) where
  -- a port and the lines of others after it
  one_more : (n : ℕ) (p : Port) (ps : List Port) (text rest : List ℕ) → Proper (p ∷ ps) → PortFine a p (orders p) → text ≡ (port_line p (orders p) ++ port_lines orders ps) ++ rest → read_port a n p text ≡ Ok (orders p, port_lines orders ps ++ rest)
  one_more n p ps text rest small f t = port_read a n p text small.0 (orders p) (port_lines orders ps ++ rest) f (t ∙ append_assoc (port_line p (orders p)) (port_lines orders ps) rest)

  -- a cause at one of them is told
  pub ports_refused : (k n : ℕ) (ps : List Port) (before : Orders) (text rest : List ℕ) (e : Refusal) → Proper ps → k < length ps → Fine a orders (take k ps) → text ≡ port_lines orders (take k ps) ++ rest → PortFault a (k + n) (get_or ps k Output) rest e
      → read_ports a n ps before text ≡ Err e
  unfolding read_ports
  ports_refused k n [] before text rest e small h f t fault = absurd (omega arith)
  ports_refused zero n (p ∷ ps) before text rest e small h f t fault =
      let same : 0 + n ≡ n = omega arith in
      let stops = port_refused a n p rest small.0 e (subst (λ m. PortFault a m p rest e) same fault) in
      ap (λ r. r >>= λ os. read_ports a (suc n) ps (with_line p os.0 before) os.1) (ap (read_port a n p) t ∙ stops)
  ports_refused (suc k) n (p ∷ ps) before text rest e small h f t fault =
      let same : suc k + n ≡ k + suc n = omega arith in
      let after = port_lines orders (take k ps) ++ rest in
      ap (λ r. r >>= λ os. read_ports a (suc n) ps (with_line p os.0 before) os.1) (port_read a n p text small.0 (orders p) after f.0 (t ∙ append_assoc (port_line p (orders p)) (port_lines orders (take k ps)) rest))
      ∙ ports_refused k (suc n) ps (with_line p (orders p) before) after rest e small.1.1 (omega arith) f.1 refl (subst (λ m. PortFault a m (get_or ps k Output) rest e) same fault)

  -- what is kept once these have been read
  abbrev pub overlay : List Port → Orders → Orders
  overlay [] before = before
  overlay (p ∷ ps) before = overlay ps (with_line p (orders p) before)

  -- a port that has its inputs keeps them
  pub kept_there : (ps : List Port) (before : Orders) (q : Port) → before q ≡ orders q → overlay ps before q ≡ orders q
  kept_there [] before q e = e
  kept_there (p ∷ ps) before q e = kept_there ps (with_line p (orders p) before) q (by (same_port p q) refl)
    where
      by : (b : Bool) → same_port p q ≡ b → cond (same_port p q) (orders p) (before q) ≡ orders q
      by true s = ap (λ b. cond b (orders p) (before q)) s ∙ ap orders (one_port p q s)
      by false s = ap (λ b. cond b (orders p) (before q)) s ∙ e

  -- a port that is read has them
  pub kept_at : (ps : List Port) (before : Orders) (k : ℕ) → k < length ps → (q : Port) → get_or ps k Output ≡ q → overlay ps before q ≡ orders q
  kept_at [] before k h q e = absurd (omega arith)
  kept_at (p ∷ ps) before zero h q e = kept_there ps (with_line p (orders p) before) q (subst (λ r. with_line p (orders p) before r ≡ orders r) e (line_here p (orders p) before))
  kept_at (p ∷ ps) before (suc k) h q e = kept_at ps (with_line p (orders p) before) k (omega arith) q e

  -- fine lines are read
  pub ports_read : (n : ℕ) (ps : List Port) (before : Orders) (text rest : List ℕ) → Proper ps → Fine a orders ps → text ≡ port_lines orders ps ++ rest → read_ports a n ps before text ≡ Ok (overlay ps before, rest)
  unfolding read_ports
  ports_read n [] before text rest small f t = ap (λ u. Ok (before, u)) t
  ports_read n (p ∷ ps) before text rest small f t =
      let after = port_lines orders ps ++ rest in
      ap (λ r. r >>= λ os. read_ports a (suc n) ps (with_line p os.0 before) os.1) (one_more n p ps text rest small f.0 t)
      ∙ ports_read (suc n) ps (with_line p (orders p) before) after rest small.1.1 f.1 refl

-- what was read is what the lines say, and no other port has got inputs
pub ports_fine : (a n : ℕ) (ps : List Port) (orders : Orders) (text : List ℕ) (x : Orders × List ℕ) → Proper ps → read_ports a n ps orders text ≡ Ok x → (text ≡ port_lines x.0 ps ++ x.1) × (Fine a x.0 ps × ((q : Port) → Fresh q ps → x.0 q ≡ orders q))
unfolding read_ports
ports_fine a n [] orders text x small h = subst (λ (y : Orders × List ℕ). (text ≡ y.1) × (Unit {0} × ((q : Port) → Unit {0} → y.0 q ≡ orders q))) (ok_is (orders, text) x h) (refl, (tt, λ q u. refl))
ports_fine a n (p ∷ ps) orders text x small h =
    let os = bind_ok _ _ x h in
    let line = port_fine a n p text os.0 os.1 in
    let s = ports_fine a (suc n) ps (with_line p os.0.0 orders) os.0.1 x small.1.1 os.2 in
    let here = s.1.1 p small.1.0 ∙ line_here p os.0.0 orders in (
      line.0 ∙ ap (λ t. port_line p os.0.0 ++ t) s.0 ∙ sym (append_assoc (port_line p os.0.0) (port_lines x.0 ps) x.1) ∙ ap (λ ys. (port_line p ys ++ port_lines x.0 ps) ++ x.1) (sym here),
      ((subst (PortFine a p) (sym here) line.1, s.1.0), λ q f. s.1.1 q f.1 ∙ line_elsewhere p q os.0.0 orders f.0),
    )

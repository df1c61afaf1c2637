-- The automaton, run over a whole line: it reads each line of the form to its end.
use Rattle.std.proofs.Common.{◌≡◌, ℕ, ◌+◌, ◌*◌, ◌≤◌, cond, eqb, List, [], ◌∷◌, ◌++◌, Some, None, Option, sym, refl, ap, ◌∙◌, append_assoc, append-nil, arith}
use Rattle.std.proofs.lemmas.Bool.Decides.{nat_tests}
use Rattle.adders.specs.declared.wiring.Operand.{Operand}
use Rattle.adders.specs.declared.wiring.Adder.{Adder}
use Rattle.adders.specs.declared.wiring.Sign.{Sign}
use Rattle.adders.specs.declared.wiring.Sign.TheVariants.{Plus, Minus}
use Rattle.lines.specs.declared.scan.Symbol.{Symbol}
use Rattle.lines.specs.declared.scan.Symbol.TheVariants.{Digit, Dot, Mark, Space}
use Rattle.lines.specs.declared.scan.Number.{Number}
use Rattle.lines.specs.declared.scan.Number.TheVariants.{Empty, Open, Full}
use Rattle.lines.specs.declared.scan.Front.{Front}
use Rattle.lines.specs.declared.scan.Front.TheVariants.{Nothing, LeftSource, Left, RightSource}
use Rattle.lines.specs.declared.scan.Part.TheVariants.{Body}
use Rattle.lines.specs.Form.{Decimal, one, two, OperandForm, operand, mark, AdderForm, adder, AddersForm, none, more, Line, line}
use Rattle.lines.specs.Scan.{symbol, push, value, grown, closed, ended, on_byte, step, State, at, dead, moved, next, run, start}

pub run_append : (s : State) (p q : List ℕ) → run s (p ++ q) ≡ run (run s p) q
run_append s [] q = refl
run_append s (b ∷ p) q = run_append (next s b) p q

pub run_dead : (bs : List ℕ) → run dead bs ≡ dead
run_dead [] = refl
run_dead (b ∷ bs) = run_dead bs

-- which byte such a symbol is
abbrev pub Means : Symbol → ℕ → Type 0
Means (Digit d) b = (b ≡ 48 + d) × (d ≤ 9)
Means Dot b = b ≡ 46
Means (Mark g) b = b ≡ mark g
Means Space b = b ≡ 32

abbrev pub ByteMeans : Option Symbol → ℕ → Type 0
ByteMeans (Some y) b = Means y b
ByteMeans None b = Unit {0}

pub means : (b : ℕ) → ByteMeans (symbol b) b
means b = grind (arith, nat_tests)

symbol_digit : (d : ℕ) → d ≤ 9 → symbol (48 + d) ≡ Some (Digit d)
symbol_digit d h = grind (arith, nat_tests)

digit_step : (f : Front) (m : Number) (d : ℕ) → d ≤ 9 → step (Body f m) (48 + d) ≡ grown f (push m d)
digit_step f m d h = ap (on_byte f m) (symbol_digit d h)

abbrev pub digit : ℕ → Number
digit d = cond (eqb d 0) (Full 0) (Open d)

digit_value : (d : ℕ) → value (digit d) ≡ Some d
digit_value d = grind (arith, nat_tests)

pub digit_open : (d : ℕ) → 1 ≤ d → digit d ≡ Open d
digit_open d h = grind (arith, nat_tests)

-- what the number after a front is once it is read
record Reads (f : Front) (xs : List Adder) (n : ℕ) (bs : List ℕ) : Type 0 where
  got : Number
  is : value got ≡ Some n
  runs : (rest : List ℕ) → run (at xs (Body f Empty)) (bs ++ rest) ≡ run (at xs (Body f got)) rest

reads : {n : ℕ} {bs : List ℕ} (f : Front) (xs : List Adder) → Decimal n bs → Reads f xs n bs
reads f xs (one {d = d} h) = record {
  got = digit d;
  is = digit_value d;
  runs = λ rest. ap (λ m. run (moved xs m) rest) (digit_step f Empty d h);
}
reads f xs (two {d = d} {e = e} a h k) = record {
  got = Full (10 * d + e);
  is = refl;
  runs = λ rest. ap (λ m. run (moved xs m) ((48 + e) ∷ rest)) (digit_step f Empty d h)
      ∙ ap (λ n. run (moved xs (step (Body f n) (48 + e))) rest) (digit_open d a)
      ∙ ap (λ m. run (moved xs m) rest) (digit_step f (Open d) e k);
}

-- a number with the byte that ends it
closes : {n : ℕ} {bs : List ℕ} (f : Front) (xs : List Adder) (b : ℕ) (y : Symbol) → ((m : Number) → step (Body f m) b ≡ ended f (value m) y) → Decimal n bs → (rest : List ℕ) → run (at xs (Body f Empty)) (bs ++ b ∷ rest) ≡ run (moved xs (closed f n y)) rest
closes f xs b y after h rest =
    let r = reads f xs h in
    r.runs (b ∷ rest) ∙ ap (λ m. run (moved xs m) rest) (after r.got ∙ ap (λ v. ended f v y) r.is)

mark_ends : (f : Front) (m : Number) (g : Sign) → step (Body f m) (mark g) ≡ ended f (value m) (Mark g)
mark_ends f m Plus = refl
mark_ends f m Minus = refl

run_left : {l : Operand} {t : List ℕ} (xs : List Adder) (g : Sign) → OperandForm l t → (rest : List ℕ) → run (at xs (Body Nothing Empty)) (t ++ mark g ∷ rest) ≡ run (at xs (Body (Left l g) Empty)) rest
run_left {l} xs g (operand {s = s} {h = h} a b) rest =
    ap (run _) (append_assoc s (46 ∷ h) (mark g ∷ rest))
    ∙ closes Nothing xs 46 Dot (λ m. refl) a _
    ∙ closes (LeftSource l.source) xs (mark g) (Mark g) (λ m. mark_ends (LeftSource l.source) m g) b rest

run_right : {r : Operand} {t : List ℕ} (xs : List Adder) (l : Operand) (g : Sign) → OperandForm r t → (rest : List ℕ) → run (at xs (Body (Left l g) Empty)) (t ++ 32 ∷ rest) ≡ run (at (xs ++ record { left = l; sign = g; right = r } ∷ []) (Body Nothing Empty)) rest
run_right {r} xs l g (operand {s = s} {h = h} a b) rest =
    ap (run _) (append_assoc s (46 ∷ h) (32 ∷ rest))
    ∙ closes (Left l g) xs 46 Dot (λ m. refl) a _
    ∙ closes (RightSource l g r.source) xs 32 Space (λ m. refl) b rest

run_adder : {a : Adder} {t : List ℕ} (xs : List Adder) → AdderForm a t → (rest : List ℕ) → run (at xs (Body Nothing Empty)) (t ++ 32 ∷ rest) ≡ run (at (xs ++ a ∷ []) (Body Nothing Empty)) rest
run_adder {a} xs (adder {l = l} {r = r} x y) rest =
    ap (run _) (append_assoc l (mark a.sign ∷ r) (32 ∷ rest)) ∙ run_left xs a.sign x _ ∙ run_right xs a.left a.sign y rest

run_adders : {ys : List Adder} {ts : List ℕ} (xs : List Adder) → AddersForm ys ts → (rest : List ℕ) → run (at xs (Body Nothing Empty)) (ts ++ rest) ≡ run (at (xs ++ ys) (Body Nothing Empty)) rest
run_adders xs none rest = ap (λ l. run (at l (Body Nothing Empty)) rest) (sym (append-nil xs))
run_adders xs (more {a = a} {xs = ys} {t = t} {ts = ts} x y) rest =
    ap (run _) (append_assoc t (32 ∷ ts) rest) ∙ run_adder xs x _ ∙ run_adders (xs ++ a ∷ []) y rest ∙ ap (λ l. run (at l (Body Nothing Empty)) rest) (append_assoc xs (a ∷ []) ys)

-- the whole line: the adders, and the output shift as the number that is being read
pub record Ends (xs : List Adder) (out : ℕ) (bs : List ℕ) : Type 0 where
  pub got : Number
  pub is : value got ≡ Some out
  pub runs : run start bs ≡ at xs (Body Nothing got)

pub run_line : {xs : List Adder} {out : ℕ} {bs : List ℕ} → Line xs out bs → Ends xs out bs
run_line {xs} (line {ts = ts} {n = n} x y) =
    let r = reads Nothing xs y in
    record {
      got = r.got;
      is = r.is;
      runs = run_adders [] x n ∙ ap (run (at xs (Body Nothing Empty))) (sym (append-nil n)) ∙ r.runs [];
    }

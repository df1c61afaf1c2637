-- The bytes that lead to each state, and what follows of a line that breaks its form.
use Rattle.std.proofs.Common.{◌≡◌, ℕ, zero, suc, ◌+◌, ◌*◌, ◌≤◌, eqb, List, [], ◌∷◌, ◌++◌, get_or, take, drop, Some, None, codes, Option, sym, refl, ap, ◌∙◌, subst, append_assoc, append-nil, arith, eqb-true}
use borrow.Author.Tests.{eqb-false}
use Rattle.std.proofs.lemmas.List.{take_more, take-append-drop}
use Rattle.std.proofs.lemmas.Bool.{cond_both}
use Rattle.std.proofs.lemmas.Option.{none-some, slice_get-get_or}
use Rattle.std.specs.Prelude.{slice_get}
use Rattle.adders.specs.declared.wiring.Operand.{Operand}
use Rattle.adders.specs.declared.wiring.Adder.{Adder}
use Rattle.adders.specs.declared.wiring.Sign.{Sign}
use Rattle.adders.specs.declared.wiring.Sign.TheVariants.{Plus}
use Rattle.lines.specs.declared.scan.Symbol.{Symbol}
use Rattle.lines.specs.declared.scan.Symbol.TheVariants.{Digit, Dot, Mark, Space}
use Rattle.lines.specs.declared.scan.Number.{Number}
use Rattle.lines.specs.declared.scan.Number.TheVariants.{Empty, Open, Full}
use Rattle.lines.specs.declared.scan.Front.{Front}
use Rattle.lines.specs.declared.scan.Front.TheVariants.{Nothing, LeftSource, Left, RightSource}
use Rattle.lines.specs.declared.scan.Part.{Part}
use Rattle.lines.specs.declared.scan.Part.TheVariants.{Key, Body}
use Rattle.lines.specs.declared.scan.Move.{Move}
use Rattle.lines.specs.declared.scan.Move.TheVariants.{On, Done}
use Rattle.lines.specs.Form.{Decimal, one, two, OperandForm, operand, mark, AdderForm, adder, AddersForm, none, more, key, Line, line, Form}
use Rattle.forms.specs.Breaking.{Viable}
use Rattle.lines.specs.Scan.{symbol, push, value, grown, after_dot, after_mark, after_space, closed, ended, on_symbol, on_key, step, final, on_byte, keyed, State, at, dead, moved, next, run, start}
use Rattle.lines.proofs.Runs.{run_append, run_dead, Means, ByteMeans, means, digit, digit_open, run_line}

-- the bytes of a number as far as it is read
data Digits : Number → List ℕ → Type 0 where
  none_yet : Digits Empty []
  single : {d : ℕ} → 1 ≤ d → d ≤ 9 → Digits (Open d) ((48 + d) ∷ [])
  nought : Digits (Full 0) (48 ∷ [])
  both : {d e : ℕ} → 1 ≤ d → d ≤ 9 → e ≤ 9 → Digits (Full (10 * d + e)) ((48 + d) ∷ (48 + e) ∷ [])

-- the bytes of an adder before the number at hand
data Before : Front → List ℕ → Type 0 where
  nothing : Before Nothing []
  left_source : {s : ℕ} {t : List ℕ} → Decimal s t → Before (LeftSource s) (t ++ 46 ∷ [])
  left : {l : Operand} {g : Sign} {t : List ℕ} → OperandForm l t → Before (Left l g) (t ++ mark g ∷ [])
  right_source : {l : Operand} {g : Sign} {s : ℕ} {t u : List ℕ} → OperandForm l t → Decimal s u → Before (RightSource l g s) (t ++ mark g ∷ (u ++ 46 ∷ []))

-- the bytes of a part, from the end of the last adder
data Tail : Part → List ℕ → Type 0 where
  tail : {f : Front} {n : Number} {p m : List ℕ} → Before f p → Digits n m → Tail (Body f n) (p ++ m)

fresh : {f : Front} {p : List ℕ} → Before f p → Tail (Body f Empty) p
fresh {f} {p} b = subst (Tail (Body f Empty)) (append-nil p) (tail b none_yet)

abbrev Grown : Option Number → List ℕ → Type 0
Grown (Some n) m = Digits n m
Grown None m = Unit {0}

digit_digits : (d : ℕ) → d ≤ 9 → Digits (digit d) ((48 + d) ∷ [])
digit_digits zero h = nought
digit_digits (suc d) h = rw (digit_open (suc d) (omega arith)) (single {d = suc d} (omega arith) h)

push_digits : {n : Number} {m : List ℕ} (d : ℕ) → d ≤ 9 → Digits n m → Grown (push n d) (m ++ (48 + d) ∷ [])
push_digits d h none_yet = digit_digits d h
push_digits d h (single a b) = both a b h
push_digits d h nought = tt
push_digits d h (both a b c) = tt

-- the number that stands there
Valued : Option ℕ → List ℕ → Type 0
Valued (Some v) m = Decimal v m
Valued None m = m ≡ []

valued : {n : Number} {m : List ℕ} → Digits n m → Valued (value n) m
unfolding Valued
valued none_yet = refl
valued (single a b) = one b
valued nought = one {d = 0} (omega arith)
valued (both a b c) = two a b c

-- a part with one byte more
abbrev Moved : Option Move → List ℕ → Type 0
Moved (Some (On q)) t = Tail q t
Moved (Some (Done a)) t = (u : List ℕ) × AdderForm a u × (t ≡ u ++ 32 ∷ [])
Moved None t = Unit {0}

growing : {f : Front} {p : List ℕ} (o : Option Number) (m : List ℕ) → Before f p → Grown o m → Moved (grown f o) (p ++ m)
growing (Some k) m b h = tail b h
growing None m b h = tt

-- the number w, written m, is at its end
dot_step : {f : Front} {p : List ℕ} (w : ℕ) (m : List ℕ) → Before f p → Decimal w m → Moved (after_dot f w) ((p ++ m) ++ 46 ∷ [])
dot_step w m nothing h = fresh (left_source h)
dot_step w m (left_source a) h = tt
dot_step w m (left {l = l} {g = g} {t = t} a) h =
    let same : t ++ mark g ∷ (m ++ 46 ∷ []) ≡ ((t ++ mark g ∷ []) ++ m) ++ 46 ∷ [] = simp append_assoc in subst (Tail (Body (RightSource l g w) Empty)) same (fresh (right_source a h))
dot_step w m (right_source a d) h = tt

mark_step : {f : Front} {p : List ℕ} (k : Sign) (w : ℕ) (m : List ℕ) → Before f p → Decimal w m → Moved (after_mark k f w) ((p ++ m) ++ mark k ∷ [])
mark_step k w m nothing h = tt
mark_step k w m (left_source {s = s} {t = t} a) h = subst (λ u. Tail (Body (Left (record { source = s; shift = w }) k) Empty) (u ++ mark k ∷ [])) (sym (append_assoc t (46 ∷ []) m)) (fresh (left (operand a h)))
mark_step k w m (left a) h = tt
mark_step k w m (right_source a d) h = tt

space_step : {f : Front} {p : List ℕ} (w : ℕ) (m : List ℕ) → Before f p → Decimal w m → Moved (after_space f w) ((p ++ m) ++ 32 ∷ [])
space_step w m nothing h = tt
space_step w m (left_source a) h = tt
space_step w m (left a) h = tt
space_step w m (right_source {g = g} {t = t} {u = u} a d) h = (t ++ mark g ∷ (u ++ 46 ∷ m), adder a (operand d h), simp append_assoc)

close_step : {f : Front} {p : List ℕ} (w : ℕ) (m : List ℕ) (b : ℕ) (y : Symbol) → Before f p → Decimal w m → Means y b → Moved (closed f w y) ((p ++ m) ++ b ∷ [])
close_step w m b (Digit d) x h e = tt
close_step {f} {p} w m b Dot x h e = subst (λ c. Moved (after_dot f w) ((p ++ m) ++ c ∷ [])) (sym e) (dot_step w m x h)
close_step {f} {p} w m b (Mark g) x h e = subst (λ c. Moved (after_mark g f w) ((p ++ m) ++ c ∷ [])) (sym e) (mark_step g w m x h)
close_step {f} {p} w m b Space x h e = subst (λ c. Moved (after_space f w) ((p ++ m) ++ c ∷ [])) (sym e) (space_step w m x h)

end_step : {f : Front} {p : List ℕ} (v : Option ℕ) (m : List ℕ) (b : ℕ) (y : Symbol) → Before f p → Valued v m → Means y b → Moved (ended f v y) ((p ++ m) ++ b ∷ [])
unfolding Valued
end_step (Some w) m b y f h e = close_step w m b y f h e
end_step None m b y f h e = tt

symbol_step : {f : Front} {n : Number} {p m : List ℕ} (b : ℕ) (y : Symbol) → Before f p → Digits n m → Means y b → Moved (on_symbol f n y) ((p ++ m) ++ b ∷ [])
symbol_step {f} {n} {p} {m} b (Digit d) x h e =
    subst (Moved (grown f (push n d))) (sym (append_assoc p m (b ∷ [])))
    (growing (push n d) (m ++ b ∷ []) x (subst (λ c. Grown (push n d) (m ++ c ∷ [])) (sym e.0) (push_digits d e.1 h)))
symbol_step {f} {n} {p} {m} b Dot x h e = end_step (value n) m b Dot x (valued h) e
symbol_step {f} {n} {p} {m} b (Mark g) x h e = end_step (value n) m b (Mark g) x (valued h) e
symbol_step {f} {n} {p} {m} b Space x h e = end_step (value n) m b Space x (valued h) e

byte_step : {f : Front} {n : Number} {p m : List ℕ} (b : ℕ) (y : Option Symbol) → Before f p → Digits n m → ByteMeans y b → Moved (on_byte f n y) ((p ++ m) ++ b ∷ [])
byte_step b (Some y) x h e = symbol_step b y x h e
byte_step b None x h e = tt

tail_step : {p : Part} {t : List ℕ} → Tail p t → (b : ℕ) → Moved (step p b) (t ++ b ∷ [])
tail_step (tail x h) b = byte_step b (symbol b) x h (means b)

-- the bytes that lead to a state
data Text : List Adder → Part → List ℕ → Type 0 where
  in_key : {k : ℕ} → k ≤ 5 → Text [] (Key k) (take k key)
  in_body : {xs : List Adder} {p : Part} {ts t : List ℕ} → AddersForm xs ts → Tail p t → Text xs p (key ++ (ts ++ t))

abbrev Kept : State → List ℕ → Type 0
Kept (at xs p) bs = Text xs p bs
Kept dead bs = Unit {0}

adders_append : {xs ys : List Adder} {ts us : List ℕ} → AddersForm xs ts → AddersForm ys us → AddersForm (xs ++ ys) (ts ++ us)
adders_append none b = b
adders_append {xs} {ys} {ts} {us} (more {a = a} {xs = xs'} {t = t} {ts = ts'} x y) b =
    subst (AddersForm (a ∷ (xs' ++ ys))) (sym (append_assoc t (32 ∷ ts') us)) (more x (adders_append y b))

body_step : {xs : List Adder} {ts : List ℕ} (t : List ℕ) (b : ℕ) (m : Option Move) → AddersForm xs ts → Moved m (t ++ b ∷ []) → Kept (moved xs m) ((key ++ (ts ++ t)) ++ b ∷ [])
body_step {xs} {ts} t b (Some (On q)) f h = subst (Text xs q) (ap (λ l. key ++ l) (sym (append_assoc ts t (b ∷ [])))) (in_body f h)
body_step {xs} {ts} t b (Some (Done a)) f h =
    subst (Text (xs ++ a ∷ []) (Body Nothing Empty))
    (ap (λ l. key ++ l) (append-nil _ ∙ ap (λ l. ts ++ l) (sym h.2) ∙ sym (append_assoc ts t (b ∷ []))))
    (in_body (adders_append f (more h.1 none)) (fresh nothing))
body_step t b None f h = tt

key_step : (k b : ℕ) → k ≤ 5 → Kept (moved [] (on_key k b)) (take k key ++ b ∷ [])
key_step k b h =
    let c = get_or key k 0 in
    let there : slice_get key k ≡ Some c = slice_get-get_or key k 0 (omega arith) in
    let Goes = λ (m : Option Move). Kept (moved [] m) (take k key ++ b ∷ []) in
    subst (λ o. Goes (keyed k b o)) (sym there)
    (cond_both (eqb b c) _ None Goes
    (λ e.
    let more : take k key ++ b ∷ [] ≡ take (k + 1) key = ap (λ d. take k key ++ d ∷ []) (eqb-true b _ e) ∙ sym (take_more key k 0 (omega arith)) in
    cond_both (eqb (k + 1) 6) (Body Nothing Empty) (Key (k + 1)) (λ q. Text [] q (take k key ++ b ∷ []))
    (λ f. subst (Text [] (Body Nothing Empty)) (ap (λ j. take j key) (sym (eqb-true (k + 1) 6 f)) ∙ sym more) (in_body none (fresh nothing)))
    (λ f. subst (Text [] (Key (k + 1))) (sym more) (in_key (omega (arith, eqb-false (k + 1) 6 f)))))
    (λ e. tt))

text_step : {xs : List Adder} {p : Part} {bs : List ℕ} → Text xs p bs → (b : ℕ) → Kept (next (at xs p) b) (bs ++ b ∷ [])
text_step (in_key {k = k} h) b = key_step k b h
text_step (in_body {p = p} {t = t} f h) b = body_step t b (step p b) f (tail_step h b)

kept_step : (s : State) (bs : List ℕ) (b : ℕ) → Kept s bs → Kept (next s b) (bs ++ b ∷ [])
kept_step (at xs p) bs b h = text_step h b
kept_step dead bs b h = tt

kept_run : (s : State) (p q : List ℕ) → Kept s p → Kept (run s q) (p ++ q)
kept_run s p [] h = subst (Kept s) (sym (append-nil p)) h
kept_run s p (b ∷ q) h = subst (Kept (run (next s b) q)) (append_assoc p (b ∷ []) q) (kept_run (next s b) (p ++ b ∷ []) q (kept_step s p b h))

kept : (bs : List ℕ) → Kept (run start bs) bs
kept bs = kept_run start [] bs (in_key {k = 0} (omega arith))

-- Every state goes on to a line of the form.

zero_decimal : Decimal 0 (48 ∷ [])
zero_decimal = one {d = 0} (omega arith)

record Finish (m : List ℕ) : Type 0 where
  more_digits : List ℕ
  total : ℕ
  is : Decimal total (m ++ more_digits)

finish : {n : Number} {m : List ℕ} → Digits n m → Finish m
finish none_yet = record { more_digits = 48 ∷ []; total = 0; is = zero_decimal }
finish (single {d = d} a b) = record { more_digits = []; total = d; is = one b }
finish nought = record { more_digits = []; total = 0; is = zero_decimal }
finish (both {d = d} {e = e} a b c) = record { more_digits = []; total = 10 * d + e; is = two a b c }

-- some bytes that end what a part begins: its adder, if it is in one, and the output shift
record Finished (t : List ℕ) : Type 0 where
  rest : List ℕ
  adders : List Adder
  bytes : List ℕ
  form : AddersForm adders bytes
  out : ℕ
  digits : List ℕ
  shift : Decimal out digits
  same : t ++ rest ≡ bytes ++ digits

-- an adder, and 0 for the output shift
last_adder : {t : List ℕ} (rest : List ℕ) (a : Adder) (u : List ℕ) → AdderForm a u → t ++ rest ≡ (u ++ 32 ∷ []) ++ 48 ∷ [] → Finished t
last_adder rest a u form same = record { rest = rest; adders = a ∷ []; bytes = u ++ 32 ∷ []; form = more form none; out = 0; digits = 48 ∷ []; shift = zero_decimal; same = same }

finish_tail : {p : Part} {t : List ℕ} → Tail p t → Finished t
finish_tail (tail nothing h) =
    let f = finish h in
    record { rest = f.more_digits; adders = []; bytes = []; form = none; out = f.total; digits = _; shift = f.is; same = refl }
finish_tail (tail (left_source {s = s} a) h) =
    let f = finish h in
    last_adder (f.more_digits ++ codes "+0.0 0") (record { left = record { source = s; shift = f.total }; sign = Plus; right = record { source = 0; shift = 0 } }) _
    (adder (operand a f.is) (operand zero_decimal zero_decimal)) (simp append_assoc)
finish_tail (tail (left {l = l} {g = g} a) h) =
    let f = finish h in
    last_adder (f.more_digits ++ codes ".0 0") (record { left = l; sign = g; right = record { source = f.total; shift = 0 } }) _
    (adder a (operand f.is zero_decimal)) (simp append_assoc)
finish_tail (tail (right_source {l = l} {g = g} {s = s} a c) h) =
    let f = finish h in
    last_adder (f.more_digits ++ codes " 0") (record { left = l; sign = g; right = record { source = s; shift = f.total } }) _
    (adder a (operand c f.is)) (simp append_assoc)

text_viable : {xs : List Adder} {p : Part} {bs : List ℕ} → Text xs p bs → Viable Form bs
text_viable (in_key {k = k} h) =
    (drop k key ++ 48 ∷ [], ([], 0, subst (Line [] 0) (ap (λ l. l ++ 48 ∷ []) (sym (take-append-drop k key)) ∙ append_assoc (take k key) (drop k key) (48 ∷ [])) (line none zero_decimal)))
text_viable (in_body {xs = xs} {ts = ts} {t = t} f h) =
    let e = finish_tail h in (
      e.rest,
      (
        xs ++ e.adders,
        e.out,
        subst (Line (xs ++ e.adders) e.out)
            (ap (λ l. key ++ l) (append_assoc ts e.bytes e.digits ∙ ap (λ l. ts ++ l) (sym e.same) ∙ sym (append_assoc ts t e.rest)))
            (line (adders_append f e.form) e.shift),
      ),
    )

-- What the run says of the form.

pub viable : (bs : List ℕ) (xs : List Adder) (p : Part) → run start bs ≡ at xs p → Viable Form bs
viable bs xs p e = text_viable (subst (λ s. Kept s bs) e (kept bs))

pub not_viable : (bs : List ℕ) → run start bs ≡ dead → Viable Form bs → ⊥
not_viable bs e v =
    let r = run_line v.1.2 in
    let same = sym (run_dead v.0) ∙ ap (λ s. run s v.0) (sym e) ∙ sym (run_append start bs v.0) ∙ r.runs in
    cc same

ending : {xs : List Adder} {p : Part} {bs : List ℕ} (out : ℕ) → Text xs p bs → final p ≡ Some out → Line xs out bs
unfolding Valued
ending out (in_key h) g = cc g
ending out (in_body a (tail {m = m} nothing h)) g = line a (subst (λ v. Valued v m) g (valued h))
ending out (in_body a (tail (left_source x) h)) g = cc g
ending out (in_body a (tail (left x) h)) g = cc g
ending out (in_body a (tail (right_source x y) h)) g = cc g

-- a line that may end where it does says the adders that were read
pub said : (bs : List ℕ) (xs : List Adder) (p : Part) (out : ℕ) → run start bs ≡ at xs p → final p ≡ Some out → Line xs out bs
said bs xs p out e f = ending out (subst (λ s. Kept s bs) e (kept bs)) f

abbrev end : State → Option ℕ
end (at xs p) = final p
end dead = None

pub unsaid : (bs : List ℕ) (xs : List Adder) (p : Part) → run start bs ≡ at xs p → final p ≡ None → Form bs → ⊥
unsaid bs xs p e f v = let r = run_line v.2 in none-some _ (sym f ∙ ap end (sym e ∙ r.runs) ∙ r.is)

-- a line says one list of adders and one output shift
pub says_one : {xs ys : List Adder} {m n : ℕ} {bs : List ℕ} → Line xs m bs → Line ys n bs → (xs ≡ ys) × (m ≡ n)
says_one {xs} {ys} {m} {n} a b =
    let r = run_line a in
    let q = run_line b in
    let e = sym r.runs ∙ q.runs in
    let f = sym r.is ∙ ap end e ∙ q.is in
    (cc e, cc f)

-- The reader as an automaton, which the code follows step by step. What it comes to is stated over the form.
use Rattle.std.specs.Prelude.{ℕ, ◌+◌, ◌*◌, List, [], ◌∷◌, ◌++◌, Some, None, Option, ◌==◌, slice_get, if◌then◌else◌, option_and_then}
use Rattle.std.specs.Option.{option_map}
use Rattle.adders.specs.declared.wiring.Adder.{Adder}
use Rattle.adders.specs.declared.wiring.Sign.{Sign}
use Rattle.adders.specs.declared.wiring.Sign.TheVariants.{Plus, Minus}
use Rattle.forms.specs.Digits.{digit}
use Rattle.lines.specs.declared.scan.Symbol.{Symbol}
use Rattle.lines.specs.declared.scan.Symbol.TheVariants.{Digit, Dot, Mark, Space}
use Rattle.lines.specs.declared.scan.Number.{Number}
use Rattle.lines.specs.declared.scan.Number.TheVariants.{Empty, Open, Full}
use Rattle.lines.specs.declared.scan.Front.{Front}
use Rattle.lines.specs.declared.scan.Front.TheVariants.{Nothing, LeftSource, Left, RightSource}
use Rattle.lines.specs.declared.scan.Part.{Part}
use Rattle.lines.specs.declared.scan.Part.TheVariants.{Key, Body}
use Rattle.lines.specs.declared.scan.Move.{Move}
use Rattle.lines.specs.declared.scan.Move.TheVariants.{On, Done}
use Rattle.lines.specs.Form.{key}

abbrev pub symbol : ℕ → Option Symbol
symbol b = if b == 46 then Some Dot else if b == 43 then Some (Mark Plus) else if b == 45 then Some (Mark Minus) else if b == 32 then Some Space else option_map (λ d. Digit d) (digit b)

-- one more digit; a zero is a number of its own
abbrev pub push : Number → ℕ → Option Number
push Empty d = Some (if d == 0 then Full 0 else Open d)
push (Open n) d = Some (Full (10 * n + d))
push (Full n) d = None

-- the number, where there is one
abbrev pub value : Number → Option ℕ
value Empty = None
value (Open n) = Some n
value (Full n) = Some n

-- the number goes on by a digit
abbrev pub grown : Front → Option Number → Option Move
grown f o = option_map (λ m. On (Body f m)) o

-- the number n after a front is at its end: a dot ends a source, a sign the left shift, a space the right shift, and nothing else does
abbrev pub after_dot : Front → ℕ → Option Move
after_dot Nothing n = Some (On (Body (LeftSource n) Empty))
after_dot (LeftSource s) n = None
after_dot (Left l g) n = Some (On (Body (RightSource l g n) Empty))
after_dot (RightSource l g s) n = None

abbrev pub after_mark : Sign → Front → ℕ → Option Move
after_mark h Nothing n = None
after_mark h (LeftSource s) n = Some (On (Body (Left (record { source = s; shift = n }) h) Empty))
after_mark h (Left l g) n = None
after_mark h (RightSource l g s) n = None

abbrev pub after_space : Front → ℕ → Option Move
after_space Nothing n = None
after_space (LeftSource s) n = None
after_space (Left l g) n = None
after_space (RightSource l g s) n = Some (Done (record { left = l; sign = g; right = record { source = s; shift = n } }))

abbrev pub closed : Front → ℕ → Symbol → Option Move
closed f n (Digit d) = None
closed f n Dot = after_dot f n
closed f n (Mark g) = after_mark g f n
closed f n Space = after_space f n

abbrev pub ended : Front → Option ℕ → Symbol → Option Move
ended f v y = option_and_then (λ n. closed f n y) v

abbrev pub on_symbol : Front → Number → Symbol → Option Move
on_symbol f m (Digit d) = grown f (push m d)
on_symbol f m Dot = ended f (value m) Dot
on_symbol f m (Mark g) = ended f (value m) (Mark g)
on_symbol f m Space = ended f (value m) Space

abbrev pub on_byte : Front → Number → Option Symbol → Option Move
on_byte f m y = option_and_then (on_symbol f m) y

-- byte k of the key, where there is one
abbrev pub keyed : ℕ → ℕ → Option ℕ → Option Move
keyed k b o = option_and_then (λ c. if b == c then Some (On (if k + 1 == 6 then Body Nothing Empty else Key (k + 1))) else None) o

abbrev pub on_key : ℕ → ℕ → Option Move
on_key k b = keyed k b (slice_get key k)

abbrev pub step : Part → ℕ → Option Move
step (Key k) b = on_key k b
step (Body f m) b = on_byte f m (symbol b)

-- the same in place: what is whole now, and the part behind it
abbrev pub made : Option (Option Adder) → Part → Option Move
made None p = None
made (Some None) p = Some (On p)
made (Some (Some a)) p = Some (Done a)

-- the output shift, where the line may end here
abbrev pub at_end : Front → Option ℕ → Option ℕ
at_end Nothing v = v
at_end (LeftSource s) v = None
at_end (Left l g) v = None
at_end (RightSource l g s) v = None

abbrev pub final : Part → Option ℕ
final (Key k) = None
final (Body f m) = at_end f (value m)

-- The automaton, run over bytes: the adders that are read and the part that is being read, or a line that is broken.
pub data State : Type 0 where
  at : List Adder → Part → State
  dead : State

abbrev pub moved : List Adder → Option Move → State
moved xs (Some (On q)) = at xs q
moved xs (Some (Done a)) = at (xs ++ a ∷ []) (Body Nothing Empty)
moved xs None = dead

abbrev pub next : State → ℕ → State
next (at xs p) b = moved xs (step p b)
next dead b = dead

abbrev pub run : State → List ℕ → State
run s [] = s
run s (b ∷ bs) = run (next s b) bs

abbrev pub start : State
start = at [] (Key 0)

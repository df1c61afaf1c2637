-- Lines of unit prices, as they are read part by part.
use Rattle.std.proofs.Common.{◌≡◌, ℕ, List, ◌∷◌, ◌++◌, Ok, Err, Result, decimal, sym, refl, ap, ◌∙◌, arith}
use Rattle.std.proofs.lemmas.List.{append_cancel_left}
use Rattle.std.proofs.lemmas.Fmt.{decimal_injective}
use Rattle.forms.specs.declared.error.FormError.{FormError}
use Rattle.forms.specs.Breaking.{BrokenAt}
use Rattle.forms.specs.Keys.{KeyThen}
use Rattle.forms.specs.Parts.{SpaceBetween}
use Rattle.forms.proofs.Breaks.{breaks_once, broken_alike}
use Rattle.integers.specs.Naturals.{NineDigits, FormUpTo}
use Rattle.integers.proofs.Readings.{number_before_space, small_said, small_told}
use Rattle.prices.specs.declared.per_bit.UnitPrices.{UnitPrices}
use Rattle.units.specs.Form.{key, UnitsLine, Form, Reading}

-- a line as its parts are read
abbrev pub PartsLine : UnitPrices → List ℕ → Type 0
PartsLine u = KeyThen key (SpaceBetween (NineDigits u.adds) (SpaceBetween (NineDigits u.subtracts) (SpaceBetween (NineDigits u.both) (NineDigits u.two_to_one))))

abbrev pub PartsForm : List ℕ → Type 0
PartsForm = KeyThen key (SpaceBetween (FormUpTo 999999999) (SpaceBetween (FormUpTo 999999999) (SpaceBetween (FormUpTo 999999999) (FormUpTo 999999999))))

pub told : (u : UnitPrices) (bs : List ℕ) → PartsLine u bs → UnitsLine u bs
told u bs line =
    let first = line.holds in
    let second = first.behind in
    let third = second.behind in
    record {
      written =
          line.whole ∙ ap (λ l. key ++ l) (
          first.whole ∙ (λ i. first.before.written i ++ 32 ∷ second.whole i)
          ∙ ap (λ l. decimal u.adds ++ 32 ∷ l) ((λ i. second.before.written i ++ 32 ∷ third.whole i)
          ∙ ap (λ l. decimal u.subtracts ++ 32 ∷ l) (λ i. third.before.written i ++ 32 ∷ third.behind.written i))
          );
      adds = small_told first.before;
      subtracts = small_told second.before;
      both = small_told third.before;
      two_to_one = small_told third.behind;
    }

formed : (bs : List ℕ) → PartsForm bs → Form bs
formed bs line =
    let first = line.holds in
    let second = first.behind in
    let third = second.behind in
    let u : UnitPrices = record { adds = first.before.0; subtracts = second.before.0; both = third.before.0; two_to_one = third.behind.0 } in (
      u,
      told u bs (record {
        rest = line.rest;
        whole = line.whole;
        holds = record {
          front = first.front;
          back = first.back;
          whole = first.whole;
          before = first.before.1;
          behind = record {
            front = second.front;
            back = second.back;
            whole = second.whole;
            before = second.before.1;
            behind = record { front = third.front; back = third.back; whole = third.whole; before = third.before.1; behind = third.behind.1 };
          };
        };
      }),
    )

parted : (bs : List ℕ) → Form bs → PartsForm bs
parted bs (u, is) = record {
  rest = decimal u.adds ++ 32 ∷ (decimal u.subtracts ++ 32 ∷ (decimal u.both ++ 32 ∷ decimal u.two_to_one));
  whole = is.written;
  holds = record {
    front = decimal u.adds;
    back = decimal u.subtracts ++ 32 ∷ (decimal u.both ++ 32 ∷ decimal u.two_to_one);
    whole = refl;
    before = (u.adds, small_said u.adds is.adds);
    behind = record {
      front = decimal u.subtracts;
      back = decimal u.both ++ 32 ∷ decimal u.two_to_one;
      whole = refl;
      before = (u.subtracts, small_said u.subtracts is.subtracts);
      behind = record {
        front = decimal u.both;
        back = decimal u.two_to_one;
        whole = refl;
        before = (u.both, small_said u.both is.both);
        behind = (u.two_to_one, small_said u.two_to_one is.two_to_one);
      };
    };
  };
}

pub broken : (bs : List ℕ) (i : ℕ) → BrokenAt PartsForm bs i → BrokenAt Form bs i
broken = broken_alike PartsForm Form formed parted

-- A line is read in one way.
line_one : (u v : UnitPrices) (bs : List ℕ) → UnitsLine u bs → UnitsLine v bs → u ≡ v
line_one u v bs a b =
    let first = number_before_space u.adds v.adds _ _ a.adds b.adds (append_cancel_left key _ _ (sym a.written ∙ b.written)) in
    let second = number_before_space u.subtracts v.subtracts _ _ a.subtracts b.subtracts first.1 in
    let third = number_before_space u.both v.both _ _ a.both b.both second.1 in
    let low = a.two_to_one in
    let small = b.two_to_one in
    let fourth = decimal_injective u.two_to_one v.two_to_one (omega arith) (omega arith) third.1 in
    λ i. record { adds = first.0 i; subtracts = second.0 i; both = third.0 i; two_to_one = fourth i }

pub reading_one : (bs : List ℕ) (r s : Result UnitPrices FormError) → Reading bs s → Reading bs r → s ≡ r
reading_one bs (Ok u) (Ok v) b a = ap Ok (line_one v u bs b a)
reading_one bs (Ok u) (Err j) b a = absurd (b.broken (u, a))
reading_one bs (Err i) (Ok v) b a = absurd (a.broken (v, b))
reading_one bs (Err i) (Err j) b a = ap (λ n. Err (record { place = n })) (breaks_once Form bs j.place i.place b a)

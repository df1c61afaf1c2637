-- The line of a port, from what is kept of it.
use Rattle.std.proofs.Common.{◌≡◌, ℕ, ◌≤◌, true, false, not, ◌&&◌, List, length, Some, None, Ok, Err, sym, refl, ap, ◌∙◌}
use Rattle.std.specs.List.{list_all}
use Rattle.std.proofs.lemmas.List.{take_all}
use Rattle.std.proofs.lemmas.Bool.{ltb-true, ltb-false, lt-leb, le-leb}
use Rattle.adders.specs.declared.wiring.Operand.{Operand}
use Rattle.adders.specs.declared.refusals.Refusal.TheVariants.{SheetForm, SheetLimit, InputRepeated}
use Rattle.ports.specs.declared.port.Port.{Port}
use Rattle.texts.specs.declared.listing.Listing.{Listing}
use Rattle.texts.specs.Steps.{Read}
use Rattle.texts.specs.Pieces.{port_line_at}
use Rattle.texts.specs.Listings.{Lists, ListingRead}
use Rattle.reading.specs.Stages.{◌>>=◌, or_refused, if_passed}
use Rattle.reading.specs.Repeats.{repeats}
use Rattle.reading.specs.Reader.{bound, allowed, within_limits, read_port}

none_read : (r : Read (List Operand)) → ListingRead None r → r ≡ None
none_read None h = refl
none_read (Some os) h = absurd h

pub some_read : (l : Listing × List ℕ) (r : Read (List Operand)) → ListingRead (Some l) r → (os : List Operand) × (r ≡ Some (os, l.1)) × Lists l.0 os
some_read l None h = absurd h
some_read l (Some os) h = (os.0, ap (λ t. Some (os.0, t)) (sym h.1), h.0)

module _ (a n : ℕ) (p : Port) (text : List ℕ) where
  pub no_line : ListingRead None (port_line_at p text) → read_port a n p text ≡ Err (SheetForm n)
  unfolding read_port
  no_line h = ap (λ r. or_refused (SheetForm n) r >>= λ os. if_passed (within_limits (bound a p) os.0) (SheetLimit n) os.0 >>= λ inputs. if_passed (not (repeats inputs)) (InputRepeated n) os) (none_read (port_line_at p text) h)

  module _ (l : Listing) (rest : List ℕ) (os : List Operand) (read : port_line_at p text ≡ Some (os, rest)) (lists : Lists l os) where
    -- what is tested of the inputs
    tested : read_port a n p text ≡ (if_passed (within_limits (bound a p) os) (SheetLimit n) os >>= λ inputs. if_passed (not (repeats inputs)) (InputRepeated n) (os, rest))
    unfolding read_port
    tested = ap (λ r. or_refused (SheetForm n) r >>= λ os. if_passed (within_limits (bound a p) os.0) (SheetLimit n) os.0 >>= λ inputs. if_passed (not (repeats inputs)) (InputRepeated n) os) read

    past_limits : within_limits (bound a p) os ≡ false → read_port a n p text ≡ Err (SheetLimit n)
    past_limits e = tested ∙ ap (λ b. if_passed b (SheetLimit n) os >>= λ inputs. if_passed (not (repeats inputs)) (InputRepeated n) (os, rest)) e

    pub too_many : l.more ≡ true → read_port a n p text ≡ Err (SheetLimit n)
    too_many e = past_limits (ap (λ b. b && list_all (allowed (bound a p)) os) (lt-leb (length os) 16 (ltb-true 16 (length os) (sym lists.more ∙ e))))

    module _ (few : l.more ≡ false) where
      short : length os ≤ 16
      short = ltb-false 16 (length os) (sym lists.more ∙ few)

      all_kept : l.first ≡ os
      all_kept = lists.first ∙ take_all 16 os short

      limits : within_limits (bound a p) os ≡ list_all (allowed (bound a p)) l.first
      limits = ap (λ b. b && list_all (allowed (bound a p)) os) (le-leb (length os) 16 short) ∙ ap (list_all (allowed (bound a p))) (sym all_kept)

      pub not_allowed : list_all (allowed (bound a p)) l.first ≡ false → read_port a n p text ≡ Err (SheetLimit n)
      not_allowed e = past_limits (limits ∙ e)

      module _ (fine : list_all (allowed (bound a p)) l.first ≡ true) where
        judged : read_port a n p text ≡ if_passed (not (repeats l.first)) (InputRepeated n) (l.first, rest)
        judged =
            tested ∙ ap (λ b. if_passed b (SheetLimit n) os >>= λ inputs. if_passed (not (repeats inputs)) (InputRepeated n) (os, rest)) (limits ∙ fine)
            ∙ ap (λ ys. if_passed (not (repeats ys)) (InputRepeated n) (ys, rest)) (sym all_kept)

        pub twice : repeats l.first ≡ true → read_port a n p text ≡ Err (InputRepeated n)
        twice e = judged ∙ ap (λ b. if_passed (not b) (InputRepeated n) (l.first, rest)) e

        pub read_line : repeats l.first ≡ false → read_port a n p text ≡ Ok (l.first, rest)
        read_line e = judged ∙ ap (λ b. if_passed (not b) (InputRepeated n) (l.first, rest)) e

-- The steps of the reader.
use Rattle.std.proofs.Common.{◌≡◌, ℕ, ◌<◌, ◌≤◌, List, [], ◌∷◌, ◌++◌, length, Some, None, Option, sym, ap, ◌∙◌, ⊎_elim, arith}
use Rattle.std.proofs.lemmas.List.{take_all, take-append-le, length-take, length_push}
use Rattle.std.proofs.lemmas.Bool.{cases_lt}
use Rattle.adders.specs.declared.wiring.Adder.{Adder}
use Rattle.forms.specs.Breaking.{Viable}
use Rattle.lines.specs.declared.scan.Part.{Part}
use Rattle.lines.specs.declared.scan.Part.TheVariants.{Key, Body}
use Rattle.lines.specs.declared.scan.Front.TheVariants.{Nothing}
use Rattle.lines.specs.declared.scan.Number.TheVariants.{Empty}
use Rattle.lines.specs.declared.scan.Move.{Move}
use Rattle.lines.specs.declared.scan.Move.TheVariants.{On, Done}
use Rattle.lines.specs.declared.draft.Draft.{Draft}
use Rattle.lines.specs.declared.reader.Reader.{Reader}
use Rattle.lines.specs.Form.{Form}
use Rattle.lines.specs.Scan.{step, final, at, moved, next, run, start}
use Rattle.lines.specs.Drafts.{Holds, Says}
use Rattle.lines.specs.Reading.{Reached}
use Rattle.lines.proofs.Runs.{run_append}
use Rattle.lines.proofs.Texts.{viable, not_viable, said}

reached_at : (bs : List ℕ) (reader : Reader) (xs : List Adder) → run start bs ≡ at xs reader.part → Holds reader.adders xs → Reached bs reader
reached_at bs reader xs ran holds = record { viable = viable bs xs reader.part ran; all = xs; ran = ran; holds = holds }

pub reached_start : (reader : Reader) → reader.part ≡ Key 0 → reader.adders ≡ [] → Reached [] reader
reached_start reader part none = reached_at [] reader [] (ap (at []) (sym part)) none

-- one byte more
run_more : (bs : List ℕ) (b : ℕ) (xs : List Adder) (p : Part) → run start bs ≡ at xs p → (m : Option Move) → step p b ≡ m → run start (bs ++ b ∷ []) ≡ moved xs m
run_more bs b xs p ran m e = run_append start bs (b ∷ []) ∙ ap (λ s. next s b) ran ∙ ap (moved xs) e

pub step_off : (bs : List ℕ) (b : ℕ) (reader : Reader) → Reached bs reader → step reader.part b ≡ None → ¬ Viable Form (bs ++ b ∷ [])
step_off bs b reader reached e = not_viable (bs ++ b ∷ []) (run_more bs b reached.all reader.part reached.ran None e)

pub step_on : (bs : List ℕ) (b : ℕ) (reader : Reader) (q : Part) → Reached bs reader → step reader.part b ≡ Some (On q) → Reached (bs ++ b ∷ []) (record { adders = reader.adders; part = q })
step_on bs b reader q reached e = reached_at (bs ++ b ∷ []) _ reached.all (run_more bs b reached.all reader.part reached.ran (Some (On q)) e) reached.holds

-- one adder more, which is let go where nine are kept
holds_more : (kept after xs : List Adder) (a : Adder) → Holds kept xs → (length kept < 9 → after ≡ kept ++ a ∷ []) → (9 ≤ length kept → after ≡ kept) → Holds after (xs ++ a ∷ [])
holds_more kept after xs a h room full =
    let count = ap length h ∙ length-take 9 xs in
    ⊎_elim
    (λ few.
    let all = h ∙ take_all 9 xs (omega arith) in
    let longer = length_push xs a in
    room (omega arith) ∙ ap (λ l. l ++ a ∷ []) all ∙ sym (take_all 9 (xs ++ a ∷ []) (omega arith)))
    (λ (many : 9 ≤ length xs). full (omega arith) ∙ h ∙ sym (take-append-le 9 xs (a ∷ []) many))
    (cases_lt (length xs) 9)

pub step_done : (bs : List ℕ) (b : ℕ) (reader : Reader) (after : List Adder) (a : Adder) → Reached bs reader → step reader.part b ≡ Some (Done a)
    → (length reader.adders < 9 → after ≡ reader.adders ++ a ∷ []) → (9 ≤ length reader.adders → after ≡ reader.adders)
    → Reached (bs ++ b ∷ []) (record { adders = after; part = Body Nothing Empty })
step_done bs b reader after a reached e room full =
    reached_at (bs ++ b ∷ []) _ (reached.all ++ a ∷ []) (run_more bs b reached.all reader.part reached.ran (Some (Done a)) e) (holds_more reader.adders after reached.all a reached.holds room full)

-- where the line ends
pub end_on : (bs : List ℕ) (reader : Reader) (draft : Draft) → Reached bs reader → draft.adders ≡ reader.adders → final reader.part ≡ Some draft.shift → Says bs draft
end_on bs reader draft reached same e = record { all = reached.all; line = said bs reached.all reader.part draft.shift reached.ran e; holds = same ∙ reached.holds }

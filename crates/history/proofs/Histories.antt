-- Every list of calls.
use Rattle.std.proofs.Common.{Ok, Err, ap}
use Rattle.blocks.specs.declared.model.Block.{Block}
use Rattle.blocks.specs.Blocks.{Unfounded, row_constant_of}
use Rattle.blocks.specs.Calls.{founding, retiring, moving}
use Rattle.blocks.specs.Books.{Book, empty_book, Tells}
use Rattle.pricing.proofs.Comparing.{calls_never_cheapen}
use Rattle.history.specs.declared.outcome.Outcome.{Outcome}
use Rattle.history.specs.declared.outcome.Outcome.TheVariants.{Done, Priced, Refused}
use Rattle.history.specs.Events.{Event, calling, fusing, Step}
use Rattle.history.specs.Books.{noted}
use Rattle.history.specs.Histories.{NoDearer, Kept, EveryHistory}
use Rattle.history.proofs.Books.{events_follow_book}
use Rattle.history.proofs.Runs.{each_kept, told_last}

empty_told : (b : Block) → Unfounded b → Tells empty_book b
empty_told b u = record {
  adders = u.adders;
  constants = λ code. ap row_constant_of (u.idle code);
}

no_dearer : (e : Event) (b : Block) (o : Outcome) (m : Block) → Step e b o m → NoDearer e b m
no_dearer (calling (founding chain code width)) b o m s = tt
no_dearer (calling (retiring code)) b Done m s = calls_never_cheapen.retired code b m (Ok tt) s
no_dearer (calling (retiring code)) b (Priced price) m s = absurd s
no_dearer (calling (retiring code)) b (Refused e) m s = calls_never_cheapen.retired code b m (Err e) s
no_dearer (calling (moving code adder amount)) b o m s = tt
no_dearer (fusing chain code t) b o m s = tt

-- each call is kept
kept : (e : Event) (b : Block) (o : Outcome) (m : Block) → Step e b o m → (k : Book) → Tells k b → Kept k e b o m × Tells (noted k e) m
kept e b o m s k told = let follows = events_follow_book e b o m s k told in (record { told = told; step = s; judged = follows.0; no_dearer = no_dearer e b o m s }, follows.1)

pub every_history : EveryHistory
every_history start z es os u run =
    let each = each_kept Step noted Tells Kept kept empty_book start z es os (empty_told start u) run in
    record {
      start = start;
      unfounded = u;
      each = each;
      told = told_last Step noted Tells Kept empty_book start z es os each;
    }

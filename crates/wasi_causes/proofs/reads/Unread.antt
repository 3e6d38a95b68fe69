-- Trees that ask for no bytes of a connection, and how they are put together.
use Rattle.wasi_causes.proofs.Words.{Allows, Asks, Bool, Call, Entry, ErrorCode, Give, Item, List, OpId, Operation, Told, Who, bind, false}
use Rattle.wasi_causes.proofs.Words.{if◌then◌else◌, last_ask, poll_asks, true, ⊤}
use Rattle.std.proofs.Common.{Err, None, Ok, Option, Result, Some}
use Rattle.wasi_world.specs.Asks.{Ask}
use Rattle.wasi_world.specs.Operation.{Given, LastAsk, NothingLast}
use Rattle.wasi_world.specs.declared.call.Call.TheVariants as call
use Rattle.wasi_world.proofs.Allowed.{allows_then}
use Rattle.record_common.specs.Stops.{StopOf}
use Rattle.host_store.specs.Block.{Does, after_call, or_stop, or_trap}
use Rattle.wasi_walks.proofs.Fronts.{AsksBy, Checks, PollLaw, polls_by}

-- any call but a read
abbrev pub NoRead : Call → Type 0
NoRead (call.Read side size) = ⊥
NoRead _ = ⊤

abbrev pub Unasked : List Entry → OpId → Call → Type 0
Unasked es op c = NoRead c

-- The tree asks for no bytes.
pub record Unread {A : Type 0} (asks : Asks A) : Type 0 where
  pub along : (es : List Entry) → Allows Unasked (λ fs a. ⊤) es asks

-- == how such trees are put together
pub gives : {A : Type 0} (a : A) → Unread (Give a)
gives a = record { along = λ es. tt }

pub and_then : {A B : Type 0} {asks : Asks A} {f : A → Asks B} → Unread asks → ((a : A) → Unread (f a)) → Unread (bind asks f)
and_then {asks} {f} h k = record { along = λ es. allows_then Unasked (λ fs a. ⊤) (λ fs b. ⊤) es asks f (h.along es) (λ fs a t. (k a).along fs) }

pub and_gives : {A B : Type 0} {asks : Asks A} (f : A → B) → Unread asks → Unread (bind asks (λ a. Give (f a)))
and_gives f h = and_then h (λ a. gives (f a))

pub asks_one : {A : Type 0} {op : OpId} {c : Call} {next : Told → Asks A} → NoRead c → ((told : Told) → Unread (next told)) → Unread (Ask op c next)
asks_one n k = record { along = λ es. (n, λ told fits. (k told).along _) }

pub by_if : {A : Type 0} (b : Bool) (asks others : Asks A) → Unread asks → Unread others → Unread (if b then asks else others)
by_if true asks others h k = h
by_if false asks others h k = k

-- == one poll of an operation, whichever is left of it
no_read : (who : Who) (i : Item) (c : Call) → AsksBy who i c → NoRead c
no_read who _ _ (Checks a usage) = tt
no_read who _ _ _ = tt

last_unread : (who : Who) (es : List Entry) (l : LastAsk) (c : ErrorCode) (given : Given) → Allows Unasked (λ fs ended. ⊤) es (last_ask who l c given)
unfolding bind
last_unread who es NothingLast c given = tt
last_unread who es _ c given = (tt, λ t fits. tt)

poll_law : (who : Who) → PollLaw Unasked who (λ es items. ⊤) (λ es ended. ⊤)
poll_law who = record {
  asks = λ es i items c a k. (no_read who i c a, λ told fits. tt);
  writes = λ es b bytes items k. (tt, λ told fits front. tt);
  becomes = λ es i j items b k. tt;
  drops = λ es i items spent k. tt;
  ends = λ es i items c given k. last_unread who es who.last c given;
  waits = λ es items k. tt;
  done = λ es given g k. tt;
}

pub polled : (op : Operation) → Unread (poll_asks op)
polled op = record { along = λ es. polls_by (poll_law op.who) op.left es tt }

-- == lines of blocks
-- what follows a look-up
pub looks_up : {C S A B : Type 0} (next : A → Does C S B) (s : S) (o : Option A) → ((a : A) → Unread (next a s)) → Unread (or_trap next s o)
looks_up next s None k = gives _
looks_up next s (Some a) k = k a

-- a call, and what follows it
module _ {C S A B T E : Type 0} (seen : E → StopOf C) (put : S → T → S) (next : A → Does C S B) (s : S) where
  by_result : (r : Result A E) (now : S) → ((a : A) (t : S) → Unread (next a t)) → Unread (or_stop seen next r now)
  by_result (Ok a) now k = k a now
  by_result (Err e) now k = gives _

  pub calls : {asks : Asks (Result A E × T)} → Unread asks → ((a : A) (t : S) → Unread (next a t)) → Unread (bind asks (after_call seen put next s))
  calls h k = and_then h (λ done. by_result done.0 (put s done.1) k)

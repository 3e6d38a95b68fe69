-- Waits for pollables: at which of them a wait looks and in which order, what it finds, and what it answers then. A wait that is pending
-- looks again where it is polled; such a later look begins nothing.
use Rattle.std.specs.Prelude.{◌≡◌, ◌≢◌, ◌≤◌, ⊤, ℕ, suc, ◌==◌, Bool, true, false, if◌then◌else◌, List, [], ◌∷◌, ◌++◌, Some, Ok, IsSome}
use Rattle.wasi_world.specs.declared.call.Entry.{Entry}
use Rattle.wasi_world.specs.declared.ids.Ids.{Ids}
use Rattle.wasi_world.specs.declared.outcome.TrapKind.TheVariants.{EmptyList, NoSuchHandle}
use Rattle.wasi_world.specs.declared.outcome.WasiSocketsCtx.{WasiSocketsCtx}
use Rattle.wasi_world.specs.Asks.{Give, Left}
use Rattle.host_store.specs.declared.store.BlockingCall.{BlockingCall}
use Rattle.host_store.specs.declared.store.BlockingCall.TheVariants.{Block, Poll}
use Rattle.host_store.specs.declared.machine.Machine.{Machine}
use Rattle.wasi_host.specs.declared.polling.Look.{Look}
use Rattle.wasi_host.specs.declared.polling.Look.TheVariants.{First, Later}
use Rattle.host_store.specs.declared.store.StandingCall.{StandingCall}
use Rattle.host_store.specs.declared.store.StandingCall.TheVariants.{Blocking}
use Rattle.host_store.specs.Kinds.{kind_at, watch_of}
use Rattle.wasi_host.specs.Pollables.{ready_asks}
use Rattle.record_common.specs.Names.{first_ids}
use Rattle.wasi_host.specs.Polling.{Found, are_pollables, begins_at, ids_after_look, ready_places}
use Rattle.host_store.specs.Standing.{standing_as}
use Rattle.wasi_steps.specs.declared.reply.Reply.{Reply}
use Rattle.wasi_steps.specs.declared.reply.Reply.TheVariants as reply
use Rattle.wasi_steps.specs.declared.step.Step.{Step}
use Rattle.wasi_steps.specs.declared.guest_call.GuestCall.TheVariants as guest
use Rattle.wasi_steps.specs.declared.guest_call.PollableCall.TheVariants as pollable_call
use Rattle.wasi_steps.specs.declared.step.Step.TheVariants as step
use Rattle.wasi_steps.specs.Reply.{no_fields, numbers_fields, truth_fields}
use Rattle.wasi_walks.specs.Answered.{Answered}
use Rattle.wasi_walks.specs.Licence.{Has}
use Rattle.wasi_walks.specs.Missing.{MissesWatched}

-- the machine, where this call is pending
abbrev pub waiting : Machine → Ids → BlockingCall → Machine
waiting m ids call = record m { store = record m.store { standing = Some (standing_as ids (Blocking call)) } }

-- it waits for none
abbrev pub IsEmptyWait : Step → Type 0
IsEmptyWait (step.Call c (guest.Pollable (pollable_call.PollList pollables))) = pollables ≡ []
IsEmptyWait _ = ⊥

-- where this is a pollable's handle, what it watches is there
abbrev pub WatchedIsThere : Machine → ℕ → Type 0
WatchedIsThere m pollable = IsSome (watch_of (kind_at m.table pollable)) → MissesWatched m (watch_of (kind_at m.table pollable)) → ⊥

abbrev pub WatchedAreThere : Machine → List ℕ → Type 0
WatchedAreThere m [] = ⊤
WatchedAreThere m (p ∷ pollables) = WatchedIsThere m p × WatchedAreThere m pollables

-- == one pollable
-- How a look at it comes out. The first look of a wait is a `ready` of its line. A later one is a `ready` of that line too, where this
-- would begin no accept and no receive; where it would, nothing is asked, and the pollable is ready.
pub data LooksAs (contexts : List WasiSocketsCtx) (m : Machine) (c line pollable : ℕ) : Look → List Entry → Reply → Machine → Type 0 where
  LooksFirst : (es : List Entry) (r : Reply) (after : Machine) → Answered contexts m line (step.Call c (guest.Pollable (pollable_call.Ready pollable))) es r after → LooksAs contexts m c line pollable First es r after
  LooksAgain : (es : List Entry) (r : Reply) (after : Machine) → begins_at m pollable ≡ false → Answered contexts m line (step.Call c (guest.Pollable (pollable_call.Ready pollable))) es r after → LooksAs contexts m c line pollable Later es r after
  WouldBegin : begins_at m pollable ≡ true → LooksAs contexts m c line pollable Later [] (reply.Ok (truth_fields true)) m

-- How a wait for one pollable comes out: it is done where the look finds it ready, and pending where it doesn't; or it traps as the look.
pub data BlocksOn (contexts : List WasiSocketsCtx) (m : Machine) (c : ℕ) (ids : Ids) (pollable : ℕ) (look : Look) : List Entry → Reply → Machine → Type 0 where
  IsReady : (es : List Entry) (after : Machine) → LooksAs contexts m c ids.line pollable look es (reply.Ok (truth_fields true)) after → BlocksOn contexts m c ids pollable look es (reply.Ok no_fields) after
  IsUnready : (es : List Entry) (after : Machine) → LooksAs contexts m c ids.line pollable look es (reply.Ok (truth_fields false)) after → BlocksOn contexts m c ids pollable look es (reply.Pending ids.line) (waiting after (first_ids ids.line) (Block pollable))
  IsMissing : MissesWatched m (watch_of (kind_at m.table pollable)) → LooksAs contexts m c ids.line pollable look [] (reply.Trap NoSuchHandle) m → BlocksOn contexts m c ids pollable look [] (reply.Trap NoSuchHandle) m

-- == several pollables
-- it is one of these
abbrev pub is_among : List ℕ → ℕ → Bool
is_among [] p = false
is_among (q ∷ others) p = if q == p then true else is_among others p

-- those that are none of the ones before, each at its first place
abbrev pub not_among : List ℕ → List ℕ → List ℕ
not_among before [] = []
not_among before (p ∷ pollables) = if is_among before p then not_among before pollables else p ∷ not_among (p ∷ before) pollables

-- the different ones, in the order of their first places
abbrev pub different : List ℕ → List ℕ
different pollables = not_among [] pollables

-- How one look of such a wait comes out, by these names: as a `ready` that has these names left to it, and a later one as above.
pub data Finds (m : Machine) (ids : Ids) (pollable : ℕ) : Look → List Entry → Bool → Machine → Type 0 where
  FindsFirst : (es : List Entry) (ready : Bool) (after : Machine) → Left (ready_asks m ids pollable) es (Give (Ok ready, after)) → Finds m ids pollable First es ready after
  FindsAgain : (es : List Entry) (ready : Bool) (after : Machine) → begins_at m pollable ≡ false → Left (ready_asks m ids pollable) es (Give (Ok ready, after)) → Finds m ids pollable Later es ready after
  FindsToBegin : begins_at m pollable ≡ true → Finds m ids pollable Later [] true m

-- One look at each of these in turn, on what the look before left, and by the names that are left then; what each found; and what is left
-- after the last.
pub data LooksInTurn (look : Look) : Machine → Ids → List ℕ → List Entry → Found → Machine → Type 0 where
  NoMore : (m : Machine) (ids : Ids) → LooksInTurn look m ids [] [] [] m
  OneMore : (m mid after : Machine) (ids : Ids) (p : ℕ) (others : List ℕ) (es fs : List Entry) (ready : Bool) (found : Found) → Finds m ids p look es ready mid
      → LooksInTurn look mid (ids_after_look look m ids p) others fs found after → LooksInTurn look m ids (p ∷ others) (es ++ fs) ((p, ready) ∷ found) after

-- How a wait for several comes out, once each different one was looked at: the places of those that were found ready, where one was; else
-- it is pending. Or what one of them watches isn't there, which is so after no lines.
pub data WaitsOn (m : Machine) (ids : Ids) (pollables : List ℕ) (look : Look) : List Entry → Reply → Machine → Type 0 where
  SomeAreReady : (es : List Entry) (found : Found) (first : ℕ) (others : List ℕ) (after : Machine) → LooksInTurn look m ids (different pollables) es found after → ready_places found 0 pollables ≡ first ∷ others
      → WaitsOn m ids pollables look es (reply.Ok (numbers_fields (first ∷ others))) after
  NoneIsReady : (es : List Entry) (found : Found) (after : Machine) → LooksInTurn look m ids (different pollables) es found after → ready_places found 0 pollables ≡ []
      → WaitsOn m ids pollables look es (reply.Pending ids.line) (waiting after ids (Poll pollables))
  OneIsMissing : (before others : List ℕ) (p : ℕ) (es : List Entry) (found : Found) (mid : Machine) → different pollables ≡ before ++ p ∷ others → LooksInTurn look m ids before es found mid
      → MissesWatched mid (watch_of (kind_at mid.table p)) → WaitsOn m ids pollables look es (reply.Trap NoSuchHandle) mid

-- How the step comes out: no pollable is a trap; then every handle is tested to be a pollable's; and nothing is asked before.
pub data BeginsToWait (m : Machine) (line : ℕ) (pollables : List ℕ) : List Entry → Reply → Machine → Type 0 where
  ForNone : pollables ≡ [] → BeginsToWait m line pollables [] (reply.Trap EmptyList) m
  NoPollable : pollables ≢ [] → are_pollables m pollables ≡ false → BeginsToWait m line pollables [] (reply.Trap NoSuchHandle) m
  AllPollables : (es : List Entry) (r : Reply) (after : Machine) → pollables ≢ [] → are_pollables m pollables ≡ true → WaitsOn m (first_ids line) pollables First es r after → BeginsToWait m line pollables es r after

-- == lists of numbers
-- each is above the one before, and the first at least this
abbrev pub RisesFrom : ℕ → List ℕ → Type 0
RisesFrom k [] = ⊤
RisesFrom k (n ∷ ns) = (k ≤ n) × RisesFrom (suc n) ns

-- none is there twice
abbrev pub AreDifferent : List ℕ → Type 0
AreDifferent [] = ⊤
AreDifferent (n ∷ ns) = (Has ns n → ⊥) × AreDifferent ns

-- the pollables of which something was found, in order
abbrev pub pollables_of : Found → List ℕ
pollables_of [] = []
pollables_of (f ∷ found) = f.0 ∷ pollables_of found

-- == a pending wait
-- the pollables that a pending call waits for
abbrev pub waits_for : StandingCall → List ℕ
waits_for (Blocking (Block pollable)) = pollable ∷ []
waits_for (Blocking (Poll pollables)) = pollables
waits_for _ = []

-- a look at none of these would begin anything
abbrev pub BeginsNone : Machine → List ℕ → Type 0
BeginsNone m pollables = (pollable : ℕ) → Has pollables pollable → begins_at m pollable ≡ false

-- The pending calls that stand beside others: in the order of their lines.
use Rattle.std.specs.Prelude.{ℕ, ◌==◌, Bool, not, ◌||◌, List, [], ◌∷◌, ◌++◌, Option, Some, None, is_some, position, slice_set, Result, Ok, Err, false}
use Rattle.std.specs.List.{filter, find, list_any}
use Rattle.wasi_world.specs.declared.outcome.Answer.{Answer}
use Rattle.wasi_world.specs.declared.outcome.Answer.TheVariants.{Ready, Pending}
use Rattle.wasi_world.specs.declared.outcome.Refusal.{Refusal}
use Rattle.wasi_world.specs.declared.outcome.Refusal.TheVariants.{Code, Memory}
use Rattle.host_store.specs.declared.beside.Beside.{Beside}
use Rattle.host_store.specs.declared.beside.BesideCall.{BesideCall}
use Rattle.host_store.specs.Standing.{stands_as}
use Rattle.host_store.specs.Store.{Records}
use Rattle.record_common.specs.Stops.{Code}
use Rattle.host_store.specs.declared.beside.BesideCall.TheVariants.{Send, Receive}

-- the call under this number, and the calls but that
abbrev pub beside_in : List Beside → ℕ → Option Beside
beside_in calls line = find (λ b. b.line == line) calls

abbrev pub beside_without : List Beside → ℕ → List Beside
beside_without calls line = filter (λ b. not (b.line == line)) calls

-- one of this number in the place of the first that has it
abbrev pub beside_put : List Beside → ℕ → BesideCall → Option ℕ → List Beside
beside_put calls line call None = calls
beside_put calls line call (Some i) = slice_set calls i (record { line = line; call = call })

abbrev pub beside_with : List Beside → ℕ → BesideCall → List Beside
beside_with calls line call = beside_put calls line call (position (λ b. b.line == line) calls)

-- == of the records
abbrev pub beside_of : Records → ℕ → Option Beside
beside_of store line = beside_in store.beside line

abbrev pub unbeside : Records → ℕ → Records
unbeside store line = record store { beside = beside_without store.beside line }

-- a call of either kind is pending under this number
abbrev pub stands_under : Records → ℕ → Bool
stands_under store line = stands_as store.standing line || is_some (beside_of store line)

abbrev pub beside_as : ℕ → BesideCall → Beside
beside_as line call = record { line = line; call = call }

-- a call that is pending once it began is the last of them: lines rise
abbrev pub besided : {A E : Type 0} → Beside → Result (Answer A) E × Records → Result (Answer A) E × Records
besided b (Ok Pending, store) = (Ok Pending, record store { beside = store.beside ++ b ∷ [] })
besided b (Ok (Ready value), store) = (Ok (Ready value), store)
besided b (Err stop, store) = (Err stop, store)

-- one that is polled again keeps its place while it is pending, and else is over
abbrev pub beside_polled : {A E : Type 0} → ℕ → Result (Answer A) E × Records → Result (Answer A) E × Records
beside_polled line (Ok Pending, store) = (Ok Pending, store)
beside_polled line (Ok (Ready value), store) = (Ok (Ready value), unbeside store line)
beside_polled line (Err stop, store) = (Err stop, unbeside store line)

-- == the same of what the code answers
abbrev pub begun_beside : {A : Type 0} → List Beside → Beside → Result (Answer A) Refusal → List Beside
begun_beside calls b (Ok Pending) = calls ++ b ∷ []
begun_beside calls b (Ok (Ready value)) = calls
begun_beside calls b (Err refusal) = calls

-- out of memory, it stays
abbrev pub polled_beside : {A : Type 0} → List Beside → ℕ → Result (Answer A) Refusal → List Beside
polled_beside calls line (Ok Pending) = calls
polled_beside calls line (Ok (Ready value)) = beside_without calls line
polled_beside calls line (Err (Code c)) = beside_without calls line
polled_beside calls line (Err (Memory e)) = calls

-- == what holds the network socket of a UDP socket of 0.3: its handle, and its datagrams in progress
abbrev pub is_datagram_of : ℕ → BesideCall → Bool
is_datagram_of place (Send socket op) = socket == place
is_datagram_of place (Receive socket op) = socket == place
is_datagram_of place _ = false

abbrev pub has_datagram : List Beside → ℕ → Bool
has_datagram calls place = list_any (λ b. is_datagram_of place b.call) calls

-- Lookups of 0.3, which stand beside other calls while they are pending. The call itself keeps its host: a lookup has no record.
use Rattle.std.specs.Prelude.{ℕ, List, [], ◌∷◌, ◌++◌, map, Result, Ok, Err}
use Rattle.std.specs.declared.alloc.AllocError.{AllocError}
use Rattle.wasi_addr.specs.declared.address.IpAddress.{IpAddress}
use Rattle.wasi_addr.specs.declared.lookup.ErrorCode.{ErrorCode}
use Rattle.wasi_addr.specs.declared.lookup.ErrorCode.TheVariants.{NameUnresolvable}
use Rattle.wasi_addr.specs.Address.{canonical}
use Rattle.wasi_world.specs.declared.asks.Polled.{Polled}
use Rattle.wasi_world.specs.declared.asks.Polled.TheVariants as polled
use Rattle.wasi_world.specs.declared.outcome.Answer.{Answer}
use Rattle.wasi_world.specs.declared.outcome.Answer.TheVariants.{Ready, Pending}
use Rattle.wasi_world.specs.Asks.{Asks, Give, bind}
use Rattle.wasi_world.specs.Typed.{ask_lookup}
use Rattle.record_common.specs.Names.{own_of}
use Rattle.record_common.specs.Stops.{StopOf, Code}
use Rattle.host_store.specs.declared.beside.Beside.{Beside}
use Rattle.host_store.specs.declared.beside.BesideCall.TheVariants.{Resolve}
use Rattle.host_store.specs.Beside.{beside_as, beside_polled, beside_without, besided}
use Rattle.host_store.specs.Block.{Does}
use Rattle.host_store.specs.Store.{Records}

-- how a call of a lookup of 0.3 ends: with its addresses, or pending, or with a code
abbrev pub Resolved : Type 0
Resolved = Result (Answer (List IpAddress)) (StopOf ErrorCode)

-- what the network answered: addresses in their order, each in its canonical form; any code is one
abbrev pub names_told : Polled (List IpAddress) → Resolved
names_told polled.Pending = Ok Pending
names_told (polled.Ready names) = Ok (Ready (map canonical names))
names_told (polled.Code c) = Err (Code NameUnresolvable)

-- the same of what the code answers
abbrev pub names_outcome : Result (Polled (List IpAddress)) AllocError → Result Resolved AllocError
names_outcome (Ok told) = Ok (names_told told)
names_outcome (Err e) = Err e

-- and what it keeps of the calls: one that began, and one that was asked about again, which stays where memory ran out
abbrev pub begun_lookup : List Beside → Beside → Result (Polled (List IpAddress)) AllocError → List Beside
begun_lookup calls b (Ok polled.Pending) = calls ++ b ∷ []
begun_lookup calls b (Ok (polled.Ready names)) = calls
begun_lookup calls b (Ok (polled.Code c)) = calls
begun_lookup calls b (Err e) = calls

abbrev pub polled_lookup : List Beside → ℕ → Result (Polled (List IpAddress)) AllocError → List Beside
polled_lookup calls line (Ok polled.Pending) = calls
polled_lookup calls line (Ok (polled.Ready names)) = beside_without calls line
polled_lookup calls line (Ok (polled.Code c)) = beside_without calls line
polled_lookup calls line (Err e) = calls

-- the network is asked, by the name of the line
abbrev pub looks_up : ℕ → List ℕ → Asks Resolved
looks_up line host = bind (ask_lookup (own_of line) host) (λ told. Give (names_told told))

abbrev pub resolve_of : ℕ → List ℕ → Does ErrorCode Records (Answer (List IpAddress))
resolve_of line host store = bind (looks_up line host) (λ told. Give (besided (beside_as line (Resolve host)) (told, store)))

-- it is asked again
abbrev pub reresolve_of : ℕ → List ℕ → Does ErrorCode Records (Answer (List IpAddress))
reresolve_of line host store = bind (looks_up line host) (λ told. Give (beside_polled line (told, store)))

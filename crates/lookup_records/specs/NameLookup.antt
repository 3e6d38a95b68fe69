-- Lookups of host names: what they ask, what is found, and what is handed out.
use Rattle.std.specs.Prelude.{map, Bool, true, false, List, [], ◌∷◌, Option, Some, None, Result, Ok, Err}
use Rattle.wasi_addr.specs.declared.address.IpAddress.{IpAddress}
use Rattle.wasi_addr.specs.declared.lookup.ErrorCode.TheVariants.{NameUnresolvable}
use Rattle.wasi_addr.specs.declared.p2.ErrorCode.{ErrorCode as P2Code}
use Rattle.wasi_addr.specs.declared.p2.ErrorCode.TheVariants.{WouldBlock}
use Rattle.wasi_addr.specs.Address.{canonical}
use Rattle.wasi_addr.specs.Code.{p2_of_lookup}
use Rattle.wasi_world.specs.declared.asks.Polled.{Polled}
use Rattle.wasi_world.specs.declared.asks.Polled.TheVariants as polled
use Rattle.wasi_world.specs.Asks.{Asks, Give, bind}
use Rattle.wasi_world.specs.Typed.{ask_lookup}
use Rattle.lookup_records.specs.declared.name_lookup.Lookup.{Lookup}
use Rattle.lookup_records.specs.declared.name_lookup.Lookup.TheVariants.{InProgress, Found, Failed}
use Rattle.lookup_records.specs.declared.name_lookup.LookupOp.{LookupOp}

-- == the network is asked
-- it is in progress until the network answers; addresses are kept in their order, each in its canonical form
abbrev pub lookup_told : LookupOp → Polled (List IpAddress) → Lookup
lookup_told op polled.Pending = InProgress op
lookup_told op (polled.Ready names) = Found (map canonical names)
lookup_told op (polled.Code c) = Failed

abbrev pub poll_lookup_asks : LookupOp → Asks Lookup
poll_lookup_asks op = bind (ask_lookup op.id op.host) (λ told. Give (lookup_told op told))

-- in a turn it is asked again, where it isn't answered yet
abbrev pub turn_lookup : Lookup → Asks Lookup
turn_lookup (InProgress op) = poll_lookup_asks op
turn_lookup l = Give l

abbrev pub is_looking : Lookup → Bool
is_looking (InProgress op) = true
is_looking _ = false

abbrev pub looks_on : Option Lookup → Bool
looks_on None = false
looks_on (Some l) = is_looking l

-- the 0.2 code of one that failed, whichever code the network gave
abbrev pub unresolvable : P2Code
unresolvable = p2_of_lookup NameUnresolvable

-- == addresses are handed out
-- each once, in their order, and then none
abbrev pub next_of : Lookup → Result (Option IpAddress) P2Code × Lookup
next_of (InProgress op) = (Err WouldBlock, InProgress op)
next_of (Found []) = (Ok None, Found [])
next_of (Found (a ∷ left)) = (Ok (Some a), Found left)
next_of Failed = (Err unresolvable, Failed)

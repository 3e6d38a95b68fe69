-- How lookups of 0.3 are answered, what they ask and leave, and what a poll of one that is pending answers: it stands beside other
-- calls, and has no record.
use Rattle.std.specs.Prelude.{◌≡◌, ℕ, map, true, List, [], ◌∷◌, ◌++◌, Some}
use Rattle.wasi_addr.specs.declared.address.IpAddress.{IpAddress}
use Rattle.wasi_addr.specs.declared.code.ErrorCode.{ErrorCode}
use Rattle.wasi_addr.specs.Address.{canonical}
use Rattle.wasi_names.specs.declared.name.HostName.TheVariants.{Address, Domain}
use Rattle.wasi_names.specs.Names.{name_is}
use Rattle.wasi_world.specs.declared.ids.OpId.{OpId}
use Rattle.wasi_world.specs.declared.call.Entry.{Entry}
use Rattle.wasi_world.specs.declared.call.Told.TheVariants as told
use Rattle.wasi_world.specs.declared.outcome.WasiSocketsCtx.{WasiSocketsCtx}
use Rattle.record_common.specs.Names.{own_of}
use Rattle.host_store.specs.declared.beside.BesideCall.TheVariants.{Resolve}
use Rattle.host_store.specs.declared.machine.Machine.{Machine}
use Rattle.host_store.specs.Beside.{beside_as}
use Rattle.wasi_steps.specs.declared.reply.CodeWord.TheVariants as word
use Rattle.wasi_steps.specs.declared.reply.Field.{Field}
use Rattle.wasi_steps.specs.declared.reply.Reply.{Reply}
use Rattle.wasi_steps.specs.declared.reply.Reply.TheVariants as reply
use Rattle.wasi_steps.specs.Reply.{ips_values}
use Rattle.wasi_walks.specs.Waiting.{call_over}
use Rattle.wasi_causes.specs.Lookups.{lookup_entry}

-- the machine, with a lookup that stands beside other calls, the last of them
abbrev pub with_resolve : Machine → ℕ → List ℕ → Machine
with_resolve m line host =
    record m { store = record m.store { beside = m.store.beside ++ beside_as line (Resolve host) ∷ [] } }

-- == a lookup that begins
-- What it asks and gives: an address is its own answer, and nothing is asked; a domain is asked for once, and what was told is
-- given, each address in its canonical form and in their order.
pub data TellsAddresses (own : OpId) (name : List ℕ) : List Entry → List IpAddress → Type 0 where
  IsItsAnswer : (a : IpAddress) → name_is name ≡ Some (Address a) → TellsAddresses own name [] (a ∷ [])
  LookupToldNames : (host : List ℕ) (names : List IpAddress) → name_is name ≡ Some (Domain host)
      → TellsAddresses own name (lookup_entry own host (told.Names names) ∷ []) (map canonical names)

-- A lookup that is done at once, by a context that may look names up: the machine is unchanged.
pub record FindsAddresses (m : Machine) (own : OpId) (ctx : WasiSocketsCtx) (name : List ℕ) (entries : List Entry)
    (fields : List Field) (after : Machine) : Type 0 where
  pub allowed : ctx.ip_name_lookup ≡ true
  pub addresses : List IpAddress
  pub tells : TellsAddresses own name entries addresses
  pub values : fields ≡ ips_values addresses
  pub left : after ≡ m

-- One that is pending, by a context that may look names up: the name is a domain, the network was asked for it once and answered
-- pending, and the call stands beside others.
pub record LookupStands (m : Machine) (line : ℕ) (ctx : WasiSocketsCtx) (name : List ℕ) (entries : List Entry)
    (after : Machine) : Type 0 where
  pub allowed : ctx.ip_name_lookup ≡ true
  pub host : List ℕ
  pub domain : name_is name ≡ Some (Domain host)
  pub asked : entries ≡ lookup_entry (own_of line) host told.Pending ∷ []
  pub left : after ≡ with_resolve m line host

-- == a poll of one that stands beside others
-- The network is asked again, by the name of the call's line: the call is pending still, and nothing changed; or it is over, and gives
-- what was told, each address in its canonical form and in their order; or it is over, and was told a code, whichever.
pub data LookupPolled (m : Machine) (n : ℕ) (host : List ℕ) : List Entry → Reply → Machine → Type 0 where
  LooksStill : LookupPolled m n host (lookup_entry (own_of n) host told.Pending ∷ []) (reply.Pending n) m
  HasNames : (names : List IpAddress)
      → LookupPolled m n host (lookup_entry (own_of n) host (told.Names names) ∷ [])
      (reply.Ok (ips_values (map canonical names))) (call_over m n)
  HasFailed : (c : ErrorCode)
      → LookupPolled m n host (lookup_entry (own_of n) host (told.Code c) ∷ [])
      (reply.Err word.NameUnresolvable) (call_over m n)

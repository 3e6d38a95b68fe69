-- How the steps of name lookups are answered: where each answer comes from, and what is left afterwards.
use Rattle.std.specs.Prelude.{◌≡◌, ◌↔◌, ℕ, map, length, true, false, List, [], ◌∷◌, ◌++◌, Option, Some, None}
use Rattle.wasi_addr.specs.declared.address.IpAddress.{IpAddress}
use Rattle.wasi_addr.specs.declared.code.ErrorCode.{ErrorCode}
use Rattle.wasi_addr.specs.Address.{canonical}
use Rattle.wasi_names.specs.declared.name.HostName.TheVariants.{Address, Domain}
use Rattle.wasi_names.specs.Names.{name_is}
use Rattle.wasi_world.specs.declared.ids.OpId.{OpId}
use Rattle.wasi_world.specs.declared.call.Call.TheVariants as call
use Rattle.wasi_world.specs.declared.call.Entry.{Entry}
use Rattle.wasi_world.specs.declared.call.HandleKind.TheVariants as handle_kind
use Rattle.wasi_world.specs.declared.call.Told.{Told}
use Rattle.wasi_world.specs.declared.call.Told.TheVariants as told
use Rattle.wasi_world.specs.declared.outcome.WasiSocketsCtx.{WasiSocketsCtx}
use Rattle.wasi_table.specs.Table.{is_full}
use Rattle.wasi_jobs.specs.declared.job.HostJob.{HostJob}
use Rattle.host_store.specs.declared.kind.Kind.TheVariants as kind
use Rattle.host_store.specs.declared.kind.Watched.TheVariants as watched
use Rattle.host_store.specs.declared.machine.Machine.{Machine}
use Rattle.lookup_records.specs.declared.name_lookup.Lookup.{Lookup}
use Rattle.lookup_records.specs.declared.name_lookup.Lookup.TheVariants.{InProgress, Found, Failed}
use Rattle.lookup_records.specs.declared.name_lookup.LookupOp.{LookupOp}
use Rattle.host_store.specs.GivingBack.{given_back}
use Rattle.host_store.specs.Jobs.{is_on}
use Rattle.host_store.specs.Kinds.{kind_at, watch_of, with_handle}
use Rattle.host_store.specs.Machine.{lookup_number}
use Rattle.lookup_records.specs.NameLookup.{looks_on}
use Rattle.host_lookups.specs.NameLookupCalls.{with_lookup, with_lookup_now}
use Rattle.wasi_records.specs.Records.{lookup_at}
use Rattle.wasi_steps.specs.declared.reply.CodeWord.{CodeWord}
use Rattle.wasi_steps.specs.declared.reply.CodeWord.TheVariants as word
use Rattle.wasi_steps.specs.declared.reply.Field.{Field}
use Rattle.wasi_steps.specs.declared.reply.Reply.{Reply}
use Rattle.wasi_steps.specs.declared.reply.Reply.TheVariants as reply
use Rattle.wasi_steps.specs.Reply.{found_values, number_fields}
use Rattle.wasi_walks.specs.Answered.{lookup_in}
use Rattle.wasi_walks.specs.Licence.{Has, entry}
use Rattle.wasi_causes.specs.GivenUp.{giving_back, without}

-- == the lookups that handles name
-- the lookup of a live handle of one
abbrev pub found_lookup : Machine → ℕ → Option Lookup
found_lookup m h = lookup_in m (lookup_number m h)

-- The handle names a lookup, at this place, and of both this holds.
pub record OfLookup (m : Machine) (handle : ℕ) (P : ℕ → Lookup → Type 0) : Type 0 where
  pub place : ℕ
  pub found : Lookup
  pub names : lookup_number m handle ≡ Some place
  pub at : lookup_at m.store.records place ≡ Some found
  pub holds : P place found

-- the machine, where this is the lookup at that place
abbrev pub putting_lookup : Machine → ℕ → Lookup → Machine
putting_lookup m place l = record m { store = with_lookup_now m.store place l }

-- the pollable watches the lookup at this place
abbrev pub WatchesLookup : Machine → ℕ → ℕ → Type 0
WatchesLookup m pollable place = watch_of (kind_at m.table pollable) ≡ Some (watched.Lookup place)

-- == a lookup begins
abbrev pub lookup_entry : OpId → List ℕ → Told → Entry
lookup_entry own host told = entry own (call.Lookup host) told

-- A lookup is refused: the context may not look names up, or it may and the name is none, and nothing is asked; or the name is a
-- domain, and the network was asked for it and returned a code, whichever.
pub data ResolveRefusal (own : OpId) (ctx : WasiSocketsCtx) (name : List ℕ) : List Entry → CodeWord → Type 0 where
  LookupNotAllowed : ctx.ip_name_lookup ≡ false → ResolveRefusal own ctx name [] word.PermanentResolverFailure
  NoName : ctx.ip_name_lookup ≡ true → name_is name ≡ None → ResolveRefusal own ctx name [] word.InvalidArgument
  LookupToldCode : (host : List ℕ) (c : ErrorCode) → ctx.ip_name_lookup ≡ true → name_is name ≡ Some (Domain host) → ResolveRefusal own ctx name (lookup_entry own host (told.Code c) ∷ []) word.NameUnresolvable

-- Which of the first two words refuses it, where the network's handle is one.
pub record RefusesNames (ctx : WasiSocketsCtx) (name : List ℕ) (r : Reply) : Type 0 where
  pub forbidden : (r ≡ reply.Err word.PermanentResolverFailure) ↔ (ctx.ip_name_lookup ≡ false)
  pub unnamed : (r ≡ reply.Err word.InvalidArgument) ↔ ((ctx.ip_name_lookup ≡ true) × (name_is name ≡ None))

-- What a lookup of the name asks first, and the lookup that it begins: an address is its own answer, and nothing is asked; a domain is
-- asked for once, and the lookup is in progress, or has found what was told, each address in its canonical form and in their order.
pub data BeginsLookup (own : OpId) (name : List ℕ) : List Entry → Lookup → Type 0 where
  IsItsAnswer : (a : IpAddress) → name_is name ≡ Some (Address a) → BeginsLookup own name [] (Found (a ∷ []))
  LookupToldPending : (host : List ℕ) → name_is name ≡ Some (Domain host) → BeginsLookup own name (lookup_entry own host told.Pending ∷ []) (InProgress (record { id = own; host = host }))
  LookupToldNames : (host : List ℕ) (names : List IpAddress) → name_is name ≡ Some (Domain host) → BeginsLookup own name (lookup_entry own host (told.Names names) ∷ []) (Found (map canonical names))

-- A lookup was begun, by a context that may look names up. Its record is the last, and it has the last job while it is in progress;
-- its handle is the next one, which is marked under that of the network, with no network socket.
pub record Resolves (m : Machine) (own : OpId) (ctx : WasiSocketsCtx) (network : ℕ) (name : List ℕ) (entries : List Entry) (fields : List Field) (after : Machine) : Type 0 where
  pub asked : List Entry
  pub lookup : Lookup
  pub allowed : ctx.ip_name_lookup ≡ true
  pub begins : BeginsLookup own name asked lookup
  pub number : fields ≡ number_fields m.table.next
  pub marked : entries ≡ asked ++ entry own (call.Made m.table.next handle_kind.Lookup (Some network) None) told.Done ∷ []
  pub left : after ≡ record m { table = with_handle m.table (kind.Lookup (length m.store.records)) None; store = with_lookup m.store lookup }

-- It was begun, and there is no room for its handle: its record is given back, and its job goes with it.
pub record LosesLookup (m : Machine) (own : OpId) (name : List ℕ) (entries : List Entry) (after : Machine) : Type 0 where
  pub lookup : Lookup
  pub full : is_full m.table ≡ true
  pub begins : BeginsLookup own name entries lookup
  pub left : after ≡ record m { store = given_back (length m.store.records) (with_lookup m.store lookup) }

-- == addresses are handed out
-- What is replied, by the lookup: nothing is asked.
pub record TellsNext (found : Option Lookup) (entries : List Entry) (r : Reply) : Type 0 where
  pub quiet : entries ≡ []
  pub in_progress : (r ≡ reply.Err word.WouldBlock) ↔ (looks_on found ≡ true)
  pub failed : (r ≡ reply.Err word.NameUnresolvable) ↔ (found ≡ Some Failed)
  pub over : (r ≡ reply.Ok (found_values None)) ↔ (found ≡ Some (Found []))
  pub next : (a : IpAddress) (left : List IpAddress) → found ≡ Some (Found (a ∷ left)) → r ≡ reply.Ok (found_values (Some a))

-- No address is left; or the first that is left is handed out, and then one less is left.
pub data HandsOut (m : Machine) (place : ℕ) : Lookup → List Field → Machine → Type 0 where
  NoneLeft : HandsOut m place (Found []) (found_values None) m
  FirstLeft : (a : IpAddress) (left : List IpAddress) → HandsOut m place (Found (a ∷ left)) (found_values (Some a)) (putting_lookup m place (Found left))

-- == a turn
-- A lookup after a turn that asked so: it is as it was; or it was in progress, and its operation asked for its host and was told the
-- names that it has found, each in its canonical form and in their order, or a code.
pub data LookedOn (m : Machine) (place : ℕ) (entries : List Entry) : Lookup → Type 0 where
  IsAsItWas : (l : Lookup) → lookup_at m.store.records place ≡ Some l → LookedOn m place entries l
  TurnToldNames : (op : LookupOp) (names : List IpAddress) → lookup_at m.store.records place ≡ Some (InProgress op) → Has entries (lookup_entry op.id op.host (told.Names names)) → LookedOn m place entries (Found (map canonical names))
  TurnToldCode : (op : LookupOp) (c : ErrorCode) → lookup_at m.store.records place ≡ Some (InProgress op) → Has entries (lookup_entry op.id op.host (told.Code c)) → LookedOn m place entries Failed

-- == readiness, and the end
-- The pollable watches a lookup that is in progress; nothing is asked.
pub record LookupWaits (m : Machine) (pollable : ℕ) (entries : List Entry) : Type 0 where
  pub place : ℕ
  pub watches : WatchesLookup m pollable place
  pub in_progress : looks_on (lookup_at m.store.records place) ≡ true
  pub quiet : entries ≡ []

-- A lookup goes at once, and nothing is asked: its record is given back, and its job goes with it.
pub record LookupGone (m : Machine) (handle place : ℕ) (entries : List Entry) (after : Machine) : Type 0 where
  pub quiet : entries ≡ []
  pub left : after ≡ giving_back (without m handle) place
  pub job : (job : HostJob) → Has after.store.jobs job → is_on place job ≡ true → ⊥

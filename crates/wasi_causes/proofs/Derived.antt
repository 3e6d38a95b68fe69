-- In a run each live handle is of a record that is there and has what the handle needs of it, and so has what a pollable watches, since
-- the pollable is under a live handle of that.
use Rattle.wasi_causes.proofs.Words.{Allows, Entry, Give, Input, Kind, Left, List, Machine, Option, Output, Pollable, Reply}
use Rattle.wasi_causes.proofs.Words.{Some, Step, Tcp2, WasiSocketsCtx, Watched, [], first_state, gives_more, kind_at, machine_asks}
use Rattle.wasi_causes.proofs.Words.{TcpRecord, refl, run, slice_get, subst, ℕ, ⊤, ◌≡◌}
use Rattle.std.specs.Prelude.{Bool, true, false, None, IsSome}
use Rattle.wasi_walks.specs.Answered.{streams_in}
use Rattle.host_store.specs.Kinds.{watched_by}
use Rattle.host_store.specs.declared.kind.Kind.TheVariants.{Incoming, Lookup, Outgoing, PlainInput, PlainOutput, Udp2}
use Rattle.wasi_records.specs.declared.records.Record.{Record}
use Rattle.wasi_walks.proofs.Slots.{slot_of}
use Rattle.wasi_walks.proofs.fits.Polls.{Anything}
use Rattle.wasi_walks.proofs.owners.Law.{owners, owners_begin}
use Rattle.wasi_walks.proofs.owners.Names.{Names, listens_in, socket_in, unless_dropped}
use Rattle.wasi_walks.proofs.owners.Owned.{IsOf, Owned, StandsSo, first_owned, named_there, watched_is_of, watched_place}
use Rattle.wasi_walks.proofs.walks.Runs.{run_ends}
use Rattle.wasi_walks.proofs.walks.Steps.{machine_walks}

-- == what is watched needs what its handle does
abbrev pub NamesWatched : Watched → Option Record → Type 0
NamesWatched (Watched.Socket place) o = Names (Tcp2 place) o
NamesWatched (Watched.Input place) o = Names (Input place) o
NamesWatched (Watched.Output place) o = Names (Output place) o
NamesWatched (Watched.Udp place) o = Names (Udp2 place) o
NamesWatched (Watched.Incoming place) o = Names (Incoming place) o
NamesWatched (Watched.Outgoing place) o = Names (Outgoing place) o
NamesWatched (Watched.Lookup place) o = Names (Lookup place) o
NamesWatched Watched.Plain o = ⊤

module _ (o : Option Record) where
  it_is : (its w : Watched) → its ≡ w → NamesWatched its o → NamesWatched w o
  it_is its w e names = subst (λ (x : Watched). NamesWatched x o) e names

  its_names : (kind : Kind) (w : Watched) → watched_by (Some kind) ≡ Some w → Names kind o → NamesWatched w o
  its_names (Tcp2 place) w e names = it_is (Watched.Socket place) w (cc) names
  its_names (Input place) w e names = it_is (Watched.Input place) w (cc) names
  its_names (Output place) w e names = it_is (Watched.Output place) w (cc) names
  its_names (Udp2 place) w e names = it_is (Watched.Udp place) w (cc) names
  its_names (Incoming place) w e names = it_is (Watched.Incoming place) w (cc) names
  its_names (Outgoing place) w e names = it_is (Watched.Outgoing place) w (cc) names
  its_names (Lookup place) w e names = it_is (Watched.Lookup place) w (cc) names
  its_names (PlainInput input) w e names = it_is Watched.Plain w (cc) tt
  its_names (PlainOutput output) w e names = it_is Watched.Plain w (cc) tt
  its_names _ w e names = absurd (cc)

-- what the handle of a socket needs has its record, and with its streams they are there
pub held : (o : Option TcpRecord) → IsSome (socket_in o) → IsSome o
held (Some r) h = refl
held None h = h

pub streams_held : (o : Option TcpRecord) → IsSome (streams_in (socket_in o)) → IsSome (streams_in o)
streams_held (Some r) h = by_dropped r.dropped h
  where
    by_dropped : (b : Bool) → IsSome (streams_in (unless_dropped r b)) → IsSome r.streams
    by_dropped false h = h
    by_dropped true h = absurd (cc)
streams_held None h = h

-- so has what a listener's needs
pub listens_held : (o : Option TcpRecord) → listens_in o ≡ true → IsSome o
listens_held (Some r) h = refl
listens_held None h = h

-- == of a live handle
-- and of a pending listen, whose socket's handle is live
abbrev pub OwnedIn : Machine → Type 0
OwnedIn m = Owned m.table m.store.records × StandsSo m.table m.store.standing

module _ (m : Machine) (i : OwnedIn m) where
  pub its_record : (handle place : ℕ) (kind : Kind) → kind_at m.table handle ≡ Some kind → IsOf kind place
      → Names kind (slice_get m.store.records place)
  its_record = named_there m.table m.store.records i.0

  pub watched_record : (handle place : ℕ) (w : Watched) → kind_at m.table handle ≡ Some (Pollable w)
      → watched_place w ≡ Some place
      → NamesWatched w (slice_get m.store.records place)
  watched_record handle place w e is =
      let s = slot_of m.table.live handle (Pollable w) e in
      let above = i.0.watches s.slot w s.live_one s.value in
      let of : IsOf above.slot.value place = watched_is_of above.slot.value w place above.watched is in
      let names = i.0.there above.slot place above.live_one of in
      its_names (slice_get m.store.records place) above.slot.value w above.watched names

-- == of a run
pub first_in : OwnedIn first_state
first_in = (first_owned, tt)

pub line_owned : (contexts : List WasiSocketsCtx) (line : ℕ) (origin : Step) (m : Machine) (es : List Entry) → OwnedIn m
    → Allows Anything (λ fs done. OwnedIn done.1) es (machine_asks contexts m line origin)
unfolding owners
line_owned contexts line origin m es i =
    let walks =
    machine_walks line origin {law = owners contexts line origin} (owners_begin contexts line origin) m
    m.store.standing refl in
    gives_more (λ fs done. Owned done.1.table done.1.store.records × ⊤ × StandsSo done.1.table done.1.store.standing)
    (λ fs done. OwnedIn done.1) (λ fs done k. (k.0, k.2)) es (machine_asks contexts m line origin)
    (walks.along es (i.0, tt, i.1))

pub runs_own : (contexts : List WasiSocketsCtx) (steps : List Step) (es : List Entry) (replies : List Reply)
    (m : Machine)
    → Left (run contexts [] first_state 1 steps) es (Give (replies, m)) → OwnedIn m
runs_own contexts steps es replies m w =
    let between =
    run_ends contexts Anything (λ line fs now. OwnedIn now)
    (λ line s now fs i. line_owned contexts line s now fs i) first_in in
    (between steps es replies m w).1

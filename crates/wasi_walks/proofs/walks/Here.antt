-- What a line works on: the state, the record that one of its handles stands for, what it has made so far, and which names its
-- operations were given.
use Rattle.wasi_walks.proofs.Words.{Bool, HandleTable, Kind, List, Machine, None, OpId, Operation, Option, Records, Some, Standing, StandingCall, GuestCall, Step, Tcp2, TcpRecord, ap, arith, inl, kind_at, inr, refl, standing_as, subst, sym, true, false, with_socket, ℕ, ⊤, ◌+◌, ◌<◌, ◌≡◌, ◌≤◌, ◌⊎◌}
use Rattle.std.specs.Prelude.{is_some, slice_get, ◌||◌}
use Rattle.wasi_world.specs.declared.ids.Ids.{Ids}
use Rattle.udp_records.specs.Datagrams.{has_streams}
use Rattle.tcp_records.specs.Holding.{has_listener}
use Rattle.udp_records.specs.Receiving.{taken, with_receiving}
use Rattle.wasi_records.specs.Records.{open_at, tcp2_at, udp2_at, lookup_at, input_pipe_at, output_pipe_at}
use Rattle.udp_records.specs.Udp.{open_of}
use Rattle.host_udp.specs.SocketDatagrams.{is_udp_held}
use Rattle.host_store.specs.Store.{with_udp}
use Rattle.host_store.specs.declared.beside.Beside.{Beside}
pub use Rattle.host_store.specs.declared.kind.Interface.{Interface}
pub use Rattle.host_store.specs.declared.kind.Interface.TheVariants.{P2, P3}
use Rattle.host_store.specs.declared.kind.Kind.TheVariants.{Incoming, Listen3, Outgoing, Receive3, Result3, Send3, Tcp3, Udp2, Lookup, PlainInput, PlainOutput}
use Rattle.host_store.specs.declared.kind.ConnectionEnd.{ConnectionEnd}
use Rattle.wasi_records.specs.Records.{slot_at}
use Rattle.tcp_records.specs.declared.slot.Slot.{Slot}
use Rattle.udp_records.specs.Udp.{udp_side}
use Rattle.udp_records.specs.declared.datagrams.Incoming.{Incoming as IncomingStream}
use Rattle.memory_streams.specs.Plain.{Contents}
use Rattle.host_store.specs.GivingBack.{given_back}
use Rattle.host_store.specs.declared.kind.PlainInput.TheVariants as plain_input
use Rattle.host_store.specs.declared.kind.PlainOutput.TheVariants as plain_output
use Rattle.lookup_records.specs.declared.name_lookup.Lookup.{Lookup as NameLookup}
use Rattle.udp_records.specs.declared.datagrams.Receiving.{Receiving}
use Rattle.wasi_jobs.specs.declared.job.HostJob.{HostJob}
pub use Rattle.wasi_jobs.specs.Jobs.{job_place}
use Rattle.wasi_records.specs.declared.records.Record.{Record}
use Rattle.wasi_records.specs.declared.records.Record.TheVariants.{Gone}
use Rattle.wasi_walks.specs.Licence.{Has}
use Rattle.udp_records.specs.declared.udp.OpenUdp.{OpenUdp}
use Rattle.udp_records.specs.declared.udp.UdpRecord.{UdpRecord}
use Rattle.wasi_steps.specs.declared.guest_call.UdpCall.{UdpCall}
use Rattle.wasi_steps.specs.declared.guest_call.P3TcpCall.{P3TcpCall}

-- what the line's operations have begun: something, or nothing yet; its own none, and of the others those of a part below this one;
-- these bytes it is let write to this network socket; something, and the connect of this UDP socket's record goes on by it
pub data Own : Type 0 where
  Used : Own
  Unused : Own
  Names : ℕ → Own
  ToWrite : OpId → List ℕ → Own
  ToConnect : ℕ → Own

-- what a line's call on handles is on
pub data CallKind : Type 0 where
  OfStreams : CallKind
  OfPollables : CallKind

-- what an accept has made so far: nothing, the record of what it took for an interface, that of a fault, or its handle too; the line
-- whose call makes datagram streams, the handle that they are made under, and the record that it is of, and the same once the incoming
-- one was marked; the line that listens, the handle that its listener is made under, where it gets one, and the record; the line
-- whose call on streams or on pollables is done, and the handles that it named; the kind of a handle that was dropped, under which
-- nothing was live; the record of a TCP socket that nothing holds any more; the record whose create is polled for an interface, by its
-- network socket, which has no handle yet; the number of the record of a lookup or of a pipe that
-- is made, while the next handle is still this one; the record of the result slot of an end that is made, which has no handle yet;
-- else nothing is said of it
pub data Made : Type 0 where
  ToStream : ℕ → ℕ → ℕ → Made
  ToSend : ℕ → ℕ → ℕ → Made
  ToListen : ℕ → Option ℕ → ℕ → Made
  Calls : CallKind → ℕ → List ℕ → Made
  Emptied : Kind → Made
  Freed : ℕ → Made
  Awaited : Interface → OpId → ℕ → Made
  Numbered : ℕ → ℕ → Made
  ToResult : ℕ → Made
  Past : Made
  Unmade : Made
  Joined : Interface → ℕ → Made
  Faulted : ℕ → Made
  Marked : ℕ → ℕ → Made

-- What a line works on.
pub record Here : Type 0 where
  pub machine : Machine
  pub at : Option (ℕ × ℕ)  -- the record that its handle stands for, once it was looked up, and the line whose operation asks
  pub made : Made
  pub own : Own

abbrev pub put : Here → ℕ → TcpRecord → Here
put h place r = record h { machine = record h.machine { store = with_socket h.machine.store place r } }

abbrev pub Found : Here → ℕ → TcpRecord → Type 0
Found h place r = tcp2_at h.machine.store.records place ≡ Some r

-- the same of a UDP socket
abbrev pub put_udp : Here → ℕ → UdpRecord → Here
put_udp h place u = record h { machine = record h.machine { store = with_udp h.machine.store place u } }

abbrev pub FoundUdp : Here → ℕ → UdpRecord → Type 0
FoundUdp h place u = udp2_at h.machine.store.records place ≡ Some u

-- other records
abbrev pub with_records : Here → List Record → Here
with_records h records = record h { machine = record h.machine { store = record h.machine.store { records = records } } }

-- with these calls beside others
abbrev pub with_beside : Here → List Beside → Here
with_beside h beside = record h { machine = record h.machine { store = record h.machine.store { beside = beside } } }

-- a connect of the record is pending
abbrev pub IsConnectOf : StandingCall → ℕ → Type 0
IsConnectOf (StandingCall.UdpConnect p handle) place = p ≡ place
IsConnectOf (StandingCall.UdpConnect3 p) place = p ≡ place
IsConnectOf _ place = ⊥

abbrev pub ConnectStands : Option Standing → ℕ → Type 0
ConnectStands None place = ⊥
ConnectStands (Some s) place = IsConnectOf s.call place

-- where that is taken out, the line goes on with it
abbrev pub TakesOver : Here → Type 0
TakesOver h = (place : ℕ) → ConnectStands h.machine.store.standing place → h.own ≡ ToConnect place

-- none goes on at the record, or it is pending
abbrev pub ConnectIsOver : Here → ℕ → Type 0
ConnectIsOver h place = ((o : OpenUdp) (op : Operation) → FoundUdp h place (UdpRecord.Open o) → o.connecting ≡ Some op → ⊥) ⊎ ConnectStands h.machine.store.standing place

-- none goes on where no open socket is
pub no_open : (h : Here) (place : ℕ) → open_at h.machine.store.records place ≡ None → (o : OpenUdp) (op : Operation) → FoundUdp h place (UdpRecord.Open o) → o.connecting ≡ Some op → ⊥
no_open h place e o op g c = absurd (let its : open_at h.machine.store.records place ≡ Some o = ap open_of g in cc)

-- a call that is none takes over nothing
abbrev pub NoConnectIn : StandingCall → Type 0
NoConnectIn (StandingCall.UdpConnect place handle) = ⊥
NoConnectIn (StandingCall.UdpConnect3 place) = ⊥
NoConnectIn _ = ⊤

pub takes_none : (standing : Option Standing) (ids : Ids) (call : StandingCall) (own : Own) → standing ≡ Some (standing_as ids call) → NoConnectIn call → (place : ℕ) → ConnectStands standing place → own ≡ ToConnect place
takes_none standing ids call own e n place k = absurd (by_call call n (subst (λ (o : Option Standing). ConnectStands o place) e k))
  where
    by_call : (call : StandingCall) → NoConnectIn call → IsConnectOf call place → ⊥
    by_call (StandingCall.UdpConnect p handle) n k = n
    by_call (StandingCall.UdpConnect3 p) n k = n
    by_call _ n k = k

-- == what may be released
-- no bind, listen, create or connect is pending
abbrev pub NoStartIn : StandingCall → Type 0
NoStartIn (StandingCall.DropOutput place) = ⊤
NoStartIn (StandingCall.DropOutgoing place) = ⊤
NoStartIn (StandingCall.Blocking call) = ⊤
NoStartIn _ = ⊥

abbrev pub NoStartStands : Option Standing → Type 0
NoStartStands None = ⊤
NoStartStands (Some s) = NoStartIn s.call

abbrev pub NoStart : Here → Type 0
NoStart h = NoStartStands h.machine.store.standing

-- the kind of handle that a TCP socket has in each interface
abbrev pub tcp_kind : Interface → ℕ → Kind
tcp_kind P2 place = Tcp2 place
tcp_kind P3 place = Tcp3 place

-- and nothing holds the record of the TCP socket any more, so that its streams may go
abbrev pub Releases : Here → ℕ → Type 0
Releases h place = NoStart h × (h.made ≡ Freed place)

-- its listener may go: there is none, or it has no handle yet, or none any more, or nothing holds the record
pub data ListenerGoes (h : Here) (place : ℕ) (r : TcpRecord) : Type 0 where
  NoListener : has_listener r.listening ≡ false → ListenerGoes h place r
  NotYet : (n : ℕ) (marks : Option ℕ) → h.made ≡ ToListen n marks place → ListenerGoes h place r
  NoMore : h.made ≡ Emptied (Listen3 place) → ListenerGoes h place r
  OfNothing : h.made ≡ Freed place → ListenerGoes h place r

-- a UDP socket may go: the line dropped its handle of 0.2, or nothing holds it any more
pub data ReleasesUdp (h : Here) (place : ℕ) : Type 0 where
  WithHandle : h.machine.store.standing ≡ None → h.made ≡ Emptied (Udp2 place) → ReleasesUdp h place
  Unheld : is_udp_held h.machine.store place ≡ false → ReleasesUdp h place

-- == what is made of no network socket
-- the record of a pipe is there before its handle, and has the next number
abbrev pub IsNumbered : Here → Kind → Type 0
IsNumbered h (PlainInput (plain_input.Pipe place)) = (h.made ≡ Numbered place h.machine.table.next) × (is_some (input_pipe_at h.machine.store.records place) ≡ true)
IsNumbered h (PlainOutput (plain_output.Pipe place)) = (h.made ≡ Numbered place h.machine.table.next) × (is_some (output_pipe_at h.machine.store.records place) ≡ true)
IsNumbered h _ = ⊤

-- == ends of a connection of 0.3
-- the end that a handle is of
abbrev pub end_in : Kind → Option ConnectionEnd
end_in (Receive3 end) = Some end
end_in (Send3 end) = Some end
end_in _ = None

abbrev pub end_of : Option Kind → Option ConnectionEnd
end_of None = None
end_of (Some kind) = end_in kind

-- the line makes an end of the socket of this handle, and its slot
abbrev pub MakesEnds : ℕ → Step → Type 0
MakesEnds socket (Step.Call ctx (GuestCall.P3Tcp (P3TcpCall.Receive s))) = s ≡ socket
MakesEnds socket (Step.Call ctx (GuestCall.P3Tcp (P3TcpCall.Send s))) = s ≡ socket
MakesEnds socket _ = ⊥

-- and this is the end
abbrev pub MakesEnd : ℕ → Kind → Step → Type 0
MakesEnd socket (Receive3 end) (Step.Call ctx (GuestCall.P3Tcp (P3TcpCall.Receive s))) = s ≡ socket
MakesEnd socket (Send3 end) (Step.Call ctx (GuestCall.P3Tcp (P3TcpCall.Send s))) = s ≡ socket
MakesEnd socket _ _ = ⊥

-- it is of the record of this place, where its half could be taken; it is closed, else
abbrev pub IsEndAt : ℕ → ConnectionEnd → Type 0
IsEndAt place end = (end.socket ≡ Some place) ⊎ (end.socket ≡ None)

-- == jobs
-- a record is there, and wasn't given back
abbrev pub IsRecord : Option Record → Type 0
IsRecord None = ⊥
IsRecord (Some Gone) = ⊥
IsRecord _ = ⊤

-- each job was one of these, or its record is there
abbrev pub KeepsJobs : List Record → List HostJob → List HostJob → Type 0
KeepsJobs records old now = (job : HostJob) → Has now job → Has old job ⊎ IsRecord (slice_get records (job_place job))

-- == what is given back
-- a record to which no handle is any more: nothing holds it, or it is a UDP socket whose network socket is closed,
-- or a lookup whose handle wasn't made, or a result slot
pub data IsLeft (h : Here) (place : ℕ) : Type 0 where
  OfTcp : (r : TcpRecord) → h.made ≡ Freed place → Found h place r → IsLeft h place
  OfUdp : (side : OpId) → FoundUdp h place (UdpRecord.Closed side) → IsLeft h place
  OfLookup : (l : NameLookup) → h.made ≡ Emptied (Lookup place) → lookup_at h.machine.store.records place ≡ Some l → IsLeft h place
  OfUnnamed : (l : NameLookup) → h.made ≡ Numbered place h.machine.table.next → lookup_at h.machine.store.records place ≡ Some l → IsLeft h place
  OfInput : (bytes : List ℕ) → h.made ≡ Emptied (PlainInput (plain_input.Pipe place)) → input_pipe_at h.machine.store.records place ≡ Some bytes → IsLeft h place
  OfOutput : (pipe : Contents) → h.made ≡ Emptied (PlainOutput (plain_output.Pipe place)) → output_pipe_at h.machine.store.records place ≡ Some pipe → IsLeft h place
  OfSlot : (s : Slot) → h.made ≡ Emptied (Result3 place) → slot_at h.machine.store.records place ≡ Some s → IsLeft h place

-- and no pending call is of it: none is pending, or it is closed
pub data GoesBack (h : Here) (place : ℕ) : Type 0 where
  WhenIdle : h.machine.store.standing ≡ None → GoesBack h place
  WhenClosed : (side : OpId) → FoundUdp h place (UdpRecord.Closed side) → GoesBack h place

-- it goes, with its jobs
abbrev pub without_record : Here → ℕ → Here
without_record h place = record h { machine = record h.machine { store = given_back place h.machine.store } }

-- == a create
-- a UDP socket that is there, isn't closed, and hasn't lost a handle
abbrev pub IsOpenUdp : UdpRecord → Type 0
IsOpenUdp (UdpRecord.Open o) = o.dropped ≡ false
IsOpenUdp _ = ⊥

-- The record of a create that is done, which has no handle yet.
pub record IsCreated (h : Here) (face : Interface) (place : ℕ) (u : UdpRecord) : Type 0 where
  pub awaited : h.made ≡ Awaited face (udp_side u) place
  pub found : FoundUdp h place u
  pub opens : IsOpenUdp u

-- == datagram streams
-- The step receives on the incoming stream of this record.
pub record TakesFrom (origin : Step) (t : HandleTable) (place : ℕ) : Type 0 where
  pub ctx : ℕ
  pub handle : ℕ
  pub most : ℕ
  pub is : origin ≡ Step.Call ctx (GuestCall.Udp (UdpCall.Receive handle most))
  pub of : kind_at t handle ≡ Some (Incoming place)

-- the line makes streams of the record's socket, under its handle
abbrev pub StreamsUnder : Here → ℕ → Type 0
StreamsUnder h place = (n : ℕ) × ((handle : ℕ) × (h.made ≡ ToStream n handle place))

-- How the incoming stream of a UDP socket moves: it stays as it is; it is made, where there was none; what it holds is taken, by a
-- line that receives on it; it goes, once its handle was dropped.
pub data StreamMoves (origin : Step) (h : Here) (place : ℕ) : Option IncomingStream → Option IncomingStream → Type 0 where
  StreamStays : (inc : Option IncomingStream) → StreamMoves origin h place inc inc
  StreamIsMade : (inc : IncomingStream) → StreamsUnder h place → StreamMoves origin h place None (Some inc)
  StreamIsTaken : (inc : IncomingStream) → TakesFrom origin h.machine.table place → StreamMoves origin h place (Some inc) (Some (with_receiving inc (taken inc.receiving).1))
  StreamGoes : (inc : Option IncomingStream) → h.made ≡ Emptied (Incoming place) → StreamMoves origin h place inc None

-- so it is there where it was, or its handle is gone
pub keeps_incoming : (origin : Step) (h : Here) (place : ℕ) (old now : Option IncomingStream) → StreamMoves origin h place old now → (is_some old ≡ true → is_some now ≡ true) ⊎ (h.made ≡ Emptied (Incoming place))
keeps_incoming origin h place _ _ (StreamStays inc) = inl (λ some. some)
keeps_incoming origin h place _ _ (StreamIsMade inc under) = inl (λ some. refl)
keeps_incoming origin h place _ _ (StreamIsTaken inc takes) = inl (λ some. refl)
keeps_incoming origin h place _ _ (StreamGoes inc gone) = inr gone

-- How both of its streams move: streams are there only where some were, or a line that has begun nothing makes them, while no start is
-- pending.
pub record KeepsStreams (origin : Step) (h : Here) (place : ℕ) (old now : OpenUdp) : Type 0 where
  pub incoming : StreamMoves origin h place old.incoming now.incoming
  pub makes : (has_streams now ≡ true → has_streams old ≡ true) ⊎ ((h.own ≡ Unused) × NoStart h)

pub or_true : (b : Bool) → b || true ≡ true
or_true true = refl
or_true false = refl

-- streams that are left were there
pub in_gone : (o : OpenUdp) → has_streams (record o { incoming = None }) ≡ true → has_streams o ≡ true
in_gone o some = rw some (or_true (is_some o.incoming))

pub out_gone : (o : OpenUdp) → has_streams (record o { outgoing = None }) ≡ true → has_streams o ≡ true
out_gone o some = by_incoming (is_some o.incoming) (is_some o.outgoing) some
  where
    by_incoming : (a b : Bool) → a || false ≡ true → a || b ≡ true
    by_incoming true b e = refl
    by_incoming false b e = absurd (cc)

-- the handle that is made next: that of the incoming stream, and then that of the outgoing one
abbrev pub MarksNext : Made → ℕ → ℕ → ℕ → Kind → ℕ → Type 0
MarksNext made n handle reached kind place = ((kind ≡ Incoming place) × (made ≡ ToStream n handle reached)) ⊎ ((kind ≡ Outgoing place) × (made ≡ ToSend n handle reached))

pub one_stream : (made : Made) (n handle reached : ℕ) (kind : Kind) (place : ℕ) → MarksNext made n handle reached kind place → (kind ≡ Incoming place) ⊎ (kind ≡ Outgoing place)
one_stream made n handle reached kind place (inl m) = inl m.0
one_stream made n handle reached kind place (inr m) = inr m.0

-- The incoming stream of the record is new: it holds nothing, and keeps the remote address of its socket. No start is pending.
pub record HasNewStream (store : Records) (place : ℕ) : Type 0 where
  pub quiet : NoStartStands store.standing
  pub socket : OpenUdp
  pub at : udp2_at store.records place ≡ Some (UdpRecord.Open socket)
  pub new : socket.incoming ≡ Some (record { remote = socket.inner.remote; receiving = Receiving.Nothing })

-- == names
-- the name of a part of a line
abbrev pub part_of : ℕ → ℕ → OpId
part_of line part = record { step = line; part = part }

-- The name may be that of a network socket or of an accept by now: it is of an older line, or of this one, and was given. A line
-- that has begun nothing gave none; one that may write has its names taken, since a write makes no network socket.
abbrev pub IsOlder : ℕ → Own → OpId → Type 0
IsOlder line Used x = x.step < line + 1
IsOlder line Unused x = x.step < line
IsOlder line (Names n) x = (x.step < line) ⊎ ((x.step ≡ line) × (x.part < n))
IsOlder line (ToWrite side bytes) x = x.step < line + 1
IsOlder line (ToConnect place) x = x.step < line + 1

-- an operation of the line, beside its own, may be given the name yet
abbrev pub IsToCome : ℕ → Own → OpId → Type 0
IsToCome line Used x = ⊥
IsToCome line Unused x = (x.step ≡ line) × (1 ≤ x.part)
IsToCome line (Names n) x = (x.step ≡ line) × (n ≤ x.part)
IsToCome line (ToWrite side bytes) x = ⊥
IsToCome line (ToConnect place) x = ⊥

-- no name is lost, and none is given back
abbrev pub Grows : ℕ → Own → Own → Type 0
Grows line own now = (x : OpId) → IsOlder line own x → IsOlder line now x

abbrev pub Shrinks : ℕ → Own → Own → Type 0
Shrinks line own now = (x : OpId) → IsToCome line now x → IsToCome line own x

pub older_used : (line : ℕ) (own : Own) → Grows line own Used
older_used line Used x o = o
older_used line Unused x o = omega arith
older_used line (Names n) x (inl o) = omega arith
older_used line (Names n) x (inr o) = let s : x.step ≡ line = o.0 in omega arith
older_used line (ToWrite side bytes) x o = o
older_used line (ToConnect place) x o = o

pub older_unused : (line : ℕ) (own : Own) → Grows line Unused own
older_unused line Used x o = omega arith
older_unused line Unused x o = o
older_unused line (Names n) x o = inl o
older_unused line (ToWrite side bytes) x o = omega arith
older_unused line (ToConnect place) x o = omega arith

pub older_names : (line n m : ℕ) → n ≤ m → Grows line (Names n) (Names m)
older_names line n m l x (inl o) = inl o
older_names line n m l x (inr o) = inr (o.0, (let p = o.1 in omega (arith, p, l)))

pub to_come_less : (line n m : ℕ) → n ≤ m → Shrinks line (Names n) (Names m)
to_come_less line n m l x t = (t.0, (let p = t.1 in omega (arith, p, l)))

-- a name that is to come wasn't given
pub not_given : (line : ℕ) (own : Own) (x : OpId) → IsOlder line own x → IsToCome line own x → ⊥
not_given line Unused x o t = let s : x.step ≡ line = t.0 in absurd (omega arith)
not_given line (Names n) x (inl o) t = let s : x.step ≡ line = t.0 in absurd (omega arith)
not_given line (Names n) x (inr o) t = let a = o.1 in let b = t.1 in absurd (omega (arith, a, b))
not_given line Used x o t = t
not_given line (ToWrite side bytes) x o t = t
not_given line (ToConnect place) x o t = t

-- where it is known what the line has begun
pub grows_to : (line : ℕ) (own was now : Own) → own ≡ was → Grows line was now → Grows line own now
grows_to line own was now e g = subst (λ (o : Own). Grows line o now) (sym e) g

pub shrinks_to : (line : ℕ) (own was now : Own) → own ≡ was → Shrinks line was now → Shrinks line own now
shrinks_to line own was now e g = subst (λ (o : Own). Shrinks line o now) (sym e) g

-- a line's next name is given, where something begins
abbrev pub after : Own → ℕ → Bool → Own
after own part true = Names (part + 1)
after own part false = own

abbrev pub part_after : ℕ → Bool → ℕ
part_after part true = part + 1
part_after part false = part

pub after_names : (part : ℕ) (begins : Bool) → after (Names part) part begins ≡ Names (part_after part begins)
after_names part true = refl
after_names part false = refl

-- what begins for line n by this part begins for the line that is done, whose next name it is
abbrev pub MayBegin : ℕ → ℕ → ℕ → Own → Bool → Type 0
MayBegin line n part own begins = begins ≡ true → (n ≡ line) × (own ≡ Names part)

-- the next name is to come, and is given then
pub next_to_come : (line n : ℕ) (own : Own) → own ≡ Names n → IsToCome line own (part_of line n)
next_to_come line n own e = subst (λ (o : Own). IsToCome line o (part_of line n)) (sym e) (refl, omega arith)

pub next_grows : (line n : ℕ) (own : Own) → own ≡ Names n → Grows line own (Names (n + 1))
next_grows line n own e = grows_to line own (Names n) (Names (n + 1)) e (older_names line n (n + 1) (omega arith))

pub next_shrinks : (line n : ℕ) (own : Own) → own ≡ Names n → Shrinks line own (Names (n + 1))
next_shrinks line n own e = shrinks_to line own (Names n) (Names (n + 1)) e (to_come_less line n (n + 1) (omega arith))

pub next_given : (line n : ℕ) → IsOlder line (Names (n + 1)) (part_of line n)
next_given line n = inr (refl, omega arith)

-- a line's own name isn't given where it has begun nothing
pub own_not_given : (line : ℕ) (own : Own) (x : OpId) → own ≡ Unused → x.step ≡ line → IsOlder line own x → ⊥
own_not_given line own x u e o = let p : IsOlder line Unused x = subst (λ (w : Own). IsOlder line w x) u o in absurd (omega (arith, p, e))

-- == ends of 0.3 connections
-- the socket that an open end is of, whose record it may outlive
abbrev pub end_place : Kind → Option ℕ
end_place (Receive3 end) = end.socket
end_place (Send3 end) = end.socket
end_place _ = None

-- the slot that a result's handle is of
abbrev pub slot_place : Kind → Option ℕ
slot_place (Result3 place) = Some place
slot_place _ = None

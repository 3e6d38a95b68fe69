-- Why listens of 0.3 sockets are refused, what they ask and leave, and how each poll of one ends; and what the accepts of their
-- listeners ask, give and leave.
use Rattle.std.specs.Prelude.{◌≡◌, ⊤, ℕ, zero, suc, Bool, true, false, List, [], ◌∷◌, ◌++◌, length, Option, Some, None, IfSome}
use Rattle.wasi_addr.specs.declared.address.IpSocketAddress.{IpSocketAddress}
use Rattle.wasi_addr.specs.declared.code.ErrorCode.{ErrorCode}
use Rattle.wasi_addr.specs.declared.code.ErrorCode.TheVariants.{InvalidState, Other}
use Rattle.wasi_addr.specs.Address.{wildcard}
use Rattle.wasi_world.specs.declared.call.Call.TheVariants as call
use Rattle.wasi_world.specs.declared.call.Entry.{Entry}
use Rattle.wasi_world.specs.declared.call.HandleKind.TheVariants as name
use Rattle.wasi_world.specs.declared.call.Told.TheVariants as told
use Rattle.wasi_world.specs.declared.ids.OpId.{OpId}
use Rattle.wasi_world.specs.declared.outcome.TrapKind.TheVariants.{Full}
use Rattle.wasi_world.specs.Operation.{Done, Given, Item, Operation, Refused, Waits}
use Rattle.wasi_table.specs.Table.{is_full}
use Rattle.wasi_tcp.specs.declared.listener.Accepting.TheVariants as accepting
use Rattle.wasi_tcp.specs.declared.socket.TcpState.{TcpState}
use Rattle.wasi_tcp.specs.declared.socket.TcpState.TheVariants as state
use Rattle.wasi_tcp.specs.Connecting.{with_state}
use Rattle.wasi_tcp.specs.Listen.{listen_first, listen_operation}
use Rattle.wasi_tcp.specs.Listener.{Listener, accepted_socket, accepted_state, new_listener}
use Rattle.wasi_tcp.specs.Shape.{Socket}
use Rattle.tcp_records.specs.declared.socket.TcpRecord.{TcpRecord}
use Rattle.tcp_records.specs.declared.tcp_binding.InProgress.TheVariants.{Nothing}
use Rattle.tcp_records.specs.declared.tcp_listening.Listening.{Listening}
use Rattle.tcp_records.specs.declared.tcp_listening.Listening.TheVariants as listening
use Rattle.record_common.specs.Binding.{left_of}
use Rattle.tcp_records.specs.InProgress.{is_nothing}
use Rattle.tcp_records.specs.Listening.{with_listening}
use Rattle.record_common.specs.Names.{own_of}
use Rattle.wasi_records.specs.Records.{tcp2_at}
use Rattle.tcp_records.specs.Sockets.{with_inner}
use Rattle.host_store.specs.declared.kind.Kind.TheVariants as kind
use Rattle.host_store.specs.declared.machine.Machine.{Machine}
use Rattle.host_store.specs.declared.store.StandingCall.TheVariants as standing
use Rattle.host_store.specs.Kinds.{with_handle}
use Rattle.host_store.specs.Lines.{tcp_in}
use Rattle.host_store.specs.Machine.{listen3_at}
use Rattle.host_store.specs.Store.{with_record}
use Rattle.wasi_steps.specs.declared.reply.CodeWord.{CodeWord}
use Rattle.wasi_steps.specs.declared.reply.Field.{Field}
use Rattle.wasi_steps.specs.declared.reply.Reply.{Reply}
use Rattle.wasi_steps.specs.declared.reply.Reply.TheVariants as reply
use Rattle.wasi_steps.specs.Reply.{no_fields, number_fields}
use Rattle.wasi_walks.specs.Answered.{IsPastDefault, knowing_bound, putting}
use Rattle.wasi_walks.specs.Licence.{entry}
use Rattle.wasi_walks.specs.Listens.{AcceptFails, AcceptGives, AcceptWaits, AcceptsIn, HasNoListener, accept_name, accepting_now}
use Rattle.wasi_walks.specs.Waiting.{nothing_stands}
use Rattle.wasi_causes.specs.P3Binds.{with_pending}
use Rattle.wasi_causes.specs.P3Connects.{AsksBound}
use Rattle.wasi_causes.specs.Polls.{Polled}
use Rattle.wasi_causes.specs.Refusals.{OfTcp3, SaidBy, p3_word}

-- == how a listen begins
-- the socket listens, or is about to
abbrev pub HasBegun : Listening → Type 0
HasBegun listening.Not = ⊥
HasBegun _ = ⊤

-- It begins, and is polled at once: nothing is in progress, no listen was begun, the socket is in its first state, and this was
-- asked of whether it is bound.
pub record ListenBegins (own : OpId) (r : TcpRecord) : Type 0 where
  pub idle : is_nothing r.in_progress ≡ true
  pub first : r.listening ≡ listening.Not
  pub side : OpId
  pub open_side : r.inner.state ≡ state.Default side
  pub asked : List Entry
  pub bound : Bool
  pub socket : Socket
  pub finds : AsksBound own r.inner asked bound socket

-- the operation that it begins, under the name of its line: a socket that isn't bound is bound to the wildcard before it listens
abbrev pub begun_listen : OpId → OpId → Socket → Bool → Operation
begun_listen own side socket bound =
    listen_operation (record { op = own; side = side; maker = socket.maker }) (wildcard socket.family) socket.backlog
    (listen_first bound)

abbrev pub its_operation : {own : OpId} {r : TcpRecord} → ListenBegins own r → Operation
its_operation {own} {r} b = begun_listen own b.side b.socket b.bound

-- it has taken the network socket: the socket is closed until it is done, and its code is Other
abbrev pub without_side : Socket → Socket
without_side socket = with_state socket (state.Closed Other)

-- the socket listens on this network socket, by a listener that has no accept yet, and nothing is in progress
abbrev pub as_listener : TcpRecord → OpId → ℕ → Socket → TcpRecord
as_listener r side maker socket = record r {
  inner = with_state socket (state.Listening side);
  in_progress = Nothing;
  listening = listening.Accepts (new_listener side maker socket.family);
}

abbrev pub listening_on : Machine → ℕ → TcpRecord → OpId → ℕ → Socket → Machine
listening_on m place r side maker socket = putting m place (as_listener r side maker socket)

-- its listen is over, and it stays closed
abbrev pub left_closed : Machine → ℕ → TcpRecord → Socket → Machine
left_closed m place r socket = putting m place (with_listening (with_inner r (without_side socket)) listening.Not)

-- the listener's handle, under that of its socket, and its mark
abbrev pub with_listener : Machine → ℕ → ℕ → Machine
with_listener m place handle = record m { table = with_handle m.table (kind.Listen3 place) (Some handle) }

abbrev pub listener_mark : Machine → OpId → ℕ → TcpRecord → Entry
listener_mark m own handle r = entry own (call.Made m.table.next name.Listen3 (Some handle) r.side) told.Done

-- == the answers of a listen
-- It is refused: an operation is in progress, or a listen was begun before, or the socket isn't in its first state; or its poll was
-- answered with a code, and its network socket was closed last.
pub data ListenFails (m : Machine) (own : OpId) (place : ℕ) (r : TcpRecord) : List Entry → ErrorCode → Machine
    → Type 0 where
  OperationGoesOn : is_nothing r.in_progress ≡ false → ListenFails m own place r [] InvalidState m
  BeganBefore : is_nothing r.in_progress ≡ true → HasBegun r.listening → ListenFails m own place r [] InvalidState m
  NotInFirstState : is_nothing r.in_progress ≡ true → r.listening ≡ listening.Not → IsPastDefault r.inner.state
      → ListenFails m own place r [] InvalidState (knowing_bound m place r)
  ListenTold : (b : ListenBegins own r) (polled : List Entry) (c : ErrorCode) (given : Given) (items : List Item)
      → Polled (its_operation b).who (its_operation b).left polled (Refused c given, items)
      → ListenFails m own place r (b.asked ++ polled) c (left_closed m place r b.socket)

abbrev pub P3ListenRefusal : Machine → OpId → ℕ → List Entry → CodeWord → Machine → Type 0
P3ListenRefusal m own handle es w after =
    OfTcp3 m handle (λ place r. SaidBy p3_word (λ c. ListenFails m own place r es c after) w)

-- It is done: each check was answered yes, and the bind, if there was one, and the listen were done.
pub record ListenIsDone (own : OpId) (r : TcpRecord) (entries : List Entry) : Type 0 where
  pub begins : ListenBegins own r
  pub polled : List Entry
  pub given : Given
  pub items : List Item
  pub ends : Polled (its_operation begins).who (its_operation begins).left polled (Done given, items)
  pub asked : entries ≡ begins.asked ++ polled

-- what is left of its socket then
abbrev pub left_listening : {own : OpId} {r : TcpRecord} → Machine → ℕ → ListenBegins own r → Machine
left_listening {own} {r} m place b = listening_on m place r b.side b.socket.maker b.socket

-- The listener has the next handle.
pub record Listens (m : Machine) (own : OpId) (handle place : ℕ) (r : TcpRecord) (entries : List Entry) (fields : List Field)
    (after : Machine) : Type 0 where
  pub front : List Entry
  pub done : ListenIsDone own r front
  pub asked : entries ≡ front ++ listener_mark m own handle r ∷ []
  pub number : fields ≡ number_fields m.table.next
  pub left : after ≡ with_listener (left_listening m place done.begins) place handle

-- There is no room for its handle: the socket listens all the same.
pub record ListensUnnamed (m : Machine) (own : OpId) (place : ℕ) (r : TcpRecord) (entries : List Entry) (after : Machine)
    : Type 0 where
  pub full : is_full m.table ≡ true
  pub done : ListenIsDone own r entries
  pub left : after ≡ left_listening m place done.begins

-- The last check was answered pending: the listen is in progress, by what is left, and is pending under its line's number.
pub record ListenStands (m : Machine) (line handle place : ℕ) (r : TcpRecord) (entries : List Entry) (after : Machine)
    : Type 0 where
  pub begins : ListenBegins (own_of line) r
  pub polled : List Entry
  pub items : List Item
  pub ends : Polled (its_operation begins).who (its_operation begins).left polled (Waits, items)
  pub asked : entries ≡ begins.asked ++ polled
  pub left : after ≡ with_pending (putting m place (with_listening (with_inner r (without_side begins.socket))
      (listening.Begins (left_of (its_operation begins) items)))) line (standing.Listen place (Some handle))

-- == a poll of one that is pending
-- what is left where it is done
abbrev pub left_polled : Machine → ℕ → TcpRecord → Operation → Machine
left_polled m place r op = listening_on (nothing_stands m) place r op.who.side op.who.context r.inner

-- It is pending still, by what is left; or is done, and the listener has the next handle, where there is room for it; or failed with
-- a code. Only the first leaves a call pending.
pub data ListenPolled (m : Machine) (n handle place : ℕ) (r : TcpRecord) (op : Operation) : List Entry → Reply → Machine
    → Type 0 where
  WaitsStill : (es : List Entry) (items : List Item) → Polled op.who op.left es (Waits, items)
      → ListenPolled m n handle place r op es (reply.Pending n)
      (putting m place (with_listening r (listening.Begins (left_of op items))))
  IsDone : (es : List Entry) (given : Given) (items : List Item) → Polled op.who op.left es (Done given, items)
      → ListenPolled m n handle place r op (es ++ listener_mark m (own_of n) handle r ∷ [])
      (reply.Ok (number_fields m.table.next)) (with_listener (left_polled m place r op) place handle)
  HasNoRoom : (es : List Entry) (given : Given) (items : List Item) → Polled op.who op.left es (Done given, items)
      → is_full m.table ≡ true → ListenPolled m n handle place r op es (reply.Trap Full) (left_polled m place r op)
  IsRefused : (es : List Entry) (c : ErrorCode) (given : Given) (items : List Item)
      → Polled op.who op.left es (Refused c given, items)
      → ListenPolled m n handle place r op es (reply.Err (p3_word c))
      (putting (nothing_stands m) place (with_listening r listening.Not))

-- == an accept
-- The handle names the record of a listener's socket, at this place, of which this holds.
pub record OfListener (m : Machine) (handle : ℕ) (P : ℕ → TcpRecord → Type 0) : Type 0 where
  pub place : ℕ
  pub found : TcpRecord
  pub names : listen3_at m handle ≡ Some place
  pub at : tcp2_at m.store.records place ≡ Some found
  pub holds : P place found

-- what its socket accepts by is an accept
abbrev pub ListenerAccepts : Machine → ℕ → Type 0
ListenerAccepts m handle = IfSome (tcp_in m (listen3_at m handle)) (λ r. AcceptsIn r.listening)

-- Nothing has come yet: the last ask of the accept was answered pending, or it has refused 64 arrivals; it goes on in the next poll.
pub data NoneCame (m : Machine) (line place : ℕ) (r : TcpRecord) (l : Listener) (entries : List Entry) : Machine → Type 0 where
  StillAccepts : (op : Operation) → op.who.id ≡ accept_name line l.accept → AcceptWaits op.who.id entries
      → NoneCame m line place r l entries (accepting_now m place r l (accepting.Asking op))

-- Something has come, now or before, and the listener keeps it: a connection that was handed over, or the code of a fault.
pub data HasCome (m : Machine) (line place : ℕ) (r : TcpRecord) (l : Listener) (entries : List Entry) : Machine → Type 0 where
  KeepsConnection : (new : OpId) (peer : IpSocketAddress)
      → AcceptGives (accept_name line l.accept) l.side l.accept new peer entries
      → HasCome m line place r l entries (accepting_now m place r l (accepting.Arrived new peer))
  KeepsFault : (c : ErrorCode) → AcceptFails (accept_name line l.accept) l.side l.accept c entries
      → HasCome m line place r l entries (accepting_now m place r l (accepting.Failed c))

-- What comes is taken, as the state of a socket and its network socket: a connection that was handed over, or a fault, whose socket is
-- closed with the code and has no network socket.
pub data Takes (line : ℕ) (l : Listener) : List Entry → TcpState → Option OpId → Type 0 where
  TakesConnection : (entries : List Entry) (new : OpId) (peer : IpSocketAddress)
      → AcceptGives (accept_name line l.accept) l.side l.accept new peer entries
      → Takes line l entries (accepted_state new peer) (Some new)
  TakesFault : (entries : List Entry) (c : ErrorCode)
      → AcceptFails (accept_name line l.accept) l.side l.accept c entries
      → Takes line l entries (state.Closed c) None

-- the listener has nothing in hand, and the socket has a record of its own
abbrev pub with_taken : Machine → ℕ → TcpRecord → Listener → TcpState → Machine
with_taken m place r l s =
    let left = accepting_now m place r l accepting.Idle in
    record left { store = with_record left.store (accepted_socket l.family l.maker s) }

-- the number of that record
abbrev pub its_place : Machine → ℕ → TcpRecord → Listener → ℕ
its_place m place r l = let left = accepting_now m place r l accepting.Idle in length left.store.records

-- What came has the next handle, under the listener's.
pub record HandsOver (m : Machine) (line handle place : ℕ) (r : TcpRecord) (l : Listener) (entries : List Entry) (after : Machine)
    : Type 0 where
  pub front : List Entry
  pub now : TcpState
  pub side : Option OpId
  pub takes : Takes line l front now side
  pub asked : entries ≡ front ++ entry (own_of line) (call.Made m.table.next name.Tcp3 (Some handle) side) told.Done ∷ []
  pub left : after ≡ (let left = with_taken m place r l now in
      record left { table = with_handle m.table (kind.Tcp3 (its_place m place r l)) (Some handle) })

-- There is no room for its handle: it was taken all the same, and has its record.
pub record TakesUnnamed (m : Machine) (line place : ℕ) (r : TcpRecord) (l : Listener) (entries : List Entry) (after : Machine)
    : Type 0 where
  pub full : is_full m.table ≡ true
  pub now : TcpState
  pub side : Option OpId
  pub takes : Takes line l entries now side
  pub left : after ≡ with_taken m place r l now

-- where nothing remains to be handed out it is only looked at
abbrev pub AcceptGave : Machine → ℕ → ℕ → ℕ → ℕ → TcpRecord → Listener → List Entry → List Field → Machine → Type 0
AcceptGave m line handle zero place r l es fields after = (fields ≡ no_fields) × HasCome m line place r l es after
AcceptGave m line handle (suc remaining) place r l es fields after =
    (fields ≡ number_fields m.table.next) × HandsOver m line handle place r l es after

-- Of a listener that accepts by an accept.
pub record ByListener (r : TcpRecord) (P : Listener → Type 0) : Type 0 where
  pub listener : Listener
  pub listens : r.listening ≡ listening.Accepts listener
  pub holds : AcceptsIn r.listening → P listener

-- It is refused where its socket has no listener, which no run has: nothing is asked.
abbrev pub AcceptRefusal : Machine → ℕ → List Entry → CodeWord → Machine → Type 0
AcceptRefusal m handle es w after =
    OfListener m handle (λ place r. HasNoListener r.listening × (es ≡ []) × (w ≡ p3_word InvalidState) × (after ≡ m))

-- How listens and accepts are answered: where each answer comes from, and what is left after a refusal.
use Rattle.std.specs.Prelude.{◌≡◌, ⊤, ℕ, ◌+◌, true, false, List, [], ◌∷◌, ◌++◌, Option, Some, IfSome, IsSomeAnd}
use Rattle.wasi_addr.specs.declared.address.IpSocketAddress.{IpSocketAddress}
use Rattle.wasi_addr.specs.declared.address.SocketAddrUse.TheVariants.{TcpListen}
use Rattle.wasi_addr.specs.declared.code.ErrorCode.{ErrorCode}
use Rattle.wasi_addr.specs.declared.code.ErrorCode.TheVariants.{AccessDenied, Other}
use Rattle.wasi_world.specs.declared.ids.OpId.{OpId}
use Rattle.wasi_world.specs.declared.call.Call.{Call}
use Rattle.wasi_world.specs.declared.call.Call.TheVariants as call
use Rattle.wasi_world.specs.declared.call.Entry.{Entry}
use Rattle.wasi_world.specs.declared.call.HandleKind.TheVariants as name
use Rattle.wasi_world.specs.declared.call.Told.{Told}
use Rattle.wasi_world.specs.declared.call.Told.TheVariants as told
use Rattle.wasi_world.specs.Operation.{Operation}
use Rattle.wasi_tcp.specs.declared.listener.Accepting.{Accepting}
use Rattle.wasi_tcp.specs.declared.listener.Accepting.TheVariants as accepting
use Rattle.wasi_tcp.specs.declared.socket.TcpState.TheVariants as state
use Rattle.wasi_tcp.specs.Connecting.{with_state}
use Rattle.wasi_tcp.specs.Listener.{Listener, with_accept, accepted_socket, accepted_state, HoldsAccept}
use Rattle.wasi_records.specs.Records.{tcp2_pushed}
use Rattle.tcp_records.specs.declared.tcp_listening.Listening.{Listening}
use Rattle.tcp_records.specs.declared.tcp_listening.Listening.TheVariants as listening
use Rattle.host_store.specs.declared.machine.Machine.{Machine}
use Rattle.tcp_records.specs.declared.socket.TcpRecord.{TcpRecord}
use Rattle.tcp_records.specs.Listening.{with_listening, accepted_record}
use Rattle.tcp_records.specs.InProgress.{is_listen}
use Rattle.wasi_steps.specs.declared.reply.CodeWord.{CodeWord}
use Rattle.wasi_steps.specs.declared.reply.CodeWord.TheVariants as word
use Rattle.wasi_walks.specs.Answered.{record_at, putting, word_of_code, EndsPending, StartRefusal, RefusedOf, IsBound, IsFoundUnbound, IsPastDefault, knowing_bound}
use Rattle.wasi_walks.specs.Licence.{entry}

-- == a listen
-- it is the record of a socket with no listen in progress
abbrev pub HasNoListenInProgress : Option TcpRecord → Type 0
HasNoListenInProgress found = IsSomeAnd found (λ r. is_listen r.in_progress ≡ false)

-- The last asks of a listen that is refused: what was asked of its network socket, the answer that refused it, and the close of
-- the network socket. Its local address wasn't reported but a code, or the check of that address was answered no, or the listen
-- was answered with a code.
pub data ListenFails (own side : OpId) (maker backlog : ℕ) : List Entry → ErrorCode → Type 0 where
  LocalTold : (c : ErrorCode) → ListenFails own side maker backlog (entry own (call.Local side) (told.Code c) ∷ entry own (call.Close side) told.Done ∷ []) c
  ListenDenied : (a : IpSocketAddress)
      → ListenFails own side maker backlog (entry own (call.Local side) (told.Addr a) ∷ entry own (call.Check maker a TcpListen) told.No ∷ entry own (call.Close side) told.Done ∷ []) AccessDenied
  ListenTold : (a : IpSocketAddress) (c : ErrorCode)
      → ListenFails own side maker backlog (entry own (call.Local side) (told.Addr a) ∷ entry own (call.Check maker a TcpListen) told.Yes ∷ entry own (call.Listen side backlog) (told.Code c) ∷ entry own (call.Close side) told.Done ∷ []) c

-- the machine, where a listen was refused: the socket is closed, and its code is Other
abbrev pub closed_by_listen : Machine → ℕ → TcpRecord → Machine
closed_by_listen m place r = putting m place (with_listening (record r { inner = with_state (record r.inner { bound = true }) (state.Closed Other) }) listening.Not)

-- A listen that was begun is refused: the socket isn't bound; or isn't in the state Default; or it was refused by what it was
-- answered, and then the socket is closed.
pub data ListenRefusal (m : Machine) (own : OpId) (place : ℕ) (r : TcpRecord) : List Entry → CodeWord → Machine → Type 0 where
  NotBound : (side : OpId) (local : Told) → IsFoundUnbound r.inner side local → ListenRefusal m own place r (entry own (call.Local side) local ∷ []) word.InvalidState m
  NotDefault : IsPastDefault r.inner.state → ListenRefusal m own place r [] word.InvalidState (knowing_bound m place r)
  ListenRefused : (side : OpId) (asked entries : List Entry) (c : ErrorCode) → r.inner.state ≡ state.Default side → r.listening ≡ listening.Not → IsBound own r.inner asked
      → ListenFails own side r.inner.maker r.inner.backlog entries c → ListenRefusal m own place r (asked ++ entries) (word_of_code c) (closed_by_listen m place r)

-- the start of a listen was refused
abbrev pub RefusedListen : Machine → OpId → ℕ → List Entry → CodeWord → Machine → Type 0
RefusedListen m own handle = RefusedOf m handle (λ place r. StartRefusal m r (ListenRefusal m own place r))

-- == an accept
-- the name of the accept that the line polls: the one in progress, or the line's next
abbrev pub accept_name : ℕ → Accepting → OpId
accept_name line accepting.Idle = record { step = line; part = 1 }
accept_name line (accepting.Asking op) = op.who.id
accept_name line (accepting.Arrived new peer) = new
accept_name line (accepting.Failed c) = record { step = line; part = 1 }

-- how many arrivals were refused
abbrev pub refused_by : Call → ℕ
refused_by (call.Refuse sock peer) = 1
refused_by _ = 0

abbrev pub refused_in : List Entry → ℕ
refused_in [] = 0
refused_in (e ∷ es) = refused_by e.call + refused_in es

-- An accept waits: its last ask was answered pending, or it has refused 64 arrivals at once.
pub data AcceptWaits (id : OpId) (entries : List Entry) : Type 0 where
  LastWaits : EndsPending id entries → AcceptWaits id entries
  RefusedMost : refused_in entries ≡ 64 → AcceptWaits id entries

-- An accept failed with the code: the last of its asks was answered with it, or it was reported before and wasn't taken.
pub data AcceptFails (id side : OpId) (accept : Accepting) (c : ErrorCode) : List Entry → Type 0 where
  WasTold : accept ≡ accepting.Failed c → AcceptFails id side accept c []
  IsTold : (front : List Entry) → AcceptFails id side accept c (front ++ entry id (call.Accept side) (told.Code c) ∷ [])

-- the machine, with this accept of the listener
abbrev pub accepting_now : Machine → ℕ → TcpRecord → Listener → Accepting → Machine
accepting_now m place r l a = putting m place (with_listening r (listening.Accepts (with_accept l a)))

-- the socket has no listener
abbrev pub HasNoListener : Listening → Type 0
HasNoListener (listening.Accepts l) = ⊥
HasNoListener _ = ⊤

-- An accept is refused: the socket has no listener; or the accept waits, and stays; or it failed with a code, and is over.
pub data AcceptRefusal (m : Machine) (line place : ℕ) (r : TcpRecord) (entries : List Entry) : CodeWord → Machine → Type 0 where
  NoListener : HasNoListener r.listening → entries ≡ [] → AcceptRefusal m line place r entries word.InvalidState m
  StillAccepts : (l : Listener) (op : Operation) → r.listening ≡ listening.Accepts l → op.who.id ≡ accept_name line l.accept → AcceptWaits op.who.id entries
      → AcceptRefusal m line place r entries word.WouldBlock (accepting_now m place r l (accepting.Asking op))
  AcceptFailed : (l : Listener) (c : ErrorCode) → r.listening ≡ listening.Accepts l → AcceptFails (accept_name line l.accept) l.side l.accept c entries
      → AcceptRefusal m line place r entries (word_of_code c) (accepting_now m place r l accepting.Idle)

-- the handle's socket refused to accept
abbrev pub RefusedAccept : Machine → ℕ → ℕ → List Entry → CodeWord → Machine → Type 0
RefusedAccept m line handle = RefusedOf m handle (λ place r. AcceptRefusal m line place r)

-- A connection is there: it was handed over before and wasn't taken, or the last of the accept's asks handed it over.
pub data AcceptGives (id side : OpId) (accept : Accepting) (new : OpId) (peer : IpSocketAddress) : List Entry → Type 0 where
  WasHanded : accept ≡ accepting.Arrived new peer → AcceptGives id side accept new peer []
  IsHanded : (front : List Entry) → new ≡ id → AcceptGives id side accept new peer (front ++ entry id (call.Hand side peer) told.Done ∷ [])

-- the three marks of a connection that was accepted, from this number of a handle on
abbrev pub accepted_marks : OpId → ℕ → ℕ → OpId → List Entry
accepted_marks own listener next side =
    entry own (call.Made next name.Tcp2 (Some listener) (Some side)) told.Done
    ∷ entry own (call.Made (next + 1) name.Input (Some next) (Some side)) told.Done
    ∷ entry own (call.Made (next + 2) name.Output (Some next) (Some side)) told.Done ∷ []

-- The connection was taken from the handle's listener: what it gave, and then the three marks; the socket has a record of its own.
pub record AcceptTakes (m : Machine) (own : OpId) (line handle place : ℕ) (r : TcpRecord) (entries : List Entry) (after : Machine) : Type 0 where
  pub listener : Listener
  pub listens : r.listening ≡ listening.Accepts listener
  pub side : OpId
  pub peer : IpSocketAddress
  pub front : List Entry
  pub given : AcceptGives (accept_name line listener.accept) listener.side listener.accept side peer front
  pub asked : entries ≡ front ++ accepted_marks own handle m.table.next side
  pub store : after.store ≡ (let left = accepting_now m place r listener accepting.Idle in record left.store { records = tcp2_pushed left.store.records (accepted_record (accepted_socket listener.family listener.maker (accepted_state side peer))).1 })

-- where the handle's socket listens, its accept is one
abbrev pub AcceptsIn : Listening → Type 0
AcceptsIn (listening.Accepts l) = HoldsAccept l.side l.maker l.accept
AcceptsIn _ = ⊤

abbrev pub AcceptsAt : Machine → ℕ → Type 0
AcceptsAt m handle = IfSome (record_at m handle) (λ r. AcceptsIn r.listening)

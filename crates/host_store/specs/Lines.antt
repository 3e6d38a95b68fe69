-- ?
use Rattle.std.specs.Prelude.{ℕ, Result, Ok, Err, Option, Some, None}
use Rattle.wasi_addr.specs.declared.code.ErrorCode.{ErrorCode}
use Rattle.wasi_world.specs.declared.ids.Ids.{Ids}
use Rattle.wasi_world.specs.declared.ids.OpId.{OpId}
use Rattle.wasi_world.specs.declared.outcome.Answer.{Answer}
use Rattle.wasi_world.specs.Asks.{Asks, Give}
use Rattle.tcp_records.specs.declared.socket.TcpRecord.{TcpRecord}
use Rattle.record_common.specs.Stops.{Code, Stop, StopOf, Trap, code_stop}
use Rattle.host_store.specs.declared.store.StandingCall.{StandingCall}
use Rattle.host_store.specs.Block.{Does, Look, Call, Line, need, last, ◌>>=◌, ◌>>◌}
use Rattle.host_store.specs.Standing.{stood}
use Rattle.host_store.specs.Store.{Records, with_socket}
use Rattle.wasi_addr.specs.declared.p2.ErrorCode.{ErrorCode as P2Code}
use Rattle.wasi_addr.specs.declared.p2.ErrorCode.TheVariants.{NotInProgress}
use Rattle.wasi_world.specs.declared.outcome.TrapKind.TheVariants.{NoSuchHandle}
use Rattle.wasi_records.specs.Records.{tcp2_at}
use Rattle.tcp_records.specs.InProgress.{is_connect}
use Rattle.tcp_records.specs.Sockets.{poll_connect_asks}
use Rattle.host_store.specs.declared.kind.Kind.{Kind}
use Rattle.host_store.specs.declared.machine.Machine.{Machine}
use Rattle.host_store.specs.Kinds.{HandleTable, make_asks}
use Rattle.host_store.specs.Machine.{socket_at}

-- what a call that may be pending answers
abbrev pub Answered : Type 0
Answered = Result (Answer (Unit {0})) ErrorCode

-- pending, the call is kept under its line's number
abbrev pub keeps : Ids → StandingCall → Answer (Unit {0}) → Does ErrorCode Records (Answer (Unit {0}))
keeps ids call answer store = let so = stood store ids call answer in Give (Ok so.0, so.1)

-- a stop stays one
abbrev pub same_stop : {C : Type 0} → StopOf C → StopOf C
same_stop stop = stop

-- == of the records
-- the TCP socket of this number
abbrev pub tcp_at : {C : Type 0} → ℕ → Line C Records TcpRecord
tcp_at place = Look (λ store. tcp2_at store.records place)

-- a call on it that returns codes, and one that returns stops
abbrev pub asked_of : {A : Type 0} → ℕ → TcpRecord → (TcpRecord → Asks (Result A ErrorCode × TcpRecord)) → Line P2Code Records A
asked_of place r call = Call code_stop (λ store. r) (λ store now. with_socket store place now) call

abbrev pub done_by : {A : Type 0} → ℕ → TcpRecord → (TcpRecord → Asks (Result A Stop × TcpRecord)) → Line P2Code Records A
done_by place r call = Call same_stop (λ store. r) (λ store now. with_socket store place now) call

-- a call on the TCP socket of this number, and no more
abbrev pub on_tcp : {A : Type 0} → ℕ → (TcpRecord → Asks (Result A ErrorCode × TcpRecord)) → Does P2Code Records A
on_tcp place call = do
  r ← tcp_at place
  last (asked_of place r call)

-- the connect in progress is polled
abbrev pub finish_connect_of : ℕ → Does P2Code Records (Unit {0})
finish_connect_of place = do
  r ← tcp_at place
  need (is_connect r.in_progress) (Code NotInProgress)
  last (done_by place r poll_connect_asks)

-- what is told of a TCP socket without asking, or that there is none
abbrev pub told_of : {A : Type 0} → (TcpRecord → A) → Option TcpRecord → Result A Stop
told_of tells None = Err (Trap NoSuchHandle)
told_of tells (Some r) = Ok (tells r)

-- == of the machine
-- the TCP socket that a handle names
abbrev pub tcp_in : Machine → Option ℕ → Option TcpRecord
tcp_in m None = None
tcp_in m (Some place) = tcp2_at m.store.records place

abbrev pub tcp_of : Machine → ℕ → Option TcpRecord
tcp_of m handle = tcp_in m (socket_at m handle)

-- the number that the handle of a TCP socket names
abbrev pub tcp_named : {C : Type 0} → ℕ → Line C Machine ℕ
tcp_named handle = Look (λ m. socket_at m handle)

-- with this store, and with this table
abbrev pub storing : Machine → Records → Machine
storing m store = record m { store = store }

abbrev pub tabling : Machine → HandleTable → Machine
tabling m table = record m { table = table }

-- a call on the store
abbrev pub in_store : {C A : Type 0} → Does C Records A → Line C Machine A
in_store call = Call same_stop (λ m. m.store) storing call

-- a handle is made
abbrev pub makes : OpId → Kind → Option ℕ → Option OpId → Line P2Code Machine ℕ
makes own kind parent side = Call same_stop (λ m. m.table) tabling (λ t. make_asks t own kind parent side)

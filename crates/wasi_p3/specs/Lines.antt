-- The lines of blocks of 0.3: what a handle names, and a call on it.
use Rattle.std.specs.Prelude.{ℕ, Option, Some, None, Result, Err}
use Rattle.wasi_addr.specs.declared.code.ErrorCode.{ErrorCode}
use Rattle.wasi_addr.specs.declared.p3.ErrorCode.{ErrorCode as P3Code}
use Rattle.wasi_addr.specs.Code.{p3_of_code}
use Rattle.wasi_world.specs.declared.outcome.TrapKind.TheVariants.{NoSuchHandle}
use Rattle.wasi_world.specs.Asks.{Asks, Give, bind}
use Rattle.wasi_tcp.specs.Shape.{Socket}
use Rattle.tcp_records.specs.declared.socket.TcpRecord.{TcpRecord}
use Rattle.udp_records.specs.declared.udp.OpenUdp.{OpenUdp}
use Rattle.wasi_records.specs.Records.{open_at}
use Rattle.tcp_records.specs.Sockets.{inner_answered}
use Rattle.record_common.specs.Stops.{Trap}
use Rattle.host_store.specs.declared.machine.Machine.{Machine}
use Rattle.host_store.specs.Block.{Does, Line, Look, Call, last, ◌>>=◌}
use Rattle.host_store.specs.BaseStops.{renamed}
pub use Rattle.host_store.specs.Lines.{in_store, same_stop}
use Rattle.host_store.specs.Lines.{storing, tcp_at, tcp_in}
use Rattle.host_store.specs.Machine.{tcp3_at, udp3_at}
use Rattle.host_store.specs.Store.{with_open_udp}
use Rattle.host_store.specs.Store.{Records, with_socket}
use Rattle.wasi_p3.specs.Stops.{P3Stop, p3_stop, p3_told}

-- == of the records
-- a call on a TCP socket, whose codes get their 0.3 names
abbrev pub asked_of : {A : Type 0} → ℕ → TcpRecord → (TcpRecord → Asks (Result A ErrorCode × TcpRecord))
    → Line P3Code Records A
asked_of place r call = Call p3_stop (λ store. r) (λ store now. with_socket store place now) call

-- the socket itself is called
abbrev pub inner_call : {A : Type 0} → (Socket → Asks (Result A ErrorCode × Socket)) → TcpRecord
    → Asks (Result A ErrorCode × TcpRecord)
inner_call call r = bind (call r.inner) (λ done. Give (inner_answered r done))

-- and no more
abbrev pub on_tcp : {A : Type 0} → ℕ → (TcpRecord → Asks (Result A ErrorCode × TcpRecord)) → Does P3Code Records A
on_tcp place call = do
  r ← tcp_at place
  last (asked_of place r call)

-- what is told of a socket without asking, or that there is none
abbrev pub told_of : {R A : Type 0} → (R → Result A ErrorCode) → Option R → Result A P3Stop
told_of tells None = Err (Trap NoSuchHandle)
told_of tells (Some r) = p3_told (tells r)

-- == of the machine
-- the TCP socket that a handle names
abbrev pub tcp_of : Machine → ℕ → Option TcpRecord
tcp_of m handle = tcp_in m (tcp3_at m handle)

-- the number that the handle of a TCP socket names
abbrev pub tcp_named : {C : Type 0} → ℕ → Line C Machine ℕ
tcp_named handle = Look (λ m. tcp3_at m handle)

-- a call on the TCP socket that a handle names, and no more
abbrev pub of_tcp : {A : Type 0} → ℕ → (TcpRecord → Asks (Result A ErrorCode × TcpRecord)) → Does P3Code Machine A
of_tcp handle call = do
  place ← tcp_named handle
  last (in_store (on_tcp place call))

-- a call whose codes get their 0.3 names: on all of it, or on the store
abbrev pub in_host : {A : Type 0} → Does ErrorCode Machine A → Line P3Code Machine A
in_host call = Call (renamed p3_of_code) (λ m. m) (λ m now. now) call

abbrev pub in_base : {A : Type 0} → Does ErrorCode Records A → Line P3Code Machine A
in_base call = Call (renamed p3_of_code) (λ m. m.store) storing call

-- == UDP sockets: the same
abbrev pub on_udp : {A : Type 0} → ℕ → (OpenUdp → Asks (Result A ErrorCode × OpenUdp)) → Does P3Code Records A
on_udp place call = do
  o ← Look (λ store. open_at store.records place)
  last (Call p3_stop (λ store. o) (λ store now. with_open_udp store place now) call)

abbrev pub udp_in : Machine → Option ℕ → Option OpenUdp
udp_in m None = None
udp_in m (Some place) = open_at m.store.records place

abbrev pub udp_of : Machine → ℕ → Option OpenUdp
udp_of m handle = udp_in m (udp3_at m handle)

-- the number that its handle names
abbrev pub udp_named : {C : Type 0} → ℕ → Line C Machine ℕ
udp_named handle = Look (λ m. udp3_at m handle)

abbrev pub of_udp : {A : Type 0} → ℕ → (OpenUdp → Asks (Result A ErrorCode × OpenUdp)) → Does P3Code Machine A
of_udp handle call = do
  place ← udp_named handle
  last (in_store (on_udp place call))

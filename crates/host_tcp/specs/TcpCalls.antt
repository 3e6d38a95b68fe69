-- ?
use Rattle.std.specs.Prelude.{ℕ, List, Option, Some, None, Result, Ok, Err, Bool, true, false}
use Rattle.wasi_addr.specs.declared.code.ErrorCode.{ErrorCode}
use Rattle.wasi_world.specs.declared.ids.Ids.{Ids}
use Rattle.wasi_world.specs.declared.outcome.Answer.{Answer}
use Rattle.wasi_world.specs.declared.outcome.Answer.TheVariants.{Ready, Pending}
use Rattle.wasi_world.specs.declared.outcome.TrapKind.TheVariants.{NoSuchHandle}
use Rattle.wasi_world.specs.Asks.{Asks, Give, bind}
use Rattle.host_store.specs.declared.kind.Interface.TheVariants.{P2}
use Rattle.tcp_records.specs.declared.socket.TcpRecord.{TcpRecord}
use Rattle.host_store.specs.declared.store.StandingCall.TheVariants.{Bind, Listen}
use Rattle.record_common.specs.Stops.{Stop, Code, Trap, code_stop}
use Rattle.host_store.specs.Store.{Records, with_socket, put_back}
use Rattle.host_store.specs.Standing.{call_answered}
use Rattle.tcp_records.specs.Listening.{poll_listen_asks, accept_record_asks, begin_listen_asks, ids_of}
use Rattle.wasi_records.specs.Accepted.{with_accepted_in}
use Rattle.wasi_addr.specs.declared.address.IpSocketAddress.{IpSocketAddress}
use Rattle.wasi_addr.specs.declared.p2.ErrorCode.TheVariants.{ConcurrencyConflict, NotInProgress}
use Rattle.host_store.specs.declared.store.StandingCall.TheVariants as standing
use Rattle.tcp_records.specs.InProgress.{is_nothing}
use Rattle.record_common.specs.Names.{own_of}
use Rattle.wasi_world.specs.declared.ids.OpId.{OpId}
use Rattle.tcp_records.specs.declared.tcp_binding.InProgress.{InProgress}
use Rattle.tcp_records.specs.declared.tcp_binding.InProgress.TheVariants as doing
use Rattle.wasi_addr.specs.declared.p2.ErrorCode.TheVariants as p2
use Rattle.wasi_tcp.specs.Shape.{Socket}
use Rattle.wasi_records.specs.Records.{tcp2_put}
use Rattle.wasi_records.specs.declared.records.Record.{Record}
use Rattle.wasi_addr.specs.declared.address.ShutdownType.{ShutdownType}
use Rattle.tcp_records.specs.Binding.{begin_bind_asks}
use Rattle.tcp_records.specs.Sockets.{begin_connect_asks, with_progress}
use Rattle.tcp_records.specs.Shutdowns.{shut_record}

abbrev pub relisten_at : Records → Ids → ℕ → Option TcpRecord → Asks (Result (Answer (Unit {0})) Stop × Records)
relisten_at store ids place None = Give (Err (Trap NoSuchHandle), store)
relisten_at store ids place (Some r) = bind (poll_listen_asks r) (λ done. Give (call_answered store ids (Listen place None) done))

abbrev pub start_bind_by : Records → Ids → ℕ → IpSocketAddress → TcpRecord → Bool → Asks (Result (Answer (Unit {0})) Stop × Records)
start_bind_by store ids place a r true = bind (begin_bind_asks (own_of ids.line) r a) (λ begun. Give (call_answered store ids (standing.Bind place P2) begun))
start_bind_by store ids place a r false = Give (Err (Code ConcurrencyConflict), store)

-- with an operation in progress it is refused
abbrev pub start_bind_at : Records → Ids → ℕ → IpSocketAddress → Option TcpRecord → Asks (Result (Answer (Unit {0})) Stop × Records)
start_bind_at store ids place a None = Give (Err (Trap NoSuchHandle), store)
start_bind_at store ids place a (Some r) = start_bind_by store ids place a r (is_nothing r.in_progress)

-- only what was started is finished
abbrev pub finish_by : Records → ℕ → TcpRecord → Bool → Result (Unit {0}) Stop × Records
finish_by store place r true = (Ok tt, with_socket store place (with_progress r doing.Nothing))
finish_by store place r false = (Err (Code NotInProgress), store)

abbrev pub finish_at : (InProgress → Bool) → Records → ℕ → Option TcpRecord → Result (Unit {0}) Stop × Records
finish_at is_it store place None = (Err (Trap NoSuchHandle), store)
finish_at is_it store place (Some r) = finish_by store place r (is_it r.in_progress)

abbrev pub start_connect_by : Records → OpId → ℕ → IpSocketAddress → TcpRecord → Bool → Asks (Result (Unit {0}) Stop × Records)
start_connect_by store op place a r true = bind (begin_connect_asks op r a) (λ done. Give (put_back store place done))
start_connect_by store op place a r false = Give (Err (Code ConcurrencyConflict), store)

abbrev pub start_connect_at : Records → OpId → ℕ → IpSocketAddress → Option TcpRecord → Asks (Result (Unit {0}) Stop × Records)
start_connect_at store op place a None = Give (Err (Trap NoSuchHandle), store)
start_connect_at store op place a (Some r) = start_connect_by store op place a r (is_nothing r.in_progress)

abbrev pub start_listen_by : Records → Ids → ℕ → TcpRecord → Bool → Asks (Result (Answer (Unit {0})) Stop × Records)
start_listen_by store ids place r true = bind (begin_listen_asks (own_of ids.line) r) (λ begun. Give (call_answered store ids (standing.Listen place None) begun))
start_listen_by store ids place r false = Give (Err (Code p2.ConcurrencyConflict), store)

-- with an operation in progress it is refused
abbrev pub start_listen_at : Records → Ids → ℕ → Option TcpRecord → Asks (Result (Answer (Unit {0})) Stop × Records)
start_listen_at store ids place None = Give (Err (Trap NoSuchHandle), store)
start_listen_at store ids place (Some r) = start_listen_by store ids place r (is_nothing r.in_progress)

abbrev pub with_records : Records → Result ℕ Stop × List Record → Result ℕ Stop × Records
with_records store done = (done.0, record store { records = done.1 })

-- or why there is none
abbrev pub accept_answered : Records → ℕ → Result (Answer Socket) ErrorCode × TcpRecord → Result ℕ Stop × Records
accept_answered store place (Ok (Ready socket), r) = with_records store (with_accepted_in (tcp2_put store.records place r) socket)
accept_answered store place (Ok Pending, r) = (Err (Code p2.WouldBlock), with_socket store place r)
accept_answered store place (Err c, r) = (Err (code_stop c), with_socket store place r)

abbrev pub accept_at : Records → Ids → ℕ → Option TcpRecord → Asks (Result ℕ Stop × Records)
accept_at store ids place None = Give (Err (Trap NoSuchHandle), store)
accept_at store ids place (Some r) = bind (accept_record_asks ids r) (λ done. Give (accept_answered store place done))

abbrev pub accept_ids_at : Ids → Option TcpRecord → Ids
accept_ids_at ids None = ids
accept_ids_at ids (Some r) = ids_of r.listening ids

abbrev pub shut_put : Records → ℕ → Result (Unit {0}) Stop × TcpRecord → Result (Unit {0}) Stop × Records
shut_put store place done = (done.0, with_socket store place done.1)

abbrev pub shutdown_at : Records → OpId → ShutdownType → ℕ → Option TcpRecord → Asks (Result (Unit {0}) Stop × Records)
shutdown_at store op how place None = Give (Err (Trap NoSuchHandle), store)
shutdown_at store op how place (Some r) = bind (shut_record op how r r.streams) (λ done. Give (shut_put store place done))

-- Listens of 0.3, and the accepts of their listeners.
use Rattle.std.specs.Prelude.{ℕ, length, Some, Ok}
use Rattle.wasi_addr.specs.declared.code.ErrorCode.{ErrorCode}
use Rattle.wasi_addr.specs.declared.code.ErrorCode.TheVariants.{InvalidState}
use Rattle.wasi_world.specs.declared.ids.Ids.{Ids}
use Rattle.wasi_world.specs.declared.ids.OpId.{OpId}
use Rattle.wasi_world.specs.declared.outcome.Answer.{Answer}
use Rattle.wasi_world.specs.declared.outcome.Answer.TheVariants.{Ready, Pending}
use Rattle.wasi_world.specs.Asks.{Asks, Give, bind}
use Rattle.wasi_tcp.specs.Shape.{Socket}
use Rattle.tcp_records.specs.declared.socket.TcpRecord.{TcpRecord}
use Rattle.tcp_records.specs.InProgress.{is_nothing}
use Rattle.tcp_records.specs.Listening.{accept_record_asks, listen_once, look_accept_asks, poll_listen_asks}
use Rattle.record_common.specs.Names.{own_of}
use Rattle.wasi_records.specs.Records.{tcp2_at}
use Rattle.record_common.specs.Stops.{Code}
use Rattle.host_store.specs.declared.kind.Interface.TheVariants.{P3}
use Rattle.host_store.specs.declared.kind.Kind.TheVariants.{Listen3}
use Rattle.host_store.specs.declared.machine.Machine.{Machine}
use Rattle.host_store.specs.declared.store.StandingCall.TheVariants.{Listen}
use Rattle.host_store.specs.BaseStops.{trap_of}
use Rattle.host_store.specs.Lines.{Answered, keeps, in_store, tabling, tcp_at}
use Rattle.host_tcp.specs.Binds.{bind_told, stands_of}
use Rattle.host_store.specs.Block.{Does, Look, Read, Call, give, last, need, ◌>>=◌, ◌>>◌}
use Rattle.host_store.specs.Kinds.{make_asks}
use Rattle.host_store.specs.Machine.{side_at, tcp3_at}
use Rattle.host_store.specs.Store.{Records, with_record, with_socket}

-- == on the record of a socket, bound or not; a listen that is done leaves nothing in progress
abbrev pub listens : OpId → TcpRecord → Asks (Answered × TcpRecord)
listens op r = bind (listen_once op r r.listening) (λ done. Give (bind_told P3 done))

abbrev pub relistens : TcpRecord → Asks (Answered × TcpRecord)
relistens r = bind (poll_listen_asks r) (λ done. Give (bind_told P3 done))

-- == on the records
abbrev pub listen_in : Ids → ℕ → ℕ → Does ErrorCode Records (Answer (Unit {0}))
listen_in ids handle place = do
  r ← tcp_at place
  need (is_nothing r.in_progress) (Code InvalidState)
  answer ← Call Code (λ store. r) (λ store now. with_socket store place now) (listens (own_of ids.line))
  keeps ids (Listen place (Some handle)) answer

-- one that was pending is polled again
abbrev pub relisten_in : Ids → ℕ → ℕ → Does ErrorCode Records (Answer (Unit {0}))
relisten_in ids handle place = stands_of ids (Listen place (Some handle)) relistens

-- == a listener gets a handle, whose mark names that of its socket as the parent
abbrev pub make_listener : OpId → ℕ → Does ErrorCode Machine (Answer ℕ)
make_listener own handle = do
  place ← Look (λ m. tcp3_at m handle)
  side ← Read (λ m. side_at (tcp2_at m.store.records place))
  listener ← Call trap_of (λ m. m.table) tabling (λ t. make_asks t own (Listen3 place) (Some handle) side)
  give (Ready listener)

-- once its socket listens
abbrev pub listened : OpId → ℕ → Answer (Unit {0}) → Does ErrorCode Machine (Answer ℕ)
listened own handle (Ready done) m = make_listener own handle m
listened own handle Pending m = give Pending m

abbrev pub listen_of : Ids → ℕ → ℕ → Does ErrorCode Machine (Answer ℕ)
listen_of ids handle place = do
  answer ← in_store (listen_in ids handle place)
  listened (own_of ids.line) handle answer

abbrev pub relisten_of : Ids → ℕ → ℕ → Does ErrorCode Machine (Answer ℕ)
relisten_of ids handle place = do
  answer ← in_store (relisten_in ids handle place)
  listened (own_of ids.line) handle answer

-- == an accept
-- it is looked at
abbrev pub look_accept : Ids → ℕ → Does ErrorCode Records (Answer (Unit {0}))
look_accept ids place = do
  r ← tcp_at place
  last (Call Code (λ store. r) (λ store now. with_socket store place now) (look_accept_asks ids))

-- or polled: the record of what it gives is new; a fault gives a socket that is closed with its code, and has no network socket
abbrev pub keep_accepted : Answer Socket → Does ErrorCode Records (Answer ℕ)
keep_accepted (Ready socket) store = Give (Ok (Ready (length store.records)), with_record store socket)
keep_accepted Pending store = Give (Ok Pending, store)

abbrev pub accept_in : Ids → ℕ → Does ErrorCode Records (Answer ℕ)
accept_in ids place = do
  r ← tcp_at place
  answer ← Call Code (λ store. r) (λ store now. with_socket store place now) (accept_record_asks ids)
  keep_accepted answer

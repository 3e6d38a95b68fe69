-- Binds of 0.3, and how a bind of either interface that was pending goes on.
use Rattle.std.specs.Prelude.{ℕ, Ok, Err}
use Rattle.wasi_addr.specs.declared.address.IpSocketAddress.{IpSocketAddress}
use Rattle.wasi_addr.specs.declared.code.ErrorCode.{ErrorCode}
use Rattle.wasi_world.specs.declared.ids.Ids.{Ids}
use Rattle.wasi_world.specs.declared.ids.OpId.{OpId}
use Rattle.wasi_world.specs.declared.outcome.Answer.{Answer}
use Rattle.wasi_world.specs.declared.outcome.Answer.TheVariants.{Ready, Pending}
use Rattle.wasi_world.specs.Asks.{Asks, Give, bind}
use Rattle.tcp_records.specs.declared.socket.TcpRecord.{TcpRecord}
use Rattle.tcp_records.specs.declared.tcp_binding.InProgress.TheVariants as tcp
use Rattle.tcp_records.specs.Binding.{begin_bind_asks, poll_bind_asks}
use Rattle.record_common.specs.Names.{own_of}
use Rattle.tcp_records.specs.Sockets.{with_progress}
use Rattle.record_common.specs.Stops.{Code}
use Rattle.host_store.specs.declared.kind.Interface.{Interface}
use Rattle.host_store.specs.declared.kind.Interface.TheVariants.{P2, P3}
use Rattle.host_store.specs.declared.store.StandingCall.{StandingCall}
use Rattle.host_store.specs.declared.store.StandingCall.TheVariants.{Bind}
use Rattle.host_store.specs.Block.{Does, Call, ◌>>=◌}
use Rattle.host_store.specs.Lines.{tcp_at, Answered, keeps}
use Rattle.host_store.specs.Standing.{call_place}
use Rattle.host_store.specs.Store.{Records, with_socket}

-- == of a TCP socket
-- a bind that is done leaves nothing in progress in 0.3, where no call finishes it
abbrev pub bound_as : Interface → Answer (Unit {0}) → TcpRecord → TcpRecord
bound_as P3 (Ready done) r = with_progress r tcp.Nothing
bound_as P3 Pending r = r
bound_as P2 answer r = r

abbrev pub bind_told : Interface → Answered × TcpRecord → Answered × TcpRecord
bind_told face (Ok answer, r) = (Ok answer, bound_as face answer r)
bind_told face (Err c, r) = (Err c, r)

abbrev pub binds : OpId → IpSocketAddress → TcpRecord → Asks (Answered × TcpRecord)
binds op a r = bind (begin_bind_asks op r a) (λ done. Give (bind_told P3 done))

abbrev pub rebinds : Interface → TcpRecord → Asks (Answered × TcpRecord)
rebinds face r = bind (poll_bind_asks r) (λ done. Give (bind_told face done))

-- a call on the TCP socket of the number that may be pending
abbrev pub stands_of : Ids → StandingCall → (TcpRecord → Asks (Answered × TcpRecord)) → Does ErrorCode Records (Answer (Unit {0}))
stands_of ids call asked = do
  r ← tcp_at (call_place call)
  answer ← Call Code (λ store. r) (λ store now. with_socket store (call_place call) now) asked
  keeps ids call answer

abbrev pub bind_of : Ids → ℕ → IpSocketAddress → Does ErrorCode Records (Answer (Unit {0}))
bind_of ids place a = stands_of ids (Bind place P3) (binds (own_of ids.line) a)

-- one that was pending is polled again
abbrev pub rebind_of : Interface → Ids → ℕ → Does ErrorCode Records (Answer (Unit {0}))
rebind_of face ids place = stands_of ids (Bind place face) (rebinds face)

-- Connects of TCP sockets of 0.3, which stand beside other calls while they are pending.
use Rattle.std.specs.Prelude.{ℕ, Result, Ok, Err}
use Rattle.wasi_addr.specs.declared.address.IpSocketAddress.{IpSocketAddress}
use Rattle.wasi_addr.specs.declared.code.ErrorCode.{ErrorCode}
use Rattle.wasi_addr.specs.declared.code.ErrorCode.TheVariants.{InvalidState}
use Rattle.wasi_world.specs.declared.ids.OpId.{OpId}
use Rattle.wasi_world.specs.declared.outcome.Answer.{Answer}
use Rattle.wasi_world.specs.Asks.{Asks, Give, bind}
use Rattle.wasi_tcp.specs.Connecting.{finish_connect_asks, start_connect_asks}
use Rattle.wasi_tcp.specs.Shape.{Socket}
use Rattle.tcp_records.specs.declared.socket.TcpRecord.{TcpRecord}
use Rattle.tcp_records.specs.InProgress.{is_nothing}
use Rattle.record_common.specs.Names.{own_of}
use Rattle.tcp_records.specs.Sockets.{inner_answered, with_inner}
use Rattle.record_common.specs.Stops.{Code}
use Rattle.host_store.specs.declared.beside.BesideCall.TheVariants.{Connect}
use Rattle.host_store.specs.Beside.{beside_as, beside_polled, besided}
use Rattle.host_store.specs.Lines.{Answered, tcp_at}
use Rattle.host_store.specs.Block.{Does, Call, last, need, ◌>>=◌, ◌>>◌}
use Rattle.host_store.specs.Store.{Records, with_socket}

-- == on the record of a socket, whose state alone keeps the operation
-- it is polled
abbrev pub reconnects : TcpRecord → Asks (Answered × TcpRecord)
reconnects r = bind (finish_connect_asks r.inner) (λ done. Give (inner_answered r done))

abbrev pub connect_begun : TcpRecord → Result (Unit {0}) ErrorCode × Socket → Asks (Answered × TcpRecord)
connect_begun r (Ok done, socket) = reconnects (with_inner r socket)
connect_begun r (Err c, socket) = Give (Err c, with_inner r socket)

-- it begins, and is polled at once
abbrev pub connects : OpId → IpSocketAddress → TcpRecord → Asks (Answered × TcpRecord)
connects op a r = bind (start_connect_asks op r.inner a) (connect_begun r)

-- == on the records
abbrev pub connect_in : ℕ → ℕ → IpSocketAddress → Does ErrorCode Records (Answer (Unit {0}))
connect_in line place a = do
  r ← tcp_at place
  need (is_nothing r.in_progress) (Code InvalidState)
  last (Call Code (λ store. r) (λ store now. with_socket store place now) (connects (own_of line) a))

abbrev pub connect_of : ℕ → ℕ → IpSocketAddress → Does ErrorCode Records (Answer (Unit {0}))
connect_of line place a store = bind (connect_in line place a store) (λ done. Give (besided (beside_as line (Connect place)) done))

-- it is polled again; where its socket is gone, it is over
abbrev pub reconnect_in : ℕ → Does ErrorCode Records (Answer (Unit {0}))
reconnect_in place = do
  r ← tcp_at place
  last (Call Code (λ store. r) (λ store now. with_socket store place now) reconnects)

abbrev pub reconnect_of : ℕ → ℕ → Does ErrorCode Records (Answer (Unit {0}))
reconnect_of line place store = bind (reconnect_in place store) (λ done. Give (beside_polled line done))

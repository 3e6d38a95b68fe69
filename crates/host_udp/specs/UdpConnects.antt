-- Connects of UDP sockets of 0.3, of which the pending call is one.
use Rattle.std.specs.Prelude.{ℕ, not}
use Rattle.wasi_addr.specs.declared.address.IpSocketAddress.{IpSocketAddress}
use Rattle.wasi_addr.specs.declared.code.ErrorCode.{ErrorCode}
use Rattle.wasi_addr.specs.declared.code.ErrorCode.TheVariants.{InvalidState}
use Rattle.wasi_world.specs.declared.ids.Ids.{Ids}
use Rattle.wasi_world.specs.declared.outcome.Answer.{Answer}
use Rattle.udp_records.specs.Datagrams.{has_streams, udp_connect_asks, udp_reconnect_asks}
use Rattle.record_common.specs.Names.{own_of}
use Rattle.wasi_records.specs.Records.{open_at}
use Rattle.record_common.specs.Stops.{Code}
use Rattle.host_store.specs.declared.store.StandingCall.TheVariants.{UdpConnect3}
use Rattle.host_store.specs.Lines.{keeps}
use Rattle.host_udp.specs.UdpBinds.{udp_stands_of}
use Rattle.host_store.specs.Block.{Does, Look, Call, need, ◌>>=◌, ◌>>◌}
use Rattle.host_store.specs.Store.{Records, with_open_udp}

-- a socket of 0.3 has no datagram streams
abbrev pub udp_connect_of : Ids → ℕ → IpSocketAddress → Does ErrorCode Records (Answer (Unit {0}))
udp_connect_of ids place a = do
  o ← Look (λ store. open_at store.records place)
  need (not (has_streams o)) (Code InvalidState)
  answer ← Call Code (λ store. o) (λ store now. with_open_udp store place now) (λ o. udp_connect_asks (own_of ids.line) o a)
  keeps ids (UdpConnect3 place) answer

-- one that was pending is polled again
abbrev pub udp_reconnect_of : Ids → ℕ → Does ErrorCode Records (Answer (Unit {0}))
udp_reconnect_of ids place = udp_stands_of ids (UdpConnect3 place) udp_reconnect_asks

-- Binds of UDP sockets of 0.3, and how a bind of either interface that was pending goes on.
use Rattle.std.specs.Prelude.{ℕ, Ok, Err}
use Rattle.wasi_addr.specs.declared.address.IpSocketAddress.{IpSocketAddress}
use Rattle.wasi_addr.specs.declared.code.ErrorCode.{ErrorCode}
use Rattle.wasi_world.specs.declared.ids.Ids.{Ids}
use Rattle.wasi_world.specs.declared.ids.OpId.{OpId}
use Rattle.wasi_world.specs.declared.outcome.Answer.{Answer}
use Rattle.wasi_world.specs.declared.outcome.Answer.TheVariants.{Ready, Pending}
use Rattle.wasi_world.specs.Asks.{Asks, Give, bind}
use Rattle.udp_records.specs.declared.udp.OpenUdp.{OpenUdp}
use Rattle.udp_records.specs.declared.udp.UdpInProgress.TheVariants as udp
use Rattle.record_common.specs.Names.{own_of}
use Rattle.wasi_records.specs.Records.{open_at}
use Rattle.record_common.specs.Stops.{Code}
use Rattle.udp_records.specs.Udp.{begin_udp_bind_asks, poll_udp_bind_asks, with_udp_progress}
use Rattle.host_store.specs.declared.kind.Interface.{Interface}
use Rattle.host_store.specs.declared.kind.Interface.TheVariants.{P2, P3}
use Rattle.host_store.specs.declared.store.StandingCall.{StandingCall}
use Rattle.host_store.specs.declared.store.StandingCall.TheVariants.{UdpBind}
use Rattle.host_store.specs.Block.{Does, Look, Call, ◌>>=◌}
use Rattle.host_store.specs.Standing.{call_place}
use Rattle.host_store.specs.Store.{Records, with_open_udp}
use Rattle.host_store.specs.Lines.{Answered, keeps}

-- == of a UDP socket: the same
abbrev pub udp_bound_as : Interface → Answer (Unit {0}) → OpenUdp → OpenUdp
udp_bound_as P3 (Ready done) o = with_udp_progress o udp.Nothing
udp_bound_as P3 Pending o = o
udp_bound_as P2 answer o = o

abbrev pub udp_bind_told : Interface → Answered × OpenUdp → Answered × OpenUdp
udp_bind_told face (Ok answer, o) = (Ok answer, udp_bound_as face answer o)
udp_bind_told face (Err c, o) = (Err c, o)

abbrev pub udp_binds : OpId → IpSocketAddress → OpenUdp → Asks (Answered × OpenUdp)
udp_binds op a o = bind (begin_udp_bind_asks op o a) (λ done. Give (udp_bind_told P3 done))

abbrev pub udp_rebinds : Interface → OpenUdp → Asks (Answered × OpenUdp)
udp_rebinds face o = bind (poll_udp_bind_asks o) (λ done. Give (udp_bind_told face done))

abbrev pub udp_stands_of : Ids → StandingCall → (OpenUdp → Asks (Answered × OpenUdp)) → Does ErrorCode Records (Answer (Unit {0}))
udp_stands_of ids call asked = do
  o ← Look (λ store. open_at store.records (call_place call))
  answer ← Call Code (λ store. o) (λ store now. with_open_udp store (call_place call) now) asked
  keeps ids call answer

abbrev pub udp_bind_of : Ids → ℕ → IpSocketAddress → Does ErrorCode Records (Answer (Unit {0}))
udp_bind_of ids place a = udp_stands_of ids (UdpBind place P3) (udp_binds (own_of ids.line) a)

abbrev pub udp_rebind_of : Interface → Ids → ℕ → Does ErrorCode Records (Answer (Unit {0}))
udp_rebind_of face ids place = udp_stands_of ids (UdpBind place face) (udp_rebinds face)

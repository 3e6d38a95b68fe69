-- Receives, at each of their stages.
use Rattle.std.specs.Prelude.{◌≡◌, ℕ, true, false, List, Option, refl}
use Rattle.std.proofs.Common.{subst}
use Rattle.wasi_addr.specs.declared.address.IpSocketAddress.{IpSocketAddress}
use Rattle.wasi_addr.specs.declared.address.SocketAddrUse.TheVariants.{UdpReceive}
use Rattle.wasi_world.specs.Seen.{Seen}
use Rattle.wasi_world.specs.Asks.{Give, Reaches}
use Rattle.wasi_world.specs.Typed.{ask_check}
use Rattle.wasi_world.specs.Operation.{Receive, CheckPeer, Datagram, Who, Front, Goes, Again, front, received_front, is_wanted}
use Rattle.wasi_world.proofs.Walks.{reaches_on}
use Rattle.wasi_world.specs.declared.asks.Verdict.TheVariants as verdict
use Rattle.socket_common.specs.declared.asker.Asker.{Asker}
use Rattle.wasi_udp.specs.declared.receive.RecvStage.{RecvStage}
use Rattle.wasi_udp.specs.declared.receive.RecvStage.TheVariants as stage
use Rattle.wasi_udp.specs.Receive.{receive_operation, IsReceive, ToRefuse, Unreceived, Received, Ended}

-- it is a receive, at each of its stages
pub is_receive : (asker : Asker) (only : Option IpSocketAddress) (s : RecvStage) → IsReceive (receive_operation asker only s)
is_receive asker only (stage.Refused c) = record { last = refl; left = ToRefuse c }
is_receive asker only stage.Receive = record { last = refl; left = Unreceived only }
is_receive asker only (stage.Check bytes peer) = record { last = refl; left = Received only bytes peer }
is_receive asker only stage.Over = record { last = refl; left = Ended }

-- a datagram that is wanted is given after a yes, and any other is dropped
wanted_front : (only : Option IpSocketAddress) (bytes : List ℕ) (peer : IpSocketAddress) → is_wanted only peer ≡ true → received_front only bytes peer verdict.Yes ≡ Goes (Datagram bytes peer)
wanted_front only bytes peer h = rw h refl

unwanted_front : (only : Option IpSocketAddress) (bytes : List ℕ) (peer : IpSocketAddress) → is_wanted only peer ≡ false → received_front only bytes peer verdict.Yes ≡ Again (Receive only)
unwanted_front only bytes peer h = rw h refl

pub wanted : (who : Who) (only : Option IpSocketAddress) (bytes : List ℕ) (peer : IpSocketAddress) {s t : Seen} → is_wanted only peer ≡ true → Reaches (ask_check who.id who.context peer UdpReceive) (Give verdict.Yes) s t → Reaches (front who (CheckPeer only bytes peer)) (Give (Goes (Datagram bytes peer))) s t
wanted who only bytes peer {s} {t} h k =
    let P : Front → Type 0 = λ came. Reaches (front who (CheckPeer only bytes peer)) (Give came) s t in subst P (wanted_front only bytes peer h) (reaches_on _ k)

pub unwanted : (who : Who) (only : Option IpSocketAddress) (bytes : List ℕ) (peer : IpSocketAddress) {s t : Seen} → is_wanted only peer ≡ false → Reaches (ask_check who.id who.context peer UdpReceive) (Give verdict.Yes) s t → Reaches (front who (CheckPeer only bytes peer)) (Give (Again (Receive only))) s t
unwanted who only bytes peer {s} {t} h k =
    let P : Front → Type 0 = λ came. Reaches (front who (CheckPeer only bytes peer)) (Give came) s t in subst P (unwanted_front only bytes peer h) (reaches_on _ k)

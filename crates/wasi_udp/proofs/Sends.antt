-- Datagrams that are sent, at each of their stages.
use Rattle.std.specs.Prelude.{◌≡◌, ℕ, true, false, List, Option, refl}
use Rattle.wasi_addr.specs.declared.address.IpSocketAddress.{IpSocketAddress}
use Rattle.wasi_addr.specs.declared.address.SocketAddressFamily.{SocketAddressFamily}
use Rattle.wasi_addr.specs.declared.code.ErrorCode.TheVariants.{InvalidState}
use Rattle.wasi_world.specs.Seen.{Seen}
use Rattle.wasi_world.specs.declared.asks.Polled.{Polled}
use Rattle.wasi_world.specs.Asks.{Give, Reaches}
use Rattle.wasi_world.specs.Typed.{ask_send}
use Rattle.wasi_world.specs.Operation.{Send, Nothing, Ends, front, polled_front}
use Rattle.wasi_world.proofs.Walks.{reaches_all, reaches_on}
use Rattle.socket_common.specs.declared.asker.Asker.{Asker}
use Rattle.wasi_udp.specs.declared.send.Destination.{Destination}
use Rattle.wasi_udp.specs.declared.send.SendStage.{SendStage}
use Rattle.wasi_udp.specs.declared.send.SendStage.TheVariants as stage
use Rattle.wasi_udp.specs.Send.{send_operation, sender, is_late, IsSend, ToRefuse, Unbound, Unchecked, Checked, Ended}

-- it is a datagram's, at each of its stages
pub is_send : (asker : Asker) (family : SocketAddressFamily) (bytes : List ℕ) (s : SendStage) → IsSend (send_operation asker family bytes s)
is_send asker family bytes (stage.Refused c) = record { last = refl; left = ToRefuse c }
is_send asker family bytes (stage.CheckWildcard to) = record { last = refl; left = Unbound family to.kept to.addr bytes }
is_send asker family bytes (stage.Check to) = record { last = refl; left = Unchecked to.kept to.addr bytes }
is_send asker family bytes (stage.Send to) = record { last = refl; left = Checked to.kept to.addr bytes }
is_send asker family bytes stage.Over = record { last = refl; left = Ended }

-- one that is late isn't sent
pub late : (asker : Asker) (remote : Option IpSocketAddress) (to : Destination) (bytes : List ℕ) {s : Seen} → is_late to remote ≡ true → Reaches (front (sender asker remote) (Send to.kept to.addr bytes)) (Give (Ends InvalidState Nothing)) s s
late asker remote to bytes {s} h = rw h (reaches_all (Give (Ends InvalidState Nothing)) s)

-- one that isn't late is
pub in_time : (asker : Asker) (remote : Option IpSocketAddress) (to : Destination) (bytes : List ℕ) {told : Polled (Unit {0})} {s t : Seen} → is_late to remote ≡ false → Reaches (ask_send asker.op asker.side to.addr bytes) (Give told) s t → Reaches (front (sender asker remote) (Send to.kept to.addr bytes)) (Give (polled_front (Send to.kept to.addr bytes) told)) s t
in_time asker remote to bytes h k = rw h (reaches_on _ k)

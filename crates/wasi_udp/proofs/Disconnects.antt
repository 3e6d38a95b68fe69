-- Of a disconnect.
use Rattle.std.specs.Prelude.{◌≡◌, true, Option, Some, None, Result, refl}
use Rattle.std.specs.declared.alloc.AllocError.{AllocError}
use Rattle.std.proofs.lemmas.Bool.{false≢true}
use Rattle.wasi_addr.specs.declared.address.IpSocketAddress.{IpSocketAddress}
use Rattle.wasi_addr.specs.declared.code.ErrorCode.{ErrorCode}
use Rattle.wasi_world.specs.declared.ids.OpId.{OpId}
use Rattle.wasi_world.specs.Seen.{Seen}
use Rattle.wasi_world.specs.Asks.{bind, AsksFor}
use Rattle.wasi_world.specs.Typed.{ask_udp_disconnect}
use Rattle.wasi_udp.specs.Shape.{Socket}
use Rattle.wasi_udp.specs.Socket.{is_connected, disconnect_in, disconnect_asks, then_peer}

-- what is asked where there is a remote address
disconnects : (op : OpId) (socket : Socket) (remote : Option IpSocketAddress) → is_connected remote ≡ true → disconnect_in op socket remote ≡ bind (ask_udp_disconnect op socket.side) (then_peer op (record socket { bound = true }))
disconnects op socket None h = absurd (false≢true h)
disconnects op socket (Some a) h = refl

pub disconnect_asked : {T : Type 0} (op : OpId) (socket : Socket) {s t : Seen} {view : T → Result (Unit {0}) ErrorCode × Socket} {r : Result T AllocError} → is_connected socket.remote ≡ true
    → AsksFor (bind (ask_udp_disconnect op socket.side) (then_peer op (record socket { bound = true }))) s t view r → AsksFor (disconnect_asks op socket) s t view r
disconnect_asked op socket h k = rw (disconnects op socket socket.remote h) k

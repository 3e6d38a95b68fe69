-- Which remote address a UDP socket has, along the log: the one that the network reported last.
use Rattle.std.specs.Prelude.{◌≡◌, ℕ, if◌then◌else◌, List, [], ◌∷◌, ◌++◌, Option, None}
use Rattle.wasi_addr.specs.declared.address.IpSocketAddress.{IpSocketAddress}
use Rattle.wasi_addr.specs.declared.address.SocketAddressFamily.{SocketAddressFamily}
use Rattle.wasi_world.specs.Operation.{remote_told}
use Rattle.wasi_world.specs.Sides.{is_same}
use Rattle.wasi_world.specs.Typed.{told_addr}
use Rattle.wasi_world.specs.declared.call.Call.{Call}
use Rattle.wasi_world.specs.declared.call.Call.TheVariants.{Peer, UdpCreate}
use Rattle.wasi_world.specs.declared.call.Entry.{Entry}
use Rattle.wasi_world.specs.declared.call.Told.{Told}
use Rattle.wasi_world.specs.declared.call.Told.TheVariants.{Done}
use Rattle.wasi_world.specs.declared.ids.OpId.{OpId}
use Rattle.wasi_walks.specs.Allowed.{entry}

-- after an entry: a `peer` of the network socket reported one, or none where it was answered with a code or the
-- wildcard
abbrev pub then_remote : SocketAddressFamily → OpId → Option IpSocketAddress → Call → Told → Option IpSocketAddress
then_remote family side remote (Peer sock) told = if is_same sock side then remote_told family (told_addr told) else
    remote
then_remote family side remote _ told = remote

-- and after more of them
abbrev pub remote_after : SocketAddressFamily → OpId → Option IpSocketAddress → List Entry → Option IpSocketAddress
remote_after family side remote [] = remote
remote_after family side remote (e ∷ es) = remote_after family side (then_remote family side remote e.call e.answer) es

-- The network socket was made, with no remote address, and this is what was reported last since then.
pub record HasRemote (log : List Entry) (side : OpId) (family : SocketAddressFamily) (remote : Option IpSocketAddress) :
    Type 0 where
  pub front : List Entry
  pub maker : ℕ
  pub later : List Entry
  pub cut : log ≡ front ++ entry side (UdpCreate maker family) Done ∷ later
  pub is : remote ≡ remote_after family side None later

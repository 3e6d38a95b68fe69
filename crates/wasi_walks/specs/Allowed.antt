-- Which datagrams that a network socket received may be handed out: a relation of the log's entries alone. Each has its own place
-- there, and its own yes.
use Rattle.std.specs.Prelude.{◌≡◌, ℕ, ◌+◌, ◌≤◌, ◌⊎◌, ⊤, List, [], ◌∷◌, ◌++◌, Option, Some, length}
use Rattle.wasi_addr.specs.declared.address.IpSocketAddress.{IpSocketAddress}
use Rattle.wasi_addr.specs.declared.address.SocketAddressFamily.{SocketAddressFamily}
use Rattle.wasi_addr.specs.declared.address.SocketAddrUse.TheVariants as use_of
use Rattle.wasi_world.specs.declared.datagram.IncomingDatagram.{IncomingDatagram}
use Rattle.wasi_world.specs.declared.ids.OpId.{OpId}
use Rattle.wasi_world.specs.declared.call.Call.{Call}
use Rattle.wasi_world.specs.declared.call.Call.TheVariants.{Check, Hand, Made, Recv, TcpCreate, UdpCreate}
use Rattle.wasi_world.specs.declared.call.HandleKind.{HandleKind}
use Rattle.wasi_world.specs.declared.call.Told.{Told}
use Rattle.wasi_world.specs.declared.call.Told.TheVariants.{Yes}
use Rattle.wasi_world.specs.declared.call.Entry.{Entry}

-- == entries
-- one of them is this
abbrev pub Has : {A : Type 0} → List A → A → Type 0
Has [] x = ⊥
Has (y ∷ ys) x = (y ≡ x) ⊎ Has ys x

abbrev pub entry : OpId → Call → Told → Entry
entry op call told = record { op = op; call = call; answer = told }

-- == network sockets
-- The network socket of a handle is the one in its mark.
pub record IsSide (before : List Entry) (handle : ℕ) (side : OpId) : Type 0 where
  pub op : OpId
  pub kind : HandleKind
  pub parent : Option ℕ
  pub told : Told
  pub mark : Has before (entry op (Made handle kind parent (Some side)) told)

-- The creator of a network socket and its family are those in its create, or where it was handed over those of the listener.
pub data IsMaker (before : List Entry) (ctx : ℕ) (family : SocketAddressFamily) : OpId → Type 0 where
  Created : (side : OpId) (told : Told) → Has before (entry side (TcpCreate ctx family) told) → IsMaker before ctx family side
  UdpCreated : (side : OpId) (told : Told) → Has before (entry side (UdpCreate ctx family) told) → IsMaker before ctx family side
  Handed : (side listener : OpId) (peer : IpSocketAddress) (told : Told) → Has before (entry side (Hand listener peer) told) → IsMaker before ctx family listener → IsMaker before ctx family side

-- == datagrams
-- none of these entries asks the network socket for a datagram
abbrev pub ReceivesNone : OpId → List Entry → Type 0
ReceivesNone side [] = ⊤
ReceivesNone side (e ∷ es) = (e.call ≡ Recv side → ⊥) × ReceivesNone side es

-- Between the two places of the log the network socket received the datagram, and the same operation was answered yes about its
-- sender afterwards, by the creator of the network socket, before it was asked for another datagram.
pub record IsAllowed (log : List Entry) (side : OpId) (from upto : ℕ) (datagram : IncomingDatagram) : Type 0 where
  pub op : OpId
  pub ctx : ℕ
  pub family : SocketAddressFamily
  pub maker : IsMaker log ctx family side
  pub front : List Entry
  pub between : List Entry
  pub back : List Entry
  pub cut : log ≡ front ++ entry op (Recv side) (Told.Datagram datagram.bytes datagram.remote_address) ∷ (between ++ entry op (Check ctx datagram.remote_address use_of.UdpReceive) Yes ∷ back)
  pub alone : ReceivesNone side between
  pub late : from ≤ length front
  pub past : length front + length between + 2 ≤ upto

-- So it was with these datagrams one after another, each past the one before it and its yes.
pub data InOrder (log : List Entry) (side : OpId) : ℕ → List IncomingDatagram → ℕ → Type 0 where
  NoMore : (from : ℕ) → InOrder log side from [] from
  OneMore : (from mid upto : ℕ) (d : IncomingDatagram) (ds : List IncomingDatagram) → IsAllowed log side from mid d → InOrder log side mid ds upto → InOrder log side from (d ∷ ds) upto

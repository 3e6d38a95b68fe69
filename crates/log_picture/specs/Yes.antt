-- Which yes of the log allows a call.
use Rattle.std.specs.Prelude.{◌≡◌, ℕ, ◌⊎◌, List, [], ◌∷◌, Some, slice_get}
use Rattle.wasi_addr.specs.declared.address.IpSocketAddress.{IpSocketAddress}
use Rattle.wasi_addr.specs.declared.address.SocketAddressFamily.{SocketAddressFamily}
use Rattle.wasi_addr.specs.declared.address.SocketAddrUse.{SocketAddrUse}
use Rattle.wasi_addr.specs.declared.address.SocketAddrUse.TheVariants.{TcpBind, TcpListen, TcpAccept, TcpConnect, UdpBind as BindsUdp, UdpSend}
use Rattle.wasi_addr.specs.Address.{wildcard}
use Rattle.wasi_world.specs.declared.ids.OpId.{OpId}
use Rattle.wasi_world.specs.declared.call.Call.{Call}
use Rattle.wasi_world.specs.declared.call.Call.TheVariants.{Bind, UdpBind, UdpConnect, Listen, Connect, Hand, Local, Send}
use Rattle.wasi_world.specs.declared.call.Told.TheVariants.{Addr}
use Rattle.wasi_world.specs.declared.call.Entry.{Entry}
use Rattle.wasi_walks.specs.Licence.{Has, HasYes, IsMaker, entry}

-- The entry at this place is the yes that the licence asks for: the operation asked the creator of the network socket about the
-- address and its use.
pub record IsYesAt (before : List Entry) (op side : OpId) (addr : IpSocketAddress) (usage : SocketAddrUse) (place : ℕ) : Type 0 where
  pub yes : Entry
  pub at : slice_get before place ≡ Some yes
  pub allows : HasYes before (yes ∷ []) op side addr usage

-- The network socket's local address was once reported to be this.
pub record WasLocal (before : List Entry) (side : OpId) (addr : IpSocketAddress) : Type 0 where
  pub op : OpId
  pub told : Has before (entry op (Local side) (Addr addr))

-- The wildcard of the network socket's family.
pub record IsItsWildcard (before : List Entry) (side : OpId) (addr : IpSocketAddress) : Type 0 where
  pub ctx : ℕ
  pub family : SocketAddressFamily
  pub maker : IsMaker before ctx family side
  pub is : addr ≡ wildcard family

-- The yes at this place is for listening at an address of the network socket, or at the wildcard.
pub record IsListenAt (before : List Entry) (op side : OpId) (place : ℕ) : Type 0 where
  pub addr : IpSocketAddress
  pub own : WasLocal before side addr ⊎ IsItsWildcard before side addr
  pub yes : IsYesAt before op side addr TcpListen place

-- the entry at this place is a yes that the call needs
abbrev pub IsAllowedAt : List Entry → OpId → Call → ℕ → Type 0
IsAllowedAt before op (Bind sock addr) place = IsYesAt before op sock addr TcpBind place
IsAllowedAt before op (UdpBind sock addr) place = IsYesAt before op sock addr BindsUdp place
IsAllowedAt before op (Connect sock addr) place = IsYesAt before op sock addr TcpConnect place
IsAllowedAt before op (UdpConnect sock addr) place = IsYesAt before op sock addr UdpSend place
IsAllowedAt before op (Send sock addr bytes) place = IsYesAt before op sock addr UdpSend place
IsAllowedAt before op (Hand sock peer) place = IsYesAt before op sock peer TcpAccept place
IsAllowedAt before op (Listen sock backlog) place = IsListenAt before op sock place
IsAllowedAt before op _ place = ⊥

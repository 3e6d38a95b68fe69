-- How many datagrams a poll of a receive has to do with, and how many connections a poll of an accept.
use Rattle.std.specs.Prelude.{◌≡◌, ℕ, ◌+◌, if◌then◌else◌, List, [], ◌∷◌, Option, None, ⊤}
use Rattle.wasi_addr.specs.declared.address.IpSocketAddress.{IpSocketAddress}
use Rattle.wasi_addr.specs.declared.address.SocketAddrUse.{SocketAddrUse}
use Rattle.wasi_addr.specs.declared.address.SocketAddrUse.TheVariants.{UdpReceive}
use Rattle.wasi_world.specs.declared.call.Call.{Call}
use Rattle.wasi_world.specs.declared.call.Call.TheVariants as call
use Rattle.wasi_world.specs.declared.call.Told.{Told}
use Rattle.wasi_world.specs.declared.call.Told.TheVariants as told
use Rattle.wasi_world.specs.declared.call.Entry.{Entry}
use Rattle.wasi_world.specs.Asks.{Give, Left}
use Rattle.wasi_world.specs.Operation.{Item, Accept, CheckArrival, Hand, Refuse, Receive, CheckPeer, Waits, Operation, is_wanted}
use Rattle.wasi_laws.specs.Order.{operation_polled}

-- how many of the entries are of a kind: `each` says of a call with its answer 1 if it is, else 0
abbrev pub number_of : (Call → Told → ℕ) → List Entry → ℕ
number_of each [] = 0
number_of each (e ∷ es) = each e.call e.answer + number_of each es

-- == datagrams
abbrev pub one_datagram : Told → ℕ
one_datagram (told.Datagram bytes peer) = 1
one_datagram _ = 0

-- a datagram is received
abbrev pub receives : Call → Told → ℕ
receives (call.Recv sock) told = one_datagram told
receives _ told = 0

abbrev pub one_receive : SocketAddrUse → ℕ
one_receive UdpReceive = 1
one_receive _ = 0

-- a sender is checked
abbrev pub checks_sender : Call → Told → ℕ
checks_sender (call.Check ctx addr usage) told = one_receive usage
checks_sender _ told = 0

-- a sender is checked and its datagram dropped: the answer is no, or it is yes and another sender is wanted
abbrev pub dropped_of : Option IpSocketAddress → IpSocketAddress → Told → ℕ
dropped_of wanted peer told.No = 1
dropped_of wanted peer told.Yes = if is_wanted wanted peer then 0 else 1
dropped_of wanted peer _ = 0

abbrev pub drops_for : Option IpSocketAddress → IpSocketAddress → SocketAddrUse → Told → ℕ
drops_for wanted peer UdpReceive told = dropped_of wanted peer told
drops_for wanted peer _ told = 0

abbrev pub drops : Option IpSocketAddress → Call → Told → ℕ
drops wanted (call.Check ctx addr usage) told = drops_for wanted addr usage told
drops wanted _ told = 0

abbrev pub received_in : List Entry → ℕ
received_in entries = number_of receives entries

abbrev pub senders_checked_in : List Entry → ℕ
senders_checked_in entries = number_of checks_sender entries

abbrev pub dropped_in : Option IpSocketAddress → List Entry → ℕ
dropped_in wanted entries = number_of (drops wanted) entries

-- how many datagrams the operation has in hand, one or none, and the sender that it wants, if it wants one alone
abbrev pub datagrams_held : List Item → ℕ
datagrams_held (CheckPeer wanted bytes peer ∷ items) = 1
datagrams_held _ = 0

abbrev pub wanted_sender : List Item → Option IpSocketAddress
wanted_sender (Receive wanted ∷ items) = wanted
wanted_sender (CheckPeer wanted bytes peer ∷ items) = wanted
wanted_sender _ = None

-- it asks for a datagram, or whether one is allowed
abbrev pub IsReceiving : List Item → Type 0
IsReceiving (Receive wanted ∷ items) = ⊤
IsReceiving (CheckPeer wanted bytes peer ∷ items) = ⊤
IsReceiving _ = ⊥

-- One poll can be answered so that it has to do with so many datagrams, drops them all, and waits.
pub record MayDrop (n : ℕ) (op : Operation) : Type 0 where
  pub entries : List Entry
  pub left : Left (operation_polled op) entries (Give (Waits, Receive (wanted_sender op.left) ∷ []))
  pub received : datagrams_held op.left + received_in entries ≡ n
  pub checked : senders_checked_in entries ≡ n
  pub dropped : dropped_in (wanted_sender op.left) entries ≡ n

-- == connections
abbrev pub one_arrival : Told → ℕ
one_arrival (told.Arrived peer) = 1
one_arrival _ = 0

-- a connection arrives
abbrev pub arrives : Call → Told → ℕ
arrives (call.Accept sock) told = one_arrival told
arrives _ told = 0

-- one that arrived is refused
abbrev pub refuses : Call → Told → ℕ
refuses (call.Refuse sock peer) told = 1
refuses _ told = 0

abbrev pub arrived_in : List Entry → ℕ
arrived_in entries = number_of arrives entries

abbrev pub refused_in : List Entry → ℕ
refused_in entries = number_of refuses entries

-- how many arrivals the operation has in hand, one or none
abbrev pub arrivals_held : List Item → ℕ
arrivals_held (CheckArrival peer ∷ items) = 1
arrivals_held (Hand peer ∷ items) = 1
arrivals_held (Refuse peer ∷ items) = 1
arrivals_held _ = 0

-- it asks for a connection, or whether one is allowed, or refuses one
abbrev pub IsRefusing : List Item → Type 0
IsRefusing (Accept ∷ items) = ⊤
IsRefusing (CheckArrival peer ∷ items) = ⊤
IsRefusing (Refuse peer ∷ items) = ⊤
IsRefusing _ = ⊥

-- One poll can be answered so that it has to do with so many arrivals, refuses them all, and waits.
pub record MayRefuse (n : ℕ) (op : Operation) : Type 0 where
  pub entries : List Entry
  pub left : Left (operation_polled op) entries (Give (Waits, Accept ∷ []))
  pub arrived : arrivals_held op.left + arrived_in entries ≡ n
  pub refused : refused_in entries ≡ n

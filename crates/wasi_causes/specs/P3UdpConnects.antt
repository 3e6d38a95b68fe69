-- Why connects of 0.3 UDP sockets are refused, what they ask and leave, and how each poll of one ends.
use Rattle.std.specs.Prelude.{◌≡◌, ℕ, Bool, true, false, List, [], ◌∷◌, ◌++◌, Some, None}
use Rattle.wasi_addr.specs.declared.address.IpSocketAddress.{IpSocketAddress}
use Rattle.wasi_addr.specs.declared.address.SocketAddressFamily.{SocketAddressFamily}
use Rattle.wasi_addr.specs.declared.address.SocketAddrUse.{SocketAddrUse}
use Rattle.wasi_addr.specs.declared.code.ErrorCode.{ErrorCode}
use Rattle.wasi_addr.specs.declared.code.ErrorCode.TheVariants.{AccessDenied, InvalidArgument, InvalidState}
use Rattle.wasi_world.specs.declared.call.Call.TheVariants as call
use Rattle.wasi_world.specs.declared.call.Entry.{Entry}
use Rattle.wasi_world.specs.declared.call.Told.{Told}
use Rattle.wasi_world.specs.declared.call.Told.TheVariants as told
use Rattle.wasi_world.specs.declared.ids.OpId.{OpId}
use Rattle.wasi_world.specs.Operation.{Check, Done, End, Given, Item, Nothing, Operation, Refused, Remote, UdpConnect, Waits, Who}
use Rattle.wasi_world.specs.Operation.{remote_told}
use Rattle.wasi_world.specs.Typed.{told_addr}
use Rattle.wasi_udp.specs.Connect.{connect_start, is_connectable, with_given}
use Rattle.wasi_udp.specs.Shape.{Socket}
use Rattle.record_common.specs.Binding.{left_of}
use Rattle.udp_records.specs.Datagrams.{has_streams}
use Rattle.udp_records.specs.declared.udp.OpenUdp.{OpenUdp}
use Rattle.record_common.specs.Names.{own_of}
use Rattle.host_store.specs.declared.machine.Machine.{Machine}
use Rattle.host_store.specs.declared.store.StandingCall.TheVariants.{UdpConnect3}
use Rattle.wasi_steps.specs.declared.reply.CodeWord.{CodeWord}
use Rattle.wasi_steps.specs.declared.reply.Reply.{Reply}
use Rattle.wasi_steps.specs.declared.reply.Reply.TheVariants as reply
use Rattle.wasi_steps.specs.Reply.{no_fields}
use Rattle.wasi_walks.specs.Licence.{entry}
use Rattle.wasi_walks.specs.Waiting.{nothing_stands}
use Rattle.wasi_causes.specs.P3Binds.{with_pending}
use Rattle.wasi_causes.specs.P3Udp.{OfUdp3}
use Rattle.wasi_causes.specs.Refusals.{SaidBy, p3_word}
use Rattle.wasi_causes.specs.Udp.{IsUdpBound, IsUdpUnbound, putting_udp, udp_local_entry}

-- == a poll
-- a check, the connect, and the remote address that is asked for after it
abbrev pub check_told : Who → IpSocketAddress → SocketAddrUse → Told → Entry
check_told who a usage t = entry who.id (call.Check who.context a usage) t

abbrev pub connect_told : Who → IpSocketAddress → Told → Entry
connect_told who a t = entry who.id (call.UdpConnect who.side a) t

abbrev pub peer_told : Who → Told → Entry
peer_told who t = entry who.id (call.Peer who.side) t

-- what a connect gives that was answered: the remote address that was reported then
abbrev pub heard : SocketAddressFamily → Told → Given
heard family peer = Remote (remote_told family (told_addr peer))

-- How a poll ends, by what is left: a check that is answered pending is asked again, one that is answered no ends the connect, and
-- one that is answered yes lets it go on. The connect is answered at once, and then the remote address is asked for.
pub data ConnectPolls (who : Who) : List Item → List Entry → End × List Item → Type 0 where
  CheckYes : (a : IpSocketAddress) (usage : SocketAddrUse) (items : List Item) (es : List Entry) (end : End × List Item)
      → ConnectPolls who items es end → ConnectPolls who (Check a usage ∷ items) (check_told who a usage told.Yes ∷ es) end
  CheckNo : (a : IpSocketAddress) (usage : SocketAddrUse) (items : List Item)
      → ConnectPolls who (Check a usage ∷ items) (check_told who a usage told.No ∷ []) (Refused AccessDenied Nothing, [])
  CheckWaits : (a : IpSocketAddress) (usage : SocketAddrUse) (items : List Item)
      → ConnectPolls who (Check a usage ∷ items) (check_told who a usage told.Pending ∷ []) (Waits, Check a usage ∷ items)
  ConnectDone : (family : SocketAddressFamily) (a : IpSocketAddress) (peer : Told) → ConnectPolls who
      (UdpConnect family a ∷ []) (connect_told who a told.Done ∷ peer_told who peer ∷ []) (Done (heard family peer), [])
  ConnectCode : (family : SocketAddressFamily) (a : IpSocketAddress) (c : ErrorCode) (peer : Told) → ConnectPolls who
      (UdpConnect family a ∷ []) (connect_told who a (told.Code c) ∷ peer_told who peer ∷ [])
      (Refused c (heard family peer), [])

-- == how one begins
-- Whether the socket is bound, and what was asked of it: one that is, is known to be from then on.
pub data FindsBound (own : OpId) (socket : Socket) : List Entry → Bool → Socket → Type 0 where
  FoundBound : (asked : List Entry) → IsUdpBound own socket asked
      → FindsBound own socket asked true (record socket { bound = true })
  FoundFree : (local : Told) → IsUdpUnbound socket local
      → FindsBound own socket (udp_local_entry own socket local ∷ []) false socket

-- It begins, and is polled at once: the socket can be connected to the address, and this was asked of whether it is bound.
pub record ConnectBegins (own : OpId) (o : OpenUdp) (a : IpSocketAddress) : Type 0 where
  pub alone : has_streams o ≡ false
  pub connectable : is_connectable o.inner a ≡ true
  pub asked : List Entry
  pub bound : Bool
  pub now : Socket
  pub finds : FindsBound own o.inner asked bound now

-- its operation: where the socket isn't bound it checks the wildcard first
abbrev pub its_operation : {own : OpId} {o : OpenUdp} {a : IpSocketAddress} → ConnectBegins own o a → Operation
its_operation {own} {o} {a} b = connect_start own b.now a b.bound

-- it is over, and gave this to the socket
abbrev pub left_connected : Machine → ℕ → OpenUdp → Socket → Given → Machine
left_connected m place o now given = putting_udp m place (record o { inner = with_given now given; connecting = None })

-- == the answers of the step
-- It is refused: the socket has datagram streams, which no run has of one of 0.3; or it can't be connected to the address; or a check
-- was answered no, and the remote address is as it was; or the connect was answered with a code, and the remote address is what was
-- reported then.
pub data ConnectFails (m : Machine) (own : OpId) (place : ℕ) (o : OpenUdp) (a : IpSocketAddress) : List Entry
    → ErrorCode → Machine → Type 0 where
  HasStreams : has_streams o ≡ true → ConnectFails m own place o a [] InvalidState m
  Elsewhere : has_streams o ≡ false → is_connectable o.inner a ≡ false → ConnectFails m own place o a [] InvalidArgument m
  PollFails : (b : ConnectBegins own o a) (polled : List Entry) (c : ErrorCode) (given : Given) (items : List Item)
      → ConnectPolls (its_operation b).who (its_operation b).left polled (Refused c given, items)
      → ConnectFails m own place o a (b.asked ++ polled) c (left_connected m place o b.now given)

abbrev pub UdpConnectRefusal : Machine → OpId → ℕ → IpSocketAddress → List Entry → CodeWord → Machine → Type 0
UdpConnectRefusal m own handle a es w after =
    OfUdp3 m handle (λ place o. SaidBy p3_word (λ c. ConnectFails m own place o a es c after) w)

-- The checks were answered yes, and the connect done: the remote address is what was reported then.
pub record ConnectsUdp (m : Machine) (own : OpId) (place : ℕ) (o : OpenUdp) (a : IpSocketAddress) (entries : List Entry)
    (after : Machine) : Type 0 where
  pub begins : ConnectBegins own o a
  pub polled : List Entry
  pub given : Given
  pub items : List Item
  pub ends : ConnectPolls (its_operation begins).who (its_operation begins).left polled (Done given, items)
  pub asked : entries ≡ begins.asked ++ polled
  pub left : after ≡ left_connected m place o begins.now given

-- The last check was answered pending: the connect is in progress, by what is left, and is pending under its line's number.
pub record UdpConnectStands (m : Machine) (line place : ℕ) (o : OpenUdp) (a : IpSocketAddress) (entries : List Entry)
    (after : Machine) : Type 0 where
  pub begins : ConnectBegins (own_of line) o a
  pub polled : List Entry
  pub items : List Item
  pub ends : ConnectPolls (its_operation begins).who (its_operation begins).left polled (Waits, items)
  pub asked : entries ≡ begins.asked ++ polled
  pub left : after ≡ with_pending
      (putting_udp m place (record o { inner = begins.now; connecting = Some (left_of (its_operation begins) items) })) line
      (UdpConnect3 place)

-- == the answers of a poll of one that is pending
-- It is pending still, by what is left; or is done; or failed with a code. Only the first leaves a call pending.
pub data ConnectPolled (m : Machine) (n place : ℕ) (o : OpenUdp) (op : Operation) : List Entry → Reply → Machine → Type 0 where
  WaitsStill : (es : List Entry) (items : List Item) → ConnectPolls op.who op.left es (Waits, items)
      → ConnectPolled m n place o op es (reply.Pending n) (putting_udp m place (record o { connecting = Some (left_of op items) }))
  IsConnected : (es : List Entry) (given : Given) (items : List Item) → ConnectPolls op.who op.left es (Done given, items)
      → ConnectPolled m n place o op es (reply.Ok no_fields) (left_connected (nothing_stands m) place o o.inner given)
  IsRefused : (es : List Entry) (c : ErrorCode) (given : Given) (items : List Item)
      → ConnectPolls op.who op.left es (Refused c given, items)
      → ConnectPolled m n place o op es (reply.Err (p3_word c)) (left_connected (nothing_stands m) place o o.inner given)

-- Why datagram streams aren't made, and what is left then.
use Rattle.std.specs.Prelude.{◌≡◌, ℕ, ◌+◌, true, false, List, [], ◌∷◌, ◌++◌, Option, Some, None, IsSomeAnd}
use Rattle.wasi_addr.specs.declared.address.IpSocketAddress.{IpSocketAddress}
use Rattle.wasi_addr.specs.declared.address.SocketAddrUse.TheVariants as usages
use Rattle.wasi_addr.specs.declared.code.ErrorCode.{ErrorCode}
use Rattle.wasi_world.specs.Operation.{Given, Nothing, Operation, Remote, remote_told}
use Rattle.wasi_world.specs.Typed.{told_addr}
use Rattle.wasi_world.specs.declared.call.Call.TheVariants as call
use Rattle.wasi_world.specs.declared.call.Entry.{Entry}
use Rattle.wasi_world.specs.declared.call.HandleKind.TheVariants as name
use Rattle.wasi_world.specs.declared.call.Told.{Told}
use Rattle.wasi_world.specs.declared.call.Told.TheVariants as told
use Rattle.wasi_world.specs.declared.ids.OpId.{OpId}
use Rattle.wasi_udp.specs.Connect.{connect_start, is_connectable, with_given}
use Rattle.wasi_udp.specs.Socket.{after_peer}
use Rattle.udp_records.specs.Datagrams.{with_streams}
use Rattle.record_common.specs.Names.{own_of}
use Rattle.wasi_records.specs.Records.{open_at}
use Rattle.udp_records.specs.Udp.{with_udp_inner}
use Rattle.host_store.specs.Store.{with_open_udp}
use Rattle.host_store.specs.declared.machine.Machine.{Machine}
use Rattle.udp_records.specs.declared.udp.OpenUdp.{OpenUdp}
use Rattle.wasi_steps.specs.declared.reply.CodeWord.{CodeWord}
use Rattle.wasi_steps.specs.declared.reply.CodeWord.TheVariants as word
use Rattle.wasi_walks.specs.Answered.{EndsPending, word_of_code}
use Rattle.wasi_walks.specs.Licence.{entry}
use Rattle.wasi_walks.specs.Waiting.{ConnectToldNo, ConnectToldWhy, UdpConnectFails}
use Rattle.wasi_causes.specs.Datagrams.{StandsAsStreams, with_both}
use Rattle.wasi_causes.specs.Udp.{IsUdpBound, IsUdpUnbound, putting_udp, udp_knowing_bound, udp_local_entry}

-- the connect to this address, of a socket that is known to be bound
abbrev pub its_connect : OpId → OpenUdp → IpSocketAddress → Operation
its_connect own o a = connect_start own (record o.inner { bound = true }) a true

-- what a connect that failed gives: nothing where a check was answered no, and else the remote address that was reported then, which
-- is none after a code or the wildcard
abbrev pub given_by : {op : Operation} {entries : List Entry} {c : ErrorCode} → UdpConnectFails op entries c → Given
given_by (ConnectToldNo a usage its told) = Nothing
given_by (ConnectToldWhy family a c peer its told) = Remote (remote_told family (told_addr peer))

-- the socket afterwards, which is known to be bound, with what the connect gave
abbrev pub unconnected : OpenUdp → Given → OpenUdp
unconnected o given = record o { inner = with_given (record o.inner { bound = true }) given; connecting = None }

abbrev pub disconnect_entry : OpId → OpenUdp → Told → Entry
disconnect_entry own o told = entry own (call.UdpDisconnect o.inner.side) told

abbrev pub peer_entry : OpId → OpenUdp → Told → Entry
peer_entry own o told = entry own (call.Peer o.inner.side) told

-- The streams are refused: the socket isn't bound; or it is, and the address is none that it can be connected to, or its connect
-- ended with a code; or with no address the disconnect of a socket that had one was answered with a code, and the remote address
-- was asked for then. Of a socket that was found bound that is kept. The remote address is as it was where a check of the connect was
-- answered no, and else what was reported after the connect or the disconnect.
pub data UdpStreamRefusal (m : Machine) (own : OpId) (place : ℕ) (o : OpenUdp) (remote : Option IpSocketAddress) : List Entry → CodeWord → Machine → Type 0 where
  StreamsUnbound : (local : Told) → IsUdpUnbound o.inner local → UdpStreamRefusal m own place o remote (udp_local_entry own o.inner local ∷ []) word.InvalidState m
  StreamsElsewhere : (asked : List Entry) (a : IpSocketAddress) → remote ≡ Some a → IsUdpBound own o.inner asked → is_connectable o.inner a ≡ false → UdpStreamRefusal m own place o remote asked word.InvalidArgument (udp_knowing_bound m place o)
  StreamsUnconnected : (asked polled : List Entry) (a : IpSocketAddress) (c : ErrorCode) → remote ≡ Some a → IsUdpBound own o.inner asked → is_connectable o.inner a ≡ true → (why : UdpConnectFails (its_connect own o a) polled c)
      → UdpStreamRefusal m own place o remote (asked ++ polled) (word_of_code c) (putting_udp m place (unconnected o (given_by why)))
  StreamsStillConnected : (asked : List Entry) (a : IpSocketAddress) (c : ErrorCode) (peer : Told) → remote ≡ None → o.inner.remote ≡ Some a → IsUdpBound own o.inner asked
      → UdpStreamRefusal m own place o remote (asked ++ disconnect_entry own o (told.Code c) ∷ peer_entry own o peer ∷ []) (word_of_code c) (putting_udp m place (with_udp_inner o (after_peer (record o.inner { bound = true }) (told_addr peer))))

-- the socket has both streams, on which nothing was sent and nothing received, and the incoming one keeps its remote address
abbrev pub HasNewStreams : ℕ → Machine → Type 0
HasNewStreams place after = IsSomeAnd (open_at after.store.records place) (λ now. now ≡ with_streams now)

-- what a connect asks that is done: both checks are answered yes, and the remote address is asked for once it is connected
abbrev pub connect_entries : OpId → OpenUdp → IpSocketAddress → Told → List Entry
connect_entries own o a peer =
    entry own (call.Check o.inner.maker a usages.UdpSend) told.Yes ∷ entry own (call.Check o.inner.maker a usages.UdpReceive) told.Yes ∷ entry own (call.UdpConnect o.inner.side a) told.Done ∷ peer_entry own o peer ∷ []

-- The streams are there, once this was asked: the socket, which is bound, was connected to the address that is given, or with none
-- it was disconnected where it kept a remote address, and its remote address is what was reported then; or it kept none, and stays so.
pub data StreamsBegin (own : OpId) (o : OpenUdp) (remote : Option IpSocketAddress) : List Entry → OpenUdp → Type 0 where
  StreamsConnected : (asked : List Entry) (a : IpSocketAddress) (peer : Told) → remote ≡ Some a → IsUdpBound own o.inner asked → is_connectable o.inner a ≡ true
      → StreamsBegin own o remote (asked ++ connect_entries own o a peer) (with_streams (record o { inner = after_peer (record o.inner { bound = true }) (told_addr peer); connecting = None }))
  StreamsDisconnected : (asked : List Entry) (a : IpSocketAddress) (peer : Told) → remote ≡ None → o.inner.remote ≡ Some a → IsUdpBound own o.inner asked
      → StreamsBegin own o remote (asked ++ disconnect_entry own o told.Done ∷ peer_entry own o peer ∷ []) (with_streams (with_udp_inner o (after_peer (record o.inner { bound = true }) (told_addr peer))))
  StreamsUnchanged : (asked : List Entry) → remote ≡ None → o.inner.remote ≡ None → IsUdpBound own o.inner asked → StreamsBegin own o remote asked (with_streams (with_udp_inner o (record o.inner { bound = true })))

-- the marks of both handles, the incoming one's first
abbrev pub both_marks : OpId → ℕ → ℕ → OpenUdp → List Entry
both_marks own next handle o = entry own (call.Made next name.Incoming (Some handle) (Some o.inner.side)) told.Done ∷ entry own (call.Made (next + 1) name.Outgoing (Some handle) (Some o.inner.side)) told.Done ∷ []

-- The streams are made: this was asked before the marks, and this is left.
pub record MakesStreams (m : Machine) (own : OpId) (handle place : ℕ) (o : OpenUdp) (remote : Option IpSocketAddress) (entries : List Entry) (after : Machine) : Type 0 where
  pub before : List Entry
  pub now : OpenUdp
  pub begin : StreamsBegin own o remote before now
  pub asked : entries ≡ before ++ both_marks own m.table.next handle o
  pub left : after ≡ record m { store = with_open_udp m.store place now; table = with_both m.table place handle }

-- The connect is pending, under its line's number and for its socket's handle: the last of its checks was answered pending.
pub record StreamsStand (m : Machine) (line handle place : ℕ) (o : OpenUdp) (remote : Option IpSocketAddress) (entries : List Entry) (after : Machine) : Type 0 where
  pub addressed : IpSocketAddress
  pub remote_is : remote ≡ Some addressed
  pub connectable : is_connectable o.inner addressed ≡ true
  pub told : EndsPending (own_of line) entries
  pub stands : StandsAsStreams line handle place after

-- What each call is, said once: how it is written and read, what it names, and what it gives.
use Rattle.std.specs.Prelude.{ℕ, ◌==◌, if◌then◌else◌, List, [], ◌∷◌, ◌++◌, map, codes}
use Rattle.world_text.specs.Fields.{Reader, ◌>>=◌, give}
use Rattle.wasi_steps.specs.declared.guest_call.GuestCall.{GuestCall}
use Rattle.wasi_steps.specs.declared.guest_call.GuestCall.TheVariants as guest
use Rattle.wasi_steps.specs.declared.guest_call.TcpCall.{TcpCall}
use Rattle.wasi_steps.specs.declared.guest_call.TcpCall.TheVariants as tcp_call
use Rattle.wasi_steps.specs.declared.guest_call.UdpCall.{UdpCall}
use Rattle.wasi_steps.specs.declared.guest_call.UdpCall.TheVariants as udp_call
use Rattle.wasi_steps.specs.declared.guest_call.NameCall.{NameCall}
use Rattle.wasi_steps.specs.declared.guest_call.NameCall.TheVariants as name_call
use Rattle.wasi_steps.specs.declared.guest_call.StreamCall.{StreamCall}
use Rattle.wasi_steps.specs.declared.guest_call.StreamCall.TheVariants as stream_call
use Rattle.wasi_steps.specs.declared.guest_call.PipeCall.{PipeCall}
use Rattle.wasi_steps.specs.declared.guest_call.PipeCall.TheVariants as pipe_call
use Rattle.wasi_steps.specs.declared.guest_call.PollableCall.{PollableCall}
use Rattle.wasi_steps.specs.declared.guest_call.PollableCall.TheVariants as pollable_call
use Rattle.wasi_steps.specs.declared.guest_call.P3TcpCall.{P3TcpCall}
use Rattle.wasi_steps.specs.declared.guest_call.P3TcpCall.TheVariants as p3_tcp_call
use Rattle.wasi_steps.specs.declared.guest_call.P3UdpCall.{P3UdpCall}
use Rattle.wasi_steps.specs.declared.guest_call.P3UdpCall.TheVariants as p3_udp_call
use Rattle.wasi_steps.specs.declared.guest_call.P3NameCall.{P3NameCall}
use Rattle.wasi_steps.specs.declared.guest_call.P3NameCall.TheVariants as p3_name_call
use Rattle.wasi_steps.specs.Arguments.{ANetwork, ASocket, ASocket3, ADatagramSocket, ADatagramSocket3, AListener3, AnInput, AnOutput, AnIncoming, AnOutgoing, ALookup, AnError, Watchable, APollable, Anything, Kind, HandleOf, ACount, ACapacity, AFamily, ASocketAddress, AnOption, ASetting, AUdpOption, AUdpSetting, AHalf, AllBytes, ARemote, SomeDatagrams, ADatagram, SomePollables, AName, Value, value_at, Values, AReadEnd3, AWriteEnd3, AResult3}

-- what takes such values, one after another, and makes a call or a step of them
abbrev pub Takes : Type 0 → List Kind → Type 0
Takes A [] = A
Takes A (kind ∷ kinds) = Value kind → Takes A kinds

abbrev pub made : {A : Type 0} (kinds : List Kind) → Takes A kinds → Values kinds → A
made [] x values = x
made (kind ∷ kinds) makes values = made kinds (makes values.0) values.1

abbrev pub values_at : {A : Type 0} (kinds : List Kind) → Takes A kinds → Reader A
values_at [] x = give x
values_at (kind ∷ kinds) makes = value_at kind >>= λ value. values_at kinds (makes value)

-- == what a step gives
-- what a field of a reply is: a number, bytes, one of `true` and `false`, or `none`
pub data FieldKind : Type 0 where
  ANumber : FieldKind
  SomeBytes : FieldKind
  Truth : FieldKind
  Nothing : FieldKind

-- what the fields of a reply are: one of each of these kinds, those of an address, those of one with no port or `none`, a count
-- and so many datagrams, one datagram, numbers, or those of a call that can be pending
pub data FieldKinds : Type 0 where
  Each : List FieldKind → FieldKinds
  AnAddress : FieldKinds
  AnIpOrNone : FieldKinds
  ADatagramList : FieldKinds
  SomeNumbers : FieldKinds
  SomeIps : FieldKinds
  OneDatagram : FieldKinds
  OfAPolledCall : FieldKinds

-- == signatures
-- How a call or a step is written: its word, and its arguments.
pub record Written : Type 0 where
  pub word : List ℕ
  pub kinds : List Kind
  pub values : Values kinds

-- What a call or a step is: how it is written, what makes it of its arguments, and the fields of its reply when it succeeds.
pub record Signature (A : Type 0) : Type 0 where
  pub written : Written
  pub makes : Takes A written.kinds
  pub gives : FieldKinds

abbrev pub signed : {A : Type 0} → List ℕ → (kinds : List Kind) → Takes A kinds → Values kinds → FieldKinds → Signature A
signed word kinds makes values gives =
    record { written = record { word = word; kinds = kinds; values = values }; makes = makes; gives = gives }

-- a poll has the reply of the call that it polls: one that can be pending gives nothing, a number (the handle of the socket that
-- it made, or how many bytes), the handles of two streams, or bytes, each the fields of one of these lists alone; or the places of
-- pollables
abbrev pub polled_kinds : List (List FieldKind)
polled_kinds = [] ∷ (ANumber ∷ []) ∷ (ANumber ∷ ANumber ∷ []) ∷ (SomeBytes ∷ []) ∷ []

abbrev pub polled_fields : List FieldKinds
polled_fields = map Each polled_kinds ++ SomeNumbers ∷ SomeIps ∷ OneDatagram ∷ []

-- a poll of a listener of 0.3 gives a handle, unless nothing remains: then it is only looked whether something came
abbrev pub handed_kinds : ℕ → List FieldKind
handed_kinds remaining = if remaining == 0 then [] else ANumber ∷ []

-- the same, with this done to what it makes
abbrev pub makes_by : {A B : Type 0} → (A → B) → (kinds : List Kind) → Takes A kinds → Takes B kinds
makes_by f [] x = f x
makes_by f (kind ∷ kinds) makes = λ value. makes_by f kinds (makes value)

abbrev pub signature_by : {A B : Type 0} → (A → B) → Signature A → Signature B
signature_by f is = record { written = is.written; makes = makes_by f is.written.kinds is.makes; gives = is.gives }

-- a call of a TCP socket
abbrev pub tcp_signature : TcpCall → Signature TcpCall
tcp_signature (tcp_call.Create family) = signed (codes "tcp-create") (AFamily ∷ []) tcp_call.Create (family, tt) (Each (ANumber ∷ []))
tcp_signature (tcp_call.StartBind socket network a) = signed (codes "tcp-start-bind") (HandleOf ASocket ∷ HandleOf ANetwork ∷ ASocketAddress ∷ []) tcp_call.StartBind (socket, (network, (a, tt))) (Each [])
tcp_signature (tcp_call.FinishBind socket) = signed (codes "tcp-finish-bind") (HandleOf ASocket ∷ []) tcp_call.FinishBind (socket, tt) (Each [])
tcp_signature (tcp_call.StartConnect socket network a) = signed (codes "tcp-start-connect") (HandleOf ASocket ∷ HandleOf ANetwork ∷ ASocketAddress ∷ []) tcp_call.StartConnect (socket, (network, (a, tt))) (Each [])
tcp_signature (tcp_call.FinishConnect socket) = signed (codes "tcp-finish-connect") (HandleOf ASocket ∷ []) tcp_call.FinishConnect (socket, tt) (Each (ANumber ∷ ANumber ∷ []))
tcp_signature (tcp_call.StartListen socket) = signed (codes "tcp-start-listen") (HandleOf ASocket ∷ []) tcp_call.StartListen (socket, tt) (Each [])
tcp_signature (tcp_call.FinishListen socket) = signed (codes "tcp-finish-listen") (HandleOf ASocket ∷ []) tcp_call.FinishListen (socket, tt) (Each [])
tcp_signature (tcp_call.Accept socket) = signed (codes "tcp-accept") (HandleOf ASocket ∷ []) tcp_call.Accept (socket, tt) (Each (ANumber ∷ ANumber ∷ ANumber ∷ []))
tcp_signature (tcp_call.LocalAddress socket) = signed (codes "tcp-local-address") (HandleOf ASocket ∷ []) tcp_call.LocalAddress (socket, tt) AnAddress
tcp_signature (tcp_call.RemoteAddress socket) = signed (codes "tcp-remote-address") (HandleOf ASocket ∷ []) tcp_call.RemoteAddress (socket, tt) AnAddress
tcp_signature (tcp_call.IsListening socket) = signed (codes "tcp-is-listening") (HandleOf ASocket ∷ []) tcp_call.IsListening (socket, tt) (Each (Truth ∷ []))
tcp_signature (tcp_call.AddressFamily socket) = signed (codes "tcp-address-family") (HandleOf ASocket ∷ []) tcp_call.AddressFamily (socket, tt) (Each (ANumber ∷ []))
tcp_signature (tcp_call.Get socket option) = signed (codes "tcp-get") (HandleOf ASocket ∷ AnOption ∷ []) tcp_call.Get (socket, (option, tt)) (Each (ANumber ∷ []))
tcp_signature (tcp_call.Set socket setting) = signed (codes "tcp-set") (HandleOf ASocket ∷ ASetting ∷ []) tcp_call.Set (socket, (setting, tt)) (Each [])
tcp_signature (tcp_call.Shutdown socket how) = signed (codes "tcp-shutdown") (HandleOf ASocket ∷ AHalf ∷ []) tcp_call.Shutdown (socket, (how, tt)) (Each [])

-- a call of a UDP socket or of its streams of datagrams
abbrev pub udp_signature : UdpCall → Signature UdpCall
udp_signature (udp_call.Create family) = signed (codes "udp-create") (AFamily ∷ []) udp_call.Create (family, tt) (Each (ANumber ∷ []))
udp_signature (udp_call.StartBind socket network a) = signed (codes "udp-start-bind") (HandleOf ADatagramSocket ∷ HandleOf ANetwork ∷ ASocketAddress ∷ []) udp_call.StartBind (socket, (network, (a, tt))) (Each [])
udp_signature (udp_call.FinishBind socket) = signed (codes "udp-finish-bind") (HandleOf ADatagramSocket ∷ []) udp_call.FinishBind (socket, tt) (Each [])
udp_signature (udp_call.LocalAddress socket) = signed (codes "udp-local-address") (HandleOf ADatagramSocket ∷ []) udp_call.LocalAddress (socket, tt) AnAddress
udp_signature (udp_call.RemoteAddress socket) = signed (codes "udp-remote-address") (HandleOf ADatagramSocket ∷ []) udp_call.RemoteAddress (socket, tt) AnAddress
udp_signature (udp_call.AddressFamily socket) = signed (codes "udp-address-family") (HandleOf ADatagramSocket ∷ []) udp_call.AddressFamily (socket, tt) (Each (ANumber ∷ []))
udp_signature (udp_call.Get socket option) = signed (codes "udp-get") (HandleOf ADatagramSocket ∷ AUdpOption ∷ []) udp_call.Get (socket, (option, tt)) (Each (ANumber ∷ []))
udp_signature (udp_call.Set socket setting) = signed (codes "udp-set") (HandleOf ADatagramSocket ∷ AUdpSetting ∷ []) udp_call.Set (socket, (setting, tt)) (Each [])
udp_signature (udp_call.Stream socket remote) = signed (codes "udp-stream") (HandleOf ADatagramSocket ∷ ARemote ∷ []) udp_call.Stream (socket, (remote, tt)) (Each (ANumber ∷ ANumber ∷ []))
udp_signature (udp_call.Receive incoming most) = signed (codes "udp-receive") (HandleOf AnIncoming ∷ ACount ∷ []) udp_call.Receive (incoming, (most, tt)) ADatagramList
udp_signature (udp_call.CheckSend outgoing) = signed (codes "udp-check-send") (HandleOf AnOutgoing ∷ []) udp_call.CheckSend (outgoing, tt) (Each (ANumber ∷ []))
udp_signature (udp_call.Send outgoing datagrams) = signed (codes "udp-send") (HandleOf AnOutgoing ∷ SomeDatagrams ∷ []) udp_call.Send (outgoing, (datagrams, tt)) (Each (ANumber ∷ []))

-- a call of the network, of a lookup or of an error
abbrev pub name_signature : NameCall → Signature NameCall
name_signature name_call.Network = signed (codes "network") [] name_call.Network tt (Each (ANumber ∷ []))
name_signature (name_call.Resolve network name) = signed (codes "resolve") (HandleOf ANetwork ∷ AName ∷ []) name_call.Resolve (network, (name, tt)) (Each (ANumber ∷ []))
name_signature (name_call.ResolveNext lookup) = signed (codes "resolve-next") (HandleOf ALookup ∷ []) name_call.ResolveNext (lookup, tt) AnIpOrNone
name_signature (name_call.NetworkErrorCode error) = signed (codes "network-error-code") (HandleOf AnError ∷ []) name_call.NetworkErrorCode (error, tt) (Each (Nothing ∷ []))

-- a call of a stream of bytes
abbrev pub stream_signature : StreamCall → Signature StreamCall
stream_signature (stream_call.Read input len) = signed (codes "read") (HandleOf AnInput ∷ ACount ∷ []) stream_call.Read (input, (len, tt)) (Each (SomeBytes ∷ []))
stream_signature (stream_call.Skip input len) = signed (codes "skip") (HandleOf AnInput ∷ ACount ∷ []) stream_call.Skip (input, (len, tt)) (Each (ANumber ∷ []))
stream_signature (stream_call.CheckWrite output) = signed (codes "check-write") (HandleOf AnOutput ∷ []) stream_call.CheckWrite (output, tt) (Each (ANumber ∷ []))
stream_signature (stream_call.Write output bytes) = signed (codes "write") (HandleOf AnOutput ∷ AllBytes ∷ []) stream_call.Write (output, (bytes, tt)) (Each [])
stream_signature (stream_call.WriteZeroes output len) = signed (codes "write-zeroes") (HandleOf AnOutput ∷ ACount ∷ []) stream_call.WriteZeroes (output, (len, tt)) (Each [])
stream_signature (stream_call.Flush output) = signed (codes "flush") (HandleOf AnOutput ∷ []) stream_call.Flush (output, tt) (Each [])
stream_signature (stream_call.Splice output input len) = signed (codes "splice") (HandleOf AnOutput ∷ HandleOf AnInput ∷ ACount ∷ []) stream_call.Splice (output, (input, (len, tt))) (Each (ANumber ∷ []))
stream_signature (stream_call.BlockingRead input len) = signed (codes "blocking-read") (HandleOf AnInput ∷ ACount ∷ []) stream_call.BlockingRead (input, (len, tt)) (Each (SomeBytes ∷ []))
stream_signature (stream_call.BlockingSkip input len) = signed (codes "blocking-skip") (HandleOf AnInput ∷ ACount ∷ []) stream_call.BlockingSkip (input, (len, tt)) (Each (ANumber ∷ []))
stream_signature (stream_call.BlockingWrite output bytes) = signed (codes "blocking-write") (HandleOf AnOutput ∷ AllBytes ∷ []) stream_call.BlockingWrite (output, (bytes, tt)) (Each [])
stream_signature (stream_call.BlockingZeroes output len) = signed (codes "blocking-zeroes") (HandleOf AnOutput ∷ ACount ∷ []) stream_call.BlockingZeroes (output, (len, tt)) (Each [])
stream_signature (stream_call.BlockingFlush output) = signed (codes "blocking-flush") (HandleOf AnOutput ∷ []) stream_call.BlockingFlush (output, tt) (Each [])
stream_signature (stream_call.BlockingSplice output input len) = signed (codes "blocking-splice") (HandleOf AnOutput ∷ HandleOf AnInput ∷ ACount ∷ []) stream_call.BlockingSplice (output, (input, (len, tt))) (Each (ANumber ∷ []))

-- a pipe or another stream in memory
abbrev pub pipe_signature : PipeCall → Signature PipeCall
pipe_signature (pipe_call.In bytes) = signed (codes "pipe-in") (AllBytes ∷ []) pipe_call.In (bytes, tt) (Each (ANumber ∷ []))
pipe_signature (pipe_call.Out capacity) = signed (codes "pipe-out") (ACapacity ∷ []) pipe_call.Out (capacity, tt) (Each (ANumber ∷ []))
pipe_signature (pipe_call.Contents output) = signed (codes "pipe-contents") (HandleOf AnOutput ∷ []) pipe_call.Contents (output, tt) (Each (SomeBytes ∷ []))
pipe_signature pipe_call.Sink = signed (codes "sink") [] pipe_call.Sink tt (Each (ANumber ∷ []))
pipe_signature pipe_call.ClosedIn = signed (codes "closed-in") [] pipe_call.ClosedIn tt (Each (ANumber ∷ []))
pipe_signature pipe_call.ClosedOut = signed (codes "closed-out") [] pipe_call.ClosedOut tt (Each (ANumber ∷ []))

-- a call of a pollable, or the drop of a handle
abbrev pub pollable_signature : PollableCall → Signature PollableCall
pollable_signature (pollable_call.Block pollable) = signed (codes "block") (HandleOf APollable ∷ []) pollable_call.Block (pollable, tt) (Each [])
pollable_signature (pollable_call.PollList pollables) = signed (codes "poll-list") (SomePollables ∷ []) pollable_call.PollList (pollables, tt) SomeNumbers
pollable_signature (pollable_call.Subscribe handle) = signed (codes "subscribe") (HandleOf Watchable ∷ []) pollable_call.Subscribe (handle, tt) (Each (ANumber ∷ []))
pollable_signature (pollable_call.Ready pollable) = signed (codes "ready") (HandleOf APollable ∷ []) pollable_call.Ready (pollable, tt) (Each (Truth ∷ []))
pollable_signature (pollable_call.Drop handle) = signed (codes "drop") (HandleOf Anything ∷ []) pollable_call.Drop (handle, tt) (Each [])

-- a call of a TCP socket of 0.3 or of an end of its streams
abbrev pub p3_tcp_signature : P3TcpCall → Signature P3TcpCall
p3_tcp_signature (p3_tcp_call.Create family) = signed (codes "p3-tcp-create") (AFamily ∷ []) p3_tcp_call.Create (family, tt) (Each (ANumber ∷ []))
p3_tcp_signature (p3_tcp_call.Bind socket a) = signed (codes "p3-tcp-bind") (HandleOf ASocket3 ∷ ASocketAddress ∷ []) p3_tcp_call.Bind (socket, (a, tt)) (Each [])
p3_tcp_signature (p3_tcp_call.Connect socket a) = signed (codes "p3-tcp-connect") (HandleOf ASocket3 ∷ ASocketAddress ∷ []) p3_tcp_call.Connect (socket, (a, tt)) (Each [])
p3_tcp_signature (p3_tcp_call.Listen socket) = signed (codes "p3-tcp-listen") (HandleOf ASocket3 ∷ []) p3_tcp_call.Listen (socket, tt) (Each (ANumber ∷ []))
p3_tcp_signature (p3_tcp_call.Accept listener remaining) = signed (codes "p3-accept") (HandleOf AListener3 ∷ ACount ∷ []) p3_tcp_call.Accept (listener, (remaining, tt)) (Each (handed_kinds remaining))
p3_tcp_signature (p3_tcp_call.LocalAddress socket) = signed (codes "p3-tcp-local-address") (HandleOf ASocket3 ∷ []) p3_tcp_call.LocalAddress (socket, tt) AnAddress
p3_tcp_signature (p3_tcp_call.RemoteAddress socket) = signed (codes "p3-tcp-remote-address") (HandleOf ASocket3 ∷ []) p3_tcp_call.RemoteAddress (socket, tt) AnAddress
p3_tcp_signature (p3_tcp_call.IsListening socket) = signed (codes "p3-tcp-is-listening") (HandleOf ASocket3 ∷ []) p3_tcp_call.IsListening (socket, tt) (Each (Truth ∷ []))
p3_tcp_signature (p3_tcp_call.AddressFamily socket) = signed (codes "p3-tcp-address-family") (HandleOf ASocket3 ∷ []) p3_tcp_call.AddressFamily (socket, tt) (Each (ANumber ∷ []))
p3_tcp_signature (p3_tcp_call.Get socket option) = signed (codes "p3-tcp-get") (HandleOf ASocket3 ∷ AnOption ∷ []) p3_tcp_call.Get (socket, (option, tt)) (Each (ANumber ∷ []))
p3_tcp_signature (p3_tcp_call.Set socket setting) = signed (codes "p3-tcp-set") (HandleOf ASocket3 ∷ ASetting ∷ []) p3_tcp_call.Set (socket, (setting, tt)) (Each [])
p3_tcp_signature (p3_tcp_call.Send socket) = signed (codes "p3-tcp-send") (HandleOf ASocket3 ∷ []) p3_tcp_call.Send (socket, tt) (Each (ANumber ∷ ANumber ∷ []))
p3_tcp_signature (p3_tcp_call.Write end bytes) = signed (codes "p3-write") (HandleOf AWriteEnd3 ∷ AllBytes ∷ []) p3_tcp_call.Write (end, (bytes, tt)) (Each (ANumber ∷ []))
p3_tcp_signature (p3_tcp_call.Receive socket) = signed (codes "p3-tcp-receive") (HandleOf ASocket3 ∷ []) p3_tcp_call.Receive (socket, tt) (Each (ANumber ∷ ANumber ∷ []))
p3_tcp_signature (p3_tcp_call.Read end len) = signed (codes "p3-read") (HandleOf AReadEnd3 ∷ ACount ∷ []) p3_tcp_call.Read (end, (len, tt)) (Each (SomeBytes ∷ []))
p3_tcp_signature (p3_tcp_call.Result slot) = signed (codes "p3-result") (HandleOf AResult3 ∷ []) p3_tcp_call.Result (slot, tt) (Each [])

-- a call of a UDP socket of 0.3
abbrev pub p3_udp_signature : P3UdpCall → Signature P3UdpCall
p3_udp_signature (p3_udp_call.Create family) = signed (codes "p3-udp-create") (AFamily ∷ []) p3_udp_call.Create (family, tt) (Each (ANumber ∷ []))
p3_udp_signature (p3_udp_call.Bind socket a) = signed (codes "p3-udp-bind") (HandleOf ADatagramSocket3 ∷ ASocketAddress ∷ []) p3_udp_call.Bind (socket, (a, tt)) (Each [])
p3_udp_signature (p3_udp_call.Connect socket a) = signed (codes "p3-udp-connect") (HandleOf ADatagramSocket3 ∷ ASocketAddress ∷ []) p3_udp_call.Connect (socket, (a, tt)) (Each [])
p3_udp_signature (p3_udp_call.Disconnect socket) = signed (codes "p3-udp-disconnect") (HandleOf ADatagramSocket3 ∷ []) p3_udp_call.Disconnect (socket, tt) (Each [])
p3_udp_signature (p3_udp_call.Send socket datagram) = signed (codes "p3-udp-send") (HandleOf ADatagramSocket3 ∷ ADatagram ∷ []) p3_udp_call.Send (socket, (datagram, tt)) (Each [])
p3_udp_signature (p3_udp_call.Receive socket) = signed (codes "p3-udp-receive") (HandleOf ADatagramSocket3 ∷ []) p3_udp_call.Receive (socket, tt) OneDatagram
p3_udp_signature (p3_udp_call.LocalAddress socket) = signed (codes "p3-udp-local-address") (HandleOf ADatagramSocket3 ∷ []) p3_udp_call.LocalAddress (socket, tt) AnAddress
p3_udp_signature (p3_udp_call.RemoteAddress socket) = signed (codes "p3-udp-remote-address") (HandleOf ADatagramSocket3 ∷ []) p3_udp_call.RemoteAddress (socket, tt) AnAddress
p3_udp_signature (p3_udp_call.AddressFamily socket) = signed (codes "p3-udp-address-family") (HandleOf ADatagramSocket3 ∷ []) p3_udp_call.AddressFamily (socket, tt) (Each (ANumber ∷ []))
p3_udp_signature (p3_udp_call.Get socket option) = signed (codes "p3-udp-get") (HandleOf ADatagramSocket3 ∷ AUdpOption ∷ []) p3_udp_call.Get (socket, (option, tt)) (Each (ANumber ∷ []))
p3_udp_signature (p3_udp_call.Set socket setting) = signed (codes "p3-udp-set") (HandleOf ADatagramSocket3 ∷ AUdpSetting ∷ []) p3_udp_call.Set (socket, (setting, tt)) (Each [])

-- a lookup of 0.3
abbrev pub p3_name_signature : P3NameCall → Signature P3NameCall
p3_name_signature (p3_name_call.Resolve name) = signed (codes "p3-resolve") (AName ∷ []) p3_name_call.Resolve (name, tt) SomeIps

-- a call of a guest: that of its kind
abbrev pub call_signature : GuestCall → Signature GuestCall
call_signature (guest.Tcp call) = signature_by guest.Tcp (tcp_signature call)
call_signature (guest.Udp call) = signature_by guest.Udp (udp_signature call)
call_signature (guest.Names call) = signature_by guest.Names (name_signature call)
call_signature (guest.Stream call) = signature_by guest.Stream (stream_signature call)
call_signature (guest.Pipe call) = signature_by guest.Pipe (pipe_signature call)
call_signature (guest.Pollable call) = signature_by guest.Pollable (pollable_signature call)
call_signature (guest.P3Tcp call) = signature_by guest.P3Tcp (p3_tcp_signature call)
call_signature (guest.P3Udp call) = signature_by guest.P3Udp (p3_udp_signature call)
call_signature (guest.P3Names call) = signature_by guest.P3Names (p3_name_signature call)

-- The text of an entry of a log: its operation, its call and its answer, as in `3 0 bind 2 0 4 127 0 0 1 80 = done`.
use Rattle.std.specs.Prelude.{ℕ, List, [], ◌∷◌, ◌++◌, codes, decimal, Option, Some, None}
use Rattle.std.specs.List.{flat_map}
use Rattle.wasi_addr.specs.declared.address.IpAddress.{IpAddress}
use Rattle.wasi_addr.specs.declared.address.IpSocketAddress.{IpSocketAddress}
use Rattle.wasi_addr.specs.declared.address.ShutdownType.{ShutdownType}
use Rattle.wasi_addr.specs.declared.address.ShutdownType.TheVariants as shutdown
use Rattle.wasi_addr.specs.declared.address.SocketAddressFamily.{SocketAddressFamily}
use Rattle.wasi_addr.specs.declared.address.SocketAddrUse.{SocketAddrUse}
use Rattle.wasi_addr.specs.declared.address.SocketAddrUse.TheVariants as usage
use Rattle.wasi_world.specs.declared.ids.OpId.{OpId}
use Rattle.wasi_world.specs.declared.call.Call.{Call}
use Rattle.wasi_world.specs.declared.call.Call.TheVariants as call
use Rattle.wasi_world.specs.declared.call.Entry.{Entry}
use Rattle.wasi_world.specs.declared.call.HandleKind.{HandleKind}
use Rattle.wasi_world.specs.declared.call.HandleKind.TheVariants as kind
use Rattle.wasi_world.specs.declared.call.Opt.{Opt}
use Rattle.wasi_world.specs.declared.call.Opt.TheVariants as opt
use Rattle.wasi_world.specs.declared.call.Told.{Told}
use Rattle.wasi_world.specs.declared.call.Told.TheVariants as told
use Rattle.world_text.specs.Fields.{line_with, code_text, bytes_text}
use Rattle.world_text.specs.Written.{family_number, ip_fields, address_fields}

-- == words
-- the word of a use of an address: its name, in lower case and with dashes
abbrev pub use_text : SocketAddrUse → List ℕ
use_text usage.TcpBind = codes "tcp-bind"
use_text usage.TcpListen = codes "tcp-listen"
use_text usage.TcpAccept = codes "tcp-accept"
use_text usage.TcpConnect = codes "tcp-connect"
use_text usage.UdpBind = codes "udp-bind"
use_text usage.UdpSend = codes "udp-send"
use_text usage.UdpReceive = codes "udp-receive"

-- the word of a half that is shut down
abbrev pub half_text : ShutdownType → List ℕ
half_text shutdown.Receive = codes "receive"
half_text shutdown.Send = codes "send"
half_text shutdown.Both = codes "both"

-- the word of an option: its name, in lower case and with dashes
abbrev pub option_text : Opt → List ℕ
option_text opt.KeepAliveEnabled = codes "keep-alive-enabled"
option_text opt.KeepAliveIdleTime = codes "keep-alive-idle-time"
option_text opt.KeepAliveInterval = codes "keep-alive-interval"
option_text opt.KeepAliveCount = codes "keep-alive-count"
option_text opt.HopLimit = codes "hop-limit"
option_text opt.ReceiveBufferSize = codes "receive-buffer-size"
option_text opt.SendBufferSize = codes "send-buffer-size"

-- the word of a kind of handle: its name, in lower case
abbrev pub handle_kind_text : HandleKind → List ℕ
handle_kind_text kind.Network = codes "network"
handle_kind_text kind.Tcp2 = codes "tcp2"
handle_kind_text kind.Udp2 = codes "udp2"
handle_kind_text kind.Input = codes "input"
handle_kind_text kind.Output = codes "output"
handle_kind_text kind.Incoming = codes "incoming"
handle_kind_text kind.Outgoing = codes "outgoing"
handle_kind_text kind.Pollable = codes "pollable"
handle_kind_text kind.Lookup = codes "lookup"
handle_kind_text kind.ErrorValue = codes "errorvalue"
handle_kind_text kind.Tcp3 = codes "tcp3"
handle_kind_text kind.Udp3 = codes "udp3"
handle_kind_text kind.Listen3 = codes "listen3"
handle_kind_text kind.Receive3 = codes "receive3"
handle_kind_text kind.Send3 = codes "send3"
handle_kind_text kind.Result3 = codes "result3"

-- == values
-- the name of an operation, or of the socket that it made: the number of the line that began it, and its part of that line
abbrev pub sock_text : OpId → List ℕ
sock_text sock = line_with (decimal sock.step ∷ decimal sock.part ∷ [])

-- a socket's name, or a dash
abbrev pub maybe_sock_text : Option OpId → List ℕ
maybe_sock_text (Some sock) = sock_text sock
maybe_sock_text None = codes "-"

-- a handle's number, or a dash
abbrev pub maybe_handle_text : Option ℕ → List ℕ
maybe_handle_text (Some handle) = decimal handle
maybe_handle_text None = codes "-"

abbrev pub address_text : IpSocketAddress → List ℕ
address_text a = line_with (address_fields a)

abbrev pub ip_text : IpAddress → List ℕ
ip_text a = line_with (ip_fields a)

-- each with a space before it
abbrev pub ips_text : List IpAddress → List ℕ
ips_text addresses = flat_map (λ a. codes " " ++ ip_text a) addresses

-- == calls
-- a call on a socket
abbrev pub on_text : List ℕ → OpId → List ℕ
on_text word sock = line_with (word ∷ sock_text sock ∷ [])

-- a call on a socket, about an address
abbrev pub to_text : List ℕ → OpId → IpSocketAddress → List ℕ
to_text word sock a = line_with (word ∷ sock_text sock ∷ address_text a ∷ [])

-- a call on a socket, with a number
abbrev pub with_number_text : List ℕ → OpId → ℕ → List ℕ
with_number_text word sock n = line_with (word ∷ sock_text sock ∷ decimal n ∷ [])

-- a call that makes a socket
abbrev pub create_text : List ℕ → ℕ → SocketAddressFamily → List ℕ
create_text word ctx family = line_with (word ∷ decimal ctx ∷ decimal (family_number family) ∷ [])

-- the word of a call: its name, in lower case and with dashes
abbrev pub call_word : Call → List ℕ
call_word (call.Check _ _ _) = codes "check"
call_word (call.Lookup _) = codes "lookup"
call_word (call.TcpCreate _ _) = codes "tcp-create"
call_word (call.UdpCreate _ _) = codes "udp-create"
call_word (call.UdpWritable _) = codes "udp-writable"
call_word (call.Local _) = codes "local"
call_word (call.Peer _) = codes "peer"
call_word (call.Bind _ _) = codes "bind"
call_word (call.UdpBind _ _) = codes "udp-bind"
call_word (call.UdpConnect _ _) = codes "udp-connect"
call_word (call.Listen _ _) = codes "listen"
call_word (call.SetBacklog _ _) = codes "set-backlog"
call_word (call.Connect _ _) = codes "connect"
call_word (call.Accept _) = codes "accept"
call_word (call.Hand _ _) = codes "hand"
call_word (call.Refuse _ _) = codes "refuse"
call_word (call.Read _ _) = codes "read"
call_word (call.ReadReady _) = codes "read-ready"
call_word (call.WriteReady _) = codes "write-ready"
call_word (call.Write _ _) = codes "write"
call_word (call.Shutdown _ _) = codes "shutdown"
call_word (call.UdpDisconnect _) = codes "udp-disconnect"
call_word (call.Send _ _ _) = codes "send"
call_word (call.Recv _) = codes "recv"
call_word (call.GetOption _ _) = codes "get-option"
call_word (call.SetOption _ _ _) = codes "set-option"
call_word (call.Close _) = codes "close"
call_word (call.Made _ _ _ _) = codes "made"

abbrev pub call_text : Call → List ℕ
call_text (call.Check ctx a use_of) = line_with (codes "check" ∷ decimal ctx ∷ address_text a ∷ use_text use_of ∷ [])
call_text (call.Lookup host) = line_with (codes "lookup" ∷ bytes_text host ∷ [])
call_text (call.TcpCreate ctx family) = create_text (codes "tcp-create") ctx family
call_text (call.UdpCreate ctx family) = create_text (codes "udp-create") ctx family
call_text (call.UdpWritable sock) = on_text (codes "udp-writable") sock
call_text (call.Local sock) = on_text (codes "local") sock
call_text (call.Peer sock) = on_text (codes "peer") sock
call_text (call.Bind sock a) = to_text (codes "bind") sock a
call_text (call.UdpBind sock a) = to_text (codes "udp-bind") sock a
call_text (call.UdpConnect sock a) = to_text (codes "udp-connect") sock a
call_text (call.Listen sock backlog) = with_number_text (codes "listen") sock backlog
call_text (call.SetBacklog sock backlog) = with_number_text (codes "set-backlog") sock backlog
call_text (call.Connect sock a) = to_text (codes "connect") sock a
call_text (call.Accept sock) = on_text (codes "accept") sock
call_text (call.Hand sock peer) = to_text (codes "hand") sock peer
call_text (call.Refuse sock peer) = to_text (codes "refuse") sock peer
call_text (call.Read sock size) = with_number_text (codes "read") sock size
call_text (call.ReadReady sock) = on_text (codes "read-ready") sock
call_text (call.WriteReady sock) = on_text (codes "write-ready") sock
call_text (call.Write sock offered) = with_number_text (codes "write") sock offered
call_text (call.Shutdown sock how) = line_with (codes "shutdown" ∷ sock_text sock ∷ half_text how ∷ [])
call_text (call.UdpDisconnect sock) = on_text (codes "udp-disconnect") sock
call_text (call.Send sock a bytes) = line_with (codes "send" ∷ sock_text sock ∷ address_text a ∷ bytes_text bytes ∷ [])
call_text (call.Recv sock) = on_text (codes "recv") sock
call_text (call.GetOption sock option) = line_with (codes "get-option" ∷ sock_text sock ∷ option_text option ∷ [])
call_text (call.SetOption sock option value) = line_with (codes "set-option" ∷ sock_text sock ∷ option_text option ∷ decimal value ∷ [])
call_text (call.Close sock) = on_text (codes "close") sock
call_text (call.Made handle kind parent sock) = line_with (codes "made" ∷ decimal handle ∷ handle_kind_text kind ∷ maybe_handle_text parent ∷ maybe_sock_text sock ∷ [])

-- == answers
abbrev pub told_text : Told → List ℕ
told_text told.Pending = codes "pending"
told_text told.Done = codes "done"
told_text told.Yes = codes "yes"
told_text told.No = codes "no"
told_text (told.Code code) = line_with (codes "code" ∷ code_text code ∷ [])
told_text (told.Addr a) = line_with (codes "addr" ∷ address_text a ∷ [])
told_text (told.Arrived a) = line_with (codes "arrived" ∷ address_text a ∷ [])
told_text (told.Bytes bytes) = line_with (codes "bytes" ∷ bytes_text bytes ∷ [])
told_text (told.Took bytes) = line_with (codes "took" ∷ bytes_text bytes ∷ [])
told_text (told.Datagram bytes a) = line_with (codes "datagram" ∷ address_text a ∷ bytes_text bytes ∷ [])
told_text (told.Value value) = line_with (codes "value" ∷ decimal value ∷ [])
told_text (told.Names addresses) = codes "names" ++ ips_text addresses

abbrev pub entry_text : Entry → List ℕ
entry_text e = sock_text e.op ++ codes " " ++ call_text e.call ++ codes " = " ++ told_text e.answer

-- The calls of a log, and the answers to them: how each is written and read.
use Rattle.std.specs.Prelude.{ℕ, List, [], ◌∷◌, ◌++◌, map, codes, None}
use Rattle.wasi_addr.specs.declared.address.IpSocketAddress.{IpSocketAddress}
use Rattle.wasi_addr.specs.declared.address.IpSocketAddress.TheVariants as socket
use Rattle.wasi_addr.specs.declared.address.ShutdownType.TheVariants.{Receive}
use Rattle.wasi_addr.specs.declared.address.SocketAddressFamily.TheVariants.{Ipv4}
use Rattle.wasi_addr.specs.declared.address.SocketAddrUse.TheVariants.{TcpBind}
use Rattle.wasi_addr.specs.declared.code.ErrorCode.TheVariants as code
use Rattle.wasi_world.specs.declared.call.Call.{Call}
use Rattle.wasi_world.specs.declared.call.Call.TheVariants as call
use Rattle.wasi_world.specs.declared.call.HandleKind.TheVariants.{Network}
use Rattle.wasi_world.specs.declared.call.Opt.TheVariants.{HopLimit}
use Rattle.wasi_world.specs.declared.call.Told.{Told}
use Rattle.wasi_world.specs.declared.call.Told.TheVariants as told
use Rattle.wasi_world.specs.declared.ids.OpId.{OpId}
use Rattle.world_text.specs.Fields.{Reader, Row, after_word, ◌>>=◌, word_at}
use Rattle.wasi_replay.specs.Arguments.{ASock, ANumber, AValue, AFamily, AnAddress, AUse, AHalf, AnOption, SomeBytes, AHandleKind, AParent, AMaybeSock, ACode, SomeIps, Signature, signed, row_of, FitsValues, fields_of_written}

-- == calls
abbrev pub call_signature : Call → Signature Call
call_signature (call.Check ctx a asked) = signed (codes "check") (ANumber ∷ AnAddress ∷ AUse ∷ []) call.Check (ctx, (a, (asked, tt)))
call_signature (call.Lookup host) = signed (codes "lookup") (SomeBytes ∷ []) call.Lookup (host, tt)
call_signature (call.TcpCreate ctx family) = signed (codes "tcp-create") (ANumber ∷ AFamily ∷ []) call.TcpCreate (ctx, (family, tt))
call_signature (call.UdpCreate ctx family) = signed (codes "udp-create") (ANumber ∷ AFamily ∷ []) call.UdpCreate (ctx, (family, tt))
call_signature (call.UdpWritable sock) = signed (codes "udp-writable") (ASock ∷ []) call.UdpWritable (sock, tt)
call_signature (call.Local sock) = signed (codes "local") (ASock ∷ []) call.Local (sock, tt)
call_signature (call.Peer sock) = signed (codes "peer") (ASock ∷ []) call.Peer (sock, tt)
call_signature (call.Bind sock a) = signed (codes "bind") (ASock ∷ AnAddress ∷ []) call.Bind (sock, (a, tt))
call_signature (call.UdpBind sock a) = signed (codes "udp-bind") (ASock ∷ AnAddress ∷ []) call.UdpBind (sock, (a, tt))
call_signature (call.UdpConnect sock a) = signed (codes "udp-connect") (ASock ∷ AnAddress ∷ []) call.UdpConnect (sock, (a, tt))
call_signature (call.Listen sock backlog) = signed (codes "listen") (ASock ∷ ANumber ∷ []) call.Listen (sock, (backlog, tt))
call_signature (call.SetBacklog sock backlog) = signed (codes "set-backlog") (ASock ∷ ANumber ∷ []) call.SetBacklog (sock, (backlog, tt))
call_signature (call.Connect sock a) = signed (codes "connect") (ASock ∷ AnAddress ∷ []) call.Connect (sock, (a, tt))
call_signature (call.Accept sock) = signed (codes "accept") (ASock ∷ []) call.Accept (sock, tt)
call_signature (call.Hand sock peer) = signed (codes "hand") (ASock ∷ AnAddress ∷ []) call.Hand (sock, (peer, tt))
call_signature (call.Refuse sock peer) = signed (codes "refuse") (ASock ∷ AnAddress ∷ []) call.Refuse (sock, (peer, tt))
call_signature (call.Read sock size) = signed (codes "read") (ASock ∷ ANumber ∷ []) call.Read (sock, (size, tt))
call_signature (call.ReadReady sock) = signed (codes "read-ready") (ASock ∷ []) call.ReadReady (sock, tt)
call_signature (call.WriteReady sock) = signed (codes "write-ready") (ASock ∷ []) call.WriteReady (sock, tt)
call_signature (call.Write sock offered) = signed (codes "write") (ASock ∷ ANumber ∷ []) call.Write (sock, (offered, tt))
call_signature (call.Shutdown sock how) = signed (codes "shutdown") (ASock ∷ AHalf ∷ []) call.Shutdown (sock, (how, tt))
call_signature (call.UdpDisconnect sock) = signed (codes "udp-disconnect") (ASock ∷ []) call.UdpDisconnect (sock, tt)
call_signature (call.Send sock a bytes) = signed (codes "send") (ASock ∷ AnAddress ∷ SomeBytes ∷ []) call.Send (sock, (a, (bytes, tt)))
call_signature (call.Recv sock) = signed (codes "recv") (ASock ∷ []) call.Recv (sock, tt)
call_signature (call.GetOption sock option) = signed (codes "get-option") (ASock ∷ AnOption ∷ []) call.GetOption (sock, (option, tt))
call_signature (call.SetOption sock option value) = signed (codes "set-option") (ASock ∷ AnOption ∷ AValue ∷ []) call.SetOption (sock, (option, (value, tt)))
call_signature (call.Close sock) = signed (codes "close") (ASock ∷ []) call.Close (sock, tt)
call_signature (call.Made handle kind parent sock) = signed (codes "made") (ANumber ∷ AHandleKind ∷ AParent ∷ AMaybeSock ∷ []) call.Made (handle, (kind, (parent, (sock, tt))))

-- the fields of a call
abbrev pub call_fields : Call → List (List ℕ)
call_fields c = fields_of_written (call_signature c).written

-- its numbers are within their widths, and it shuts down no more than one half
abbrev pub FitsCall : Call → Type 0
FitsCall c = let is = (call_signature c).written in FitsValues is.kinds is.values

-- one call of each form; which socket and which address it names doesn't matter
abbrev pub some_sock : OpId
some_sock = record { step = 0; part = 0 }

abbrev pub nowhere : IpSocketAddress
nowhere = socket.Ipv4 (record { port = 0; address = (0, 0, 0, 0) })

-- those that hold bytes
abbrev pub memory_calls : List Call
memory_calls = call.Lookup [] ∷ call.Send some_sock nowhere [] ∷ []

-- those of more than a socket, a socket and an address, or a socket and a number
abbrev pub other_calls : List Call
other_calls =
    call.Check 0 nowhere TcpBind ∷ call.TcpCreate 0 Ipv4 ∷ call.UdpCreate 0 Ipv4 ∷ call.Shutdown some_sock Receive
    ∷ call.GetOption some_sock HopLimit ∷ call.SetOption some_sock HopLimit 0 ∷ call.Made 0 Network None None ∷ []

abbrev pub address_calls : List Call
address_calls =
    call.Bind some_sock nowhere ∷ call.UdpBind some_sock nowhere ∷ call.UdpConnect some_sock nowhere ∷ call.Connect some_sock nowhere
    ∷ call.Hand some_sock nowhere ∷ call.Refuse some_sock nowhere ∷ []

abbrev pub number_calls : List Call
number_calls = call.Listen some_sock 0 ∷ call.SetBacklog some_sock 0 ∷ call.Read some_sock 0 ∷ call.Write some_sock 0 ∷ []

abbrev pub sock_calls : List Call
sock_calls =
    call.UdpWritable some_sock ∷ call.Local some_sock ∷ call.Peer some_sock ∷ call.Accept some_sock ∷ call.ReadReady some_sock
    ∷ call.WriteReady some_sock ∷ call.UdpDisconnect some_sock ∷ call.Recv some_sock ∷ call.Close some_sock ∷ []

abbrev pub calls : List Call
calls = memory_calls ++ other_calls ++ address_calls ++ number_calls ++ sock_calls

abbrev pub rows_of_calls : List Call → List (Row Call)
rows_of_calls forms = map (λ c. row_of (call_signature c)) forms

unfoldable pub call_at : Reader Call
call_at = do
  word ← word_at
  after_word (rows_of_calls calls) word

-- == answers
abbrev pub told_signature : Told → Signature Told
told_signature told.Pending = signed (codes "pending") [] told.Pending tt
told_signature told.Done = signed (codes "done") [] told.Done tt
told_signature told.Yes = signed (codes "yes") [] told.Yes tt
told_signature told.No = signed (codes "no") [] told.No tt
told_signature (told.Code c) = signed (codes "code") (ACode ∷ []) told.Code (c, tt)
told_signature (told.Addr a) = signed (codes "addr") (AnAddress ∷ []) told.Addr (a, tt)
told_signature (told.Arrived a) = signed (codes "arrived") (AnAddress ∷ []) told.Arrived (a, tt)
told_signature (told.Bytes bytes) = signed (codes "bytes") (SomeBytes ∷ []) told.Bytes (bytes, tt)
told_signature (told.Took bytes) = signed (codes "took") (SomeBytes ∷ []) told.Took (bytes, tt)
told_signature (told.Datagram sent a) = signed (codes "datagram") (AnAddress ∷ SomeBytes ∷ []) (λ from bytes. told.Datagram bytes from) (a, (sent, tt))
told_signature (told.Value value) = signed (codes "value") (AValue ∷ []) told.Value (value, tt)
told_signature (told.Names addresses) = signed (codes "names") (SomeIps ∷ []) told.Names (addresses, tt)

-- the fields of an answer
abbrev pub told_fields : Told → List (List ℕ)
told_fields t = fields_of_written (told_signature t).written

-- its numbers are within their widths
abbrev pub FitsTold : Told → Type 0
FitsTold t = let is = (told_signature t).written in FitsValues is.kinds is.values

-- one answer of each form: those that hold bytes or addresses, and the others
abbrev pub memory_answers : List Told
memory_answers = told.Bytes [] ∷ told.Took [] ∷ told.Datagram [] nowhere ∷ told.Names [] ∷ []

abbrev pub plain_answers : List Told
plain_answers =
    told.Pending ∷ told.Done ∷ told.Yes ∷ told.No ∷ told.Code code.Other ∷ told.Addr nowhere ∷ told.Arrived nowhere ∷ told.Value 0 ∷ []

abbrev pub rows_of_answers : List Told → List (Row Told)
rows_of_answers forms = map (λ t. row_of (told_signature t)) forms

unfoldable pub told_at : Reader Told
told_at = do
  word ← word_at
  after_word (rows_of_answers (memory_answers ++ plain_answers)) word

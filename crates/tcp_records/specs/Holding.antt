-- What holds the network socket of a TCP socket of 0.3: its handle, an open half, a listener. It goes with the last of them.
use Rattle.std.specs.Prelude.{Bool, true, false, not, ◌||◌, Option, Some, None}
use Rattle.wasi_world.specs.declared.ids.OpId.{OpId}
use Rattle.wasi_world.specs.Asks.{Asks, Give, bind}
use Rattle.wasi_tcp.specs.declared.reader.ReadState.{ReadState}
use Rattle.wasi_tcp.specs.declared.reader.ReadState.TheVariants as reading
use Rattle.wasi_tcp.specs.declared.writer.WriteState.{WriteState}
use Rattle.wasi_tcp.specs.declared.writer.WriteState.TheVariants as writing
use Rattle.tcp_records.specs.declared.tcp_listening.Listening.{Listening}
use Rattle.tcp_records.specs.declared.tcp_listening.Listening.TheVariants.{Not, Accepts}
use Rattle.tcp_records.specs.declared.socket.Streams.{Streams}
use Rattle.tcp_records.specs.declared.socket.TcpRecord.{TcpRecord}
use Rattle.tcp_records.specs.Listening.{with_listening, give_up_asks}
use Rattle.tcp_records.specs.Releasing.{release_asks}

-- == what holds it
abbrev pub is_reading : ReadState → Bool
is_reading (reading.Open half) = true
is_reading reading.Closed = false

abbrev pub is_writing : WriteState → Bool
is_writing (writing.Ready half permit) = true
is_writing _ = false

abbrev pub has_end : Option Streams → Bool
has_end None = false
has_end (Some s) = is_reading s.reader || is_writing s.writer

abbrev pub has_listener : Listening → Bool
has_listener (Accepts l) = true
has_listener _ = false

abbrev pub is_held : TcpRecord → Bool
is_held r = not r.dropped || (has_end r.streams || has_listener r.listening)

-- == how it goes
-- where nothing holds it any more all that the socket has is released; whether it was
abbrev pub let_go_by : OpId → TcpRecord → Bool → Asks (Bool × TcpRecord)
let_go_by op r true = Give (false, r)
let_go_by op r false = bind (release_asks op r) (λ done. Give (true, done.1))

abbrev pub let_go_asks : OpId → TcpRecord → Asks (Bool × TcpRecord)
let_go_asks op r = let_go_by op r (is_held r)

-- the handle goes
abbrev pub without_socket : TcpRecord → TcpRecord
without_socket r = record r { dropped = true }

abbrev pub drop_socket_asks : OpId → TcpRecord → Asks (Bool × TcpRecord)
drop_socket_asks op r = let_go_asks op (without_socket r)

-- the listener goes: an arrival in hand is refused, and a connection that isn't taken is closed, before
abbrev pub drop_listener_asks : OpId → TcpRecord → Asks (Bool × TcpRecord)
drop_listener_asks op r = bind (give_up_asks r.listening) (λ done. let_go_asks op (with_listening r Not))

-- The network sockets that the record of a TCP socket holds.
use Rattle.std.specs.Prelude.{◌≡◌, ◌+◌, List, Result, Ok}
use Rattle.wasi_world.specs.declared.call.Entry.{Entry}
use Rattle.wasi_world.specs.declared.outcome.Answer.{Answer}
use Rattle.wasi_world.specs.declared.outcome.Answer.TheVariants.{Ready}
use Rattle.wasi_world.specs.declared.outcome.Refusal.{Refusal}
use Rattle.wasi_world.specs.Seen.{Seen, Passes}
use Rattle.wasi_tcp.specs.Shape.{Socket}
use Rattle.wasi_tcp.specs.Socket.{side_of}
use Rattle.tcp_records.specs.declared.socket.TcpRecord.{TcpRecord}
use Rattle.tcp_records.specs.Listening.{side_in}
use Rattle.record_common.specs.Sides.{Weight, Tally, no_socket, tally, made_in, closed_in}

-- what the record of a socket holds: the socket's, and that of a listen in progress, or of a connection that isn't taken
abbrev pub holds : TcpRecord → Tally
holds r w = tally (side_of r.inner) w + tally (side_in r.listening) w

-- the network socket that the answer of an accept gives away
abbrev pub given_by : Result (Answer Socket) Refusal → Tally
given_by (Ok (Ready socket)) = tally (side_of socket)
given_by _ = no_socket

-- The record holds the network sockets that it held, with those that were made and without those that were closed or that it
-- gave away.
pub record Balances (before after : Seen) (given : Tally) (old now : TcpRecord) : Type 0 where
  pub entries : List Entry
  pub passed : Passes before entries after
  pub balance : (w : Weight) → closed_in entries w + (holds now w + given w) ≡ made_in entries w + holds old w

-- Sockets that listen: what a listen and an accept ask and answer, and what the record is then.
use Rattle.std.specs.Prelude.{◌≡◌, ℕ, ◌+◌, ◌≤◌, ⊤, Bool, true, false, Option, Some, None, Result, Ok, Err}
use Rattle.wasi_addr.specs.declared.address.IpSocketAddress.{IpSocketAddress}
use Rattle.wasi_addr.specs.declared.address.SocketAddressFamily.{SocketAddressFamily}
use Rattle.wasi_addr.specs.declared.code.ErrorCode.{ErrorCode}
use Rattle.wasi_addr.specs.declared.code.ErrorCode.TheVariants.{InvalidState}
use Rattle.wasi_world.specs.declared.ids.OpId.{OpId}
use Rattle.wasi_world.specs.declared.ids.Ids.{Ids}
use Rattle.wasi_world.specs.declared.outcome.Answer.{Answer}
use Rattle.wasi_world.specs.declared.outcome.Answer.TheVariants.{Ready, Pending}
use Rattle.wasi_world.specs.declared.outcome.Refusal.{Refusal}
use Rattle.wasi_world.specs.declared.outcome.Refusal.TheVariants as refusal
use Rattle.wasi_world.specs.Asks.{Asks, Give, bind}
use Rattle.wasi_world.specs.Operation.{Operation}
use Rattle.wasi_world.specs.Typed.{ask_close}
use Rattle.wasi_tcp.specs.declared.socket.TcpState.TheVariants as state
use Rattle.wasi_tcp.specs.Shape.{Socket}
use Rattle.wasi_tcp.specs.Socket.{side_of, bound_asks}
use Rattle.wasi_tcp.specs.Listen.{held_side, cancel_asks}
use Rattle.wasi_tcp.specs.Listening.{listen_asks, listen_poll_asks}
use Rattle.wasi_tcp.specs.Listener.{Listener, ids_after, listener_accept_asks, listener_ready_asks, accepted_socket, accepted_state, untaken_side, listener_give_up_asks}
use Rattle.tcp_records.specs.declared.tcp_listening.Listening.{Listening}
use Rattle.tcp_records.specs.declared.tcp_listening.Listening.TheVariants.{Not, Begins, Accepts, Unclosed}
use Rattle.tcp_records.specs.declared.tcp_binding.AsyncOperation.TheVariants.{Listen}
use Rattle.tcp_records.specs.declared.tcp_binding.InProgress.TheVariants as doing
use Rattle.tcp_records.specs.declared.socket.TcpRecord.{TcpRecord}
use Rattle.record_common.specs.Stops.{Stop}
use Rattle.tcp_records.specs.Sockets.{new_record, with_inner, opened}

abbrev pub with_listening : TcpRecord → Listening → TcpRecord
with_listening r l = record r { listening = l }

-- == a listen
-- a poll of it ended: done, there is a listener, and the listen is in progress; pending, it is kept; refused, it is over
abbrev pub listen_polled : TcpRecord → Result (Answer Listener) ErrorCode × (Operation × Socket) → Result (Answer (Unit {0})) ErrorCode × TcpRecord
listen_polled r (Ok (Ready listener), (op, socket)) = (Ok (Ready tt), record r { inner = socket; in_progress = doing.Started Listen; listening = Accepts listener })
listen_polled r (Ok Pending, (op, socket)) = (Ok Pending, record r { inner = socket; listening = Begins op })
listen_polled r (Err c, (op, socket)) = (Err c, record r { inner = socket; listening = Not })

-- the same of what the code answers: out of memory, it is kept
abbrev pub listen_settled : TcpRecord → Result (Answer Listener) Refusal → TcpRecord
listen_settled r (Ok (Ready listener)) = record r { in_progress = doing.Started Listen; listening = Accepts listener }
listen_settled r (Ok Pending) = r
listen_settled r (Err (refusal.Code c)) = with_listening r Not
listen_settled r (Err (refusal.Memory e)) = r

abbrev pub listen_told : Result (Answer Listener) Refusal → Result (Answer (Unit {0})) Refusal
listen_told (Ok (Ready listener)) = Ok (Ready tt)
listen_told (Ok Pending) = Ok Pending
listen_told (Err x) = Err x

abbrev pub poll_begun : TcpRecord → Operation → Asks (Result (Answer (Unit {0})) ErrorCode × TcpRecord)
poll_begun r op = bind (listen_poll_asks op r.inner) (λ done. Give (listen_polled r done))

abbrev pub poll_listening : TcpRecord → Listening → Asks (Result (Answer (Unit {0})) ErrorCode × TcpRecord)
poll_listening r (Begins op) = poll_begun r op
poll_listening r _ = Give (Err InvalidState, r)

-- the socket has no network socket of its own while its listen is in progress
abbrev pub closed_listening : TcpRecord → Option OpId → Asks (Result (Answer (Unit {0})) ErrorCode × TcpRecord)
closed_listening r None = poll_listening r r.listening
closed_listening r (Some side) = Give (Err InvalidState, r)

-- polls the listen that was begun
abbrev pub poll_listen_asks : TcpRecord → Asks (Result (Answer (Unit {0})) ErrorCode × TcpRecord)
poll_listen_asks r = closed_listening r (side_of r.inner)

abbrev pub listen_begun : TcpRecord → Result Operation ErrorCode × Socket → Asks (Result (Answer (Unit {0})) ErrorCode × TcpRecord)
listen_begun r (Ok op, socket) = poll_listen_asks (record r { inner = socket; listening = Begins op })
listen_begun r (Err c, socket) = Give (Err c, with_inner r socket)

-- one that listens, or is about to, doesn't begin again
abbrev pub listen_once : OpId → TcpRecord → Listening → Asks (Result (Answer (Unit {0})) ErrorCode × TcpRecord)
listen_once op r Not = bind (listen_asks op r.inner) (listen_begun r)
listen_once op r _ = Give (Err InvalidState, r)

abbrev pub listen_bound : OpId → TcpRecord → Bool → Asks (Result (Answer (Unit {0})) ErrorCode × TcpRecord)
listen_bound op r true = listen_once op r r.listening
listen_bound op r false = Give (Err InvalidState, r)

-- a socket that isn't bound is refused
abbrev pub begin_listen_asks : OpId → TcpRecord → Asks (Result (Answer (Unit {0})) ErrorCode × TcpRecord)
begin_listen_asks op r = bind (bound_asks op r.inner) (λ b. listen_bound op (with_inner r b.1) b.0)

-- == an accept
-- of a listener; any other socket is refused
abbrev pub accept_listening : Ids → TcpRecord → Listening → Asks (Result (Answer Socket) ErrorCode × TcpRecord)
accept_listening ids r (Accepts l) = bind (listener_accept_asks l ids) (λ done. Give (Ok done.0, with_listening r (Accepts done.1)))
accept_listening ids r _ = Give (Err InvalidState, r)

abbrev pub accept_record_asks : Ids → TcpRecord → Asks (Result (Answer Socket) ErrorCode × TcpRecord)
accept_record_asks ids r = accept_listening ids r r.listening

-- a listener is looked at: whether an accept would give something, which it keeps
abbrev pub look_listening : Ids → TcpRecord → Listening → Asks (Result (Answer (Unit {0})) ErrorCode × TcpRecord)
look_listening ids r (Accepts l) = bind (listener_ready_asks l ids) (λ done. Give (Ok done.0, with_listening r (Accepts done.1)))
look_listening ids r _ = Give (Err InvalidState, r)

abbrev pub look_accept_asks : Ids → TcpRecord → Asks (Result (Answer (Unit {0})) ErrorCode × TcpRecord)
look_accept_asks ids r = look_listening ids r r.listening

-- the record of what was accepted, with its streams; one with a code has none, and the code is reported
abbrev pub accepted_record : Socket → Result (Unit {0}) Stop × TcpRecord
accepted_record socket = opened (new_record socket) socket

-- What an accept gives: a socket that was handed over, or one that is closed with a code.
pub data IsAccepted : Socket → Type 0 where
  Connects : (family : SocketAddressFamily) (maker : ℕ) (new : OpId) (peer : IpSocketAddress) → IsAccepted (accepted_socket family maker (accepted_state new peer))
  Fails : (family : SocketAddressFamily) (maker : ℕ) (c : ErrorCode) → IsAccepted (accepted_socket family maker (state.Closed c))

abbrev pub Accepted : Result (Answer Socket) Refusal → Type 0
Accepted (Ok (Ready socket)) = IsAccepted socket
Accepted _ = ⊤

-- == the names that are left to the line: an accept that begins takes one
abbrev pub ids_of : Listening → Ids → Ids
ids_of (Accepts l) ids = ids_after l.accept ids
ids_of _ ids = ids

-- The line is the same, and at most one name was taken.
pub record TakesOne (old new : Ids) : Type 0 where
  pub line : new.line ≡ old.line
  pub forth : old.next_part ≤ new.next_part
  pub one : new.next_part ≤ old.next_part + 1

-- == a listener that goes
-- the network socket that is held beside the socket's own: of a listen in progress, or of a connection that isn't taken
abbrev pub side_in : Listening → Option OpId
side_in Not = None
side_in (Begins op) = held_side op
side_in (Accepts l) = untaken_side l.accept
side_in (Unclosed side) = Some side

-- A listen in progress is cancelled; a listener's accept is released: an arrival in hand is refused, and a connection that
-- isn't taken is closed.
abbrev pub give_up_asks : Listening → Asks (Unit {0})
give_up_asks Not = Give tt
give_up_asks (Begins op) = cancel_asks op
give_up_asks (Accepts l) = listener_give_up_asks l
give_up_asks (Unclosed side) = ask_close side side

-- out of memory, the network socket is known still
abbrev pub unclosed : Option OpId → Listening
unclosed None = Not
unclosed (Some side) = Unclosed side

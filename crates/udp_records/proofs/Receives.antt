-- A receive on an incoming stream: what its start and its polls ask, and what is taken of it.
use Rattle.std.proofs.Common.{◌≡◌, refl, ap, sym}
use Rattle.std.specs.Prelude.{List, ℕ, Result, Ok, Err}
use Rattle.wasi_addr.specs.declared.address.IpSocketAddress.{IpSocketAddress}
use Rattle.wasi_addr.specs.declared.code.ErrorCode.{ErrorCode}
use Rattle.wasi_world.specs.declared.datagram.IncomingDatagram.{IncomingDatagram}
use Rattle.wasi_world.specs.declared.outcome.Answer.{Answer}
use Rattle.wasi_world.specs.declared.outcome.Answer.TheVariants.{Ready, Pending}
use Rattle.wasi_world.specs.declared.outcome.Refusal.{Refusal}
use Rattle.wasi_world.specs.declared.outcome.Refusal.TheVariants as refusal
use Rattle.wasi_world.specs.Seen.{Seen}
use Rattle.wasi_world.specs.Asks.{Give, bind, AsksFor}
use Rattle.wasi_world.specs.Operation.{Operation, Nothing, polls, poll_asks}
use Rattle.wasi_world.proofs.Walks.{asks_end, reaches_in, asks_err}
use Rattle.socket_common.specs.Rounds.{PollsRounds}
use Rattle.wasi_udp.specs.Receive.{datagram_of, wanting}
use Rattle.wasi_udp.specs.Shape.{Socket}
use Rattle.udp_records.specs.declared.datagrams.Incoming.{Incoming}
use Rattle.udp_records.specs.declared.datagrams.Receiving.{Receiving}
use Rattle.udp_records.specs.Receiving.{with_receiving, receive_left, receive_settled, receive_wants, taken, taken_from}

-- what a poll made of its stream, and what is made of that
pub receive_polled : {A : Type 0} (g : Incoming → A) (inc : Incoming) (op now : Operation) (p : Result (Answer (List ℕ × IpSocketAddress)) Refusal) {s t : Seen} → PollsRounds datagram_of Nothing (wanting inc.remote op) now s t p
    → AsksFor (bind (poll_asks (wanting inc.remote op)) (λ ended. Give (g (with_receiving inc (receive_left op ended))))) s t (λ (done : Unit {0}). g (receive_settled now inc p)) (receive_wants p)
receive_polled g inc op now (Ok (Ready d)) h = asks_end _ h.ended refl
receive_polled g inc op now (Ok Pending) h = asks_end _ h.ended (rw (← h.who) refl)
receive_polled g inc op now (Err (refusal.Code c)) h = asks_end _ h.ended refl
receive_polled g inc op now (Err (refusal.Memory e)) h = asks_err (bind (polls _ now.who now.left) (λ ended. Give (g (with_receiving inc (receive_left op ended))))) (reaches_in _ h.ended.reached)

-- what is taken, with the stream that is left
pub taken_as : (socket : Socket) (inc : Incoming) (told : Result (Answer IncomingDatagram) ErrorCode) (now : Receiving) → (told, now) ≡ taken inc.receiving
    → Give (taken_from (socket, inc)) ≡ Give (told, (socket, with_receiving inc now))
taken_as socket inc told now e = ap (λ (d : Result (Answer IncomingDatagram) ErrorCode × Receiving). Give (d.0, (socket, with_receiving inc d.1))) (sym e)

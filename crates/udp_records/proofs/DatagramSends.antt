-- A datagram of an outgoing stream that is polled: what is asked, and what the stream is then.
use Rattle.std.proofs.Common.{◌≡◌, refl, sym, ap, subst, ◌∙◌}
use Rattle.std.specs.Prelude.{Result, Ok, Err, IsErrAnd}
use Rattle.std.specs.declared.alloc.AllocError.{AllocError}
use Rattle.wasi_addr.specs.declared.code.ErrorCode.{ErrorCode}
use Rattle.wasi_world.specs.declared.datagram.OutgoingDatagram.{OutgoingDatagram}
use Rattle.wasi_world.specs.declared.ids.OpId.{OpId}
use Rattle.wasi_world.specs.declared.outcome.Answer.{Answer}
use Rattle.wasi_world.specs.declared.outcome.Answer.TheVariants.{Ready, Pending}
use Rattle.wasi_world.specs.declared.outcome.Refusal.{Refusal}
use Rattle.wasi_world.specs.declared.outcome.Refusal.TheVariants as refusal
use Rattle.wasi_world.specs.Seen.{Seen}
use Rattle.wasi_world.specs.Asks.{Give, bind, AsksFor, outcome}
use Rattle.wasi_world.specs.Operation.{Operation, PollsFor, poll_asks}
use Rattle.wasi_world.specs.Operation as operation
use Rattle.wasi_world.proofs.Polls.{polls_asks}
use Rattle.wasi_world.proofs.Walks.{asks_at, asks_end, refused_on, reaches_in, asks_err}
use Rattle.wasi_udp.specs.Send.{at_remote, IsSend}
use Rattle.wasi_udp.specs.Shape.{Socket}
use Rattle.udp_records.specs.declared.datagrams.Outgoing.{Outgoing}
use Rattle.udp_records.specs.declared.datagrams.Sending.{Sending}
use Rattle.udp_records.specs.declared.datagrams.Sending.TheVariants.{Nothing, InProgress}
use Rattle.udp_records.specs.Datagrams.{send_ended, send_settled, send_counted, send_one_asks, send_next_asks, poll_send_asks, with_sending, turned_left, turn_sending, send_turned, turn_told}
use Rattle.record_common.specs.Sides.{MakesNone}
use Rattle.udp_records.proofs.DatagramCalms.{calm_send}
use Rattle.record_common.proofs.SideCounts.{none_calm}

-- a poll of the datagram makes no network socket and closes none
pub send_makes_none : (socket : Socket) (op now : Operation) (p : Result (Answer (Unit {0})) Refusal) {s t : Seen} → IsSend op → PollsFor (λ (done : Unit {0}). operation.Nothing) operation.Nothing (at_remote socket.remote op) (at_remote socket.remote now) s t p → MakesNone s t
send_makes_none socket op now p its h = none_calm (calm_send socket.remote op its) (outcome p) (polls_asks h)

-- its first poll
pub send_polled : (socket : Socket) (out : Outgoing) (op now : Operation) (p : Result (Answer (Unit {0})) Refusal) {s t : Seen} → now.who ≡ op.who → PollsFor (λ (done : Unit {0}). operation.Nothing) operation.Nothing (at_remote socket.remote op) (at_remote socket.remote now) s t p
    → AsksFor (poll_send_asks socket out op) s t (λ done. (done, (socket, send_settled now out p))) (outcome (send_counted p))
send_polled socket out op now (Ok (Ready done)) w h = asks_end _ h.ended refl
send_polled socket out op now (Ok Pending) w h = asks_end _ h.ended (rw (← w) refl)
send_polled socket out op now (Err (refusal.Code c)) w h = asks_end _ h.ended refl
send_polled socket out op now (Err (refusal.Memory e)) w h = asks_err (bind (poll_asks (at_remote socket.remote now)) (λ ended. Give (send_ended op socket out ended))) (reaches_in _ h.ended)

-- and one in a turn
turned_so : (socket : Socket) (out : Outgoing) (op now : Operation) (p : Result (Answer (Unit {0})) Refusal) {s t : Seen} → now.who ≡ op.who → PollsFor (λ (done : Unit {0}). operation.Nothing) operation.Nothing (at_remote socket.remote op) (at_remote socket.remote now) s t p
    → AsksFor (turn_sending socket out (InProgress op)) s t (λ (done : Unit {0}). send_turned now out p) (turn_told p)
turned_so socket out op now (Ok (Ready done)) w h = asks_end _ h.ended refl
turned_so socket out op now (Ok Pending) w h = asks_end _ h.ended (rw (← w) refl)
turned_so socket out op now (Err (refusal.Code c)) w h = asks_end _ h.ended refl
turned_so socket out op now (Err (refusal.Memory e)) w h = asks_err (bind (poll_asks (at_remote socket.remote now)) (λ ended. Give (with_sending out (turned_left op ended)))) (reaches_in _ h.ended)

pub turn_polled : (socket : Socket) (out : Outgoing) (op now : Operation) (p : Result (Answer (Unit {0})) Refusal) {s t : Seen} → out.sending ≡ InProgress op → now.who ≡ op.who → PollsFor (λ (done : Unit {0}). operation.Nothing) operation.Nothing (at_remote socket.remote op) (at_remote socket.remote now) s t p
    → AsksFor (turn_sending socket out out.sending) s t (λ (done : Unit {0}). send_turned now out p) (turn_told p)
turn_polled socket out op now p e w h = asks_at (turn_sending socket out) e (turned_so socket out op now p w h)

-- == the next of a list, where nothing is in the background
-- the stream that its sending was taken out of is the stream
next_begun : {T : Type 0} (op name : OpId) (socket : Socket) (out : Outgoing) (now : Sending) (d : OutgoingDatagram) {s t : Seen} {view : T → Result (Unit {0}) ErrorCode × (Socket × Outgoing)} {r : Result T AllocError} → out.sending ≡ Nothing → now ≡ Nothing → op ≡ name
    → AsksFor (send_one_asks op socket (with_sending out now) d) s t view r → AsksFor (send_one_asks name socket out d) s t view r
next_begun op name socket out now d {s} {t} {view} {r} e k n h =
    let P : Outgoing → Type 0 = λ o. AsksFor (send_one_asks name socket o d) s t view r in
    subst P (ap (with_sending out) (k ∙ sym e)) (rw n at h)

-- it is sent
pub next_sent : (op name : OpId) (socket : Socket) (out : Outgoing) (now : Sending) (d : OutgoingDatagram) (left : Socket × Outgoing) {s t : Seen} → out.sending ≡ Nothing → now ≡ Nothing → op ≡ name
    → AsksFor (send_one_asks op socket (with_sending out now) d) s t (λ (done : Result (Unit {0}) ErrorCode). (done, left)) (Ok (Ok tt)) → AsksFor (send_next_asks name socket out d out.sending) s t (λ (answer : Result (Answer (Unit {0})) ErrorCode). (answer, left)) (Ok (Ok (Ready tt)))
next_sent op name socket out now d left e k n h = asks_at (send_next_asks name socket out d) e (asks_end _ (next_begun op name socket out now d e k n h).ok refl)

-- it is refused, or memory is wanted
pub next_refused : (op name : OpId) (socket : Socket) (out : Outgoing) (now : Sending) (d : OutgoingDatagram) (left : Socket × Outgoing) (x : Refusal) (r : Result (Answer (Unit {0})) Refusal) {s t : Seen} → IsErrAnd r (λ y. y ≡ x) → out.sending ≡ Nothing → now ≡ Nothing → op ≡ name
    → AsksFor (send_one_asks op socket (with_sending out now) d) s t (λ (done : Result (Unit {0}) ErrorCode). (done, left)) (outcome {T = Unit {0}} (Err x)) → AsksFor (send_next_asks name socket out d out.sending) s t (λ (answer : Result (Answer (Unit {0})) ErrorCode). (answer, left)) (outcome r)
next_refused op name socket out now d left x r f e k n h = asks_at (send_next_asks name socket out d) e (refused_on _ x r f (next_begun op name socket out now d e k n h) (λ code. refl))

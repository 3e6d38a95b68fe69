-- A poll of a connect, and one as a part of a call.
use Rattle.std.specs.Prelude.{◌≡◌, true, [], ◌∷◌, Result, Ok, Err, OnErr, IsErrAnd, refl}
use Rattle.std.specs.declared.alloc.AllocError.{AllocError}
use Rattle.std.proofs.Common.{sym, subst}
use Rattle.wasi_addr.specs.declared.address.IpSocketAddress.{IpSocketAddress}
use Rattle.wasi_addr.specs.declared.address.SocketAddressFamily.{SocketAddressFamily}
use Rattle.wasi_addr.specs.declared.code.ErrorCode.{ErrorCode}
use Rattle.wasi_world.specs.declared.outcome.Answer.{Answer}
use Rattle.wasi_world.specs.declared.outcome.Answer.TheVariants.{Ready, Pending}
use Rattle.wasi_world.specs.Seen.{Seen}
use Rattle.wasi_world.specs.Asks.{Give, bind, Reaches, AsksFor, outcome}
use Rattle.wasi_world.specs.Typed.{ask_peer}
use Rattle.wasi_world.specs.Operation.{AskPeer, NothingLast, Who, Operation, polls, poll_asks, remote_told}
use Rattle.wasi_world.proofs.Walks.{asks_end, reaches_all, reaches_then, reaches_in, reaches_on, asks_err}
use Rattle.wasi_world.proofs.Polls.{done, ends, ended}
use Rattle.socket_common.specs.declared.asker.Asker.{Asker}
use Rattle.socket_common.specs.Rounds.{is_going}
use Rattle.wasi_udp.specs.declared.connect.UdpConnectStage.{UdpConnectStage}
use Rattle.wasi_udp.specs.declared.connect.UdpConnectStage.TheVariants as stage
use Rattle.wasi_udp.specs.declared.connect.ConnectEnd.{ConnectEnd}
use Rattle.wasi_udp.specs.declared.connect.ConnectEnd.TheVariants as way
use Rattle.wasi_udp.specs.Shape.{Socket}
use Rattle.wasi_udp.specs.Connect.{connect_operation, connect_ended, connect_poll_asks, told_end, end_of_connect, PollsConnect, connect_going, connect_told, connect_settled, IsConnect, Unbound, Unchecked, SendChecked, Checked, Connected, Ended}

-- it is a connect, at each of its stages
pub is_connect : (asker : Asker) (family : SocketAddressFamily) (a : IpSocketAddress) (s : UdpConnectStage) → IsConnect (connect_operation asker family a s)
is_connect asker family a stage.CheckWildcard = record { last = refl; left = Unbound family a }
is_connect asker family a stage.CheckSend = record { last = refl; left = Unchecked family a }
is_connect asker family a stage.CheckReceive = record { last = refl; left = SendChecked family a }
is_connect asker family a stage.Connect = record { last = refl; left = Checked family a }
is_connect asker family a (stage.Peer told) = record { last = refl; left = Connected family told }
is_connect asker family a stage.Over = record { last = refl; left = Ended }

-- == a poll
-- nothing was asked, for lack of memory
pub connect_none : (Q : AllocError → Type 0) (old : Operation) {s t : Seen} {r : Result (Answer ConnectEnd) AllocError} → IsErrAnd r Q → t ≡ s → PollsConnect old old s t r
connect_none Q old {r = Ok x} h e = absurd h
connect_none Q old {s} {r = Err d} h e = record { who = refl; ended = rw e (reaches_all (poll_asks old) s) }

-- it came to its end
pub connect_end : {old new : Operation} {s t : Seen} {a : Answer ConnectEnd} → new.who ≡ old.who → Reaches (poll_asks old) (Give (end_of_connect a, new.left)) s t → PollsConnect old new s t (Ok a)
connect_end w h = record { who = w; ended = h }

-- it continues
pub connect_on : {old mid new : Operation} {s t u : Seen} {r : Result (Answer ConnectEnd) AllocError} → mid.who ≡ old.who → Reaches (poll_asks old) (poll_asks mid) s t → PollsConnect mid new t u r → PollsConnect old new s u r
connect_on {r = Ok a} w h k = record { who = rw (← w) k.who; ended = reaches_then h k.ended }
connect_on {r = Err e} w h k = record { who = rw (← w) k.who; ended = reaches_then h k.ended }

-- its last ask, for the remote address
pub peer_end : (who : Who) (family : SocketAddressFamily) (told : Result (Unit {0}) ErrorCode) {peer : Result IpSocketAddress ErrorCode} {s t : Seen} → who.last ≡ NothingLast → Reaches (ask_peer who.id who.side) (Give peer) s t → Reaches (polls 64 who (AskPeer family told ∷ [])) (Give (told_end told (remote_told family peer), [])) s t
peer_end who family (Ok d) l h = done 63 who _ (reaches_on _ h)
peer_end who family (Err c) l h = reaches_then (ends 63 who _ _ (reaches_on _ h)) (ended 63 who l)

-- == as a part of a call
-- what a poll answered, and the operation and the socket then
connect_went_on : (op : Operation) (socket : Socket) {new : Operation} {s t : Seen} (r : Result (Answer ConnectEnd) AllocError) → PollsConnect op new s t r
    → AsksFor (bind (poll_asks op) (λ ended. Give (connect_ended op.who socket ended))) s t (λ answer. (answer, (new, connect_settled socket r))) (outcome (connect_told r))
connect_went_on op socket (Ok Pending) h = asks_end _ h.ended (rw (← h.who) refl)
connect_went_on op socket (Ok (Ready (way.Refused c))) h = asks_end _ h.ended (rw (← h.who) refl)
connect_went_on op socket (Ok (Ready (way.Told (Ok d) remote))) h = asks_end _ h.ended (rw (← h.who) refl)
connect_went_on op socket (Ok (Ready (way.Told (Err c) remote))) h = asks_end _ h.ended (rw (← h.who) refl)
connect_went_on op socket {new} (Err e) h = asks_err (bind (poll_asks new) (λ ended. Give (connect_ended op.who socket ended))) (reaches_in _ h.ended)

pub connect_asked : (op : Operation) (socket : Socket) {new : Operation} {s t : Seen} (r : Result (Answer ConnectEnd) AllocError) → is_going op ≡ true → PollsConnect op new s t r
    → AsksFor (connect_poll_asks op socket) s t (λ answer. (answer, (new, connect_settled socket r))) (outcome (connect_told r))
connect_asked op socket r going h = rw going (connect_went_on op socket r h)

-- after running out of memory, what is left of the poll is a poll of what the connect is then
pub connect_left_over : (op : Operation) (socket : Socket) {new : Operation} {s t : Seen} (r : Result (Answer ConnectEnd) AllocError) → is_going op ≡ true → is_going new ≡ connect_going r → PollsConnect op new s t r
    → OnErr (outcome (connect_told r)) (Reaches (connect_poll_asks op socket) (connect_poll_asks new (connect_settled socket r)) s t)
connect_left_over op socket (Ok Pending) going still h = tt
connect_left_over op socket (Ok (Ready (way.Refused c))) going still h = tt
connect_left_over op socket (Ok (Ready (way.Told (Ok d) remote))) going still h = tt
connect_left_over op socket (Ok (Ready (way.Told (Err c) remote))) going still h = tt
connect_left_over op socket {new} {s} {t} (Err e) going still h =
    let P : Who → Type 0 = λ w. Reaches (bind (poll_asks op) (λ ended. Give (connect_ended op.who socket ended))) (bind (poll_asks new) (λ ended. Give (connect_ended w socket ended))) s t in
    rw (going, still) (subst P (sym h.who) (reaches_in _ h.ended))

-- Of a listen.
use Rattle.std.specs.Prelude.{◌≡◌, ℕ, false, Result, Ok, Err, OnErr, refl}
use Rattle.std.proofs.Common.{sym, subst}
use Rattle.wasi_world.specs.declared.outcome.Answer.{Answer}
use Rattle.wasi_world.specs.declared.outcome.Answer.TheVariants.{Ready, Pending}
use Rattle.wasi_world.specs.declared.outcome.Refusal.{Refusal}
use Rattle.wasi_world.specs.declared.outcome.Refusal.TheVariants.{Code, Memory}
use Rattle.wasi_world.specs.Seen.{Seen}
use Rattle.wasi_world.specs.Asks.{Give, bind, Reaches, AsksFor, outcome}
use Rattle.wasi_world.specs.Operation.{Nothing, Who, Operation, poll_asks, PollsFor}
use Rattle.wasi_world.proofs.Walks.{asks_end, reaches_in, asks_err}
use Rattle.wasi_addr.specs.declared.address.IpSocketAddress.{IpSocketAddress}
use Rattle.socket_common.specs.declared.asker.Asker.{Asker}
use Rattle.wasi_tcp.specs.declared.listen.ListenStage.{ListenStage}
use Rattle.wasi_tcp.specs.declared.listen.ListenStage.TheVariants as stage
use Rattle.wasi_tcp.specs.Shape.{Socket}
use Rattle.wasi_tcp.specs.Listening.{listen_ended, listen_goes_on, listen_poll_asks, listen_told, listen_settled}
use Rattle.wasi_tcp.specs.Listen.{listen_operation, is_over, IsListen, BoundBefore, AddressTold, Unbound, BindChecked, Checked, Bound, ToClose, Ended}

-- it is a listen, at each of its stages
pub is_listen : (asker : Asker) (wildcard : IpSocketAddress) (backlog : ℕ) (s : ListenStage) → IsListen (listen_operation asker wildcard backlog s)
is_listen asker wildcard backlog stage.Local = record { last = refl; left = BoundBefore backlog }
is_listen asker wildcard backlog (stage.CheckTold a) = record { last = refl; left = AddressTold a backlog }
is_listen asker wildcard backlog stage.CheckBind = record { last = refl; left = Unbound wildcard backlog }
is_listen asker wildcard backlog stage.CheckListen = record { last = refl; left = BindChecked wildcard backlog }
is_listen asker wildcard backlog stage.Bind = record { last = refl; left = Checked wildcard backlog }
is_listen asker wildcard backlog stage.Listen = record { last = refl; left = Bound backlog }
is_listen asker wildcard backlog (stage.Close c) = record { last = refl; left = ToClose c }
is_listen asker wildcard backlog stage.Over = record { last = refl; left = Ended }

-- what a poll answered, and the operation and the socket then
listen_went_on : (op : Operation) (socket : Socket) {new : Operation} {s t : Seen} (r : Result (Answer (Unit {0})) Refusal) → PollsFor (λ done. Nothing) Nothing op new s t r
    → AsksFor (listen_goes_on op socket) s t (λ answer. (answer, (new, listen_settled op.who.side socket r))) (outcome (listen_told op.who.side op.who.context socket r))
listen_went_on op socket (Ok (Ready done)) h = asks_end _ h.ended (rw (← h.who) refl)
listen_went_on op socket (Ok Pending) h = asks_end _ h.ended (rw (← h.who) refl)
listen_went_on op socket (Err (Code c)) h = asks_end _ h.ended (rw (← h.who) refl)
listen_went_on op socket {new} (Err (Memory e)) h = asks_err (bind (poll_asks new) (λ ended. Give (listen_ended op.who socket ended))) (reaches_in _ h.ended)

pub listen_asked : (op : Operation) (socket : Socket) {new : Operation} {s t : Seen} (r : Result (Answer (Unit {0})) Refusal) → is_over op ≡ false → PollsFor (λ done. Nothing) Nothing op new s t r
    → AsksFor (listen_poll_asks op socket) s t (λ answer. (answer, (new, listen_settled op.who.side socket r))) (outcome (listen_told op.who.side op.who.context socket r))
listen_asked op socket r going h = rw going (listen_went_on op socket r h)

-- after running out of memory, what is left of the poll is a poll of what the listen is then
pub listen_left_over : (op : Operation) (socket : Socket) {new : Operation} {s t : Seen} (r : Result (Answer (Unit {0})) Refusal) → PollsFor (λ done. Nothing) Nothing op new s t r
    → OnErr (outcome (listen_told op.who.side op.who.context socket r)) (Reaches (listen_goes_on op socket) (listen_goes_on new (listen_settled op.who.side socket r)) s t)
listen_left_over op socket (Ok (Ready done)) h = tt
listen_left_over op socket (Ok Pending) h = tt
listen_left_over op socket (Err (Code c)) h = tt
listen_left_over op socket {new} {s} {t} (Err (Memory e)) h =
    let P : Who → Type 0 = λ w. Reaches (listen_goes_on op socket) (bind (poll_asks new) (λ ended. Give (listen_ended w socket ended))) s t in
    subst P (sym h.who) (reaches_in _ h.ended)

-- A poll of a connect, as a part of a call.
use Rattle.std.specs.Prelude.{Result, Ok, Err, OnErr, refl}
use Rattle.std.proofs.Common.{sym, subst}
use Rattle.wasi_world.specs.declared.ids.OpId.{OpId}
use Rattle.wasi_world.specs.declared.outcome.Answer.{Answer}
use Rattle.wasi_world.specs.declared.outcome.Answer.TheVariants.{Ready, Pending}
use Rattle.wasi_world.specs.declared.outcome.Refusal.{Refusal}
use Rattle.wasi_world.specs.declared.outcome.Refusal.TheVariants.{Code, Memory}
use Rattle.wasi_world.specs.Seen.{Seen}
use Rattle.wasi_world.specs.Asks.{Give, bind, Reaches, AsksFor, outcome}
use Rattle.wasi_world.specs.Operation.{Nothing, Who, Operation, poll_asks, PollsFor}
use Rattle.wasi_world.proofs.Walks.{asks_end, reaches_in, asks_err}
use Rattle.wasi_addr.specs.declared.address.IpSocketAddress.{IpSocketAddress}
use Rattle.socket_common.specs.declared.asker.Asker.{Asker}
use Rattle.wasi_tcp.specs.declared.connect.ConnectStage.{ConnectStage}
use Rattle.wasi_tcp.specs.declared.connect.ConnectStage.TheVariants as stage
use Rattle.wasi_tcp.specs.declared.socket.TcpState.TheVariants as state
use Rattle.wasi_tcp.specs.Connect.{connect_operation, IsConnect, Unbound, Unchecked, Checked, ToClose, Ended}
use Rattle.wasi_tcp.specs.Connecting.{connect_ended, finish_in, settled, HoldsConnect}

-- what a poll answered, and the state then
pub connect_asked : (op : Operation) {new : Operation} {s t : Seen} (r : Result (Answer (Unit {0})) Refusal) → PollsFor (λ done. Nothing) Nothing op new s t r → AsksFor (finish_in (state.Connecting op)) s t (λ answer. (answer, settled op.who.side (state.Connecting new) r)) (outcome r)
connect_asked op (Ok (Ready done)) h = asks_end _ h.ended refl
connect_asked op (Ok Pending) h = asks_end _ h.ended (rw (← h.who) refl)
connect_asked op (Err (Code c)) h = asks_end _ h.ended refl
connect_asked op {new} (Err (Memory e)) h = asks_err (bind (poll_asks new) (λ ended. Give (connect_ended op.who ended))) (reaches_in _ h.ended)

-- after running out of memory, what is left of the poll is a poll of what the connect is then
pub connect_left_over : (op : Operation) {new : Operation} {s t : Seen} (r : Result (Answer (Unit {0})) Refusal) → PollsFor (λ done. Nothing) Nothing op new s t r → OnErr (outcome r) (Reaches (finish_in (state.Connecting op)) (finish_in (settled op.who.side (state.Connecting new) r)) s t)
connect_left_over op (Ok a) h = tt
connect_left_over op (Err (Code c)) h = tt
connect_left_over op {new} {s} {t} (Err (Memory e)) h =
    let P : Who → Type 0 = λ w. Reaches (finish_in (state.Connecting op)) (bind (poll_asks new) (λ ended. Give (connect_ended w ended))) s t in
    subst P (sym h.who) (reaches_in _ h.ended)

-- it is a connect, at each of its stages
pub is_connect : (asker : Asker) (wildcard a : IpSocketAddress) (s : ConnectStage) → IsConnect (connect_operation asker wildcard a s)
is_connect asker wildcard a stage.CheckWildcard = record { last = refl; left = Unbound wildcard a }
is_connect asker wildcard a stage.Check = record { last = refl; left = Unchecked a }
is_connect asker wildcard a stage.Connect = record { last = refl; left = Checked a }
is_connect asker wildcard a (stage.Close c) = record { last = refl; left = ToClose c }
is_connect asker wildcard a stage.Over = record { last = refl; left = Ended }

-- what a poll makes of the state holds a connect where the poll left one
pub settled_holds : (op : Operation) (side : OpId) (r : Result (Answer (Unit {0})) Refusal) → IsConnect op → HoldsConnect (settled side (state.Connecting op) r)
settled_holds op side (Ok (Ready done)) h = tt
settled_holds op side (Ok Pending) h = h
settled_holds op side (Err (Code c)) h = tt
settled_holds op side (Err (Memory e)) h = h

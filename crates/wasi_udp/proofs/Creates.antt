-- Of a create.
use Rattle.std.specs.Prelude.{◌≡◌, true, Result, Ok, Err, OnErr, refl}
use Rattle.std.proofs.Common.{sym, subst}
use Rattle.wasi_addr.specs.declared.address.SocketAddressFamily.{SocketAddressFamily}
use Rattle.wasi_world.specs.declared.outcome.Answer.{Answer}
use Rattle.wasi_world.specs.declared.outcome.Answer.TheVariants.{Ready, Pending}
use Rattle.wasi_world.specs.declared.outcome.Refusal.{Refusal}
use Rattle.wasi_world.specs.declared.outcome.Refusal.TheVariants.{Code, Memory}
use Rattle.wasi_world.specs.Seen.{Seen}
use Rattle.wasi_world.specs.Asks.{Give, bind, Reaches, AsksFor, outcome}
use Rattle.wasi_world.specs.Operation.{Nothing, Who, Operation, poll_asks, PollsFor}
use Rattle.wasi_world.proofs.Walks.{asks_end, reaches_in, asks_err}
use Rattle.socket_common.specs.declared.asker.Asker.{Asker}
use Rattle.socket_common.specs.Rounds.{is_going, stays_going}
use Rattle.wasi_udp.specs.declared.create.CreateStage.{CreateStage}
use Rattle.wasi_udp.specs.declared.create.CreateStage.TheVariants as stage
use Rattle.wasi_udp.specs.Create.{create_operation, Create, create_ended, create_poll_asks, create_told, IsCreate, Unready, ToClose, Ended}

-- it is a create, at each of its stages
pub is_create : (asker : Asker) (s : CreateStage) → IsCreate (create_operation asker s)
is_create asker stage.Writable = record { last = refl; left = Unready }
is_create asker (stage.Close c) = record { last = refl; left = ToClose c }
is_create asker stage.Over = record { last = refl; left = Ended }

-- what a poll answered, and what the create is then
create_went_on : (old new : Operation) (family : SocketAddressFamily) {s t : Seen} (r : Result (Answer (Unit {0})) Refusal) → PollsFor (λ done. Nothing) Nothing old new s t r
    → AsksFor (bind (poll_asks old) (λ ended. Give (create_ended (record { operation = old; family = family }) ended))) s t (λ answer. (answer, record { operation = new; family = family })) (outcome (create_told (record { operation = new; family = family }) r))
create_went_on old new family (Ok (Ready done)) h = asks_end _ h.ended (rw (← h.who) refl)
create_went_on old new family (Ok Pending) h = asks_end _ h.ended (rw (← h.who) refl)
create_went_on old new family (Err (Code c)) h = asks_end _ h.ended (rw (← h.who) refl)
create_went_on old new family (Err (Memory e)) h = asks_err (bind (poll_asks new) (λ ended. Give (create_ended (record { operation = old; family = family }) ended))) (reaches_in _ h.ended)

pub create_asked : (old new : Create) {s t : Seen} (r : Result (Answer (Unit {0})) Refusal) → is_going old.operation ≡ true → new.family ≡ old.family → PollsFor (λ done. Nothing) Nothing old.operation new.operation s t r
    → AsksFor (create_poll_asks old) s t (λ answer. (answer, new)) (outcome (create_told new r))
create_asked old new r going f h = rw (going, ← f) (create_went_on old.operation new.operation new.family r h)

-- after running out of memory, what is left of the poll is a poll of what the create is then
pub create_left_over : (old new : Create) {s t : Seen} (r : Result (Answer (Unit {0})) Refusal) → is_going old.operation ≡ true → new.family ≡ old.family → is_going new.operation ≡ stays_going r → PollsFor (λ done. Nothing) Nothing old.operation new.operation s t r
    → OnErr (outcome (create_told new r)) (Reaches (create_poll_asks old) (create_poll_asks new) s t)
create_left_over old new (Ok (Ready done)) going f still h = tt
create_left_over old new (Ok Pending) going f still h = tt
create_left_over old new (Err (Code c)) going f still h = tt
create_left_over old new {s} {t} (Err (Memory e)) going f still h =
    let P : Who → Type 0 = λ w. Reaches (bind (poll_asks old.operation) (λ ended. Give (create_ended old ended))) (bind (poll_asks new.operation) (λ ended. Give (create_ended (record { operation = record { who = w; left = new.operation.left }; family = old.family }) ended))) s t in
    rw (going, still, f) (subst P (sym h.who) (reaches_in _ h.ended))

-- A create of a UDP socket that is polled, and a UDP socket that is closed: what its record is then, and the network sockets
use Rattle.std.proofs.Common.{◌≡◌, true, ℕ, ◌+◌, ◌++◌, append-nil, ap, List, [], Option, None, Some, refl, sym, subst, ◌∙◌, arith, Result, Ok, Err}
use Rattle.std.specs.Prelude.{Result, Ok, Err, OnErr, IfOk, option_map}
use Rattle.wasi_world.specs.declared.call.Entry.{Entry}
use Rattle.wasi_addr.specs.declared.code.ErrorCode.{ErrorCode}
use Rattle.wasi_world.specs.declared.call.Told.{Told}
use Rattle.wasi_world.specs.declared.call.Told.TheVariants as told
use Rattle.wasi_world.specs.declared.ids.OpId.{OpId}
use Rattle.wasi_world.specs.declared.outcome.Answer.{Answer}
use Rattle.wasi_world.specs.declared.outcome.Answer.TheVariants.{Ready, Pending}
use Rattle.wasi_world.specs.declared.outcome.Refusal.{Refusal}
use Rattle.wasi_world.specs.declared.outcome.Refusal.TheVariants as refusal
use Rattle.wasi_world.specs.Seen.{Seen}
use Rattle.wasi_world.specs.Asks.{Asks, Give, Ask, AskWrite, bind, Reaches, AsksFor, outcome}
use Rattle.wasi_world.specs.Typed.{ask_close, told_polled}
use Rattle.wasi_world.specs.Operation.{Nothing, Item, UdpWritable, LastAsk, CloseLast, Who, Operation, End, Waits, Done, Refused, last_ask, after, round, polls, poll_asks, polled_front}
use Rattle.wasi_world.proofs.Walks.{asks_gives, reaches_in, asks_err, asks_ok}
use Rattle.socket_common.specs.Rounds.{is_going, stays_going}
use Rattle.wasi_udp.specs.Create.{Create, create_ended, create_poll_asks, IsCreate, IsLeftOfCreate, Unready, ToClose, Ended, create_cancel_asks}
use Rattle.wasi_udp.specs.Shape.{Socket}
use Rattle.udp_records.specs.declared.udp.OpenUdp.{OpenUdp}
use Rattle.udp_records.specs.declared.udp.UdpRecord.{UdpRecord}
use Rattle.udp_records.specs.declared.udp.UdpRecord.TheVariants.{Creating, Open, Closed}
use Rattle.udp_records.specs.Udp.{open_of}
use Rattle.record_common.specs.Sides.{Weight, Tally, no_socket, one_socket, closed_in, HoldsFewer}
use Rattle.udp_records.specs.Udp.{udp_holds, opened_udp, udp_create_ended, poll_create_asks, udp_create_settled, udp_create_done}
use Rattle.record_common.proofs.ConnectCounts.{Counted, counted_then, counted_left, counted_once}
use Rattle.std.specs.declared.alloc.AllocError.{AllocError}

-- == what a poll of the create makes of the record
-- what a tree gives is made into something else, and that again
pub gives_twice : {A B C : Type 0} (f : A → B) (g : B → C) (asks : Asks A) → bind (bind asks (λ a. Give (f a))) (λ b. Give (g b)) ≡ bind asks (λ a. Give (g (f a)))
unfolding bind
gives_twice f g (Give a) = refl
gives_twice f g (Ask op call next) = λ i. Ask op call (λ told. gives_twice f g (next told) i)
gives_twice f g (AskWrite op sock bytes next) = λ i. AskWrite op sock bytes (λ told. gives_twice f g (next told) i)

-- the record of what the create gave
abbrev made_of : Result (Answer Socket) ErrorCode × Create → Result (Answer (Unit {0})) ErrorCode × UdpRecord
made_of (Ok (Ready socket), create) = (Ok (Ready tt), opened_udp socket)
made_of (Ok Pending, create) = (Ok Pending, Creating create)
made_of (Err c, create) = (Err c, Closed create.operation.who.side)

made_so : (create : Create) (ended : End × List Item) → made_of (create_ended create ended) ≡ udp_create_ended create ended
made_so create (Waits, items) = refl
made_so create (Done given, items) = refl
made_so create (Refused c given, items) = refl

same_tree : (create : Create) → bind (bind (poll_asks create.operation) (λ ended. Give (create_ended create ended))) (λ done. Give (made_of done)) ≡ bind (poll_asks create.operation) (λ ended. Give (udp_create_ended create ended))
same_tree create = gives_twice (create_ended create) made_of (poll_asks create.operation) ∙ (λ i. bind (poll_asks create.operation) (λ ended. Give (made_so create ended i)))

created_as : (create now : Create) (p : Result (Answer Socket) Refusal) {s t : Seen} → AsksFor (bind (poll_asks create.operation) (λ ended. Give (udp_create_ended create ended))) s t (λ (answer : Result (Answer Socket) ErrorCode). made_of (answer, now)) (outcome p)
    → AsksFor (bind (poll_asks create.operation) (λ ended. Give (udp_create_ended create ended))) s t (λ answer. (answer, udp_create_settled now p)) (outcome (udp_create_done p))
created_as create now (Ok (Ready socket)) h = asks_ok h.ok
created_as create now (Ok Pending) h = asks_ok h.ok
created_as create now (Err (refusal.Code c)) h = asks_ok h.ok
created_as create now (Err (refusal.Memory e)) h = asks_err _ h.err.reached

pub create_polled : (create now : Create) (p : Result (Answer Socket) Refusal) {s t : Seen} → is_going create.operation ≡ true → AsksFor (create_poll_asks create) s t (λ answer. (answer, now)) (outcome p)
    → AsksFor (poll_create_asks (Creating create)) s t (λ answer. (answer, udp_create_settled now p)) (outcome (udp_create_done p))
create_polled create now p {s} {t} going h =
    let P : Asks (Result (Answer (Unit {0})) ErrorCode × UdpRecord) → Type 0 = λ asks. AsksFor asks s t (λ (answer : Result (Answer Socket) ErrorCode). made_of (answer, now)) (outcome p) in
    created_as create now p (subst P (same_tree create) (asks_gives made_of (rw going at h)))

-- out of memory, what is left is a poll of what the record is then
pub create_left_over : (create now : Create) (p : Result (Answer Socket) Refusal) (s t : Seen) → is_going create.operation ≡ true → is_going now.operation ≡ stays_going p → OnErr (outcome p) (Reaches (create_poll_asks create) (create_poll_asks now) s t)
    → OnErr (outcome (udp_create_done p)) (Reaches (poll_create_asks (Creating create)) (poll_create_asks (udp_create_settled now p)) s t)
create_left_over create now (Ok (Ready socket)) s t going still h = tt
create_left_over create now (Ok Pending) s t going still h = tt
create_left_over create now (Err (refusal.Code c)) s t going still h = tt
create_left_over create now (Err (refusal.Memory e)) s t going still h =
    let whole : Create → Asks (Result (Answer (Unit {0})) ErrorCode × UdpRecord) = λ c. bind (bind (poll_asks c.operation) (λ ended. Give (create_ended c ended))) (λ done. Give (made_of done)) in
    let so : Reaches (whole create) (whole now) s t = reaches_in (λ done. Give (made_of done)) (rw (going, still) at h) in
    let its : Reaches (whole create) (poll_create_asks (Creating now)) s t = subst (λ (asks : Asks (Result (Answer (Unit {0})) ErrorCode × UdpRecord)). Reaches (whole create) asks s t) (same_tree now) so in
    subst (λ (asks : Asks (Result (Answer (Unit {0})) ErrorCode × UdpRecord)). Reaches asks (poll_create_asks (Creating now)) s t) (same_tree create) its

-- == what a poll of the create closes
-- refused, it closed its network socket; else it closed none
abbrev Closes : ℕ → ℕ → End × List Item → Type 0
Closes one n (Waits, items) = n ≡ 0
Closes one n (Done given, items) = n ≡ 0
Closes one n (Refused c given, items) = n ≡ one

module _ (w : Weight) (who : Who) (last : who.last ≡ CloseLast) (again : List Item → Asks (End × List Item)) where
  closes : (c : ErrorCode) → Counted w (Closes (w who.side)) 0 (last_ask who who.last c Nothing)
  unfolding bind
  closes c = subst (λ (l : LastAsk). Counted w (Closes (w who.side)) 0 (last_ask who l c Nothing)) (sym last) ((λ t. refl), λ t. omega arith)

  told_ready : (t : Told) → Counted w (Closes (w who.side)) 0 (after again who [] (λ g. round again who g []) (polled_front UdpWritable (told_polled t)))
  told_ready told.Done = refl
  told_ready (told.Code c) = closes c
  told_ready _ = refl

  count_round : (items : List Item) → IsLeftOfCreate items → Counted w (Closes (w who.side)) 0 (round again who Nothing items)
  unfolding bind
  count_round _ Unready = ((λ t. refl), λ t. told_ready t)
  count_round _ (ToClose c) = closes c
  count_round _ Ended = refl

module _ (w : Weight) where
  count_poll : (op : Operation) → IsCreate op → Counted w (Closes (w op.who.side)) 0 (poll_asks op)
  unfolding polls
  count_poll op h = count_round w op.who h.last (polls 63 op.who) op.left h.left

  -- the same of what it answers: so much was held before
  abbrev ClosesBy : ℕ → ℕ → Result (Answer Socket) ErrorCode × Create → Type 0
  ClosesBy before n (Ok (Ready socket), create) = n + w socket.side ≡ before
  ClosesBy before n (Ok Pending, create) = n + w create.operation.who.side ≡ before
  ClosesBy before n (Err c, create) = n ≡ before

  closes_ended : (create : Create) (n : ℕ) (ended : End × List Item) → Closes (w create.operation.who.side) n ended → ClosesBy (w create.operation.who.side) n (create_ended create ended)
  closes_ended create n (Waits, items) h = rw h (omega arith)
  closes_ended create n (Done given, items) h = rw h (omega arith)
  closes_ended create n (Refused c given, items) h = h

  count_create : (create : Create) → IsCreate create.operation → is_going create.operation ≡ true → Counted w (ClosesBy (w create.operation.who.side)) 0 (create_poll_asks create)
  count_create create its going =
      rw going (counted_then w (Closes (w create.operation.who.side)) (ClosesBy (w create.operation.who.side)) 0 (poll_asks create.operation) _ (count_poll create.operation its) (λ n ended c. closes_ended create n ended c))

  as_much : (p q n m : ℕ) (done : Result (Answer Socket) ErrorCode × Create) → ClosesBy p n done → ClosesBy q m done → n + q ≡ m + p
  as_much p q n m (Ok (Ready socket), create) h k = omega arith
  as_much p q n m (Ok Pending, create) h k = omega arith
  as_much p q n m (Err c, create) h k = omega arith

-- the network sockets are fewer by those that were closed
fewer : (create : Create) {s t : Seen} {rest : Asks (Result (Answer Socket) ErrorCode × Create)} (now : Tally) → IsCreate create.operation → is_going create.operation ≡ true → (h : Reaches (create_poll_asks create) rest s t)
    → ((w : Weight) → Counted w (ClosesBy w (w create.operation.who.side)) (0 + closed_in h.entries w) rest → closed_in h.entries w + now w ≡ w create.operation.who.side) → HoldsFewer s t (one_socket create.operation.who.side) now
fewer create {s} {t} {rest} now its going h left = record {
  entries = h.entries;
  passed = h.passed;
  made = λ w. (counted_left w (ClosesBy w (w create.operation.who.side)) 0 (create_poll_asks create) h.entries rest (count_create w create its going) h.left).made;
  balance = λ w. left w (counted_left w (ClosesBy w (w create.operation.who.side)) 0 (create_poll_asks create) h.entries rest (count_create w create its going) h.left).left;
}

pub create_holds : (create now : Create) (p : Result (Answer Socket) Refusal) {s t : Seen} → IsCreate create.operation → IsCreate now.operation → is_going create.operation ≡ true → is_going now.operation ≡ stays_going p
    → AsksFor (create_poll_asks create) s t (λ answer. (answer, now)) (outcome p) → OnErr (outcome p) (Reaches (create_poll_asks create) (create_poll_asks now) s t) → HoldsFewer s t (one_socket create.operation.who.side) (udp_holds (udp_create_settled now p))
create_holds create now (Ok (Ready socket)) its kept going still h e = fewer create _ its going h.ok (λ w z. omega arith)
create_holds create now (Ok Pending) its kept going still h e = fewer create _ its going h.ok (λ w z. omega arith)
create_holds create now (Err (refusal.Code c)) its kept going still h e = fewer create _ its going h.ok (λ w z. omega arith)
create_holds create now (Err (refusal.Memory d)) its kept going still h e =
    fewer create _ its going e (λ w z. let n = counted_once w (ClosesBy w (w create.operation.who.side)) (ClosesBy w (w now.operation.who.side)) (w now.operation.who.side) (w create.operation.who.side) (as_much w (w create.operation.who.side) (w now.operation.who.side)) (0 + closed_in e.entries w) 0 (create_poll_asks now) z (count_create w now kept still) in omega arith)

log_same : (log : Option (List Entry)) → log ≡ option_map (λ entries. entries ++ []) log
log_same None = refl
log_same (Some entries) = ap Some (sym (append-nil entries))

-- nothing was asked, and as much is held
pub holds_as_before : {s t : Seen} (held : Tally) → t ≡ s → HoldsFewer s t held held
holds_as_before {s} held same = rw same (record { entries = []; passed = record { log = log_same s.log; faults = refl; ended = refl; closings = refl; plan = refl }; made = λ w. refl; balance = λ w. omega arith })

-- == an open socket is closed
pub is_open : (u : UdpRecord) (o : OpenUdp) → Some o ≡ open_of (Some u) → u ≡ Open o
is_open (Creating create) o h = absurd (cc)
is_open (Open x) o h = cc
is_open (Closed side) o h = absurd (cc)

count_side : (w : Weight) (op side : OpId) → Counted w (λ n (done : Unit {0}). n ≡ w side) 0 (ask_close op side)
unfolding bind
count_side w op side = ((λ t. refl), λ t. omega arith)

pub open_closes : (op side : OpId) {s t : Seen} → Reaches (ask_close op side) (Give tt) s t → HoldsFewer s t (one_socket side) no_socket
open_closes op side h = record {
  entries = h.entries;
  passed = h.passed;
  made = λ w. (counted_left w (λ n (done : Unit {0}). n ≡ w side) 0 (ask_close op side) h.entries (Give tt) (count_side w op side) h.left).made;
  balance = λ w. (let closed = (counted_left w (λ n (done : Unit {0}). n ≡ w side) 0 (ask_close op side) h.entries (Give tt) (count_side w op side) h.left).left in omega arith);
}

-- == a create
pub create_closes : (create : Create) {s t : Seen} (result : Result (Unit {0}) AllocError) → is_going create.operation ≡ true → AsksFor (create_cancel_asks create) s t (λ done. done) result → IfOk result (λ done. HoldsFewer s t (one_socket create.operation.who.side) no_socket)
create_closes create (Ok done) g h = let k = rw g at h in open_closes create.operation.who.id create.operation.who.side k.ok
create_closes create (Err d) g h = tt

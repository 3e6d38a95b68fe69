-- A bind of a record: what its poll asks, and that it makes no network socket and closes none.
use Rattle.std.proofs.Common.{◌≡◌, List, refl, subst, sym}
use Rattle.std.specs.Prelude.{Result, Ok, Err, OnErr}
use Rattle.std.specs.declared.alloc.AllocError.{AllocError}
use Rattle.wasi_addr.specs.declared.address.IpSocketAddress.{IpSocketAddress}
use Rattle.wasi_addr.specs.declared.code.ErrorCode.{ErrorCode}
use Rattle.wasi_world.specs.declared.ids.OpId.{OpId}
use Rattle.wasi_world.specs.declared.outcome.Answer.{Answer}
use Rattle.wasi_world.specs.declared.outcome.Answer.TheVariants.{Ready, Pending}
use Rattle.wasi_world.specs.declared.outcome.Refusal.{Refusal}
use Rattle.wasi_world.specs.declared.outcome.Refusal.TheVariants as refusal
use Rattle.wasi_world.specs.Seen.{Seen}
use Rattle.wasi_world.specs.Asks.{Asks, Give, bind, Reaches, AsksFor, outcome}
use Rattle.wasi_world.specs.Operation.{Operation, Who, Item, End, Waits, Done, Refused, Nothing, PollsFor, poll_asks}
use Rattle.wasi_world.proofs.Polls.{polls_asks}
use Rattle.wasi_world.proofs.Walks.{asks_at, asks_end, reaches_in, asks_err}
use Rattle.wasi_tcp.specs.Bind.{IsBind}
use Rattle.wasi_tcp.specs.Shape.{Socket}
use Rattle.wasi_tcp.specs.Socket.{bind_asks, bound_asks}
use Rattle.tcp_records.specs.declared.tcp_binding.InProgress.{InProgress}
use Rattle.tcp_records.specs.declared.tcp_binding.InProgress.TheVariants.{Binding}
use Rattle.tcp_records.specs.declared.socket.TcpRecord.{TcpRecord}
use Rattle.record_common.specs.Binding.{bind_answer}
use Rattle.tcp_records.specs.Binding.{bind_ended, bind_progress, bind_settled, poll_binding, poll_bind_asks}
use Rattle.record_common.specs.Sides.{MakesNone}
use Rattle.tcp_records.specs.Sockets.{with_progress}
use Rattle.record_common.proofs.SideCounts.{Calm, Any, calm_then, none_calm}
use Rattle.tcp_records.proofs.SideCounts.{calm_bound, calm_polled}

-- what it made of its record
polled_so : (r : TcpRecord) (op now : Operation) (p : Result (Answer (Unit {0})) Refusal) {s t : Seen} → PollsFor (λ (done : Unit {0}). Nothing) Nothing op now s t p
    → AsksFor (poll_binding r (Binding op)) s t (λ answer. (answer, bind_settled (with_progress r (Binding now)) p)) (outcome p)
polled_so r op now (Ok (Ready done)) h = asks_end _ h.ended refl
polled_so r op now (Ok Pending) h = asks_end _ h.ended (rw (← h.who) refl)
polled_so r op now (Err (refusal.Code c)) h = asks_end _ h.ended refl
polled_so r op now (Err (refusal.Memory e)) h = asks_err (bind (poll_asks now) (λ ended. Give (bind_ended op r ended))) (reaches_in _ h.ended)

pub bind_polled : (r : TcpRecord) (op now : Operation) (p : Result (Answer (Unit {0})) Refusal) {s t : Seen} → r.in_progress ≡ Binding op → PollsFor (λ (done : Unit {0}). Nothing) Nothing op now s t p
    → AsksFor (poll_bind_asks r) s t (λ answer. (answer, bind_settled (with_progress r (Binding now)) p)) (outcome p)
bind_polled r op now p e h = asks_at (poll_binding r) e (polled_so r op now p h)

-- what is in progress then goes by the operation's name alone
progress_so : (op : Operation) (left : List Item) (ended : End × List Item) → bind_progress op ended ≡ bind_progress (record { who = op.who; left = left }) ended
progress_so op left (Waits, items) = refl
progress_so op left (Done given, items) = refl
progress_so op left (Refused c given, items) = refl

-- out of memory, what is left is a poll of what the record has then
pub bind_left : (r : TcpRecord) (socket : Socket) (op now : Operation) (p : Result (Answer (Unit {0})) Refusal) (s t : Seen) → socket ≡ r.inner → r.in_progress ≡ Binding op → PollsFor (λ (done : Unit {0}). Nothing) Nothing op now s t p
    → OnErr (outcome p) (Reaches (poll_bind_asks r) (poll_bind_asks (bind_settled (with_progress (record r { inner = socket }) (Binding now)) p)) s t)
bind_left r socket op now (Ok (Ready done)) s t same e h = tt
bind_left r socket op now (Ok Pending) s t same e h = tt
bind_left r socket op now (Err (refusal.Code c)) s t same e h = tt
bind_left r socket op now (Err (refusal.Memory m)) s t same e h =
    let rest : Who → Asks (Result (Answer (Unit {0})) ErrorCode × TcpRecord) = λ w. bind (poll_asks now) (λ ended. Give (bind_ended (record { who = w; left = now.left }) r ended)) in
    let so : Reaches (poll_binding r (Binding op)) (rest op.who) s t =
    subst (λ (asks : Asks (Result (Answer (Unit {0})) ErrorCode × TcpRecord)). Reaches (poll_binding r (Binding op)) asks s t) (λ i. bind (poll_asks now) (λ ended. Give (bind_answer ended.0, with_progress r (progress_so op now.left ended i)))) (reaches_in (λ ended. Give (bind_ended op r ended)) h.ended) in
    let its : Reaches (poll_binding r (Binding op)) (rest now.who) s t = subst (λ (w : Who). Reaches (poll_binding r (Binding op)) (rest w) s t) (sym h.who) so in
    let here : Reaches (poll_bind_asks r) (rest now.who) s t = subst (λ (x : InProgress). Reaches (poll_binding r x) (rest now.who) s t) (sym e) its in
    subst (λ (k : Socket). Reaches (poll_bind_asks r) (poll_bind_asks (with_progress (record r { inner = k }) (Binding now))) s t) (sym same) here

pub bind_makes_none : (op now : Operation) (p : Result (Answer (Unit {0})) Refusal) {s t : Seen} → IsBind op → PollsFor (λ (done : Unit {0}). Nothing) Nothing op now s t p → MakesNone s t
bind_makes_none op now p its h = none_calm (calm_polled op its) (outcome p) (polls_asks h)

-- nor does its start
calm_begins : (op : OpId) (socket : Socket) (a : IpSocketAddress) → Calm Any (bind_asks op socket a)
calm_begins op socket a = calm_then Any Any (bound_asks op socket) _ (calm_bound op socket) (λ b k. tt)

pub begins_none : {T : Type 0} (op : OpId) (socket : Socket) (a : IpSocketAddress) (r : Result T AllocError) {s t : Seen} {view : T → _} → AsksFor (bind_asks op socket a) s t view r → MakesNone s t
begins_none op socket a r h = none_calm (calm_begins op socket a) r h

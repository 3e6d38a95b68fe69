-- A bind of a UDP socket: what its poll asks, and that it makes no network socket and closes none.
use Rattle.std.proofs.Common.{◌≡◌, List, refl, subst, sym}
use Rattle.std.specs.Prelude.{Result, Ok, Err, OnErr}
use Rattle.std.specs.declared.alloc.AllocError.{AllocError}
use Rattle.wasi_addr.specs.declared.address.IpSocketAddress.{IpSocketAddress}
use Rattle.wasi_addr.specs.declared.code.ErrorCode.{ErrorCode}
use Rattle.wasi_world.specs.declared.ids.OpId.{OpId}
use Rattle.wasi_world.specs.declared.outcome.Answer.{Answer}
use Rattle.wasi_world.specs.declared.outcome.Answer.TheVariants.{Ready, Pending}
use Rattle.wasi_world.specs.declared.outcome.Refusal.{Refusal}
use Rattle.wasi_world.specs.declared.outcome.Refusal.TheVariants as refusal
use Rattle.wasi_world.specs.Seen.{Seen}
use Rattle.wasi_world.specs.Asks.{Asks, Give, bind, Reaches, AsksFor, outcome}
use Rattle.wasi_world.specs.Operation.{Operation, Who, Item, End, Waits, Done, Refused, Nothing, PollsFor, poll_asks}
use Rattle.wasi_world.proofs.Polls.{polls_asks}
use Rattle.wasi_world.proofs.Walks.{asks_at, asks_end, reaches_in, asks_err}
use Rattle.wasi_udp.specs.Bind.{bind_asks, IsBind}
use Rattle.wasi_udp.specs.Shape.{Socket}
use Rattle.udp_records.specs.declared.udp.OpenUdp.{OpenUdp}
use Rattle.udp_records.specs.declared.udp.UdpInProgress.{UdpInProgress}
use Rattle.udp_records.specs.declared.udp.UdpInProgress.TheVariants.{Binding}
use Rattle.record_common.specs.Sides.{MakesNone}
use Rattle.record_common.specs.Binding.{bind_answer}
use Rattle.udp_records.specs.Udp.{udp_bind_ended, udp_bind_progress, udp_bind_settled, poll_udp_binding, poll_udp_bind_asks, with_udp_progress}
use Rattle.record_common.proofs.SideCounts.{none_calm}
use Rattle.udp_records.proofs.UdpCalms.{calm_udp_begins, calm_udp_bind}

-- what it made of its record
polled_so : (o : OpenUdp) (op now : Operation) (p : Result (Answer (Unit {0})) Refusal) {s t : Seen} → PollsFor (λ (done : Unit {0}). Nothing) Nothing op now s t p
    → AsksFor (poll_udp_binding o (Binding op)) s t (λ answer. (answer, udp_bind_settled (with_udp_progress o (Binding now)) p)) (outcome p)
polled_so o op now (Ok (Ready done)) h = asks_end _ h.ended refl
polled_so o op now (Ok Pending) h = asks_end _ h.ended (rw (← h.who) refl)
polled_so o op now (Err (refusal.Code c)) h = asks_end _ h.ended refl
polled_so o op now (Err (refusal.Memory e)) h = asks_err (bind (poll_asks now) (λ ended. Give (udp_bind_ended op o ended))) (reaches_in _ h.ended)

pub udp_bind_polled : (o : OpenUdp) (op now : Operation) (p : Result (Answer (Unit {0})) Refusal) {s t : Seen} → o.in_progress ≡ Binding op → PollsFor (λ (done : Unit {0}). Nothing) Nothing op now s t p
    → AsksFor (poll_udp_bind_asks o) s t (λ answer. (answer, udp_bind_settled (with_udp_progress o (Binding now)) p)) (outcome p)
udp_bind_polled o op now p e h = asks_at (poll_udp_binding o) e (polled_so o op now p h)

-- what is in progress then goes by the operation's name alone
progress_so : (op : Operation) (left : List Item) (ended : End × List Item) → udp_bind_progress op ended ≡ udp_bind_progress (record { who = op.who; left = left }) ended
progress_so op left (Waits, items) = refl
progress_so op left (Done given, items) = refl
progress_so op left (Refused c given, items) = refl

-- out of memory, what is left is a poll of what the record has then
pub udp_bind_left : (o : OpenUdp) (op now : Operation) (p : Result (Answer (Unit {0})) Refusal) (s t : Seen) → o.in_progress ≡ Binding op → PollsFor (λ (done : Unit {0}). Nothing) Nothing op now s t p
    → OnErr (outcome p) (Reaches (poll_udp_bind_asks o) (poll_udp_bind_asks (udp_bind_settled (with_udp_progress o (Binding now)) p)) s t)
udp_bind_left o op now (Ok (Ready done)) s t e h = tt
udp_bind_left o op now (Ok Pending) s t e h = tt
udp_bind_left o op now (Err (refusal.Code c)) s t e h = tt
udp_bind_left o op now (Err (refusal.Memory m)) s t e h =
    let rest : Who → Asks (Result (Answer (Unit {0})) ErrorCode × OpenUdp) = λ w. bind (poll_asks now) (λ ended. Give (udp_bind_ended (record { who = w; left = now.left }) o ended)) in
    let so : Reaches (poll_udp_binding o (Binding op)) (rest op.who) s t =
    subst (λ (asks : Asks (Result (Answer (Unit {0})) ErrorCode × OpenUdp)). Reaches (poll_udp_binding o (Binding op)) asks s t) (λ i. bind (poll_asks now) (λ ended. Give (bind_answer ended.0, with_udp_progress o (progress_so op now.left ended i)))) (reaches_in (λ ended. Give (udp_bind_ended op o ended)) h.ended) in
    let its : Reaches (poll_udp_binding o (Binding op)) (rest now.who) s t = subst (λ (w : Who). Reaches (poll_udp_binding o (Binding op)) (rest w) s t) (sym h.who) so in
    subst (λ (x : UdpInProgress). Reaches (poll_udp_binding o x) (rest now.who) s t) (sym e) its

pub udp_bind_makes_none : (op now : Operation) (p : Result (Answer (Unit {0})) Refusal) {s t : Seen} → IsBind op → PollsFor (λ (done : Unit {0}). Nothing) Nothing op now s t p → MakesNone s t
udp_bind_makes_none op now p its h = none_calm (calm_udp_bind op its) (outcome p) (polls_asks h)

-- nor does its start
pub udp_begins_none : {T : Type 0} (op : OpId) (socket : Socket) (a : IpSocketAddress) (r : Result T AllocError) {s t : Seen} {view : T → _} → AsksFor (bind_asks op socket a) s t view r → MakesNone s t
udp_begins_none op socket a r h = none_calm (calm_udp_begins op socket a) r h

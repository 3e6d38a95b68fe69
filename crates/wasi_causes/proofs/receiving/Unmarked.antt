-- Trees that mark no handle: a poll, a writer's turn, a create that is asked or given up, and a listening that is released.
use Rattle.wasi_causes.proofs.Words.{Accepting, Allows, Ask, AskWrite, Asks, Bool, Call, End, Entry, Give, IpSocketAddress, Job, List, Listening, None, OpId, Operation, Option, SocketAddressFamily, Some, Waits, WasiSocketsCtx, Who, WriteState, allows_if, allows_then, bind, false, give_up_asks, give_up_in, if◌then◌else◌, in_hand, is_over, job_asks, job_in, marked_by, new_asks, poll_asks, refl, refuse_in, true, turn_asks, ⊤, ◌≡◌}
use Rattle.wasi_walks.proofs.Words.{ask_close}
use Rattle.tcp_records.specs.declared.tcp_listening.Listening.TheVariants as listening
use Rattle.socket_common.specs.Rounds.{is_going}
use Rattle.wasi_udp.specs.Create.{Create, create_cancel_asks}
use Rattle.wasi_causes.proofs.operations.Marks.{poll_unmarked}

-- a call that is no mark
abbrev pub Unmarked : List Entry → OpId → Call → Type 0
Unmarked es op c = marked_by c ≡ 0

-- each call is as two laws say
pub both_so : {A : Type 0} (P R : List Entry → OpId → Call → Type 0) (Q S : List Entry → A → Type 0) (es : List Entry) (asks : Asks A) → Allows P Q es asks → Allows R S es asks → Allows (λ fs op c. P fs op c × R fs op c) Q es asks
both_so P R Q S es (Give a) h k = h
both_so P R Q S es (Ask op c next) h k = ((h.0, k.0), λ told fits. both_so P R Q S _ (next told) (h.1 told fits) (k.1 told fits))
both_so P R Q S es (AskWrite op sock bytes next) h k = ((h.0, k.0), λ told fits front. both_so P R Q S _ (next told) (h.1 told fits front) (k.1 told fits front))

pub polls_unmarked : (op : Operation) (es : List Entry) → Allows Unmarked (λ fs ended. ⊤) es (poll_asks op)
polls_unmarked op es = poll_unmarked op es

job_unmarked : (es : List Entry) (job : Job) (end : End) → Allows Unmarked (λ fs j. ⊤) es (job_in job end)
job_unmarked es job Waits = allows_then Unmarked (λ fs ended. ⊤) (λ fs j. ⊤) es (poll_asks job.write) _ (polls_unmarked job.write es) (λ fs ended k. tt)
job_unmarked es job _ = tt

pub turns_unmarked : (es : List Entry) (w : WriteState) → Allows Unmarked (λ fs done. ⊤) es (turn_asks w)
turns_unmarked es (WriteState.Writing job) = allows_then Unmarked (λ fs j. ⊤) (λ fs done. ⊤) es (job_asks job) _ (job_unmarked es job job.end) (λ fs j k. tt)
turns_unmarked es (WriteState.Closing job) = allows_then Unmarked (λ fs j. ⊤) (λ fs done. ⊤) es (job_asks job) _ (job_unmarked es job job.end) (λ fs j k. tt)
turns_unmarked es _ = tt

pub creates_unmarked : (es : List Entry) (own : OpId) (ctx : WasiSocketsCtx) (family : SocketAddressFamily) → Allows Unmarked (λ fs made. ⊤) es (new_asks own ctx family)
unfolding bind
creates_unmarked es own ctx family = allows_if Unmarked (λ fs made. ⊤) es ctx.tcp _ _ (λ may. (refl, λ told f. tt)) (λ other. tt)

pub cancels_unmarked : (es : List Entry) (create : Create) → Allows Unmarked (λ fs done. ⊤) es (create_cancel_asks create)
unfolding bind
cancels_unmarked es create = allows_if Unmarked (λ fs done. ⊤) es (is_going create.operation) _ _ (λ going. (refl, λ told f. tt)) (λ over. tt)

pub releases_unmarked : (es : List Entry) (l : Listening) → Allows Unmarked (λ fs done. ⊤) es (give_up_asks l)
releases_unmarked es listening.Not = tt
releases_unmarked es (listening.Begins op) = cancels (is_over op)
  where
    cancels : (over : Bool) → Allows Unmarked (λ fs done. ⊤) es (if over then Give tt else ask_close op.who.id op.who.side)
    cancels true = tt
    cancels false = (refl, λ told f. tt)
releases_unmarked es (listening.Accepts l) = by_accept l.accept
  where
    refuses : (who : Who) (o : Option IpSocketAddress) → Allows Unmarked (λ fs done. ⊤) es (refuse_in who o)
    refuses who None = tt
    refuses who (Some peer) = (refl, λ told f. tt)

    by_accept : (a : Accepting) → Allows Unmarked (λ fs done. ⊤) es (give_up_in a)
    by_accept Accepting.Idle = tt
    by_accept (Accepting.Asking op) = refuses op.who (in_hand op.left)
    by_accept (Accepting.Arrived new peer) = (refl, λ told f. tt)
    by_accept (Accepting.Failed c) = tt
releases_unmarked es (listening.Unclosed x) = (refl, λ told f. tt)

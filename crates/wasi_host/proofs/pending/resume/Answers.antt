use Rattle.std.proofs.Common.{◌≡◌, ◌∙◌, ℕ, false, List, Option, None, Result, Err, ap, refl}
use Rattle.std.specs.Prelude.{OnErr}
use Rattle.wasi_streams.specs.declared.fault.HostError.TheVariants.{Code, Trap, Memory}
use Rattle.wasi_world.proofs.Walks.{asks_end}
use Rattle.record_common.specs.Stops.{SocketError, host_outcome}
use Rattle.record_common.proofs.Hosts.{host_exit, host_passed}
use Rattle.udp_records.proofs.ReceiveLists.{on_err}
use Rattle.host_streams.proofs.Pipes.{on_err as on_err_by}
use Rattle.host_store.specs.declared.beside.Beside.{Beside}
use Rattle.host_store.specs.Beside.{beside_in}
use Rattle.host_udp.specs.SocketDatagrams.{is_datagram_in}
use Rattle.host_store.specs.Standing.{call_of}
use Rattle.host_store.specs.Store.{Records}
use Rattle.host_store.specs.declared.store.Standing.{Standing}
use Rattle.wasi_host.proofs.pending.resume.Goals as goal

pub returns-in_default-clause-asked : goal.returns-in_default-clause-asked
returns-in_default-clause-asked g c =
    rw (← c.take.ensures.taken, c.in_default.is)
    (rw (rw c.in_default.is at c.take.ensures.none) at c.resume_beside.ensures.asked)

-- no exclusive call of this number was pending, and none came
none_came : {T : Type 0} (r : Result T SocketError) (line : ℕ) (found now old before : Option Standing) → now ≡ old → old ≡ before → found ≡ call_of before line → found ≡ None
    → OnErr (host_outcome r) (call_of now line ≡ None)
none_came r line found now old before e same taken none =
    let over : call_of now line ≡ None = rw (e, same, ← taken) none in on_err (host_outcome r) over

pub returns-in_default-clause-gone : goal.returns-in_default-clause-gone
returns-in_default-clause-gone g c =
    none_came c.resume_beside.result c.args.line c.take.result _ _ _ c.resume_beside.ensures.exclusive
    (ap (λ (s : Records). s.standing) (rw c.in_default.is at c.take.ensures.none)) c.take.ensures.taken c.in_default.is

pub returns-in-Ok-clause-asked : goal.returns-in-Ok-clause-asked
returns-in-Ok-clause-asked g c =
    rw (← c.take.ensures.taken, c.in-Some.is)
    (asks_end _ (rw (c.take.ensures.some (rw c.in-Some.is refl)) at c.in-Ok.ensures.asked.ok) refl)

pub returns-in-Err-Code-clause-asked : goal.returns-in-Err-Code-clause-asked
returns-in-Err-Code-clause-asked g c =
    rw (← c.take.ensures.taken, c.in-Some.is)
    (host_passed _ _ (Err (Code c.in-Err-Code.code)) refl (rw (c.take.ensures.some (rw c.in-Some.is refl), c.in-Err-Code.field-0-is) at c.in-Err-Code.ensures.asked) (λ stop. refl))

pub returns-in-Err-Trap-clause-asked : goal.returns-in-Err-Trap-clause-asked
returns-in-Err-Trap-clause-asked g c =
    rw (← c.take.ensures.taken, c.in-Some.is)
    (host_passed _ _ (Err (Trap c.in-Err-Trap.kind)) refl (rw (c.take.ensures.some (rw c.in-Some.is refl), c.in-Err-Trap.field-0-is) at c.in-Err-Trap.ensures.asked) (λ stop. refl))

pub returns-in-Err-Memory-clause-asked : goal.returns-in-Err-Memory-clause-asked
returns-in-Err-Memory-clause-asked g c =
    rw (← c.take.ensures.taken, c.in-Some.is)
    (host_exit _ (Err (Memory c.in-Err-Memory.e)) refl (rw (c.take.ensures.some (rw c.in-Some.is refl), c.in-Err-Memory.field-0-is) at c.in-Err-Memory.ensures.asked.err))

pub returns-in-Err-Memory-clause-gone : goal.returns-in-Err-Memory-clause-gone
returns-in-Err-Memory-clause-gone g c = rw c.forget_call.ensures refl

-- a call that stands beside others stays then
stays_there : {T : Type 0} (r : Result T SocketError) (now old before : List Beside) (line : ℕ) (P : Type 0) → OnErr (host_outcome r) (is_datagram_in (beside_in old line) ≡ false → now ≡ old) → old ≡ before
    → OnErr (host_outcome r) (P → is_datagram_in (beside_in before line) ≡ false → now ≡ before)
stays_there r now old before line P s e = on_err_by (host_outcome r) (λ same none other. same (rw e other) ∙ e) s

pub returns-in_default-clause-stays : goal.returns-in_default-clause-stays
returns-in_default-clause-stays g c =
    stays_there c.resume_beside.result _ _ _ c.args.line _ c.resume_beside.ensures.stays (ap (λ (s : Records). s.beside) (rw c.in_default.is at c.take.ensures.none))

pub returns-in-Err-Memory-clause-stays : goal.returns-in-Err-Memory-clause-stays
returns-in-Err-Memory-clause-stays g c = λ none. absurd (let taken = c.take.ensures.taken in let some = c.in-Some.is in cc)

-- Writes from the front of their bytes on.
use Rattle.std.proofs.Common.{◌≡◌, ◌∙◌, ap, sym, subst, ℕ, zero, suc, ◌+◌, ◌-◌, ◌<◌, ◌≤◌, List, [], ◌∷◌, length, drop, take, refl, arith, length-drop}
use Rattle.std.proofs.lemmas.List.{take_rest, drop-drop, drop_all}
use Rattle.std.proofs.Math.Seq.{drop-nil}
use Rattle.std.specs.Prelude.{Option, Some, None, Result, Ok, Err, IsErrAnd, OnErr}
use Rattle.std.specs.declared.alloc.AllocError.{AllocError}
use Rattle.wasi_addr.specs.declared.address.ShutdownType.TheVariants.{Send}
use Rattle.wasi_addr.specs.declared.code.ErrorCode.{ErrorCode}
use Rattle.wasi_world.specs.declared.ids.OpId.{OpId}
use Rattle.wasi_world.specs.declared.asks.Polled.TheVariants as polled
use Rattle.wasi_world.specs.declared.outcome.Answer.{Answer}
use Rattle.wasi_world.specs.declared.outcome.Answer.TheVariants.{Ready, Pending}
use Rattle.wasi_world.specs.declared.outcome.Refusal.{Refusal}
use Rattle.wasi_world.specs.declared.outcome.Refusal.TheVariants as refusal
use Rattle.wasi_world.specs.Seen.{Seen}
use Rattle.wasi_world.specs.Asks.{Asks, Give, bind, Reaches, AsksFor, outcome}
use Rattle.wasi_world.specs.Operation.{Write, Nothing, Who, Goes, Stays, Ends, End, Waits, Done, Refused, PollsFor, poll_asks, write_front, taken_front}
use Rattle.wasi_world.specs.Typed.{ask_write, ask_shutdown}
use Rattle.wasi_world.proofs.Walks.{reaches_on, reaches_in, asks_gives, asks_err}
use Rattle.wasi_tcp.specs.Job.{Job, end_after, job_after, job_in, job_asks, told_end, finish_in}

-- the bytes that are skipped are dropped
write_skips : (who : Who) (bytes : List ℕ) (n : ℕ) → write_front who bytes n ≡ write_front who (drop n bytes) 0
write_skips who [] n = ap (λ (rest : List ℕ). write_front who rest 0) (sym (drop-nil {A = ℕ} n))
write_skips who (b ∷ bytes) zero = refl
write_skips who (b ∷ bytes) (suc n) = write_skips who bytes n

takes : (who : Who) (bytes : List ℕ) (n : ℕ) {s t : Seen} → 1 ≤ length bytes → 1 ≤ n → Reaches (ask_write who.id who.side bytes) (Give (polled.Ready n)) s t → Reaches (write_front who bytes 0) (write_front who (drop n bytes) 0) s t
takes who [] n some took h = absurd (omega (arith, some))
takes who (b ∷ bytes) zero some took h = absurd (omega (arith, took))
takes who (b ∷ bytes) (suc n) {s} {t} some took h =
    rw (← write_skips who bytes n) (reaches_on (taken_front (λ skip. write_front who bytes skip) (Write (b ∷ bytes))) h)

waits : (who : Who) (bytes : List ℕ) {s t : Seen} → 1 ≤ length bytes → Reaches (ask_write who.id who.side bytes) (Give polled.Pending) s t → Reaches (write_front who bytes 0) (Give (Stays (Write bytes))) s t
waits who [] some h = absurd (omega (arith, some))
waits who (b ∷ bytes) some h = reaches_on (taken_front (λ skip. write_front who bytes skip) (Write (b ∷ bytes))) h

fails : (who : Who) (bytes : List ℕ) {c : ErrorCode} {s t : Seen} → 1 ≤ length bytes → Reaches (ask_write who.id who.side bytes) (Give (polled.Code c)) s t → Reaches (write_front who bytes 0) (Give (Ends c Nothing)) s t
fails who [] some h = absurd (omega (arith, some))
fails who (b ∷ bytes) some h = reaches_on (taken_front (λ skip. write_front who bytes skip) (Write (b ∷ bytes))) h

-- == from a place on
pub some_left : (bytes : List ℕ) (at : ℕ) → at < length bytes → 1 ≤ length (drop at bytes)
some_left bytes at h = let e = length-drop at bytes in omega (arith, e, h)

pub fits_left : (bytes : List ℕ) (at count : ℕ) → at < length bytes → count ≤ length (take (length bytes - at) (drop at bytes)) → at + count ≤ length bytes
fits_left bytes at count h k = let e = ap length (take_rest bytes at) ∙ length-drop at bytes in omega (arith, k, e)

pub takes_at : (who : Who) (bytes : List ℕ) (at count : ℕ) {s t : Seen} → at < length bytes → 1 ≤ count → Reaches (ask_write who.id who.side (take (length bytes - at) (drop at bytes))) (Give (polled.Ready count)) s t → Reaches (write_front who (drop at bytes) 0) (write_front who (drop (at + count) bytes) 0) s t
takes_at who bytes at count h took k =
    rw drop-drop at (takes who (drop at bytes) count (some_left bytes at h) took (rw take_rest at k))

pub waits_at : (who : Who) (bytes : List ℕ) (at : ℕ) {s t : Seen} → at < length bytes → Reaches (ask_write who.id who.side (take (length bytes - at) (drop at bytes))) (Give polled.Pending) s t → Reaches (write_front who (drop at bytes) 0) (Give (Stays (Write (drop at bytes)))) s t
waits_at who bytes at h k = waits who (drop at bytes) (some_left bytes at h) (rw take_rest at k)

pub fails_at : (who : Who) (bytes : List ℕ) (at : ℕ) {c : ErrorCode} {s t : Seen} → at < length bytes → Reaches (ask_write who.id who.side (take (length bytes - at) (drop at bytes))) (Give (polled.Code c)) s t → Reaches (write_front who (drop at bytes) 0) (Give (Ends c Nothing)) s t
fails_at who bytes at h k = fails who (drop at bytes) (some_left bytes at h) (rw take_rest at k)

-- nothing is left
pub written_all : (who : Who) (bytes : List ℕ) (at : ℕ) → length bytes ≤ at → write_front who (drop at bytes) 0 ≡ Give (Goes Nothing)
written_all who bytes at h = rw (drop_all at bytes h) refl

-- == a poll of a job
pub goes_on : (e : End) (told : Option (Result (Unit {0}) ErrorCode)) → told ≡ told_end e → told ≡ None → e ≡ Waits
goes_on Waits told h k = refl
goes_on (Done given) told h k = absurd (cc)
goes_on (Refused c given) told h k = absurd (cc)

job_given : (old new : Job) (end : End) {s t : Seen} → old.end ≡ Waits → new.write.who ≡ old.write.who → new.end ≡ end → Reaches (poll_asks old.write) (Give (end, new.write.left)) s t → Reaches (job_asks old) (Give new) s t
job_given old new end {s} {t} w p e h =
    let same : job_after old.write.who (end, new.write.left) ≡ new = rw (← p, ← e) refl in
    let P : End → Type 0 = λ x. Reaches (job_in old x) (Give new) s t in
    let Q : Job → Type 0 = λ j. Reaches (bind (poll_asks old.write) (λ x. Give (job_after old.write.who x))) (Give j) s t in
    subst P (sym w) (subst Q same (reaches_on (λ x. Give (job_after old.write.who x)) h))

pub job_ends : {old new : Job} {s t : Seen} {x : Result (Answer (Unit {0})) ErrorCode} (r : Result (Answer (Unit {0})) Refusal) → old.end ≡ Waits → PollsFor (λ done. Nothing) Nothing old.write new.write s t r → new.end ≡ end_after r → Ok x ≡ outcome r → Reaches (job_asks old) (Give new) s t
job_ends {old} {new} (Ok (Ready done)) w p e o = job_given old new (Done Nothing) w p.who e p.ended
job_ends {old} {new} (Ok Pending) w p e o = job_given old new Waits w p.who e p.ended
job_ends {old} {new} (Err (refusal.Code c)) w p e o = job_given old new (Refused c Nothing) w p.who e p.ended
job_ends (Err (refusal.Memory d)) w p e o = absurd (cc)

-- after running out of memory, what is left is a poll of what the job is then
pub job_left_over : {old new : Job} {s t : Seen} {d : AllocError} (r : Result (Answer (Unit {0})) Refusal) → old.end ≡ Waits → PollsFor (λ done. Nothing) Nothing old.write new.write s t r → new.end ≡ end_after r → Err d ≡ outcome r → Reaches (job_asks old) (job_asks new) s t
job_left_over (Ok a) w p e o = absurd (cc)
job_left_over (Err (refusal.Code c)) w p e o = absurd (cc)
job_left_over {old} {new} {s} {t} (Err (refusal.Memory d)) w p e o =
    let P : End → Type 0 = λ x. Reaches (job_in old x) (job_asks new) s t in
    let Q : End → Type 0 = λ x. Reaches (bind (poll_asks old.write) (λ x. Give (job_after old.write.who x))) (job_in new x) s t in
    let R : Who → Type 0 = λ who. Reaches (bind (poll_asks old.write) (λ x. Give (job_after old.write.who x))) (bind (poll_asks new.write) (λ x. Give (job_after who x))) s t in
    subst P (sym w) (subst Q (sym e) (subst R (sym p.who) (reaches_in (λ x. Give (job_after old.write.who x)) p.ended)))

-- out of memory on the way
pub stops : {A T : Type 0} (Q : AllocError → Type 0) {asks rest : Asks A} {s t : Seen} {view : T → A} {r : Result T AllocError} → IsErrAnd r Q → Reaches asks rest s t → AsksFor asks s t view r
stops Q {r = Ok x} e h = absurd e
stops Q {rest} {r = Err d} e h = asks_err rest h

pub on_err : {T : Type 0} {P : Type 0} (r : Result T AllocError) → P → OnErr r P
on_err (Ok x) h = tt
on_err (Err d) h = h

-- the half is released now, after a write that ended well
pub finish_well : {s t : Seen} {r : Result (Unit {0}) AllocError} (op : OpId) (job : Job) (e : End) (told : Option (Result (Unit {0}) ErrorCode)) (x : Result (Unit {0}) ErrorCode) {u : Unit {0}} → told ≡ told_end e → told ≡ Some x → x ≡ Ok u → AsksFor (ask_shutdown op job.write.who.side Send) s t (λ done. done) r → AsksFor (finish_in op job e) s t (λ done. (done, job)) r
finish_well op job Waits told x h k e a = absurd (cc)
finish_well op job (Done given) told x h k e a = asks_gives (λ done. (done, job)) a
finish_well op job (Refused c given) told x h k e a = absurd (cc)

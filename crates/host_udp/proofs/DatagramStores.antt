-- The calls on the datagram streams of a UDP socket: what they make of the store, and the network sockets that it knows.
use Rattle.std.specs.Borrow.{MutBor}
use Rattle.std.specs.Prelude.{OnErr}
use Rattle.std.specs.declared.alloc.AllocError.{AllocError}
use Rattle.std.proofs.Common.{◌≡◌, ℕ, Bool, true, false, not, ◌&&◌, List, Option, Some, None, Result, Ok, Err, refl, sym, ap, subst, ◌∙◌}
use Rattle.wasi_world.specs.declared.ids.Ids.{Ids}
use Rattle.wasi_world.specs.declared.outcome.Answer.{Answer}
use Rattle.wasi_world.specs.declared.outcome.TrapKind.TheVariants.{NoSuchHandle}
use Rattle.wasi_world.specs.Asks.{Asks, Give, AsksFor}
use Rattle.wasi_world.specs.Seen.{Seen}
use Rattle.udp_records.specs.declared.datagrams.Outgoing.{Outgoing}
use Rattle.wasi_jobs.specs.declared.job.HostJob.{HostJob}
use Rattle.wasi_jobs.specs.declared.job.HostJob.TheVariants.{Receive}
use Rattle.wasi_records.specs.declared.records.Record.{Record}
use Rattle.host_store.specs.declared.store.StandingCall.{StandingCall}
use Rattle.udp_records.specs.declared.udp.OpenUdp.{OpenUdp}
use Rattle.host_udp.specs.DatagramCalls.{StoreLost, StoreLoses, check_send_by, incoming_looked, with_receive}
use Rattle.record_common.specs.Stops.{SocketError, Trap, host_outcome}
use Rattle.host_store.specs.Jobs.{jobs_with, with_job}
use Rattle.udp_records.specs.Receiving.{StreamLoses, receives}
use Rattle.wasi_records.specs.Records.{open_at, open_put}
use Rattle.host_store.specs.KnownSides.{KnowsSides}
use Rattle.record_common.specs.Sides.{MakesNone}
use Rattle.wasi_records.specs.Sides.{held_in}
use Rattle.host_store.specs.Standing.{stood}
use Rattle.host_store.specs.Store.{Records, with_open_udp}
use Rattle.host_store.proofs.JobLists.{with_job_is}
use Rattle.host_store.proofs.KnownSides.{knows_none, knows_same, knows_stood}
use Rattle.udp_records.proofs.ReceiveLists.{err_then, nothing_lost, on_err}
use Rattle.wasi_records.proofs.UdpLookups.{open_found, open_back, held_in-open}

-- == the network sockets
-- a call on the socket made none and closed none
pub knows_open : {s t : Seen} (store : Records) (place : ℕ) (x : MutBor OpenUdp) (now : OpenUdp) → Some x.now ≡ open_at store.records place → now.inner.side ≡ x.now.inner.side → MakesNone s t → KnowsSides s store → KnowsSides t (with_open_udp store place now)
knows_open store place x now e same n k = knows_none store (with_open_udp store place now) n (held_in-open store.records place x.now now (open_found store.records place x e) same) k

-- and it is pending, or done
pub knows_open-stood : {s t : Seen} (store after : Records) (place : ℕ) (x : MutBor OpenUdp) (now : OpenUdp) (ids : Ids) (call : StandingCall) (answer told : Answer (Unit {0})) → (told, after) ≡ stood (with_open_udp store place now) ids call answer → Some x.now ≡ open_at store.records place → now.inner.side ≡ x.now.inner.side → MakesNone s t → KnowsSides s store → KnowsSides t after
knows_open-stood store after place x now ids call answer told h e same n k = knows_stood (with_open_udp store place now) after ids call answer told h (knows_open store place x now e same n k)

-- a socket that was looked up and given back as it was
pub knows_back : {s : Seen} (store : Records) (place : ℕ) (x : MutBor OpenUdp) → Some x.now ≡ open_at store.records place → KnowsSides s store → KnowsSides s (with_open_udp store place x.now)
knows_back store place x e k = knows_same store (with_open_udp store place x.now) (ap held_in (open_back store.records place x e)) k

-- or changed, while nothing was asked
pub knows_put : {s : Seen} (store : Records) (place : ℕ) (x : MutBor OpenUdp) (now : OpenUdp) → Some x.now ≡ open_at store.records place → now.inner.side ≡ x.now.inner.side → KnowsSides s store → KnowsSides s (with_open_udp store place now)
knows_put store place x now e same k = knows_same store (with_open_udp store place now) (held_in-open store.records place x.now now (open_found store.records place x e) same) k

-- == the store
pub given_back : (store : Records) (place : ℕ) (x : MutBor OpenUdp) → Some x.now ≡ open_at store.records place → with_open_udp store place x.now ≡ store
given_back store place x e = ap (λ (l : List Record). let r : Records = record store { records = l } in r) (open_back store.records place x e)

-- the same store in other words
pub asks_as : {S T : Type 0} {asks : Asks (T × S)} {s t : Seen} {r : Result T AllocError} {x y : S} → x ≡ y → AsksFor asks s t (λ (v : T). (v, x)) r → AsksFor asks s t (λ (v : T). (v, y)) r
asks_as {S} {T} {asks} {s} {t} {r} e h = let P : S → Type 0 = λ z. AsksFor asks s t (λ (v : T). (v, z)) r in subst P e h

-- a job that is noted, where one began
pub job_noted : (store : Records) (place : ℕ) (now : OpenUdp) (job : HostJob) (b begins : Bool) (kept jobs : List HostJob) → jobs ≡ jobs_with kept job b → kept ≡ store.jobs → b ≡ begins
    → with_job (with_open_udp store place now) job begins ≡ record { records = open_put store.records place now; jobs = jobs; standing = store.standing; beside = store.beside; limits = store.limits }
job_noted store place now job b begins kept jobs h k e =
    with_job_is (with_open_udp store place now) job begins
    ∙ ap (λ (l : List HostJob). let r : Records = record { records = open_put store.records place now; jobs = l; standing = store.standing; beside = store.beside; limits = store.limits } in r) (sym (h ∙ (ap (λ (l : List HostJob). jobs_with l job b) k ∙ ap (jobs_with store.jobs job) e)))

-- one began where none was before
pub begins_now : (before now b : Bool) → before ≡ false → b ≡ now → b ≡ (not before && now)
begins_now true now b h e = absurd (cc)
begins_now false now b h e = e

pub begins_none : (before now b : Bool) → before ≡ true → b ≡ false → b ≡ (not before && now)
begins_none true now b h e = e
begins_none false now b h e = absurd (cc)

-- == answers
-- without an outgoing stream nothing is permitted
pub not_permitted : (store : Records) (place : ℕ) (o : OpenUdp) (out : Option Outgoing) → ((x : Outgoing) → out ≡ Some x → ⊥) → check_send_by store place o out ≡ (Err (Trap NoSuchHandle), store)
not_permitted store place o None n = refl
not_permitted store place o (Some x) n = absurd (n x refl)

-- a look at the incoming stream, and the receive that it began
pub looked_so : (store after : Records) (place : ℕ) (o now : OpenUdp) (waits : Bool) → waits ≡ receives now.incoming → with_receive store place o now ≡ after → Give (incoming_looked store place o now) ≡ Give (Ok (not waits), after)
looked_so store after place o now waits e h = rw (e, ← h) refl

-- == what is lost for lack of memory
no_job : (store : Records) (job : HostJob) (b : Bool) → with_job store job (not b && b) ≡ store
no_job store job true = refl
no_job store job false = refl

-- where nothing was asked yet
pub nothing_taken : {T : Type 0} (r : Result T SocketError) (most : ℕ) (ids : Ids) (place : ℕ) (store now : Records) (o : OpenUdp) (s : Seen) → now ≡ with_open_udp store place o → OnErr (host_outcome r) (StoreLoses most ids place store now (Some o) s s)
nothing_taken r most ids place store now o s e = on_err (host_outcome r) (record { left = o; loses = nothing_lost most ids o o.incoming s refl; rest = e ∙ sym (no_job (with_open_udp store place o) (Receive place) (receives o.incoming)) })

-- else what the stream lost
pub taken_lost : {T : Type 0} (s t : Seen) (r : Result T SocketError) (most : ℕ) (ids : Ids) (place : ℕ) (store now : Records) (o left : OpenUdp) → with_receive store place o left ≡ now → OnErr (host_outcome r) (StreamLoses most ids o left o.incoming s t) → OnErr (host_outcome r) (StoreLoses most ids place store now (Some o) s t)
taken_lost s t r most ids place store now o left e h = err_then (host_outcome r) (λ (l : StreamLoses most ids o left o.incoming s t). let lost : StoreLost most ids place store now o s t = record { left = left; loses = l; rest = sym e } in lost) h

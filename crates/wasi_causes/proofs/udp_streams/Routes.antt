-- How a call finds its UDP socket by a number, and what is kept of one that stays.
use Rattle.wasi_causes.proofs.Words.{Asks, Bool, Entry, Err, Give, List, Machine, NoSuchHandle, None, Option, Records, Result, Some, Stop, Trap, [], ap, bind, gives_any}
use Rattle.wasi_causes.proofs.Words.{⊤, false, no_such_handle, not, refl, subst, sym, true, with_job, with_store, ℕ, ◌&&◌, ◌∙◌, ◌≡◌}
use Rattle.wasi_records.specs.Records.{open_at, udp2_at}
use Rattle.udp_records.specs.Udp.{open_of}
use Rattle.host_store.specs.Store.{with_open_udp}
use Rattle.wasi_jobs.specs.declared.job.HostJob.{HostJob}
use Rattle.wasi_records.specs.declared.records.Record.{Record}
use Rattle.udp_records.specs.declared.udp.OpenUdp.{OpenUdp}
use Rattle.udp_records.specs.declared.udp.UdpRecord.TheVariants as udp
use Rattle.wasi_walks.proofs.walks.Udp.{open_is}
use Rattle.wasi_walks.specs.Answered.{open_in}
use Rattle.wasi_causes.proofs.tables.Meets.{Meets, Rows, ends, onto}
use Rattle.wasi_walks.proofs.Places.{put_again, put_finds, udp_sort}

-- == a socket that is put back
pub open_same : (store : Records) (place : ℕ) (o : OpenUdp) → open_at store.records place ≡ Some o → with_open_udp store place o ≡ store
open_same store place o at = ap (λ (rs : List Record). let left : Records = record store { records = rs } in left) (put_again udp_sort store.records place (udp.Open o) (open_is (udp2_at store.records place) o at))

-- a job begins where it wasn't there before
never_both : (b : Bool) → (not b && b) ≡ false
never_both true = refl
never_both false = refl

-- nothing begins that isn't there now
none_begins : (b : Bool) → (not b && false) ≡ false
none_begins true = refl
none_begins false = refl

-- one that has none now begins none
pub jobless : (store : Records) (place : ℕ) (now : OpenUdp) (job : HostJob) (b has : Bool) → has ≡ false → with_job (with_open_udp store place now) job (not b && has) ≡ with_open_udp store place now
jobless store place now job b has none = ap (λ (h : Bool). with_job (with_open_udp store place now) job (not b && h)) none ∙ ap (with_job (with_open_udp store place now) job) (none_begins b)

-- a socket that stays as it was begins none
pub kept_same : (store : Records) (place : ℕ) (o : OpenUdp) (job : HostJob) (b : Bool) → open_at store.records place ≡ Some o → with_job (with_open_udp store place o) job (not b && b) ≡ store
kept_same store place o job b at = ap (with_job (with_open_udp store place o) job) (never_both b) ∙ open_same store place o at

-- one that changes is there, whichever job begins
pub job_there : (store : Records) (place : ℕ) (o now : OpenUdp) (job : HostJob) (b : Bool) → open_at store.records place ≡ Some o → open_at (with_job (with_open_udp store place now) job b).records place ≡ Some now
job_there store place o now job b at = by_job b
  where
    there : open_at (with_open_udp store place now).records place ≡ Some now
    there = ap open_of (put_finds udp_sort store.records place (udp.Open o) (udp.Open now) (open_is (udp2_at store.records place) o at))

    by_job : (b : Bool) → open_at (with_job (with_open_udp store place now) job b).records place ≡ Some now
    by_job true = there
    by_job false = there

-- == the socket of a number
pub on_open : {B : Type 0} {Row : Rows B} (m : Machine) (number : Option ℕ) (on : Option ℕ → Asks B) (call : ℕ → Option OpenUdp → Asks B) → ((place : ℕ) → on (Some place) ≡ call place (open_at m.store.records place))
    → (open_in m number ≡ None → Meets Row [] (on None)) → (open_in m number ≡ None → (place : ℕ) → Meets Row [] (call place None)) → ((place : ℕ) (o : OpenUdp) → number ≡ Some place → open_at m.store.records place ≡ Some o → Meets Row [] (call place (Some o)))
    → Meets Row [] (on number)
on_open {B} {Row} m number on call calls none lost rows = by_number number refl
  where
    by_place : (place : ℕ) (o : Option OpenUdp) → number ≡ Some place → open_at m.store.records place ≡ o → Meets Row [] (call place o)
    by_place place None names at = lost (ap (open_in m) names ∙ at) place
    by_place place (Some o) names at = rows place o names at

    by_number : (o : Option ℕ) → number ≡ o → Meets Row [] (on o)
    by_number None names = none (ap (open_in m) names)
    by_number (Some place) names = subst (Meets Row []) (sym (calls place)) (by_place place (open_at m.store.records place) names refl)

-- a call on it, which traps where there is none
pub on_open_record : {A : Type 0} {Row : Rows (Result A Stop × Machine)} (m : Machine) (number : Option ℕ) (on : Option ℕ → Asks (Result A Stop × Machine)) (call : ℕ → Option OpenUdp → Asks (Result A Stop × Records))
    → on None ≡ no_such_handle m → ((place : ℕ) → on (Some place) ≡ bind (call place (open_at m.store.records place)) (λ done. Give (with_store m done))) → ((place : ℕ) → call place None ≡ Give (Err (Trap NoSuchHandle), m.store))
    → (open_in m number ≡ None → Row [] (Err (Trap NoSuchHandle), m)) → ((place : ℕ) (o : OpenUdp) → number ≡ Some place → open_at m.store.records place ≡ Some o → Meets (λ es done. Row es (with_store m done)) [] (call place (Some o))) → Meets Row [] (on number)
on_open_record {A} {Row} m number on call gone calls lost missing rows =
    on_open m number on (λ place o. bind (call place o) (λ done. Give (with_store m done))) calls (λ none. subst (Meets Row []) (sym gone) (ends (missing none)))
    (λ none place. onto _ (subst (Meets (λ es done. Row es (with_store m done)) []) (sym (lost place)) (ends (missing none)))) (λ place o names at. onto _ (rows place o names at))

-- whatever is given, after these entries
pub any_at : {A : Type 0} (es : List Entry) (first : Asks A) → Meets (λ fs a. ⊤) es first
any_at es first = record { along = gives_any (λ fs a. ⊤) (λ fs a. tt) es first }

-- The jobs of a store where some end, and where one begins on a record that is there.
use Rattle.wasi_walks.proofs.Words.{Bool, List, Option, Some, TcpRecord, [], false, if◌then◌else◌, inl, inr, slice_get, subst, true, ℕ, ◌++◌, ◌∷◌, ◌≡◌, ◌⊎◌}
use Rattle.std.specs.Prelude.{is_some, not, ◌&&◌}
use Rattle.host_udp.specs.UdpCancels.{is_datagram_on, other_than_datagram}
use Rattle.tcp_records.specs.Halves.{begins_job, has_job}
use Rattle.host_store.specs.Jobs.{is_receive_on, jobs_with, other_than_receive}
use Rattle.wasi_records.specs.Records.{lookup_of, tcp2_at, tcp2_of, udp2_of}
use Rattle.wasi_jobs.specs.declared.job.HostJob.{HostJob}
use Rattle.wasi_records.specs.declared.records.Record.{Record}
use Rattle.wasi_records.specs.declared.records.Record.TheVariants.{Lookup as LookupRecord, Tcp, Udp}
use Rattle.udp_records.specs.declared.udp.UdpRecord.{UdpRecord}
use Rattle.wasi_walks.specs.Licence.{Has}
use Rattle.wasi_walks.proofs.Lists.{has_split}
use Rattle.wasi_walks.proofs.walks.Moves.{IsRecord, KeepsJobs, job_place}

-- == what is a record
pub udp_is_record : (o : Option Record) (u : UdpRecord) → udp2_of o ≡ Some u → IsRecord o
udp_is_record (Some (Udp x)) u e = tt
udp_is_record _ u e = absurd (cc)

pub lookup_is_record : (o : Option Record) → is_some (lookup_of o) ≡ true → IsRecord o
lookup_is_record (Some (LookupRecord l)) e = tt
lookup_is_record _ e = absurd (cc)

-- one that has a job is there
with_job_is_record : (o : Option Record) → has_job (tcp2_of o) ≡ true → IsRecord o
with_job_is_record (Some (Tcp x)) e = tt
with_job_is_record _ e = absurd (cc)

second : (a b : Bool) → not a && b ≡ true → b ≡ true
second true b e = absurd (cc)
second false b e = e

pub begun_is_record : (records : List Record) (place : ℕ) (before : Option TcpRecord) → begins_job before (tcp2_at records place) ≡ true → IsRecord (slice_get records place)
begun_is_record records place before e = with_job_is_record (slice_get records place) (second (has_job before) (has_job (tcp2_at records place)) e)

-- == one begins, or some end
pub one_begins : (records : List Record) (jobs : List HostJob) (job : HostJob) → IsRecord (slice_get records (job_place job)) → KeepsJobs records jobs (jobs ++ job ∷ [])
one_begins records jobs job there other l = elim (has_split jobs job other l) [ inl was ↦ inl was | inr is ↦ inr (subst (λ (x : HostJob). IsRecord (slice_get records (job_place x))) is there) ]

pub may_begin_one : (records : List Record) (jobs : List HostJob) (job : HostJob) (begins : Bool) → IsRecord (slice_get records (job_place job)) → KeepsJobs records jobs (jobs_with jobs job begins)
may_begin_one records jobs job true there = one_begins records jobs job there
may_begin_one records jobs job false there = λ other l. inl l

pub receives_end : (records : List Record) (place : ℕ) (jobs : List HostJob) → KeepsJobs records jobs (other_than_receive place jobs)
receives_end records place [] job l = absurd l
receives_end records place (j ∷ jobs) job l = by_test (is_receive_on place j) (receives_end records place jobs job) l
  where
    by_test : (b : Bool) → (Has (other_than_receive place jobs) job → Has jobs job ⊎ IsRecord (slice_get records (job_place job))) → Has (if b then other_than_receive place jobs else j ∷ other_than_receive place jobs) job → ((j ≡ job) ⊎ Has jobs job) ⊎ IsRecord (slice_get records (job_place job))
    by_test true rest k = elim (rest k) [ inl was ↦ inl (inr was) | inr there ↦ inr there ]
    by_test false rest (inl is) = inl (inl is)
    by_test false rest (inr k) = elim (rest k) [ inl was ↦ inl (inr was) | inr there ↦ inr there ]

pub datagrams_end : (records : List Record) (place : ℕ) (jobs : List HostJob) → KeepsJobs records jobs (other_than_datagram place jobs)
datagrams_end records place [] job l = absurd l
datagrams_end records place (j ∷ jobs) job l = by_test (is_datagram_on place j) (datagrams_end records place jobs job) l
  where
    by_test : (b : Bool) → (Has (other_than_datagram place jobs) job → Has jobs job ⊎ IsRecord (slice_get records (job_place job))) → Has (if b then other_than_datagram place jobs else j ∷ other_than_datagram place jobs) job → ((j ≡ job) ⊎ Has jobs job) ⊎ IsRecord (slice_get records (job_place job))
    by_test true rest k = elim (rest k) [ inl was ↦ inl (inr was) | inr there ↦ inr there ]
    by_test false rest (inl is) = inl (inl is)
    by_test false rest (inr k) = elim (rest k) [ inl was ↦ inl (inr was) | inr there ↦ inr there ]

-- what a turn keeps was there
pub one_turned : (all kept : List HostJob) (job : HostJob) (going : Bool) → ((j : HostJob) → Has kept j → Has all j) → Has all job → (j : HostJob) → Has (jobs_with kept job going) j → Has all j
one_turned all kept job true before here j l = elim (has_split kept job j l) [ inl was ↦ before j was | inr is ↦ subst (Has all) is here ]
one_turned all kept job false before here j l = before j l

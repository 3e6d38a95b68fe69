-- What is left of a record that is given back, by what was known of it, and what of the others is as it was.
use Rattle.wasi_walks.proofs.Places.{udp_sort}
use Rattle.std.proofs.Common.{[], suc, zero, slice_set}
use Rattle.wasi_causes.proofs.Words.{Bool, List, Machine, None, OpId, Some, ap, false, if◌then◌else◌, inl, inr, refl, slice_get, sym, true, ℕ, ◌∙◌, ◌≡◌, ◌∷◌}
use Rattle.wasi_causes.specs.GivenUp.{giving_back}
use Rattle.wasi_walks.specs.Licence.{Has}
use Rattle.wasi_jobs.specs.declared.job.HostJob.{HostJob}
use Rattle.host_store.specs.GivingBack.{is_on, other_jobs}
use Rattle.wasi_records.specs.Numbered.{record_gone}
use Rattle.wasi_records.specs.Records.{input_pipe_at, input_pipe_of, lookup_at, lookup_of, output_pipe_at, output_pipe_of, tcp2_at, tcp2_of, udp2_at, udp2_of}
use Rattle.wasi_records.specs.Records.{slot_at, slot_of}
use Rattle.wasi_records.specs.declared.records.Record.{Record}
use Rattle.udp_records.specs.declared.udp.OpenUdp.{OpenUdp}
use Rattle.udp_records.specs.declared.udp.UdpRecord.{UdpRecord}
use Rattle.wasi_walks.proofs.GoneLists.{stays_there}
use Rattle.wasi_walks.proofs.walks.Moves.{Here, IsLeft, OfInput, OfLookup, OfOutput, OfSlot, OfTcp, OfUdp, OfUnnamed}

-- a UDP socket is given back where it is closed
pub left_udp : (h : Here) (place : ℕ) → IsLeft h place → (u : UdpRecord) → udp2_at h.machine.store.records place ≡ Some u → (side : OpId) × (u ≡ UdpRecord.Closed side)
left_udp h place (OfUdp side g) u e = (side, cc)
left_udp h place (OfTcp q made g) u e = let n : tcp2_at h.machine.store.records place ≡ None = ap tcp2_of (udp_sort.it (slice_get h.machine.store.records place) u e) in absurd (cc)
left_udp h place (OfLookup l made g) u e = let n : lookup_at h.machine.store.records place ≡ None = ap lookup_of (udp_sort.it (slice_get h.machine.store.records place) u e) in absurd (cc)
left_udp h place (OfUnnamed l made g) u e = let n : lookup_at h.machine.store.records place ≡ None = ap lookup_of (udp_sort.it (slice_get h.machine.store.records place) u e) in absurd (cc)
left_udp h place (OfSlot s made g) u e = let n : slot_at h.machine.store.records place ≡ None = ap slot_of (udp_sort.it (slice_get h.machine.store.records place) u e) in absurd (cc)
left_udp h place (OfInput bytes made g) u e = let n : input_pipe_at h.machine.store.records place ≡ None = ap input_pipe_of (udp_sort.it (slice_get h.machine.store.records place) u e) in absurd (cc)
left_udp h place (OfOutput pipe made g) u e = let n : output_pipe_at h.machine.store.records place ≡ None = ap output_pipe_of (udp_sort.it (slice_get h.machine.store.records place) u e) in absurd (cc)

-- so one that is open stays
pub open_stays : (h : Here) (place : ℕ) → IsLeft h place → (k : ℕ) (o : OpenUdp) → udp2_at h.machine.store.records k ≡ Some (UdpRecord.Open o) → udp2_at (record_gone h.machine.store.records place) k ≡ Some (UdpRecord.Open o)
open_stays h place left k o e = stays_there udp2_of h.machine.store.records place k (UdpRecord.Open o) (λ same. let c = left_udp h place left (UdpRecord.Open o) (ap (udp2_at h.machine.store.records) (sym same) ∙ e) in let never = c.1 in absurd (cc)) e

-- what is put where the record is given back is gone with it
gone_put : (xs : List Record) (i : ℕ) (x : Record) → record_gone (slice_set xs i x) i ≡ record_gone xs i
gone_put [] i x = refl
gone_put (z ∷ xs) zero x = refl
gone_put (z ∷ xs) (suc i) x = ap (λ (ys : List Record). z ∷ ys) (gone_put xs i x)

pub put_gone : (m : Machine) (place : ℕ) (x : Record) → giving_back (record m { store = record m.store { records = slice_set m.store.records place x } }) place ≡ giving_back m place
put_gone m place x = ap (λ (rs : List Record). let after : Machine = record m { store = record m.store { records = rs; jobs = other_jobs place m.store.jobs } } in after) (gone_put m.store.records place x)

-- the record that was there
pub gone_at : (xs : List Record) (i : ℕ) (u : UdpRecord) → udp2_at xs i ≡ Some u → slice_get (record_gone xs i) i ≡ Some Record.Gone
gone_at [] i u e = absurd (cc)
gone_at (z ∷ xs) zero u e = refl
gone_at (z ∷ xs) (suc i) u e = gone_at xs i u e

-- and no job of it is left
pub no_job : (place : ℕ) (jobs : List HostJob) (job : HostJob) → Has (other_jobs place jobs) job → is_on place job ≡ true → ⊥
no_job place [] job h on = h
no_job place (j ∷ jobs) job h on = by_same (is_on place j) refl (λ k. no_job place jobs job k on) h
  where
    by_same : (same : Bool) → is_on place j ≡ same → (Has (other_jobs place jobs) job → ⊥) → Has (if same then other_jobs place jobs else j ∷ other_jobs place jobs) job → ⊥
    by_same true e rest k = rest k
    by_same false e rest (inl is) = let k : is_on place j ≡ true = ap (is_on place) is ∙ on in cc
    by_same false e rest (inr k) = rest k

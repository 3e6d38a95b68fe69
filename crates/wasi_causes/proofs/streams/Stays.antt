-- What a turn leaves of sockets, of the streams of connections, and of pipes.
use Rattle.wasi_causes.proofs.Words.{◌≡◌, ◌∙◌, ℕ, List, [], ◌∷◌, Option, Some, None, IsSome, inl, inr, refl, sym, subst, ap, Machine, Streams, TcpRecord, streams_in, turn_asks, turn_at, turn_job, turn_jobs, turn_machine_asks, turned}
use Rattle.udp_records.specs.Datagrams.{turn_outgoing}
use Rattle.host_store.specs.Jobs.{turn_datagram_at, turn_receive_at}
use Rattle.lookup_records.specs.NameLookup.{turn_lookup}
use Rattle.wasi_records.specs.Records.{turn_lookup_at}
use Rattle.udp_records.specs.Receiving.{turn_incoming}
use Rattle.wasi_records.specs.Records.{input_pipe_at, lookup_at, lookup_put, open_at, open_put, output_pipe_at, tcp2_at, tcp2_put, udp2_at}
use Rattle.udp_records.specs.Udp.{open_of}
use Rattle.wasi_jobs.specs.declared.job.HostJob.{HostJob}
use Rattle.wasi_jobs.specs.declared.job.HostJob.TheVariants as job
use Rattle.lookup_records.specs.declared.name_lookup.Lookup.{Lookup}
use Rattle.wasi_records.specs.declared.records.Record.{Record}
use Rattle.udp_records.specs.declared.udp.OpenUdp.{OpenUdp}
use Rattle.udp_records.specs.declared.udp.UdpRecord.{UdpRecord}
use Rattle.udp_records.specs.declared.udp.UdpRecord.TheVariants.{Open}
use Rattle.wasi_walks.proofs.walks.Udp.{open_is}
use Rattle.wasi_walks.proofs.Places.{input_sort, output_sort}
use Rattle.wasi_causes.proofs.tables.Meets.{Meets, chain, ends, onto, shifted, whatever, widen}
use Rattle.wasi_walks.proofs.Places.{lookup_sort, other_put, put_stays, put_still, tcp_sort, udp_sort}

-- Sockets that are there stay, TCP sockets and open UDP sockets; the connections that have streams have them, and pipes are as they were.
pub record StreamsStay (old now : List Record) : Type 0 where
  pub sockets : (k : ℕ) → IsSome (tcp2_at old k) → IsSome (tcp2_at now k)
  pub opens : (k : ℕ) → IsSome (open_at old k) → IsSome (open_at now k)
  pub streams : (k : ℕ) → IsSome (streams_in (tcp2_at old k)) → IsSome (streams_in (tcp2_at now k))
  pub inputs : (k : ℕ) → input_pipe_at now k ≡ input_pipe_at old k
  pub outputs : (k : ℕ) → output_pipe_at now k ≡ output_pipe_at old k

stay_same : (xs : List Record) → StreamsStay xs xs
stay_same xs = record { sockets = λ k h. h; opens = λ k h. h; streams = λ k h. h; inputs = λ k. refl; outputs = λ k. refl }

stay_then : (one two three : List Record) → StreamsStay one two → StreamsStay two three → StreamsStay one three
stay_then one two three s t = record { sockets = λ k h. t.sockets k (s.sockets k h); opens = λ k h. t.opens k (s.opens k h); streams = λ k h. t.streams k (s.streams k h); inputs = λ k. t.inputs k ∙ s.inputs k; outputs = λ k. t.outputs k ∙ s.outputs k }

-- == one record changes
abbrev KeepsStreams : TcpRecord → TcpRecord → Type 0
KeepsStreams r now = IsSome r.streams → IsSome now.streams

-- the streams of the record at a place, by what that is
streams_by : (o : Option TcpRecord) → IsSome (streams_in o) → (r : TcpRecord) × (o ≡ Some r) × IsSome r.streams
streams_by None h = absurd (cc)
streams_by (Some r) h = (r, refl, h)

-- the record at a place, by what it was
module _ (xs : List Record) (i : ℕ) (r now : TcpRecord) (at : tcp2_at xs i ≡ Some r) where
  socket_by : (k : ℕ) (o : Option TcpRecord) → tcp2_at xs k ≡ o → IsSome o → IsSome (tcp2_at (tcp2_put xs i now) k)
  socket_by k None e h = absurd (cc)
  socket_by k (Some x) e h = elim (put_stays tcp_sort xs i now k x e) [ inl same ↦ subst IsSome (sym same) refl | inr changed ↦ subst IsSome (sym changed.1) refl ]

  open_by : (k : ℕ) (o : Option UdpRecord) → udp2_at xs k ≡ o → IsSome (open_of o) → IsSome (open_at (tcp2_put xs i now) k)
  open_by k None e h = absurd (cc)
  open_by k (Some u) e h =
      subst IsSome (sym (ap open_of (put_still tcp_sort udp_sort (λ t. refl) xs i r now k u at e))) h

module _ (xs : List Record) (i : ℕ) (was now : OpenUdp) (at : udp2_at xs i ≡ Some (Open was)) where
  socket_too : (k : ℕ) (o : Option TcpRecord) → tcp2_at xs k ≡ o → IsSome o → IsSome (tcp2_at (open_put xs i now) k)
  socket_too k None e h = absurd (cc)
  socket_too k (Some x) e h =
      subst IsSome (sym (put_still udp_sort tcp_sort (λ t. refl) xs i (Open was) (Open now) k x at e)) refl

  open_too : (k : ℕ) (o : Option UdpRecord) → udp2_at xs k ≡ o → IsSome (open_of o) → IsSome (open_at (open_put xs i now) k)
  open_too k None e h = absurd (cc)
  open_too k (Some u) e h = elim (put_stays udp_sort xs i (Open now) k u e) [ inl same ↦ subst IsSome (sym (ap open_of same)) h | inr changed ↦ subst IsSome (sym (ap open_of changed.1)) refl ]

tcp_put : (xs : List Record) (i : ℕ) (r now : TcpRecord) → tcp2_at xs i ≡ Some r → KeepsStreams r now → StreamsStay xs (tcp2_put xs i now)
tcp_put xs i r now at keeps = record {
  sockets = λ k. socket_by xs i r now at k (tcp2_at xs k) refl;
  opens = λ k. open_by xs i r now at k (udp2_at xs k) refl;
  streams = λ k h.
      let found = streams_by (tcp2_at xs k) h in
      elim (put_stays tcp_sort xs i now k found.0 found.1) [
        | inl e ↦ subst (λ (o : Option TcpRecord). IsSome (streams_in o)) (sym e) found.2
        | inr e ↦ let same : r ≡ found.0 = its (sym at ∙ (ap (tcp2_at xs) (sym e.0) ∙ found.1)) in subst (λ (o : Option TcpRecord). IsSome (streams_in o)) (sym e.1) (keeps (subst (λ (x : TcpRecord). IsSome x.streams) (sym same) found.2))
      ];
  inputs = λ k. other_put tcp_sort input_sort (λ t. refl) xs i r now k at;
  outputs = λ k. other_put tcp_sort output_sort (λ t. refl) xs i r now k at;
}
  where
    its : {x y : TcpRecord} → Some x ≡ Some y → x ≡ y
    its e = cc

udp_put : (xs : List Record) (i : ℕ) (o now : OpenUdp) → open_at xs i ≡ Some o → StreamsStay xs (open_put xs i now)
udp_put xs i o now at = record {
  sockets = λ k. socket_too xs i o now (open_is (udp2_at xs i) o at) k (tcp2_at xs k) refl;
  opens = λ k. open_too xs i o now (open_is (udp2_at xs i) o at) k (udp2_at xs k) refl;
  streams = λ k h. let found = streams_by (tcp2_at xs k) h in subst (λ (x : Option TcpRecord). IsSome (streams_in x)) (sym (put_still udp_sort tcp_sort (λ t. refl) xs i (Open o) (Open now) k found.0 (open_is (udp2_at xs i) o at) found.1)) found.2;
  inputs = λ k. other_put udp_sort input_sort (λ t. refl) xs i (Open o) (Open now) k (open_is (udp2_at xs i) o at);
  outputs = λ k. other_put udp_sort output_sort (λ t. refl) xs i (Open o) (Open now) k (open_is (udp2_at xs i) o at);
}

put_lookup : (xs : List Record) (i : ℕ) (l now : Lookup) → lookup_at xs i ≡ Some l → StreamsStay xs (lookup_put xs i now)
put_lookup xs i l now at = record {
  sockets = λ k h. subst IsSome (sym (other_put lookup_sort tcp_sort (λ t. refl) xs i l now k at)) h;
  opens = λ k h. subst IsSome (sym (ap open_of (other_put lookup_sort udp_sort (λ t. refl) xs i l now k at))) h;
  streams = λ k h. subst (λ (o : Option TcpRecord). IsSome (streams_in o)) (sym (other_put lookup_sort tcp_sort (λ t. refl) xs i l now k at)) h;
  inputs = λ k. other_put lookup_sort input_sort (λ t. refl) xs i l now k at;
  outputs = λ k. other_put lookup_sort output_sort (λ t. refl) xs i l now k at;
}

-- == a job
record_stays : (r : TcpRecord) (o : Option Streams) → r.streams ≡ o → Meets (λ es now. KeepsStreams r now) [] (turned r o)
record_stays r None has = ends (λ h. h)
record_stays r (Some s) has = onto _ (widen (λ es done k. λ h. refl) (whatever (turn_asks s.writer)))

write_stays : (xs : List Record) (place : ℕ) (o : Option TcpRecord) → tcp2_at xs place ≡ o → Meets (λ es now. StreamsStay xs now) [] (turn_at xs place o)
write_stays xs place None at = ends (stay_same xs)
write_stays xs place (Some r) at = onto _ (widen (λ es now k. tcp_put xs place r now at k) (record_stays r r.streams refl))

datagram_stays : (xs : List Record) (place : ℕ) (o : Option OpenUdp) → open_at xs place ≡ o → Meets (λ es now. StreamsStay xs now) [] (turn_datagram_at xs place o)
datagram_stays xs place None at = ends (stay_same xs)
datagram_stays xs place (Some o) at = onto _ (widen (λ es now k. udp_put xs place o now at) (whatever (turn_outgoing o o.outgoing)))

receive_stays : (xs : List Record) (place : ℕ) (o : Option OpenUdp) → open_at xs place ≡ o → Meets (λ es now. StreamsStay xs now) [] (turn_receive_at xs place o)
receive_stays xs place None at = ends (stay_same xs)
receive_stays xs place (Some o) at = onto _ (widen (λ es now k. udp_put xs place o now at) (whatever (turn_incoming o o.incoming)))

lookup_stays : (xs : List Record) (place : ℕ) (o : Option Lookup) → lookup_at xs place ≡ o → Meets (λ es now. StreamsStay xs now) [] (turn_lookup_at xs place o)
lookup_stays xs place None at = ends (stay_same xs)
lookup_stays xs place (Some l) at = onto _ (widen (λ es now k. put_lookup xs place l now at) (whatever (turn_lookup l)))

job_stays : (xs : List Record) (its : HostJob) → Meets (λ es now. StreamsStay xs now) [] (turn_job xs its)
job_stays xs (job.Write place) = write_stays xs place (tcp2_at xs place) refl
job_stays xs (job.Datagram place) = datagram_stays xs place (open_at xs place) refl
job_stays xs (job.Receive place) = receive_stays xs place (open_at xs place) refl
job_stays xs (job.Lookup place) = lookup_stays xs place (lookup_at xs place) refl

-- == all of them
jobs_stay : (kept jobs : List HostJob) (xs : List Record) → Meets (λ es done. StreamsStay xs done.1) [] (turn_jobs kept jobs xs)
jobs_stay kept [] xs = ends (stay_same xs)
jobs_stay kept (its ∷ jobs) xs = chain {Mid = λ es now. StreamsStay xs now} (job_stays xs its) (λ es now k. widen (λ fs done a. stay_then xs now done.1 k a.row) (shifted es (jobs_stay _ jobs now)))

pub streams_turned : (m : Machine) → Meets (λ es done. StreamsStay m.store.records done.1.store.records) [] (turn_machine_asks m)
streams_turned m = onto _ (onto _ (jobs_stay [] m.store.jobs m.store.records))

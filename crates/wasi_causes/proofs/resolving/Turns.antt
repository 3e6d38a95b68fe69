-- What a turn leaves of the lookups.
use Rattle.wasi_causes.proofs.Words.{Entry, List, Machine, None, Option, Some, TcpRecord, Told, [], bind, inl, inr, refl, subst, sym, turn_at, turn_job, turn_jobs, turn_machine_asks, turn_record, ℕ, ◌++◌, ◌∙◌, ◌∷◌, ◌≡◌}
use Rattle.wasi_world.specs.Fits.{IsNames}
use Rattle.wasi_world.specs.Typed.{told_names}
use Rattle.wasi_world.specs.declared.call.Told.TheVariants as told
use Rattle.udp_records.specs.Datagrams.{turn_outgoing}
use Rattle.host_store.specs.Jobs.{turn_datagram_at, turn_receive_at}
use Rattle.lookup_records.specs.NameLookup.{lookup_told, turn_lookup}
use Rattle.wasi_records.specs.Records.{turn_lookup_at}
use Rattle.udp_records.specs.Receiving.{turn_incoming}
use Rattle.wasi_records.specs.Records.{lookup_at, lookup_put, open_at, open_put, tcp2_at, tcp2_put, udp2_at}
use Rattle.wasi_jobs.specs.declared.job.HostJob.{HostJob}
use Rattle.wasi_jobs.specs.declared.job.HostJob.TheVariants as job
use Rattle.lookup_records.specs.declared.name_lookup.Lookup.{Lookup}
use Rattle.lookup_records.specs.declared.name_lookup.Lookup.TheVariants.{InProgress, Found, Failed}
use Rattle.lookup_records.specs.declared.name_lookup.LookupOp.{LookupOp}
use Rattle.wasi_records.specs.declared.records.Record.{Record}
use Rattle.udp_records.specs.declared.udp.OpenUdp.{OpenUdp}
use Rattle.udp_records.specs.declared.udp.UdpRecord.TheVariants.{Open}
use Rattle.wasi_walks.proofs.Lists.{has_front, has_last}
use Rattle.wasi_walks.proofs.walks.Udp.{open_is}
use Rattle.wasi_causes.proofs.tables.Meets.{Meets, Rows, asks, chain, ends, onto, shifted, whatever, widen}
use Rattle.wasi_causes.specs.Lookups.{IsAsItWas, LookedOn, TurnToldCode, TurnToldNames, lookup_entry}
use Rattle.wasi_walks.proofs.Places.{lookup_sort, other_put, put_again, put_found, tcp_sort, udp_sort}

module _ (m : Machine) where
  -- each lookup among these records is as the entries say
  abbrev LooksSo : Rows (List Record)
  LooksSo es records = (place : ℕ) (l : Lookup) → lookup_at records place ≡ Some l → LookedOn m place es l

  -- more was asked since
  longer : (es rest : List Entry) (place : ℕ) (l : Lookup) → LookedOn m place es l → LookedOn m place (es ++ rest) l
  longer es rest place l (IsAsItWas _ at) = IsAsItWas l at
  longer es rest place _ (TurnToldNames op names at has) = TurnToldNames op names at (has_front es rest _ has)
  longer es rest place _ (TurnToldCode op code at has) = TurnToldCode op code at (has_front es rest _ has)

  -- one that is in progress was so before
  was_so : (es : List Entry) (place : ℕ) (op : LookupOp) → LookedOn m place es (InProgress op) → lookup_at m.store.records place ≡ Some (InProgress op)
  was_so es place op (IsAsItWas _ at) = at

  -- == a job of a socket
  of_others : (es fs rest : List Entry) (records now : List Record) → fs ≡ es ++ rest → ((k : ℕ) → lookup_at now k ≡ lookup_at records k) → LooksSo es records → LooksSo fs now
  of_others es fs rest records now cut same so place l at = subst (λ (gs : List Entry). LookedOn m place gs l) (sym cut) (longer es rest place l (so place l (sym (same place) ∙ at)))

  write_so : (records : List Record) (place : ℕ) (o : Option TcpRecord) → tcp2_at records place ≡ o → (es : List Entry) → LooksSo es records → Meets LooksSo es (turn_at records place o)
  write_so records place None at es so = ends so
  write_so records place (Some r) at es so = onto _ (widen (λ fs now k. of_others es fs k.rest records (tcp2_put records place now) k.cut (λ i. other_put tcp_sort lookup_sort (λ t. refl) records place r now i at) so) (shifted es (whatever (turn_record r))))

  datagram_so : (records : List Record) (place : ℕ) (o : Option OpenUdp) → open_at records place ≡ o → (es : List Entry) → LooksSo es records → Meets LooksSo es (turn_datagram_at records place o)
  datagram_so records place None at es so = ends so
  datagram_so records place (Some o) at es so = onto _ (widen (λ fs now k. of_others es fs k.rest records (open_put records place now) k.cut (λ i. other_put udp_sort lookup_sort (λ t. refl) records place (Open o) (Open now) i (open_is (udp2_at records place) o at)) so) (shifted es (whatever (turn_outgoing o o.outgoing))))

  receive_so : (records : List Record) (place : ℕ) (o : Option OpenUdp) → open_at records place ≡ o → (es : List Entry) → LooksSo es records → Meets LooksSo es (turn_receive_at records place o)
  receive_so records place None at es so = ends so
  receive_so records place (Some o) at es so = onto _ (widen (λ fs now k. of_others es fs k.rest records (open_put records place now) k.cut (λ i. other_put udp_sort lookup_sort (λ t. refl) records place (Open o) (Open now) i (open_is (udp2_at records place) o at)) so) (shifted es (whatever (turn_incoming o o.incoming))))

  -- == that of a lookup
  module _ (records : List Record) (place : ℕ) (es : List Entry) (so : LooksSo es records) where
    -- what it was told
    its_now : (op : LookupOp) → lookup_at records place ≡ Some (InProgress op) → (t : Told) → IsNames t → LookedOn m place (es ++ lookup_entry op.id op.host t ∷ []) (lookup_told op (told_names t))
    its_now op at told.Pending fits = IsAsItWas (InProgress op) (was_so es place op (so place (InProgress op) at))
    its_now op at (told.Names names) fits = TurnToldNames op names (was_so es place op (so place (InProgress op) at)) (has_last es (lookup_entry op.id op.host (told.Names names)))
    its_now op at (told.Code code) fits = TurnToldCode op code (was_so es place op (so place (InProgress op) at)) (has_last es (lookup_entry op.id op.host (told.Code code)))
    its_now op at _ fits = absurd fits

    told_so : (op : LookupOp) → lookup_at records place ≡ Some (InProgress op) → (t : Told) → IsNames t → LooksSo (es ++ lookup_entry op.id op.host t ∷ []) (lookup_put records place (lookup_told op (told_names t)))
    told_so op at t fits k l e = elim (put_found lookup_sort records place (lookup_told op (told_names t)) k l e) [
      | inl p ↦ rw (p.0, sym p.1) (its_now op at t fits)
      | inr p ↦ longer es (lookup_entry op.id op.host t ∷ []) k l (so k l p)
    ]

    looked : (l : Lookup) → lookup_at records place ≡ Some l → Meets (λ fs now. LooksSo fs (lookup_put records place now)) es (turn_lookup l)
    unfolding bind
    looked (InProgress op) at = asks (λ t fits. ends (told_so op at t fits))
    looked (Found left) at = ends (subst (LooksSo es) (sym (put_again lookup_sort records place (Found left) at)) so)
    looked Failed at = ends (subst (LooksSo es) (sym (put_again lookup_sort records place Failed at)) so)

    lookup_so : (o : Option Lookup) → lookup_at records place ≡ o → Meets LooksSo es (turn_lookup_at records place o)
    lookup_so None at = ends so
    lookup_so (Some l) at = onto _ (looked l at)

  -- == all of them
  job_so : (its : HostJob) (records : List Record) (es : List Entry) → LooksSo es records → Meets LooksSo es (turn_job records its)
  job_so (job.Write place) records es so = write_so records place (tcp2_at records place) refl es so
  job_so (job.Datagram place) records es so = datagram_so records place (open_at records place) refl es so
  job_so (job.Receive place) records es so = receive_so records place (open_at records place) refl es so
  job_so (job.Lookup place) records es so = lookup_so records place es so (lookup_at records place) refl

  jobs_so : (kept jobs : List HostJob) (records : List Record) (es : List Entry) → LooksSo es records → Meets (λ fs done. LooksSo fs done.1) es (turn_jobs kept jobs records)
  jobs_so kept [] records es so = ends so
  jobs_so kept (its ∷ jobs) records es so = chain (job_so its records es so) (λ fs now k. jobs_so _ jobs now fs k)

  pub lookups_turned : Meets (λ es done. LooksSo es done.1.store.records) [] (turn_machine_asks m)
  lookups_turned = onto _ (onto _ (jobs_so [] m.store.jobs m.store.records [] (λ place l at. IsAsItWas l at)))

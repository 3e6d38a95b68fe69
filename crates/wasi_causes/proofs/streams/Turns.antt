-- Who asks in a turn: the writes, the datagrams, the receives and the lookups of the jobs.
use Rattle.wasi_causes.proofs.streams.Stays.{streams_turned}
use Rattle.wasi_causes.proofs.Words.{⊤, ◌≡◌, ℕ, inl, inr, List, [], ◌∷◌, ◌++◌, Option, Some, None, refl, sym, ap, subst, ◌∙◌, OpId, Call, Entry, Told, WasiSocketsCtx, Fits, Give, bind, End, Waits, poll_asks, allows_keep, Allows, allows_then, WriteState, Job, job_in, job_asks, turn_asks, Machine, Streams, TcpRecord, turned, turn_record, turn_at, turn_job, turn_jobs, turn_store_asks, turn_machine_asks, Has, no_fields, has_split, allows_ask}
use Rattle.wasi_causes.proofs.Words.{◌⊎◌, Done, Item, Operation, Records, Refused}
use Rattle.wasi_world.specs.Operation.{Datagram as Received}
use Rattle.wasi_udp.specs.Receive.{wanting}
use Rattle.wasi_udp.specs.Send.{at_remote}
use Rattle.udp_records.specs.Datagrams.{turn_outgoing, turn_sending, turned_left}
use Rattle.host_store.specs.Jobs.{turn_datagram_at, turn_receive_at}
use Rattle.udp_records.specs.Receiving.{receive_left, turn_incoming, turn_receiving}
use Rattle.lookup_records.specs.NameLookup.{lookup_told, turn_lookup}
use Rattle.wasi_records.specs.Records.{turn_lookup_at}
use Rattle.wasi_records.specs.Records.{lookup_at, lookup_put, open_at, open_put, tcp2_at, tcp2_put, udp2_at}
use Rattle.udp_records.specs.Udp.{open_of}
use Rattle.lookup_records.specs.declared.name_lookup.Lookup.{Lookup}
use Rattle.lookup_records.specs.declared.name_lookup.LookupOp.{LookupOp}
use Rattle.udp_records.specs.declared.datagrams.Incoming.{Incoming}
use Rattle.udp_records.specs.declared.datagrams.Outgoing.{Outgoing}
use Rattle.udp_records.specs.declared.datagrams.Receiving.{Receiving}
use Rattle.udp_records.specs.declared.datagrams.Sending.{Sending}
use Rattle.wasi_records.specs.declared.records.Record.{Record}
use Rattle.udp_records.specs.declared.udp.OpenUdp.{OpenUdp}
use Rattle.wasi_jobs.specs.declared.job.HostJob.{HostJob}
use Rattle.wasi_jobs.specs.declared.job.HostJob.TheVariants.{Write, Datagram, Receive, Lookup as LookupJob}
use Rattle.wasi_tcp.specs.declared.writer.WriteState.TheVariants as writing
use Rattle.wasi_steps.specs.declared.reply.Reply.TheVariants as reply
use Rattle.wasi_steps.specs.declared.step.Step.TheVariants as step
use Rattle.wasi_causes.proofs.tables.Meets.{Meets, both, onto, widen}
use Rattle.wasi_causes.proofs.tables.Routes.{Says}
use Rattle.wasi_causes.specs.Turns.{asks_by, datagram_of, incoming_asks_by, IsOfJob, job_of, lookup_of, looks_by, outgoing_asks_by, receive_of, receives_by, sends_by, writer_asks_by, writes_by}
use Rattle.wasi_causes.proofs.operations.Marks.{AnyEnd, poll_asks_by}
use Rattle.wasi_addr.specs.declared.address.IpAddress.{IpAddress}
use Rattle.wasi_world.specs.Typed.{told_names}
use Rattle.wasi_world.specs.declared.asks.Polled.{Polled}
use Rattle.wasi_world.specs.declared.asks.Polled.TheVariants as polled
use Rattle.udp_records.specs.declared.udp.UdpRecord.{UdpRecord}
use Rattle.udp_records.specs.declared.udp.UdpRecord.TheVariants.{Open}
use Rattle.wasi_walks.proofs.walks.Udp.{open_is}
use Rattle.wasi_causes.proofs.resolving.Turns.{lookups_turned}
use Rattle.wasi_walks.proofs.Places.{lookup_sort, other_put, put_either, tcp_sort, udp_sort}

-- == one write
-- it asks by its operation, which stays the same
abbrev JobAsks : Job → List Entry → OpId → Call → Type 0
JobAsks job es op call = op ≡ job.write.who.id

abbrev SameJob : Job → List Entry → Job → Type 0
SameJob job es now = now.write.who.id ≡ job.write.who.id

job_by : (job : Job) (end : End) (es : List Entry) → Allows (JobAsks job) (SameJob job) es (job_in job end)
job_by job Waits es = allows_then (JobAsks job) AnyEnd (SameJob job) es (poll_asks job.write) _ (poll_asks_by job.write es) (λ fs ended any. refl)
job_by job _ es = refl

abbrev WriterAsks : WriteState → List Entry → OpId → Call → Type 0
WriterAsks writer es op call = writes_by writer ≡ Some op

abbrev SameWriter : WriteState → List Entry → Unit {0} × WriteState → Type 0
SameWriter writer es done = writes_by done.1 ≡ writes_by writer

module _ (job : Job) (of : Job → WriteState) (by : (j : Job) → writes_by (of j) ≡ Some j.write.who.id) where
  of_job : (es : List Entry) → Allows (WriterAsks (of job)) (SameWriter (of job)) es (bind (job_asks job) (λ j. Give (tt, of j)))
  of_job es =
      allows_then (WriterAsks (of job)) (SameJob job) (SameWriter (of job)) es (job_asks job) _
      (allows_ask (JobAsks job) (WriterAsks (of job)) (SameJob job) (λ fs op call e. by job ∙ ap Some (sym e)) es (job_asks job) (job_by job job.end es))
      (λ fs j e. by j ∙ (ap Some e ∙ sym (by job)))

writer_by : (writer : WriteState) (es : List Entry) → Allows (WriterAsks writer) (SameWriter writer) es (turn_asks writer)
writer_by (writing.Writing job) es = of_job job writing.Writing (λ j. refl) es
writer_by (writing.Closing job) es = of_job job writing.Closing (λ j. refl) es
writer_by _ es = refl

-- == one record
abbrev RecordAsks : TcpRecord → List Entry → OpId → Call → Type 0
RecordAsks r es op call = job_of (Some r) ≡ Some op

abbrev SameRecord : TcpRecord → List Entry → TcpRecord → Type 0
SameRecord r es now = job_of (Some now) ≡ job_of (Some r)

record_by : (r : TcpRecord) (o : Option Streams) → r.streams ≡ o → (es : List Entry) → Allows (RecordAsks r) (SameRecord r) es (turned r o)
record_by r None has es = refl
record_by r (Some s) has es =
    allows_then (RecordAsks r) (SameWriter s.writer) (SameRecord r) es (turn_asks s.writer) _
    (allows_ask (WriterAsks s.writer) (RecordAsks r) (SameWriter s.writer) (λ fs op call e. ap writer_asks_by has ∙ e) es (turn_asks s.writer) (writer_by s.writer es))
    (λ fs done e. e ∙ sym (ap writer_asks_by has))

-- == the streams of a UDP socket
-- by the same operation as before, or by none any more
abbrev Keeps : Option OpId → Option OpId → Type 0
Keeps now old = (now ≡ old) ⊎ (now ≡ None)

module _ (o : OpenUdp) where
  abbrev SendAsks : List Entry → OpId → Call → Type 0
  SendAsks es op call = datagram_of (Some o) ≡ Some op

  abbrev ReceiveAsks : List Entry → OpId → Call → Type 0
  ReceiveAsks es op call = receive_of (Some o) ≡ Some op

  -- the other stream stays
  abbrev pub KeepsBoth : List Entry → OpenUdp → Type 0
  KeepsBoth es now = Keeps (datagram_of (Some now)) (datagram_of (Some o)) × Keeps (receive_of (Some now)) (receive_of (Some o))

  sent_by : (op : Operation) (end : End × List Item) → Keeps (sends_by (turned_left op end)) (Some op.who.id)
  sent_by op (Waits, items) = inl refl
  sent_by op (Done given, items) = inr refl
  sent_by op (Refused c given, items) = inr refl

  module _ (out : Outgoing) (has : o.outgoing ≡ Some out) where
    abbrev Sent : List Entry → Outgoing → Type 0
    Sent es now = Keeps (sends_by now.sending) (sends_by out.sending)

    sending_by : (s : Sending) → out.sending ≡ s → (es : List Entry) → Allows SendAsks Sent es (turn_sending o.inner out s)
    sending_by (Sending.InProgress op) e es =
        let its : Operation = at_remote o.inner.remote op in
        allows_then SendAsks AnyEnd Sent es (poll_asks its) _
        (allows_ask (λ fs p call. p ≡ op.who.id) SendAsks AnyEnd (λ fs p call q. ap outgoing_asks_by has ∙ (ap sends_by e ∙ ap Some (sym q))) es (poll_asks its) (poll_asks_by its es))
        (λ fs end any. subst (λ (s : Sending). Keeps (sends_by (turned_left op end)) (sends_by s)) (sym e) (sent_by op end))
    sending_by _ e es = inl refl

  datagram_by : (out : Option Outgoing) → o.outgoing ≡ out → (es : List Entry) → Allows SendAsks KeepsBoth es (turn_outgoing o out)
  datagram_by None has es = (inl refl, inl refl)
  datagram_by (Some out) has es = allows_then SendAsks (Sent out has) KeepsBoth es (turn_sending o.inner out out.sending) _ (sending_by out has out.sending refl es) (λ fs now k. (subst (λ (x : Option Outgoing). Keeps (sends_by now.sending) (outgoing_asks_by x)) (sym has) k, inl refl))

  came_by : (op : Operation) (end : End × List Item) → Keeps (receives_by (receive_left op end)) (Some op.who.id)
  came_by op (Waits, items) = inl refl
  came_by op (Done (Received bytes a), items) = inr refl
  came_by op (Done _, items) = inr refl
  came_by op (Refused c given, items) = inr refl

  module _ (inc : Incoming) (has : o.incoming ≡ Some inc) where
    abbrev Taken : List Entry → Incoming → Type 0
    Taken es now = Keeps (receives_by now.receiving) (receives_by inc.receiving)

    receiving_by : (s : Receiving) → inc.receiving ≡ s → (es : List Entry) → Allows ReceiveAsks Taken es (turn_receiving inc s)
    receiving_by (Receiving.InProgress op) e es =
        let its : Operation = wanting inc.remote op in
        allows_then ReceiveAsks AnyEnd Taken es (poll_asks its) _
        (allows_ask (λ fs p call. p ≡ op.who.id) ReceiveAsks AnyEnd (λ fs p call q. ap incoming_asks_by has ∙ (ap receives_by e ∙ ap Some (sym q))) es (poll_asks its) (poll_asks_by its es))
        (λ fs end any. subst (λ (s : Receiving). Keeps (receives_by (receive_left op end)) (receives_by s)) (sym e) (came_by op end))
    receiving_by _ e es = inl refl

  receive_by : (inc : Option Incoming) → o.incoming ≡ inc → (es : List Entry) → Allows ReceiveAsks KeepsBoth es (turn_incoming o inc)
  receive_by None has es = (inl refl, inl refl)
  receive_by (Some inc) has es = allows_then ReceiveAsks (Taken inc has) KeepsBoth es (turn_receiving inc inc.receiving) _ (receiving_by inc has inc.receiving refl es) (λ fs now k. (inl refl, subst (λ (x : Option Incoming). Keeps (receives_by now.receiving) (incoming_asks_by x)) (sym has) k))

-- == one lookup
abbrev LookupAsks : Lookup → List Entry → OpId → Call → Type 0
LookupAsks l es op call = looks_by l ≡ Some op

abbrev KeepsLookup : Lookup → List Entry → Lookup → Type 0
KeepsLookup l es now = Keeps (looks_by now) (looks_by l)

-- it asks once, and is in progress as it was, or not any more
told_by : (op : LookupOp) (told : Polled (List IpAddress)) → Keeps (looks_by (lookup_told op told)) (Some op.id)
told_by op polled.Pending = inl refl
told_by op (polled.Ready names) = inr refl
told_by op (polled.Code c) = inr refl

lookup_by : (l : Lookup) (es : List Entry) → Allows (LookupAsks l) (KeepsLookup l) es (turn_lookup l)
unfolding bind
lookup_by (Lookup.InProgress op) es = (refl, λ told fits. told_by op (told_names told))
lookup_by _ es = inl refl

-- == one record changes
tcp_keeps : (xs : List Record) (i : ℕ) (r y : TcpRecord) → tcp2_at xs i ≡ Some r → job_of (Some y) ≡ job_of (Some r) → (job : HostJob) → asks_by (tcp2_put xs i y) job ≡ asks_by xs job
tcp_keeps xs i r y at same (Write k) = elim (put_either tcp_sort xs i r y k at) [
  | inl e ↦ ap job_of e
  | inr e ↦ ap job_of e.1 ∙ (same ∙ sym (ap job_of e.0))
]
tcp_keeps xs i r y at same (Datagram k) = ap (λ (u : Option UdpRecord). datagram_of (open_of u)) (other_put tcp_sort udp_sort (λ t. refl) xs i r y k at)
tcp_keeps xs i r y at same (Receive k) = ap (λ (u : Option UdpRecord). receive_of (open_of u)) (other_put tcp_sort udp_sort (λ t. refl) xs i r y k at)
tcp_keeps xs i r y at same (LookupJob k) = ap lookup_of (other_put tcp_sort lookup_sort (λ t. refl) xs i r y k at)

-- what is read of a UDP socket
by_change : (of : Option OpenUdp → Option OpId) (xs : List Record) (i : ℕ) (o now : OpenUdp) (k : ℕ) → open_at xs i ≡ Some o → Keeps (of (Some now)) (of (Some o)) → Keeps (of (open_at (open_put xs i now) k)) (of (open_at xs k))
by_change of xs i o now k at kept =
    elim (put_either udp_sort xs i (Open o) (Open now) k (open_is (udp2_at xs i) o at)) [
      | inl e ↦ inl (ap (λ (u : Option UdpRecord). of (open_of u)) e)
      | inr e ↦ rw (e.0, e.1) kept
    ]

udp_keeps : (xs : List Record) (i : ℕ) (o now : OpenUdp) → open_at xs i ≡ Some o → KeepsBoth o [] now → (job : HostJob) → Keeps (asks_by (open_put xs i now) job) (asks_by xs job)
udp_keeps xs i o now at kept (Write k) = inl (ap job_of (other_put udp_sort tcp_sort (λ t. refl) xs i (Open o) (Open now) k (open_is (udp2_at xs i) o at)))
udp_keeps xs i o now at kept (Datagram k) = by_change datagram_of xs i o now k at kept.0
udp_keeps xs i o now at kept (Receive k) = by_change receive_of xs i o now k at kept.1
udp_keeps xs i o now at kept (LookupJob k) = inl (ap lookup_of (other_put udp_sort lookup_sort (λ t. refl) xs i (Open o) (Open now) k (open_is (udp2_at xs i) o at)))

look_keeps : (xs : List Record) (i : ℕ) (l now : Lookup) → lookup_at xs i ≡ Some l → Keeps (looks_by now) (looks_by l) → (job : HostJob) → Keeps (asks_by (lookup_put xs i now) job) (asks_by xs job)
look_keeps xs i l now at kept (Write k) = inl (ap job_of (other_put lookup_sort tcp_sort (λ t. refl) xs i l now k at))
look_keeps xs i l now at kept (Datagram k) = inl (ap (λ (u : Option UdpRecord). datagram_of (open_of u)) (other_put lookup_sort udp_sort (λ t. refl) xs i l now k at))
look_keeps xs i l now at kept (Receive k) = inl (ap (λ (u : Option UdpRecord). receive_of (open_of u)) (other_put lookup_sort udp_sort (λ t. refl) xs i l now k at))
look_keeps xs i l now at kept (LookupJob k) = elim (put_either lookup_sort xs i l now k at) [ inl e ↦ inl (ap lookup_of e) | inr e ↦ rw (e.0, e.1) kept ]

-- == all of them
kept_then : (now mid old : Option OpId) → Keeps now mid → Keeps mid old → Keeps now old
kept_then now mid old (inl e) k = subst (λ (x : Option OpId). Keeps x old) (sym e) k
kept_then now mid old (inr e) k = inr e

-- what still asks does so by the operation by which it asked first
still : (now old : Option OpId) (op : OpId) → Keeps now old → now ≡ Some op → old ≡ Some op
still now old op (inl e) h = sym e ∙ h
still now old op (inr e) h = absurd (cc)

module _ (m : Machine) where
  abbrev TurnAsks : List Entry → OpId → Call → Type 0
  TurnAsks es op call = IsOfJob m op

  -- each job asks by the operation by which it asked first, or is over
  abbrev SameJobs : List Entry → List Record → Type 0
  SameJobs es records = (job : HostJob) → Keeps (asks_by records job) (asks_by m.store.records job)

  of_job_too : (records : List Record) (job : HostJob) (es : List Entry) → Has m.store.jobs job → SameJobs es records → (op : OpId) → asks_by records job ≡ Some op → IsOfJob m op
  of_job_too records job es listed same op e = record { job = job; listed = listed; is = still (asks_by records job) (asks_by m.store.records job) op (same job) e }

  write_by : (records : List Record) (place : ℕ) (o : Option TcpRecord) → tcp2_at records place ≡ o → Has m.store.jobs (Write place) → (es : List Entry) → SameJobs es records → Allows TurnAsks SameJobs es (turn_at records place o)
  write_by records place None at listed es same = same
  write_by records place (Some r) at listed es same =
      allows_then TurnAsks (SameRecord r) SameJobs es (turn_record r) _
      (allows_ask (RecordAsks r) TurnAsks (SameRecord r) (λ fs op call e. of_job_too records (Write place) es listed same op (ap job_of at ∙ e)) es (turn_record r) (record_by r r.streams refl es))
      (λ fs now e job. kept_then _ _ _ (inl (tcp_keeps records place r now at e job)) (same job))

  send_by : (records : List Record) (place : ℕ) (o : Option OpenUdp) → open_at records place ≡ o → Has m.store.jobs (Datagram place) → (es : List Entry) → SameJobs es records → Allows TurnAsks SameJobs es (turn_datagram_at records place o)
  send_by records place None at listed es same = same
  send_by records place (Some o) at listed es same =
      allows_then TurnAsks (KeepsBoth o) SameJobs es (turn_outgoing o o.outgoing) _
      (allows_ask (SendAsks o) TurnAsks (KeepsBoth o) (λ fs op call e. of_job_too records (Datagram place) es listed same op (ap datagram_of at ∙ e)) es (turn_outgoing o o.outgoing) (datagram_by o o.outgoing refl es))
      (λ fs now k job. kept_then _ _ _ (udp_keeps records place o now at k job) (same job))

  take_by : (records : List Record) (place : ℕ) (o : Option OpenUdp) → open_at records place ≡ o → Has m.store.jobs (Receive place) → (es : List Entry) → SameJobs es records → Allows TurnAsks SameJobs es (turn_receive_at records place o)
  take_by records place None at listed es same = same
  take_by records place (Some o) at listed es same =
      allows_then TurnAsks (KeepsBoth o) SameJobs es (turn_incoming o o.incoming) _
      (allows_ask (ReceiveAsks o) TurnAsks (KeepsBoth o) (λ fs op call e. of_job_too records (Receive place) es listed same op (ap receive_of at ∙ e)) es (turn_incoming o o.incoming) (receive_by o o.incoming refl es))
      (λ fs now k job. kept_then _ _ _ (udp_keeps records place o now at k job) (same job))

  look_by : (records : List Record) (place : ℕ) (o : Option Lookup) → lookup_at records place ≡ o → Has m.store.jobs (LookupJob place) → (es : List Entry) → SameJobs es records → Allows TurnAsks SameJobs es (turn_lookup_at records place o)
  look_by records place None at listed es same = same
  look_by records place (Some l) at listed es same =
      allows_then TurnAsks (KeepsLookup l) SameJobs es (turn_lookup l) _
      (allows_ask (LookupAsks l) TurnAsks (KeepsLookup l) (λ fs op call e. of_job_too records (LookupJob place) es listed same op (ap lookup_of at ∙ e)) es (turn_lookup l) (lookup_by l es))
      (λ fs now k job. kept_then _ _ _ (look_keeps records place l now at k job) (same job))

  host_job_by : (job : HostJob) → Has m.store.jobs job → (records : List Record) (es : List Entry) → SameJobs es records → Allows TurnAsks SameJobs es (turn_job records job)
  host_job_by (Write place) listed records es same = write_by records place (tcp2_at records place) refl listed es same
  host_job_by (Datagram place) listed records es same = send_by records place (open_at records place) refl listed es same
  host_job_by (Receive place) listed records es same = take_by records place (open_at records place) refl listed es same
  host_job_by (LookupJob place) listed records es same = look_by records place (lookup_at records place) refl listed es same

  abbrev SameTurned : List Entry → List HostJob × List Record → Type 0
  SameTurned es done = SameJobs es done.1

  jobs_by : (kept jobs : List HostJob) → ((j : HostJob) → Has jobs j → Has m.store.jobs j) → (records : List Record) (es : List Entry) → SameJobs es records → Allows TurnAsks SameTurned es (turn_jobs kept jobs records)
  jobs_by kept [] listed records es same = same
  jobs_by kept (job ∷ jobs) listed records es same =
      allows_then TurnAsks SameJobs SameTurned es (turn_job records job) _
      (host_job_by job (listed job (inl refl)) records es same)
      (λ fs now k. jobs_by _ jobs (λ j h. listed j (inr h)) now fs k)

  abbrev SameTable : List Entry → Unit {0} × Machine → Type 0
  SameTable es done = (done.1.table ≡ m.table) × (done.1.store.standing ≡ m.store.standing)

  abbrev SameStanding : List Entry → Unit {0} × Records → Type 0
  SameStanding es done = done.1.standing ≡ m.store.standing

  turn_by : Allows TurnAsks SameTable [] (turn_machine_asks m)
  turn_by =
      allows_then TurnAsks SameStanding SameTable [] (turn_store_asks m.store) _
      (allows_then TurnAsks SameTurned SameStanding [] (turn_jobs [] m.store.jobs m.store.records) _ (jobs_by [] m.store.jobs (λ p h. h) m.store.records [] (λ job. inl refl)) (λ es done k. refl))
      (λ es done k. (refl, k))

  abbrev AllByJobs : List Entry → Type 0
  AllByJobs es = (e : Entry) → Has es e → IsOfJob m e.op

  one_more : (es : List Entry) (op : OpId) (call : Call) (told : Told) → Fits call told → AllByJobs es → IsOfJob m op → AllByJobs (es ++ record { op = op; call = call; answer = told } ∷ [])
  one_more es op call told fits all its e has = elim (has_split es (record { op = op; call = call; answer = told }) e has) [ inl before ↦ all e before | inr same ↦ subst (λ (x : Entry). IsOfJob m x.op) same its ]

  pub turn : (contexts : List WasiSocketsCtx) (line : ℕ) → Meets (Says contexts m line step.Turn) [] (bind (turn_machine_asks m) (λ done. Give (reply.Ok no_fields, done.1)))
  turn contexts line =
      onto _ (widen (λ es done k. (record { ok = refl; asked = k.0.0; handles = k.0.1.0; pending = k.0.1.1; lookups = k.1.0; sockets = k.1.1.sockets; opens = k.1.1.opens; streams = k.1.1.streams; pipes = λ place. (k.1.1.inputs place, k.1.1.outputs place) }, (tt, tt)))
      (both (record { along = allows_keep TurnAsks (λ es op call. ⊤) AllByJobs SameTable one_more (λ es op call its. tt) [] (turn_machine_asks m) (λ e has. absurd has) turn_by }) (both (lookups_turned m) (streams_turned m))))

-- What each job of a turn asks and leaves.
use Rattle.wasi_causes.proofs.Words.{◌≡◌, ◌∙◌, ℕ, Bool, true, false, Done, End, Entry, Give, Item, Job, Left, List, []}
use Rattle.wasi_causes.proofs.Words.{◌∷◌, ◌++◌, append_assoc, append-nil, Machine, None, Operation, Option, Refused}
use Rattle.wasi_causes.proofs.Words.{Some, Standing, Streams, TcpRecord, Told, Waits, WasiSocketsCtx, WriteState, Fits}
use Rattle.wasi_causes.proofs.Words.{ap, asks_while, bind, job_in, poll_asks, refl, subst, sym, turn_asks, turn_at}
use Rattle.wasi_causes.proofs.Words.{turn_job, turn_jobs, turn_machine_asks, turned, with_writer}
use Rattle.wasi_world.specs.Operation.{Datagram}
use Rattle.wasi_world.specs.Typed.{told_names}
use Rattle.wasi_world.specs.declared.call.Call.TheVariants as call
use Rattle.wasi_world.specs.declared.call.Told.TheVariants as told
use Rattle.wasi_udp.specs.Receive.{wanting}
use Rattle.wasi_udp.specs.Send.{IsSend, at_remote}
use Rattle.udp_records.specs.Datagrams.{turn_outgoing, turn_sending, turned_left}
use Rattle.lookup_records.specs.NameLookup.{lookup_told, turn_lookup}
use Rattle.wasi_records.specs.Records.{turn_lookup_at}
use Rattle.udp_records.specs.Receiving.{receive_left, turn_incoming, turn_receiving}
use Rattle.wasi_records.specs.Records.{lookup_at, lookup_put, open_at, open_put, tcp2_at, tcp2_put, udp2_at}
use Rattle.udp_records.specs.declared.datagrams.Incoming.{Incoming}
use Rattle.udp_records.specs.declared.datagrams.Outgoing.{Outgoing}
use Rattle.udp_records.specs.declared.datagrams.Receiving.{Receiving}
use Rattle.udp_records.specs.declared.datagrams.Sending.{Sending}
use Rattle.lookup_records.specs.declared.name_lookup.Lookup.{Lookup}
use Rattle.lookup_records.specs.declared.name_lookup.LookupOp.{LookupOp}
use Rattle.wasi_records.specs.declared.records.Record.{Record}
use Rattle.udp_records.specs.declared.udp.OpenUdp.{OpenUdp}
use Rattle.udp_records.specs.declared.udp.UdpRecord.TheVariants.{Open}
use Rattle.wasi_jobs.specs.declared.job.HostJob.{HostJob}
use Rattle.wasi_jobs.specs.declared.job.HostJob.TheVariants as job
use Rattle.host_store.specs.Jobs.{is_going, jobs_with, turn_datagram_at, turn_receive_at}
use Rattle.wasi_steps.specs.declared.step.Step.TheVariants as step
use Rattle.wasi_walks.proofs.Places.{lookup_sort, put_again, tcp_sort, udp_sort}
use Rattle.wasi_walks.proofs.walks.Moves.{receiving_in}
use Rattle.wasi_walks.proofs.walks.Udp.{open_is}
use Rattle.wasi_causes.proofs.ReceivesGo.{AllGo, GoesBy, ReceiveEnds, receive_ends, wanted_goes}
use Rattle.wasi_causes.proofs.pollables.Begins.{Quietly, no_more_same, turns_job}
use Rattle.wasi_causes.proofs.operations.DatagramPolls.{datagram_ends}
use Rattle.wasi_causes.proofs.operations.Polls.{EndsFor}
use Rattle.wasi_causes.proofs.tables.Meets.{Meets, asks, ends, met, onto}
use Rattle.wasi_causes.proofs.tables.Parts.{Parts, by_left, parts}
use Rattle.wasi_causes.specs.Lookups.{lookup_entry}
use Rattle.wasi_causes.specs.TurnPolls as turns
use Rattle.wasi_causes.specs.TurnPolls.{JobPolled, JobsPolled, LookupPolled, PolledOnce, ReceivePolled, SendPolled}
use Rattle.wasi_causes.specs.TurnPolls.{SendTold, WritePolled}
use Rattle.wasi_causes.specs.SendCauses.{DatagramFails}

module _ (rs : List Record) where
  -- what was asked of nothing is as it was
  quiet : (one : HostJob) → is_going rs one ≡ false → (now : List Record) → now ≡ rs → JobPolled rs one [] now
  quiet one none now same = subst (JobPolled rs one []) (sym same) (turns.NothingToPoll one none)

  -- == a write
  wrote : (write : Job) (es : List Entry) (end : End × List Item) → PolledOnce write.write es end → WritePolled write es
      (record { write = turns.still write.write end.1; end = end.0 })
  wrote write es (Waits, items) w = turns.WriteGoesOn items w
  wrote write es (Done given, items) w = turns.WriteIsDone given items w
  wrote write es (Refused c given, items) w = turns.WriteHasCode c given items w

  module _ (place : ℕ) (r : TcpRecord) (at : tcp2_at rs place ≡ Some r) where
    same_record : (now : TcpRecord) → now ≡ r → tcp2_put rs place now ≡ rs
    same_record now same = ap (λ (x : TcpRecord). tcp2_put rs place x) same ∙ put_again tcp_sort rs place r at

    module _ (s : Streams) (has : r.streams ≡ Some s) where
      same_writer : (w : WriteState) → s.writer ≡ w → with_writer r s w ≡ r
      same_writer w e = ap (λ (x : WriteState). with_writer r s x) (sym e) ∙ ap
          (λ (o : Option Streams). let now : TcpRecord = record r { streams = o } in now) (sym has)

      by_writer : (w : WriteState) → s.writer ≡ w → Meets
          (λ es done. JobPolled rs (job.Write place) es (tcp2_put rs place (with_writer r s done.1))) [] (turn_asks w)
      by_writer (WriteState.Ready half permit) e = ends
          (quiet (job.Write place) (rw (at, has, e) refl) _ (same_record _ (same_writer _ e)))
      by_writer (WriteState.Closed why) e = ends
          (quiet (job.Write place) (rw (at, has, e) refl) _ (same_record _ (same_writer _ e)))
      by_writer (WriteState.Writing write) e = onto _ (by_end write.end refl)
        where
          by_end : (end : End) → write.end ≡ end → Meets
              (λ es j. JobPolled rs (job.Write place) es (tcp2_put rs place (with_writer r s (WriteState.Writing j))))
              [] (job_in write end)
          by_end Waits f = onto _ (by_left (poll_asks write.write)
              (λ es end w. turns.PollsWrite place r s write _ es at has e f (wrote write es end w)))
          by_end (Done given) f = ends
              (quiet (job.Write place) (rw (at, has, e, f) refl) _ (same_record _ (same_writer _ e)))
          by_end (Refused c given) f = ends
              (quiet (job.Write place) (rw (at, has, e, f) refl) _ (same_record _ (same_writer _ e)))
      by_writer (WriteState.Closing write) e = onto _ (by_end write.end refl)
        where
          by_end : (end : End) → write.end ≡ end → Meets
              (λ es j. JobPolled rs (job.Write place) es (tcp2_put rs place (with_writer r s (WriteState.Closing j))))
              [] (job_in write end)
          by_end Waits f = onto _ (by_left (poll_asks write.write)
              (λ es end w. turns.PollsLastWrite place r s write _ es at has e f (wrote write es end w)))
          by_end (Done given) f = ends
              (quiet (job.Write place) (rw (at, has, e, f) refl) _ (same_record _ (same_writer _ e)))
          by_end (Refused c given) f = ends
              (quiet (job.Write place) (rw (at, has, e, f) refl) _ (same_record _ (same_writer _ e)))

    by_streams : (o : Option Streams) → r.streams ≡ o → Meets
        (λ es now. JobPolled rs (job.Write place) es (tcp2_put rs place now)) [] (turned r o)
    by_streams None has = ends (quiet (job.Write place) (rw (at, has) refl) _ (same_record r refl))
    by_streams (Some s) has = onto _ (by_writer s has s.writer refl)

  writes : (place : ℕ) (o : Option TcpRecord) → tcp2_at rs place ≡ o → Meets (JobPolled rs (job.Write place)) []
      (turn_at rs place o)
  writes place None at = ends (turns.NothingToPoll (job.Write place) (rw at refl))
  writes place (Some r) at = onto _ (by_streams place r at r.streams refl)

  -- == a datagram
  module _ (place : ℕ) (o : OpenUdp) (at : open_at rs place ≡ Some o) where
    same_open : (now : OpenUdp) → now ≡ o → open_put rs place now ≡ rs
    same_open now same = ap (λ (x : OpenUdp). open_put rs place x) same ∙ put_again udp_sort rs place (Open o)
        (open_is (udp2_at rs place) o at)

    sent : (op : Operation) (es : List Entry) (end : End × List Item) → PolledOnce (at_remote o.inner.remote op) es end
        → SendPolled o.inner.remote op es (turned_left op end)
    sent op es (Waits, items) w = turns.SendGoesOn items w
    sent op es (Done given, items) w = turns.SendIsDone given items w
    sent op es (Refused c given, items) w = turns.SendHasCode c given items w

    module _ (out : Outgoing) (has : o.outgoing ≡ Some out) where
      same_out : let now : OpenUdp = record o { outgoing = Some out } in now ≡ o
      same_out = ap (λ (x : Option Outgoing). let now : OpenUdp = record o { outgoing = x } in now) (sym has)

      by_sending : (s : Sending) → out.sending ≡ s → Meets
          (λ es now. JobPolled rs (job.Datagram place) es (open_put rs place (record o { outgoing = Some now }))) []
          (turn_sending o.inner out s)
      by_sending (Sending.InProgress op) e = onto _ (by_left (poll_asks (at_remote o.inner.remote op))
          (λ es end w. turns.PollsDatagram place o out op (turned_left op end) es at has e (sent op es end w)))
      by_sending Sending.Nothing e = ends (quiet (job.Datagram place) (rw (at, has, e) refl) _ (same_open _ same_out))
      by_sending (Sending.Failed c) e = ends
          (quiet (job.Datagram place) (rw (at, has, e) refl) _ (same_open _ same_out))

    by_outgoing : (out : Option Outgoing) → o.outgoing ≡ out → Meets
        (λ es now. JobPolled rs (job.Datagram place) es (open_put rs place now)) [] (turn_outgoing o out)
    by_outgoing None has = ends (quiet (job.Datagram place) (rw (at, has) refl) _ (same_open o refl))
    by_outgoing (Some out) has = onto _ (by_sending out has out.sending refl)

    -- == a receive
    module _ (goes : GoesBy (receiving_in o.incoming)) where
      module _ (inc : Incoming) (has : o.incoming ≡ Some inc) where
        same_in : let now : OpenUdp = record o { incoming = Some inc } in now ≡ o
        same_in = ap (λ (x : Option Incoming). let now : OpenUdp = record o { incoming = x } in now) (sym has)

        received : (op : Operation) (es : List Entry) (end : End × List Item) → ReceiveEnds end → PolledOnce
            (wanting inc.remote op) es end → ReceivePolled inc.remote op es (receive_left op end)
        received op es (Waits, items) k w = turns.ReceiveGoesOn items w
        received op es (Done (Datagram bytes a), items) k w = turns.ReceiveHasDatagram bytes a items w
        received op es (Done _, items) k w = absurd k
        received op es (Refused c given, items) k w = turns.ReceiveHasCode c given items w

        by_receiving : (s : Receiving) → inc.receiving ≡ s → Meets
            (λ es now. JobPolled rs (job.Receive place) es (open_put rs place (record o { incoming = Some now }))) []
            (turn_receiving inc s)
        by_receiving (Receiving.InProgress op) e =
            let its : GoesBy (Some op) = rw (has, e) at goes in
            onto _ (by_left (poll_asks (wanting inc.remote op)) (λ es end w. turns.PollsReceive place o inc op
            (receive_left op end) es at has e
            (received op es end (met {Row = λ fs end. ReceiveEnds end} (record {
              along = receive_ends (wanting
                  inc.remote op) (wanted_goes inc.remote op.left its) [];
            }) w) w)))
        by_receiving Receiving.Nothing e = ends
            (quiet (job.Receive place) (rw (at, has, e) refl) _ (same_open _ same_in))
        by_receiving (Receiving.Came d) e = ends
            (quiet (job.Receive place) (rw (at, has, e) refl) _ (same_open _ same_in))
        by_receiving (Receiving.Failed c) e = ends
            (quiet (job.Receive place) (rw (at, has, e) refl) _ (same_open _ same_in))

      by_incoming : (inc : Option Incoming) → o.incoming ≡ inc → Meets
          (λ es now. JobPolled rs (job.Receive place) es (open_put rs place now)) [] (turn_incoming o inc)
      by_incoming None has = ends (quiet (job.Receive place) (rw (at, has) refl) _ (same_open o refl))
      by_incoming (Some inc) has = onto _ (by_receiving inc has inc.receiving refl)

  datagrams : (place : ℕ) (o : Option OpenUdp) → open_at rs place ≡ o → Meets (JobPolled rs (job.Datagram place)) []
      (turn_datagram_at rs place o)
  datagrams place None at = ends (turns.NothingToPoll (job.Datagram place) (rw at refl))
  datagrams place (Some o) at = onto _ (by_outgoing place o at o.outgoing refl)

  module _ (go : AllGo rs) where
    receives : (place : ℕ) (o : Option OpenUdp) → open_at rs place ≡ o → Meets (JobPolled rs (job.Receive place)) []
        (turn_receive_at rs place o)
    receives place None at = ends (turns.NothingToPoll (job.Receive place) (rw at refl))
    receives place (Some o) at = onto _
        (by_incoming place o at (go place (Open o) (open_is (udp2_at rs place) o at)) o.incoming refl)

    -- == a lookup
    module _ (place : ℕ) where
      looked : (op : LookupOp) → lookup_at rs place ≡ Some (Lookup.InProgress op) → Meets
          (λ es now. JobPolled rs (job.Lookup place) es (lookup_put rs place now)) []
          (turn_lookup (Lookup.InProgress op))
      unfolding bind
      looked op at = asks (λ t fits. by_told t fits)
        where
          by_told : (t : Told) → Fits (call.Lookup op.host) t → Meets
              (λ es now. JobPolled rs (job.Lookup place) es (lookup_put rs place now))
              (lookup_entry op.id op.host t ∷ []) (Give (lookup_told op (told_names t)))
          by_told told.Pending fits = ends (turns.PollsLookup place op _ _ at turns.LookupGoesOn)
          by_told (told.Names names) fits = ends (turns.PollsLookup place op _ _ at (turns.LookupHasNames names))
          by_told (told.Code c) fits = ends (turns.PollsLookup place op _ _ at (turns.LookupHasCode c))
          by_told _ fits = absurd fits

      by_lookup : (l : Lookup) → lookup_at rs place ≡ Some l → Meets
          (λ es now. JobPolled rs (job.Lookup place) es (lookup_put rs place now)) [] (turn_lookup l)
      by_lookup (Lookup.InProgress op) at = looked op at
      by_lookup (Lookup.Found a) at = ends
          (quiet (job.Lookup place) (rw at refl) _ (put_again lookup_sort rs place _ at))
      by_lookup Lookup.Failed at = ends (quiet (job.Lookup place) (rw at refl) _ (put_again lookup_sort rs place _ at))

      lookups : (o : Option Lookup) → lookup_at rs place ≡ o → Meets (JobPolled rs (job.Lookup place)) []
          (turn_lookup_at rs place o)
      lookups None at = ends (turns.NothingToPoll (job.Lookup place) (rw at refl))
      lookups (Some l) at = onto _ (by_lookup l at)

    -- == one of them
    polls_one : (one : HostJob) → Meets (JobPolled rs one) [] (turn_job rs one)
    polls_one (job.Write place) = writes place (tcp2_at rs place) refl
    polls_one (job.Datagram place) = datagrams place (open_at rs place) refl
    polls_one (job.Receive place) = receives place (open_at rs place) refl
    polls_one (job.Lookup place) = lookups place (lookup_at rs place) refl

-- == all of them
-- those that are kept come after the ones before
record Turned (before jobs : List HostJob) (rs : List Record) (es : List Entry) (done : List HostJob × List Record) :
    Type 0 where
  pub kept : List HostJob
  pub all : done.0 ≡ before ++ kept
  pub polled : JobsPolled jobs rs es kept done.1

polls_all : (before jobs : List HostJob) (rs : List Record) → AllGo rs → (es : List Entry)
    (done : List HostJob × List Record) → Left (turn_jobs before jobs rs) es (Give done) → Turned before jobs rs es done
polls_all before [] rs go [] done w = let same : (before, rs) ≡ done = (cc) in subst (Turned before [] rs []) same
    (record { kept = []; all = sym (append-nil before); polled = turns.NoMoreJobs rs })
polls_all before [] rs go (e ∷ es) done w = absurd w
polls_all before (one ∷ jobs) rs go es done w =
    of (parts (turn_job rs one) _ es done w) (λ mid kept fs go_on rest. polls_all kept jobs mid go_on fs done rest)
  where
    of : Parts (turn_job rs one) (λ now. turn_jobs (jobs_with before one (is_going now one)) jobs now) es done
        → ((mid : List Record) (kept : List HostJob) (fs : List Entry) → AllGo mid → Left (turn_jobs kept jobs mid) fs
        (Give done) → Turned kept jobs mid fs done) → Turned before (one ∷ jobs) rs es done
    of p next = subst (λ (xs : List Entry). Turned before (one ∷ jobs) rs xs done) (sym p.cut)
        (by_going (is_going p.given one) refl p.next)
      where
        polled : JobPolled rs one p.front p.given
        polled = met (polls_one rs go one) p.did

        still_go : AllGo p.given
        still_go = (met {Row = λ fs now. Quietly rs now}
            (record { along = turns_job rs one rs [] (no_more_same rs, go) }) p.did).1

        by_going : (b : Bool) → is_going p.given one ≡ b → Left (turn_jobs (jobs_with before one b) jobs p.given) p.back
            (Give done) → Turned before (one ∷ jobs) rs (p.front ++ p.back) done
        by_going true e rest = let t = next p.given (before ++ one ∷ []) p.back still_go rest in record {
          kept = one ∷
              t.kept;
          all = t.all ∙ append_assoc before (one ∷ []) t.kept;
          polled = turns.StaysJob one jobs t.kept rs
              p.given done.1 p.front p.back polled e t.polled;
        }
        by_going false e rest = let t = next p.given before p.back still_go rest in record {
          kept = t.kept;
          all = t.all;
          polled = turns.IsNoJobNow one jobs t.kept rs p.given done.1 p.front p.back polled e t.polled;
        }

-- so does a turn
pub turn_polls : (m : Machine) → AllGo m.store.records → Meets
    (λ es done. JobsPolled m.store.jobs m.store.records es done.1.store.jobs done.1.store.records) []
    (turn_machine_asks m)
turn_polls m go =
    onto _ (onto _
    (by_left (turn_jobs [] m.store.jobs m.store.records)
    (λ es done w. let t = polls_all [] m.store.jobs m.store.records go es done w in subst (λ (kept : List HostJob).
    JobsPolled m.store.jobs m.store.records es kept done.1) (sym t.all) t.polled)))

pub turns_polled : (contexts : List WasiSocketsCtx) (m : Machine) (line : ℕ) → AllGo m.store.records →
    (o : Option Standing) → Meets
    (λ es done. JobsPolled m.store.jobs m.store.records es done.1.store.jobs done.1.store.records) []
    (asks_while contexts m line step.Turn o)
turns_polled contexts m line go None = onto _ (turn_polls m go)
turns_polled contexts m line go (Some s) = onto _ (turn_polls m go)

-- == what a poll of a datagram was answered
told_so : (op : Operation) (es : List Entry) (end : End × List Item) → EndsFor op (DatagramFails op) es end → SendTold
    op es end.0
told_so op es (Waits, items) k = k
told_so op es (Done given, items) k = tt
told_so op es (Refused c given, items) k = k

pub sends_told : (op : Operation) → IsSend op → (es : List Entry) (end : End × List Item) → PolledOnce op es end →
    SendTold op es end.0
sends_told op its es end w = told_so op es end (met (datagram_ends op its) w)

-- In a run no pollable of a pending wait would begin anything: the look that found it unready has begun what there was
-- to begin, and
-- later looks and turns leave it there, going on or with its result.
use Rattle.wasi_causes.proofs.Words.{◌≡◌, ◌∙◌, ℕ, ⊤, Accepting, Allows, Bool, true, false, not, if◌then◌else◌, Done}
use Rattle.wasi_causes.proofs.Words.{End, Entry, Err, Give, HoldsAccept, IsAcceptOn, Item, Left, List, [], ◌∷◌}
use Rattle.wasi_causes.proofs.Words.{Listener, Listening, Machine, None, Ok, Operation, Option, Records, Refused}
use Rattle.wasi_causes.proofs.Words.{Result, Some, Stop, Streams, TcpRecord, Waits, Watched, accept_asks, accept_ended}
use Rattle.wasi_causes.proofs.Words.{accept_operation, allows_then, ap, inl, inr, is_connect, is_nothing, kind_at}
use Rattle.wasi_causes.proofs.Words.{own_of, poll_asks, ready_asks, ready_on, refl, subst, sym, turn_asks, turn_at}
use Rattle.wasi_causes.proofs.Words.{turn_job, turn_jobs, turn_machine_asks, turned, watch_of, with_store}
use Rattle.wasi_world.specs.declared.ids.Ids.{Ids}
use Rattle.wasi_tcp.specs.Accept.{Unarrived}
use Rattle.wasi_tcp.specs.Connecting.{finish_connect_asks}
use Rattle.wasi_tcp.specs.Listener.{begun, has_accept, ready_end}
use Rattle.wasi_tcp.specs.Reader.{reader_ready_asks}
use Rattle.wasi_tcp.specs.Writer.{look_asks}
use Rattle.wasi_tcp.specs.declared.accept.AcceptStage.TheVariants as stage
use Rattle.wasi_udp.specs.Receive.{wanting}
use Rattle.wasi_udp.specs.Socket.{bound_asks}
use Rattle.wasi_world.specs.Operation.{Connection, Datagram}
use Rattle.udp_records.specs.Datagrams.{turn_outgoing, turn_sending}
use Rattle.tcp_records.specs.Looks.{accept_looked, ready_idle, ready_listening, ready_reader, ready_socket}
use Rattle.tcp_records.specs.Looks.{ready_socket_by, ready_writer, socket_begins}
use Rattle.record_common.specs.Names.{next_name}
use Rattle.lookup_records.specs.NameLookup.{turn_lookup}
use Rattle.wasi_records.specs.Records.{turn_lookup_at}
use Rattle.udp_records.specs.Receiving.{fetch_asks, has_none, look_incoming, receive_left, turn_incoming}
use Rattle.udp_records.specs.Receiving.{turn_receiving, would_receive}
use Rattle.wasi_records.specs.Records.{lookup_at, lookup_put, open_at, open_put, tcp2_at, udp2_at}
use Rattle.udp_records.specs.Udp.{open_of}
use Rattle.udp_records.specs.declared.datagrams.Incoming.{Incoming}
use Rattle.udp_records.specs.declared.datagrams.Outgoing.{Outgoing}
use Rattle.udp_records.specs.declared.datagrams.Receiving.{Receiving}
use Rattle.lookup_records.specs.declared.name_lookup.Lookup.{Lookup}
use Rattle.wasi_records.specs.declared.records.Record.{Record}
use Rattle.udp_records.specs.declared.udp.OpenUdp.{OpenUdp}
use Rattle.udp_records.specs.declared.udp.UdpRecord.{UdpRecord}
use Rattle.udp_records.specs.declared.udp.UdpRecord.TheVariants.{Open}
use Rattle.wasi_jobs.specs.declared.job.HostJob.{HostJob}
use Rattle.wasi_jobs.specs.declared.job.HostJob.TheVariants as job
use Rattle.host_udp.specs.DatagramCalls.{begins_receive, ready_incoming_at}
use Rattle.host_store.specs.Jobs.{turn_datagram_at, turn_receive_at}
use Rattle.wasi_host.specs.Polling.{Found, begins_at, begins_on, tcp_begins, udp_begins}
use Rattle.host_store.specs.Readiness.{ready_at, ready_put, ready_record}
use Rattle.host_store.specs.declared.kind.Watched.TheVariants as watched
use Rattle.wasi_host.specs.declared.polling.Look.{Look}
use Rattle.wasi_host.specs.declared.polling.Look.TheVariants.{First, Later}
use Rattle.wasi_walks.proofs.Places.{lookup_sort, other_put, put_finds, tcp_sort, udp_sort}
use Rattle.wasi_walks.proofs.fits.Law.{whatever}
use Rattle.wasi_walks.proofs.fits.Polls.{AcceptLeaves, Anything, accept_left}
use Rattle.wasi_walks.proofs.fits.Records.{FitListening}
use Rattle.wasi_walks.proofs.fits.TcpFits.{accepted_fits}
use Rattle.wasi_walks.proofs.walks.Looks.{connecting_begins}
use Rattle.wasi_walks.proofs.walks.Udp.{open_is}
use Rattle.wasi_causes.proofs.ReceivesGo.{AllGo, GoesBy, GoesIn, HasLeft, ReceiveEnds, left_goes, receive_ends}
use Rattle.wasi_causes.proofs.ReceivesGo.{start_goes, tcp_put as go_tcp, udp_put as go_udp, wanted_goes}
use Rattle.wasi_causes.proofs.operations.Accepts.{AcceptEnds, poll_accept_ends}
use Rattle.wasi_causes.proofs.pollables.Looks.{job_stays}
use Rattle.wasi_causes.proofs.tables.Meets.{Meets, Rows, both, chain, ends, met, onto, widen}
use Rattle.wasi_causes.proofs.tables.Meets as meets
use Rattle.wasi_causes.specs.PollableCalls.{BeginsNone, Finds, LooksInTurn}
use Rattle.wasi_causes.specs.PollableCalls as on
pub use Rattle.wasi_causes.proofs.pollables.NoMore.{BeginsNoMore, AcceptsFit, no_more_same}
use Rattle.wasi_causes.proofs.pollables.NoMore.{tcp_no_more, tcp_fits, open_no_more, open_fits, no_more_then}

-- == a look at a listener
module _ (l : Listener) (holds : HoldsAccept l.side l.maker l.accept) where
  -- it has an accept afterwards
  abbrev HasOne : Accepting → Type 0
  HasOne a = HoldsAccept l.side l.maker a × (has_accept a ≡ true)

  module _ {A : Type 0} (of : Accepting → A) where
    record Comes (x : A) : Type 0 where
      pub accept : Accepting
      pub is : x ≡ of accept
      pub has : HasOne accept

    ended : (op : Operation) → IsAcceptOn l.side l.maker op → (es : List Entry) (end : End × List Item) → AcceptLeaves
        end × AcceptEnds op.who es end → HasOne (accept_ended op.who end)
    ended op its es (Waits, items) k = (accepted_fits l.side l.maker op (Waits, items) its k.0, refl)
    ended op its es (Done (Connection new peer), items) k = (tt, refl)
    ended op its es (Done _, items) k = absurd k.1
    ended op its es (Refused c given, items) k = (tt, refl)

    asked : (op : Operation) → IsAcceptOn l.side l.maker op → Meets (λ es x. Comes x) []
        (accept_asks of (Accepting.Asking op))
    asked op its =
        onto _ (widen (λ es end k. record { accept = accept_ended op.who end; is = refl; has = ended op its es end k })
        (both (record { along = accept_left op its.accept its.going [] }) (record {
          along = poll_accept_ends op
              its.accept its.going;
        })))

    comes : (ids : Ids) → Meets (λ es x. Comes x) [] (accept_asks of (begun l.side l.maker ids l.accept))
    comes ids = by_accept l.accept holds
      where
        by_accept : (a : Accepting) → HoldsAccept l.side l.maker a → Meets (λ es x. Comes x) []
            (accept_asks of (begun l.side l.maker ids a))
        by_accept Accepting.Idle h =
            asked (accept_operation
            (record { op = record { step = ids.line; part = ids.next_part }; side = l.side; maker = l.maker })
            stage.Accept)
            (record
            { accept = record { last = refl; left = Unarrived }; of_side = refl; of_maker = refl; going = refl })
        by_accept (Accepting.Asking op) h = asked op h
        by_accept (Accepting.Arrived new peer) h = ends
            (record { accept = Accepting.Arrived new peer; is = refl; has = (tt, refl) })
        by_accept (Accepting.Failed c) h = ends (record { accept = Accepting.Failed c; is = refl; has = (tt, refl) })

-- == a look at a record
-- whether another look would begin something there
abbrev begins_in : Watched → TcpRecord → Bool
begins_in (watched.Socket place) r = socket_begins r
begins_in w r = false

none_if : (b : Bool) → (if b then false else false) ≡ false
none_if true = refl
none_if false = refl

module _ (ids : Ids) (r : TcpRecord) (fit : FitListening r.listening) where
  abbrev RecordRow : Watched → Rows (Result Bool Stop × TcpRecord)
  RecordRow w es (Ok b, now) = FitListening now.listening × (socket_begins r ≡ false → socket_begins now ≡ false) ×
      (begins_in w now ≡ false)
  RecordRow w es (Err why, now) = ⊤

  module _ (place : ℕ) where
    accepts : (l : Listener) → r.listening ≡ Listening.Accepts l → Meets (RecordRow (watched.Socket place)) []
        (ready_listening ids r (Listening.Accepts l))
    accepts l e =
        onto _ (widen (λ es done k. so es done k) (comes l (subst FitListening e fit) (ready_end l) ids))
      where
        none : (a : Accepting) → has_accept a ≡ true → (if is_nothing r.in_progress then not (has_accept a) else false)
            ≡ false
        none a has = rw has (none_if (is_nothing r.in_progress))

        so : (es : List Entry) (done : _) → Comes l (subst FitListening e fit) (ready_end l) done → RecordRow
            (watched.Socket place) es (accept_looked r done)
        so es done k = subst (λ x. RecordRow (watched.Socket place) es (accept_looked r x)) (sym k.is)
            (k.has.0, (λ h. none k.accept k.has.1), none k.accept k.has.1)

    by_listening : (l : Listening) → r.listening ≡ l → is_nothing r.in_progress ≡ true → Meets
        (RecordRow (watched.Socket place)) [] (ready_listening ids r l)
    by_listening (Listening.Accepts l) e idle = accepts l e
    by_listening Listening.Not e idle = ends (fit, (λ h. h), rw (e, idle) refl)
    by_listening (Listening.Begins op) e idle = ends (fit, (λ h. h), rw (e, idle) refl)
    by_listening (Listening.Unclosed op) e idle = ends (fit, (λ h. h), rw (e, idle) refl)

    by_nothing : (b : Bool) → is_nothing r.in_progress ≡ b → Meets (RecordRow (watched.Socket place)) []
        (ready_idle ids r b)
    by_nothing true e = by_listening r.listening refl e
    by_nothing false e = ends (fit, (λ h. h), rw e refl)

    by_progress : (b : Bool) → is_connect r.in_progress ≡ b → Meets (RecordRow (watched.Socket place)) []
        (ready_socket_by ids r b)
    by_progress true e = onto _
        (widen (λ es done k. (fit, (λ h. h), connecting_begins r e)) (meets.whatever (finish_connect_asks r.inner)))
    by_progress false e = by_nothing (is_nothing r.in_progress) refl

    at_socket : Meets (RecordRow (watched.Socket place)) [] (ready_socket ids r)
    at_socket = by_progress (is_connect r.in_progress) refl

    at_input : (o : Option Streams) → Meets (RecordRow (watched.Input place)) [] (ready_reader (own_of ids.line) r o)
    at_input None = ends tt
    at_input (Some s) = onto _
        (widen (λ es done k. (fit, (λ h. h), refl)) (meets.whatever (reader_ready_asks (own_of ids.line) s.reader)))

    at_output : (o : Option Streams) → Meets (RecordRow (watched.Output place)) [] (ready_writer (own_of ids.line) r o)
    at_output None = ends tt
    at_output (Some s) = onto _
        (widen (λ es done k. (fit, (λ h. h), refl)) (meets.whatever (look_asks (own_of ids.line) s.writer)))

-- == a look at a UDP socket's incoming stream
left_none : (op : Operation) (end : End × List Item) → ReceiveEnds end → has_none (receive_left op end) ≡ false
left_none op (Waits, items) k = refl
left_none op (Done (Datagram bytes a), items) k = refl
left_none op (Done _, items) k = absurd k
left_none op (Refused c given, items) k = refl

module _ (ids : Ids) (o : OpenUdp) where
  fetches : (inc : Incoming) (receiving : Receiving) → inc.receiving ≡ receiving → Meets
      (λ es s. has_none s.1.receiving ≡ false) [] (fetch_asks (next_name ids) receiving (o.inner, inc))
  fetches inc Receiving.Nothing e =
      chain {Mid = λ es begun. HasLeft begun.0.left} (onto _
      (widen (λ es b k. start_goes (next_name ids) b.1 b.0) (meets.whatever (bound_asks (next_name ids) o.inner))))
      (λ es begun k. onto _
      (widen (λ fs end left. left_none begun.0 end left)
      (record { along = receive_ends (wanting inc.remote begun.0) (wanted_goes inc.remote begun.0.left k) es })))
  fetches inc (Receiving.InProgress op) e = ends (rw e refl)
  fetches inc (Receiving.Came d) e = ends (rw e refl)
  fetches inc (Receiving.Failed c) e = ends (rw e refl)

  looks_in : (inc : Option Incoming) → o.incoming ≡ inc → Meets (λ es now. udp_begins (Some now) ≡ false) []
      (look_incoming ids o inc)
  looks_in None e = ends (rw e refl)
  looks_in (Some inc) e = onto _ (fetches inc inc.receiving refl)

-- == a look at a pollable
-- The handles stay, and no look begins what it wouldn't have before.
pub record StaysQuiet (m after : Machine) : Type 0 where
  pub table : after.table ≡ m.table
  pub standing : after.store.standing ≡ m.store.standing
  pub fits : AcceptsFit after.store.records
  pub no_more : BeginsNoMore m.store.records after.store.records

quiet_then : {one two three : Machine} → StaysQuiet one two → StaysQuiet two three → StaysQuiet one three
quiet_then s t = record {
  table = t.table ∙ s.table;
  standing = t.standing ∙ s.standing;
  fits = t.fits;
  no_more =
      no_more_then s.no_more t.no_more;
}

-- a pollable that would begin nothing still doesn't
module _ (m after : Machine) (no_more : BeginsNoMore m.store.records after.store.records) where
  still_on : (o : Option Watched) → begins_on m.store o ≡ false → begins_on after.store o ≡ false
  still_on None e = refl
  still_on (Some (watched.Socket place)) e = no_more.tcp place e
  still_on (Some (watched.Incoming place)) e = no_more.udp place e
  still_on (Some (watched.Input place)) e = refl
  still_on (Some (watched.Output place)) e = refl
  still_on (Some (watched.Udp place)) e = refl
  still_on (Some (watched.Outgoing place)) e = refl
  still_on (Some (watched.Lookup place)) e = refl
  still_on (Some watched.Plain) e = refl

  pub still_none : after.table ≡ m.table → (p : ℕ) → begins_at m p ≡ false → begins_at after p ≡ false
  still_none table p e = subst (λ t. begins_on after.store (watch_of (kind_at t p)) ≡ false) (sym table)
      (still_on (watch_of (kind_at m.table p)) e)

module _ (m : Machine) (fits : AcceptsFit m.store.records) where
  quiet_same : StaysQuiet m m
  quiet_same = record { table = refl; standing = refl; fits = fits; no_more = no_more_same m.store.records }

  abbrev LookRow : Option Watched → Rows (Result Bool Stop × Machine)
  LookRow o es (Ok b, now) = StaysQuiet m now × (begins_on now.store o ≡ false)
  LookRow o es (Err why, now) = ⊤

  module _ (ids : Ids) where
    module _ (w : Watched) (place : ℕ) (of_record : (now : Records) (r : TcpRecord) → tcp2_at now.records place ≡ Some r
        → begins_in w r ≡ false → begins_on now (Some w) ≡ false) where
      said : (r : TcpRecord) (at : tcp2_at m.store.records place ≡ Some r) (es : List Entry)
          (done : Result Bool Stop × TcpRecord) → RecordRow ids r (fits place r at) w es done → LookRow (Some w) es
          (with_store m (ready_put m.store place done))
      said r at es (Ok b, now) k = (
        record {
          table = refl;
          standing = refl;
          fits = tcp_fits m.store.records place r now at k.0 fits;
          no_more =
              tcp_no_more m.store.records place r now at k.1;
        },
        of_record (ready_put m.store place (Ok b, now)).1 now (put_finds tcp_sort m.store.records place r now at) k.2,
      )
      said r at es (Err why, now) k = tt

      in_record : ((r : TcpRecord) (fit : FitListening r.listening) → Meets (RecordRow ids r fit w) []
          (ready_record (own_of ids.line) ids w r)) → (o : Option TcpRecord) → tcp2_at m.store.records place ≡ o
          → Meets (λ es done. LookRow (Some w) es (with_store m done)) []
          (ready_at m.store (own_of ids.line) ids w place o)
      in_record by None at = ends tt
      in_record by (Some r) at = onto _ (widen (said r at) (by r (fits place r at)))

    in_incoming : (place : ℕ) (o : Option OpenUdp) → open_at m.store.records place ≡ o → Meets
        (λ es done. LookRow (Some (watched.Incoming place)) es (with_store m done)) []
        (ready_incoming_at m.store ids place o)
    in_incoming place None at = ends tt
    in_incoming place (Some o) at = onto _ (widen so (looks_in ids o o.incoming refl))
      where
        so : (es : List Entry) (now : OpenUdp) → udp_begins (Some now) ≡ false → LookRow (Some (watched.Incoming place))
            es (with_store m (Rattle.host_udp.specs.DatagramCalls.incoming_looked m.store place o now))
        so es now none =
            let stays = job_stays m.store place o now (begins_receive o now) in (
              record {
                table = refl;
                standing = stays.0;
                fits = subst AcceptsFit (sym stays.1) (open_fits m.store.records place o now at fits);
                no_more = subst (BeginsNoMore m.store.records) (sym stays.1)
                    (open_no_more m.store.records place o now at (λ e. none));
              },
              subst (λ (xs : List Record). udp_begins (open_at xs place) ≡ false) (sym stays.1) (ap (λ (u : Option
                  UdpRecord). udp_begins (open_of u)) (put_finds udp_sort m.store.records place (Open o) (Open now)
                  (open_is (udp2_at m.store.records place) o at)) ∙ none),
            )

    by_watch : (o : Option Watched) → Meets (LookRow o) [] (ready_on m ids o)
    by_watch None = ends tt
    by_watch (Some watched.Plain) = ends (quiet_same, refl)
    by_watch (Some (watched.Udp place)) = ends (quiet_same, refl)
    by_watch (Some (watched.Outgoing place)) = ends (quiet_same, refl)
    by_watch (Some (watched.Lookup place)) = ends (quiet_same, refl)
    by_watch (Some (watched.Incoming place)) = onto _ (in_incoming place (open_at m.store.records place) refl)
    by_watch (Some (watched.Socket place)) = onto _ (in_record (watched.Socket place) place
        (λ now r at e. ap tcp_begins at ∙ e) (λ r fit. at_socket ids r fit place) (tcp2_at m.store.records place) refl)
    by_watch (Some (watched.Input place)) = onto _ (in_record (watched.Input place) place (λ now r at e. refl)
        (λ r fit. at_input ids r fit place r.streams) (tcp2_at m.store.records place) refl)
    by_watch (Some (watched.Output place)) = onto _ (in_record (watched.Output place) place (λ now r at e. refl)
        (λ r fit. at_output ids r fit place r.streams) (tcp2_at m.store.records place) refl)

    -- once it was looked at, another look at it begins nothing
    pub looked : (p : ℕ) (es : List Entry) (b : Bool) (now : Machine) → Left (ready_asks m ids p) es (Give (Ok b, now))
        → StaysQuiet m now × (begins_at now p ≡ false)
    looked p es b now w =
        let k = met {Row = LookRow (watch_of (kind_at m.table p))} {a = (Ok b, now)}
        (by_watch (watch_of (kind_at m.table p))) w in
        (k.0, subst (λ t. begins_on now.store (watch_of (kind_at t p)) ≡ false) (sym k.0.table) k.1)

-- == the looks of a wait in turn
-- a later look would begin nothing
abbrev pub MayBegin : Look → Machine → List ℕ → Type 0
MayBegin First m ps = ⊤
MayBegin Later m ps = BeginsNone m ps

pub finds_none : (m : Machine) → AcceptsFit m.store.records → (ids : Ids) (p : ℕ) {look : Look} → MayBegin look m
    (p ∷ []) → (es : List Entry) (b : Bool) (mid : Machine) → Finds m ids p look es b mid → StaysQuiet m mid ×
    (begins_at mid p ≡ false)
finds_none m fits ids p may _ _ _ (on.FindsFirst es b mid w) = looked m fits ids p es b mid w
finds_none m fits ids p may _ _ _ (on.FindsAgain es b mid none w) = looked m fits ids p es b mid w
finds_none m fits ids p may _ _ _ (on.FindsToBegin begins) = absurd (let none = may p (inl refl) in cc)

first_may : (look : Look) (m : Machine) (p : ℕ) (others : List ℕ) → MayBegin look m (p ∷ others) → MayBegin look m
    (p ∷ [])
first_may First m p others may = tt
first_may Later m p others may = λ q has. elim has [ inl same ↦ may q (inl same) | inr none ↦ absurd none ]

rest_may : (look : Look) (m mid : Machine) (p : ℕ) (others : List ℕ) → StaysQuiet m mid → MayBegin look m (p ∷ others) →
    MayBegin look mid others
rest_may First m mid p others one may = tt
rest_may Later m mid p others one may = λ q has. still_none m mid one.no_more one.table q (may q (inr has))

pub turn_none : {look : Look} (m : Machine) → AcceptsFit m.store.records → (ids : Ids) (ps : List ℕ) → MayBegin look m
    ps → (es : List Entry) (found : Found) (after : Machine) → LooksInTurn look m ids ps es found after → StaysQuiet m
    after × BeginsNone after ps
turn_none m fits _ _ may _ _ _ (on.NoMore _ ids) = (quiet_same m fits, λ p none. absurd none)
turn_none {look} m fits _ _ may _ _ _ (on.OneMore _ mid after ids p others es fs b found k looks) =
    with_rest (finds_none m fits ids p {look = look} (first_may look m p others may) es b mid k)
    (λ one. turn_none {look = look} mid one.fits _ others (rest_may look m mid p others one may) fs found after looks)
  where
    with_rest : StaysQuiet m mid × (begins_at mid p ≡ false) →
        (StaysQuiet m mid → StaysQuiet mid after × BeginsNone after others) → StaysQuiet m after × BeginsNone after
        (p ∷ others)
    with_rest one goes =
        let rest = goes one.0 in (
          quiet_then one.0 rest.0,
          λ q has. elim has [
            | inl same ↦ subst (λ (i : ℕ). begins_at after i ≡ false) same
                (still_none mid after rest.0.no_more rest.0.table p one.1)
            | inr others ↦ rest.1 q others
          ],
        )

-- == a turn
module _ (start : List Record) where
  abbrev pub Quietly : List Record → Type 0
  Quietly now = BeginsNoMore start now × AllGo now

  turns_tcp : (xs : List Record) (place : ℕ) (o : Option TcpRecord) → tcp2_at xs place ≡ o → (es : List Entry) → Quietly
      xs → Allows Anything (λ fs now. Quietly now) es (turn_at xs place o)
  turns_tcp xs place None at es i = i
  turns_tcp xs place (Some r) at es i =
      allows_then Anything (λ fs now. socket_begins now ≡ socket_begins r) (λ fs now. Quietly now) es
      (turned r r.streams) _ (same r.streams)
      (λ fs now k. (no_more_then i.0 (tcp_no_more xs place r now at (λ e. k ∙ e)), go_tcp xs i.1 place now))
    where
      same : (s : Option Streams) → Allows Anything (λ fs now. socket_begins now ≡ socket_begins r) es (turned r s)
      same None = refl
      same (Some s) = allows_then Anything (λ fs done. ⊤) (λ fs now. socket_begins now ≡ socket_begins r) es
          (turn_asks s.writer) _ (whatever (λ done. ⊤) (λ done. tt) es (turn_asks s.writer)) (λ fs done k. refl)

  -- an open UDP socket, whose receive goes on or has its result
  put_open : (xs : List Record) (place : ℕ) (o now : OpenUdp) → open_at xs place ≡ Some o → Quietly xs → GoesIn
      (Open now) → (udp_begins (Some o) ≡ false → udp_begins (Some now) ≡ false) → Quietly (open_put xs place now)
  put_open xs place o now at i goes keeps =
      (no_more_then i.0 (open_no_more xs place o now at keeps), go_udp xs i.1 place (Open now) goes)

  its_receive : (xs : List Record) (place : ℕ) (o : OpenUdp) → open_at xs place ≡ Some o → Quietly xs → GoesIn (Open o)
  its_receive xs place o at i = i.1 place (Open o) (open_is (udp2_at xs place) o at)

  turns_datagram : (xs : List Record) (place : ℕ) (o : Option OpenUdp) → open_at xs place ≡ o → (es : List Entry) →
      Quietly xs → Allows Anything (λ fs now. Quietly now) es (turn_datagram_at xs place o)
  turns_datagram xs place None at es i = i
  turns_datagram xs place (Some o) at es i =
      allows_then Anything (λ fs now. now.incoming ≡ o.incoming) (λ fs now. Quietly now) es (turn_outgoing o o.outgoing)
      _ (same o.outgoing)
      (λ fs now k. put_open xs place o now at i
      (subst (λ (inc : Option Incoming). GoesBy (Rattle.wasi_walks.proofs.walks.Moves.receiving_in inc)) (sym k)
      (its_receive xs place o at i))
      (λ e. ap would_receive k ∙ e))
    where
      same : (out : Option Outgoing) → Allows Anything (λ fs now. now.incoming ≡ o.incoming) es (turn_outgoing o out)
      same None = refl
      same (Some out) = allows_then Anything (λ fs now. ⊤) (λ fs now. now.incoming ≡ o.incoming) es
          (turn_sending o.inner out out.sending) _
          (whatever (λ now. ⊤) (λ now. tt) es (turn_sending o.inner out out.sending)) (λ fs now k. refl)

  module _ (o : OpenUdp) where
    abbrev Taken : OpenUdp → Type 0
    Taken now = GoesIn (Open now) × (udp_begins (Some o) ≡ false → udp_begins (Some now) ≡ false)

    receiving : (inc : Incoming) → o.incoming ≡ Some inc → GoesIn (Open o) → (s : Receiving) → inc.receiving ≡ s →
        (es : List Entry) → Allows Anything (λ fs now. Taken (record o { incoming = Some now })) es
        (turn_receiving inc s)
    receiving inc has goes (Receiving.InProgress op) e es =
        let its : GoesBy (Some op) = rw (has, e) at goes in
        allows_then Anything (λ fs end. ReceiveEnds end) (λ fs now. Taken (record o { incoming = Some now })) es
        (poll_asks (wanting inc.remote op)) _
        (receive_ends (wanting inc.remote op) (wanted_goes inc.remote op.left its) es)
        (λ fs end k. (left_goes op end k, λ h. left_none op end k))
    receiving inc has goes Receiving.Nothing e es = (rw has at goes, λ h. rw has at h)
    receiving inc has goes (Receiving.Came d) e es = (rw has at goes, λ h. rw has at h)
    receiving inc has goes (Receiving.Failed c) e es = (rw has at goes, λ h. rw has at h)

    incoming : (inc : Option Incoming) → o.incoming ≡ inc → GoesIn (Open o) → (es : List Entry) → Allows Anything
        (λ fs now. Taken now) es (turn_incoming o inc)
    incoming None has goes es = (goes, λ h. h)
    incoming (Some inc) has goes es = allows_then Anything (λ fs now. Taken (record o { incoming = Some now }))
        (λ fs now. Taken now) es (turn_receiving inc inc.receiving) _ (receiving inc has goes inc.receiving refl es)
        (λ fs now k. k)

  turns_receive : (xs : List Record) (place : ℕ) (o : Option OpenUdp) → open_at xs place ≡ o → (es : List Entry) →
      Quietly xs → Allows Anything (λ fs now. Quietly now) es (turn_receive_at xs place o)
  turns_receive xs place None at es i = i
  turns_receive xs place (Some o) at es i =
      allows_then Anything (λ fs now. Taken o now) (λ fs now. Quietly now) es (turn_incoming o o.incoming) _
      (incoming o o.incoming refl (its_receive xs place o at i) es)
      (λ fs now k. put_open xs place o now at i k.0 k.1)

  put_look : (xs : List Record) (place : ℕ) (l now : Lookup) → lookup_at xs place ≡ Some l → Quietly xs → Quietly
      (lookup_put xs place now)
  put_look xs place l now at i = (
    no_more_then i.0 (record {
      tcp = λ k none. ap tcp_begins (other_put lookup_sort tcp_sort (λ t. refl) xs place l now k at) ∙ none;
      udp = λ k none. ap (λ (u : Option UdpRecord). udp_begins (open_of u))
          (other_put lookup_sort udp_sort (λ t. refl) xs place l now k at) ∙ none;
    }),
    λ k u e. i.1 k u (sym (other_put lookup_sort udp_sort (λ t. refl) xs place l now k at) ∙ e),
  )

  turns_lookup : (xs : List Record) (place : ℕ) (o : Option Lookup) → lookup_at xs place ≡ o → (es : List Entry) →
      Quietly xs → Allows Anything (λ fs now. Quietly now) es (turn_lookup_at xs place o)
  turns_lookup xs place None at es i = i
  turns_lookup xs place (Some l) at es i =
      allows_then Anything (λ fs now. ⊤) (λ fs now. Quietly now) es (turn_lookup l) _
      (whatever (λ now. ⊤) (λ now. tt) es (turn_lookup l)) (λ fs now k. put_look xs place l now at i)

  pub turns_job : (one : HostJob) (xs : List Record) (es : List Entry) → Quietly xs → Allows Anything
      (λ fs now. Quietly now) es (turn_job xs one)
  turns_job (job.Write place) xs es i = turns_tcp xs place (tcp2_at xs place) refl es i
  turns_job (job.Datagram place) xs es i = turns_datagram xs place (open_at xs place) refl es i
  turns_job (job.Receive place) xs es i = turns_receive xs place (open_at xs place) refl es i
  turns_job (job.Lookup place) xs es i = turns_lookup xs place (lookup_at xs place) refl es i

  turns_jobs : (kept jobs : List HostJob) (xs : List Record) (es : List Entry) → Quietly xs → Allows Anything
      (λ fs done. Quietly done.1) es (turn_jobs kept jobs xs)
  turns_jobs kept [] xs es i = i
  turns_jobs kept (one ∷ jobs) xs es i = allows_then Anything (λ fs now. Quietly now) (λ fs done. Quietly done.1) es
      (turn_job xs one) _ (turns_job one xs es i) (λ fs now k. turns_jobs _ jobs now fs k)

pub turn_no_more : (m : Machine) → AllGo m.store.records → Meets
    (λ es done. BeginsNoMore m.store.records done.1.store.records) [] (turn_machine_asks m)
turn_no_more m go = onto _ (onto _
    (widen (λ es done k. k.0)
    (record {
      along = turns_jobs m.store.records [] m.store.jobs m.store.records [] (no_more_same m.store.records, go);
    })))

-- Looks at pollables, as moves: one of a line, or of a call that it polls, which begins nothing. What begins has the next name of the
-- line.
use Rattle.wasi_walks.proofs.walks.Jobs.{one_begins, udp_is_record}
use Rattle.std.specs.Prelude.{slice_get}
use Rattle.std.specs.Prelude.{◌≡◌, ℕ, ◌+◌, not, Bool, true, false, List, Option, Some, None, Result, Ok}
use Rattle.wasi_walks.proofs.Words.{Accepts, Asks, Give, Has, InProgress, Listening, Machine, Records, Step, Stop, TcpRecord, WasiSocketsCtx, Watched}
use Rattle.wasi_walks.proofs.Words.{ap, bind, handles_of, if◌then◌else◌, is_connect, is_nothing, kind_at, own_of, place_in, ready_on, refl, subst, sym, watch_of, with_listening, with_store, ready_end, ◌∙◌}
use Rattle.wasi_world.specs.declared.ids.Ids.{Ids}
use Rattle.host_udp.specs.DatagramCalls.{begins_receive, ready_incoming_at}
use Rattle.host_store.specs.Jobs.{with_job}
use Rattle.tcp_records.specs.Looks.{begins_accept, socket_begins}
use Rattle.udp_records.specs.Receiving.{would_receive, has_none}
use Rattle.wasi_host.specs.Polling.{begins_on, tcp_begins, udp_begins}
use Rattle.host_store.specs.Readiness.{ready_at}
use Rattle.tcp_records.specs.Looks.{ready_idle, ready_listening, ready_socket_by}
use Rattle.udp_records.specs.Receiving.{fetch_asks, look_incoming, receives, with_incoming}
use Rattle.wasi_records.specs.Records.{open_at, tcp2_at, udp2_at}
use Rattle.host_store.specs.Store.{with_open_udp}
use Rattle.udp_records.specs.declared.datagrams.Incoming.{Incoming}
use Rattle.udp_records.specs.declared.datagrams.Receiving.{Receiving}
use Rattle.wasi_jobs.specs.declared.job.HostJob.TheVariants.{Receive}
use Rattle.udp_records.specs.declared.udp.OpenUdp.{OpenUdp}
use Rattle.udp_records.specs.declared.udp.UdpRecord.{UdpRecord}
use Rattle.wasi_tcp.specs.Listener.{has_accept}
use Rattle.wasi_walks.specs.Licence.{Receives}
use Rattle.wasi_walks.proofs.walks.Here.{MayBegin, after}
use Rattle.wasi_walks.proofs.walks.Moves.{Calls, FoundUdp, Here, Lists, Names, OfPollables, Own, ReachesHandle, ReachesUdp, part_of, put, put_udp, tcp_place}
use Rattle.wasi_walks.proofs.walks.Law.{HasRecord, Law, Walks, and_then, ends, from, give, gives, move, put_same}
use Rattle.wasi_walks.proofs.walks.Receives.{begun_walks, incoming_is}
use Rattle.wasi_walks.proofs.walks.Accepts.{listener_walks}
use Rattle.wasi_walks.proofs.walks.Sockets.{finish_walks}
use Rattle.wasi_walks.proofs.walks.States.{there, watch_record, watch_udp}
use Rattle.wasi_walks.proofs.walks.Streams.{ready_reader_walks, ready_writer_walks}
use Rattle.wasi_walks.proofs.walks.Udp.{open_is, udp_there}
use Rattle.wasi_walks.proofs.walks.UdpLaw.{HasUdp, udp_put_same}
use Rattle.wasi_walks.proofs.Places.{put_finds, udp_sort}

-- a call on pollables is done for line n, which named these handles
abbrev pub Looking : ℕ → List ℕ → Option (ℕ × ℕ) → Own → Machine → Here
Looking n handles at own m = record { machine = m; at = at; made = Calls OfPollables n handles; own = own }

-- the names of this line from this part on
abbrev pub names_from : ℕ → ℕ → Ids
names_from n part = record { line = n; next_part = part }

-- a socket that connects isn't idle
pub connecting_begins : (r : TcpRecord) → is_connect r.in_progress ≡ true → socket_begins r ≡ false
connecting_begins r e = by_progress r.in_progress e
  where
    by_progress : (doing : InProgress) → is_connect doing ≡ true → (if is_nothing doing then begins_accept r.listening else false) ≡ false
    by_progress InProgress.Nothing e = absurd (cc)
    by_progress _ e = refl

module _ {contexts : List WasiSocketsCtx} {line : ℕ} {origin : Step} (law : Law contexts line origin) where
  -- == at a TCP socket
  module _ {h : Here} {place n : ℕ} (here : HasRecord h place) (at : h.at ≡ Some (place, n)) (part : ℕ) where
    -- what it leaves of the record, and what began
    abbrev After : {A : Type 0} → Bool → A × TcpRecord → Here
    After begins done = record (put h place done.1) { own = after h.own part begins }

    listening_walks : (r : TcpRecord) (l : Listening) → r.listening ≡ l → MayBegin line n part h.own (begins_accept l) → Walks law (put h place r) (After (begins_accept l)) (ready_listening (names_from n part) r l)
    listening_walks r (Accepts l) e may =
        let begins = not (has_accept l.accept) in
        and_then {mid = λ done. record (put h place (with_listening r (Accepts done.1))) { own = after h.own part begins }} (listener_walks here at r l (ready_end l) part l.accept e refl may (λ now. give _)) (λ done. give _)
    listening_walks r _ e may = give _

    idle_walks : (r : TcpRecord) (idle : Bool) → (let begins = if idle then begins_accept r.listening else false in MayBegin line n part h.own begins → Walks law (put h place r) (After begins) (ready_idle (names_from n part) r idle))
    idle_walks r true may = listening_walks r r.listening refl may
    idle_walks r false may = give _

    socket_walks : (r : TcpRecord) (connects : Bool) → is_connect r.in_progress ≡ connects → MayBegin line n part h.own (socket_begins r) → Walks law (put h place r) (After (socket_begins r)) (ready_socket_by (names_from n part) r connects)
    socket_walks r true e may = ends (λ done. ap (λ (b : Bool). After b done) (sym (connecting_begins r e))) (and_then (finish_walks here r) (λ done. give _))
    socket_walks r false e may = idle_walks r (is_nothing r.in_progress) may

  -- == at the incoming stream of a UDP socket
  module _ {h : Here} {place : ℕ} (here : HasUdp h place) (n part : ℕ) where
    -- a receive begins, unless the stream has one, or its result
    fetch_walks : (o : OpenUdp) (inc : Incoming) (receiving : Receiving) → inc.receiving ≡ receiving → (has_none receiving ≡ true → (h.at ≡ Some (place, line)) × Receives origin) → MayBegin line n part h.own (has_none receiving)
        → Walks law (put_udp h place (UdpRecord.Open (with_incoming o (o.inner, inc)))) (λ now. record (put_udp h place (UdpRecord.Open now)) { own = after h.own part (has_none receiving) }) (bind (fetch_asks (part_of n part) receiving (o.inner, inc)) (λ s. Give (with_incoming o s)))
    unfolding bind
    fetch_walks o inc Receiving.Nothing e at may =
        let its = may refl in
        let old = UdpRecord.Open (with_incoming o (o.inner, inc)) in
        from (ap (λ (own : Own). record (put_udp h place old) { own = own }) (sym its.1))
        (subst (λ (x : ℕ). Walks law (record (put_udp h place old) { own = Names part }) (λ now. record (put_udp h place (UdpRecord.Open now)) { own = Names (part + 1) }) (bind (fetch_asks (part_of x part) Receiving.Nothing (o.inner, inc)) (λ s. Give (with_incoming o s)))) (sym its.0)
        (and_then (begun_walks here (at refl).0 (at refl).1 part o o.inner inc e) (λ s. give _)))
    fetch_walks o inc _ e at may = give _

    incoming_walks : (o : OpenUdp) (inc : Option Incoming) → o.incoming ≡ inc → (would_receive inc ≡ true → (h.at ≡ Some (place, line)) × Receives origin) → MayBegin line n part h.own (would_receive inc)
        → Walks law (put_udp h place (UdpRecord.Open o)) (λ now. record (put_udp h place (UdpRecord.Open now)) { own = after h.own part (would_receive inc) }) (look_incoming (names_from n part) o inc)
    incoming_walks o None e at may = give _
    incoming_walks o (Some inc) e at may = from (incoming_is h place o inc e) (fetch_walks o inc inc.receiving refl at may)

  -- == what is watched
  module _ (n : ℕ) (handles : List ℕ) (m : Machine) (own : Own) (part : ℕ) where
    abbrev On : ℕ → Here
    On place = Looking n handles (Some (place, n)) own m

    socket_at : (place : ℕ) (o : Option TcpRecord) → tcp2_at m.store.records place ≡ o → MayBegin line n part own (tcp_begins o)
        → Walks law (On place) (λ done. Looking n handles (Some (place, n)) (after own part (tcp_begins o)) (record m { store = done.1 })) (ready_at m.store (own_of n) (names_from n part) (Watched.Socket place) place o)
    socket_at place None g may = give _
    socket_at place (Some r) g may = from (put_same (On place) place r g) (and_then (socket_walks (there {h = On place} g) refl part r (is_connect r.in_progress) refl may) (λ done. give _))

    input_at : (place : ℕ) (o : Option TcpRecord) → tcp2_at m.store.records place ≡ o → Walks law (On place) (λ done. Looking n handles (Some (place, n)) own (record m { store = done.1 })) (ready_at m.store (own_of n) (names_from n part) (Watched.Input place) place o)
    input_at place None g = give _
    input_at place (Some r) g = from (put_same (On place) place r g) (and_then (ready_reader_walks (there {h = On place} g) refl r r.streams refl) (λ done. give _))

    output_at : (place : ℕ) (o : Option TcpRecord) → tcp2_at m.store.records place ≡ o → Walks law (On place) (λ done. Looking n handles (Some (place, n)) own (record m { store = done.1 })) (ready_at m.store (own_of n) (names_from n part) (Watched.Output place) place o)
    output_at place None g = give _
    output_at place (Some r) g = from (put_same (On place) place r g) (and_then (ready_writer_walks (there {h = On place} g) refl r r.streams refl) (λ done. give _))

    -- a receive that begins is a job
    listed_at : (at : Option (ℕ × ℕ)) (now : Own) (place : ℕ) (ready : Bool) (store : Records) (begins : Bool) (u : UdpRecord) → udp2_at store.records place ≡ Some u → (let done : Result Bool Stop × Records = (Ok ready, with_job store (Receive place) begins) in Walks law (Looking n handles at now (record m { store = store })) (λ done. Looking n handles at now (record m { store = done.1 })) (Give done))
    listed_at at now place ready store true u e = gives _ (Lists _ _ (one_begins store.records store.jobs (Receive place) (udp_is_record (slice_get store.records place) u e)))
    listed_at at now place ready store false u e = give _

    incoming_at : (at : Option (ℕ × ℕ)) (place : ℕ) (o : Option OpenUdp) → open_at m.store.records place ≡ o → (udp_begins o ≡ true → (at ≡ Some (place, line)) × Receives origin) → MayBegin line n part own (udp_begins o)
        → Walks law (Looking n handles at own m) (λ done. Looking n handles at (after own part (udp_begins o)) (record m { store = done.1 })) (ready_incoming_at m.store (names_from n part) place o)
    incoming_at at place None g named may = give _
    incoming_at at place (Some o) g named may =
        let h = Looking n handles at own m in
        let found : FoundUdp h place (UdpRecord.Open o) = open_is (udp2_at m.store.records place) o g in
        from (udp_put_same h place (UdpRecord.Open o) found)
        (and_then (incoming_walks (udp_there {h = h} found) n part o o.incoming refl named may) (λ now. listed_at at (after own part (would_receive o.incoming)) place (not (receives now.incoming)) (with_open_udp m.store place now) (begins_receive o now) (UdpRecord.Open now) (put_finds udp_sort m.store.records place (UdpRecord.Open o) (UdpRecord.Open now) found)))

    -- A look leaves the line at the record of one of its handles, or where it was.
    pub record Looked (at : Option (ℕ × ℕ)) (now : Own) (asks : Asks (Result Bool Stop × Machine)) : Type 0 where
      pub left : Option (ℕ × ℕ)
      pub walks : Walks law (Looking n handles at own m) (λ done. Looking n handles left now done.1) asks

    module _ (at : Option (ℕ × ℕ)) (p : ℕ) (named : Has handles p) where
      -- of a TCP socket
      reached : (w : Watched) (now : Own) → tcp_place w ≡ Some (place_in w) → watch_of (kind_at m.table p) ≡ Some w
          → Walks law (On (place_in w)) (λ done. Looking n handles (Some (place_in w, n)) now (record m { store = done.1 })) (ready_at m.store (own_of n) (names_from n part) w (place_in w) (tcp2_at m.store.records (place_in w)))
          → Looked at now (bind (ready_at m.store (own_of n) (names_from n part) w (place_in w) (tcp2_at m.store.records (place_in w))) (λ done. Give (with_store m done)))
      reached w now t e k = record { left = Some (place_in w, n); walks = move (ReachesHandle _ OfPollables n p (place_in w) handles refl named (watch_record (kind_at m.table p) w e ∙ t)) (and_then k (λ done. give _)) }

      -- of an incoming stream
      came : (place : ℕ) (b : Bool) → udp_begins (open_at m.store.records place) ≡ b → watch_of (kind_at m.table p) ≡ Some (Watched.Incoming place) → MayBegin line n part own (udp_begins (open_at m.store.records place)) → (udp_begins (open_at m.store.records place) ≡ true → Has (handles_of origin) p × Receives origin)
          → Looked at (after own part (udp_begins (open_at m.store.records place))) (bind (ready_incoming_at m.store (names_from n part) place (open_at m.store.records place)) (λ done. Give (with_store m done)))
      came place true b e may its = record {
        left = Some (place, line);
        walks = move (ReachesUdp _ p place (its b).0 (watch_udp (kind_at m.table p) (Watched.Incoming place) e)) (and_then (incoming_at (Some (place, line)) place (open_at m.store.records place) refl (λ t. (refl, (its b).1)) may) (λ done. give _));
      }
      came place false b e may its = record { left = at; walks = and_then (incoming_at at place (open_at m.store.records place) refl (λ t. absurd (not_both b t)) may) (λ done. give _) }
        where
          not_both : {c : Bool} → c ≡ false → c ≡ true → ⊥
          not_both x y = absurd (cc)

      -- where something begins, the line's step names the pollable, and receives
      pub ready_walks : (o : Option Watched) → watch_of (kind_at m.table p) ≡ o → MayBegin line n part own (begins_on m.store o) → (begins_on m.store o ≡ true → Has (handles_of origin) p × Receives origin) → Looked at (after own part (begins_on m.store o)) (ready_on m (names_from n part) o)
      ready_walks None e may its = record { left = at; walks = give _ }
      ready_walks (Some (Watched.Udp place)) e may its = record { left = at; walks = give _ }
      ready_walks (Some Watched.Plain) e may its = record { left = at; walks = give _ }
      ready_walks (Some (Watched.Outgoing place)) e may its = record { left = at; walks = give _ }
      ready_walks (Some (Watched.Lookup place)) e may its = record { left = at; walks = give _ }
      ready_walks (Some (Watched.Incoming place)) e may its = came place (udp_begins (open_at m.store.records place)) refl e may its
      ready_walks (Some (Watched.Socket place)) e may its = reached (Watched.Socket place) _ refl e (socket_at place (tcp2_at m.store.records place) refl may)
      ready_walks (Some (Watched.Input place)) e may its = reached (Watched.Input place) _ refl e (input_at place (tcp2_at m.store.records place) refl)
      ready_walks (Some (Watched.Output place)) e may its = reached (Watched.Output place) _ refl e (output_at place (tcp2_at m.store.records place) refl)

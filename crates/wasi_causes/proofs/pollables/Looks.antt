-- A look at a pollable: it finds something out where what is watched is there, and keeps what others watch.
use Rattle.wasi_causes.proofs.Words.{◌≡◌, ◌∙◌, ℕ, Bool, true, false, List, [], ◌∷◌, Option, Some, None, Result, Ok, Err, refl, sym, subst, ap, inl, inr, Entry, Give, HandleTable, Left, Listening, Machine, NoSuchHandle, Records, Stop, Streams, TcpRecord, Trap, Watched, is_connect, is_nothing, kind_at, own_of, ready_asks, ready_on, streams_in, watch_of, with_job, with_socket, with_store}
use Rattle.wasi_world.specs.declared.ids.Ids.{Ids}
use Rattle.wasi_tcp.specs.Connecting.{finish_connect_asks}
use Rattle.wasi_tcp.specs.Listener.{listener_ready_asks}
use Rattle.wasi_tcp.specs.Reader.{reader_ready_asks}
use Rattle.wasi_tcp.specs.Writer.{look_asks}
use Rattle.wasi_jobs.specs.declared.job.HostJob.TheVariants.{Receive}
use Rattle.host_store.specs.declared.kind.Watched.TheVariants as watched
use Rattle.tcp_records.specs.declared.tcp_listening.Listening.TheVariants as listening
use Rattle.wasi_host.specs.declared.polling.Look.{Look}
use Rattle.wasi_host.specs.declared.polling.Look.TheVariants.{First, Later}
use Rattle.wasi_records.specs.declared.records.Record.{Record}
use Rattle.udp_records.specs.declared.udp.OpenUdp.{OpenUdp}
use Rattle.udp_records.specs.declared.udp.UdpRecord.{UdpRecord}
use Rattle.udp_records.specs.declared.udp.UdpRecord.TheVariants.{Open}
use Rattle.host_udp.specs.DatagramCalls.{begins_receive, ready_incoming_at}
use Rattle.wasi_host.specs.Polling.{begins_at, begins_on, look_at_pollable, look_later, tcp_begins, udp_begins}
use Rattle.host_store.specs.Readiness.{ready_at, ready_put, ready_record}
use Rattle.tcp_records.specs.Looks.{ready_idle, ready_listening, ready_reader, ready_socket, ready_socket_by, ready_writer}
use Rattle.udp_records.specs.Receiving.{look_incoming}
use Rattle.wasi_records.specs.Records.{open_at, open_put, tcp2_at, tcp2_put, udp2_at}
use Rattle.udp_records.specs.Udp.{open_of}
use Rattle.host_store.specs.Store.{with_open_udp}
use Rattle.wasi_walks.proofs.walks.Udp.{open_is}
use Rattle.wasi_walks.specs.Missing.{MissesOneOf, MissesRecord, MissesWatched}
use Rattle.wasi_causes.proofs.tables.Meets.{Meets, Rows, both, ends, onto, whatever, widen}
use Rattle.wasi_causes.proofs.tables.Parts.{by_left}
use Rattle.wasi_causes.proofs.tables.Routes.{put_store_same}
use Rattle.wasi_causes.specs.PollableCalls.{Finds, FindsAgain, FindsFirst, FindsToBegin}
use Rattle.wasi_walks.proofs.Places.{put_stays, put_still, tcp_sort, udp_sort}

-- == what is watched stays there
-- Sockets, streams and open UDP sockets that were there are.
pub record WatchedStay (old now : List Record) : Type 0 where
  pub sockets : (k : ℕ) → tcp2_at now k ≡ None → tcp2_at old k ≡ None
  pub streams : (k : ℕ) → streams_in (tcp2_at now k) ≡ None → streams_in (tcp2_at old k) ≡ None
  pub opens : (k : ℕ) → open_at now k ≡ None → open_at old k ≡ None

pub stay_same : (xs : List Record) → WatchedStay xs xs
stay_same xs = record { sockets = λ k h. h; streams = λ k h. h; opens = λ k h. h }

stay_then : {one two three : List Record} → WatchedStay one two → WatchedStay two three → WatchedStay one three
stay_then s t = record { sockets = λ k h. s.sockets k (t.sockets k h); streams = λ k h. s.streams k (t.streams k h); opens = λ k h. s.opens k (t.opens k h) }

-- the record of a TCP socket changes, and keeps its streams
module _ (xs : List Record) (i : ℕ) (r now : TcpRecord) (at : tcp2_at xs i ≡ Some r) (keeps : now.streams ≡ None → r.streams ≡ None) where
  socket_stays : (k : ℕ) (o : Option TcpRecord) → tcp2_at xs k ≡ o → tcp2_at (tcp2_put xs i now) k ≡ None → o ≡ None
  socket_stays k None e none = refl
  socket_stays k (Some x) e none = elim (put_stays tcp_sort xs i now k x e) [ inl same ↦ absurd (cc) | inr changed ↦ absurd (let its = changed.1 in cc) ]

  streams_stay : (k : ℕ) (o : Option TcpRecord) → tcp2_at xs k ≡ o → streams_in (tcp2_at (tcp2_put xs i now) k) ≡ None → streams_in o ≡ None
  streams_stay k None e none = refl
  streams_stay k (Some x) e none = elim (put_stays tcp_sort xs i now k x e) [
    | inl same ↦ sym (ap streams_in same) ∙ none
    | inr changed ↦ let was : tcp2_at xs i ≡ Some x = subst (λ (j : ℕ). tcp2_at xs j ≡ Some x) changed.0 e in let its : r ≡ x = cc in subst (λ (y : TcpRecord). y.streams ≡ None) its (keeps (sym (ap streams_in changed.1) ∙ none))
  ]

  open_stays : (k : ℕ) (o : Option UdpRecord) → udp2_at xs k ≡ o → open_at (tcp2_put xs i now) k ≡ None → open_of o ≡ None
  open_stays k None e none = refl
  open_stays k (Some u) e none = sym (ap open_of (put_still tcp_sort udp_sort (λ t. refl) xs i r now k u at e)) ∙ none

  stay_put : WatchedStay xs (tcp2_put xs i now)
  stay_put = record { sockets = λ k. socket_stays k (tcp2_at xs k) refl; streams = λ k. streams_stay k (tcp2_at xs k) refl; opens = λ k. open_stays k (udp2_at xs k) refl }

-- that of an open UDP socket changes
module _ (xs : List Record) (i : ℕ) (o now : OpenUdp) (at : udp2_at xs i ≡ Some (Open o)) where
  socket_too : (k : ℕ) (was : Option TcpRecord) → tcp2_at xs k ≡ was → tcp2_at (open_put xs i now) k ≡ None → was ≡ None
  socket_too k None e none = refl
  socket_too k (Some x) e none =
      let same = put_still udp_sort tcp_sort (λ t. refl) xs i (Open o) (Open now) k x at e in absurd (cc)

  streams_too : (k : ℕ) (was : Option TcpRecord) → tcp2_at xs k ≡ was → streams_in (tcp2_at (open_put xs i now) k) ≡ None → streams_in was ≡ None
  streams_too k None e none = refl
  streams_too k (Some x) e none =
      sym (ap streams_in (put_still udp_sort tcp_sort (λ t. refl) xs i (Open o) (Open now) k x at e)) ∙ none

  open_too : (k : ℕ) (was : Option UdpRecord) → udp2_at xs k ≡ was → open_at (open_put xs i now) k ≡ None → open_of was ≡ None
  open_too k None e none = refl
  open_too k (Some u) e none = elim (put_stays udp_sort xs i (Open now) k u e) [ inl same ↦ sym (ap open_of same) ∙ none | inr changed ↦ absurd (let its : open_at (open_put xs i now) k ≡ Some now = ap open_of changed.1 in cc) ]

  stay_open : WatchedStay xs (open_put xs i now)
  stay_open = record { sockets = λ k. socket_too k (tcp2_at xs k) refl; streams = λ k. streams_too k (tcp2_at xs k) refl; opens = λ k. open_too k (udp2_at xs k) refl }

-- == what a look keeps
-- The handles and what is pending, and what is watched stays there.
pub record LookKeeps (m after : Machine) : Type 0 where
  pub table : after.table ≡ m.table
  pub standing : after.store.standing ≡ m.store.standing
  pub there : WatchedStay m.store.records after.store.records

pub keeps_same : (m : Machine) → LookKeeps m m
keeps_same m = record { table = refl; standing = refl; there = stay_same m.store.records }

pub keeps_then : {one two three : Machine} → LookKeeps one two → LookKeeps two three → LookKeeps one three
keeps_then s t = record { table = t.table ∙ s.table; standing = t.standing ∙ s.standing; there = stay_then s.there t.there }

module _ (m after : Machine) (there : WatchedStay m.store.records after.store.records) where
  missed_on : (o : Option Watched) → MissesWatched after o → MissesWatched m o
  missed_on None h = tt
  missed_on (Some (watched.Socket place)) h = there.sockets place h
  missed_on (Some (watched.Input place)) h = there.streams place h
  missed_on (Some (watched.Output place)) h = there.streams place h
  missed_on (Some (watched.Incoming place)) h = there.opens place h
  missed_on (Some (watched.Udp place)) h = h
  missed_on (Some (watched.Outgoing place)) h = h
  missed_on (Some (watched.Lookup place)) h = h
  missed_on (Some watched.Plain) h = h

  module _ (table : after.table ≡ m.table) where
    -- what isn't there afterwards wasn't before
    pub missed_before : (p : ℕ) → MissesWatched after (watch_of (kind_at after.table p)) → MissesWatched m (watch_of (kind_at m.table p))
    missed_before p h = missed_on (watch_of (kind_at m.table p)) (subst (λ (t : HandleTable). MissesWatched after (watch_of (kind_at t p))) table h)

    pub missed_one : (ps : List ℕ) → MissesOneOf after ps → MissesOneOf m ps
    missed_one [] h = h
    missed_one (p ∷ ps) (inl h) = inl (missed_before p h)
    missed_one (p ∷ ps) (inr h) = inr (missed_one ps h)

-- == in the record of a TCP socket
module _ (ids : Ids) (r : TcpRecord) where
  abbrev RecordRow : Watched → Rows (Result Bool Stop × TcpRecord)
  RecordRow w es (Ok b, now) = (now.streams ≡ None → r.streams ≡ None) × (MissesRecord w (Some r) → ⊥)
  RecordRow w es (Err (Trap NoSuchHandle), now) = MissesRecord w (Some r) × (es ≡ []) × (now ≡ r)
  RecordRow w es (Err _, now) = ⊥

  module _ (place : ℕ) where
    by_listening : (l : Listening) → Meets (RecordRow (watched.Socket place)) [] (ready_listening ids r l)
    by_listening (listening.Accepts l) = onto _ (widen (λ es done k. (λ h. h, λ e. cc)) (whatever (listener_ready_asks l ids)))
    by_listening _ = ends (λ h. h, λ e. cc)

    by_nothing : (b : Bool) → Meets (RecordRow (watched.Socket place)) [] (ready_idle ids r b)
    by_nothing true = by_listening r.listening
    by_nothing false = ends (λ h. h, λ e. cc)

    by_progress : (b : Bool) → Meets (RecordRow (watched.Socket place)) [] (ready_socket_by ids r b)
    by_progress true = onto _ (widen (λ es done k. (λ h. h, λ e. cc)) (whatever (finish_connect_asks r.inner)))
    by_progress false = by_nothing (is_nothing r.in_progress)

    at_socket : Meets (RecordRow (watched.Socket place)) [] (ready_socket ids r)
    at_socket = by_progress (is_connect r.in_progress)

    at_input : (o : Option Streams) → r.streams ≡ o → Meets (RecordRow (watched.Input place)) [] (ready_reader (own_of ids.line) r o)
    at_input None has = ends (has, refl, refl)
    at_input (Some s) has = onto _ (widen (λ es done k. (λ h. absurd (cc), λ e. cc)) (whatever (reader_ready_asks (own_of ids.line) s.reader)))

    at_output : (o : Option Streams) → r.streams ≡ o → Meets (RecordRow (watched.Output place)) [] (ready_writer (own_of ids.line) r o)
    at_output None has = ends (has, refl, refl)
    at_output (Some s) has = onto _ (widen (λ es done k. (λ h. absurd (cc), λ e. cc)) (whatever (look_asks (own_of ids.line) s.writer)))

-- == by what is watched
pub job_stays : (store : Records) (place : ℕ) (o now : OpenUdp) (b : Bool) →
    ((with_job (with_open_udp store place now) (Receive place) b).standing ≡ store.standing) ×
    ((with_job (with_open_udp store place now) (Receive place) b).records ≡ open_put store.records place now)
job_stays store place o now true = (refl, refl)
job_stays store place o now false = (refl, refl)

module _ (m : Machine) where
  -- what is found, where it is there
  abbrev pub FoundRow : Option Watched → Rows (Result Bool Stop × Machine)
  FoundRow o es (Ok b, now) = LookKeeps m now × (MissesWatched m o → ⊥)
  FoundRow o es (Err (Trap NoSuchHandle), now) = MissesWatched m o × (es ≡ []) × (now ≡ m)
  FoundRow o es (Err _, now) = ⊥

  module _ (ids : Ids) where
    module _ (w : Watched) (place : ℕ) (to_watched : MissesRecord w (tcp2_at m.store.records place) → MissesWatched m (Some w)) (of_watched : MissesWatched m (Some w) → MissesRecord w (tcp2_at m.store.records place)) where
      module _ (r : TcpRecord) (at : tcp2_at m.store.records place ≡ Some r) where
        put : TcpRecord → Machine
        put x = record m { store = with_socket m.store place x }

        left_so : (now : TcpRecord) → now ≡ r → record m { store = with_socket m.store place now } ≡ m
        unfolding put
        left_so now same = ap put same ∙ ap (λ (store : Records). let left : Machine = record m { store = store } in left) (put_store_same m.store place r at)

        said : (es : List Entry) (done : Result Bool Stop × TcpRecord) → RecordRow ids r w es done → FoundRow (Some w) es (with_store m (ready_put m.store place done))
        said es (Ok b, now) k = (record { table = refl; standing = refl; there = stay_put m.store.records place r now at k.0 }, λ none. k.1 (subst (MissesRecord w) at (of_watched none)))
        said es (Err (Trap NoSuchHandle), now) k = (to_watched (subst (MissesRecord w) (sym at) k.0), k.1, left_so now k.2)
        said es (Err _, now) k = absurd k

      -- a look in the record, where it is there
      in_record : MissesRecord w None → ((r : TcpRecord) → Meets (RecordRow ids r w) [] (ready_record (own_of ids.line) ids w r)) → (o : Option TcpRecord) → tcp2_at m.store.records place ≡ o
          → Meets (λ es done. FoundRow (Some w) es (with_store m done)) [] (ready_at m.store (own_of ids.line) ids w place o)
      in_record none by None at = ends (to_watched (subst (MissesRecord w) (sym at) none), refl, refl)
      in_record none by (Some r) at = onto _ (widen (said r at) (by r))

    in_incoming : (place : ℕ) (o : Option OpenUdp) → open_at m.store.records place ≡ o → Meets (λ es done. FoundRow (Some (watched.Incoming place)) es (with_store m done)) [] (ready_incoming_at m.store ids place o)
    in_incoming place None at = ends (at, refl, refl)
    in_incoming place (Some o) at =
        onto _ (widen (λ es now k. let stays = job_stays m.store place o now (begins_receive o now) in (record { table = refl; standing = stays.0; there = subst (WatchedStay m.store.records) (sym stays.1) (stay_open m.store.records place o now (open_is (udp2_at m.store.records place) o at)) }, λ none. absurd (cc)))
        (whatever (look_incoming ids o o.incoming)))

    by_watch : (o : Option Watched) → Meets (FoundRow o) [] (ready_on m ids o)
    by_watch None = ends (tt, refl, refl)
    by_watch (Some watched.Plain) = ends (keeps_same m, λ h. h)
    by_watch (Some (watched.Udp place)) = ends (keeps_same m, λ h. h)
    by_watch (Some (watched.Outgoing place)) = ends (keeps_same m, λ h. h)
    by_watch (Some (watched.Lookup place)) = ends (keeps_same m, λ h. h)
    by_watch (Some (watched.Incoming place)) = onto _ (in_incoming place (open_at m.store.records place) refl)
    by_watch (Some (watched.Socket place)) = onto _ (in_record (watched.Socket place) place (λ h. h) (λ h. h) refl (λ r. at_socket ids r place) (tcp2_at m.store.records place) refl)
    by_watch (Some (watched.Input place)) = onto _ (in_record (watched.Input place) place (λ h. h) (λ h. h) refl (λ r. at_input ids r place r.streams refl) (tcp2_at m.store.records place) refl)
    by_watch (Some (watched.Output place)) = onto _ (in_record (watched.Output place) place (λ h. h) (λ h. h) refl (λ r. at_output ids r place r.streams refl) (tcp2_at m.store.records place) refl)

    -- and what was asked and answered
    module _ (p : ℕ) where
      abbrev pub ReadyRow : Rows (Result Bool Stop × Machine)
      ReadyRow es done = Left (ready_asks m ids p) es (Give done) × FoundRow (watch_of (kind_at m.table p)) es done

      pub ready_facts : Meets ReadyRow [] (ready_asks m ids p)
      ready_facts = both (by_left (ready_asks m ids p) (λ es done w. w)) (by_watch (watch_of (kind_at m.table p)))

      -- == a look of a wait
      abbrev pub FindRow : Look → Rows (Result Bool Stop × Machine)
      FindRow look es (Ok b, now) = Finds m ids p look es b now × LookKeeps m now × (MissesWatched m (watch_of (kind_at m.table p)) → ⊥)
      FindRow look es (Err why, now) = FoundRow (watch_of (kind_at m.table p)) es (Err why, now)

      first : (es : List Entry) (done : Result Bool Stop × Machine) → ReadyRow es done → FindRow First es done
      first es (Ok b, now) k = (FindsFirst es b now k.0, k.1.0, k.1.1)
      first es (Err why, now) k = k.1

      again : begins_at m p ≡ false → (es : List Entry) (done : Result Bool Stop × Machine) → ReadyRow es done → FindRow Later es done
      again none es (Ok b, now) k = (FindsAgain es b now none k.0, k.1.0, k.1.1)
      again none es (Err why, now) k = k.1

      -- what would begin something is there
      pub begins_there : (o : Option Watched) → begins_on m.store o ≡ true → MissesWatched m o → ⊥
      begins_there (Some (watched.Socket place)) begins none = let nothing : begins_on m.store (Some (watched.Socket place)) ≡ false = ap tcp_begins none in cc
      begins_there (Some (watched.Incoming place)) begins none = let nothing : begins_on m.store (Some (watched.Incoming place)) ≡ false = ap udp_begins none in cc
      begins_there _ begins none = absurd (cc)

      later : (b : Bool) → begins_at m p ≡ b → Meets (FindRow Later) [] (look_later m ids p b)
      later true begins = ends (FindsToBegin begins, keeps_same m, begins_there (watch_of (kind_at m.table p)) begins)
      later false none = widen (again none) ready_facts

      pub find_facts : (look : Look) → Meets (FindRow look) [] (look_at_pollable look m ids p)
      find_facts First = widen first ready_facts
      find_facts Later = later (begins_at m p) refl

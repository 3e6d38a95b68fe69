-- What a shutdown and a drop of a handle release, and what a drop leaves.
use Rattle.wasi_causes.proofs.Words.{◌≡◌, Bool, true, false, if◌then◌else◌, List, [], ◌∷◌, ◌++◌, Option, Some, None, refl, sym, ap, ◌∙◌, ⊤, ◌⊎◌, append_assoc, ℕ, Result, inl, inr, Ok, Err, subst, ◌≢◌, IsSome, ShutdownType, gone, released, release_at, Stop, Trap, kind_at, output_of, has_no_child, without_handle, taken_out, place_of, socket_at, own_of, with_store, answered, at_once, drop_kind, drop_taken, drop_asks, shut_record, shutdown_at, Records, Kind, Tcp2, Output, Machine, Streams, TcpRecord, shutdown_on, record_at, putting, record_in, OfRecord, done_reply, answer_reply, Each, no_fields, OutputWaits, WritesOn, ToldToWait, WriterWaits, Field, Reply, side_of, WriteState, Give, bind, Entry, OpId, Answer, Ready, Pending, HasChildren, NoSuchHandle, Full, NotPermitted, WasiSocketsCtx}
use Rattle.wasi_machine.specs.Machine.{first_ids}
use Rattle.wasi_records.specs.Records.{tcp2_at, udp2_at, open_at, lookup_at, input_pipe_at, output_pipe_at}
use Rattle.host_lookups.specs.NameLookupCalls.{drop_lookup_at}
use Rattle.lookup_records.specs.declared.name_lookup.Lookup.{Lookup}
use Rattle.host_store.specs.declared.kind.Kind.TheVariants as kinds
use Rattle.udp_records.specs.Datagrams.{sends as still_sends}
use Rattle.host_udp.specs.DatagramCalls.{drop_incoming_at, drop_outgoing_at, drop_outgoing_by, without_receives}
use Rattle.udp_records.specs.declared.udp.OpenUdp.{OpenUdp}
use Rattle.udp_records.specs.Udp.{close_udp_asks}
use Rattle.host_udp.specs.UdpCalls.{release_udp_at, udp_closed}
use Rattle.host_store.specs.Store.{with_open_udp}
use Rattle.host_store.specs.declared.kind.Kind.TheVariants.{Udp2, Incoming, Outgoing}
use Rattle.udp_records.specs.declared.udp.UdpRecord.{UdpRecord}
use Rattle.udp_records.specs.declared.udp.UdpRecord.TheVariants as udp
use Rattle.wasi_causes.specs.Udp.{putting_udp, udp_given_up, udp_left}
use Rattle.wasi_causes.proofs.GivenBack.{no_job, put_gone}
use Rattle.host_udp.specs.UdpCalls as calls
use Rattle.wasi_records.specs.declared.records.Record.{Record}
use Rattle.wasi_causes.proofs.streams.Halves.{OutputRow, outputs}
use Rattle.wasi_causes.proofs.tables.Meets.{Rows, Meets, ends, asks, chain, onto, shifted, told_so, widen}
use Rattle.wasi_causes.proofs.tables.Routes.{Replied, Says, put_back, Names, its, on_record, apart, none_has}
use Rattle.wasi_causes.specs.GivenUp.{LetsGo, ListenerGoes, streams_given_up, side_closed, listening_given_up, socket_given_up, HasLiveChildren, without, LooksOnce, NoLook, OneLook, IsDropped, GoesAtOnce, IsGone}
use Rattle.wasi_causes.specs.Gone.{AsksOnce, Gone, ListenerGone, SocketGone, Socket3Gone, Udp3Gone, Udp3GoneBy, UdpGone}
use Rattle.wasi_causes.proofs.HeldUdp.{closes}
use Rattle.host_store.specs.Beside.{has_datagram}
use Rattle.host_udp.specs.SocketDatagrams.{is_udp_held, let_udp_go, udp_goes, without_udp_handle}
use Rattle.host_udp.specs.SocketDatagrams as udp_held
use Rattle.udp_records.specs.Udp.{open_of}
use Rattle.udp_records.specs.Udp.{without_udp_socket}
use Rattle.wasi_walks.proofs.walks.Udp.{open_is}
use Rattle.wasi_causes.specs.Outcomes.{Outcome, AreLike}
use Rattle.tcp_records.specs.Holding.{drop_listener_asks, drop_socket_asks, is_held, let_go_by, without_socket}
use Rattle.host_tcp.specs.Dropping.{left_so, let_go_at}
use Rattle.host_store.specs.Kinds.{none_in, outgoing_of}
use Rattle.tcp_records.specs.Listening.{with_listening}
use Rattle.tcp_records.specs.Shutdowns.{with_streams}
use Rattle.host_tcp.specs.TcpCalls.{shut_put}
use Rattle.tcp_records.specs.declared.tcp_listening.Listening.TheVariants as listening
use Rattle.wasi_steps.specs.declared.reply.CodeWord.TheVariants as word
use Rattle.wasi_steps.specs.declared.reply.Reply.TheVariants as reply
use Rattle.wasi_steps.specs.declared.guest_call.GuestCall.TheVariants as guest
use Rattle.wasi_steps.specs.declared.guest_call.TcpCall.TheVariants as tcp_call
use Rattle.wasi_steps.specs.declared.guest_call.PollableCall.TheVariants as pollable_call
use Rattle.wasi_steps.specs.declared.step.Step.TheVariants as step
use Rattle.wasi_table.specs.Table.{children_of}
use Rattle.wasi_world.specs.declared.call.Call.TheVariants as call
use Rattle.wasi_world.specs.declared.call.Told.TheVariants as told
use Rattle.wasi_world.specs.declared.outcome.TrapKind.TheVariants.{Capacity, StreamsAlive, EmptyList, TooLong}
use Rattle.memory_streams.specs.Plain.{Contents}
use Rattle.host_store.specs.declared.kind.PlainInput.TheVariants as plain_input
use Rattle.host_store.specs.declared.kind.PlainOutput.TheVariants as plain_output
use Rattle.host_streams.specs.PlainStreams.{drop_input_pipe_at, drop_output_pipe_at}
use Rattle.wasi_walks.proofs.Places.{put_again, put_finds, udp_sort}
use Rattle.wasi_causes.proofs.streams.EndsClosed.{read_end_goes, write_end_goes}
use Rattle.wasi_causes.specs.P3Streams.{IsLetGo, ReadEndGoes, WriteEndGoes}
use Rattle.host_tcp.specs.ConnectionEnds.{drop_slot_in}
use Rattle.host_store.specs.declared.kind.ConnectionEnd.{ConnectionEnd}
use Rattle.wasi_records.specs.Records.{slot_at}
use Rattle.tcp_records.specs.declared.slot.Slot.{Slot}
use Rattle.wasi_causes.proofs.Releases.{Released, listening_up, releases, shuts}

none_there : (hs : List ℕ) → none_in hs ≡ true → hs ≡ []
none_there [] e = refl
none_there (h ∷ hs) e = absurd (cc)

not_live : (o : Option Kind) → o ≡ None → IsSome o → ⊥
not_live None e h = cc
not_live (Some kind) e h = cc

no_fields_so : (fields : List Field) → AreLike (Each []) fields → fields ≡ no_fields
no_fields_so [] h = refl
no_fields_so (f ∷ fields) h = absurd h

pub dropped_free : (r : Reply) → IsDropped r → r ≢ reply.Busy
dropped_free r d e = let k : IsDropped reply.Busy = subst IsDropped e d in k

module _ (contexts : List WasiSocketsCtx) (m : Machine) (line c handle : ℕ) where
  abbrev own : OpId
  own = own_of line

  -- == a shutdown
  module _ (how : ShutdownType) where
    module _ (place : ℕ) (r : TcpRecord) (n : Names m handle place r) where
      by_streams : (o : Option Streams) → r.streams ≡ o → Meets (λ es done. (Replied contexts m line (step.Call c (guest.Tcp (tcp_call.Shutdown handle how))) done_reply) es (with_store m (shut_put m.store place done))) [] (shut_record own how r o)
      by_streams None has = ends (put_back (λ (after : Machine). Outcome contexts m line (step.Call c (guest.Tcp (tcp_call.Shutdown handle how))) [] (reply.Err word.InvalidState) after) m place r n.at ((λ e. rw (its n) has, λ k. refl), (refl, (refl, refl))))
      by_streams (Some s) has =
          onto _ (widen (λ es done k. (
            apart (λ e. cc) (λ h. let none : r.streams ≡ None = rw (its n) at h in cc),
            (tt, record { place = place; found = r; streams = s; names = n.names; at = n.at; has = has; holds = (k.0, ap (λ (now : Streams). putting m place (with_streams r now)) k.1) }),
          )) (shuts own how s))

    pub shutdown : Meets (Says contexts m line (step.Call c (guest.Tcp (tcp_call.Shutdown handle how)))) [] (bind (shutdown_on m own how (socket_at m handle)) (λ done. Give (done_reply done.0, done.1)))
    shutdown =
        onto _ (on_record m handle (shutdown_on m own how) (λ place o. shutdown_at m.store own how place o) refl (λ place. refl) (λ place. refl) (λ none. (apart (λ e. cc) (none_has _ (record_at m handle) none), (none, (refl, refl)))) (λ place r n. onto _ (by_streams place r n r.streams refl)))

  -- == a drop
  abbrev DropRow : Rows (Result (Answer (Unit {0})) Stop × Machine)
  DropRow es done = Outcome contexts m line (step.Call c (guest.Pollable (pollable_call.Drop handle))) es (answer_reply line done.0) done.1

  abbrev IsKind : Kind → Type 0
  IsKind kind = kind_at m.table handle ≡ Some kind

  asks_none : (o : Option Kind) → AsksOnce line o []
  asks_none (Some (Tcp2 place)) = tt
  asks_none (Some (kinds.Tcp3 place)) = tt
  asks_none (Some (Udp2 place)) = tt
  asks_none (Some (kinds.Udp3 place)) = tt
  asks_none (Some (kinds.Listen3 place)) = tt
  asks_none (Some (kinds.Receive3 end)) = tt
  asks_none (Some (kinds.Send3 end)) = tt
  asks_none (Some (Output place)) = NoLook
  asks_none _ = refl

  module _ (childless : has_no_child m.table handle ≡ true) where
    no_children : HasLiveChildren m handle → ⊥
    no_children h = h.children (none_there (children_of m.table.live handle) childless)

    -- == of a socket
    module _ (place : ℕ) (kind : Kind) (is : IsKind kind) (free : (es : List Entry) → AsksOnce line (Some kind) es) (its_gone : (es : List Entry) (after : Machine) → SocketGone m line handle place es after → Gone m line handle (Some kind) es after) where
      left : (r : TcpRecord) → tcp2_at m.store.records place ≡ Some r → (es : List Entry) (done : Unit {0} × TcpRecord) → Released own r es done.1 → DropRow es (answered (with_store (without m handle) (at_once (tt, released m.store place done.1))))
      left r at es done k = (
        (apart (λ e. cc) no_children, rw is (free es)),
        (tt, (refl, rw is (its_gone es _ (λ q there. let its : r ≡ q = cc in (rw (sym its) k.asked, record { left = put_gone (without m handle) place (Record.Tcp done.1); job = no_job place m.store.jobs }))))),
      )

      by_record : (o : Option TcpRecord) → tcp2_at m.store.records place ≡ o → Meets (λ es done. DropRow es (answered (with_store (without m handle) (at_once done)))) [] (release_at m.store own place o)
      by_record None at = ends ((apart (λ e. cc) no_children, rw is (free [])), (tt, (refl, rw is (its_gone [] _ (λ r there. absurd (cc))))))
      by_record (Some r) at = onto _ (widen (left r at) (releases own r))

    -- == of a socket of 0.3
    module _ (place : ℕ) (is : IsKind (kinds.Tcp3 place)) where
      its_drop : (es : List Entry) (store : Records) → Socket3Gone m line handle place es (record (without m handle) { store = store }) → DropRow es (answered (with_store (without m handle) (at_once (tt, store))))
      its_drop es store gone = ((apart (λ e. cc) no_children, rw is tt), (tt, (refl, rw is gone)))

      goes : (r : TcpRecord) → tcp2_at m.store.records place ≡ Some r → (es : List Entry) (after : Machine) → LetsGo m line handle place (without_socket r) es after → Socket3Gone m line handle place es after
      goes r at es after k = λ q there. let its : r ≡ q = cc in subst (λ (x : TcpRecord). LetsGo m line handle place (without_socket x) es after) its k

      lets_go : (r : TcpRecord) → tcp2_at m.store.records place ≡ Some r → (held : Bool) → is_held (without_socket r) ≡ held → Meets (λ es done. DropRow es (answered (with_store (without m handle) (at_once (left_so m.store place done))))) [] (let_go_by own (without_socket r) held)
      lets_go r at true e = ends (its_drop [] _ (goes r at [] _ (rw e (refl, refl))))
      lets_go r at false e = onto _ (widen (λ es done k. its_drop es _ (goes r at es _ (rw e (k.asked, record { left = put_gone (without m handle) place (Record.Tcp done.1); job = no_job place m.store.jobs })))) (releases own (without_socket r)))

      by_handle : (o : Option TcpRecord) → tcp2_at m.store.records place ≡ o → Meets (λ es done. DropRow es (answered (with_store (without m handle) (at_once done)))) [] (let_go_at m.store place (drop_socket_asks own) o)
      by_handle None at = ends (its_drop [] m.store (λ r there. absurd (cc)))
      by_handle (Some r) at = onto _ (lets_go r at (is_held (without_socket r)) refl)

    -- == of a listener
    module _ (place : ℕ) (is : IsKind (kinds.Listen3 place)) where
      listener_drop : (es : List Entry) (store : Records) → ListenerGone m line handle place es (record (without m handle) { store = store }) → DropRow es (answered (with_store (without m handle) (at_once (tt, store))))
      listener_drop es store gone = ((apart (λ e. cc) no_children, rw is tt), (tt, (refl, rw is gone)))

      listener_goes : (r : TcpRecord) → tcp2_at m.store.records place ≡ Some r → (es : List Entry) (after : Machine) → ListenerGoes m line handle place r es after → ListenerGone m line handle place es after
      listener_goes r at es after k = λ q there. let its : r ≡ q = cc in subst (λ (x : TcpRecord). ListenerGoes m line handle place x es after) its k

      module _ (r : TcpRecord) (at : tcp2_at m.store.records place ≡ Some r) where
        abbrev deaf : TcpRecord
        deaf = with_listening r listening.Not

        abbrev DeafRow : Rows (Bool × TcpRecord)
        DeafRow es done = DropRow es (answered (with_store (without m handle) (at_once (left_so m.store place done))))

        -- with what it listens by, it is what the whole socket releases
        all_up : (rest es : List Entry) → rest ≡ socket_given_up own deaf → es ≡ listening_given_up r.listening ++ rest → es ≡ socket_given_up own r
        all_up rest es asked cut = cut ∙ (ap (λ (xs : List Entry). listening_given_up r.listening ++ xs) asked ∙ sym (append_assoc (listening_given_up r.listening) (streams_given_up own r.streams) (side_closed own (side_of r.inner))))

        deaf_goes : (held : Bool) → is_held deaf ≡ held → Meets DeafRow (listening_given_up r.listening) (let_go_by own deaf held)
        deaf_goes true e = ends (listener_drop _ _ (listener_goes r at _ _ (rw e (refl, refl))))
        deaf_goes false e =
            onto _ (widen (λ es done k. listener_drop es _ (listener_goes r at es _ (rw e (all_up k.rest es k.row.asked k.cut, record { left = put_gone (without m handle) place (Record.Tcp done.1); job = no_job place m.store.jobs }))))
            (shifted (listening_given_up r.listening) (releases own deaf)))

        listener_lets_go : Meets DeafRow [] (drop_listener_asks own r)
        listener_lets_go = chain (listening_up r.listening) (λ es done first. subst (λ (fs : List Entry). Meets DeafRow fs (let_go_by own deaf (is_held deaf))) (sym first) (deaf_goes (is_held deaf) refl))

      by_listener : (o : Option TcpRecord) → tcp2_at m.store.records place ≡ o → Meets (λ es done. DropRow es (answered (with_store (without m handle) (at_once done)))) [] (let_go_at m.store place (drop_listener_asks own) o)
      by_listener None at = ends (listener_drop [] m.store (λ r there. absurd (cc)))
      by_listener (Some r) at = onto _ (listener_lets_go r at)

    -- == of an end of a stream of 0.3
    read_end_left : (end : ConnectionEnd) → IsKind (kinds.Receive3 end) → (es : List Entry) (store : Records) → ReadEndGoes (without m handle) own end es (record (without m handle) { store = store })
        → DropRow es (answered (with_store (without m handle) (at_once (tt, store))))
    read_end_left end is es store k = ((apart (λ e. cc) no_children, rw is tt), (tt, (refl, rw is k)))

    write_end_left : (end : ConnectionEnd) → IsKind (kinds.Send3 end) → (es : List Entry) (store : Records) → WriteEndGoes (without m handle) own end es (record (without m handle) { store = store })
        → DropRow es (answered (with_store (without m handle) (at_once (tt, store))))
    write_end_left end is es store k = ((apart (λ e. cc) no_children, rw is tt), (tt, (refl, rw is k)))

    -- and of its slot
    slot_left : (place : ℕ) → IsKind (kinds.Result3 place) → (o : Option Slot) → slot_at m.store.records place ≡ o → DropRow [] (Ok (Ready tt), record (without m handle) { store = drop_slot_in place m.store o })
    slot_left place is None at = ((apart (λ e. cc) no_children, asks_none (kind_at m.table handle)), (tt, (refl, rw is (λ s there. absurd (cc)))))
    slot_left place is (Some s) at = ((apart (λ e. cc) no_children, asks_none (kind_at m.table handle)), (tt, (refl, rw is (λ q there. record { left = refl; job = no_job place m.store.jobs }))))

    -- == of a UDP socket
    module _ (place : ℕ) (kind : Kind) (is : IsKind kind) (free : (es : List Entry) → AsksOnce line (Some kind) es) (its_gone : (es : List Entry) (after : Machine) → UdpGone m line handle place es after → Gone m line handle (Some kind) es after) where
      -- what it closed is given back
      abbrev UdpShut : UdpRecord → UdpRecord → Type 0
      UdpShut (udp.Open o) now = now ≡ udp.Closed o.inner.side
      UdpShut u now = now ≡ u

      abbrev UdpLeaves : UdpRecord → UdpRecord → Type 0
      UdpLeaves u now = record (without m handle) { store = calls.udp_left m.store place now } ≡ udp_left (without m handle) place u

      udp_gone : (u : UdpRecord) → udp2_at m.store.records place ≡ Some u → (now : UdpRecord) → UdpShut u now → UdpLeaves u now
      udp_gone (udp.Open o) at now e = subst (UdpLeaves (udp.Open o)) (sym e) (put_gone (without m handle) place (Record.Udp (udp.Closed o.inner.side)))
      udp_gone (udp.Closed side) at now e = subst (UdpLeaves (udp.Closed side)) (sym e) (put_gone (without m handle) place (Record.Udp (udp.Closed side)))
      udp_gone (udp.Creating create) at now e =
          subst (UdpLeaves (udp.Creating create)) (sym e) (ap (λ (rs : List Record). let after : Machine = record (without m handle) { store = record m.store { records = rs } } in after) (put_again udp_sort m.store.records place (udp.Creating create) at))

      udp_ends : (u : UdpRecord) → udp2_at m.store.records place ≡ Some u → (es : List Entry) (done : Unit {0} × UdpRecord) → (es ≡ udp_given_up own u) × UdpShut u done.1 → DropRow es (answered (with_store (without m handle) (at_once (udp_closed m.store place done))))
      udp_ends u at es done k =
          ((apart (λ e. cc) no_children, rw is (free es)), (tt, (refl, rw is (its_gone es _ (λ q there. let its : u ≡ q = cc in (rw (sym its) k.0, udp_gone u at done.1 k.1 ∙ ap (udp_left (without m handle) place) its))))))

      udp_closes : (u : UdpRecord) → Meets (λ es done. (es ≡ udp_given_up own u) × UdpShut u done.1) [] (close_udp_asks own u)
      unfolding bind
      udp_closes (udp.Open o) = asks (λ t fits. ends (told_so own [] (call.Close o.inner.side) t fits, refl))
      udp_closes (udp.Creating create) = ends (refl, refl)
      udp_closes (udp.Closed side) = ends (refl, refl)

      udp_by_record : (o : Option UdpRecord) → udp2_at m.store.records place ≡ o → Meets (λ es done. DropRow es (answered (with_store (without m handle) (at_once done)))) [] (release_udp_at m.store own place o)
      udp_by_record None at = ends ((apart (λ e. cc) no_children, rw is (free [])), (tt, (refl, rw is (its_gone [] _ (λ u there. absurd (cc))))))
      udp_by_record (Some u) at = onto _ (widen (udp_ends u at) (udp_closes u))

    -- == of a UDP socket of 0.3
    module _ (place : ℕ) (is : IsKind (kinds.Udp3 place)) where
      udp3_drop : (es : List Entry) (store : Records) → Udp3Gone m line handle place es (record (without m handle) { store = store }) → DropRow es (answered (with_store (without m handle) (at_once (tt, store))))
      udp3_drop es store gone = ((apart (λ e. cc) no_children, rw is tt), (tt, (refl, rw is gone)))

      -- of one that isn't open, as of one of 0.2
      unopened : open_at m.store.records place ≡ None → (es : List Entry) (after : Machine) → UdpGone m line handle place es after → Udp3Gone m line handle place es after
      unopened none es after gone = λ u there. by_record u there (gone u there)
        where
          by_record : (u : UdpRecord) → udp2_at m.store.records place ≡ Some u → (es ≡ udp_given_up own u) × (after ≡ udp_left (without m handle) place u) → Udp3GoneBy m line handle place es after u (has_datagram m.store.beside place)
          by_record (udp.Open o) there k = let some : open_at m.store.records place ≡ Some o = ap open_of there in absurd (cc)
          by_record (udp.Creating create) there k = k
          by_record (udp.Closed side) there k = k

      module _ (o : OpenUdp) (at : open_at m.store.records place ≡ Some o) where
        abbrev now : Machine
        now = record (without m handle) { store = with_open_udp m.store place (without_udp_socket o) }

        there : udp2_at m.store.records place ≡ Some (udp.Open o)
        there = open_is (udp2_at m.store.records place) o at

        there_now : udp2_at now.store.records place ≡ Some (udp.Open (without_udp_socket o))
        there_now = put_finds udp_sort m.store.records place (udp.Open o) (udp.Open (without_udp_socket o)) there

        held_so : is_udp_held now.store place ≡ has_datagram m.store.beside place
        held_so = ap (λ (x : Option UdpRecord). udp_held.held_by m.store.beside place (open_of x)) there_now

        its_row : (es : List Entry) (after : Machine) (held : Bool) → has_datagram m.store.beside place ≡ held → Udp3GoneBy m line handle place es after (udp.Open o) held → Udp3Gone m line handle place es after
        its_row es after held e k = λ u found. let opened : udp2_at m.store.records place ≡ Some (udp.Open o) = there in let its : udp.Open o ≡ u = cc in subst (λ (x : UdpRecord). Udp3GoneBy m line handle place es after x (has_datagram m.store.beside place)) its (rw e k)

        lets_udp_go : (held : Bool) → has_datagram m.store.beside place ≡ held → Meets (λ es done. DropRow es (answered (with_store (without m handle) (at_once done)))) [] (udp_goes own place now.store held)
        lets_udp_go true e = ends (udp3_drop [] now.store (its_row [] now true e (refl, refl)))
        lets_udp_go false e =
            widen (λ es done k. udp3_drop es done.1 (its_row es _ false e (k.0, k.1 ∙ put_gone (without m handle) place (Record.Udp (udp.Open (without_udp_socket o))))))
            (closes now own place (without_udp_socket o) there_now)

      by_udp_handle : (o : Option OpenUdp) → open_at m.store.records place ≡ o → Meets (λ es done. DropRow es (answered (with_store (without m handle) (at_once done)))) [] (let_udp_go own place (without_udp_handle m.store place o))
      by_udp_handle None at =
          subst (λ (held : Bool). Meets (λ es done. DropRow es (answered (with_store (without m handle) (at_once done)))) [] (udp_goes own place m.store held)) (sym (ap (udp_held.held_by m.store.beside place) at))
          (udp_by_record place (kinds.Udp3 place) is (λ es. tt) (λ es after k. unopened at es after k) (udp2_at m.store.records place) refl)
      by_udp_handle (Some o) at =
          subst (λ (held : Bool). Meets (λ es done. DropRow es (answered (with_store (without m handle) (at_once done)))) [] (udp_goes own place (now o at).store held)) (sym (held_so o at)) (lets_udp_go o at (has_datagram m.store.beside place) refl)

    -- == of an output
    waits_once : (writer : WriteState) (es : List Entry) → WriterWaits own writer es → LooksOnce own es
    waits_once writer _ (WritesOn on) = NoLook
    waits_once writer _ (ToldToWait half permit e) = OneLook half.side told.Pending

    of_output : (place : ℕ) → IsKind (Output place) → (es : List Entry) (done : Answer (Unit {0}) × Records) → OutputRow m.store (first_ids line) place es done → DropRow es (answered (with_store (without m handle) done))
    of_output place is es (Ready done, store) k = ((apart (λ e. cc) no_children, rw is k.0), (tt, (refl, rw is tt)))
    of_output place is es (Pending, store) k =
        let w : OutputWaits m own (Some place) es = k.0 m refl in
        ((apart (λ e. cc) no_children, rw is (waits_once w.streams.writer es w.holds)), (((rw is (inl refl), refl), rw k.1 refl), (refl, inl (subst (λ (o : Option ℕ). OutputWaits m own o es) (sym (ap output_of is)) w))))

    -- == of a datagram stream
    incoming_left : (place : ℕ) → IsKind (Incoming place) → (o : Option OpenUdp) → open_at m.store.records place ≡ o → DropRow [] (answered (with_store (without m handle) (at_once (drop_incoming_at m.store place o))))
    incoming_left place is None at = ((apart (λ e. cc) no_children, asks_none (kind_at m.table handle)), (tt, (refl, rw is (λ o there. absurd (cc)))))
    incoming_left place is (Some o) at = (
      (apart (λ e. cc) no_children, asks_none (kind_at m.table handle)),
      (tt, (refl, rw is (λ q there. let its : o ≡ q = cc in record { quiet = refl; left = ap (λ (x : OpenUdp). let left : Machine = record (without m handle) { store = without_receives place (with_open_udp m.store place (record x { incoming = None })) } in left) its }))),
    )

    outgoing_left : (place : ℕ) → IsKind (Outgoing place) → (o : OpenUdp) → open_at m.store.records place ≡ Some o → (b : Bool) → still_sends o.outgoing ≡ b → DropRow [] (answered (with_store (without m handle) (drop_outgoing_by m.store (first_ids line) place o b)))
    outgoing_left place is o at true e = ((apart (λ e. cc) no_children, asks_none (kind_at m.table handle)), (((rw is (inr refl), refl), refl), (refl, inr (rw (is, at) (e, refl)))))
    outgoing_left place is o at false e = (
      (apart (λ e. cc) no_children, asks_none (kind_at m.table handle)),
      (
        tt,
        (
          refl,
          rw is (λ q there. let its : o ≡ q = cc in record {
            sent = subst (λ (x : OpenUdp). still_sends x.outgoing ≡ false) its e;
            quiet = refl;
            left = ap (λ (x : OpenUdp). let left : Machine = record (without m handle) { store = with_open_udp m.store place (record x { outgoing = None }) } in left) its;
          }),
        ),
      ),
    )

    outgoing_by : (place : ℕ) → IsKind (Outgoing place) → (o : Option OpenUdp) → open_at m.store.records place ≡ o → DropRow [] (answered (with_store (without m handle) (drop_outgoing_at m.store (first_ids line) place o)))
    outgoing_by place is None at = ((apart (λ e. cc) no_children, asks_none (kind_at m.table handle)), (tt, (refl, rw is (λ o there. absurd (cc)))))
    outgoing_by place is (Some o) at = outgoing_left place is o at (still_sends o.outgoing) refl

    -- == of a lookup
    lookup_left : (place : ℕ) → IsKind (kinds.Lookup place) → (o : Option Lookup) → lookup_at m.store.records place ≡ o → DropRow [] (answered (with_store (without m handle) (at_once (drop_lookup_at m.store place o))))
    lookup_left place is None at = ((apart (λ e. cc) no_children, asks_none (kind_at m.table handle)), (tt, (refl, rw is (λ l there. absurd (cc)))))
    lookup_left place is (Some l) at = ((apart (λ e. cc) no_children, asks_none (kind_at m.table handle)), (tt, (refl, rw is (λ q there. record { quiet = refl; left = refl; job = no_job place m.store.jobs }))))

    -- == of a pipe
    input_pipe_left : (place : ℕ) → IsKind (kinds.PlainInput (plain_input.Pipe place)) → (o : Option (List ℕ)) → input_pipe_at m.store.records place ≡ o → DropRow [] (Ok (Ready tt), record (without m handle) { store = drop_input_pipe_at m.store place o })
    input_pipe_left place is None at = ((apart (λ e. cc) no_children, asks_none (kind_at m.table handle)), (tt, (refl, rw is (λ bytes there. absurd (cc)))))
    input_pipe_left place is (Some bytes) at = ((apart (λ e. cc) no_children, asks_none (kind_at m.table handle)), (tt, (refl, rw is (λ its there. refl))))

    output_pipe_left : (place : ℕ) → IsKind (kinds.PlainOutput (plain_output.Pipe place)) → (o : Option Contents) → output_pipe_at m.store.records place ≡ o → DropRow [] (Ok (Ready tt), record (without m handle) { store = drop_output_pipe_at m.store place o })
    output_pipe_left place is None at = ((apart (λ e. cc) no_children, asks_none (kind_at m.table handle)), (tt, (refl, rw is (λ pipe there. absurd (cc)))))
    output_pipe_left place is (Some pipe) at = ((apart (λ e. cc) no_children, asks_none (kind_at m.table handle)), (tt, (refl, rw is (λ its there. refl))))

    by_kind : (kind : Kind) → IsKind kind → Meets DropRow [] (drop_kind (without m handle) (first_ids line) kind)
    by_kind (Tcp2 place) is = onto _ (by_record place (Tcp2 place) is (λ es. tt) (λ es after k. k) (tcp2_at m.store.records place) refl)
    by_kind (kinds.Tcp3 place) is = onto _ (by_handle place is (tcp2_at m.store.records place) refl)
    by_kind (Udp2 place) is = onto _ (udp_by_record place (Udp2 place) is (λ es. tt) (λ es after k. k) (udp2_at m.store.records place) refl)
    by_kind (kinds.Udp3 place) is = onto _ (by_udp_handle place is (open_at m.store.records place) refl)
    by_kind (kinds.Listen3 place) is = onto _ (by_listener place is (tcp2_at m.store.records place) refl)
    by_kind (kinds.Receive3 end) is = onto _ (widen (λ es done k. read_end_left end is es done.1 k) (read_end_goes (without m handle) own end))
    by_kind (kinds.Send3 end) is = onto _ (widen (λ es done k. write_end_left end is es done.1 k) (write_end_goes (without m handle) own end))
    by_kind (kinds.Result3 place) is = ends (slot_left place is (slot_at m.store.records place) refl)
    by_kind (Output place) is = onto _ (widen (of_output place is) (outputs m.store (first_ids line) place (tcp2_at m.store.records place) refl))
    by_kind (Incoming place) is = ends (incoming_left place is (open_at m.store.records place) refl)
    by_kind (Outgoing place) is = ends (outgoing_by place is (open_at m.store.records place) refl)
    by_kind (kinds.Lookup place) is = ends (lookup_left place is (lookup_at m.store.records place) refl)
    by_kind (kinds.PlainInput (plain_input.Pipe place)) is = ends (input_pipe_left place is (input_pipe_at m.store.records place) refl)
    by_kind (kinds.PlainInput plain_input.Closed) is = ends ((apart (λ e. cc) no_children, asks_none (kind_at m.table handle)), (tt, (refl, rw is refl)))
    by_kind (kinds.PlainOutput (plain_output.Pipe place)) is = ends (output_pipe_left place is (output_pipe_at m.store.records place) refl)
    by_kind (kinds.PlainOutput plain_output.Sink) is = ends ((apart (λ e. cc) no_children, asks_none (kind_at m.table handle)), (tt, (refl, rw is refl)))
    by_kind (kinds.PlainOutput plain_output.Closed) is = ends ((apart (λ e. cc) no_children, asks_none (kind_at m.table handle)), (tt, (refl, rw is refl)))
    by_kind _ is = ends ((apart (λ e. cc) no_children, asks_none (kind_at m.table handle)), (tt, (refl, rw is refl)))

  by_children : (kind : Kind) → IsKind kind → (b : Bool) → has_no_child m.table handle ≡ b → Meets DropRow [] (drop_taken m (first_ids line) (if b then (Ok kind, without_handle m.table handle) else (Err (Trap HasChildren), m.table)))
  by_children kind is true e = by_kind e kind is
  by_children kind is false e =
      ends (((λ same. record { live = rw is refl; children = λ none. let k : has_no_child m.table handle ≡ true = ap none_in none in cc }, λ k. refl), asks_none (kind_at m.table handle)), (tt, (refl, refl)))

  by_live : (o : Option Kind) → kind_at m.table handle ≡ o → Meets DropRow [] (drop_taken m (first_ids line) (taken_out m.table handle o))
  by_live None is = ends ((apart (λ e. cc) (λ h. not_live (kind_at m.table handle) is h.live), asks_none (kind_at m.table handle)), (is, (refl, refl)))
  by_live (Some kind) is = by_children kind is (has_no_child m.table handle) refl

  pub drop : Meets (Says contexts m line (step.Call c (guest.Pollable (pollable_call.Drop handle)))) [] (bind (drop_asks m (first_ids line) handle) (λ done. Give (answer_reply line done.0, done.1)))
  drop = onto _ (by_live (kind_at m.table handle) refl)

  -- == what a drop leaves
  abbrev DropSays : List Entry → Reply → Machine → Type 0
  DropSays = Outcome contexts m line (step.Call c (guest.Pollable (pollable_call.Drop handle)))

  -- it may be pending
  abbrev MayWait : Kind → Type 0
  MayWait kind = IsSome (output_of (Some kind)) ⊎ IsSome (outgoing_of (Some kind))

  done_ok : (kind : Kind) → kind_at m.table handle ≡ Some kind → (MayWait kind → ⊥) → children_of m.table.live handle ≡ [] → (es : List Entry) (r : Reply) (after : Machine) → DropSays es r after → r ≡ reply.Ok no_fields
  done_ok kind is other free es (reply.Ok fields) after row = ap reply.Ok (no_fields_so fields row.1.0)
  done_ok kind is other free es (reply.Pending n) after row = absurd (other (rw is at row.1.0.0.0))
  done_ok kind is other free es (reply.Trap NoSuchHandle) after row = let none : kind_at m.table handle ≡ None = row.1.0 in absurd (cc)
  done_ok kind is other free es (reply.Trap HasChildren) after row = absurd ((row.0.0.0 refl).children free)
  done_ok kind is other free es (reply.Trap Full) after row = absurd row.1.0
  done_ok kind is other free es (reply.Trap NotPermitted) after row = elim row.1.0 [ inl w ↦ absurd w | inr s ↦ absurd s ]
  done_ok kind is other free es (reply.Trap StreamsAlive) after row = absurd row.1.0
  done_ok kind is other free es (reply.Trap Capacity) after row = absurd row.1.0
  done_ok kind is other free es (reply.Trap TooLong) after row = absurd row.1.0
  done_ok kind is other free es (reply.Trap EmptyList) after row = absurd row.1.0
  done_ok kind is other free es (reply.Err w) after row = absurd row.1.0
  done_ok kind is other free es reply.Closed after row = absurd row.1.0
  done_ok kind is other free es (reply.Failed w h) after row = absurd row.1.0.0
  done_ok kind is other free es reply.Cancelled after row = absurd row.1.0
  done_ok kind is other free es reply.Dropped after row = absurd row.1.0
  done_ok kind is other free es reply.Unfilled after row = absurd row.1.0
  done_ok kind is other free es reply.NoSuchCall after row = elim row.1.0 [ inl p ↦ absurd p | inr c ↦ absurd c ]
  done_ok kind is other free es _ after row = absurd row.1

  -- neither an output nor an outgoing datagram stream
  abbrev IsNoOut : Kind → Type 0
  IsNoOut (Output place) = ⊥
  IsNoOut (Outgoing place) = ⊥
  IsNoOut _ = ⊤

  no_wait : (kind : Kind) → IsNoOut kind → MayWait kind → ⊥
  no_wait (Output place) plain w = plain
  no_wait (Outgoing place) plain w = plain
  no_wait _ plain (inl w) = cc
  no_wait _ plain (inr w) = cc

  pub socket_ok : (place : ℕ) → kind_at m.table handle ≡ Some (Tcp2 place) → children_of m.table.live handle ≡ [] → (es : List Entry) (r : Reply) (after : Machine) → DropSays es r after → r ≡ reply.Ok no_fields
  socket_ok place is = done_ok (Tcp2 place) is (no_wait (Tcp2 place) tt)

  pub tcp3_ok : (place : ℕ) → kind_at m.table handle ≡ Some (kinds.Tcp3 place) → children_of m.table.live handle ≡ [] → (es : List Entry) (r : Reply) (after : Machine) → DropSays es r after → r ≡ reply.Ok no_fields
  tcp3_ok place is = done_ok (kinds.Tcp3 place) is (no_wait (kinds.Tcp3 place) tt)

  pub tcp3_gone : (place : ℕ) (r : TcpRecord) → kind_at m.table handle ≡ Some (kinds.Tcp3 place) → tcp2_at m.store.records place ≡ Some r
      → (es : List Entry) (fields : List Field) (after : Machine) → DropSays es (reply.Ok fields) after
      → LetsGo m line handle place (without_socket r) es after
  tcp3_gone place r is at es fields after row = rw is at row.1.1.1 r at

  pub listener_ok : (place : ℕ) → kind_at m.table handle ≡ Some (kinds.Listen3 place) → children_of m.table.live handle ≡ [] → (es : List Entry) (r : Reply) (after : Machine) → DropSays es r after → r ≡ reply.Ok no_fields
  listener_ok place is = done_ok (kinds.Listen3 place) is (no_wait (kinds.Listen3 place) tt)

  pub listener_gone : (place : ℕ) (r : TcpRecord) → kind_at m.table handle ≡ Some (kinds.Listen3 place) → tcp2_at m.store.records place ≡ Some r
      → (es : List Entry) (fields : List Field) (after : Machine) → DropSays es (reply.Ok fields) after
      → ListenerGoes m line handle place r es after
  listener_gone place r is at es fields after row = rw is at row.1.1.1 r at

  -- of an end of 0.3, and of its slot
  abbrev pub IsEnd : Kind → Type 0
  IsEnd (kinds.Receive3 end) = ⊤
  IsEnd (kinds.Send3 end) = ⊤
  IsEnd (kinds.Result3 place) = ⊤
  IsEnd _ = ⊥

  end_no_out : (kind : Kind) → IsEnd kind → IsNoOut kind
  end_no_out (Output place) end = end
  end_no_out (Outgoing place) end = end
  end_no_out _ end = tt

  pub end_ok : (kind : Kind) → IsEnd kind → kind_at m.table handle ≡ Some kind → children_of m.table.live handle ≡ [] → (es : List Entry) (r : Reply) (after : Machine) → DropSays es r after → r ≡ reply.Ok no_fields
  end_ok kind end is = done_ok kind is (no_wait kind (end_no_out kind end))

  pub read_end_gone : (end : ConnectionEnd) → kind_at m.table handle ≡ Some (kinds.Receive3 end) → (es : List Entry) (fields : List Field) (after : Machine) → DropSays es (reply.Ok fields) after
      → ReadEndGoes (without m handle) (own_of line) end es after
  read_end_gone end is es fields after row = rw is at row.1.1.1

  pub write_end_gone : (end : ConnectionEnd) → kind_at m.table handle ≡ Some (kinds.Send3 end) → (es : List Entry) (fields : List Field) (after : Machine) → DropSays es (reply.Ok fields) after
      → WriteEndGoes (without m handle) (own_of line) end es after
  write_end_gone end is es fields after row = rw is at row.1.1.1

  pub result_gone : (place : ℕ) (s : Slot) → kind_at m.table handle ≡ Some (kinds.Result3 place) → slot_at m.store.records place ≡ Some s
      → (es : List Entry) (fields : List Field) (after : Machine) → DropSays es (reply.Ok fields) after → (es ≡ []) × IsLetGo (without m handle) place after
  result_gone place s is at es fields after row = (rw is at row.0.1, rw is at row.1.1.1 s at)

  pub udp_ok : (place : ℕ) → kind_at m.table handle ≡ Some (Udp2 place) → children_of m.table.live handle ≡ [] → (es : List Entry) (r : Reply) (after : Machine) → DropSays es r after → r ≡ reply.Ok no_fields
  udp_ok place is = done_ok (Udp2 place) is (no_wait (Udp2 place) tt)

  pub udp3_ok : (place : ℕ) → kind_at m.table handle ≡ Some (kinds.Udp3 place) → children_of m.table.live handle ≡ [] → (es : List Entry) (r : Reply) (after : Machine) → DropSays es r after → r ≡ reply.Ok no_fields
  udp3_ok place is = done_ok (kinds.Udp3 place) is (no_wait (kinds.Udp3 place) tt)

  pub udp3_gone : (place : ℕ) (u : UdpRecord) → kind_at m.table handle ≡ Some (kinds.Udp3 place) → udp2_at m.store.records place ≡ Some u
      → (es : List Entry) (fields : List Field) (after : Machine) → DropSays es (reply.Ok fields) after
      → Udp3GoneBy m line handle place es after u (has_datagram m.store.beside place)
  udp3_gone place u is at es fields after row = rw is at row.1.1.1 u at

  gone_free : (place : ℕ) (es : List Entry) (after : Machine) (u : UdpRecord) → Udp3GoneBy m line handle place es after u false → (es ≡ udp_given_up (own_of line) u) × (after ≡ udp_left (without m handle) place u)
  gone_free place es after (udp.Open o) k = k
  gone_free place es after (udp.Creating create) k = k
  gone_free place es after (udp.Closed side) k = k

  pub udp3_free : (place : ℕ) (u : UdpRecord) → kind_at m.table handle ≡ Some (kinds.Udp3 place) → udp2_at m.store.records place ≡ Some u → has_datagram m.store.beside place ≡ false
      → (es : List Entry) (fields : List Field) (after : Machine) → DropSays es (reply.Ok fields) after
      → (es ≡ udp_given_up (own_of line) u) × (after ≡ udp_left (without m handle) place u)
  udp3_free place u is at none es fields after row = gone_free place es after u (subst (Udp3GoneBy m line handle place es after u) none (udp3_gone place u is at es fields after row))

  pub udp3_held : (place : ℕ) (o : OpenUdp) → kind_at m.table handle ≡ Some (kinds.Udp3 place) → udp2_at m.store.records place ≡ Some (udp.Open o) → has_datagram m.store.beside place ≡ true
      → (es : List Entry) (fields : List Field) (after : Machine) → DropSays es (reply.Ok fields) after
      → (es ≡ []) × (after ≡ putting_udp (without m handle) place (without_udp_socket o))
  udp3_held place o is at some es fields after row = subst (Udp3GoneBy m line handle place es after (udp.Open o)) some (udp3_gone place (udp.Open o) is at es fields after row)

  pub record GivesUp (r : TcpRecord) (es : List Entry) (after : Machine) : Type 0 where
    pub asked : es ≡ socket_given_up (own_of line) r
    pub gone : OfRecord m handle (λ place r. IsGone m handle place after)

  pub gives_up : (r : TcpRecord) (es : List Entry) (after : Machine) (o : Option Kind) → kind_at m.table handle ≡ o → record_in m (place_of o) ≡ Some r → Gone m line handle o es after → GivesUp r es after
  gives_up r es after (Some (Tcp2 place)) is at gone = let k = gone r at in record { asked = k.0; gone = record { place = place; found = r; names = ap place_of is; at = at; holds = k.1 } }
  gives_up r es after _ is at gone = absurd (cc)

  pub asks_nothing : (kind : Kind) → GoesAtOnce kind → (es : List Entry) → AsksOnce line (Some kind) es → es ≡ []
  asks_nothing (Tcp2 place) plain es h = absurd plain
  asks_nothing (kinds.Tcp3 place) plain es h = absurd plain
  asks_nothing (Udp2 place) plain es h = absurd plain
  asks_nothing (kinds.Udp3 place) plain es h = absurd plain
  asks_nothing (kinds.Listen3 place) plain es h = absurd plain
  asks_nothing (kinds.Receive3 end) plain es h = absurd plain
  asks_nothing (kinds.Send3 end) plain es h = absurd plain
  asks_nothing (Output place) plain es h = absurd plain
  asks_nothing (Incoming place) plain es h = absurd plain
  asks_nothing (Outgoing place) plain es h = absurd plain
  asks_nothing (kinds.Lookup place) plain es h = absurd plain
  asks_nothing (kinds.PlainInput (plain_input.Pipe place)) plain es h = absurd plain
  asks_nothing (kinds.PlainOutput (plain_output.Pipe place)) plain es h = absurd plain
  asks_nothing _ plain es h = h

  plain_left : (kind : Kind) → GoesAtOnce kind → (es : List Entry) (after : Machine) → Gone m line handle (Some kind) es after → after ≡ without m handle
  plain_left (Tcp2 place) plain es after h = absurd plain
  plain_left (kinds.Tcp3 place) plain es after h = absurd plain
  plain_left (Udp2 place) plain es after h = absurd plain
  plain_left (kinds.Udp3 place) plain es after h = absurd plain
  plain_left (kinds.Listen3 place) plain es after h = absurd plain
  plain_left (kinds.Receive3 end) plain es after h = absurd plain
  plain_left (kinds.Send3 end) plain es after h = absurd plain
  plain_left (kinds.Result3 place) plain es after h = absurd plain
  plain_left (Output place) plain es after h = absurd plain
  plain_left (Incoming place) plain es after h = absurd plain
  plain_left (Outgoing place) plain es after h = absurd plain
  plain_left (kinds.Lookup place) plain es after h = absurd plain
  plain_left (kinds.PlainInput (plain_input.Pipe place)) plain es after h = absurd plain
  plain_left (kinds.PlainOutput (plain_output.Pipe place)) plain es after h = absurd plain
  plain_left _ plain es after h = h

  no_out : (kind : Kind) → GoesAtOnce kind → IsNoOut kind
  no_out (Output place) plain = plain
  no_out (Outgoing place) plain = plain
  no_out _ plain = tt

  pub leaves : (kind : Kind) → kind_at m.table handle ≡ Some kind → GoesAtOnce kind → (es : List Entry) (r : Reply) (after : Machine) → IsDropped r → DropSays es r after → after ≡ without m handle
  leaves kind is plain es (reply.Ok fields) after d row = plain_left kind plain es after (rw is at row.1.1.1)
  leaves kind is plain es (reply.Pending n) after d row = absurd (no_wait kind (no_out kind plain) (rw is at row.1.0.0.0))
  leaves kind is plain es _ after d row = absurd d

  pub takes_out : (es : List Entry) (r : Reply) (after : Machine) → IsDropped r → DropSays es r after → after.table ≡ without_handle m.table handle
  takes_out es (reply.Ok fields) after d row = row.1.1.0
  takes_out es (reply.Pending n) after d row = row.1.1.0
  takes_out es _ after d row = absurd d

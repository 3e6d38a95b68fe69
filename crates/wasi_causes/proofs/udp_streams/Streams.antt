-- How the datagram streams of a UDP socket are made.
use Rattle.wasi_causes.proofs.Words.{Answer, Bool, Done, End, EndsPending, Entry, Err, ErrorCode, Give, IfSome, IpSocketAddress, IsDoneOrCode, Item, List, Machine}
use Rattle.wasi_causes.proofs.Words.{NoSuchHandle, None, Ok, OpId, Option, Pending, Ready, Refused, Result, Some, Standing, StandingCall, Stop, Told, Trap, Waits, WasiSocketsCtx, [], ap, append_assoc, arith, bind, false, first_ids}
use Rattle.wasi_causes.proofs.Words.{marks_in, own_of, refl, subst, sym, told_addr, told_done, true, word_of_code, ℕ, ◌++◌, ◌∙◌, ◌∷◌, ◌≡◌, ◌≢◌, ◌↔◌}
use Rattle.wasi_world.specs.declared.call.Told.TheVariants as told
use Rattle.wasi_world.specs.declared.outcome.TrapKind.TheVariants.{StreamsAlive}
use Rattle.wasi_udp.specs.Connect.{is_connectable}
use Rattle.wasi_udp.specs.Socket.{after_peer, disconnect_in, is_connected}
use Rattle.host_udp.specs.DatagramCalls.{start_streams_at, start_streams_by, streams_so}
use Rattle.udp_records.specs.Datagrams.{begin_streams_asks, disconnect_streams, disconnected, has_streams, streams_to, streams_where, udp_connect_begun, udp_connect_ended, with_streams}
use Rattle.udp_records.specs.Udp.{with_udp_inner}
use Rattle.wasi_records.specs.Records.{open_at, udp2_at}
use Rattle.udp_records.specs.Udp.{open_of}
use Rattle.udp_records.specs.declared.udp.UdpRecord.TheVariants as udp
use Rattle.wasi_walks.proofs.walks.Udp.{open_is}
use Rattle.host_udp.specs.UdpCreates.{udp_side_at}
use Rattle.host_udp.specs.UdpCalls.{udp_call_answered}
use Rattle.host_store.specs.Store.{with_open_udp}
use Rattle.udp_records.specs.declared.udp.OpenUdp.{OpenUdp}
use Rattle.wasi_p2.specs.Udp.{udp_stream_asks, udp_stream_on}
use Rattle.wasi_machine.specs.Machine.{answer_reply_of}
use Rattle.wasi_steps.specs.Reply.{pair_values}
use Rattle.wasi_steps.specs.declared.reply.CodeWord.TheVariants as word
use Rattle.wasi_steps.specs.declared.reply.Reply.{Reply}
use Rattle.wasi_steps.specs.declared.reply.Reply.TheVariants as reply
use Rattle.wasi_steps.specs.declared.guest_call.GuestCall.TheVariants as guest
use Rattle.wasi_steps.specs.declared.guest_call.UdpCall.TheVariants as udp_call
use Rattle.wasi_steps.specs.declared.step.Step.TheVariants as step
use Rattle.wasi_walks.specs.Answered.{open_udp_at}
use Rattle.wasi_walks.specs.Waiting.{ConnectUnchecked}
use Rattle.wasi_causes.proofs.udp_streams.Connected.{ConnectedRow, connects_so}
use Rattle.wasi_causes.proofs.udp_streams.Makes.{makes_both, marks_of}
use Rattle.wasi_causes.proofs.operations.ConnectPolls.{ConnectRow, udp_connect_gives}
use Rattle.wasi_causes.proofs.operations.Marks.{poll_marks_none}
use Rattle.wasi_causes.proofs.sockets.Udp.{ItsBound, ItsFree, NamesUdp, UdpBoundRow, here_udp, its_udp, on_udp, put_udp_back, udp_bounds}
use Rattle.wasi_causes.proofs.tables.Meets.{After, Meets, Rows, asks, both, branch, chain, ends, onto, shifted, widen}
use Rattle.wasi_causes.proofs.tables.Routes.{Replied, Says, apart, code_word, none_has}
use Rattle.wasi_causes.specs.Datagrams.{HasItsHandle, HasUdpStreams, PendingHandleIsLive, with_both}
use Rattle.wasi_causes.specs.StreamCauses.{MakesStreams, StreamsBegin, StreamsConnected, StreamsDisconnected, StreamsElsewhere, StreamsStillConnected, StreamsUnbound, StreamsUnchanged, StreamsUnconnected, UdpStreamRefusal, disconnect_entry, its_connect, peer_entry}
use Rattle.wasi_causes.specs.Udp.{IsUdpBound, UdpKnown, UdpToldBound, putting_udp, udp_local_entry}
use Rattle.wasi_walks.proofs.Places.{put_finds, udp_sort}

module _ (m : Machine) (line handle place : ℕ) (o : OpenUdp) (n : NamesUdp m handle place o) (remote : Option IpSocketAddress) where
  -- the line's own operation
  abbrev own : OpId
  own = own_of line

  -- it waits for a check of its connect
  pub record WaitsForConnect (es : List Entry) : Type 0 where
    pub addressed : IpSocketAddress
    pub remote_is : remote ≡ Some addressed
    pub connectable : is_connectable o.inner addressed ≡ true
    pub told : EndsPending own es

  -- how their making begins: it waits, or they are there, or it is refused
  abbrev BeginsSo : Rows (Result (Answer (Unit {0})) ErrorCode × OpenUdp)
  BeginsSo es (Ok Pending, now) = WaitsForConnect es
  BeginsSo es (Ok (Ready done), now) = StreamsBegin own o remote es now
  BeginsSo es (Err code, now) = UdpStreamRefusal m own place o remote es (word_of_code code) (putting_udp m place now)

  -- no handle is marked so far
  abbrev pub BeginRow : Rows (Result (Answer (Unit {0})) ErrorCode × OpenUdp)
  BeginRow es begun = (marks_in es ≡ 0) × BeginsSo es begun

  -- what is asked of whether it is bound marks none
  none_before : (asked : List Entry) → IsUdpBound own o.inner asked → (es : List Entry) → marks_in es ≡ 0 → marks_in (asked ++ es) ≡ 0
  none_before _ (UdpKnown e) es none = none
  none_before _ (UdpToldBound t e) es none = omega (arith, none)

  -- and nothing else
  none_so : (asked : List Entry) → IsUdpBound own o.inner asked → marks_in asked ≡ 0
  none_so _ (UdpKnown e) = refl
  none_so _ (UdpToldBound t e) = refl

  -- it is known to be bound
  abbrev known : OpenUdp
  known = with_udp_inner o (record o.inner { bound = true })

  module _ (asked : List Entry) (bound : IsUdpBound own o.inner asked) where
    -- == with an address
    module _ (a : IpSocketAddress) (is : remote ≡ Some a) where
      -- a poll of the connect marks none, and ends so
      abbrev PolledRow : Rows (End × List Item)
      PolledRow es end = (marks_in es ≡ 0) × (ConnectRow (its_connect own o a) es end × ConnectedRow own o a es end)

      -- the connect was polled
      ended : is_connectable o.inner a ≡ true → (es : List Entry) (end : End × List Item) → After PolledRow asked es end → BeginRow es (udp_connect_ended (its_connect own o a) (record known { connecting = Some (its_connect own o a) }) end)
      ended may es (Waits, items) k = rw k.cut (
        none_before asked bound k.rest k.row.0,
        record {
          addressed = a;
          remote_is = is;
          connectable = may;
          told = let w = k.row.1.0 in record { front = asked ++ w.front; last = w.last; cut = ap (λ (xs : List Entry). asked ++ xs) w.cut ∙ sym (append_assoc asked w.front (w.last ∷ [])); op = w.op; told = w.told };
        },
      )
      ended may es (Done given, items) k = let c = k.row.1.1 in rw (k.cut, c.asked, c.gives) (none_before asked bound _ refl, StreamsConnected asked a c.peer is bound may)
      ended may es (Refused code given, items) k = rw (k.cut, k.row.1.0.gives) (none_before asked bound k.rest k.row.0, StreamsUnconnected asked k.rest a code is bound may k.row.1.0.why)

      -- by whether the socket can be connected to the address
      connects : (b : Bool) → is_connectable o.inner a ≡ b → Meets BeginRow asked (streams_to own known (Some a))
      unfolding bind
      connects true may =
          chain {Mid = λ es begun. Meets BeginRow es (udp_connect_begun known begun)}
          (branch (is_connectable o.inner a) (λ e. ends (onto _ (widen (ended may) (shifted asked (both (record { along = poll_marks_none (its_connect own o a) }) (both (udp_connect_gives (its_connect own o a) (record { last = refl; left = ConnectUnchecked o.inner.family a }) []) (connects_so own o a)))))))
          (λ e. absurd (cc)))
          (λ es begun k. k)
      connects false may =
          chain {Mid = λ es begun. Meets BeginRow es (udp_connect_begun known begun)}
          (branch (is_connectable o.inner a) (λ e. absurd (cc)) (λ e. ends (ends (none_so asked bound, StreamsElsewhere asked a is bound e))))
          (λ es begun k. k)

    -- == with none
    module _ (is : remote ≡ None) where
      -- it was disconnected
      parted : (a : IpSocketAddress) → o.inner.remote ≡ Some a → (t peer : Told) → IsDoneOrCode t
          → BeginRow ((asked ++ disconnect_entry own o t ∷ []) ++ peer_entry own o peer ∷ []) (disconnected known (told_done t, after_peer known.inner (told_addr peer)))
      parted a was told.Done peer fits = rw (append_assoc asked (disconnect_entry own o told.Done ∷ []) (peer_entry own o peer ∷ [])) (none_before asked bound _ refl, StreamsDisconnected asked a peer is was bound)
      parted a was (told.Code code) peer fits = rw (append_assoc asked (disconnect_entry own o (told.Code code) ∷ []) (peer_entry own o peer ∷ [])) (none_before asked bound _ refl, StreamsStillConnected asked a code peer is was bound)
      parted a was _ peer fits = absurd fits

      -- by whether it has a remote address
      parts : (kept : Option IpSocketAddress) → o.inner.remote ≡ kept → (b : Bool) → is_connected kept ≡ b → Meets BeginRow asked (disconnect_streams own known b)
      unfolding bind
      parts None was true e = absurd (cc)
      parts (Some a) was true e = chain {Mid = λ es done. BeginRow es (disconnected known done)} (subst (λ (r : Option IpSocketAddress). Meets (λ es done. BeginRow es (disconnected known done)) asked (disconnect_in own known.inner r)) (sym was) (asks (λ t fits. asks (λ u more. ends (parted a was t u fits))))) (λ es done k. ends k)
      parts None was false e = ends (none_so asked bound, StreamsUnchanged asked is was bound)
      parts (Some a) was false e = absurd (cc)

    -- by whether an address is given
    by_remote : (given : Option IpSocketAddress) → remote ≡ given → Meets BeginRow asked (streams_to own known given)
    by_remote (Some a) is = connects a is (is_connectable o.inner a) refl
    by_remote None is = parts is o.inner.remote refl (is_connected o.inner.remote) refl

  -- by whether it is bound
  by_bound : (es : List Entry) (b : _) → UdpBoundRow own o.inner es b → Meets BeginRow es (streams_where own remote (with_udp_inner o b.1) b.0)
  by_bound _ _ (ItsBound es is) = by_remote es is remote refl
  by_bound _ _ (ItsFree local free) = ends (put_udp_back (λ after. (marks_in (udp_local_entry own o.inner local ∷ []) ≡ 0) × UdpStreamRefusal m own place o remote (udp_local_entry own o.inner local ∷ []) word.InvalidState after) m place o n.at (refl, StreamsUnbound local free))

  -- how they begin
  pub streams_begin : Meets BeginRow [] (begin_streams_asks own o remote)
  streams_begin = chain (udp_bounds own o.inner) by_bound

-- == the step
module _ (contexts : List WasiSocketsCtx) (m : Machine) (line c handle : ℕ) (remote : Option IpSocketAddress) where
  -- the table of the step
  abbrev StreamRow : Rows (Result (Answer (ℕ × ℕ)) Stop × Machine)
  StreamRow = Replied contexts m line (step.Call c (guest.Udp (udp_call.Stream handle remote))) (answer_reply_of pair_values line)

  -- nothing is pending then
  free_so : (after : Machine) → after.store.standing ≡ m.store.standing → m.store.standing ≡ None → PendingHandleIsLive after
  free_so after same free = subst (λ (s : Option Standing). IfSome s (λ s. HasItsHandle after s.call)) (sym (same ∙ free)) tt

  -- where no stream is live no reply says that one is
  none_alive : {place : ℕ} {o : OpenUdp} → NamesUdp m handle place o → has_streams o ≡ false → (said : Reply) → said ≢ reply.Trap StreamsAlive → (said ≡ reply.Trap StreamsAlive) ↔ HasUdpStreams (open_udp_at m handle)
  none_alive {place} {o} n none said other = apart other (λ k. let some : has_streams o ≡ true = rw (its_udp n) at k in cc)

  -- the streams are new, and their network socket is the one that was
  are_new : {own : OpId} {o now : OpenUdp} {es : List Entry} → StreamsBegin own o remote es now → (now ≡ with_streams now) × (now.inner.side ≡ o.inner.side)
  are_new (StreamsConnected asked a peer is bound may) = (refl, refl)
  are_new (StreamsDisconnected asked a peer is was bound) = (refl, refl)
  are_new (StreamsUnchanged asked is was bound) = (refl, refl)

  -- the socket that is put is there
  new_there : (place : ℕ) (o : OpenUdp) → NamesUdp m handle place o → (now : OpenUdp) → open_at (with_open_udp m.store place now).records place ≡ Some now
  new_there place o n now = ap open_of (put_finds udp_sort m.store.records place (udp.Open o) (udp.Open now) (open_is (udp2_at m.store.records place) o n.at))

  -- the marks are those of its network socket
  side_there : (place : ℕ) (o : OpenUdp) → NamesUdp m handle place o → (now : OpenUdp) → now.inner.side ≡ o.inner.side → udp_side_at (udp2_at (with_open_udp m.store place now).records place) ≡ Some o.inner.side
  side_there place o n now same = ap udp_side_at (put_finds udp_sort m.store.records place (udp.Open o) (udp.Open now) (open_is (udp2_at m.store.records place) o n.at)) ∙ ap Some same

  -- they are made so
  made_so : (place : ℕ) (o : OpenUdp) → NamesUdp m handle place o → (es : List Entry) (now : OpenUdp) → StreamsBegin (own_of line) o remote es now
      → MakesStreams m (own_of line) handle place o remote (marks_of (record m { store = with_open_udp m.store place now }) (own_of line) handle place es) (record m { store = with_open_udp m.store place now; table = with_both m.table place handle })
  made_so place o n es now k = record { before = es; now = now; begin = k; asked = rw (side_there place o n now (are_new k).1) (append_assoc es _ _); left = refl }

  -- what was begun is in the table, with the handles that are made
  begun_so : (place : ℕ) (o : OpenUdp) (n : NamesUdp m handle place o) → has_streams o ≡ false → (es : List Entry) (begun : Result (Answer (Unit {0})) ErrorCode × OpenUdp) → BeginRow m line handle place o n remote es begun
      → Meets StreamRow es (streams_so (own_of line) handle m (udp_call_answered m.store (first_ids line) (StandingCall.UdpConnect place handle) begun))
  begun_so place o n none es (Ok Pending, now) k = ends ((none_alive n none _ (λ e. cc), λ free. n.names), ((refl, refl), (refl, here_udp n (let w = k.1 in record { addressed = w.addressed; remote_is = w.remote_is; connectable = w.connectable; told = w.told; stands = refl }))))
  begun_so place o n none es (Ok (Ready done), now) k =
      makes_both (record m { store = with_open_udp m.store place now }) (own_of line) handle place es n.names k.0
      (λ fs table full next lacks. ((none_alive n none _ (λ e. cc), free_so (record m { store = with_open_udp m.store place now; table = table }) refl), (tt, (full, next), rw n.names lacks)))
      ((none_alive n none _ (λ e. cc), free_so (record m { store = with_open_udp m.store place now; table = with_both m.table place handle }) refl), ((tt, (tt, tt)), ((refl, rw n.names refl), (here_udp n (rw (new_there place o n now) (are_new k.1).0), here_udp n (made_so place o n es now k.1)))))
  begun_so place o n none es (Err code, now) k = ends ((none_alive n none _ (λ e. cc), free_so (record m { store = with_open_udp m.store place now }) refl), (code_word code, here_udp n k.1))

  -- by whether a stream is live
  by_streams : (place : ℕ) (o : OpenUdp) (n : NamesUdp m handle place o) (b : Bool) → has_streams o ≡ b → Meets StreamRow [] (bind (start_streams_by m.store (first_ids line) place handle remote o b) (λ done. streams_so (own_of line) handle m done))
  unfolding bind
  by_streams place o n true some = ends (((λ e. rw (its_udp n) some, λ k. refl), free_so m refl), (tt, (refl, refl)))
  by_streams place o n false none = chain {Mid = λ es done. Meets StreamRow es (streams_so (own_of line) handle m done)} (onto _ (widen (begun_so place o n none) (streams_begin m line handle place o n remote))) (λ es done k. k)

  -- there is no such socket
  missing : open_udp_at m handle ≡ None → StreamRow [] (Err (Trap NoSuchHandle), m)
  missing none = ((apart (λ e. cc) (none_has _ (open_udp_at m handle) none), free_so m refl), (none, (refl, refl)))

  -- the step
  pub udp_stream : Meets (Says contexts m line (step.Call c (guest.Udp (udp_call.Stream handle remote)))) [] (bind (udp_stream_asks m (first_ids line) handle remote) (λ done. Give (answer_reply_of pair_values line done.0, done.1)))
  udp_stream =
      onto _ (on_udp m handle (udp_stream_on m (first_ids line) handle remote) (λ place found. bind (start_streams_at m.store (first_ids line) place handle remote found) (λ done. streams_so (own_of line) handle m done)) (λ place. refl)
      (λ none. ends (missing none)) (λ none place. chain {Mid = λ es done. Meets StreamRow es (streams_so (own_of line) handle m done)} (ends (ends (missing none))) (λ es done k. k)) (λ place o n. by_streams place o n (has_streams o) refl))

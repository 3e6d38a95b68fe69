-- The law of datagrams of 0.3 in progress, and of the handles of UDP sockets.
use Rattle.std.specs.Prelude.{◌≡◌, ℕ, Bool, true, false, List, length, Option, Some, None, Result, Ok, Err, is_some, refl}
use Rattle.std.proofs.Common.{ap, inl, inr, subst, sym, ◌∙◌}
use Rattle.wasi_world.specs.declared.ids.OpId.{OpId}
use Rattle.wasi_world.specs.declared.outcome.WasiSocketsCtx.{WasiSocketsCtx}
use Rattle.wasi_world.specs.Operation.{End, Item, Operation, Waits, Done, Refused, poll_asks}
use Rattle.wasi_world.specs.Typed.{told_names}
use Rattle.wasi_world.specs.declared.asks.Polled.{Polled}
use Rattle.wasi_world.specs.declared.asks.Polled.TheVariants as polled
use Rattle.wasi_addr.specs.declared.address.IpAddress.{IpAddress}
use Rattle.wasi_addr.specs.declared.code.ErrorCode.{ErrorCode}
use Rattle.wasi_table.specs.Table.{Live}
use Rattle.wasi_udp.specs.Create.{Create, after_create as udp_after_create}
use Rattle.wasi_udp.specs.Receive.{receive_start}
use Rattle.wasi_udp.specs.Send.{send_start}
use Rattle.udp_records.specs.declared.datagrams.Incoming.{Incoming as IncomingStream}
use Rattle.udp_records.specs.declared.udp.OpenUdp.{OpenUdp}
use Rattle.udp_records.specs.declared.udp.UdpRecord.{UdpRecord}
use Rattle.record_common.specs.Binding.{left_of}
use Rattle.udp_records.specs.Datagrams.{udp_connect_left, udp_reconnect_left}
use Rattle.record_common.specs.Names.{own_of}
use Rattle.udp_records.specs.Udp.{open_of}
use Rattle.wasi_records.specs.Records.{udp2_at}
use Rattle.wasi_records.specs.Records.{slot_pushed}
use Rattle.udp_records.specs.Udp.{udp_create_left, without_udp_socket}
use Rattle.host_store.specs.declared.beside.Beside.{Beside}
use Rattle.host_store.specs.declared.beside.BesideCall.{BesideCall}
use Rattle.host_store.specs.declared.beside.BesideCall.TheVariants.{Connect, Resolve, Send, Receive}
use Rattle.host_store.specs.declared.kind.Kind.{Kind}
use Rattle.host_store.specs.declared.kind.Kind.TheVariants.{Incoming, Input, Outgoing, Output, Udp2, Udp3}
use Rattle.host_store.specs.declared.store.StandingCall.{StandingCall}
use Rattle.host_store.specs.Beside.{beside_as, beside_of}
use Rattle.host_store.specs.Kinds.{kind_at}
use Rattle.host_lookups.specs.Resolves.{begun_lookup}
use Rattle.host_store.specs.Beside.{has_datagram, is_datagram_of}
use Rattle.host_store.specs.Standing.{call_place}
use Rattle.wasi_steps.specs.declared.step.Step.{Step}
use Rattle.wasi_walks.specs.Licence.{Has}
use Rattle.wasi_walks.proofs.Words.{with_handle, with_writer}
use Rattle.wasi_walks.proofs.Gives.{gives_any}
use Rattle.wasi_walks.proofs.Lists.{has_split}
use Rattle.wasi_walks.proofs.Places.{put_found, put_stays, udp_sort}
use Rattle.wasi_walks.proofs.PipeLists.{slot_push_same}
use Rattle.wasi_walks.proofs.Slots.{SlotOf, has_without, new_slot, one_of, slot_of}
use Rattle.wasi_walks.proofs.fits.Besides.{found_beside, has_kept, has_polled, none_has, none_of_it}
use Rattle.wasi_walks.proofs.fits.Datagrams.{CallHeld, Datagrams, FitBeside, IsAwaited, IsMadeOf, IsOld, awaited_made, NoNumber, SparesCall, at_kept, at_none, beside_fewer, beside_kept, beside_more, close_kept, gone_kept, live_fewer, live_more, made_now, push_create_kept, push_kept, put_kept, put_open_kept, put_unopen_kept, same_kept, spares_none, stands_none, stands_now}
use Rattle.wasi_walks.proofs.fits.UdpFits.{connected_side, reconnected_side}
use Rattle.wasi_walks.proofs.owners.Owned.{MadeSo, owner_of}
use Rattle.wasi_walks.proofs.owners.Records.{Owns}
use Rattle.wasi_walks.proofs.walks.Law.{BeginsWrites, InCall, Rests}
use Rattle.wasi_walks.proofs.walks.Moves as walk
use Rattle.wasi_walks.proofs.walks.Moves.{Emptied, FoundUdp, Held, Here, Interface, Made, Marks, Move, P2, P3, PollsDatagram, ReleasesUdp, StartsDatagram, StreamsUnder, datagram_begun, datagram_polled, one_stream, put, tcp_kind, udp_begun, with_beside}
use Rattle.wasi_walks.proofs.walks.OfState.{Becomes, Created, CreatedWith, DatagramBegan, DatagramPolled, GivenUp, Handles, HasHandle, HasNoRoom, IsClosed, LeavesDatagram, LeavesPolled, Learnt, NoRoom, OfAccepted, OfCreated, OfError, OfLine, OfListener, OfPlain, OfResult, OfState, OfStream, Resolved, StandsOn, UdpBegun, UdpGivenUp, UdpIsClosed, UdpLearnt, Writing, begins_state, creating, of_state}
use Rattle.wasi_walks.proofs.walks.States.{makes_plain}
use Rattle.wasi_walks.proofs.fits.DatagramFacts.{IsUdpSocket, end_none, no_open_left, not_of, open_held, other_place, plain_none, reaches, reaches_udp, resumes_held, stands_held, tcp_held, unheld_parts}

module _ (contexts : List WasiSocketsCtx) (line : ℕ) (origin : Step) where
  -- a handle goes that is that of a socket of 0.2, or of something else
  emptied : (h : Here) (handle : ℕ) (kind : Kind) → kind_at h.machine.table handle ≡ Some kind → Datagrams h → (place : ℕ) → IsMadeOf (Emptied kind) place → has_datagram h.machine.store.beside place ≡ false
  emptied h handle (Udp2 p) e i place m = let s = slot_of h.machine.table.live handle (Udp2 p) e in i.apart s.slot place s.live_one (s.value ∙ ap (λ (x : ℕ). Udp2 x) m)
  emptied h handle _ e i place m = absurd m

  -- the handle of a socket of 0.3 goes
  dropped_datagrams : (h : Here) (place : ℕ) (o : OpenUdp) → h.machine.store.standing ≡ None → FoundUdp h place (UdpRecord.Open o) → Datagrams h → Datagrams (record (walk.put_udp h place (UdpRecord.Open (without_udp_socket o))) { at = None })
  dropped_datagrams h place o idle g i = record {
    held = λ p n e. absurd (cc);
    stands = λ s e. absurd (let none : None ≡ Some s = sym idle ∙ e in cc);
    besides = λ b l. beside_kept NoNumber h.machine.store.records _ on b.line b.call (spares_none b.call) (i.besides b l);
    apart = i.apart;
    made = i.made;
    streams = λ k x e s. elim (put_found udp_sort h.machine.store.records place (UdpRecord.Open (without_udp_socket o)) k (UdpRecord.Open x) e) [
      | inl its ↦ (let same : Some (without_udp_socket o) ≡ Some x = ap (λ (u : UdpRecord). open_of (Some u)) its.1 in let is : without_udp_socket o ≡ x = cc in subst (IsOld h.machine.store.beside h.machine.table.live h.made) (sym its.0) (i.streams place o g (ap (λ (y : OpenUdp). is_some y.incoming) is ∙ s)))
      | inr was ↦ i.streams k x was s
    ];
  }
    where
      on : (k : ℕ) (x : OpenUdp) → (⊥ → ⊥) → udp2_at h.machine.store.records k ≡ Some (UdpRecord.Open x) → (p : OpenUdp) × ((udp2_at (walk.put_udp h place (UdpRecord.Open (without_udp_socket o))).machine.store.records k ≡ Some (UdpRecord.Open p)) × (p.inner.side ≡ x.inner.side))
      on k x but e = elim (put_stays udp_sort h.machine.store.records place (UdpRecord.Open (without_udp_socket o)) k (UdpRecord.Open x) e) [
        | inl still ↦ (x, (still, refl))
        | inr its ↦ (let same : Some o ≡ Some x = ap open_of (sym g ∙ (sym (ap (udp2_at h.machine.store.records) its.0) ∙ e)) in let is : o ≡ x = cc in (without_udp_socket o, (its.1, ap (λ (y : OpenUdp). y.inner.side) is)))
      ]

  none_made : (h : Here) (now : Made) → ((place : ℕ) → IsMadeOf now place → ⊥) → Datagrams h → Datagrams (record h { made = now })
  none_made h now none i = made_now h.machine.store.records now (λ place m. absurd (none place m)) (λ place o g s m. none place (awaited_made now place m)) i

  -- what makes streams is a socket of 0.2
  old_one : (h : Here) (place : ℕ) → Owns h → Datagrams h → StreamsUnder h place → IsOld h.machine.store.beside h.machine.table.live h.made place
  old_one h place b i (n, (handle, m)) = record {
    none = i.apart slot.slot place slot.live_one slot.value;
    handle = λ a l e. absurd (let it : a ≡ slot.slot = b.0.one a slot.slot place l slot.live_one (ap owner_of e) (ap owner_of slot.value) in let kinds : Udp3 place ≡ Udp2 place = sym e ∙ (ap (λ (x : Live Kind). x.value) it ∙ slot.value) in cc);
    made = λ e. let none : IsAwaited (walk.ToStream n handle place) place = subst (λ (x : Made). IsAwaited x place) m e in absurd none;
  }
    where
      slot : SlotOf h.machine.table.live handle (Udp2 place)
      slot = slot_of h.machine.table.live handle (Udp2 place) (subst (MadeSo h.machine.table h.machine.store.records) m b.1)

  -- its incoming stream moves
  streams_so : (h : Here) (place : ℕ) (o : OpenUdp) → FoundUdp h place (UdpRecord.Open o) → Owns h → Datagrams h → (old now : Option IncomingStream) → o.incoming ≡ old → walk.StreamMoves origin h place old now → is_some now ≡ true → IsOld h.machine.store.beside h.machine.table.live h.made place
  streams_so h place o g b i _ _ e (walk.StreamStays inc) s = i.streams place o g (ap (λ (x : Option IncomingStream). is_some x) e ∙ s)
  streams_so h place o g b i _ _ e (walk.StreamIsMade inc under) s = old_one h place b i under
  streams_so h place o g b i _ _ e (walk.StreamIsTaken inc takes) s = i.streams place o g (ap (λ (x : Option IncomingStream). is_some x) e)
  streams_so h place o g b i _ _ e (walk.StreamGoes inc gone) s = absurd (cc)

  pub moves_datagrams : (h now : Here) → Move line origin h now → Owns h → Datagrams h → Datagrams now
  moves_datagrams _ _ (walk.Reaches h handle place named e) b i = at_kept h.machine.store.records place line (reaches h.machine.table h.machine.store.records b.0 handle place e) i
  moves_datagrams _ _ (walk.ReachesUdp h handle place named e) b i = at_kept h.machine.store.records place line (reaches_udp h.machine.table h.machine.store.records b.0 handle place e) i
  moves_datagrams _ _ (walk.ReachesEnd h handle place end r named e at g) b i = at_kept h.machine.store.records place line (tcp_held h.machine.store.records place r g) i
  moves_datagrams _ _ (walk.ReachesHandle h kind n handle place handles m l e) b i = at_kept h.machine.store.records place n (reaches h.machine.table h.machine.store.records b.0 handle place e) i
  moves_datagrams _ _ (walk.Resumes h s e of) b i = at_kept h.machine.store.records (call_place s.call) s.ids.line (resumes_held h.machine.store.records s.call of (i.stands s e)) i
  moves_datagrams _ _ (walk.Leaves h) b i = none_made (record h { at = None }) walk.Past (λ p m. m) (at_none h.machine.store.records i)
  moves_datagrams _ _ (walk.Changes h place r now g p) b i = put_kept h.machine.store.records place r now g i
  moves_datagrams _ _ (walk.ClosesReader h place r s g e) b i = put_kept h.machine.store.records place r _ g i
  moves_datagrams _ _ (walk.Writes h place r s w g e m) b i = put_kept h.machine.store.records place r _ g i
  moves_datagrams _ _ (walk.IsGone h place r q g e) b i = put_kept h.machine.store.records place r _ g i
  moves_datagrams _ _ (walk.Reconnects h place r c now g e s t u) b i = put_kept h.machine.store.records place r _ g i
  moves_datagrams _ _ (walk.Opens h place r c k g e n) b i = put_kept h.machine.store.records place r _ g i
  moves_datagrams _ _ (walk.TakesEnd h handle place r now e g takes) b i = put_kept h.machine.store.records place r now g i
  moves_datagrams _ _ (walk.BeginsConnect h place r side a bound at g d to known idle own) b i = put_kept h.machine.store.records place r _ g i
  moves_datagrams _ _ (walk.BeginsBind h place r side a at g d to own) b i = put_kept h.machine.store.records place r _ g i
  moves_datagrams _ _ (walk.BeginsWrite h place n r s half permit bytes at g e w within own) b i = put_kept h.machine.store.records place r _ g i
  moves_datagrams _ _ (walk.BeginsListen h place r side bound at g d known un none to idle own) b i = put_kept h.machine.store.records place r _ g i
  moves_datagrams _ _ (walk.BeginsAccept h place n r l at g e a own) b i = put_kept h.machine.store.records place r _ g i
  moves_datagrams _ _ (walk.Unlistens h place r op q g e c o) b i = put_kept h.machine.store.records place r _ g i
  moves_datagrams _ _ (walk.Forgets h place r l c g e a) b i = put_kept h.machine.store.records place r _ g i
  moves_datagrams _ _ (walk.CancelsBind h place r op q g e) b i = put_kept h.machine.store.records place r _ g i
  moves_datagrams _ _ (walk.AddsSlot h s) b i = none_made (walk.with_records h (slot_pushed h.machine.store.records s)) _ (λ p m. m) (same_kept h.machine.store.records _ (slot_push_same {new = λ op. ⊥} h.machine.store.records s).udp i)
  moves_datagrams _ _ (walk.Joins h c handle place r l new peer is of u g e a) b i = at_none _ (made_now _ _ (λ p m. absurd m) (λ p o k s m. m) (push_kept _ _ (put_kept h.machine.store.records place r _ g i)))
  moves_datagrams _ _ (walk.JoinsPlain h c listener remaining place r l new peer is of u g e a) b i = at_none _ (made_now _ _ (λ p m. absurd m) (λ p o k s m. m) (push_kept _ _ (put_kept h.machine.store.records place r _ g i)))
  moves_datagrams _ _ (walk.JoinsFault h place r l c u g e a) b i = at_none _ (made_now _ _ (λ p m. absurd m) (λ p o k s m. m) (push_kept _ _ (put_kept h.machine.store.records place r _ g i)))
  moves_datagrams _ _ (walk.Watches h own) b i = none_made h _ (λ p m. m) i
  moves_datagrams _ _ (walk.RemembersListen h marks place r is under g none) b i = none_made h _ (λ p m. m) i
  moves_datagrams _ _ (walk.RecallsListen h ids place marks e) b i = none_made h _ (λ p m. m) i
  moves_datagrams _ _ (walk.RemembersStreams h c handle place remote is of o g none) b i = none_made h _ (λ p m. m) i
  moves_datagrams _ _ (walk.RecallsStreams h ids place handle e own) b i = none_made h _ (λ p m. m) i
  moves_datagrams _ _ (walk.CallsHandles h kind calls q) b i = none_made h _ (λ p m. m) i
  moves_datagrams _ _ (walk.RecallsCall h ids call e) b i = none_made h _ (λ p m. m) i
  moves_datagrams _ _ (walk.Frees h place made) b i = none_made h _ (λ p m. m) i
  moves_datagrams _ _ (walk.IsUnheld h place r g free) b i = none_made h _ (λ p m. m) i
  moves_datagrams _ _ (walk.Numbers h) b i = none_made h _ (λ p m. m) i
  moves_datagrams _ _ (walk.AwaitsCreate h place face create is g) b i =
      made_now h.machine.store.records _
      (λ p m. none_has h.machine.store.beside p (λ call l. not_of h.machine.store.records p call.line (λ o e. absurd (let q : open_of (Some (UdpRecord.Creating create)) ≡ Some o = ap open_of (sym g ∙ (ap (udp2_at h.machine.store.records) m ∙ e)) in cc)) call.call (i.besides call l)))
      (λ p o k s m. absurd (let q : open_of (Some (UdpRecord.Creating create)) ≡ Some o = ap open_of (sym g ∙ (ap (udp2_at h.machine.store.records) m ∙ k)) in cc)) i
  moves_datagrams _ _ (walk.StandsListen h ids place marks r q at made g goes) b i = stands_now h.machine.store.records ids _ (tcp_held h.machine.store.records place r g) i
  moves_datagrams _ _ (walk.Stands h ids call r q at g goes) b i = stands_now h.machine.store.records ids call (stands_held h.machine.store.records call r g goes) i
  moves_datagrams _ _ (walk.StandsUdpBind h ids place face o op q at g e) b i = stands_now h.machine.store.records ids _ (i.held place ids.line at) i
  moves_datagrams _ _ (walk.StandsUdpCreate h ids place face create q made g by) b i = stands_now h.machine.store.records ids (StandingCall.UdpCreate place face) tt i
  moves_datagrams _ _ (walk.StandsUdpConnect h ids place handle o op q at made g e) b i = stands_now h.machine.store.records ids (StandingCall.UdpConnect place handle) (i.held place ids.line at) i
  moves_datagrams _ _ (walk.StandsConnect h ids place o op q at made g e) b i = stands_now h.machine.store.records ids (StandingCall.UdpConnect3 place) (i.held place ids.line at) i
  moves_datagrams _ _ (walk.StandsDropOutgoing h ids place o q at g e) b i = stands_now h.machine.store.records ids (StandingCall.DropOutgoing place) (record { was = o; at = g; held = i.held place ids.line at o g }) i
  moves_datagrams _ _ (walk.StandsBlocking h ids call handles made e) b i = stands_now h.machine.store.records ids (StandingCall.Blocking call) tt i
  moves_datagrams _ _ (walk.Unstands h over) b i = stands_none h.machine.store.records i
  moves_datagrams _ _ (walk.StandsBeside h place r op at g e own) b i = beside_more h.machine.store.records _ (beside_as line (Connect place)) (has_split h.machine.store.beside (beside_as line (Connect place))) tt (λ a p l k. refl) (λ p m. refl) (λ p o k s. refl) i
  moves_datagrams _ _ (walk.EndsBeside h n) b i = beside_fewer h.machine.store.records _ (has_kept h.machine.store.beside n) i
  moves_datagrams _ _ (walk.UdpChanges h place o now g p keeps) b i = put_open_kept h.machine.store.records place o now g p.side p.dropped (streams_so h place o g b i o.incoming now.incoming refl keeps.incoming) i
  moves_datagrams _ _ (walk.BeginsUdpBind h place o a at g to own) b i = put_open_kept h.machine.store.records place o _ g refl refl (i.streams place o g) i
  moves_datagrams _ _ (walk.BeginsUdpConnect h place o a bound at g to known none own) b i = put_open_kept h.machine.store.records place o _ g refl refl (i.streams place o g) i
  moves_datagrams _ _ (walk.BeginsSend h place n o out d bound at g e item known own) b i = put_open_kept h.machine.store.records place o _ g refl refl (i.streams place o g) i
  moves_datagrams _ _ (walk.BeginsReceive h place n o inc bound at g e is own) b i = put_open_kept h.machine.store.records place o _ g refl refl (λ s. i.streams place o g (ap (λ (x : Option IncomingStream). is_some x) e)) i
  moves_datagrams _ _ (walk.CancelsUdpBind h place o op q g e) b i = put_open_kept h.machine.store.records place o _ g refl refl (i.streams place o g) i
  moves_datagrams _ _ (walk.CancelsUdpConnect h place o q g) b i = put_open_kept h.machine.store.records place o _ g refl refl (i.streams place o g) i
  moves_datagrams _ _ (walk.Finds h records same) b i = same_kept h.machine.store.records records same.udp i
  moves_datagrams _ _ (walk.Empties h handle kind q e none) b i =
      live_fewer h.machine.store.records _ (has_without h.machine.table.live handle) (made_now h.machine.store.records (Emptied kind) (emptied h handle kind e i) (λ p o g s m. m) i)
  moves_datagrams _ _ (walk.Takes h handle q past none) b i = live_fewer h.machine.store.records _ (has_without h.machine.table.live handle) i
  moves_datagrams _ _ (walk.DropsUdp h place o idle made g) b i = dropped_datagrams h place o idle g i
  moves_datagrams _ _ (walk.GivesBack h place idle left) b i = gone_kept h.machine.store.records place (no_open_left h place left) i
  moves_datagrams _ _ _ b i = i

  -- == what is asked
  -- a UDP socket is closed
  closed_datagrams : (h : Here) (place : ℕ) (o : OpenUdp) → ReleasesUdp h place → FoundUdp h place (UdpRecord.Open o) → Datagrams h → Datagrams (walk.put_udp h place (UdpRecord.Closed o.inner.side))
  closed_datagrams h place o (walk.WithHandle idle made) g i = close_kept h.machine.store.records place o.inner.side (i.made place (subst (λ (m : Made). IsMadeOf m place) (sym made) refl)) (λ s e. absurd (let none : None ≡ Some s = sym idle ∙ e in cc)) i
  closed_datagrams h place o (walk.Unheld free) g i = close_kept h.machine.store.records place o.inner.side its.1 (λ s e. spares s.call (i.stands s e)) i
    where
      its : (o.dropped ≡ true) × (has_datagram h.machine.store.beside place ≡ false)
      its = unheld_parts h place o g free

      spares : (call : StandingCall) → CallHeld h.machine.store.records call → SparesCall (λ k. k ≡ place) call
      spares (StandingCall.DropOutgoing p) k = λ same. absurd (let free : o.dropped ≡ false = open_held h.machine.store.records place k.was (ap (udp2_at h.machine.store.records) (sym same) ∙ k.at) k.held o g in let lost : o.dropped ≡ true = its.0 in cc)
      spares _ k = tt

  -- a handle of 0.2 is of no socket of 0.3
  no_old : (h : Here) (s place : ℕ) → Owns h → kind_at h.machine.table s ≡ Some (Udp3 place) → (a : Live Kind) (p : ℕ) → Has h.machine.table.live a → a.value ≡ Udp2 p → place ≡ p → ⊥
  no_old h s place b at a p l old same =
      let slot = slot_of h.machine.table.live s (Udp3 place) at in
      absurd (let it : a ≡ slot.slot = b.0.one a slot.slot place l slot.live_one (ap owner_of old ∙ ap (λ (x : ℕ). Some x) (sym same)) (ap owner_of slot.value) in let kinds : Udp2 p ≡ Udp3 place = sym old ∙ (ap (λ (x : Live Kind). x.value) it ∙ slot.value) in cc)

  module _ (h : Here) (place : ℕ) (o : OpenUdp) (g : FoundUdp h place (UdpRecord.Open o)) where
    -- one of 0.3 has no streams
    no_new : (s p : ℕ) → kind_at h.machine.table s ≡ Some (Udp3 place) → IsOld h.machine.store.beside h.machine.table.live h.made p → place ≡ p → ⊥
    no_new s p at old same = let slot = slot_of h.machine.table.live s (Udp3 place) at in old.handle slot.slot slot.live_one (slot.value ∙ ap (λ (x : ℕ). Udp3 x) same)

    -- a datagram begins, and stands while it is pending
    begun_datagrams : (call : Operation → BesideCall) (op polled : Operation) (ended : End × List Item) (starts : StartsDatagram line origin h.machine.table place o call op polled) → h.made ≡ walk.Past → LeavesDatagram starts ended → Owns h → Datagrams h
        → Datagrams (with_beside h (datagram_begun h.machine.store.beside line call op ended))
    begun_datagrams call op polled (Done given, items) starts m left b i = i
    begun_datagrams call op polled (Refused c given, items) starts m left b i = i
    begun_datagrams _ _ _ (Waits, items) (walk.StartsSend c s d bound is at known) m left b i =
        let new : Beside = beside_as line (Send place (left_of (send_start (own_of line) o.inner d.bytes d.remote_address bound) items)) in
        beside_more h.machine.store.records _ new (has_split h.machine.store.beside new) (record { was = o; at = g; of_side = refl; of_line = refl; going = left.1 }, record { last = refl; left = left.0 })
        (λ a p l old. other_place place p (no_old h s place b at a p l old)) (λ p k. let none : IsMadeOf walk.Past p = subst (λ (x : Made). IsMadeOf x p) m k in absurd none) (λ p x k t. other_place place p (no_new s p at (i.streams p x k t))) i
    begun_datagrams _ _ _ (Waits, items) (walk.StartsReceive c s bound is at known) m left b i =
        let new : Beside = beside_as line (Receive place (left_of (receive_start (own_of line) o.inner bound) items)) in
        beside_more h.machine.store.records _ new (has_split h.machine.store.beside new) (record { was = o; at = g; of_side = refl; of_line = refl; going = left.1 }, record { last = refl; left = left.0 })
        (λ a p l old. other_place place p (no_old h s place b at a p l old)) (λ p k. let none : IsMadeOf walk.Past p = subst (λ (x : Made). IsMadeOf x p) m k in absurd none) (λ p x k t. other_place place p (no_new s p at (i.streams p x k t))) i

    -- one is polled where it stands
    module _ (n : ℕ) (b : Beside) (at : beside_of h.machine.store n ≡ Some b) (i : Datagrams h) where
      stood : Has h.machine.store.beside b × (b.line ≡ n)
      stood = found_beside h.machine.store.beside n b at

      -- the call that is left keeps its socket
      still : (call : Operation → BesideCall) (op : Operation) (ended : End × List Item) → FitBeside h.machine.store.records n (call (left_of op ended.1)) → ((p : ℕ) → is_datagram_of p (call (left_of op ended.1)) ≡ is_datagram_of p b.call)
          → Datagrams (with_beside h (datagram_polled h.machine.store.beside n call op (Waits, ended.1)))
      still call op ended fits same =
          beside_more h.machine.store.records _ (beside_as n (call (left_of op ended.1))) (λ x l. elim (has_polled h.machine.store.beside n call op (Waits, ended.1) x l) [ inl was ↦ inl was | inr is ↦ inr is.1 ]) fits
          (λ a p l old. same p ∙ none_of_it h.machine.store.beside p b (i.apart a p l old) stood.0) (λ p m. same p ∙ none_of_it h.machine.store.beside p b (i.made p m) stood.0)
          (λ p x k s. same p ∙ none_of_it h.machine.store.beside p b (i.streams p x k s).none stood.0) i

      polled_so : (was : BesideCall) → b.call ≡ was → (call : Operation → BesideCall) (op polled : Operation) (ended : End × List Item) (polls : PollsDatagram place o was call op polled) → LeavesPolled polls ended
          → Datagrams (with_beside h (datagram_polled h.machine.store.beside n call op ended))
      polled_so was e call op polled (Done given, items) polls left = beside_fewer h.machine.store.records _ (has_kept h.machine.store.beside n) i
      polled_so was e call op polled (Refused c given, items) polls left = beside_fewer h.machine.store.records _ (has_kept h.machine.store.beside n) i
      polled_so _ e _ _ _ (Waits, items) (walk.PollsSend op) left =
          let f : FitBeside h.machine.store.records b.line (Send place op) = subst (FitBeside h.machine.store.records b.line) e (i.besides b stood.0) in
          let k = left f.1.left in
          still (Send place) op (Waits, items) (record { was = f.0.was; at = f.0.at; of_side = f.0.of_side; of_line = f.0.of_line ∙ ap own_of stood.1; going = k.1 }, record { last = f.1.last; left = k.0 }) (λ p. ap (is_datagram_of p) (sym e))
      polled_so _ e _ _ _ (Waits, items) (walk.PollsReceive op) left =
          let f : FitBeside h.machine.store.records b.line (Receive place op) = subst (FitBeside h.machine.store.records b.line) e (i.besides b stood.0) in
          let k = left f.1.left in
          still (Receive place) op (Waits, items) (record { was = f.0.was; at = f.0.at; of_side = f.0.of_side; of_line = f.0.of_line ∙ ap own_of stood.1; going = k.1 }, record { last = f.1.last; left = k.0 }) (λ p. ap (is_datagram_of p) (sym e))

  -- a lookup began
  looked_datagrams : (h : Here) (host : List ℕ) (told : Polled (List IpAddress)) → Datagrams h → Datagrams (with_beside h (begun_lookup h.machine.store.beside (beside_as line (Resolve host)) (Ok told)))
  looked_datagrams h host polled.Pending i = beside_more h.machine.store.records _ (beside_as line (Resolve host)) (has_split h.machine.store.beside _) tt (λ a p l k. refl) (λ p m. refl) (λ p o k s. refl) i
  looked_datagrams h host (polled.Ready names) i = i
  looked_datagrams h host (polled.Code c) i = i

  -- a handle is made: of a UDP socket it is that of a create, which has neither datagrams nor streams
  marks_none : (h : Here) (kind : Kind) (parent : Option ℕ) (sock : Option OpId) → Marks origin h kind parent sock → IsUdpSocket kind → ⊥
  marks_none h _ parent sock (walk.ANetwork c e) is = is
  marks_none h kind _ _ (walk.AStream c handle p _ its two opened) is = elim two [ inl e ↦ (let none : IsUdpSocket (Input p) = subst IsUdpSocket e is in absurd none) | inr e ↦ (let none : IsUdpSocket (Output p) = subst IsUdpSocket e is in absurd none) ]
  marks_none h kind _ _ (walk.AnAcceptedStream c listener handle p _ r its two made own g) is = elim two [ inl e ↦ (let none : IsUdpSocket (Input p) = subst IsUdpSocket e is in absurd none) | inr e ↦ (let none : IsUdpSocket (Output p) = subst IsUdpSocket e is in absurd none) ]
  marks_none h _ _ sock (walk.APollable c handle w its p e by) is = is
  marks_none h _ _ sock (walk.AUdpPollable c handle w its p e by) is = is
  marks_none h _ _ sock (walk.ALookup c network p name its there made) is = is
  marks_none h _ _ sock (walk.ALookupPollable c handle p its e) is = is
  marks_none h _ _ sock (walk.APlain kind makes numbered) is = plain_none kind (makes_plain origin kind makes) is
  marks_none h _ _ sock (walk.APlainPollable c handle its e) is = is
  marks_none h kind _ _ (walk.AnEnd socket p _ end r m in_it e g its made) is = end_none kind end in_it is

  handles_new : (h : Here) (kind : Kind) (parent : Option ℕ) (made : Made) → Handles origin h kind parent made → Datagrams h → (place : ℕ) → kind ≡ Udp2 place → has_datagram h.machine.store.beside place ≡ false
  handles_new h kind parent _ (OfLine _ _ sock m) i place is = absurd (marks_none h kind parent sock m (subst IsUdpSocket (sym is) tt))
  handles_new h _ _ _ (OfAccepted c s p r its e o g) i place is = absurd (cc)
  handles_new h _ _ _ (OfPlain c s remaining p r its e o g) i place is = absurd (cc)
  handles_new h _ _ _ (OfListener n handle reached p r q made g has e) i place is = absurd (cc)
  handles_new h _ _ _ (OfResult socket p slot r its made e g) i place is = absurd (cc)
  handles_new h _ _ _ (OfCreated P2 p u g) i place is = let same : p ≡ place = cc in i.made place (subst (λ (x : Made). IsMadeOf x place) (sym g.awaited) same)
  handles_new h _ _ _ (OfCreated P3 p u g) i place is = absurd (cc)
  handles_new h kind _ _ (OfStream p n handle reached _ next new of) i place is =
      elim (one_stream h.made n handle reached kind p next) [ inl e ↦ absurd (let q : Incoming p ≡ Udp2 place = sym e ∙ is in cc) | inr e ↦ absurd (let q : Outgoing p ≡ Udp2 place = sym e ∙ is in cc) ]
  handles_new h _ _ _ (OfError n handle p handles m l e) i place is = absurd (cc)

  handles_newer : (h : Here) (kind : Kind) (parent : Option ℕ) (made : Made) → Handles origin h kind parent made → Datagrams h → (place : ℕ) (o : OpenUdp) → FoundUdp h place (UdpRecord.Open o) → is_some o.incoming ≡ true → kind ≡ Udp3 place → ⊥
  handles_newer h kind parent _ (OfLine _ _ sock m) i place x f t is = marks_none h kind parent sock m (subst IsUdpSocket (sym is) tt)
  handles_newer h _ _ _ (OfAccepted c s p r its e o g) i place x f t is = absurd (cc)
  handles_newer h _ _ _ (OfPlain c s remaining p r its e o g) i place x f t is = absurd (cc)
  handles_newer h _ _ _ (OfListener n handle reached p r q made g has e) i place x f t is = absurd (cc)
  handles_newer h _ _ _ (OfResult socket p slot r its made e g) i place x f t is = absurd (cc)
  handles_newer h _ _ _ (OfCreated P2 p u g) i place x f t is = absurd (cc)
  handles_newer h _ _ _ (OfCreated P3 p u g) i place x f t is = let same : p ≡ place = cc in (i.streams place x f t).made (subst (λ (m : Made). IsAwaited m place) (sym g.awaited) same)
  handles_newer h kind _ _ (OfStream p n handle reached _ next new of) i place x f t is =
      elim (one_stream h.made n handle reached kind p next) [ inl e ↦ absurd (let q : Incoming p ≡ Udp3 place = sym e ∙ is in cc) | inr e ↦ absurd (let q : Outgoing p ≡ Udp3 place = sym e ∙ is in cc) ]
  handles_newer h _ _ _ (OfError n handle p handles m l e) i place x f t is = absurd (cc)

  handles_awaited : (h : Here) (kind : Kind) (parent : Option ℕ) (made : Made) → Handles origin h kind parent made → Datagrams h → (place : ℕ) (o : OpenUdp) → FoundUdp h place (UdpRecord.Open o) → is_some o.incoming ≡ true → IsAwaited made place → ⊥
  handles_awaited h _ _ _ (OfLine kind parent sock m) i place x f t k = (i.streams place x f t).made k
  handles_awaited h _ _ _ (OfError n handle p handles m l e) i place x f t k = (i.streams place x f t).made k
  handles_awaited h _ _ _ (OfAccepted c s p r its e o g) i place x f t k = k
  handles_awaited h _ _ _ (OfPlain c s remaining p r its e o g) i place x f t k = k
  handles_awaited h _ _ _ (OfListener n handle reached p r q made g has e) i place x f t k = k
  handles_awaited h _ _ _ (OfResult socket p slot r its made e g) i place x f t k = k
  handles_awaited h _ _ _ (OfCreated face p u g) i place x f t k = k
  handles_awaited h _ _ _ (OfStream p n handle reached kind next new of) i place x f t k = k

  -- what is made then is no socket of which datagrams are
  handles_made : (h : Here) (kind : Kind) (parent : Option ℕ) (made : Made) → Handles origin h kind parent made → Datagrams h → (place : ℕ) → IsMadeOf made place → has_datagram h.machine.store.beside place ≡ false
  handles_made h _ _ _ (OfLine kind parent sock m) i place k = i.made place k
  handles_made h _ _ _ (OfError n handle p handles m l e) i place k = i.made place k
  handles_made h _ _ _ (OfAccepted c s p r its e o g) i place k = absurd k
  handles_made h _ _ _ (OfPlain c s remaining p r its e o g) i place k = absurd k
  handles_made h _ _ _ (OfListener n handle reached p r q made g has e) i place k = absurd k
  handles_made h _ _ _ (OfResult socket p slot r its made e g) i place k = absurd k
  handles_made h _ _ _ (OfCreated face p u g) i place k = absurd k
  handles_made h _ _ _ (OfStream p n handle reached kind next new of) i place k = absurd k

  has_handle : (h : Here) (kind : Kind) (parent : Option ℕ) → ((place : ℕ) → kind ≡ Udp2 place → has_datagram h.machine.store.beside place ≡ false) → ((place : ℕ) (o : OpenUdp) → FoundUdp h place (UdpRecord.Open o) → is_some o.incoming ≡ true → kind ≡ Udp3 place → ⊥) → Datagrams h
      → Datagrams (record h { machine = record h.machine { table = with_handle h.machine.table kind parent } })
  has_handle h kind parent free other i = live_more h.machine.store.records _ (new_slot h.machine.table kind parent) (one_of h.machine.table kind parent) free other i

  no_room : (h : Here) (made : Made) → HasNoRoom made → Datagrams h → Datagrams (record h { made = made })
  no_room h walk.Past none i = none_made h walk.Past (λ p m. m) i
  no_room h (walk.ToSend n handle reached) none i = none_made h (walk.ToSend n handle reached) (λ p m. m) i
  no_room h _ none i = absurd none

  begun_create : (h : Here) (made : Result Create ErrorCode) → Datagrams h → Datagrams (udp_begun h made)
  begun_create h (Ok create) i = push_create_kept h.machine.store.records create i
  begun_create h (Err c) i = i

  no_old_kind : (face : Interface) (p place : ℕ) → tcp_kind face p ≡ Udp2 place → ⊥
  no_old_kind P2 p place e = absurd (cc)
  no_old_kind P3 p place e = absurd (cc)

  no_new_kind : (face : Interface) (p place : ℕ) → tcp_kind face p ≡ Udp3 place → ⊥
  no_new_kind P2 p place e = absurd (cc)
  no_new_kind P3 p place e = absurd (cc)

  pub becomes_datagrams : (h now : Here) → Becomes contexts line origin h now → Owns h → Datagrams h → Datagrams now
  becomes_datagrams h _ (Learnt place r side told at g e) b i = put_kept h.machine.store.records place r _ g i
  becomes_datagrams h _ (IsClosed place r side q g e) b i = put_kept h.machine.store.records place r _ g i
  becomes_datagrams h _ (GivenUp place r q goes g) b i = put_kept h.machine.store.records place r _ g i
  becomes_datagrams h _ (UdpLearnt place o socket g e) b i = put_open_kept h.machine.store.records place o _ g e refl (i.streams place o g) i
  becomes_datagrams h _ (UdpIsClosed place o q g) b i = closed_datagrams h place o q g i
  becomes_datagrams h _ (UdpGivenUp place create q g) b i = put_unopen_kept h.machine.store.records place (UdpRecord.Creating create) _ g refl (λ p e. absurd (let q : open_of (Some (UdpRecord.Closed create.operation.who.side)) ≡ Some p = ap (λ (u : UdpRecord). open_of (Some u)) e in cc)) i
  becomes_datagrams h _ (UdpBegun face ctx family r c u m) b i = begun_create h (udp_after_create (own_of line) ctx.name family r) i
  becomes_datagrams h _ (Resolved host records l s) b i = same_kept h.machine.store.records records s.udp i
  becomes_datagrams h _ (StandsOn host told) b i = looked_datagrams h host (told_names told) i
  becomes_datagrams h _ (DatagramBegan place o call op polled ended at g starts m own left) b i = begun_datagrams h place o g call op polled ended starts m left b i
  becomes_datagrams h _ (DatagramPolled n call place o make op polled ended is at g polls left) b i = polled_so h place o g n call at i call.call refl make op polled ended polls left
  becomes_datagrams h _ (HasHandle kind parent made k) b i = made_now h.machine.store.records made (handles_made h kind parent made k i) (λ p o g s. handles_awaited h kind parent made k i p o g s) (has_handle h kind parent (handles_new h kind parent made k i) (λ p o g s. handles_newer h kind parent made k i p o g s) i)
  becomes_datagrams h _ (NoRoom made none) b i = no_room h made none i
  becomes_datagrams h _ (Created face ctx family c u m) b i = push_kept h.machine.store.records _ i
  becomes_datagrams h _ (CreatedWith face ctx family c u m) b i = has_handle (creating h (own_of line) ctx family) (tcp_kind face (length h.machine.store.records)) None (λ p e. absurd (no_old_kind face (length h.machine.store.records) p e)) (λ p o g s e. no_new_kind face (length h.machine.store.records) p e) (push_kept h.machine.store.records _ i)
  becomes_datagrams h _ (Writing _ (InCall place n r s half permit bytes at g e w within used)) b i = put_kept h.machine.store.records place r _ g i

  -- == polls
  created_free : (create : Create) (end : End × List Item) (p : OpenUdp) → udp_create_left create end ≡ UdpRecord.Open p → (p.dropped ≡ false) × (is_some p.incoming ≡ true → ⊥)
  created_free create (Waits, items) p e = absurd (let q : None ≡ Some p = ap (λ (u : UdpRecord). open_of (Some u)) e in cc)
  created_free create (Done given, items) p e = free (ap (λ (u : UdpRecord). open_of (Some u)) e)
    where
      dropped_in : Option OpenUdp → Bool
      dropped_in None = false
      dropped_in (Some y) = y.dropped

      streams_in : Option OpenUdp → Bool
      streams_in None = false
      streams_in (Some y) = is_some y.incoming

      free : open_of (Some (udp_create_left create (Done given, items))) ≡ Some p → (p.dropped ≡ false) × (is_some p.incoming ≡ true → ⊥)
      free q = (subst (λ (o : Option OpenUdp). dropped_in o ≡ false) q refl, λ s. absurd (let none : is_some p.incoming ≡ false = subst (λ (o : Option OpenUdp). streams_in o ≡ false) q refl in cc))
  created_free create (Refused c given, items) p e = absurd (let q : None ≡ Some p = ap (λ (u : UdpRecord). open_of (Some u)) e in cc)

  connected_held : (o : OpenUdp) (op : Operation) (end : End × List Item) → (udp_connect_left op o end).dropped ≡ o.dropped
  connected_held o op (Waits, items) = refl
  connected_held o op (Done given, items) = refl
  connected_held o op (Refused c given, items) = refl

  reconnected_held : (o : OpenUdp) (op : Operation) (end : End × List Item) → (udp_reconnect_left op o end).dropped ≡ o.dropped
  reconnected_held o op (Waits, items) = refl
  reconnected_held o op (Done given, items) = refl
  reconnected_held o op (Refused c given, items) = refl

  -- a connect of a socket of 0.2 makes streams
  connected_streams : (h : Here) (place : ℕ) (o : OpenUdp) (op : Operation) (end : End × List Item) → FoundUdp h place (UdpRecord.Open o) → StreamsUnder h place → Owns h → Datagrams h → is_some (udp_connect_left op o end).incoming ≡ true → IsOld h.machine.store.beside h.machine.table.live h.made place
  connected_streams h place o op (Waits, items) g under b i s = i.streams place o g s
  connected_streams h place o op (Done given, items) g under b i s = old_one h place b i under
  connected_streams h place o op (Refused c given, items) g under b i s = i.streams place o g s

  reconnected_streams : (o : OpenUdp) (op : Operation) (end : End × List Item) → (udp_reconnect_left op o end).incoming ≡ o.incoming
  reconnected_streams o op (Waits, items) = refl
  reconnected_streams o op (Done given, items) = refl
  reconnected_streams o op (Refused c given, items) = refl

  pub polls_datagrams : (h : Here) (op : Operation) (after : End × List Item → Here) → Held h op after → (end : End × List Item) → Owns h → Datagrams h → Datagrams (after end)
  polls_datagrams h _ _ (walk.BindsOn place r op q g e) end b i = put_kept h.machine.store.records place r _ g i
  polls_datagrams h _ _ (walk.Connects place r op g e) end b i = put_kept h.machine.store.records place r _ g i
  polls_datagrams h _ _ (walk.Listens place r op q g e c) end b i = put_kept h.machine.store.records place r _ g i
  polls_datagrams h _ _ (walk.Awaits place r l op g e a) end b i = put_kept h.machine.store.records place r _ g i
  polls_datagrams h _ _ (walk.UdpCreates place create q g) end b i = put_unopen_kept h.machine.store.records place (UdpRecord.Creating create) _ g refl (created_free create end) i
  polls_datagrams h _ _ (walk.UdpBindsOn place o op q g e) end b i = put_open_kept h.machine.store.records place o _ g refl refl (i.streams place o g) i
  polls_datagrams h _ _ (walk.UdpConnectsOn place o op q g e) end b i = put_open_kept h.machine.store.records place o _ g (connected_side o op end) (connected_held o op end) (connected_streams h place o op end g q.1 b i) i
  polls_datagrams h _ _ (walk.UdpReconnectsOn place o op q g e) end b i = put_open_kept h.machine.store.records place o _ g (reconnected_side o op end) (reconnected_held o op end) (λ s. i.streams place o g (ap (λ (x : Option IncomingStream). is_some x) (sym (reconnected_streams o op end)) ∙ s)) i
  polls_datagrams h _ _ (walk.SendsOn place o out op left g e s settles) end b i = put_open_kept h.machine.store.records place o _ g refl refl (i.streams place o g) i
  polls_datagrams h _ _ (walk.ReceivesOn place o inc op g e s) end b i = put_open_kept h.machine.store.records place o _ g refl refl (λ t. i.streams place o g (ap (λ (x : Option IncomingStream). is_some x) e)) i

  -- == the law
  abbrev pub datagrams_state : OfState contexts line origin (λ es h. Owns h)
  datagrams_state = record {
    Holds = Datagrams;
    moves = λ es h now m b i. moves_datagrams h now m b i;
    becomes = λ es h now k b i. becomes_datagrams h now k b i;
    polls = λ es h op after held b i. gives_any (λ fs end. Datagrams (after end)) (λ fs end. polls_datagrams h op after held end b i) es (poll_asks op);
    turns = λ es h place r s g e b i. gives_any (λ fs done. Datagrams (put h place (with_writer r s done.1))) (λ fs done. put_kept h.machine.store.records place r _ g i) es _;
  }

  unfoldable pub datagrams : Rests contexts line origin (λ es h. Owns h)
  datagrams = of_state datagrams_state

  pub datagrams_begin : BeginsWrites datagrams
  unfolding datagrams
  datagrams_begin = begins_state datagrams_state

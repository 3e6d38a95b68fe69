-- The 0.3 calls of the ends of a connection's streams, as moves.
use Rattle.std.specs.Prelude.{◌≡◌, ℕ, ◌==◌, min, take, Bool, true, false, if◌then◌else◌, length, List, [], ◌∷◌, Option, Some, None, Result, Ok, Err, refl}
use Rattle.std.proofs.Common.{◌∙◌, ap, sym, subst, inl, inr, slice_set, suc, zero}
use Rattle.wasi_addr.specs.declared.address.ShutdownType.{ShutdownType}
use Rattle.wasi_addr.specs.declared.address.ShutdownType.TheVariants.{Receive, Send}
use Rattle.wasi_addr.specs.declared.code.ErrorCode.{ErrorCode}
use Rattle.wasi_world.specs.declared.outcome.Answer.{Answer}
use Rattle.wasi_world.specs.declared.outcome.Answer.TheVariants.{Ready, Pending}
use Rattle.wasi_world.specs.declared.outcome.TrapKind.TheVariants.{HasChildren}
use Rattle.wasi_world.specs.declared.outcome.WasiSocketsCtx.{WasiSocketsCtx}
use Rattle.wasi_world.specs.Asks.{Asks, Give, bind}
use Rattle.wasi_world.specs.Typed.{ask_read}
use Rattle.wasi_tcp.specs.declared.halves.TcpReceiveStream.{TcpReceiveStream}
use Rattle.wasi_tcp.specs.declared.halves.TcpSendStream.{TcpSendStream}
use Rattle.wasi_tcp.specs.declared.reader.ReadState.{ReadState}
use Rattle.wasi_tcp.specs.declared.socket.Connection.{Connection}
use Rattle.wasi_tcp.specs.declared.socket.TcpState.{TcpState}
use Rattle.wasi_tcp.specs.declared.socket.TcpState.TheVariants as state
use Rattle.wasi_tcp.specs.declared.writer.WriteState.{WriteState}
use Rattle.wasi_tcp.specs.Addresses.{still_connected}
use Rattle.wasi_tcp.specs.Connecting.{in_socket}
use Rattle.wasi_tcp.specs.Halves.{polled_answer, taken_receive, taken_send, take_receive, take_send}
use Rattle.wasi_records.specs.declared.records.Record.{Record}
use Rattle.tcp_records.specs.declared.slot.Slot.{Slot}
use Rattle.tcp_records.specs.declared.slot.StreamResult.TheVariants.{Dropped}
use Rattle.tcp_records.specs.declared.socket.Streams.{Streams}
use Rattle.tcp_records.specs.declared.socket.TcpRecord.{TcpRecord}
use Rattle.tcp_records.specs.Ends.{ends_of, half_of, look_to_read, look_to_write, read_by_half, receive_half, receive_in, receive_taken, send_half, send_in, send_taken, take_receive_end, take_send_end, write_by_half}
use Rattle.record_common.specs.Names.{own_of}
use Rattle.wasi_records.specs.Records.{tcp2_at, tcp2_put}
use Rattle.tcp_records.specs.Slots.{StreamEnd, result_of, slot_for}
use Rattle.wasi_records.specs.Records.{slot_at}
use Rattle.tcp_records.specs.Sockets.{with_inner}
use Rattle.record_common.specs.Stops.{StopOf, Trap}
use Rattle.host_store.specs.declared.kind.ConnectionEnd.{ConnectionEnd}
use Rattle.host_store.specs.declared.kind.Kind.{Kind}
use Rattle.host_store.specs.declared.kind.Kind.TheVariants.{Receive3, Result3, Send3, Tcp3}
use Rattle.host_store.specs.declared.machine.Machine.{Machine}
use Rattle.host_store.specs.BaseStops.{renamed}
use Rattle.host_store.specs.Block.{Does, Read, after_call, give as ends_with, goes_on, last}
use Rattle.host_tcp.specs.ConnectionEnds.{end_of as end_made, take_end, take_end_in, with_end}
use Rattle.host_tcp.specs.EndPolls.{asks, ends_by, looked, read_of, read_open, read_told, write_of, write_open, write_told}
use Rattle.host_store.specs.Kinds.{has_no_child, kind_at, receive3_of, result3_of, send3_of, taken_out, without_handle}
use Rattle.host_store.specs.Lines.{same_stop, storing}
use Rattle.host_store.specs.Machine.{receive3_at, result3_at, send3_at, side_at, tcp3_at}
use Rattle.host_store.specs.Store.{Records}
use Rattle.wasi_p3.specs.Lines.{in_base}
use Rattle.wasi_p3.specs.Streams.{Taken, make_ends, named_end, read, receive, result_at, result_in, result_on, result_out, send, take_by, take_result, write}
use Rattle.wasi_addr.specs.declared.p3.ErrorCode.{ErrorCode as P3Code}
use Rattle.wasi_addr.specs.Code.{p3_of_code}
use Rattle.wasi_steps.specs.declared.guest_call.GuestCall.TheVariants as guest
use Rattle.wasi_steps.specs.declared.guest_call.P3TcpCall.TheVariants as p3_tcp_call
use Rattle.wasi_steps.specs.declared.step.Step.{Step}
use Rattle.wasi_steps.specs.declared.step.Step.TheVariants as step
use Rattle.wasi_steps.specs.Steps.{handles_of}
use Rattle.wasi_walks.specs.Licence.{Has}
use Rattle.wasi_walks.proofs.Words.{with_state, writer_side}
use Rattle.wasi_walks.proofs.Places.{push_still, put_finds, slot_sort, tcp_sort}
use Rattle.wasi_walks.proofs.walks.Asked.{MarksResult, WritesOnce}
use Rattle.wasi_walks.proofs.walks.Ends.{close_walks, drop_slot_walks}
use Rattle.wasi_walks.proofs.walks.Law.{Law, Walks, and_so, and_then, ask, found, from, give, gives, mark, move, on, put_same}
use Rattle.wasi_walks.proofs.walks.Lines.{call, call_given, look}
use Rattle.wasi_walks.proofs.walks.Moves.{AddsSlot, AnEnd, Empties, Here, IsEndAt, IsOn, Leaves, MakesEnd, MakesEnds, OfReader, OfReceive, OfSend, OfWriter, ReachesEnd, Spends, TakesEnd, TakesHalf, ToResult, Unused, Used, end_in, end_of, put}
use Rattle.wasi_walks.proofs.walks.States.{At, Over, OverIn, OverWith, Starts, make_given, none_stands, tcp3_kind, there}

-- == what a half is
-- the half that is there is of the record's streams
reads_by : (r : TcpRecord) (half : TcpReceiveStream) → receive_half r ≡ Some half → IsOn r half.side
reads_by r half e = by_streams r.streams refl e
  where
    by_reader : (s : Streams) → r.streams ≡ Some s → (w : ReadState) → s.reader ≡ w → receive_in w ≡ Some half → IsOn r half.side
    by_reader s q (ReadState.Open it) p e = let same : it ≡ half = cc in OfReader s half q (p ∙ ap (λ (x : TcpReceiveStream). ReadState.Open x) same) refl
    by_reader s q ReadState.Closed p e = absurd (cc)

    by_streams : (o : Option Streams) → r.streams ≡ o → receive_in (ends_of o).reader ≡ Some half → IsOn r half.side
    by_streams None q e = absurd (cc)
    by_streams (Some s) q e = by_reader s q s.reader refl e

-- The same of the half to write by.
record WritesBy (r : TcpRecord) (half : TcpSendStream) : Type 0 where
  streams : Streams
  have : r.streams ≡ Some streams
  permit : ℕ
  writer : streams.writer ≡ WriteState.Ready half permit

writes_by : (r : TcpRecord) (half : TcpSendStream) → send_half r ≡ Some half → WritesBy r half
writes_by r half e = by_streams r.streams refl e
  where
    by_writer : (s : Streams) → r.streams ≡ Some s → (w : WriteState) → s.writer ≡ w → send_in w ≡ Some half → WritesBy r half
    by_writer s q (WriteState.Ready it permit) p e = let same : it ≡ half = cc in record { streams = s; have = q; permit = permit; writer = p ∙ ap (λ (x : TcpSendStream). WriteState.Ready x permit) same }
    by_writer s q _ p e = absurd (cc)

    by_streams : (o : Option Streams) → r.streams ≡ o → send_in (ends_of o).writer ≡ Some half → WritesBy r half
    by_streams None q e = absurd (cc)
    by_streams (Some s) q e = by_writer s q s.writer refl e

writes_on : (r : TcpRecord) (half : TcpSendStream) → WritesBy r half → IsOn r half.side
writes_on r half w = OfWriter w.streams w.have (ap writer_side w.writer)

receive3_end : (k : Option Kind) (end : ConnectionEnd) → receive3_of k ≡ Some end → end_of k ≡ Some end
receive3_end (Some (Receive3 it)) end e = e
receive3_end _ end e = absurd (cc)

send3_end : (k : Option Kind) (end : ConnectionEnd) → send3_of k ≡ Some end → end_of k ≡ Some end
send3_end (Some (Send3 it)) end e = e
send3_end _ end e = absurd (cc)

result3_kind : (k : Option Kind) (place : ℕ) → result3_of k ≡ Some place → k ≡ Some (Result3 place)
result3_kind (Some (Result3 n)) place e = cc
result3_kind _ place e = absurd (cc)

-- == how a half is taken
-- It can't be, and the record stays; or it is.
data TakenSo (r : TcpRecord) : StreamEnd × TcpRecord → Type 0 where
  Kept : (c : ErrorCode) → TakenSo r (Err c, r)
  Took : (now : TcpRecord) → TakesHalf r now → TakenSo r (Ok tt, now)

receive_so : (r : TcpRecord) → TakenSo r (take_receive_end r)
receive_so r = by_state r.inner.state refl
  where
    stays : (s : TcpState) → r.inner.state ≡ s → (c : ErrorCode) → TakenSo r (Err c, with_inner r (with_state r.inner s))
    stays s e c = subst (λ (x : TcpState). TakenSo r (Err c, with_inner r (with_state r.inner x))) e (Kept c)

    by_taken : (c : Connection) → r.inner.state ≡ state.Connected c → (taken : Bool) → c.receive_taken ≡ taken → TakenSo r (receive_taken r (in_socket r.inner (still_connected (taken_receive c taken))))
    by_taken c e true t = stays (state.Connected c) e _
    by_taken c e false t = Took _ (OfReceive c e t)

    by_state : (s : TcpState) → r.inner.state ≡ s → TakenSo r (receive_taken r (in_socket r.inner (take_receive s)))
    by_state (state.Default side) e = stays (state.Default side) e _
    by_state (state.Listening side) e = stays (state.Listening side) e _
    by_state (state.Connecting op) e = stays (state.Connecting op) e _
    by_state (state.Connected c) e = by_taken c e c.receive_taken refl
    by_state (state.Closed c) e = stays (state.Closed c) e _

send_so : (r : TcpRecord) → TakenSo r (take_send_end r)
send_so r = by_state r.inner.state refl
  where
    stays : (s : TcpState) → r.inner.state ≡ s → (c : ErrorCode) → TakenSo r (Err c, with_inner r (with_state r.inner s))
    stays s e c = subst (λ (x : TcpState). TakenSo r (Err c, with_inner r (with_state r.inner x))) e (Kept c)

    by_taken : (c : Connection) → r.inner.state ≡ state.Connected c → (taken : Bool) → c.send_taken ≡ taken → TakenSo r (send_taken r (in_socket r.inner (still_connected (taken_send c taken))))
    by_taken c e true t = stays (state.Connected c) e _
    by_taken c e false t = Took _ (OfSend c e t)

    by_state : (s : TcpState) → r.inner.state ≡ s → TakenSo r (send_taken r (in_socket r.inner (take_send s)))
    by_state (state.Default side) e = stays (state.Default side) e _
    by_state (state.Listening side) e = stays (state.Listening side) e _
    by_state (state.Connecting op) e = stays (state.Connecting op) e _
    by_state (state.Connected c) e = by_taken c e c.send_taken refl
    by_state (state.Closed c) e = stays (state.Closed c) e _

-- the end is of the record's place, or of none
end_at : (place slot : ℕ) (taken : StreamEnd) → IsEndAt place (end_made place slot taken)
end_at place slot (Ok done) = inl refl
end_at place slot (Err c) = inr refl

set_long : {A : Type 0} (xs : List A) (i : ℕ) (x : A) → length (slice_set xs i x) ≡ length xs
set_long [] i x = refl
set_long (y ∷ xs) zero x = refl
set_long (y ∷ xs) (suc i) x = ap suc (set_long xs i x)

-- an end is made of what was taken, and its slot is there; then they get their handles
abbrev Ended : Machine → ℕ → StreamEnd × TcpRecord → Machine
Ended m place taken = record m { store = with_end place taken m.store }

abbrev Makes : Machine → ℕ → StreamEnd × TcpRecord → Here
Makes m place taken = record (Over (Ended m place taken)) { made = ToResult (length (tcp2_put m.store.records place taken.1)) }

abbrev with_side : ℕ → ℕ → (ConnectionEnd → Kind) → ℕ → ConnectionEnd → Does P3Code Machine (ℕ × ℕ)
with_side line socket kind place end = goes_on (Read (λ m. side_at (tcp2_at m.store.records place))) (λ side. make_ends (own_of line) socket (kind end) end.slot side)

-- what is told of a slot that was taken
abbrev result_told : StreamEnd → Machine → Taken × Machine
result_told ended m = (Ok (Some (named_end ended)), m)

module _ {contexts : List WasiSocketsCtx} {line : ℕ} {origin : Step} {law : Law contexts line origin} where
  -- a line that only asks
  asks_walks : {C S A B : Type 0} {h : Here} {mid : A → Here} {end : Result B (StopOf C) × S → Here} {asked : Asks A} {s : S} (next : A → Does C S B) → Walks law h mid asked → ((a : A) → Walks law (mid a) end (next a s)) → Walks law h end (goes_on (asks asked) next s)
  asks_walks {C} {S} {s = s} next w k = and_so (λ a. (Ok a, tt)) (after_call same_stop (λ (x : S) (none : Unit {0}). x) next s) w k

  -- the end meets its own end, or a fault
  ends_walks : {A : Type 0} (m : Machine) (how : ShutdownType) (place slot : ℕ) (ended : StreamEnd) → m.store.standing ≡ None → Walks law (At line m place Used) (OverIn m) (ends_by {A = A} (own_of line) how slot place ended m.store)
  ends_walks {A} m how place slot ended q = and_so (λ done. (Ok done.0, done.1)) (after_call same_stop (λ (store now : Records). now) (λ done. ends_with (Ready Dropped)) m.store) (close_walks m how place slot ended q) (λ done. give _)

  -- == a read
  module _ (m : Machine) (len slot place : ℕ) (q : m.store.standing ≡ None) (r : TcpRecord) (g : tcp2_at m.store.records place ≡ Some r) where
    look_read_walks : (o : Option TcpReceiveStream) → ((half : TcpReceiveStream) → o ≡ Some half → IsOn r half.side) → Walks law (put (At line m place Used) place r) (λ answer. At line m place Used) (look_to_read (own_of line) o)
    unfolding bind
    look_read_walks None by = from (sym (put_same (At line m place Used) place r g)) (give _)
    look_read_walks (Some half) by = ask (there {h = At line m place Used} g) r refl (by half refl) (refl, tt) (λ told fits. from (sym (put_same (At line m place Used) place r g)) (give _))

    bytes_walks : (half : TcpReceiveStream) → IsOn r half.side → (size : ℕ) (none : Bool) → Walks law (put (At line m place Used) place r) (λ told. At line m place Used) (if none then Give (Ok (Ready [])) else bind (ask_read (own_of line) half.side (min size 65536)) (λ told. Give (polled_answer told)))
    unfolding bind
    bytes_walks half by size true = from (sym (put_same (At line m place Used) place r g)) (give _)
    bytes_walks half by size false = ask (there {h = At line m place Used} g) r refl by (refl, tt) (λ told fits. from (sym (put_same (At line m place Used) place r g)) (give _))

    half_read_walks : (size : ℕ) (o : Option TcpReceiveStream) → ((half : TcpReceiveStream) → o ≡ Some half → IsOn r half.side) → Walks law (put (At line m place Used) place r) (λ told. At line m place Used) (read_by_half (own_of line) size o)
    half_read_walks size None by = from (sym (put_same (At line m place Used) place r g)) (give _)
    half_read_walks size (Some half) by = and_then (bytes_walks half (by half refl) size (size == 0)) (λ told. give _)

    told_walks : (told : Result (Option (Answer (List ℕ))) ErrorCode) → Walks law (At line m place Used) (OverIn m) (read_told (own_of line) true slot place told m.store)
    told_walks (Ok (Some (Ready (b ∷ bytes)))) = gives _ (Leaves _)
    told_walks (Ok (Some (Ready []))) = ends_walks m Receive place slot (Ok tt) q
    told_walks (Ok (Some Pending)) = gives _ (Leaves _)
    told_walks (Ok None) = gives _ (Leaves _)
    told_walks (Err c) = ends_walks m Receive place slot (Err c) q

    open_walks : (none : Bool) (o : Option TcpReceiveStream) → ((half : TcpReceiveStream) → o ≡ Some half → IsOn r half.side)
        → Walks law (put (At line m place Used) place r) (OverIn m)
        ((if none then goes_on (asks (look_to_read (own_of line) o)) (λ answer. ends_with (looked true [] answer))
        else goes_on (asks (read_by_half (own_of line) (min len 8192) o)) (λ told. read_told (own_of line) true slot place told)) m.store)
    open_walks true o by = asks_walks (λ answer. ends_with (looked true [] answer)) (look_read_walks o by) (λ answer. gives _ (Leaves _))
    open_walks false o by = asks_walks (λ told. read_told (own_of line) true slot place told) (half_read_walks (min len 8192) o by) told_walks

  read_end_walks : (m : Machine) (handle len : ℕ) (end : ConnectionEnd) → Has (handles_of origin) handle → end_of (kind_at m.table handle) ≡ Some end → m.store.standing ≡ None → (socket : Option ℕ) → end.socket ≡ socket
      → Walks law (Starts m Unused) (OverIn m) (read_of (own_of line) true len end.slot socket m.store)
  unfolding bind
  read_end_walks m handle len end named e q None s = gives _ (Spends _ refl)
  read_end_walks m handle len end named e q (Some place) s = by_record (tcp2_at m.store.records place) refl
    where
      nothing : (none : Bool) → Walks law (Over m) (OverIn m)
          ((if none then goes_on (asks (look_to_read (own_of line) None)) (λ answer. ends_with (looked true [] answer))
          else goes_on (asks (read_by_half (own_of line) (min len 8192) None)) (λ told. read_told (own_of line) true end.slot place told)) m.store)
      nothing true = give _
      nothing false = give _

      by_record : (o : Option TcpRecord) → tcp2_at m.store.records place ≡ o → Walks law (Starts m Unused) (OverIn m) (read_open (own_of line) true len end.slot place (half_of receive_half o) m.store)
      by_record None g = move (Spends _ refl) (nothing (len == 0))
      by_record (Some r) g =
          move (ReachesEnd _ handle place end r named e s g) (move (Spends _ refl)
          (from (put_same (At line m place Used) place r g) (open_walks m len end.slot place q r g (len == 0) (receive_half r) (λ half p. reads_by r half p))))

  pub p3_read_walks : (m : Machine) (handle len : ℕ) → Has (handles_of origin) handle → m.store.standing ≡ None → Walks law (Starts m Unused) OverWith (read (own_of line) true len handle m)
  p3_read_walks m handle len named q =
      look (λ end. last (in_base (read_of (own_of line) true len end.slot end.socket))) (receive3_at m handle) (gives _ (Spends _ refl))
      (λ end e. call _ (read_end_walks m handle len end named (receive3_end (kind_at m.table handle) end e) q end.socket refl) (λ why store. give _) (λ answer store. give _))

  -- == a write, which is one ask
  module _ (m : Machine) (slot place : ℕ) (q : m.store.standing ≡ None) (r : TcpRecord) (g : tcp2_at m.store.records place ≡ Some r) where
    look_write_walks : (o : Option TcpSendStream) → ((half : TcpSendStream) → o ≡ Some half → WritesBy r half) → Walks law (put (At line m place Used) place r) (λ answer. At line m place Used) (look_to_write (own_of line) o)
    unfolding bind
    look_write_walks None by = from (sym (put_same (At line m place Used) place r g)) (give _)
    look_write_walks (Some half) by = ask (there {h = At line m place Used} g) r refl (writes_on r half (by half refl)) (refl, tt) (λ told fits. from (sym (put_same (At line m place Used) place r g)) (give _))

    offer_walks : (c handle : ℕ) (given : List ℕ) (end : ConnectionEnd) → origin ≡ step.Call c (guest.P3Tcp (p3_tcp_call.Write handle given)) → send3_at m handle ≡ Some end → end.socket ≡ Some place → (o : Option TcpSendStream) → ((half : TcpSendStream) → o ≡ Some half → WritesBy r half)
        → Walks law (At line m place Unused) (λ told. At line m place Used) (write_by_half (own_of line) (take 4294967295 given) o)
    offer_walks c handle given end is e s None by = gives _ (Spends _ refl)
    offer_walks c handle given end is e s (Some half) by =
        let w = by half refl in
        and_then (record { along = λ es i. law.asks es (At line m place Unused) _ _ _ (WritesOnce c handle place given end r w.streams half w.permit is e s refl g w.have w.writer refl) tt i }) (λ told. give _)

    wrote_walks : (told : Result (Option (Answer ℕ)) ErrorCode) → Walks law (At line m place Used) (OverIn m) (write_told (own_of line) true slot place told m.store)
    wrote_walks (Ok (Some (Ready count))) = gives _ (Leaves _)
    wrote_walks (Ok (Some Pending)) = gives _ (Leaves _)
    wrote_walks (Ok None) = gives _ (Leaves _)
    wrote_walks (Err c) = ends_walks m Send place slot (Err c) q

  module _ (m : Machine) (c handle : ℕ) (end : ConnectionEnd) (named : Has (handles_of origin) handle) (e : send3_at m handle ≡ Some end) (q : m.store.standing ≡ None) where
    write_none_walks : (bytes : List ℕ) (place : ℕ) → Walks law (Starts m Unused) (OverIn m) (write_open (own_of line) true bytes end.slot place None m.store)
    unfolding bind
    write_none_walks [] place = gives _ (Spends _ refl)
    write_none_walks (b ∷ bytes) place = gives _ (Spends _ refl)

    write_half_walks : (bytes : List ℕ) → origin ≡ step.Call c (guest.P3Tcp (p3_tcp_call.Write handle bytes)) → (place : ℕ) → end.socket ≡ Some place → (r : TcpRecord) → tcp2_at m.store.records place ≡ Some r → Walks law (At line m place Unused) (OverIn m) (write_open (own_of line) true bytes end.slot place (send_half r) m.store)
    write_half_walks [] is place s r g =
        move (Spends _ refl) (from (put_same (At line m place Used) place r g)
        (asks_walks (λ answer. ends_with (looked true 0 answer)) (look_write_walks m end.slot place q r g (send_half r) (λ half p. writes_by r half p)) (λ answer. gives _ (Leaves _))))
    write_half_walks (b ∷ bytes) is place s r g =
        asks_walks (λ told. write_told (own_of line) true end.slot place told) (offer_walks m end.slot place q r g c handle (b ∷ bytes) end is e s (send_half r) (λ half p. writes_by r half p)) (wrote_walks m end.slot place q r g)

    write_end_walks : (bytes : List ℕ) → origin ≡ step.Call c (guest.P3Tcp (p3_tcp_call.Write handle bytes)) → (socket : Option ℕ) → end.socket ≡ socket → Walks law (Starts m Unused) (OverIn m) (write_of (own_of line) true bytes end.slot socket m.store)
    write_end_walks bytes is None s = gives _ (Spends _ refl)
    write_end_walks bytes is (Some place) s = by_record (tcp2_at m.store.records place) refl
      where
        by_record : (o : Option TcpRecord) → tcp2_at m.store.records place ≡ o → Walks law (Starts m Unused) (OverIn m) (write_open (own_of line) true bytes end.slot place (half_of send_half o) m.store)
        by_record None g = write_none_walks bytes place
        by_record (Some r) g = move (ReachesEnd _ handle place end r named (send3_end (kind_at m.table handle) end e) s g) (write_half_walks bytes is place s r g)

  pub p3_write_walks : (m : Machine) (c handle : ℕ) (bytes : List ℕ) → Has (handles_of origin) handle → origin ≡ step.Call c (guest.P3Tcp (p3_tcp_call.Write handle bytes)) → m.store.standing ≡ None → Walks law (Starts m Unused) OverWith (write (own_of line) true bytes handle m)
  p3_write_walks m c handle bytes named is q =
      look (λ end. last (in_base (write_of (own_of line) true bytes end.slot end.socket))) (send3_at m handle) (gives _ (Spends _ refl))
      (λ end e. call _ (write_end_walks m c handle end named e q bytes is end.socket refl) (λ why store. give _) (λ answer store. give _))

  -- == a result is taken
  module _ {A : Type 0} (tells : Taken × Machine → A × Machine) (same : (done : Taken × Machine) → (tells done).1 ≡ done.1) where
    said : (h : Here) (done : Taken × Machine) → h ≡ Over done.1 → Walks law h OverWith (Give (tells done))
    said h done e = from (ap (λ (x : Machine). Over x) (same done) ∙ sym e) (give _)

    pub p3_result_walks : (m : Machine) (handle : ℕ) → m.store.standing ≡ None → Walks law (Starts m Unused) OverWith (Give (tells (take_result m handle)))
    p3_result_walks m handle q = by_place (result3_at m handle) refl
      where
        out : (place : ℕ) → kind_at m.table handle ≡ Some (Result3 place) → (ended : StreamEnd) (free : Bool) → has_no_child m.table handle ≡ free
            → Walks law (Starts m Unused) OverWith (Give (tells (result_out m place ended (if free then (Ok (Result3 place), without_handle m.table handle) else (Err (Trap HasChildren), m.table)))))
        out place e ended true free =
            let now : Machine = record m { table = without_handle m.table handle } in
            move (Empties _ handle (Result3 place) (none_stands q) e free) (move (Spends _ refl) (drop_slot_walks (λ x. tells (result_told ended x)) (λ x. same (result_told ended x)) now place q))
        out place e ended false free = move (Spends _ refl) (said _ _ refl)

        filled : (place : ℕ) → kind_at m.table handle ≡ Some (Result3 place) → (o : Option StreamEnd) → Walks law (Starts m Unused) OverWith (Give (tells (result_in m handle place o)))
        filled place e None = move (Spends _ refl) (said _ _ refl)
        filled place e (Some ended) = subst (λ (k : Option Kind). Walks law (Starts m Unused) OverWith (Give (tells (result_out m place ended (taken_out m.table handle k))))) (sym e) (out place e ended (has_no_child m.table handle) refl)

        by_slot : (place : ℕ) → kind_at m.table handle ≡ Some (Result3 place) → (o : Option Slot) → Walks law (Starts m Unused) OverWith (Give (tells (result_at m handle place o)))
        by_slot place e None = move (Spends _ refl) (said _ _ refl)
        by_slot place e (Some s) = filled place e (result_of s)

        by_place : (o : Option ℕ) → result3_at m handle ≡ o → Walks law (Starts m Unused) OverWith (Give (tells (result_on m handle o)))
        by_place None e = move (Spends _ refl) (said _ _ refl)
        by_place (Some place) e = by_slot place (result3_kind (kind_at m.table handle) place e) (slot_at m.store.records place)

  -- == a half is taken, and its end and its slot get handles
  module _ (takes : TcpRecord → StreamEnd × TcpRecord) (so : (r : TcpRecord) → TakenSo r (takes r)) (kind : ConnectionEnd → Kind) (its : (end : ConnectionEnd) → end_in (kind end) ≡ Some end) (m : Machine) (socket : ℕ) (one : (end : ConnectionEnd) → MakesEnd socket (kind end) origin) (both : MakesEnds socket origin) where
    module _ (place : ℕ) (e : kind_at m.table socket ≡ Some (Tcp3 place)) where
      marks_walks : (r : TcpRecord) → tcp2_at m.store.records place ≡ Some r → (taken : StreamEnd × TcpRecord) → Walks law (Makes m place taken) OverWith (with_side line socket kind place (end_made place (length m.store.records) taken.0) (Ended m place taken))
      marks_walks r g taken =
          let end = end_made place (length m.store.records) taken.0 in
          let at : tcp2_at (Ended m place taken).store.records place ≡ Some taken.1 = push_still slot_sort tcp_sort (tcp2_put m.store.records place taken.1) (slot_for taken.0) place taken.1 (put_finds tcp_sort m.store.records place r taken.1 g) in
          let made : ToResult (length (tcp2_put m.store.records place taken.1)) ≡ ToResult (length m.store.records) = ap (λ (x : ℕ). ToResult x) (set_long m.store.records place (Record.Tcp taken.1)) in
          let side = side_at (tcp2_at (Ended m place taken).store.records place) in
          call_given _ (λ made. kind_at made.1 socket ≡ Some (Tcp3 place)) (make_given m.table (own_of line) (kind end) (Some socket) side socket (Tcp3 place) e)
          (mark {h = Makes m place taken} (AnEnd socket place (kind end) end taken.1 (one end) (its end) e at (end_at place (length m.store.records) taken.0) made)) (λ why t. gives _ (Leaves _))
          (λ handle t k. call {mid = λ made. Over (record (Ended m place taken) { table = made.1 })} _ (record { along = λ es i. law.asks es (record (Makes m place taken) { machine = record (Ended m place taken) { table = t } }) _ _ _ (MarksResult socket place (length m.store.records) taken.1 both made k at) tt i })
          (λ why t. give _) (λ result t. give _))

      adds_walks : (r : TcpRecord) → tcp2_at m.store.records place ≡ Some r → (taken : StreamEnd × TcpRecord) → TakenSo r taken → Walks law (Over m) OverWith (with_side line socket kind place (end_made place (length m.store.records) taken.0) (Ended m place taken))
      adds_walks r g _ (Kept c) = from (put_same (Over m) place r g) (move (AddsSlot (put (Over m) place r) (slot_for (Err c))) (marks_walks r g (Err c, r)))
      adds_walks r g _ (Took now half) =
          from (put_same (Over m) place r g)
          (on (there {h = Over m} g) r now (TakesEnd (put (Over m) place r) socket place r now e (found (there {h = Over m} g) r) half) (move (AddsSlot (put (Over m) place now) (slot_for (Ok tt))) (marks_walks r g (Ok tt, now))))

      taken_walks : (o : Option TcpRecord) → tcp2_at m.store.records place ≡ o → Walks law (Starts m Unused) OverWith (after_call (renamed p3_of_code) storing (with_side line socket kind place) m (take_end_in takes place m.store o))
      taken_walks None g = gives _ (Spends _ refl)
      taken_walks (Some r) g = move (Spends _ refl) (adds_walks r g (takes r) (so r))

    take_walks : Walks law (Starts m Unused) OverWith (take_by takes kind (own_of line) socket m)
    unfolding bind
    take_walks =
        look (λ place. goes_on (in_base (λ store. Give (take_end takes place store))) (with_side line socket kind place)) (tcp3_at m socket) (gives _ (Spends _ refl))
        (λ place e. taken_walks place (tcp3_kind (kind_at m.table socket) place e) (tcp2_at m.store.records place) refl)

  pub p3_receive_walks : (m : Machine) (c socket : ℕ) → origin ≡ step.Call c (guest.P3Tcp (p3_tcp_call.Receive socket)) → Walks law (Starts m Unused) OverWith (receive (own_of line) socket m)
  p3_receive_walks m c socket is = take_walks take_receive_end receive_so (λ end. Receive3 end) (λ end. refl) m socket (λ end. subst (MakesEnd socket (Receive3 end)) (sym is) refl) (subst (MakesEnds socket) (sym is) refl)

  pub p3_send_walks : (m : Machine) (c socket : ℕ) → origin ≡ step.Call c (guest.P3Tcp (p3_tcp_call.Send socket)) → Walks law (Starts m Unused) OverWith (send (own_of line) socket m)
  p3_send_walks m c socket is = take_walks take_send_end send_so (λ end. Send3 end) (λ end. refl) m socket (λ end. subst (MakesEnd socket (Send3 end)) (sym is) refl) (subst (MakesEnds socket) (sym is) refl)

-- Of the machines that runs lead to: a live incoming datagram stream has its stream in the record of an open UDP socket, no other
-- handle of that record is one, and a socket whose connect is in progress has no streams.
use Rattle.wasi_causes.proofs.Words.{End, Entry, ErrorValue, HandleTable, Input, Item, Kind, List, Machine, None, OpId, Operation, Option, Output, Some, StandingCall, Step, Tcp2, TcpRecord, WasiSocketsCtx}
use Rattle.wasi_causes.proofs.Words.{first_state, inl, inr, is_some, length, new_record, own_of, poll_asks, refl, standing_as, subst, sym, false, turn_asks, with_writer, ℕ, ◌≡◌, ◌⊎◌}
use Rattle.std.specs.Prelude.{◌||◌}
use Rattle.wasi_table.specs.Table.{Live}
use Rattle.wasi_tcp.specs.declared.listener.Accepting.TheVariants as accepting
use Rattle.wasi_udp.specs.Create.{after_create as udp_after_create}
use Rattle.udp_records.specs.Datagrams.{has_streams}
use Rattle.wasi_records.specs.Records.{tcp2_put, tcp2_pushed, udp2_at}
use Rattle.udp_records.specs.declared.datagrams.Incoming.{Incoming as IncomingStream}
use Rattle.udp_records.specs.declared.datagrams.Outgoing.{Outgoing as OutgoingStream}
use Rattle.host_store.specs.Kinds.{udp_kind}
use Rattle.host_store.specs.declared.kind.Kind.TheVariants.{Incoming, Listen3, Result3, Tcp3}
use Rattle.wasi_records.specs.declared.records.Record.{Record}
use Rattle.udp_records.specs.declared.udp.OpenUdp.{OpenUdp}
use Rattle.udp_records.specs.declared.udp.UdpRecord.{UdpRecord}
use Rattle.wasi_walks.specs.Licence.{Has}
use Rattle.wasi_walks.proofs.fits.Law.{whatever}
use Rattle.wasi_walks.proofs.received.Handles.{AreUnder, begun_same, moves_under, polled_same}
use Rattle.wasi_walks.proofs.walks.Law.{BeginsWrites, InCall, Law}
use Rattle.wasi_walks.proofs.walks.Moves as walk
use Rattle.wasi_walks.proofs.walks.Moves.{tcp_kind, Found, FoundUdp, GoesOn, NoStartIn, NoStartStands, HasNewStream, Held, Here, KeepsStreams, Made, Marks, MarksNext, Move, Own, Past, SameSockets, ToSend, made_so, put, put_udp, udp_begun}
use Rattle.wasi_walks.proofs.walks.States.{Over, Starts}
use Rattle.wasi_causes.proofs.GivenBack.{open_stays}
use Rattle.wasi_walks.proofs.walks.States.{IsPlain, makes_plain}
use Rattle.wasi_causes.proofs.UdpConnects.{HasConnects, Quiet, connects, connects_begin, first_connects, starts_with}
use Rattle.wasi_causes.proofs.StreamsLive.{tcp_other, udp_other, Both, HasIncoming, IsOther, CallSo, MadeSo, Parts, StandsSo, Streams, begun, changed, connect_keeps, reconnect_keeps, emptied, found, has_none, makes_left, has_next, has_other, has_handle, not_yet, push_tcp, put_none, put_open, put_tcp, remade, restood, stay, taken}
use Rattle.wasi_walks.proofs.walks.OfState.{Becomes, Created, CreatedWith, GivenUp, Handles, HasHandle, HasNoRoom, IsClosed, Learnt, NoRoom}
use Rattle.wasi_walks.proofs.walks.OfState.{DatagramBegan, DatagramPolled, OfAccepted, OfCreated, OfError, OfLine, OfListener, OfPlain, OfResult, OfState, OfStream, Resolved, StandsOn, UdpBegun, UdpGivenUp, UdpIsClosed, UdpLearnt, Writing, begins_state, of_state}
use Rattle.wasi_walks.proofs.walks.Layers.{begins_layer, begins_over, begins_stand, layer, over, stand}
use Rattle.wasi_walks.proofs.owners.Law.{Owns, owners, owners_begin}
use Rattle.wasi_walks.proofs.owners.Names.{Names, held_udp, unless_gone}
use Rattle.wasi_walks.proofs.owners.Owned.{IsOf}
use Rattle.host_udp.specs.SocketDatagrams.{is_udp_held}
use Rattle.udp_records.specs.Udp.{open_of}
use Rattle.wasi_causes.proofs.StreamsLive.{NoIncoming}
use Rattle.wasi_causes.proofs.Words.{Bool, IsSome, slice_get, true, false}
use Rattle.wasi_walks.proofs.owners.Owned as owned
use Rattle.wasi_walks.proofs.owners.Owned.{stream_place}
use Rattle.wasi_causes.proofs.Derived.{OwnedIn, first_in}
use Rattle.wasi_causes.proofs.Words.{ap, new_socket, with_handle, with_record}
use Rattle.wasi_walks.proofs.PipeLists.{slot_push_same}

-- == what is live
-- A live incoming stream is there, and is one of its own; a socket whose connect is in progress has no streams.
pub record StreamsApart (t : HandleTable) (records : List Record) : Type 0 where
  pub there : (a : Live Kind) (place : ℕ) → Has t.live a → a.value ≡ Incoming place → HasIncoming records place
  pub single : (a b : Live Kind) (place : ℕ) → Has t.live a → Has t.live b → a.value ≡ Incoming place → b.value ≡ Incoming place → a.handle ≡ b.handle
  pub quiet : (place : ℕ) (o : OpenUdp) (op : Operation) → udp2_at records place ≡ Some (UdpRecord.Open o) → o.connecting ≡ Some op → (o.incoming ≡ None) × (o.outgoing ≡ None)

-- with what it rests on
abbrev pub Apart : Here → Type 0
Apart h = (Owns h × Quiet h) × Both h

no_streams : (o : OpenUdp) → has_streams o ≡ false → (o.incoming ≡ None) × (o.outgoing ≡ None)
no_streams o e = by_streams o.incoming o.outgoing e
  where
    by_streams : (inc : Option IncomingStream) (out : Option OutgoingStream) → is_some inc || is_some out ≡ false → (inc ≡ None) × (out ≡ None)
    by_streams None None e = (refl, refl)
    by_streams None (Some out) e = absurd (cc)
    by_streams (Some inc) out e = absurd (cc)

-- == of the moves
-- what goes on in a TCP record is no connect of this kind
goes_so : (t : HandleTable) (call : StandingCall) (r : TcpRecord) → GoesOn call r → CallSo t call
goes_so t (StandingCall.UdpConnect place handle) r k = absurd k
goes_so t (StandingCall.UdpConnect3 place) r k = absurd k
goes_so t _ r k = tt

module _ (contexts : List WasiSocketsCtx) (line : ℕ) (origin : Step) where
  pub moves_apart : (h now : Here) → Move line origin h now → Parts h → Parts now
  moves_apart _ _ (walk.Changes h place r now g p) i = put_tcp h place r g now i
  moves_apart _ _ (walk.ClosesReader h place r s g e) i = put_tcp h place r g _ i
  moves_apart _ _ (walk.Writes h place r s w g e m) i = put_tcp h place r g _ i
  moves_apart _ _ (walk.IsGone h place r q g e) i = put_tcp h place r g _ i
  moves_apart _ _ (walk.Reconnects h place r c now g e s t u) i = put_tcp h place r g _ i
  moves_apart _ _ (walk.Opens h place r c d g e n) i = put_tcp h place r g _ i
  moves_apart _ _ (walk.TakesEnd h handle place r now of g takes) i = put_tcp h place r g now i
  moves_apart _ _ (walk.AddsSlot h s) i =
      remade _ _ h.made (Made.ToResult (length h.machine.store.records)) _ tt (found {new = λ op. ⊥} h _ (slot_push_same h.machine.store.records s) i)
  moves_apart _ _ (walk.BeginsConnect h place r side a bound at g d to known idle own) i = put_tcp h place r g _ i
  moves_apart _ _ (walk.BeginsBind h place r side a at g d to own) i = put_tcp h place r g _ i
  moves_apart _ _ (walk.BeginsWrite h place n r s half permit bytes at g e w within own) i = put_tcp h place r g _ i
  moves_apart _ _ (walk.BeginsListen h place r side bound at g d known free none to idle own) i = put_tcp h place r g _ i
  moves_apart _ _ (walk.BeginsAccept h place n r l at g e a own) i = put_tcp h place r g _ i
  moves_apart _ _ (walk.Unlistens h place r op q g e c o) i = put_tcp h place r g _ i
  moves_apart _ _ (walk.Forgets h place r l c g e a) i = put_tcp h place r g _ i
  moves_apart _ _ (walk.CancelsBind h place r op q g e) i = put_tcp h place r g _ i
  moves_apart _ _ (walk.Joins h c handle place r l new peer is of u g e a) i =
      let idle = walk.accepting_now r l accepting.Idle in
      remade h.machine.table _ h.made (Made.Joined walk.P2 (length (tcp2_put h.machine.store.records place idle))) h.machine.store.standing tt (push_tcp h.machine.table (tcp2_put h.machine.store.records place idle) (walk.joined l new peer) h.made h.machine.store.standing (put_tcp h place r g idle i))
  moves_apart _ _ (walk.JoinsPlain h c listener remaining place r l new peer is of u g e a) i =
      let idle = walk.accepting_now r l accepting.Idle in
      remade h.machine.table _ h.made (Made.Joined walk.P3 (length (tcp2_put h.machine.store.records place idle))) h.machine.store.standing tt (push_tcp h.machine.table (tcp2_put h.machine.store.records place idle) (walk.joined_plain l new peer) h.made h.machine.store.standing (put_tcp h place r g idle i))
  moves_apart _ _ (walk.JoinsFault h place r l c u g e a) i =
      let idle = walk.accepting_now r l accepting.Idle in
      remade h.machine.table _ h.made (Made.Faulted (length (tcp2_put h.machine.store.records place idle))) h.machine.store.standing tt (push_tcp h.machine.table (tcp2_put h.machine.store.records place idle) (walk.faulted l c) h.made h.machine.store.standing (put_tcp h place r g idle i))
  moves_apart _ _ (walk.Frees h place made) i = remade _ _ h.made (Made.Freed place) _ tt i
  moves_apart _ _ (walk.IsUnheld h place r g free) i = remade _ _ h.made (Made.Freed place) _ tt i
  moves_apart _ _ (walk.RemembersListen h marks place r is under g none) i = remade _ _ h.made (Made.ToListen line marks place) _ tt i
  moves_apart _ _ (walk.RecallsListen h ids place marks e) i = remade _ _ h.made (Made.ToListen ids.line marks place) _ tt i
  moves_apart _ _ (walk.StandsListen h ids place marks r quiet at made g k) i = restood _ _ h.made _ (Some (standing_as ids (StandingCall.Listen place marks))) tt i
  moves_apart _ _ (walk.Leaves h) i = remade _ _ h.made Past _ tt i
  moves_apart _ _ (walk.Numbers h) i = remade _ _ h.made (Made.Numbered (length h.machine.store.records) h.machine.table.next) _ tt i
  moves_apart _ _ (walk.GivesBack h place idle left) i = stay h.machine.table _ _ h.made h.machine.store.standing (λ a k l e has. record { socket = has.socket; at = open_stays h place left k has.socket has.at; stream = has.stream; has = has.has }) i
  moves_apart _ _ (walk.Watches h own) i = remade _ _ h.made Made.Unmade _ tt i
  moves_apart _ _ (walk.CallsHandles h kind calls quiet) i = remade _ _ h.made (Made.Calls kind line _) _ tt i
  moves_apart _ _ (walk.RecallsCall h ids call e) i = remade _ _ h.made (Made.Calls (walk.kind_of call) ids.line _) _ tt i
  moves_apart _ _ (walk.AwaitsCreate h place face create is g) i = remade _ _ h.made (Made.Awaited face create.operation.who.side place) _ tt i
  moves_apart _ _ (walk.RemembersStreams h c handle place remote is of o g none) i = remade _ _ h.made (Made.ToStream line handle place) _ (has_none h place o g none i) i
  moves_apart _ _ (walk.RecallsStreams h ids place handle e own) i = remade _ _ h.made (Made.ToStream ids.line handle place) _ (subst (StandsSo h.machine.table) e i.stands) i
  moves_apart _ _ (walk.Unstands h over) i = restood _ _ h.made _ None tt i
  moves_apart _ _ (walk.Stands h ids call r quiet at g k) i = restood _ _ h.made _ (Some (standing_as ids call)) (goes_so h.machine.table call r k) i
  moves_apart _ _ (walk.StandsUdpBind h ids place face o op quiet at g e) i = restood _ _ h.made _ (Some (standing_as ids (StandingCall.UdpBind place face))) tt i
  moves_apart _ _ (walk.StandsUdpCreate h ids place face create quiet made g its) i = restood _ _ h.made _ (Some (standing_as ids (StandingCall.UdpCreate place face))) tt i
  moves_apart _ _ (walk.StandsDropOutgoing h ids place o quiet at g e) i = restood _ _ h.made _ (Some (standing_as ids (StandingCall.DropOutgoing place))) tt i
  moves_apart _ _ (walk.StandsBlocking h ids call handles made its) i = restood _ _ h.made _ (Some (standing_as ids (StandingCall.Blocking call))) tt i
  moves_apart _ _ (walk.StandsConnect h ids place o op quiet at past g e) i = restood _ _ h.made _ (Some (standing_as ids (StandingCall.UdpConnect3 place))) tt i
  moves_apart _ _ (walk.StandsUdpConnect h ids place handle o op quiet at made g e) i = restood _ _ h.made _ (Some (standing_as ids (StandingCall.UdpConnect place handle))) (subst (MadeSo h.machine.table) made i.makes) i
  moves_apart _ _ (walk.UdpChanges h place o now g p keeps) i = changed h place o now g (walk.keeps_incoming origin h place o.incoming now.incoming keeps.incoming) i
  moves_apart _ _ (walk.BeginsUdpBind h place o a at g to own) i = put_open h place o _ g (λ e. e) i
  moves_apart _ _ (walk.BeginsUdpConnect h place o a bound at g to known none own) i = put_open h place o _ g (λ e. e) i
  moves_apart _ _ (walk.BeginsSend h place n o out d bound at g e item known own) i = put_open h place o _ g (λ e. e) i
  moves_apart _ _ (walk.BeginsReceive h place n o inc bound at g e is own) i = put_open h place o _ g (λ e. refl) i
  moves_apart _ _ (walk.CancelsUdpBind h place o op q g e) i = put_open h place o _ g (λ e. e) i
  moves_apart _ _ (walk.CancelsUdpConnect h place o q g) i = put_open h place o _ g (λ e. e) i
  moves_apart _ _ (walk.Finds h records same) i = found h records same i
  moves_apart _ _ (walk.Empties h handle kind q e none) i = taken _ _ handle h.made (Made.Emptied kind) _ (emptied h.machine.table h.machine.store.records handle kind e i.apart) i
  moves_apart _ _ (walk.Takes h handle q made none) i = taken _ _ handle h.made h.made _ (makes_left h.machine.table h.machine.store.records handle h.made i.makes) i
  moves_apart _ _ (walk.DropsUdp h place o idle made g) i = put_open h place o _ g (λ e. e) i
  moves_apart _ _ _ i = i

  -- == what is made
  of_tcp : (kind : Kind) (place : ℕ) → (kind ≡ Input place) ⊎ (kind ≡ Output place) → IsOther kind
  of_tcp kind place (inl e) = subst IsOther (sym e) tt
  of_tcp kind place (inr e) = subst IsOther (sym e) tt

  of_end : (socket : ℕ) (kind : Kind) (s : Step) → walk.MakesEnd socket kind s → IsOther kind
  of_end socket (Incoming place) s m = absurd m
  of_end socket _ s m = tt

  plain_other : (kind : Kind) → IsPlain kind → IsOther kind
  plain_other (Incoming place) plain = plain
  plain_other _ plain = tt

  pub is_other : (h : Here) (kind : Kind) (parent : Option ℕ) (sock : Option OpId) → Marks origin h kind parent sock → IsOther kind
  is_other h kind _ _ (walk.AStream c handle place _ is e opened) = of_tcp kind place e
  is_other h kind _ _ (walk.AnAcceptedStream c listener handle place _ r is e made own g) = of_tcp kind place e
  is_other h kind _ _ (walk.APlain _ makes numbered) = plain_other kind (makes_plain origin kind makes)
  is_other h kind _ _ (walk.AnEnd socket place _ end r m in_it e g is made) = of_end socket kind origin m
  is_other h _ _ _ _ = tt

  pub polls_apart : (h : Here) (op : Operation) (after : End × List Item → Here) → Held h op after → (end : End × List Item) → Parts h → Parts (after end)
  polls_apart h _ _ (walk.BindsOn place r op q g e) end i = put_tcp h place r g _ i
  polls_apart h _ _ (walk.Connects place r op g e) end i = put_tcp h place r g _ i
  polls_apart h _ _ (walk.Listens place r op q g e c) end i = put_tcp h place r g _ i
  polls_apart h _ _ (walk.Awaits place r l op g e a) end i = put_tcp h place r g _ i
  polls_apart h _ _ (walk.UdpCreates place create q g) end i = put_none h place _ (not_yet h place create g i) i
  polls_apart h _ _ (walk.UdpBindsOn place o op q g e) end i = put_open h place o _ g (λ e. e) i
  polls_apart h _ _ (walk.UdpConnectsOn place o op q g e) end i = put_open h place o _ g (connect_keeps op o end) i
  polls_apart h _ _ (walk.UdpReconnectsOn place o op q g e) end i = put_open h place o _ g (reconnect_keeps op o end) i
  polls_apart h _ _ (walk.SendsOn place o out op left g e s settles) end i = put_open h place o _ g (λ e. e) i
  polls_apart h _ _ (walk.ReceivesOn place o inc op g e s) end i = put_open h place o _ g (λ e. refl) i

  -- a handle is made
  handles_apart : (h : Here) (kind : Kind) (parent : Option ℕ) (made : Made) → Handles origin h kind parent made
      → Both h
      → Both (record h { machine = record h.machine { table = with_handle h.machine.table kind parent }; made = made })
  handles_apart h _ _ _ (OfLine kind parent sock m) i = has_other h kind parent (is_other h kind parent sock m) i
  handles_apart h _ _ _ (OfAccepted c s place r is e o g) i =
      has_handle h (Tcp2 place) (Some s) (Made.Marked h.machine.table.next place) tt tt tt i
  handles_apart h _ _ _ (OfPlain c s remaining place r is e o g) i = has_handle h (Tcp3 place) (Some s) Past tt tt tt i
  handles_apart h _ _ _ (OfListener n handle reached place r q m g has e) i = has_handle h (Listen3 place) (Some handle) Past tt tt tt i
  handles_apart h _ _ _ (OfResult socket place slot r m made e g) i = has_handle h (Result3 slot) (Some socket) Past tt tt tt i
  handles_apart h _ _ _ (OfCreated face place u g) i = has_handle h (udp_kind face place) None Past (udp_other face place) tt tt i
  handles_apart h _ _ _ (OfStream place n handle reached kind next new of) i =
      has_next h n handle reached new place kind next of i
  handles_apart h _ _ _ (OfError n handle place handles m k e) i = has_other h ErrorValue (Some handle) tt i

  no_room : (h : Here) (made : Made) → HasNoRoom made → Both h → Both (record h { made = made })
  no_room h Past none i =
      (remade _ _ h.made Past _ tt i.0, record { older = i.1.older; makes = tt; stands = i.1.stands })
  no_room h (ToSend n handle reached) none i = (
    remade _ _ h.made (ToSend n handle reached) _ tt i.0,
    record { older = i.1.older; makes = tt; stands = i.1.stands },
  )
  no_room h _ none i = absurd none

  -- a socket is created
  created : (h : Here) (new : TcpRecord) → Both h
      → Both (record h { machine = record h.machine { store = record h.machine.store { records = tcp2_pushed h.machine.store.records new } } })
  created h new i = (push_tcp h.machine.table h.machine.store.records new h.made h.machine.store.standing i.0, i.1)

  -- a UDP socket that is closed has no live stream: its handle went, and it has none but under that
  has_handle_still : (o : OpenUdp) → IsSome (held_udp (Some o)) → o.dropped ≡ false
  has_handle_still o k = by_dropped o.dropped k
    where
      by_dropped : (b : Bool) → IsSome (unless_gone o b) → b ≡ false
      by_dropped false k = refl
      by_dropped true k = absurd (cc)

  unheld_none : (h : Here) (place : ℕ) (o : OpenUdp) → walk.ReleasesUdp h place → walk.FoundUdp h place (UdpRecord.Open o) → Owns h → NoIncoming h.machine.table place
  unheld_none h place o (walk.WithHandle idle made) g owns a l e =
      let none = subst (owned.MadeSo h.machine.table h.machine.store.records) made owns.1 in none.0 place refl a l (inr (ap stream_place e))
  unheld_none h place o (walk.Unheld free) g owns a l e =
      let names : Names (Incoming place) (slice_get h.machine.store.records place) = subst (λ (k : Kind). Names k (slice_get h.machine.store.records place)) e (owns.0.there a place l (subst (λ (k : Kind). IsOf k place) (sym e) (inr (inl refl)))) in
      let held : o.dropped ≡ false = has_handle_still o (subst (λ (u : Option UdpRecord). IsSome (held_udp (open_of u))) g names) in
      let still : is_udp_held h.machine.store place ≡ true = rw (g, held) refl in
      absurd (cc)

  pub becomes_apart : (es : List Entry) (h now : Here) → Becomes contexts line origin h now → Owns h × Quiet h
      → Both h → Both now
  becomes_apart es h _ (Learnt place r side told at g e) b i = (put_tcp h place r g _ i.0, i.1)
  becomes_apart es h _ (IsClosed place r side q g e) b i = (put_tcp h place r g _ i.0, i.1)
  becomes_apart es h _ (GivenUp place r q goes g) b i = (put_tcp h place r g _ i.0, i.1)
  becomes_apart es h _ (UdpLearnt place o socket g e) b i = (put_open h place o _ g (λ e. e) i.0, i.1)
  becomes_apart es h _ (UdpIsClosed place o q g) b i = (put_none h place (UdpRecord.Closed o.inner.side) (unheld_none h place o q g b.0) i.0, i.1)
  becomes_apart es h _ (UdpGivenUp place create q g) b i =
      (put_none h place (UdpRecord.Closed create.operation.who.side) (not_yet h place create g i.0) i.0, i.1)
  becomes_apart es h _ (UdpBegun face ctx family r c u m) b i =
      let made = udp_after_create (own_of line) ctx.name family r in
      (begun h made i.0, begun_same (λ t made standing. AreUnder t made standing) h made i.1)
  becomes_apart es h _ (Resolved host records l same) b i = (found h records same i.0, i.1)
  becomes_apart es h _ (StandsOn host told) b i = i
  becomes_apart es h _ (DatagramBegan place o call op polled ended at g starts m own left) b i = i
  becomes_apart es h _ (DatagramPolled n was place o call op polled ended is at g polls left) b i = i
  becomes_apart es h _ (HasHandle kind parent made k) b i = handles_apart h kind parent made k i
  becomes_apart es h _ (NoRoom made none) b i = no_room h made none i
  becomes_apart es h _ (Created face ctx family c u m) b i = created h _ i
  becomes_apart es h _ (CreatedWith face ctx family c u m) b i =
      let new = new_record (new_socket (own_of line) ctx.name family) in
      let now : Here = record h { machine = record h.machine { store = with_record h.machine.store (new_socket (own_of line) ctx.name family) } } in
      has_other now (tcp_kind face (length h.machine.store.records)) None (tcp_other face (length h.machine.store.records)) (created h new i)
  becomes_apart es h _ (Writing _ (InCall place n r s half permit bytes at g e w within used)) b i = (put_tcp h place r g _ i.0, i.1)

  abbrev apart_state : OfState contexts line origin (λ es h. Owns h × Quiet h)
  apart_state = record {
    Holds = Both;
    moves = λ es h now m b i. (moves_apart h now m i.0, moves_under h now m i.1);
    becomes = becomes_apart;
    polls = λ es h op after held b i.
        let under = polled_same (λ t made standing. AreUnder t made standing) h op after held in
        whatever (λ end. Both (after end)) (λ end. (polls_apart h op after held end i.0, under end i.1)) es
        (poll_asks op);
    turns = λ es h place r s g e b i.
        whatever (λ done. Both (put h place (with_writer r s done.1))) (λ done. (put_tcp h place r g _ i.0, i.1)) es (turn_asks s.writer);
  }

  -- the three as one law
  unfoldable below : Law contexts line origin
  unfolding owners connects
  below = layer (owners contexts line origin) (over (λ es h b. tt) (connects contexts line origin))

  -- for laws that rest on it
  unfoldable pub streams_law : Law contexts line origin
  unfolding below owners connects
  streams_law = stand below (of_state apart_state)

  pub apart_in : (es : List Entry) (h : Here) → streams_law.Inv es h → Apart h
  unfolding streams_law below owners connects
  apart_in es h i = i

  pub in_apart : (es : List Entry) (h : Here) → Apart h → streams_law.Inv es h
  unfolding streams_law below owners connects
  in_apart es h i = i

  pub streams_law_begins : BeginsWrites streams_law
  unfolding streams_law below owners connects
  streams_law_begins =
      let lower =
      begins_layer (owners contexts line origin) (over (λ es h b. tt) (connects contexts line origin))
      (owners_begin contexts line origin)
      (begins_over (λ es h b. tt) (connects contexts line origin) (connects_begin contexts line origin)) in
      begins_stand below (of_state apart_state) lower (begins_state apart_state)

-- == of a run
-- what holds between the lines: of handles, of connects, and of incoming streams and the call that is pending
abbrev pub HasStreams : Machine → Type 0
HasStreams m = (OwnedIn m × HasConnects m) × (Streams m.table m.store.records Past m.store.standing × AreUnder m.table Past m.store.standing)

-- so it is where a line begins, and where it is over
pub streams_start : (m : Machine) (own : Own) → HasStreams m → Apart (Starts m own)
streams_start m own i = (((i.0.0.0, tt, i.0.0.1), (starts_with m.store.records m.store.standing own i.0.1, tt)), i.1)

pub streams_over : (m : Machine) → Apart (Over m) → HasStreams m
streams_over m i = (((i.0.0.0, i.0.0.2), i.0.1.0), i.1)

pub first_streams : HasStreams first_state
first_streams = ((first_in, first_connects), (record { apart = record { there = λ a place l e. absurd l; single = λ a b place l m d e. absurd l }; makes = tt; stands = tt }, record { older = λ k kind e. absurd (cc); makes = tt; stands = tt }))

-- == what it says
-- within a line
pub apart_here : (h : Here) → Apart h → StreamsApart h.machine.table h.machine.store.records
apart_here h i = record { there = i.1.0.apart.there; single = i.1.0.apart.single; quiet = λ place o op at c. no_streams o (i.0.1.0.quiet place o op at c) }

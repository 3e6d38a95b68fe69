-- The law that an operation receives on one network socket.
use Rattle.std.specs.Prelude.{length, take}
use Rattle.wasi_world.specs.declared.call.Call.TheVariants as call
use Rattle.wasi_world.specs.declared.call.Told.TheVariants as told
use Rattle.wasi_addr.specs.declared.code.ErrorCode.{ErrorCode}
use Rattle.wasi_tcp.specs.Connect.{IsConnect}
use Rattle.wasi_tcp.specs.Listen.{IsListen}
use Rattle.wasi_udp.specs.Create.{Create, new_create}
use Rattle.wasi_udp.specs.Receive.{receive_start, wanting}
use Rattle.wasi_udp.specs.Send.{IsLeftOfSend, ToRefuse, Unbound, Unchecked, at_remote, send_first, send_left, send_start, send_to}
use Rattle.wasi_udp.specs.declared.send.Destination.{Destination}
use Rattle.wasi_addr.specs.declared.address.SocketAddressFamily.{SocketAddressFamily}
use Rattle.wasi_addr.specs.declared.address.IpAddress.{IpAddress}
use Rattle.std.specs.declared.alloc.AllocError.{AllocError}
use Rattle.wasi_world.specs.declared.asks.Polled.{Polled}
use Rattle.wasi_world.specs.declared.asks.Polled.TheVariants as polled_as
use Rattle.wasi_world.specs.Typed.{told_names}
use Rattle.host_store.specs.Beside.{beside_as, beside_of}
use Rattle.host_lookups.specs.Resolves.{begun_lookup}
use Rattle.host_store.specs.declared.beside.Beside.{Beside}
use Rattle.host_store.specs.declared.beside.BesideCall.{BesideCall}
use Rattle.host_store.specs.declared.beside.BesideCall.TheVariants.{Connect, Receive, Resolve, Send}
use Rattle.record_common.specs.Binding.{left_of}
use Rattle.wasi_walks.proofs.BesideLists.{found_has}
use Rattle.wasi_walks.specs.Licence.{IsReceive}
use Rattle.wasi_walks.specs.Lines.{step_at}
use Rattle.std.specs.Prelude.{suc}
use Rattle.wasi_walks.proofs.fits.Datagrams.{FitBeside}
use Rattle.wasi_laws.proofs.Words.{Bool, Err, Ok, Result, false, true}
use Rattle.wasi_world.specs.Operation as item
use Rattle.udp_records.specs.Datagrams.{udp_connect_left, udp_reconnect_left}
use Rattle.udp_records.specs.Receiving.{receive_left, with_receiving}
use Rattle.udp_records.specs.Udp.{udp_create_left, udp_side}
use Rattle.udp_records.specs.declared.datagrams.Incoming.{Incoming}
use Rattle.udp_records.specs.declared.datagrams.Receiving.{Receiving}
use Rattle.wasi_records.specs.declared.records.Record.{Record}
use Rattle.udp_records.specs.declared.udp.OpenUdp.{OpenUdp}
use Rattle.udp_records.specs.declared.udp.UdpRecord.{UdpRecord}
use Rattle.wasi_walks.proofs.Fronts as asked
use Rattle.wasi_walks.proofs.fits.Records.{FitConnecting, FitSending, FitUdpProgress, SendOn, UdpBindOn, UdpConnectOn}
use Rattle.wasi_walks.proofs.Lists.{Cut}
use Rattle.wasi_walks.proofs.received.Polls.{AreSilent, Elsewhere, NoName, Spares, silent_poll}
use Rattle.wasi_walks.proofs.received.Silent.{accept_silent, bind_silent, connect_silent, listen_silent, send_silent, udp_bind_silent, udp_connect_silent}
use Rattle.wasi_walks.proofs.walks.Here.{IsOlder, own_not_given, grows_to, next_given, next_grows, next_to_come, not_given, older_unused, older_used}
use Rattle.wasi_walks.proofs.walks.Later.{GivesLater}
use Rattle.wasi_walks.proofs.walks.Moves as walk
use Rattle.wasi_walks.proofs.walks.Moves.{with_beside, FoundUdp, Names, put_udp, receive_op, receiving_in, sending_in, send_op}
use Rattle.wasi_laws.specs.Receivers.{AsksToReceive, ReceivesOnOne}
use Rattle.wasi_walks.proofs.PipeLists.{slot_push_same}
use Rattle.wasi_laws.proofs.Words.{Allows, Asks, Ask, AskWrite, Call, CloseLast, Done, End, Entry, FitListening, FitProgress, Give, Given, Held, Here, HoldsAccept, Has, HoldsConnect}
use Rattle.wasi_laws.proofs.Words.{InCall, IsAcceptOn, Item, LastAsk, Left, List, Machine, Move, None, NothingLast, OpId, Operation, Option, Over, Own, Refused, Reply, ShutdownLast}
use Rattle.wasi_laws.proofs.Words.{Some, Starts, Step, TcpRecord, ToConnect, Told, Unused, Used, Waits, WasiSocketsCtx, Who, [], allows_keep, allows_weaker, ap, append_assoc, arith}
use Rattle.wasi_laws.proofs.Words.{bind, cut_of, entry, first_state, has_back, inl, inr, last_ask, new_record, new_socket, own_of, part_of, poll_asks, put, refl, run, socket_of, subst}
use Rattle.wasi_laws.proofs.Words.{sym, ℕ, ⊤, ◌+◌, ◌++◌, ◌∙◌, ◌∷◌, ◌≡◌, ◌≤◌, ◌⊎◌}
use Rattle.wasi_laws.proofs.asks.Fronts.{NoRecv}
use Rattle.wasi_laws.proofs.asks.Single.{Grounds, IsAskedOn, KeepsWrites, OnNone, OnSide, OnUdp, Single, each_met}
use Rattle.wasi_laws.proofs.shapes.Law.{job_of}
use Rattle.wasi_laws.proofs.shapes.Shape.{AreOfEnd, AreOfWrite, HasStreams, StreamsShape, sockets_stay}
use Rattle.wasi_laws.proofs.receivers.Going.{OneMore, ReceivesBeside, asked_beside, beside_begins, beside_changed, beside_fewer, beside_more, beside_receives, going_beside, may_beside, no_side, receive_side, Going, GoesOrEnds, MayReceive, Receivers, asked_by_it, asked_else, gives_more, goes_or_ends, going_on, may_quietly, may_receive, of_fewer, of_more_tcp, of_more_udp, of_same, of_tcp, of_udp, receive_begins, receiver, who_of}

-- == trees that ask for no datagram
-- no network socket is asked for one
spares_all : (op : OpId) (c : Call) → ((side : OpId) → Spares side NoName op c) → NoRecv c
spares_all op (call.Recv side) k = k side refl
spares_all op _ k = tt

abbrev Without : List Entry → OpId → Call → Type 0
Without es op c = NoRecv c

all_spared : {A : Type 0} (es : List Entry) (asks : Asks A) → ((side : OpId) → Allows (Elsewhere side ⊤ NoName) (λ fs a. ⊤) es asks) → Allows Without (λ fs a. ⊤) es asks
all_spared es (Give a) k = tt
all_spared es (Ask op c next) k = (spares_all op c (λ side. (k side).0 tt), λ t f. all_spared _ (next t) (λ side. (k side).1 t f))
all_spared es (AskWrite op sock bytes next) k = (tt, λ t f g. all_spared _ (next t) (λ side. (k side).1 t f g))

-- nor by a write
end_silent : (side : OpId) (who : Who) (items : List Item) → AreOfEnd items → AreSilent side ⊤ NoName who items
end_silent side who [] k = tt
end_silent side who (item.ShutdownSend ∷ items) k = (tt, end_silent side who items k.1)
end_silent side who (item.Last c given ∷ items) k = (tt, end_silent side who items k.1)
end_silent side who (_ ∷ items) k = absurd k.0

write_silent : (side : OpId) (who : Who) (items : List Item) → AreOfWrite items → AreSilent side ⊤ NoName who items
write_silent side who [] k = tt
write_silent side who (item.Write bytes ∷ items) k = (tt, end_silent side who items k.1)
write_silent side who (item.ShutdownSend ∷ items) k = (tt, end_silent side who items k.1)
write_silent side who (item.Last c given ∷ items) k = (tt, end_silent side who items k.1)
write_silent side who (_ ∷ items) k = absurd k.0

module _ (R : ℕ → Type 0) (line : ℕ) where
  -- between the asks of the line
  abbrev pub Kept : List Entry → Here → Type 0
  Kept es h = Receivers R line h.own es h.machine.store.records (ReceivesBeside h.machine.store.beside)

  -- == what changes
  used : (es : List Entry) (h : Here) → Kept es h → Kept es (record h { own = Used })
  used es h i = gives_more R line h.own es h.machine.store.records (ReceivesBeside h.machine.store.beside) Used (older_used line h.own) tt i

  connects : (es : List Entry) (h : Here) (place : ℕ) → Kept es h → Kept es (record h { own = ToConnect place })
  connects es h place i = gives_more R line h.own es h.machine.store.records (ReceivesBeside h.machine.store.beside) (ToConnect place) (older_used line h.own) tt i

  counts : (es : List Entry) (h : Here) (n : ℕ) → h.own ≡ Names n → Kept es h → Kept es (record h { own = Names (n + 1) })
  counts es h n own i = let k : GivesLater (Names n) = subst GivesLater own i.gives in gives_more R line h.own es h.machine.store.records (ReceivesBeside h.machine.store.beside) (Names (n + 1)) (next_grows line n h.own own) (omega (arith, k)) i

  tcp : (es : List Entry) (h : Here) (place : ℕ) (now : TcpRecord) → Kept es h → Kept es (put h place now)
  tcp es h place now i = going_on R line h.own es h.machine.store.records (ReceivesBeside h.machine.store.beside) _ (λ w g. of_tcp h.machine.store.records w place now g) i

  udp : (es : List Entry) (h : Here) (place : ℕ) (old now : UdpRecord) → FoundUdp h place old → GoesOrEnds old now → Kept es h → Kept es (put_udp h place now)
  udp es h place old now at keeps i = going_on R line h.own es h.machine.store.records (ReceivesBeside h.machine.store.beside) _ (λ w g. of_udp h.machine.store.records w place old now at keeps g) i

  -- a receive begins by the next name of its line
  begins : (es : List Entry) (h : Here) (place n : ℕ) (now : UdpRecord) (w : Who) → receiver now ≡ Some w → w.id ≡ part_of line n → h.own ≡ Names n → Kept es h → Kept es (record (put_udp h place now) { own = Names (n + 1) })
  begins es h place n now w is name own i =
      let first : GivesLater (Names n) = subst GivesLater own i.gives in
      receive_begins R line h.own es h.machine.store.records (ReceivesBeside h.machine.store.beside) place now w (Names (n + 1)) is (subst (λ (x : OpId). 1 ≤ x.part) (sym name) first)
      (λ old. not_given line h.own (part_of line n) (subst (IsOlder line h.own) name old) (next_to_come line n h.own own)) (subst (IsOlder line (Names (n + 1))) (sym name) (next_given line n)) (next_grows line n h.own own) (omega (arith, first)) i

  -- a call that receives nothing stands beside others
  stood : (es : List Entry) (h : Here) (b : Beside) → receive_side b.call ≡ None → Kept es h → Kept es (with_beside h (h.machine.store.beside ++ b ∷ []))
  stood es h b none i = going_beside R line h.own es h.machine.store.records _ _ (λ m x r. elim (beside_more h.machine.store.beside b m x r) [ inl old ↦ old | inr new ↦ absurd (no_side (receive_side b.call) x none new.1) ]) i

  looks : (es : List Entry) (h : Here) (host : List ℕ) (p : Result (Polled (List IpAddress)) AllocError) → Kept es h → Kept es (with_beside h (begun_lookup h.machine.store.beside (beside_as line (Resolve host)) p))
  looks es h host (Ok polled_as.Pending) i = stood es h (beside_as line (Resolve host)) refl i
  looks es h host (Ok (polled_as.Ready names)) i = i
  looks es h host (Ok (polled_as.Code c)) i = i
  looks es h host (Err e) i = i

  module _ {origin : Step} where
    moves : (es : List Entry) (h now : Here) → Move line origin h now → Kept es h → Kept es now
    moves es _ _ (walk.Spends h e) i = used es h i
    moves es _ _ (walk.SpendsNames h n e) i = used es h i
    moves es _ _ (walk.EndsConnect h place own over) i = used es h i
    moves es _ _ (walk.RecallsStreams h ids place handle e own) i = connects es h place i
    moves es _ _ (walk.RecallsConnect h ids place e own) i = connects es h place i
    moves es _ _ (walk.Counts h e) i = gives_more R line h.own es h.machine.store.records (ReceivesBeside h.machine.store.beside) (Names 1) (grows_to line h.own Unused (Names 1) e (older_unused line (Names 1))) (omega arith) i
    moves es _ _ (walk.Changes h place r now g p) i = tcp es h place now i
    moves es _ _ (walk.ClosesReader h place r s g e) i = tcp es h place _ i
    moves es _ _ (walk.Writes h place r s w g e m) i = tcp es h place _ i
    moves es _ _ (walk.IsGone h place r q g e) i = tcp es h place _ i
    moves es _ _ (walk.Reconnects h place r c now g e s t u) i = tcp es h place _ i
    moves es _ _ (walk.Opens h place r c d g e k) i = tcp es h place _ i
    moves es _ _ (walk.TakesEnd h handle place r now t g half) i = tcp es h place now i
    moves es _ _ (walk.AddsSlot h s) i = going_on R line h.own es h.machine.store.records (ReceivesBeside h.machine.store.beside) _ (λ w g. of_same h.machine.store.records w _ (sockets_stay (slot_push_same {new = λ op. ⊥} h.machine.store.records s)) g) i
    moves es _ _ (walk.BeginsConnect h place r x a bound at g d to known idle own) i = used es (put h place _) (tcp es h place _ i)
    moves es _ _ (walk.BeginsBind h place r x a at g d to own) i = used es (put h place _) (tcp es h place _ i)
    moves es _ _ (walk.BeginsWrite h place n r s half permit bytes at g e w within own) i = used es (put h place _) (tcp es h place _ i)
    moves es _ _ (walk.BeginsListen h place r x bound at g d known free none to idle own) i = used es (put h place _) (tcp es h place _ i)
    moves es _ _ (walk.BeginsAccept h place n r l at g e a own) i = counts es (put h place _) n own (tcp es h place _ i)
    moves es _ _ (walk.Unlistens h place r op q g e c o) i = tcp es h place _ i
    moves es _ _ (walk.Forgets h place r l c g e a) i = tcp es h place _ i
    moves es _ _ (walk.Joins h c handle place r l new peer is of u g e a) i =
        let k = tcp es h place (walk.accepting_now r l _) i in
        going_on R line h.own es _ _ _ (λ w g. of_more_tcp _ w (walk.joined l new peer) g) k
    moves es _ _ (walk.JoinsPlain h c listener remaining place r l new peer is of u g e a) i =
        let k = tcp es h place (walk.accepting_now r l _) i in
        going_on R line h.own es _ _ _ (λ w g. of_more_tcp _ w (walk.joined_plain l new peer) g) k
    moves es _ _ (walk.JoinsFault h place r l c u g e a) i =
        let k = tcp es h place (walk.accepting_now r l _) i in
        going_on R line h.own es _ _ _ (λ w g. of_more_tcp _ w (walk.faulted l c) g) k
    moves es _ _ (walk.UdpChanges h place o now g p keeps) i = udp es h place (UdpRecord.Open o) (UdpRecord.Open now) g (goes_or_ends (receiving_in o.incoming) (receiving_in now.incoming) p.receives) i
    moves es _ _ (walk.BeginsUdpBind h place o a at g to own) i = used es (put_udp h place _) (udp es h place (UdpRecord.Open o) (UdpRecord.Open _) g (inl refl) i)
    moves es _ _ (walk.BeginsUdpConnect h place o a bound at g to known none own) i = connects es (put_udp h place _) place (udp es h place (UdpRecord.Open o) (UdpRecord.Open _) g (inl refl) i)
    moves es _ _ (walk.BeginsSend h place n o out d bound at g e is known own) i = counts es (put_udp h place _) n own (udp es h place (UdpRecord.Open o) (UdpRecord.Open _) g (inl refl) i)
    moves es _ _ (walk.BeginsReceive h place n o inc bound at g e is own) i = begins es h place n (UdpRecord.Open _) (receive_start (part_of line n) o.inner bound).who refl refl own i
    moves es _ _ (walk.CancelsBind h place r op q g e) i = tcp es h place _ i
    moves es _ _ (walk.CancelsUdpBind h place o op q g e) i = udp es h place (UdpRecord.Open o) (UdpRecord.Open _) g (inl refl) i
    moves es _ _ (walk.CancelsUdpConnect h place o q g) i = udp es h place (UdpRecord.Open o) (UdpRecord.Open _) g (inl refl) i
    moves es _ _ (walk.DropsUdp h place o idle made g) i = udp es h place (UdpRecord.Open o) (UdpRecord.Open _) g (inl refl) i
    moves es _ _ (walk.StandsBeside h place r op at g e its) i = stood es h (beside_as line (Connect place)) refl i
    moves es _ _ (walk.EndsBeside h n) i = going_beside R line h.own es h.machine.store.records _ _ (λ m x r. beside_fewer h.machine.store.beside n m x r) i
    moves es _ _ (walk.Finds h records s) i = going_on R line h.own es h.machine.store.records (ReceivesBeside h.machine.store.beside) records (λ w g. of_same h.machine.store.records w records (sockets_stay s) g) i
    moves es _ _ (walk.GivesBack h place idle left) i = going_on R line h.own es h.machine.store.records (ReceivesBeside h.machine.store.beside) _ (λ w g. of_fewer h.machine.store.records w place g) i
    moves es _ _ _ i = i

  -- == polls
  module _ (own : Own) (records : List Record) (calls : ℕ → OpId → Type 0) where
    abbrev So : List Entry → Type 0
    So es = Receivers R line own es records calls

    -- a tree that asks for no datagram
    quietly : {A : Type 0} (es : List Entry) (asks : Asks A) → So es → Allows Without (λ fs a. ⊤) es asks → Allows (MayReceive R) (λ fs a. So fs) es asks
    quietly es asks i n =
        allows_weaker (MayReceive R) (λ fs a. So fs × ⊤) (λ fs a. So fs) (λ fs a k. k.0) es asks
        (allows_keep Without (MayReceive R) So (λ fs a. ⊤) (λ fs op c t fits k s. asked_else R line own fs records calls op c t s k) (λ fs op c s. may_quietly R fs op c s) es asks i n)

    quiet_poll : (es : List Entry) (op : Operation) → ((side : OpId) → AreSilent side ⊤ NoName op.who op.left) → So es → Allows (MayReceive R) (λ fs ended. So fs) es (poll_asks op)
    quiet_poll es op n i = quietly es (poll_asks op) i (all_spared es (poll_asks op) (λ side. silent_poll side ⊤ NoName op es (n side)))

    -- a receive
    module _ (who : Who) (may : (es : List Entry) → So es → (MayReceive R) es who.id (call.Recv who.side)) (by_it : (es : List Entry) (t : Told) → So es → So (es ++ entry who.id (call.Recv who.side) t ∷ [])) where
      else : (es : List Entry) (c : Call) (t : Told) → NoRecv c → So es → So (es ++ entry who.id c t ∷ [])
      else es c t n i = asked_else R line own es records calls who.id c t n i

      asks : (es : List Entry) (i : Item) (c : Call) → asked.AsksBy who i c → So es → (MayReceive R) es who.id c × ((t : Told) → So (es ++ entry who.id c t ∷ []))
      asks es _ _ (asked.Receives wanted) k = (may es k, λ t. by_it es t k)
      asks es _ _ _ k = (tt, λ t. else es _ t tt k)

      last : (es : List Entry) (last : LastAsk) (c : ErrorCode) (given : Given) → So es → Allows (MayReceive R) (λ fs ended. So fs) es (last_ask who last c given)
      unfolding bind
      last es NothingLast c given k = k
      last es CloseLast c given k = (tt, λ t fits. else es _ t tt k)
      last es ShutdownLast c given k = (tt, λ t fits. else es _ t tt k)

      receive_law : asked.PollLaw (MayReceive R) who (λ es items. So es) (λ es ended. So es)
      receive_law = record {
        asks = λ es i items c a k. (let x = asks es i c a k in (x.0, λ t fits. x.1 t));
        writes = λ es b bytes items k. (tt, λ t fits front. else es _ t tt k);
        becomes = λ es i j items b k. k;
        drops = λ es i items spent k. k;
        ends = λ es i items c given k. last es who.last c given k;
        waits = λ es items k. k;
        done = λ es given m k. k;
      }

      receive_poll : (es : List Entry) (items : List Item) → So es → Allows (MayReceive R) (λ fs ended. So fs) es (poll_asks (record { who = who; left = items }))
      receive_poll es items i = asked.polls_by receive_law items es i

  tcp_polled : (es : List Entry) (h : Here) (place : ℕ) (op : Operation) (now : End × List Item → TcpRecord) → ((side : OpId) → AreSilent side ⊤ NoName op.who op.left) → Kept es h → Allows (MayReceive R) (λ fs ended. Kept fs (put h place (now ended))) es (poll_asks op)
  tcp_polled es h place op now n i = allows_weaker (MayReceive R) (λ fs ended. Kept fs h) (λ fs ended. Kept fs (put h place (now ended))) (λ fs ended k. tcp fs h place (now ended) k) es (poll_asks op) (quiet_poll h.own h.machine.store.records (ReceivesBeside h.machine.store.beside) es op n i)

  udp_polled : (es : List Entry) (h : Here) (place : ℕ) (old : UdpRecord) (op : Operation) (now : End × List Item → UdpRecord) → FoundUdp h place old → ((ended : End × List Item) → GoesOrEnds old (now ended)) → ((side : OpId) → AreSilent side ⊤ NoName op.who op.left) → Kept es h
      → Allows (MayReceive R) (λ fs ended. Kept fs (put_udp h place (now ended))) es (poll_asks op)
  udp_polled es h place old op now g keeps n i = allows_weaker (MayReceive R) (λ fs ended. Kept fs h) (λ fs ended. Kept fs (put_udp h place (now ended))) (λ fs ended k. udp fs h place old (now ended) g (keeps ended) k) es (poll_asks op) (quiet_poll h.own h.machine.store.records (ReceivesBeside h.machine.store.beside) es op n i)

  -- a create receives nothing, nor does a stream that is made
  created_none : (create : Create) (ended : End × List Item) → receiver (udp_create_left create ended) ≡ None
  created_none create (Waits, items) = refl
  created_none create (Done given, items) = refl
  created_none create (Refused c given, items) = refl

  connected_keeps : (o : OpenUdp) (op : Operation) (ended : End × List Item) → GoesOrEnds (UdpRecord.Open o) (UdpRecord.Open (udp_connect_left op o ended))
  connected_keeps o op (Waits, items) = inl refl
  connected_keeps o op (Done given, items) = inr refl
  connected_keeps o op (Refused c given, items) = inl refl

  reconnected_keeps : (o : OpenUdp) (op : Operation) (ended : End × List Item) → GoesOrEnds (UdpRecord.Open o) (UdpRecord.Open (udp_reconnect_left op o ended))
  reconnected_keeps o op (Waits, items) = inl refl
  reconnected_keeps o op (Done given, items) = inl refl
  reconnected_keeps o op (Refused c given, items) = inl refl

  -- one that is polled goes on, or is over
  received_keeps : (op : Operation) (ended : End × List Item) → (who_of (receive_op (receive_left op ended)) ≡ Some op.who) ⊎ (who_of (receive_op (receive_left op ended)) ≡ None)
  received_keeps op (Waits, items) = inl refl
  received_keeps op (Done given, items) = inr (by_given given)
    where
      by_given : (given : Given) → who_of (receive_op (receive_left op (Done given, items))) ≡ None
      by_given (item.Datagram bytes a) = refl
      by_given _ = refl
  received_keeps op (Refused c given, items) = inr refl

  receives : (es : List Entry) (h : Here) (place : ℕ) (o : OpenUdp) (inc : Incoming) (op : Operation) → FoundUdp h place (UdpRecord.Open o) → o.incoming ≡ Some inc → inc.receiving ≡ Receiving.InProgress op → Kept es h
      → Allows (MayReceive R) (λ fs ended. Kept fs (put_udp h place (UdpRecord.Open (record o { incoming = Some (with_receiving inc (receive_left op ended)) })))) es (poll_asks (wanting inc.remote op))
  receives es h place o inc op g e f i =
      let is : receiver (UdpRecord.Open o) ≡ Some op.who = ap (λ (x : Option Incoming). who_of (receiving_in x)) e ∙ ap (λ (r : Receiving). who_of (receive_op r)) f in
      let now : End × List Item → UdpRecord = λ ended. UdpRecord.Open (record o { incoming = Some (with_receiving inc (receive_left op ended)) }) in
      allows_weaker (MayReceive R) (λ fs ended. Kept fs h) (λ fs ended. Kept fs (put_udp h place (now ended))) (λ fs ended k. udp fs h place (UdpRecord.Open o) (now ended) g (elim (received_keeps op ended) [ inl p ↦ inl (p ∙ sym is) | inr p ↦ inr p ]) k) es (poll_asks (wanting inc.remote op))
      (receive_poll h.own h.machine.store.records (ReceivesBeside h.machine.store.beside) op.who (λ fs k. may_receive R line h.own fs h.machine.store.records _ op.who going k) (λ fs t k. asked_by_it R line h.own fs h.machine.store.records _ op.who t going k) es (wanting inc.remote op).left i)
    where
      going : Going h.machine.store.records op.who
      going = record { place = place; socket = UdpRecord.Open o; at = g; receives = ap (λ (x : Option Incoming). who_of (receiving_in x)) e ∙ ap (λ (r : Receiving). who_of (receive_op r)) f }

  module _ (contexts : List WasiSocketsCtx) (origin : Step) where
    polls : (es : List Entry) (h : Here) (op : Operation) (after : End × List Item → Here) → Held h op after → Grounds contexts line origin h → Kept es h → Allows (MayReceive R) (λ fs ended. Kept fs (after ended)) es (poll_asks op)
    polls es h _ _ (walk.BindsOn place r op q g e) b i = let its = subst (FitProgress r.inner.state) e (b.0.0.records place r g).2 in tcp_polled es h place op _ (λ side. bind_silent side ⊤ NoName op.who op.left its.1.left) i
    polls es h _ _ (walk.Connects place r op g e) b i = let its : IsConnect op = subst HoldsConnect e (b.0.0.records place r g).0 in tcp_polled es h place op _ (λ side. connect_silent side ⊤ NoName op.who op.left its.left) i
    polls es h _ _ (walk.Listens place r op q g e c) b i = let its : IsListen op = subst FitListening e (b.0.0.records place r g).1 in tcp_polled es h place op _ (λ side. listen_silent side ⊤ NoName op.who op.left its.left) i
    polls es h _ _ (walk.Awaits place r l op g e a) b i = let its : IsAcceptOn l.side l.maker op = subst (HoldsAccept l.side l.maker) a (subst FitListening e (b.0.0.records place r g).1) in tcp_polled es h place op _ (λ side. accept_silent side ⊤ NoName op.who op.left its.accept.left) i
    polls es h _ _ (walk.UdpCreates place create q g) b i =
        udp_polled es h place (UdpRecord.Creating create) create.operation _ g (λ ended. inr (created_none create ended)) (λ side. subst (AreSilent side ⊤ NoName create.operation.who) (sym (b.0.0.udps place (UdpRecord.Creating create) g).1) (tt, tt)) i
    polls es h _ _ (walk.UdpBindsOn place o op q g e) b i = let its : UdpBindOn o.inner.side op = subst (FitUdpProgress o.inner.side) e (b.0.0.udps place (UdpRecord.Open o) g).0 in
        udp_polled es h place (UdpRecord.Open o) op _ g (λ ended. inl refl) (λ side. udp_bind_silent side ⊤ NoName op.who op.left its.bind.left) i
    polls es h _ _ (walk.UdpConnectsOn place o op q g e) b i = let its : UdpConnectOn o.inner.side op = subst (FitConnecting o.inner.side) e (b.0.0.udps place (UdpRecord.Open o) g).1 in
        udp_polled es h place (UdpRecord.Open o) op _ g (connected_keeps o op) (λ side. udp_connect_silent side ⊤ NoName op.who (λ x n. n) op.left its.connect.left) i
    polls es h _ _ (walk.UdpReconnectsOn place o op q g e) b i = let its : UdpConnectOn o.inner.side op = subst (FitConnecting o.inner.side) e (b.0.0.udps place (UdpRecord.Open o) g).1 in
        udp_polled es h place (UdpRecord.Open o) op _ g (reconnected_keeps o op) (λ side. udp_connect_silent side ⊤ NoName op.who (λ x n. n) op.left its.connect.left) i
    polls es h _ _ (walk.SendsOn place o out op left g e f s) b i =
        let its : SendOn o.inner.side op = subst (FitSending o.inner.side) (ap sending_in e ∙ ap send_op f) (b.0.0.udps place (UdpRecord.Open o) g).2 in
        udp_polled es h place (UdpRecord.Open o) (at_remote o.inner.remote op) _ g (λ ended. inl refl) (λ side. send_silent side ⊤ NoName op.who op.left its.send.left) i
    polls es h _ _ (walk.ReceivesOn place o inc op g e f) b i = receives es h place o inc op g e f i

    -- == datagrams of 0.3
    begun_so : (calls : List Beside) (side : OpId) (call : Operation → BesideCall) (op : Operation) → ((x : Operation) (y : OpId) → x.who ≡ op.who → receive_side (call x) ≡ Some y → y ≡ side) → (ended : End × List Item) (n : ℕ) (x : OpId)
        → ReceivesBeside (walk.datagram_begun calls line call op ended) n x → OneMore (ReceivesBeside calls) line side n x
    begun_so calls side call op its (Waits, items) n x r = elim (beside_more calls (beside_as line (call (left_of op items))) n x r) [ inl old ↦ inr old | inr new ↦ inl (new.0, its (left_of op items) x refl new.1) ]
    begun_so calls side call op its (Done given, items) n x r = inr r
    begun_so calls side call op its (Refused c given, items) n x r = inr r

    begun_none : (calls : List Beside) (call : Operation → BesideCall) (op : Operation) → ((x : Operation) → receive_side (call x) ≡ None) → (ended : End × List Item) (n : ℕ) (x : OpId)
        → ReceivesBeside (walk.datagram_begun calls line call op ended) n x → ReceivesBeside calls n x
    begun_none calls call op none (Waits, items) n x r = elim (beside_more calls (beside_as line (call (left_of op items))) n x r) [ inl old ↦ old | inr new ↦ absurd (no_side (receive_side (call (left_of op items))) x (none (left_of op items)) new.1) ]
    begun_none calls call op none (Done given, items) n x r = r
    begun_none calls call op none (Refused c given, items) n x r = r

    polled_so : (calls : List Beside) (k : ℕ) (call : Operation → BesideCall) (op : Operation) → ((x : Operation) (y : OpId) → x.who ≡ op.who → receive_side (call x) ≡ Some y → ReceivesBeside calls k y) → (ended : End × List Item) (n : ℕ) (x : OpId)
        → ReceivesBeside (walk.datagram_polled calls k call op ended) n x → ReceivesBeside calls n x
    polled_so calls k call op its (Waits, items) n x r = beside_changed calls k (call (left_of op items)) (λ y s. its (left_of op items) y refl s) n x r
    polled_so calls k call op its (Done given, items) n x r = beside_fewer calls k n x r
    polled_so calls k call op its (Refused c given, items) n x r = beside_fewer calls k n x r

    side_of_receive : (a b : OpId) → Some a ≡ Some b → b ≡ a
    side_of_receive a b e = cc

    starts_left : (family : SocketAddressFamily) (bytes : List ℕ) (to : Result Destination ErrorCode) (bound : Bool) → IsLeftOfSend (send_left family bytes (send_first to bound))
    starts_left family bytes (Err c) bound = ToRefuse c
    starts_left family bytes (Ok to) true = Unchecked to.kept to.addr bytes
    starts_left family bytes (Ok to) false = Unbound family to.kept to.addr bytes

    datagrams : (es : List Entry) (h : Here) (place : ℕ) (o : OpenUdp) (call : Operation → BesideCall) (op polled : Operation) → walk.StartsDatagram line origin h.machine.table place o call op polled → (IsReceive origin → R line) → h.own ≡ Unused → Kept es h
        → Allows (MayReceive R) (λ fs ended. Kept fs (record (with_beside h (walk.datagram_begun h.machine.store.beside line call op ended)) { own = Used })) es (poll_asks polled)
    datagrams es h place o _ _ _ (walk.StartsSend c s d bound is at known) met own i =
        let op : Operation = send_start (own_of line) o.inner d.bytes d.remote_address bound in
        let its : IsLeftOfSend op.left = starts_left o.inner.family d.bytes (send_to o.inner d.bytes d.remote_address) bound in
        allows_weaker (MayReceive R) (λ fs ended. Kept fs (record h { own = Used })) (λ fs ended. Kept fs (record (with_beside h (walk.datagram_begun h.machine.store.beside line (Send place) op ended)) { own = Used }))
        (λ fs ended k. going_beside R line Used fs h.machine.store.records _ _ (begun_none h.machine.store.beside (Send place) op (λ x. refl) ended) k) es (poll_asks (at_remote o.inner.remote op))
        (quiet_poll Used h.machine.store.records (ReceivesBeside h.machine.store.beside) es (at_remote o.inner.remote op) (λ side. send_silent side ⊤ NoName (at_remote o.inner.remote op).who op.left its) (used es h i))
    datagrams es h place o _ _ _ (walk.StartsReceive c s bound is at known) met own i =
        let op : Operation = receive_start (own_of line) o.inner bound in
        let calls : ℕ → OpId → Type 0 = OneMore (ReceivesBeside h.machine.store.beside) line op.who.side in
        let now : Receivers R line Used es h.machine.store.records calls = beside_begins R line h.own es h.machine.store.records _ op.who.side Used (met (subst IsReceive (sym is) tt)) (λ old. own_not_given line h.own (own_of line) own refl old) (omega arith) (older_used line h.own) tt i in
        allows_weaker (MayReceive R) (λ fs ended. Receivers R line Used fs h.machine.store.records calls) (λ fs ended. Kept fs (record (with_beside h (walk.datagram_begun h.machine.store.beside line (Receive place) op ended)) { own = Used }))
        (λ fs ended k. going_beside R line Used fs h.machine.store.records _ _ (begun_so h.machine.store.beside op.who.side (Receive place) op (λ x y e s. side_of_receive x.who.side y s ∙ ap (λ (w : Who). w.side) e) ended) k) es (poll_asks (wanting None op))
        (receive_poll Used h.machine.store.records calls op.who (λ fs k. may_beside R line Used fs h.machine.store.records calls line op.who.side (inl (refl, refl)) k) (λ fs t k. asked_beside R line Used fs h.machine.store.records calls line op.who.side t (inl (refl, refl)) k) es (wanting None op).left now)

    repolled : (es : List Entry) (h : Here) (n : ℕ) (place : ℕ) (o : OpenUdp) (was : BesideCall) (call : Operation → BesideCall) (op polled : Operation) → ((x : OpId) → receive_side was ≡ Some x → ReceivesBeside h.machine.store.beside n x) → walk.PollsDatagram place o was call op polled → FitBeside h.machine.store.records n was → Kept es h
        → Allows (MayReceive R) (λ fs ended. Kept fs (with_beside h (walk.datagram_polled h.machine.store.beside n call op ended))) es (poll_asks polled)
    repolled es h n place o _ _ _ _ at (walk.PollsSend op) fit i =
        allows_weaker (MayReceive R) (λ fs ended. Kept fs h) (λ fs ended. Kept fs (with_beside h (walk.datagram_polled h.machine.store.beside n (Send place) op ended)))
        (λ fs ended k. going_beside R line h.own fs h.machine.store.records _ _ (polled_so h.machine.store.beside n (Send place) op (λ x y e s. absurd (no_side None y refl s)) ended) k) es (poll_asks (at_remote o.inner.remote op))
        (quiet_poll h.own h.machine.store.records (ReceivesBeside h.machine.store.beside) es (at_remote o.inner.remote op) (λ side. send_silent side ⊤ NoName (at_remote o.inner.remote op).who op.left fit.1.left) i)
    repolled es h n place o _ _ _ _ at (walk.PollsReceive op) fit i =
        let calls : ℕ → OpId → Type 0 = ReceivesBeside h.machine.store.beside in
        let it : calls n op.who.side = at op.who.side refl in
        let name : own_of n ≡ op.who.id = sym fit.0.of_line in
        allows_weaker (MayReceive R) (λ fs ended. Kept fs h) (λ fs ended. Kept fs (with_beside h (walk.datagram_polled h.machine.store.beside n (Receive place) op ended)))
        (λ fs ended k. going_beside R line h.own fs h.machine.store.records _ _ (polled_so h.machine.store.beside n (Receive place) op (λ x y e s. subst (λ (z : OpId). ReceivesBeside h.machine.store.beside n z) (sym (side_of_receive x.who.side y s ∙ ap (λ (w : Who). w.side) e)) it) ended) k) es (poll_asks (wanting None op))
        (receive_poll h.own h.machine.store.records calls op.who (λ fs k. subst (λ (x : OpId). (MayReceive R) fs x (call.Recv op.who.side)) name (may_beside R line h.own fs h.machine.store.records calls n op.who.side it k))
        (λ fs t k. subst (λ (x : OpId). Receivers R line h.own (fs ++ entry x (call.Recv op.who.side) t ∷ []) h.machine.store.records calls) name (asked_beside R line h.own fs h.machine.store.records calls n op.who.side t it k)) es (wanting None op).left i)

    repolls : (es : List Entry) (h : Here) (n : ℕ) (b : Beside) (place : ℕ) (o : OpenUdp) (call : Operation → BesideCall) (op polled : Operation) → beside_of h.machine.store n ≡ Some b → walk.PollsDatagram place o b.call call op polled → Grounds contexts line origin h → Kept es h
        → Allows (MayReceive R) (λ fs ended. Kept fs (with_beside h (walk.datagram_polled h.machine.store.beside n call op ended))) es (poll_asks polled)
    repolls es h n b place o call op polled is polls base i =
        let found = found_has h.machine.store.beside n b is in
        repolled es h n place o b.call call op polled (λ x r. beside_receives h.machine.store.beside n b x is r) polls (subst (λ (k : ℕ). FitBeside h.machine.store.records k b.call) found.1 (base.0.3.besides b found.0)) i

    -- == the law
    not_on : (h : Here) (c : Call) → IsAskedOn contexts line origin h c → NoRecv c
    not_on h c (OnNone e) = by_call c e
      where
        by_call : (c : Call) → socket_of c ≡ None → NoRecv c
        by_call (call.Recv side) e = absurd (cc)
        by_call _ e = tt
    not_on h c (OnSide place r side g s e b q) = q
    not_on h c (OnUdp place o g e b q) = q

    calmly : (es : List Entry) (h : Here) (op : OpId) (c : Call) → NoRecv c → Kept es h → (MayReceive R) es op c × ((t : Told) → Kept (es ++ entry op c t ∷ []) h)
    calmly es h op c n i = (may_quietly R es op c n, λ t. asked_else R line h.own es h.machine.store.records (ReceivesBeside h.machine.store.beside) op c t n i)

    -- a socket that is created joins the records, and receives nothing
    joins : (es : List Entry) (h : Here) (c : Call) (now : List Record) → NoRecv c → ((w : Who) → Going now w → Going h.machine.store.records w) → Kept es h
        → Receivers R line Used (es ++ entry (own_of line) c told.Done ∷ []) now (ReceivesBeside h.machine.store.beside)
    joins es h c now n k i =
        gives_more R line h.own _ now _ Used (older_used line h.own) tt (going_on R line h.own _ h.machine.store.records _ now k ((calmly es h (own_of line) c n i).1 told.Done))

    receivers : (IsReceive origin → R line) → Single contexts line origin (MayReceive R) Kept
    receivers met = record {
      moves = λ es h now m b i. moves es h now m i;
      same = λ es h place r now g s i. tcp es h place now i;
      tables = λ es h t m i. i;
      stops = λ es h place r g i. tcp es h place _ i;
      asks = λ es h op c calm on i. calmly es h op c (not_on h c on) i;
      creates = λ es h ctx family u b i. joins es h (call.TcpCreate ctx.name family) _ tt (λ w g. of_more_tcp h.machine.store.records w (new_record (new_socket (own_of line) ctx.name family)) g) i;
      closes = λ es h place r now op side g c b i. (tt, λ t. tcp _ h place now ((calmly es h op (call.Close side) tt i).1 t));
      udp_same = λ es h place o now g s e i. udp es h place (UdpRecord.Open o) (UdpRecord.Open now) g (inl (ap (λ (x : OpenUdp). receiver (UdpRecord.Open x)) e)) i;
      udp_creates = λ es h ctx family u b i. joins es h (call.UdpCreate ctx.name family) _ tt (λ w g. of_more_udp h.machine.store.records w (UdpRecord.Creating (new_create (own_of line) ctx.name family)) refl g) i;
      udp_closes = λ es h place u op g l b i. (tt, λ t. udp _ h place u (UdpRecord.Closed (udp_side u)) g (inr refl) ((calmly es h op (call.Close (udp_side u)) tt i).1 t));
      lookups = λ es h records s i. going_on R line h.own es h.machine.store.records (ReceivesBeside h.machine.store.beside) records (λ w g. of_same h.machine.store.records w records s g) i;
      stands = λ es h host told i. looks es h host (Ok (told_names told)) i;
      polls = polls;
      datagrams = λ es h place o call op polled at g starts own b i. datagrams es h place o call op polled starts met own i;
      repolls = λ es h n b place o call op polled is at g polls base i. repolls es h n b place o call op polled at polls base i;
      turns = λ es h place r s job now g e on b i.
          let o : HasStreams r.inner.state s = subst (StreamsShape r.inner.state) e (b.1 place r g).0 in
          let k = (job_of s.writer job now on o.writer).0 in
          tcp_polled es h place job.write _ (λ side. write_silent side job.write.who job.write.left k.left) i;
      offers = λ es h ctx handle place given r s half permit is g e w own b i. (may_quietly R es (own_of line) (call.Write half.side (length (take 4294967295 given))) tt, λ t. used _ h ((calmly es h (own_of line) (call.Write half.side (length (take 4294967295 given))) tt i).1 t));
    }

    write_kept : KeepsWrites contexts line origin Kept
    write_kept es h _ (InCall place n r s half permit bytes at g e w within own) b i = used es (put h place _) (tcp es h place _ i)

-- == of a log
around : {A : Type 0} (xs : List A) (y : A) (ys : List A) (x : A) → Has (xs ++ y ∷ ys) x → Has xs x ⊎ ((y ≡ x) ⊎ Has ys x)
around [] y ys x (inl e) = inr (inl e)
around [] y ys x (inr h) = inr (inr h)
around (z ∷ xs) y ys x (inl e) = inl (inl e)
around (z ∷ xs) y ys x (inr h) = elim (around xs y ys x h) [ inl k ↦ inl (inr k) | inr k ↦ inr k ]

-- each of whose entries may come after those before it
module _ (R : ℕ → Type 0) (log : List Entry) (each : (before : List Entry) (e : Entry) (after : List Entry) → log ≡ before ++ e ∷ after → (MayReceive R) before e.op e.call) where
  one : (op side other : OpId) → AsksToReceive log op side → AsksToReceive log op other → side ≡ other
  one op side other a b = by_place (around c.front first c.back second (subst (λ (es : List Entry). Has es second) c.is b.asked))
    where
      first : Entry
      first = entry op (call.Recv side) a.told

      second : Entry
      second = entry op (call.Recv other) b.told

      c : Cut log first
      c = cut_of log first a.asked

      same_call : (x y : OpId) → call.Recv x ≡ call.Recv y → x ≡ y
      same_call x y e = cc

      by_place : Has c.front second ⊎ ((first ≡ second) ⊎ Has c.back second) → side ≡ other
      by_place (inl before) = (each c.front first c.back c.is).1 other (record { told = b.told; asked = before })
      by_place (inr (inl same)) = same_call side other (ap (λ (e : Entry). e.call) same)
      by_place (inr (inr after)) =
          let k : Cut c.back second = cut_of c.back second after in
          let front : List Entry = c.front ++ first ∷ k.front in
          let at : log ≡ front ++ second ∷ k.back = c.is ∙ (ap (λ (es : List Entry). c.front ++ first ∷ es) k.is ∙ sym (append_assoc c.front (first ∷ k.front) (second ∷ k.back))) in
          sym ((each front second k.back at).1 side (record { told = a.told; asked = has_back c.front (first ∷ k.front) first (inl refl) }))

  later : (op side : OpId) → AsksToReceive log op side → (1 ≤ op.part) ⊎ R op.step
  later op side a = let c = cut_of log (entry op (call.Recv side) a.told) a.asked in (each c.front _ c.back c.is).0

module _ (contexts : List WasiSocketsCtx) (steps : List Step) where
  -- the line's step is a receive of 0.3
  abbrev IsReceiveLine : ℕ → Type 0
  IsReceiveLine line = (s : Step) × ((step_at steps line ≡ Some s) × IsReceive s)

  pub runs_receive_on_one : (log : List Entry) (rest : Asks (List Reply × Machine)) → Left (run contexts [] first_state 1 steps) log rest → ReceivesOnOne steps log
  runs_receive_on_one log rest w = record {
    later = λ op side a. elim (later IsReceiveLine log each op side a) [ inl l ↦ inl l | inr k ↦ inr (record { origin = k.0; at = k.1.0; holds = k.1.1 }) ];
    one = one IsReceiveLine log each;
  }
    where
      starts : (line : ℕ) (es : List Entry) (m : Machine) (own : Own) → GivesLater own → Kept IsReceiveLine line es (Starts m Unused) → Kept IsReceiveLine line es (Starts m own)
      starts line es m own g i = gives_more IsReceiveLine line Unused es m.store.records (ReceivesBeside m.store.beside) own (older_unused line own) g i

      next : (line : ℕ) (es : List Entry) (m : Machine) → Kept IsReceiveLine line es (Over m) → Kept IsReceiveLine (line + 1) es (Starts m Unused)
      next line es m i = record { beside_older = i.beside_older; beside_same = i.beside_same; beside_began = i.beside_began; beside_its = i.beside_its; gives = tt; names = i.names; apart = i.apart; older = i.older; its = i.its }

      none : {P : Type 0} (w : Who) → Going first_state.store.records w → P
      none w g = absurd (let e = g.at in cc)

      first : Kept IsReceiveLine 1 [] (Starts first_state Unused)
      first = record { beside_older = λ n x r. absurd (let e : None ≡ Some x = r in cc); beside_same = λ n x y r s. absurd (let e : None ≡ Some x = r in cc); beside_began = λ n x r. absurd (let e : None ≡ Some x = r in cc); beside_its = λ n x side r a. absurd a.asked; gives = tt; names = λ w g. none w g; apart = λ v w g h e. none v g; older = λ op side a. absurd a.asked; its = λ op side w a g e. absurd a.asked }

      each : (before : List Entry) (e : Entry) (after : List Entry) → log ≡ before ++ e ∷ after → MayReceive IsReceiveLine before e.op e.call
      each = each_met contexts (Kept IsReceiveLine) (λ line s. step_at steps line ≡ Some s) (λ line origin at. receivers IsReceiveLine line contexts origin (λ is. (origin, (at, is)))) (λ line origin. write_kept IsReceiveLine line contexts origin) starts next first steps (λ i s e. subst (λ (n : ℕ). step_at steps n ≡ Some s) (let z : suc i ≡ 1 + i = omega arith in z) e) log rest w

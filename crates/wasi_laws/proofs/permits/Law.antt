-- The law that what a network socket takes is a prefix of what it is let write.
use Rattle.wasi_walks.proofs.walks.Moves.{AddsSlot, OfReceive, OfSend, TakesEnd}
use Rattle.wasi_walks.proofs.PipeLists.{slot_push_same}
use Rattle.tcp_records.specs.Ends.{ends_of}
use Rattle.wasi_steps.specs.declared.guest_call.GuestCall.{GuestCall}
use Rattle.wasi_steps.specs.declared.guest_call.P3TcpCall.{P3TcpCall}
use Rattle.wasi_world.specs.declared.call.Call.TheVariants as call
use Rattle.wasi_world.specs.declared.call.Told.TheVariants as told
use Rattle.wasi_tcp.specs.declared.halves.TcpSendStream.{TcpSendStream}
use Rattle.wasi_tcp.specs.declared.listener.Accepting.TheVariants as accepting
use Rattle.wasi_tcp.specs.declared.reader.ReadState.TheVariants as reading
use Rattle.wasi_tcp.specs.declared.socket.Connection.{Connection}
use Rattle.wasi_tcp.specs.declared.socket.TcpState.TheVariants as state
use Rattle.wasi_tcp.specs.declared.writer.WriteState.TheVariants as writing
use Rattle.wasi_tcp.specs.Connect as connect
use Rattle.wasi_tcp.specs.Listen as listen
use Rattle.wasi_udp.specs.Bind as udp
use Rattle.wasi_udp.specs.Create.{new_create}
use Rattle.wasi_udp.specs.Receive as receive
use Rattle.wasi_udp.specs.Receive.{receive_start, wanted_in, wanting}
use Rattle.wasi_udp.specs.Send as send
use Rattle.wasi_udp.specs.Send.{send_first, send_left, send_to}
use Rattle.wasi_udp.specs.declared.send.Destination.{Destination}
use Rattle.udp_records.specs.declared.udp.OpenUdp.{OpenUdp}
use Rattle.host_store.specs.Beside.{beside_of}
use Rattle.host_store.specs.declared.beside.Beside.{Beside}
use Rattle.host_store.specs.declared.beside.BesideCall.{BesideCall}
use Rattle.wasi_walks.proofs.BesideLists.{found_has}
use Rattle.wasi_addr.specs.declared.address.SocketAddressFamily.{SocketAddressFamily}
use Rattle.wasi_laws.proofs.Words.{Err, ErrorCode, HandleTable, Result}
use Rattle.wasi_walks.proofs.fits.Datagrams.{Datagrams, FitBeside}
use Rattle.udp_records.specs.declared.udp.UdpRecord.{UdpRecord}
use Rattle.udp_records.specs.Udp.{udp_create_left, udp_side}
use Rattle.wasi_walks.proofs.walks.Moves.{JoinsFault, JoinsPlain, faulted, joined_plain}
use Rattle.wasi_walks.proofs.claims.Polls.{send_plain, receive_plain, udp_connect_plain}
use Rattle.wasi_walks.proofs.fits.DatagramPolls.{wanted_left}
use Rattle.wasi_walks.proofs.fits.Records.{FitConnecting, FitUdpProgress, ReceiveOn, SendOn, UdpBindOn, UdpConnectOn}
use Rattle.wasi_walks.proofs.fits.UdpFits.{receives_on, sends_on}
use Rattle.wasi_walks.proofs.walks.Moves.{CancelsBind, EndsConnect, RecallsConnect, RecallsStreams, CancelsUdpBind, CancelsUdpConnect, DropsUdp, StartsDatagram, StartsSend, StartsReceive, PollsDatagram, PollsSend, PollsReceive, with_beside, Names, put_udp, with_records, Finds, FoundUdp, UdpChanges, BeginsUdpBind, BeginsUdpConnect, Counts, SpendsNames, BeginsSend, BeginsReceive, UdpCreates, UdpBindsOn, UdpConnectsOn, UdpReconnectsOn, SendsOn, ReceivesOn}
use Rattle.wasi_walks.specs.Waiting.{IsLeftOfBind}
use Rattle.wasi_walks.specs.Waiting as binding
use Rattle.wasi_laws.proofs.Words.{Allows, ArePlain, Asks, Awaits, Begins, BeginsAccept, BeginsBind, BeginsConnect, BeginsListen, BeginsWrite, BindsOn, Bool, Call, Changes, ClosesReader, Connects, Done, End, Entry, Fit, FitListening, FitProgress, Forgets, Found, Held, Here, HoldsAccept, HoldsConnect, IsAcceptOn, IsConnect, IsFrontOf, IsGone, IsLeftOfConnect, IsLeftOfListen, IsListen, Item, Job, Joins, List, Listens, Move, Named, NoWrite, None, Not, OpId, Opens, Operation, Option, Own, Quiet, Reconnects, Refused, SocketAddressFamily, Some, Spends, Step, Streams, TcpRecord, TcpState, ToConnect, ToWrite, Told, Unlistens, Unused, Used, Waits, WasiSocketsCtx, WriteState, Writes, [], accept_ended, accept_name, accept_plain, accepting_now, allows_keep, allows_weaker, ap, append-nil, append_assoc, bytes_left, closed_record, connect_ended, entry, false, fresh, if◌then◌else◌, inl, inr, is_same, job_after, joined, name_in, new_accept, new_job, new_record, new_socket, no_some, none_taken, opened_by, own_of, part_of, poll_asks, put, refl, rules, side_in, side_of, subst, sym, taken_fresh, taken_in, true, with_inner, with_listening, with_reader, with_state, with_writer, ℕ, ⊤, ◌+◌, ◌++◌, ◌∙◌, ◌∷◌, ◌≡◌, Ok, length}
use Rattle.wasi_laws.proofs.asks.Fronts.{unwritten, polls_by}
use Rattle.wasi_laws.proofs.asks.Single.{Single, Grounds, Closing, ClosesSocket, ClosesListen, ClosesArrived}
use Rattle.wasi_walks.proofs.walks.OfState.{creating}
use Rattle.wasi_laws.proofs.asks.Trees.{GoesOn, InWriting, InClosing}
use Rattle.wasi_laws.proofs.shapes.Shape.{same_side, not_same, some_same, WriterIs, IsUsed, HasStreams, StreamsShape, IsBegun, Lives, Follows, follows_plain, follows_same, follows_state, follows_quiet, follows_begun, follows_gone, gone_lacks, SocketsStay, sockets_stay}
use Rattle.wasi_laws.proofs.shapes.Law.{goes_used, job_of}
use Rattle.wasi_laws.proofs.permits.Agreeing.{JobAgrees, Agrees, Agree, IsFree, AgreeIn, Agreeing, agrees_put, agrees_moved, agrees_push, writer_agrees, agrees_beside, agrees_fewer, agrees_over}
use Rattle.wasi_laws.proofs.permits.Spent.{IsSpent, moves_spent, polls_spent, spent_by, spent_fewer, spent_own, spent_push, spent_put}
use Rattle.wasi_walks.proofs.claims.Polls.{GivesOwn, own_poll, plain_poll}
use Rattle.wasi_walks.proofs.walks.Here.{older_used, own_not_given}
use Rattle.wasi_walks.proofs.walks.Moves.{GivesBack, udp_begun}
use Rattle.wasi_laws.proofs.permits.Taken.{After, write_law, taken_push, Fronts, quiet_keep, Accounts}
use Rattle.wasi_records.specs.Records.{tcp2_put, udp2_put, udp2_pushed}
use Rattle.wasi_records.specs.declared.records.Record.{Record}
use Rattle.wasi_walks.proofs.Places.{push_finds, push_still, push_was, put_still, put_was, tcp_sort, udp_sort}

-- == what is in progress besides a write writes nothing
bind_plain : (items : List Item) → IsLeftOfBind items → ArePlain items
bind_plain _ binding.Ended = tt
bind_plain _ _ = search rules

connect_plain : (items : List Item) → IsLeftOfConnect items → ArePlain items
connect_plain _ connect.Ended = tt
connect_plain _ _ = search rules

listen_plain : (items : List Item) → IsLeftOfListen items → ArePlain items
listen_plain _ listen.Ended = tt
listen_plain _ _ = search rules

udp_plain : (items : List Item) → udp.IsLeftOfBind items → ArePlain items
udp_plain _ udp.Ended = tt
udp_plain _ _ = search rules

held_plain : (h : Here) (op : Operation) (after : End × List Item → Here) → Held h op after → Fit h → ArePlain op.left
held_plain h _ _ (BindsOn place r op q g e) f = let its = subst (FitProgress r.inner.state) e (f.records place r g).2 in bind_plain op.left its.1.left
held_plain h _ _ (Connects place r op g e) f = let its : IsConnect op = subst HoldsConnect e (f.records place r g).0 in connect_plain op.left its.left
held_plain h _ _ (Listens place r op q g e c) f = let its : IsListen op = subst FitListening e (f.records place r g).1 in listen_plain op.left its.left
held_plain h _ _ (Awaits place r l op g e a) f = let its : IsAcceptOn l.side l.maker op = subst (HoldsAccept l.side l.maker) a (subst FitListening e (f.records place r g).1) in accept_plain ⊤ op.left its.accept.left
held_plain h _ _ (UdpCreates place create q g) f = subst ArePlain (sym (f.udps place (UdpRecord.Creating create) g).1) (tt, tt)
held_plain h _ _ (UdpBindsOn place o op q g e) f = let its : UdpBindOn o.inner.side op = subst (FitUdpProgress o.inner.side) e (f.udps place (UdpRecord.Open o) g).0 in udp_plain op.left its.bind.left
held_plain h _ _ (UdpConnectsOn place o op q g e) f = let its : UdpConnectOn o.inner.side op = subst (FitConnecting o.inner.side) e (f.udps place (UdpRecord.Open o) g).1 in udp_connect_plain ⊤ op.left its.connect.left
held_plain h _ _ (UdpReconnectsOn place o op q g e) f = let its : UdpConnectOn o.inner.side op = subst (FitConnecting o.inner.side) e (f.udps place (UdpRecord.Open o) g).1 in udp_connect_plain ⊤ op.left its.connect.left
held_plain h _ _ (SendsOn place o out op left g e s settles) f = let its : SendOn o.inner.side op = sends_on o out op e s (f.udps place (UdpRecord.Open o) g) in send_plain ⊤ op.left its.send.left
held_plain h _ _ (ReceivesOn place o inc op g e r) f =
    let its : ReceiveOn o.inner.side op = receives_on o inc op e r (f.udps place (UdpRecord.Open o) g) in receive_plain ⊤ (wanted_in inc.remote op.left) (wanted_left inc.remote op.left its.receive.left)

-- nor does a datagram of 0.3, nor its receive
starts_left : (family : SocketAddressFamily) (bytes : List ℕ) (to : Result Destination ErrorCode) (bound : Bool) → ArePlain (send_left family bytes (send_first to bound))
starts_left family bytes (Err c) bound = send_plain ⊤ _ (send.ToRefuse c)
starts_left family bytes (Ok to) true = send_plain ⊤ _ (send.Unchecked to.kept to.addr bytes)
starts_left family bytes (Ok to) false = send_plain ⊤ _ (send.Unbound family to.kept to.addr bytes)

receives_left : (own : OpId) (o : OpenUdp) (bound : Bool) → ArePlain (wanting None (receive_start own o.inner bound)).left
receives_left own o true = receive_plain ⊤ _ (receive.Unreceived None)
receives_left own o false = receive_plain ⊤ _ (receive.ToRefuse ErrorCode.InvalidState)

starts_plain : {line : ℕ} {origin : Step} {t : HandleTable} {place : ℕ} {o : OpenUdp} {call : Operation → BesideCall} {op by : Operation} → StartsDatagram line origin t place o call op by → ArePlain by.left
starts_plain {o = o} (StartsSend c s d bound is at known) = starts_left o.inner.family d.bytes (send_to o.inner d.bytes d.remote_address) bound
starts_plain {line} {o = o} (StartsReceive c s bound is at known) = receives_left (own_of line) o bound

repolled_plain : (records : List Record) (n place : ℕ) (o : OpenUdp) (was : BesideCall) (call : Operation → BesideCall) (op by : Operation) → PollsDatagram place o was call op by → FitBeside records n was → ArePlain by.left
repolled_plain records n place o _ _ _ _ (PollsSend op) fit = send_plain ⊤ op.left fit.1.left
repolled_plain records n place o _ _ _ _ (PollsReceive op) fit = receive_plain ⊤ (wanted_in None op.left) (wanted_left None op.left fit.1.left)

polls_plain : (h : Here) (n : ℕ) (b : Beside) {place : ℕ} {o : OpenUdp} {call : Operation → BesideCall} {op by : Operation} → beside_of h.machine.store n ≡ Some b → PollsDatagram place o b.call call op by → Datagrams h → ArePlain by.left
polls_plain h n b {place} {o} {call} {op} {by} at polls d = repolled_plain h.machine.store.records b.line place o b.call call op by polls (d.besides b (found_has h.machine.store.beside n b at).0)

-- what becomes of a listen in progress
listen_follows : (r now : TcpRecord) (op : Operation) → r.listening ≡ Begins op → now.side ≡ r.side → Follows r now
listen_follows r now op e s = record { side = s; lives = λ x v. (sym s ∙ v.0, inr (subst IsBegun (sym e) tt)) }

-- a connect keeps its network socket, or ends it
ended_side : (op : Operation) (end : End × List Item) (x : OpId) → side_in (connect_ended op.who end).1 ≡ Some x → Some op.who.side ≡ Some x
ended_side op (Refused c given, items) x e = absurd (cc)
ended_side op (_, items) x e = e

-- what the job that a writer continues with still owes
owes_still : (w : WriteState) (job : Job) (now : Job → WriteState) → GoesOn w job now → (taken bytes : List ℕ) → Agrees taken bytes w → taken ++ bytes_left job.write.left ≡ bytes
owes_still _ _ _ (InWriting job e) taken bytes a = subst (JobAgrees taken bytes job.write.left) e a
owes_still _ _ _ (InClosing job e) taken bytes a = subst (JobAgrees taken bytes job.write.left) e a

agrees_now : (w : WriteState) (job : Job) (now : Job → WriteState) → GoesOn w job now → (taken bytes : List ℕ) (ended : End × List Item) → JobAgrees taken bytes ended.1 ended.0 → Agrees taken bytes (now (job_after job.write.who ended))
agrees_now _ _ _ (InWriting job e) taken bytes ended k = k
agrees_now _ _ _ (InClosing job e) taken bytes ended k = k

-- a half to write by, or a write, is of a half that was taken
not_free : (t : TcpState) (s : Streams) → IsUsed s.writer → IsFree t → HasStreams t s → ⊥
not_free t s u free o = absurd (let of : IsFree (state.Connected o.connection) = subst IsFree o.is free in let z : true ≡ false = sym (o.taken u) ∙ of in cc)

still_free : (c now : Connection) → (c.send_taken ≡ true → now.send_taken ≡ true) → now.send_taken ≡ false → c.send_taken ≡ false
still_free c now keeps free = by_taken c.send_taken refl
  where
    by_taken : (b : Bool) → c.send_taken ≡ b → c.send_taken ≡ false
    by_taken true e = absurd (let z : true ≡ false = sym (keeps e) ∙ free in cc)
    by_taken false e = e

free_sideless : (t : TcpState) → side_in t ≡ None → IsFree t
free_sideless (state.Connected c) e = absurd (cc)
free_sideless _ e = tt

-- what was there is, where a half is taken as an end of 0.3
ends_agree : (taken held : List ℕ) (o : Option Streams) → Agree taken held o → Agrees taken held (ends_of o).writer
ends_agree taken held None a = tt
ends_agree taken held (Some s) a = a

-- a step that isn't a write of 0.3: what that is let write is known once it is answered
abbrev pub NotOffer : Step → Type 0
NotOffer (Step.Call ctx (GuestCall.P3Tcp (P3TcpCall.Write end bytes))) = ⊥
NotOffer _ = ⊤

module _ (side : OpId) (given : List ℕ) where
  -- so much was let write before, by what the line's own operation is let write still
  abbrev pub Owes : Own → List ℕ → Type 0
  Owes (ToWrite at bytes) held = let more : List ℕ = if is_same at side then bytes else [] in given ≡ held ++ more
  Owes _ held = held ≡ given

  -- What was let write, and that the records are so.
  pub record Permitted (over : Type 0) (es : List Entry) (records : List Record) (own : Own) : Type 0 where
    pub held : List ℕ
    pub stands : Agreeing side over (taken_in side es) held records
    pub owes : Owes own held

  abbrev pub KeptBy : Type 0 → List Entry → Here → Type 0
  KeptBy over es h = Permitted over es h.machine.store.records h.own

  front_on : (taken held more : List ℕ) → IsFrontOf taken held → given ≡ held ++ more → IsFrontOf taken given
  front_on taken held more f e = (f.0 ++ more, sym (append_assoc taken f.0 more) ∙ (ap (λ (t : List ℕ). t ++ more) f.1 ∙ sym e))

  front_by : (taken held : List ℕ) (o : Own) → Owes o held → IsFrontOf taken held → IsFrontOf taken given
  front_by taken held Used e f = subst (IsFrontOf taken) e f
  front_by taken held Unused e f = subst (IsFrontOf taken) e f
  front_by taken held (Names part) e f = subst (IsFrontOf taken) e f
  front_by taken held (ToConnect place) e f = subst (IsFrontOf taken) e f
  front_by taken held (ToWrite at bytes) e f = front_on taken held _ f e

  module _ (over : Type 0) where
    front : (es : List Entry) (h : Here) → KeptBy over es h → IsFrontOf (taken_in side es) given
    front es h k = front_by (taken_in side es) k.held h.own k.owes k.stands.front

    -- so much was taken by now
    took : (es fs : List Entry) (h : Here) → taken_in side fs ≡ taken_in side es → KeptBy over es h → KeptBy over fs h
    took es fs h e k = record { held = k.held; stands = subst (λ (t : List ℕ). Agreeing side over t k.held h.machine.store.records) (sym e) k.stands; owes = k.owes }

    asked : (es : List Entry) (h : Here) (op : OpId) (c : Call) (told : Told) → NoWrite c → KeptBy over es h → KeptBy over (es ++ entry op c told ∷ []) h
    asked es h op c told n k = took es (es ++ entry op c told ∷ []) h (taken_push side es (entry op c told) (none_taken side c told n)) k

    -- a record changes, and agrees where its network socket is alive
    put_kept : (es : List Entry) (h : Here) (place : ℕ) (r now : TcpRecord) → Found h place r → Follows r now → (IsFree now.inner.state → IsFree r.inner.state) → ((held : List ℕ) → Lives side now → AgreeIn (taken_in side es) held r → Agree (taken_in side es) held now.streams) → KeptBy over es h → KeptBy over es (put h place now)
    put_kept es h place r now g f free a k = record {
      held = k.held;
      stands = agrees_put side h.machine.store.records place r now g f.side (taken_in side es) k.held (λ v. (let was = k.stands.lives place r g (f.lives side v) in (a k.held v was, λ o. was.1 (free o)))) k.stands;
      owes = k.owes;
    }

    -- and its streams are as they were
    put_same : (es : List Entry) (h : Here) (place : ℕ) (r now : TcpRecord) → Found h place r → Follows r now → now.streams ≡ r.streams → (IsFree now.inner.state → IsFree r.inner.state) → KeptBy over es h → KeptBy over es (put h place now)
    put_same es h place r now g f s free k = put_kept es h place r now g f free (λ held v a. subst (Agree (taken_in side es) held) (sym s) a.0) k

    -- it has no network socket any more
    put_gone : (es : List Entry) (h : Here) (place : ℕ) (r now : TcpRecord) → Found h place r → now.side ≡ r.side → side_of now.inner ≡ None → (IsBegun now.listening → ⊥) → KeptBy over es h → KeptBy over es (put h place now)
    put_gone es h place r now g s d n k = record { held = k.held; stands = agrees_put side h.machine.store.records place r now g s (taken_in side es) k.held (λ v. absurd (gone_lacks now d n side v)) k.stands; owes = k.owes }

    -- a UDP socket changes, or there is one more
    put_udp_kept : (es : List Entry) (h : Here) (place : ℕ) (u now : UdpRecord) → FoundUdp h place u → KeptBy over es h → KeptBy over es (put_udp h place now)
    put_udp_kept es h place u now g k = record {
      held = k.held;
      stands = agrees_beside side (taken_in side es) k.held h.machine.store.records (udp2_put h.machine.store.records place now) (put_was udp_sort tcp_sort (λ t. refl) h.machine.store.records place now) (λ i r e. put_still udp_sort tcp_sort (λ t. refl) h.machine.store.records place u now i r g e) k.stands;
      owes = k.owes;
    }

    push_udp_kept : (es : List Entry) (records : List Record) (now : UdpRecord) (own : Own) → Permitted over es records own → Permitted over es (udp2_pushed records now) own
    push_udp_kept es records now own k = record { held = k.held; stands = agrees_beside side (taken_in side es) k.held records (udp2_pushed records now) (push_was udp_sort tcp_sort (λ t. refl) records now) (push_still udp_sort tcp_sort records now) k.stands; owes = k.owes }

    -- a lookup was let write nothing
    looked : (es : List Entry) (h : Here) (records : List Record) → SocketsStay h.machine.store.records records → KeptBy over es h → KeptBy over es (with_records h records)
    looked es h records s k = record { held = k.held; stands = agrees_beside side (taken_in side es) k.held h.machine.store.records records (λ i r e. sym (s.tcp i) ∙ e) (λ i r e. s.tcp i ∙ e) k.stands; owes = k.owes }

    -- what the line has begun changes, and it is let write as much as before
    owns : (es : List Entry) (records : List Record) (own was now : Own) → own ≡ was → ((held : List ℕ) → Owes was held → Owes now held) → Permitted over es records own → Permitted over es records now
    owns es records own was now e f k = record { held = k.held; stands = k.stands; owes = f k.held (subst (λ (o : Own). Owes o k.held) e k.owes) }

    spends : (es : List Entry) (records : List Record) (own : Own) → own ≡ Unused → Permitted over es records own → Permitted over es records Used
    spends es records own u k = owns es records own Unused Used u (λ held o. o) k

    module _ (line : ℕ) where
      -- a write begins: its network socket is the connection's
      module _ (es : List Entry) (h : Here) (place number : ℕ) (r : TcpRecord) (s : Streams) (half : TcpSendStream) (permit : ℕ) (bytes : List ℕ) (g : Found h place r) (e : r.streams ≡ Some s) (w : s.writer ≡ writing.Ready half permit) (o_shape : HasStreams r.inner.state s) (n : Named line h) (k : KeptBy over es h) where
        abbrev begun : TcpRecord
        begun = with_writer r s (writing.Writing (new_job (own_of number) half.side bytes))

        its_side : side_of r.inner ≡ Some half.side
        its_side = let same : half.side ≡ o_shape.connection.side = subst (WriterIs o_shape.connection.side) w o_shape.writer in ap side_in o_shape.is ∙ ap (λ (x : OpId). Some x) (sym same)

        its_made : r.side ≡ Some half.side
        its_made = n.named half.side place r g its_side

        all_taken : half.side ≡ side → taken_in side es ≡ k.held
        all_taken ours = let o = ap (λ (x : OpId). Some x) ours in subst (Agrees (taken_in side es) k.held) w (subst (Agree (taken_in side es) k.held) e (k.stands.lives place r g (its_made ∙ o, inl (its_side ∙ o))).0)

        begins : (b : Bool) → is_same half.side side ≡ b → (let more : List ℕ = if b then bytes else [] in given ≡ k.held ++ more) → Agreeing side over (taken_in side es) given (tcp2_put h.machine.store.records place begun)
        begins true b o =
            let is = same_side half.side side b in let m : r.side ≡ Some side = its_made ∙ ap (λ (x : OpId). Some x) is in
            agrees_moved side h.machine.store.records place r begun g refl (taken_in side es) k.held (taken_in side es) given m (λ i q e v. n.one side i place q r e g (inl v) (inl m)) (front_on (taken_in side es) k.held bytes k.stands.front o)
            (ap (λ (t : List ℕ). t ++ bytes) (all_taken is) ∙ sym o, λ free. absurd (not_free r.inner.state s (subst IsUsed (sym w) tt) free o_shape)) k.stands
        begins false b o =
            subst (λ (q : List ℕ). Agreeing side over (taken_in side es) q (tcp2_put h.machine.store.records place begun)) (sym (append-nil k.held) ∙ sym o)
            (agrees_put side h.machine.store.records place r begun g refl (taken_in side es) k.held (λ v. absurd (not_same half.side side (some_same half.side side (sym its_made ∙ v.0)) b)) k.stands)

      module _ (contexts : List WasiSocketsCtx) (origin : Step) where
        moves : (es : List Entry) (h now : Here) → Move line origin h now → (over → IsSpent side line now) → (IsSpent side line now → over) → Grounds contexts line origin h → KeptBy over es h → KeptBy over es now
        moves es _ _ (Spends h e) says makes b k = spends es _ h.own e k
        moves es _ _ (EndsConnect h place e ended) says makes b k = owns es _ h.own (ToConnect place) Used e (λ held o. o) k
        moves es _ _ (RecallsConnect h ids place e own) says makes b k = owns es _ h.own Unused (ToConnect place) own (λ held o. o) k
        moves es _ _ (RecallsStreams h ids place handle e own) says makes b k = owns es _ h.own Unused (ToConnect place) own (λ held o. o) k
        moves es _ _ (Counts h e) says makes b k = owns es _ h.own Unused (Names 1) e (λ held o. o) k
        moves es _ _ (SpendsNames h part e) says makes b k = owns es _ h.own (Names part) Used e (λ held o. o) k
        moves es _ _ (Changes h place r now g p) says makes b k = put_same es h place r now g (follows_plain r now p) p.streams (λ o. subst IsFree p.does o) k
        moves es _ _ (ClosesReader h place r s g e) says makes b k = put_kept es h place r (with_reader r s reading.Closed) g (record { side = refl; lives = λ x v. v }) (λ o. o) (λ held v a. subst (Agree (taken_in side es) held) e a.0) k
        moves es _ _ (Writes h place r s w g e m) says makes b k = put_kept es h place r (with_writer r s w) g (record { side = refl; lives = λ x v. v }) (λ o. o) (λ held v a. writer_agrees (taken_in side es) held s.writer w m (subst (Agree (taken_in side es) held) e a.0)) k
        moves es _ _ (IsGone h place r q g e) says makes b k = put_gone es h place r _ g refl e (λ b. b) k
        moves es _ _ (Reconnects h place r c now g e s t u) says makes b k = put_same es h place r _ g (follows_state r (with_inner r (with_state r.inner (state.Connected now))) refl refl (λ x p. ap side_in e ∙ (ap (λ (y : OpId). Some y) (sym s) ∙ p))) refl (λ o. subst IsFree (sym e) (still_free c now t o)) k
        moves es _ _ (Opens h place r c d g e f) says makes b k =
            put_kept es h place r (opened_by r c) g (follows_state r (opened_by r c) refl refl (λ x p. ap side_in e ∙ p))
            (λ o. absurd (let z : true ≡ false = o in cc)) (λ held v a. a.1 (subst IsFree (sym e) f)) k
        moves es _ _ (TakesEnd h handle place r _ t g (OfReceive c e free)) says makes b k =
            put_kept es h place r _ g (follows_state r _ refl refl (λ x p. ap side_in e ∙ p)) (λ o. subst IsFree (sym e) o) (λ held v a. ends_agree (taken_in side es) held r.streams a.0) k
        moves es _ _ (TakesEnd h handle place r _ t g (OfSend c e free)) says makes b k =
            put_kept es h place r _ g (follows_state r _ refl refl (λ x p. ap side_in e ∙ p)) (λ o. absurd (let z : true ≡ false = o in cc)) (λ held v a. a.1 (subst IsFree (sym e) free)) k
        moves es _ _ (AddsSlot h s) says makes b k = looked es h _ (sockets_stay (slot_push_same {new = λ op. ⊥} h.machine.store.records s)) k
        moves es _ _ (BeginsConnect h place r x a bound at g d to known idle o) says makes b k = spends es _ h.own o (put_same es h place r _ g (follows_state r _ refl refl (λ x p. ap side_in d ∙ p)) refl (λ o. subst IsFree (sym d) tt) k)
        moves es _ _ (BeginsBind h place r x a at g d to o) says makes b k = spends es _ h.own o (put_same es h place r _ g (record { side = refl; lives = λ x v. v }) refl (λ o. o) k)
        moves es _ _ (BeginsWrite h place number r s half permit bytes at g e w within o) says makes b k =
            record { held = given; stands = begins es h place number r s half permit bytes g e w (subst (StreamsShape r.inner.state) e (b.1 place r g).0) b.0.1 k (is_same half.side side) refl (subst (λ (x : Own). Owes x k.held) o k.owes); owes = refl }
        moves es _ _ (BeginsListen h place r x bound p g d known free none to idle o) says makes b k = spends es _ h.own o (put_same es h place r _ g (follows_begun line h place r x bound g d b.0.1) refl (λ o. subst IsFree (sym d) tt) k)
        moves es _ _ (BeginsAccept h place part r l p g e a o) says makes b k = owns es _ h.own (Names part) (Names (part + 1)) o (λ held q. q) (put_same es h place r _ g (follows_quiet r (accepting_now r l (new_accept (part_of line part) l)) refl refl (λ b. b)) refl (λ o. o) k)
        moves es _ _ (Unlistens h place r op q g e c o) says makes b k = put_same es h place r _ g (follows_quiet r _ refl refl (λ b. b)) refl (λ o. o) k
        moves es _ _ (Forgets h place r l c g e a) says makes b k = put_same es h place r _ g (follows_quiet r (accepting_now r l accepting.Idle) refl refl (λ b. b)) refl (λ o. o) k
        moves es _ _ (Joins h c handle place r l new peer is of u g e a) says makes b k =
            let idle = accepting_now r l accepting.Idle in
            let i = put_same es h place r idle g (follows_quiet r idle refl refl (λ b. b)) refl (λ o. o) k in
            record {
              held = i.held;
              stands = agrees_push side (taken_in side es) i.held (tcp2_put h.machine.store.records place idle) (joined l new peer) (λ q j x d v. taken_fresh contexts line origin h place r idle new g (ap accept_name e ∙ ap name_in a) refl refl b.0.1 j x d (inl (v ∙ sym q))) (λ q o. (says o).none (length (tcp2_put h.machine.store.records place idle)) (joined l new peer) (push_finds tcp_sort (tcp2_put h.machine.store.records place idle) (joined l new peer)) (inl q)) (λ t. (t.0 ∙ sym t.1, λ o. t.0 ∙ sym t.1)) i.stands;
              owes = i.owes;
            }
        moves es _ _ (JoinsPlain h c listener remaining place r l new peer is of u g e a) says makes b k =
            let idle = accepting_now r l accepting.Idle in
            let i = put_same es h place r idle g (follows_quiet r idle refl refl (λ b. b)) refl (λ o. o) k in
            record {
              held = i.held;
              stands = agrees_push side (taken_in side es) i.held (tcp2_put h.machine.store.records place idle) (joined_plain l new peer) (λ q j x d v. taken_fresh contexts line origin h place r idle new g (ap accept_name e ∙ ap name_in a) refl refl b.0.1 j x d (inl (v ∙ sym q))) (λ q o. (says o).none (length (tcp2_put h.machine.store.records place idle)) (joined_plain l new peer) (push_finds tcp_sort (tcp2_put h.machine.store.records place idle) (joined_plain l new peer)) (inl q)) (λ t. (t, λ o. t.0 ∙ sym t.1)) i.stands;
              owes = i.owes;
            }
        -- the socket of a fault has no network socket
        moves es _ _ (JoinsFault h place r l c u g e a) says makes b k =
            let idle = accepting_now r l accepting.Idle in
            let i = put_same es h place r idle g (follows_quiet r idle refl refl (λ b. b)) refl (λ o. o) k in
            record {
              held = i.held;
              stands = agrees_push side (taken_in side es) i.held (tcp2_put h.machine.store.records place idle) (faulted l c) (λ q j x d v. no_some side q) (λ q o. no_some side q) (λ t. (t, λ o. t.0 ∙ sym t.1)) i.stands;
              owes = i.owes;
            }
        moves es _ _ (UdpChanges h place o now g p keeps) says makes b k = put_udp_kept es h place (UdpRecord.Open o) (UdpRecord.Open now) g k
        moves es _ _ (BeginsUdpBind h place o a at g to own) says makes b k = spends es _ h.own own (put_udp_kept es h place (UdpRecord.Open o) (UdpRecord.Open _) g k)
        moves es _ _ (BeginsUdpConnect h place o a bound at g to known none own) says makes b k = owns es _ h.own Unused (ToConnect place) own (λ held p. p) (put_udp_kept es h place (UdpRecord.Open o) (UdpRecord.Open _) g k)
        moves es _ _ (BeginsSend h place part o out d bound at g e is known own) says makes b k = owns es _ h.own (Names part) (Names (part + 1)) own (λ held p. p) (put_udp_kept es h place (UdpRecord.Open o) (UdpRecord.Open _) g k)
        moves es _ _ (BeginsReceive h place part o inc bound at g e is own) says makes b k = owns es _ h.own (Names part) (Names (part + 1)) own (λ held p. p) (put_udp_kept es h place (UdpRecord.Open o) (UdpRecord.Open _) g k)
        moves es _ _ (CancelsBind h place r op q g e) says makes b k = put_same es h place r _ g (record { side = refl; lives = λ x v. v }) refl (λ o. o) k
        moves es _ _ (CancelsUdpBind h place o op q g e) says makes b k = put_udp_kept es h place (UdpRecord.Open o) (UdpRecord.Open _) g k
        moves es _ _ (CancelsUdpConnect h place o q g) says makes b k = put_udp_kept es h place (UdpRecord.Open o) (UdpRecord.Open _) g k
        moves es _ _ (DropsUdp h place o idle made g) says makes b k = put_udp_kept es h place (UdpRecord.Open o) (UdpRecord.Open _) g k
        moves es _ _ (Finds h records s) says makes b k = looked es h records (sockets_stay s) k
        moves es _ _ (GivesBack h place idle left) says makes b k =
            record { held = k.held; stands = agrees_fewer side (taken_in side es) k.held h.machine.store.records place (λ r g its. makes (spent_fewer side line h place r b.0.1 g its)) k.stands; owes = k.owes }
        -- the others leave all that is looked at
        moves es _ _ _ says makes b k = k

        -- what writes nothing leaves it so
        quiet_kept : {A : Type 0} (Q : A → Type 0) (es : List Entry) (h : Here) (asks : Asks A) → KeptBy over es h → Quiet Q es asks → Allows (Fronts side given) (λ fs a. KeptBy over fs h × Q a) es asks
        quiet_kept Q es h asks k q = allows_weaker (Fronts side given) (λ fs a. (taken_in side fs ≡ taken_in side es) × Q a) (λ fs a. KeptBy over fs h × Q a) (λ fs a x. (took es fs h x.0 k, x.1)) es asks (quiet_keep side given Q (taken_in side es) es asks (front es h k) refl q)

        -- a datagram of 0.3 writes nothing
        datagram_polled : (es : List Entry) (h : Here) (op : Operation) → ArePlain op.left → KeptBy over es h → Allows (Fronts side given) (λ fs ended. KeptBy over fs h) es (poll_asks op)
        datagram_polled es h op plain k =
            allows_weaker (Fronts side given) (λ fs ended. KeptBy over fs h × ArePlain ended.1) (λ fs ended. KeptBy over fs h) (λ fs ended y. y.0) es (poll_asks op) (quiet_kept (λ ended. ArePlain ended.1) es h (poll_asks op) k (plain_poll op es plain))

        -- what becomes of what is polled
        ended_kept : (es : List Entry) (h : Here) (op : Operation) (after : End × List Item → Here) (ended : End × List Item) → Held h op after → Named line h → KeptBy over es h → KeptBy over es (after ended)
        ended_kept es h _ _ ended (BindsOn place r op q g e) n k = put_same es h place r _ g (record { side = refl; lives = λ x v. v }) refl (λ o. o) k
        ended_kept es h _ _ ended (Connects place r op g e) n k = put_same es h place r _ g (follows_state r (with_inner r (with_state r.inner (connect_ended op.who ended).1)) refl refl (λ x p. ap side_in e ∙ ended_side op ended x p)) refl (λ o. subst IsFree (sym e) tt) k
        ended_kept es h _ _ (Waits, items) (Listens place r op q g e c) n k = put_same es h place r _ g (listen_follows r _ op e refl) refl (λ o. free_sideless r.inner.state c) k
        ended_kept es h _ _ (Done given, items) (Listens place r op q g e c) n k = put_same es h place r _ g (listen_follows r _ op e refl) refl (λ o. free_sideless r.inner.state c) k
        ended_kept es h _ _ (Refused c given, items) (Listens place r op q g e quiet) n k = put_same es h place r _ g (listen_follows r _ op e refl) refl (λ o. free_sideless r.inner.state quiet) k
        ended_kept es h _ _ ended (Awaits place r l op g e a) n k = put_same es h place r _ g (follows_quiet r (accepting_now r l (accept_ended op.who ended)) refl refl (λ b. b)) refl (λ o. o) k
        ended_kept es h _ _ ended (UdpCreates place create q g) n k = put_udp_kept es h place (UdpRecord.Creating create) (udp_create_left create ended) g k
        ended_kept es h _ _ ended (UdpBindsOn place o op q g e) n k = put_udp_kept es h place (UdpRecord.Open o) (UdpRecord.Open _) g k
        ended_kept es h _ _ ended (UdpConnectsOn place o op q g e) n k = put_udp_kept es h place (UdpRecord.Open o) (UdpRecord.Open _) g k
        ended_kept es h _ _ ended (UdpReconnectsOn place o op q g e) n k = put_udp_kept es h place (UdpRecord.Open o) (UdpRecord.Open _) g k
        ended_kept es h _ _ ended (SendsOn place o out op left g e s settles) n k = put_udp_kept es h place (UdpRecord.Open o) (UdpRecord.Open _) g k
        ended_kept es h _ _ ended (ReceivesOn place o inc op g e r) n k = put_udp_kept es h place (UdpRecord.Open o) (UdpRecord.Open _) g k

        -- a write is in progress
        turns : (es : List Entry) (h : Here) (place : ℕ) (r : TcpRecord) (s : Streams) (w : WriteState) (job : Job) (now : Job → WriteState) → Found h place r → r.streams ≡ Some s → HasStreams r.inner.state s → s.writer ≡ w → GoesOn w job now → Named line h → KeptBy over es h
            → Allows (Fronts side given) (λ fs ended. KeptBy over fs (put h place (with_writer r s (now (job_after job.write.who ended))))) es (poll_asks job.write)
        turns es h place r s w job now g e o d_writer on n k =
            let j = (job_of w job now on (subst (WriterIs o.connection.side) d_writer o.writer)).0 in
            let held_there : side_of r.inner ≡ Some job.write.who.side = ap side_in o.is ∙ ap (λ (x : OpId). Some x) (sym j.side) in
            let its = n.named job.write.who.side place r g held_there in
            let begun : Accounts side k.held job.write.who.side (taken_in side es) (λ all. all ++ bytes_left job.write.left ≡ k.held) (taken_in side es) = (record {
              front = k.stands.front;
              ours = λ x. owes_still w job now on (taken_in side es) k.held (subst (Agrees (taken_in side es) k.held) d_writer (subst (Agree (taken_in side es) k.held) e (k.stands.lives place r g (its ∙ ap (λ (y : OpId). Some y) x, inl (held_there ∙ ap (λ (y : OpId). Some y) x))).0));
              theirs = λ x. refl;
            }) in
            allows_weaker (Fronts side given) (λ fs ended. ⊤ × After side k.held (taken_in side es) job.write.who fs ended) (λ fs ended. KeptBy over fs (put h place (with_writer r s (now (job_after job.write.who ended)))))
            (λ fs ended x. record { held = k.held; stands = turned fs ended (is_same job.write.who.side side) refl its x.1; owes = k.owes }) es (poll_asks job.write)
            (allows_keep (Fronts side k.held) (Fronts side given) (λ fs. ⊤) (After side k.held (taken_in side es) job.write.who) (λ fs op c t f x m. tt) (λ fs op c m. front_by (taken_in side fs) k.held h.own k.owes m) es (poll_asks job.write) tt
            (polls_by (write_law side k.held (taken_in side es) job.write.who) job.write.left es (j.left, begun)))
          where
            turned : (fs : List Entry) (ended : End × List Item) (ours : Bool) → is_same job.write.who.side side ≡ ours → r.side ≡ Some job.write.who.side → After side k.held (taken_in side es) job.write.who fs ended → Agreeing side over (taken_in side fs) k.held (tcp2_put h.machine.store.records place (with_writer r s (now (job_after job.write.who ended))))
            turned fs ended true b its x =
                let is = same_side job.write.who.side side b in let m : r.side ≡ Some side = its ∙ ap (λ (y : OpId). Some y) is in
                agrees_moved side h.machine.store.records place r _ g refl (taken_in side es) k.held (taken_in side fs) k.held m (λ j q d v. n.one side j place q r d g (inl v) (inl m)) x.front (agrees_now w job now on (taken_in side fs) k.held ended (x.ours is), λ free. absurd (not_free r.inner.state s (subst IsUsed (sym d_writer) (goes_used w job now on)) free o)) k.stands
            turned fs ended false b its x =
                subst (λ (t : List ℕ). Agreeing side over t k.held (tcp2_put h.machine.store.records place (with_writer r s (now (job_after job.write.who ended))))) (sym (x.theirs b))
                (agrees_put side h.machine.store.records place r _ g refl (taken_in side es) k.held (λ v. absurd (not_same job.write.who.side side (some_same job.write.who.side side (sym its ∙ v.0)) b)) k.stands)

        -- a socket that is created is of the line's own name
        created : (es : List Entry) (h : Here) (ctx : WasiSocketsCtx) (family : SocketAddressFamily) → (over → IsSpent side line (creating h (own_of line) ctx family)) → h.own ≡ Unused → Named line h → KeptBy over es h → KeptBy over (es ++ entry (own_of line) (call.TcpCreate ctx.name family) told.Done ∷ []) (creating h (own_of line) ctx family)
        created es h ctx family is u n i =
            let k = asked es h (own_of line) (call.TcpCreate ctx.name family) told.Done tt i in
            spends _ _ h.own u (record {
              held = k.held;
              stands = agrees_push side _ k.held h.machine.store.records (new_record (new_socket (own_of line) ctx.name family)) (λ q p x d v. fresh contexts line origin h u n side (ap (λ (x : OpId). x.step) (sym (some_same (own_of line) side q))) p x d (inl v)) (λ q o. (let new = new_record (new_socket (own_of line) ctx.name family) in (is o).none (length h.machine.store.records) new (push_finds tcp_sort h.machine.store.records new) (inl q))) (λ t. (t, λ o. t.0 ∙ sym t.1)) k.stands;
              owes = k.owes;
            })

        closed_kept : (es : List Entry) (h : Here) (place : ℕ) (r now : TcpRecord) (x : OpId) → Found h place r → Closing r now x → KeptBy over es h → KeptBy over es (put h place now)
        closed_kept es h place r _ x g (ClosesSocket _ e) k = put_gone es h place r (closed_record r) g refl refl (λ b. b) k
        closed_kept es h place r _ x g (ClosesListen op e) k = put_same es h place r (with_listening r Not) g (follows_quiet r (with_listening r Not) refl refl (λ b. b)) refl (λ o. o) k
        closed_kept es h place r _ x g (ClosesArrived l _ peer e a) k = put_same es h place r (with_listening r Not) g (follows_quiet r (with_listening r Not) refl refl (λ b. b)) refl (λ o. o) k

  -- where it is over says another fact
  over_so : (over now : Type 0) (es : List Entry) (records : List Record) (own : Own) → (over → now) → Permitted over es records own → Permitted now es records own
  over_so over now es records own f k = record { held = k.held; stands = agrees_over side (taken_in side es) k.held records f k.stands; owes = k.owes }

  module _ (line : ℕ) where
    abbrev pub Kept : List Entry → Here → Type 0
    Kept es h = KeptBy (IsSpent side line h) es h

    module _ (contexts : List WasiSocketsCtx) (origin : Step) where
      -- it is said of what comes first
      on : (es : List Entry) (h now : Here) → (IsSpent side line h → IsSpent side line now) → Kept es h → KeptBy (IsSpent side line now) es h
      on es h now f k = over_so (IsSpent side line h) (IsSpent side line now) es h.machine.store.records h.own f k

      same_spent : (h : Here) (place : ℕ) (r now : TcpRecord) → Found h place r → now.side ≡ r.side → now.listening ≡ r.listening → IsSpent side line h → IsSpent side line (put h place now)
      same_spent h place r now g s l i = spent_put side line h.own h.machine.store.records place r now g s (λ e. ap accept_name (sym l) ∙ e) i

      bare_spent : (h : Here) (place : ℕ) (r now : TcpRecord) → Found h place r → now.side ≡ r.side → accept_name now.listening ≡ None → IsSpent side line h → IsSpent side line (put h place now)
      bare_spent h place r now g s none i = spent_put side line h.own h.machine.store.records place r now g s (λ e. absurd (let never : None ≡ Some side = sym none ∙ e in cc)) i

      udp_spent : (h : Here) (place : ℕ) (now : UdpRecord) → IsSpent side line h → IsSpent side line (put_udp h place now)
      udp_spent h place now i = spent_by side line h.own _ _ (put_was udp_sort tcp_sort (λ t. refl) h.machine.store.records place now) i

      -- a new socket has the line's own name, which wasn't given
      made_spent : (h : Here) (ctx : WasiSocketsCtx) (family : SocketAddressFamily) → h.own ≡ Unused → IsSpent side line h → IsSpent side line (creating h (own_of line) ctx family)
      made_spent h ctx family u i =
          spent_own side line h.own Used _ (older_used line h.own)
          (spent_push side line h.own h.machine.store.records (new_record (new_socket (own_of line) ctx.name family)) (λ c. elim c [ inl q ↦ own_not_given line h.own side u (ap (λ (x : OpId). x.step) (sym (some_same (own_of line) side q))) i.older | inr q ↦ absurd (cc) ]) i)

      closing_spent : (h : Here) (place : ℕ) (r now : TcpRecord) (x : OpId) → Found h place r → Closing r now x → IsSpent side line h → IsSpent side line (put h place now)
      closing_spent h place r _ x g (ClosesSocket _ e) i = bare_spent h place r _ g refl refl i
      closing_spent h place r _ x g (ClosesListen op e) i = bare_spent h place r _ g refl refl i
      closing_spent h place r _ x g (ClosesArrived l _ peer e a) i = bare_spent h place r _ g refl refl i

      pub permits : NotOffer origin → Single contexts line origin (Fronts side given) Kept
      permits no_offer = record {
        offers = λ es h ctx handle place bytes r s half permit is g e w own b k. absurd (subst NotOffer is no_offer);
        moves = λ es h now m b k. moves (IsSpent side line now) line contexts origin es h now m (λ o. o) (λ o. o) b (on es h now (moves_spent side line contexts origin h now m) k);
        same = λ es h place r now g s k. put_same (IsSpent side line (put h place now)) es h place r now g (follows_same r now s) s.streams (λ o. subst IsFree s.does o) (on es h (put h place now) (same_spent h place r now g s.side s.listening) k);
        tables = λ es h t m k. k;
        stops = λ es h place r g k. put_same (IsSpent side line (put h place (with_listening r Not))) es h place r (with_listening r Not) g (follows_quiet r (with_listening r Not) refl refl (λ b. b)) refl (λ o. o) (on es h (put h place (with_listening r Not)) (bare_spent h place r (with_listening r Not) g refl refl) k);
        asks = λ es h op c calm at k. (front (IsSpent side line h) es h k, λ told. asked (IsSpent side line h) es h op c told (unwritten c calm) k);
        creates = λ es h ctx family u b k. (let now = creating h (own_of line) ctx family in created (IsSpent side line now) line contexts origin es h ctx family (λ o. o) u b.0.1 (on es h now (made_spent h ctx family u) k));
        closes = λ es h place r now op x g c b k. (front (IsSpent side line h) es h k, λ told. asked (IsSpent side line (put h place now)) es (put h place now) op (call.Close x) told tt (closed_kept (IsSpent side line (put h place now)) line contexts origin es h place r now x g c (on es h (put h place now) (closing_spent h place r now x g c) k)));
        udp_same = λ es h place o now g s e k. put_udp_kept (IsSpent side line (put_udp h place (UdpRecord.Open now))) es h place (UdpRecord.Open o) (UdpRecord.Open now) g (on es h (put_udp h place (UdpRecord.Open now)) (udp_spent h place (UdpRecord.Open now)) k);
        udp_creates = λ es h ctx family u b k.
            let new = UdpRecord.Creating (new_create (own_of line) ctx.name family) in
            let now = udp_begun h (Ok (new_create (own_of line) ctx.name family)) in
            let over = IsSpent side line now in
            let m = asked over es h (own_of line) (call.UdpCreate ctx.name family) told.Done tt (on es h now (λ i. spent_own side line h.own Used _ (older_used line h.own) (spent_by side line h.own _ _ (push_was udp_sort tcp_sort (λ t. refl) h.machine.store.records new) i)) k) in
            spends over _ _ h.own u (push_udp_kept over _ h.machine.store.records new h.own m);
        udp_closes = λ es h place u op g l b k.
            let now = put_udp h place (UdpRecord.Closed (udp_side u)) in
            (front (IsSpent side line h) es h k, λ told. asked (IsSpent side line now) es now op (call.Close (udp_side u)) told tt (put_udp_kept (IsSpent side line now) es h place u (UdpRecord.Closed (udp_side u)) g (on es h now (udp_spent h place (UdpRecord.Closed (udp_side u))) k)));
        lookups = λ es h records s k. looked (IsSpent side line (with_records h records)) es h records s (on es h (with_records h records) (λ i. spent_by side line h.own _ _ (λ n r e. sym (s.tcp n) ∙ e) i) k);
        stands = λ es h host told k. k;
        datagrams = λ es h place o call op polled at g starts own b k.
            let now = record h { own = Used } in
            let over = IsSpent side line now in
            datagram_polled over line contexts origin es now polled (starts_plain starts) (spends over _ _ h.own own (on es h now (λ i. spent_own side line h.own Used _ (older_used line h.own) i) k));
        repolls = λ es h n x place o call op polled is at g polls b k. datagram_polled (IsSpent side line h) line contexts origin es h polled (polls_plain h n x at polls b.0.3) k;
        polls = λ es h op after x b k. allows_weaker (Fronts side given) (λ fs ended. Kept fs h × (ArePlain ended.1 × GivesOwn op.who.id ended.0)) (λ fs ended. Kept fs (after ended))
            (λ fs ended y. ended_kept (IsSpent side line (after ended)) line contexts origin fs h op after ended x b.0.1 (on fs h (after ended) (polls_spent side line contexts origin h op after x ended y.1.1) y.0)) es (poll_asks op)
            (quiet_kept (IsSpent side line h) line contexts origin (λ ended. ArePlain ended.1 × GivesOwn op.who.id ended.0) es h (poll_asks op) k (own_poll op es (held_plain h op after x b.0.0)));
        turns = λ es h place r s job now g e at b k. allows_weaker (Fronts side given) (λ fs ended. KeptBy (IsSpent side line h) fs (put h place (with_writer r s (now (job_after job.write.who ended))))) (λ fs ended. Kept fs (put h place (with_writer r s (now (job_after job.write.who ended)))))
            (λ fs ended y. over_so (IsSpent side line h) _ fs _ _ (same_spent h place r (with_writer r s (now (job_after job.write.who ended))) g refl refl) y) es (poll_asks job.write)
            (turns (IsSpent side line h) line contexts origin es h place r s s.writer job now g e (subst (StreamsShape r.inner.state) e (b.1 place r g).0) refl at b.0.1 k);
      }

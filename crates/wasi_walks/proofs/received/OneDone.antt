-- What the line of a receive of 0.3 replies and leaves, and a line that polls one.
use Rattle.wasi_walks.proofs.Words.{Allows, BeganBy, Entry, Err, IsMaker, List, Machine, None, Ok, OpId, Operation, Option, Reply, Result, Some, Standing, GuestCall, Step, WasiSocketsCtx, allows_if, allows_keep, allows_then, ap, asks_while, inl, kind_at, machine_asks, own_of, refl, step_at, subst, sym, true, false, Bool, ℕ, ⊤, ◌==◌, ◌∙◌, ◌≡◌}
use Rattle.std.proofs.lemmas.Bool.{eqb-true}
use Rattle.std.specs.Prelude.{if◌then◌else◌}
use Rattle.wasi_addr.specs.declared.address.IpSocketAddress.{IpSocketAddress}
use Rattle.wasi_addr.specs.Code.{p3_of_code}
use Rattle.wasi_world.specs.declared.datagram.IncomingDatagram.{IncomingDatagram}
use Rattle.wasi_world.specs.declared.outcome.Answer.{Answer}
use Rattle.wasi_world.specs.declared.outcome.Answer.TheVariants.{Ready, Pending}
use Rattle.wasi_world.specs.Asks.{Give, bind}
use Rattle.wasi_records.specs.Records.{open_at, udp2_at}
use Rattle.record_common.specs.Stops.{Code, Stop, Trap}
use Rattle.udp_records.specs.declared.udp.OpenUdp.{OpenUdp}
use Rattle.udp_records.specs.declared.udp.UdpRecord.{UdpRecord}
use Rattle.host_store.specs.declared.beside.Beside.{Beside}
use Rattle.host_store.specs.declared.beside.BesideCall.{BesideCall}
use Rattle.host_store.specs.declared.beside.BesideCall.TheVariants.{Connect, Receive, Resolve, Send}
use Rattle.host_store.specs.BaseStops.{BaseStop, renamed}
use Rattle.host_store.specs.Beside.{beside_in, beside_of}
use Rattle.host_store.specs.Block.{Call, after_call, give as gives_all, goes_on, or_trap}
use Rattle.host_store.specs.Lines.{storing}
use Rattle.host_store.specs.Machine.{udp3_at, with_store}
use Rattle.host_store.specs.declared.kind.Interface.TheVariants.{P3}
use Rattle.wasi_host.specs.declared.pending.Outcome.{Outcome}
use Rattle.wasi_world.specs.declared.outcome.TrapKind.TheVariants.{NoSuchHandle}
use Rattle.udp_records.specs.Udp.{udp_side}
use Rattle.wasi_p3.specs.Stops.{P3Stop}
use Rattle.wasi_walks.proofs.licence.UdpFrames.{same_udp}
use Rattle.wasi_host.specs.Pending.{answered_on, datagram_outcome, go_on_beside, resume_beside, resume_call, resumed}
use Rattle.host_udp.specs.SocketDatagrams.{receive_of, rereceive_of}
use Rattle.host_store.specs.Standing.{call_of}
use Rattle.host_store.specs.Store.{Records}
use Rattle.wasi_machine.specs.Machine.{is_held_up, p3_answer_reply, resumed_reply, step_asks}
use Rattle.wasi_p3.specs.Udp as udp3
use Rattle.wasi_steps.specs.declared.reply.Field.{Field}
use Rattle.wasi_steps.specs.Reply.{received_values}
use Rattle.wasi_walks.specs.Licence.{IsSendOf, ReachesSide}
use Rattle.wasi_walks.proofs.fits.Datagrams.{FitBeside}
use Rattle.wasi_walks.proofs.fits.Polls.{Anything}
use Rattle.wasi_walks.proofs.licence.Besides.{beside_fine}
use Rattle.wasi_walks.proofs.licence.Frames.{names_on, stay}
use Rattle.wasi_walks.proofs.licence.Line.{names_udp}
use Rattle.wasi_walks.proofs.licence.State.{CallIsFine, Names, NamesUdp, StateIsFine}
use Rattle.wasi_walks.proofs.remotes.State.{Keeps, maker_of}
use Rattle.wasi_walks.proofs.walks.States.{udp3_record}
use Rattle.wasi_walks.proofs.walks.Udp.{open_is}
use Rattle.wasi_walks.proofs.received.OneReceive.{CallHolds, FoundHolds, Gives, IsOne, none_holds, receive_begins_so, receive_polls_so}
use Rattle.wasi_walks.proofs.received.Single.{InHand, IsAllowedOne}
use Rattle.wasi_steps.specs.declared.guest_call.P3UdpCall.{P3UdpCall}

-- a call beside others that is a receive has in hand what its operation was told last
abbrev pub CallHands : List Entry → BesideCall → Type 0
CallHands es (Receive place op) = InHand es op.who.id op.who.side op.left
CallHands es _ = ⊤

abbrev pub FoundHands : List Entry → Option Beside → Type 0
FoundHands es (Some b) = CallHands es b.call
FoundHands es None = ⊤

call_hands : (es : List Entry) (own side : OpId) (call : BesideCall) → CallHolds es own side call → CallHands es call
call_hands es own side (Receive place op) k = subst (λ (x : OpId). InHand es x op.who.side op.left) (sym k.0) (subst (λ (x : OpId). InHand es own x op.left) (sym k.1) k.2)
call_hands es own side (Connect place) k = tt
call_hands es own side (Resolve host) k = tt
call_hands es own side (Send place op) k = tt

found_hands : (es : List Entry) (own side : OpId) (found : Option Beside) → FoundHolds es own side found → FoundHands es found
found_hands es own side (Some b) k = call_hands es own side b.call k
found_hands es own side None k = tt

module _ (steps : List Step) (n : ℕ) where
  -- What is handed out for the line of this number, whose call doesn't stand any more.
  pub record HandsOver (es : List Entry) (fields : List Field) (left : Option Beside) : Type 0 where
    pub side : OpId
    pub reached : ReachesSide steps es (own_of n) side
    pub bytes : List ℕ
    pub peer : IpSocketAddress
    pub one : IsAllowedOne es (own_of n) side bytes peer
    pub values : fields ≡ received_values (record { bytes = bytes; remote_address = peer })
    pub over : left ≡ None

  abbrev pub Says : List Entry → Reply → Option Beside → Type 0
  Says es (Reply.Ok fields) left = HandsOver es fields left
  Says es _ left = ⊤

  -- what is said, and what is left of its call; the exclusive call is as it was
  pub record OneDone (was : Option Standing) (es : List Entry) (done : Reply × Machine) : Type 0 where
    pub says : Says es done.0 (beside_in done.1.store.beside n)
    pub hands : FoundHands es (beside_in done.1.store.beside n)
    pub stands : done.1.store.standing ≡ was

-- the exclusive call is that of another line
pub call_is_other : (n : ℕ) (o : Option Standing) → ((s : Standing) → o ≡ Some s → s.ids.line ≡ n → ⊥) → call_of o n ≡ None
call_is_other n None other = refl
call_is_other n (Some s) other = by_line (s.ids.line == n) refl
  where
    by_line : (same : Bool) → (s.ids.line == n) ≡ same → (if same then Some s else None) ≡ None
    by_line true q = absurd (other s refl (eqb-true s.ids.line n q))
    by_line false q = refl

-- the step of a line is one
pub step_of : {steps : List Step} {n : ℕ} {P : Step → Type 0} {s : Step} → BeganBy steps (own_of n) P → step_at steps n ≡ Some s → P s
step_of {P = P} {s = s} k e = let its : k.origin ≡ s = (let p : Some k.origin ≡ Some s = sym k.at ∙ e in cc) in subst P its k.holds

module _ (contexts : List WasiSocketsCtx) (steps : List Step) (m : Machine) (es : List Entry) (fine : StateIsFine contexts steps es m) (keeps : Keeps es m.store.records) where
  -- == it begins
  module _ (ctx socket line : ℕ) (is_line : step_at steps line ≡ Some (Step.Call ctx (GuestCall.P3Udp (P3UdpCall.Receive socket)))) (free : beside_in m.store.beside line ≡ None) where
    abbrev Done : List Entry → Reply × Machine → Type 0
    Done fs done = OneDone steps line m.store.standing fs done

    nothing : (fs : List Entry) (reply : Reply) → Says steps line fs reply (beside_in m.store.beside line) → Done fs (reply, m)
    nothing fs reply says = record { says = says; hands = subst (FoundHands fs) (sym free) tt; stands = refl }

    -- of a socket on this network socket, of which the step names a handle
    module _ (side : OpId) (named : Names steps es (own_of line) side) where
      -- what the call on the records gives
      abbrev Told : List Entry → Result (Answer IncomingDatagram) BaseStop × Records → Type 0
      Told fs done = Names steps fs (own_of line) side × ((done.1.standing ≡ m.store.standing) × Gives fs (own_of line) side done.0 (beside_in done.1.beside line))

      abbrev Stored : List Entry → Result (Answer IncomingDatagram) P3Stop × Machine → Type 0
      Stored fs told = Done fs (p3_answer_reply received_values line told.0, told.1)

      replied : (fs : List Entry) (done : Result (Answer IncomingDatagram) BaseStop × Records) → Told fs done → Allows Anything Stored fs (after_call (renamed p3_of_code) storing gives_all m done)
      replied fs (Ok (Ready d), store) k = record {
        says = record { side = side; reached = inl k.0; bytes = d.bytes; peer = d.remote_address; one = k.1.1.0; values = refl; over = k.1.1.1 };
        hands = found_hands fs (own_of line) side _ (none_holds fs (own_of line) side _ k.1.1.1);
        stands = k.1.0;
      }
      replied fs (Ok Pending, store) k = record { says = tt; hands = found_hands fs (own_of line) side _ k.1.1; stands = k.1.0 }
      replied fs (Err (Code c), store) k = record { says = tt; hands = found_hands fs (own_of line) side _ k.1.1; stands = k.1.0 }
      replied fs (Err (Trap t), store) k = record { says = tt; hands = found_hands fs (own_of line) side _ k.1.1; stands = k.1.0 }

      begins : (place : ℕ) → ((o : OpenUdp) → open_at m.store.records place ≡ Some o → (o.inner.side ≡ side) × IsMaker es o.inner.maker o.inner.family o.inner.side)
          → Allows Anything Stored es (bind (receive_of line place m.store) (after_call (renamed p3_of_code) storing gives_all m))
      begins place k =
          allows_then Anything Told Stored es (receive_of line place m.store) _
          (allows_keep Anything Anything (λ fs. Names steps fs (own_of line) side) _ (λ fs op c t fits n q. names_on (stay steps) fs _ (own_of line) side n) (λ fs op c q. tt) es (receive_of line place m.store) named (receive_begins_so line place m.store free side es k))
          replied

    -- the socket of the handle
    of_place : (place : ℕ) → NamesUdp es m.store.records socket place → Allows Anything (λ fs told. Done fs (p3_answer_reply received_values line told.0, told.1)) es (bind (receive_of line place m.store) (after_call (renamed p3_of_code) storing gives_all m))
    of_place place n =
        let side : OpId = udp_side n.found in
        let named : Names steps es (own_of line) side = record { origin = _; at = is_line; holds = record { handle = socket; named = inl refl; is = record { op = n.marked.op; kind = n.marked.kind; parent = n.marked.parent; told = n.marked.told; mark = n.marked.mark } } } in
        begins side named place (λ o e.
        let at : udp2_at m.store.records place ≡ Some (UdpRecord.Open o) = open_is (udp2_at m.store.records place) o e in
        let same : UdpRecord.Open o ≡ n.found = same_udp (UdpRecord.Open o) n.found (sym at ∙ n.at) in
        (ap udp_side same, maker_of es o (keeps.udps place (UdpRecord.Open o) at)))

    of_handle : (found : Option ℕ) → udp3_at m socket ≡ found → Allows Anything (λ fs told. Done fs (p3_answer_reply received_values line told.0, told.1)) es (or_trap (λ place. goes_on (Call (renamed p3_of_code) (λ now. now.store) storing (receive_of line place)) gives_all) m found)
    of_handle None e = nothing es (Reply.Trap NoSuchHandle) tt
    of_handle (Some place) e = of_place place (names_udp es m.store.records socket place (kind_at m.table socket) (udp3_record (kind_at m.table socket) place e) (fine.handles socket))

    -- while another call is pending it is busy
    by_standing : (standing : Option Standing) → Allows Anything Done es (asks_while contexts m line (Step.Call ctx (GuestCall.P3Udp (P3UdpCall.Receive socket))) standing)
    by_standing (Some c) = nothing es Reply.Busy tt
    by_standing None =
        allows_then Anything (λ fs told. Done fs (p3_answer_reply received_values line told.0, told.1)) Done es (udp3.receive line socket m) _
        (of_handle (udp3_at m socket) refl) (λ fs told k. k)

    pub receive_done : Allows Anything Done es (machine_asks contexts m line (Step.Call ctx (GuestCall.P3Udp (P3UdpCall.Receive socket))))
    receive_done = by_standing m.store.standing

  -- == it is polled, by a line that is no other call's
  module _ (n line : ℕ) (other : (s : Standing) → m.store.standing ≡ Some s → s.ids.line ≡ n → ⊥) where
    abbrev Polled : List Entry → Reply × Machine → Type 0
    Polled fs done = OneDone steps n m.store.standing fs done

    module _ (place : ℕ) (op : Operation) (named : Names steps es (own_of n) op.who.side) (one : IsOne es (own_of n) op.who.side op) (stood : FoundHolds es (own_of n) op.who.side (beside_in m.store.beside n)) where
      abbrev Retold : List Entry → Result (Answer IncomingDatagram) BaseStop × Records → Type 0
      Retold fs done = Names steps fs (own_of n) op.who.side × ((done.1.standing ≡ m.store.standing) × Gives fs (own_of n) op.who.side done.0 (beside_in done.1.beside n))

      abbrev Answered : List Entry → Result (Option (Answer Outcome)) Stop × Machine → Type 0
      Answered fs done = Polled fs (resumed_reply n done.0, done.1)

      answered : (fs : List Entry) (done : Result (Answer IncomingDatagram) BaseStop × Records) → Retold fs done → Answered fs (resumed (answered_on datagram_outcome P3 (with_store m done)))
      answered fs (Ok (Ready d), store) k = record {
        says = record { side = op.who.side; reached = inl k.0; bytes = d.bytes; peer = d.remote_address; one = k.1.1.0; values = refl; over = k.1.1.1 };
        hands = found_hands fs (own_of n) op.who.side _ (none_holds fs (own_of n) op.who.side _ k.1.1.1);
        stands = k.1.0;
      }
      answered fs (Ok Pending, store) k = record { says = tt; hands = found_hands fs (own_of n) op.who.side _ k.1.1; stands = k.1.0 }
      answered fs (Err (Code c), store) k = record { says = tt; hands = found_hands fs (own_of n) op.who.side _ k.1.1; stands = k.1.0 }
      answered fs (Err (Trap t), store) k = record { says = tt; hands = found_hands fs (own_of n) op.who.side _ k.1.1; stands = k.1.0 }

      polls : Allows Anything Answered es (bind (bind (rereceive_of n place op m.store) (λ done. Give (answered_on datagram_outcome P3 (with_store m done)))) (λ done. Give (resumed done)))
      polls =
          allows_then Anything (λ fs done. Answered fs (resumed done)) Answered es (bind (rereceive_of n place op m.store) (λ done. Give (answered_on datagram_outcome P3 (with_store m done)))) _
          (allows_then Anything Retold (λ fs done. Answered fs (resumed done)) es (rereceive_of n place op m.store) _
          (allows_keep Anything Anything (λ fs. Names steps fs (own_of n) op.who.side) _ (λ fs o c t fits k q. names_on (stay steps) fs _ (own_of n) op.who.side k) (λ fs o c q. tt) es (rereceive_of n place op m.store) named (receive_polls_so n place m.store op.who.side op es one stood))
          (λ fs done k. answered fs done k))
          (λ fs done k. k)

    -- the step of the line is a receive: its call is one, if it stands
    module _ (ctx socket : ℕ) (is : step_at steps n ≡ Some (Step.Call ctx (GuestCall.P3Udp (P3UdpCall.Receive socket)))) (fits : (b : Beside) → beside_of m.store n ≡ Some b → FitBeside m.store.records n b.call) (hands : FoundHands es (beside_of m.store n)) where
      -- no other step began it
      not_another : {P : Step → Type 0} → BeganBy steps (own_of n) P → (P (Step.Call ctx (GuestCall.P3Udp (P3UdpCall.Receive socket))) → ⊥) → ⊥
      not_another k none = none (step_of k is)

      sent_by : (place : ℕ) (op : Operation) → CallIsFine contexts steps es n (Send place op) → ⊥
      sent_by place op f = not_another (subst (λ (x : OpId). BeganBy steps x (IsSendOf op.who.id.part f.1.datagram)) f.0 f.1.item) (λ h. h)

      by_call : (b : Beside) → beside_of m.store n ≡ Some b → (call : BesideCall) → b.call ≡ call → CallIsFine contexts steps es n call → FitBeside m.store.records n call → CallHands es call
          → Allows Anything (λ fs done. Polled fs (resumed_reply n done.0, done.1)) es (bind (go_on_beside m n call) (λ done. Give (resumed done)))
      by_call b e (Connect place) c f fit k = absurd (not_another f (λ h. h.1))
      by_call b e (Resolve host) c f fit k = absurd (not_another f (λ h. h))
      by_call b e (Send place op) c f fit k = absurd (sent_by place op f)
      by_call b e (Receive place op) c f fit k =
          let named : Names steps es (own_of n) op.who.side = subst (λ (x : OpId). Names steps es x op.who.side) f.0 f.1.named in
          let hand : InHand es (own_of n) op.who.side op.left = subst (λ (x : OpId). InHand es x op.who.side op.left) f.0 k in
          let stood : FoundHolds es (own_of n) op.who.side (beside_of m.store n) = subst (λ (o : Option Beside). FoundHolds es (own_of n) op.who.side o) (sym e) (subst (CallHolds es (own_of n) op.who.side) (sym c) (f.0, refl, hand)) in
          polls place op named (record { id = f.0; on = refl; receive = fit.1; family = f.1.family; made = f.1.made; hand = hand }) stood

      unchanged : (fs : List Entry) (reply : Reply) → Says steps n fs reply (beside_of m.store n) → FoundHands fs (beside_of m.store n) → Polled fs (reply, m)
      unchanged fs reply says k = record { says = says; hands = k; stands = refl }

      by_found : (found : Option Beside) → beside_of m.store n ≡ found → Allows Anything (λ fs done. Polled fs (resumed_reply n done.0, done.1)) es (resume_beside m n found)
      by_found None e = unchanged es Reply.NoSuchCall tt hands
      by_found (Some b) e = by_call b e b.call refl (beside_fine contexts steps es m.store.beside n b e fine.besides) (fits b e) (subst (FoundHands es) e hands)

      polls_it : Allows Anything Polled es (step_asks contexts m line (Step.Poll n))
      polls_it =
          allows_then Anything (λ fs done. Polled fs (resumed_reply n done.0, done.1)) Polled es (resume_call m n (call_of m.store.standing n)) _
          (subst (λ (o : Option Standing). Allows Anything (λ fs done. Polled fs (resumed_reply n done.0, done.1)) es (resume_call m n o)) (sym (call_is_other n m.store.standing other)) (by_found (beside_of m.store n) refl))
          (λ fs done k. k)

      while_standing : (standing : Option Standing) → Allows Anything Polled es (asks_while contexts m line (Step.Poll n) standing)
      while_standing None = polls_it
      while_standing (Some s) = allows_if Anything Polled es (is_held_up m.store (Step.Poll n)) _ _ (λ held. unchanged es Reply.Busy tt hands) (λ free. polls_it)

      pub poll_done : Allows Anything Polled es (machine_asks contexts m line (Step.Poll n))
      poll_done = while_standing m.store.standing

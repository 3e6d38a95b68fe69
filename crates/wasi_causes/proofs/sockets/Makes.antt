-- The steps that make handles of sockets and of streams: a network, a create, the finish of a connect, and an accept.
use Rattle.wasi_causes.proofs.Words.{AcceptFailed, AcceptGives, AcceptWaits, Accepting, AcceptsAt, Answer, Bool, ClosedBy, Closes, Connection}
use Rattle.wasi_causes.proofs.Words.{ConnectsAt, Done, End, Entry, Err, ErrorCode, FinishRefusal, Give, HandleTable}
use Rattle.wasi_causes.proofs.Words.{HasNoConnectInProgress, HoldsAccept, Input, InvalidState, IpSocketAddress, IsDoneOrCode, Item, List}
use Rattle.wasi_causes.proofs.Words.{Listener, Listening, Machine, Network, NoConnect, NoListener, NoSuchHandle, None, NotAllowed}
use Rattle.wasi_causes.proofs.Words.{Ok, OpId, Operation, Option, Output, Records, Refused, Result}
use Rattle.wasi_causes.proofs.Words.{Socket, SocketAddressFamily, Some, StillAccepts, Stop, Tcp2, TcpRecord, TcpState, Told, ToldCode, Trap, Waits}
use Rattle.wasi_causes.proofs.Words.{WasiSocketsCtx, [], accept_answered, accept_at, accept_end, accept_listening, accept_name, accept_on}
use Rattle.wasi_causes.proofs.Words.{accepted_asks, accepted_handles, accepted_marks, accepted_record, accepted_socket, accepted_state}
use Rattle.wasi_causes.proofs.Words.{accepted_streams, accepting_now, after_create, ap, append_assoc, arith, bind, code_stop, connect_ended}
use Rattle.wasi_causes.proofs.Words.{connect_polled, context_at, create_asks, entry, false}
use Rattle.wasi_causes.proofs.Words.{finish_in, first_ids, handle_reply, idle}
use Rattle.wasi_causes.proofs.Words.{in_socket, inl, inr, is_connect, length, marks_in, marks_in-push, network_asks, new_asks, new_socket}
use Rattle.wasi_causes.proofs.Words.{opened_receive, opened_send, own_of, pair_reply, record_at, refl, side_at, side_of}
use Rattle.wasi_causes.proofs.Words.{still_connected, subst, sym, taken_receive, taken_send, told_done, triple_fields, triple_reply}
use Rattle.wasi_causes.proofs.Words.{true, with_handle, with_listening, with_record, with_record_put, with_socket, with_state, with_store}
use Rattle.wasi_causes.proofs.Words.{socket_with_streams, word_of_code, ℕ, ◌++◌, ◌+◌, ◌∙◌, ◌∷◌, ◌≡◌, ◌≢◌}
use Rattle.wasi_causes.proofs.operations.Accepts.{AcceptRow, accepts}
use Rattle.wasi_causes.proofs.operations.Marks.{poll_marks_none}
use Rattle.wasi_causes.proofs.operations.Polls.{EndsFor, connect_ends}
use Rattle.wasi_causes.proofs.tables.Meets.{Rows, Meets, ends, asks, chain, onto, branch, widen, both, granted}
use Rattle.wasi_causes.proofs.tables.Routes.{Says, makes, full_so, code_word, makes_streams, Names, its, here, finds, calls, through_record, apart, none_has, not_of_code, put_back}
use Rattle.wasi_causes.proofs.Words.{CreateFails, Full, Kind, create_to, is_full, made_to}
use Rattle.host_tcp.specs.Creates.{code_told, same_told, with_room}
use Rattle.wasi_causes.specs.Outcomes.{FullAfter, LeavesSocket, OnlyWhere, Outcome}
use Rattle.wasi_causes.specs.Reached.{Finishes, FinishesAt, MayFinish}
use Rattle.wasi_records.specs.Records.{tcp2_at, tcp2_put, tcp2_pushed}
use Rattle.tcp_records.specs.declared.tcp_listening.Listening.TheVariants as listening
use Rattle.wasi_addr.specs.declared.p2.ErrorCode.TheVariants as word_p2
use Rattle.wasi_causes.proofs.Words.{Code, record_in, socket_at, if◌then◌else◌}
use Rattle.tcp_records.specs.Sockets.{poll_connect_asks}
use Rattle.host_store.specs.Block.{Read, last, need, ◌>>=◌, ◌>>◌}
use Rattle.host_store.specs.Lines.{in_store, done_by, finish_connect_of}
use Rattle.wasi_p2.specs.Tcp.{accept_asks, finish_connect, make_streams}
use Rattle.wasi_walks.specs.Answered.{ConnectsOn, StillConnects, WasClosed}
use Rattle.wasi_steps.specs.declared.reply.CodeWord.TheVariants as word
use Rattle.wasi_steps.specs.declared.reply.Reply.TheVariants as reply
use Rattle.wasi_steps.specs.declared.guest_call.GuestCall.TheVariants as guest
use Rattle.wasi_steps.specs.declared.guest_call.TcpCall.TheVariants as tcp_call
use Rattle.wasi_steps.specs.declared.guest_call.NameCall.TheVariants as name_call
use Rattle.wasi_steps.specs.declared.step.Step.TheVariants as step
use Rattle.wasi_tcp.specs.declared.listener.Accepting.TheVariants as accepting
use Rattle.wasi_tcp.specs.declared.socket.TcpState.TheVariants as state
use Rattle.wasi_world.specs.declared.call.Call.TheVariants as call
use Rattle.wasi_world.specs.declared.call.HandleKind.TheVariants as name
use Rattle.wasi_world.specs.declared.call.Told.TheVariants as told
use Rattle.wasi_walks.proofs.Places.{push_finds, tcp_sort}

-- == a network, and a create
module _ (contexts : List WasiSocketsCtx) (m : Machine) (line c : ℕ) where
  pub network : Meets (Says contexts m line (step.Call c (guest.Names name_call.Network))) [] (bind (network_asks m (own_of line)) (λ done. Give (handle_reply done.0, done.1)))
  network = onto _ (onto _ (makes m.table (own_of line) Network None None (λ full. (tt, (tt, full_so m m [] full refl refl, tt))) (tt, ((tt, tt), tt))))

  module _ (family : SocketAddressFamily) where
    abbrev ctx : WasiSocketsCtx
    ctx = context_at contexts c

    abbrev SocketRow : Rows (Result Socket ErrorCode)
    SocketRow es (Ok socket) = (socket ≡ new_socket (own_of line) ctx.name family) × (es ≡ entry (own_of line) (call.TcpCreate ctx.name family) told.Done ∷ []) × (ctx.tcp ≡ true)
    SocketRow es (Err code) = CreateFails (own_of line) ctx family es code

    told_create : ctx.tcp ≡ true → (t : Told) → IsDoneOrCode t → SocketRow (entry (own_of line) (call.TcpCreate ctx.name family) t ∷ []) (after_create (own_of line) ctx.name family (told_done t))
    told_create tcp told.Done fits = (refl, refl, tcp)
    told_create tcp (told.Code code) fits = ToldCode code tcp
    told_create tcp _ fits = absurd fits

    makes_socket : Meets SocketRow [] (new_asks (own_of line) ctx family)
    unfolding bind
    makes_socket = branch ctx.tcp (λ tcp. asks (λ t fits. ends (told_create tcp t fits))) (λ no. ends (NotAllowed no))

    -- nothing is asked where it may not use TCP
    pub refused_at_once : {es : List Entry} {code : ErrorCode} → CreateFails (own_of line) ctx family es code → OnlyWhere ctx.tcp m es m
    refused_at_once (NotAllowed other) denied = (refl, refl)
    refused_at_once (ToldCode code tcp) denied = absurd (cc)

    -- where its network socket was made it may use TCP
    pub may_use : {es fs : List Entry} {socket : Socket} {after : Machine} → SocketRow es (Ok socket) → OnlyWhere ctx.tcp m fs after
    may_use k denied = let may = k.2 in absurd (cc)

    -- the record of the socket, and with a handle of this kind
    abbrev with_its : Socket → Machine
    with_its socket = record m { store = with_record m.store socket }

    pub no_room : {es : List Entry} {socket : Socket} → SocketRow es (Ok socket) → is_full m.table ≡ true → FullAfter m es (with_its socket) × LeavesSocket m line ctx family es (with_its socket)
    no_room {es} {socket} k full = (full_so m (with_its socket) es full refl (ap marks_in k.1), (full, k.1, ap with_its k.0))

    -- a create of either interface: refused, with no room for the handle, and with it
    pub creates : {T : Type 0} {Row : Rows (T × Machine)} (tells : Result ℕ Stop → T) (fails : ErrorCode → T) (kind : ℕ → Kind) → ((es : List Entry) (code : ErrorCode) → CreateFails (own_of line) ctx family es code → Row es (fails code, m))
        → ((es : List Entry) (socket : Socket) → SocketRow es (Ok socket) → is_full m.table ≡ true → Row es (tells (Err (Trap Full)), with_its socket))
        → ((es fs : List Entry) (socket : Socket) → SocketRow es (Ok socket) → Row fs (tells (Ok m.table.next), record m { table = with_handle m.table (kind (length m.store.records)) None; store = with_record m.store socket }))
        → Meets Row [] (create_to tells fails kind m (own_of line) ctx family)
    creates {T} {Row} tells fails kind refused full made = chain {Mid = SocketRow} makes_socket by_made
      where
        by_made : (es : List Entry) (made : Result Socket ErrorCode) → SocketRow es made → Meets Row es (made_to tells fails kind m (own_of line) made)
        by_made es (Err code) k = ends (refused es code k)
        by_made es (Ok socket) k = onto _ (makes m.table (own_of line) (kind (length m.store.records)) None (side_of socket) (λ none. full es socket k none) (made es _ socket k))

-- a create of 0.2, for whose context room is made first
pub create : (contexts : List WasiSocketsCtx) (m : Machine) (line c : ℕ) (family : SocketAddressFamily)
    → Meets (Says contexts m line (step.Call c (guest.Tcp (tcp_call.Create family)))) [] (bind (create_asks m (own_of line) (context_at contexts c) family) (λ done. Give (handle_reply done.0, done.1)))
create contexts m line c family =
    let now : Machine = with_room m (context_at contexts c) in
    onto _ (creates contexts now line c family same_told code_told Tcp2
    (λ es code k. (refused_at_once contexts now line c family k, (code_word code, (record { code = code; is = refl; cause = k }, refl))))
    (λ es socket k none. let left = no_room contexts now line c family k none in (may_use contexts now line c family k, (tt, left.0, left.1)))
    (λ es fs socket k. (may_use contexts now line c family k, ((tt, tt), tt))))

module _ (contexts : List WasiSocketsCtx) (m : Machine) (line c handle : ℕ) where
  abbrev own : OpId
  own = own_of line

  -- == the finish of a connect
  abbrev FinishSays : Rows (Result (ℕ × ℕ) Stop × Machine)
  FinishSays es done = Outcome contexts m line (step.Call c (guest.Tcp (tcp_call.FinishConnect handle))) es (pair_reply done.0) done.1

  abbrev PollRow : Rows (Result (Unit {0}) Stop × Records)
  PollRow es (Ok done, store) = (HasNoConnectInProgress (record_at m handle) → ⊥) × (marks_in es ≡ 0)
  PollRow es (Err stop, store) = FinishSays es (Err stop, record m { store = store })

  -- == of the record that the handle names
  module _ (place : ℕ) (r : TcpRecord) (n : Names m handle place r) (connects : is_connect r.in_progress ≡ true) where
    some : HasNoConnectInProgress (record_at m handle) → ⊥
    some k = let none : is_connect r.in_progress ≡ false = rw (its n) at k in cc

    abbrev RecordRow : Rows (Result (Unit {0}) Stop × TcpRecord)
    RecordRow es done = PollRow es (with_record_put m.store place done)

    abbrev StateRow : Rows (Result (Answer (Unit {0})) ErrorCode × TcpState)
    StateRow es done = RecordRow es (connect_polled r (in_socket r.inner done))

    may : FinishesAt m handle → MayFinish r.inner.state
    may h = let k : Finishes r = rw (its n) at h in k connects

    fails : (es : List Entry) (code : ErrorCode) (now : TcpRecord) → (ConnectsAt m handle → FinishesAt m handle → FinishRefusal m place r es (word_of_code code) (record m { store = with_socket m.store place now })) → RecordRow es (Err (code_stop code), now)
    fails es code now cause =
        let other : reply.Err (word_of_code code) ≢ reply.Err word.NotInProgress = not_of_code code word.NotInProgress (λ no. no) in
        (apart other some, (inr (inr (code_word code)), record { none = λ e. absurd (other (ap reply.Err e)); cause = λ holds finishes. here n (cause holds finishes) }))

    never : (now : TcpRecord) → (MayFinish r.inner.state → ⊥) → RecordRow [] (Err (code_stop InvalidState), now)
    never now unlike = fails [] InvalidState now (λ h k. absurd (unlike (may k)))

    module _ (op : Operation) (at_state : r.inner.state ≡ state.Connecting op) where
      is_one : ConnectsAt m handle → ConnectsOn (state.Connecting op)
      is_one h = let k = rw (its n) at h in rw at_state at k

      ended : (es : List Entry) (end : End × List Item) → (marks_in es ≡ 0) × (ConnectsAt m handle → EndsFor op (ClosedBy op) es end) → StateRow es (connect_ended op.who end)
      ended es (Waits, items) k = (apart (λ e. cc) some, (inr (inl refl), record { none = λ e. absurd (cc); cause = λ h finishes. here n (StillConnects op items connects at_state (k.1 h)) }))
      ended es (Done given, items) k = (some, k.0)
      ended es (Refused code given, items) k = fails es code _ (λ h finishes. Closes op code connects at_state (k.1 h))

      polled : Meets StateRow [] (finish_in (state.Connecting op))
      polled = onto _ (widen ended (both (record { along = poll_marks_none op }) (granted (λ h. connect_ends op (is_one h)))))

    module _ (connection : Connection) (at_state : r.inner.state ≡ state.Connected connection) where
      opens_send : (taken : Bool) → connection.send_taken ≡ taken
          → RecordRow [] (opened_send r (record { side = connection.side }) (in_socket (with_state r.inner (state.Connected connection)) (still_connected (taken_send (record connection { receive_taken = true }) taken))))
      opens_send false e = (some, refl)
      opens_send true e = never _ (λ h. let k : MayFinish (state.Connected connection) = subst MayFinish at_state h in let free : connection.send_taken ≡ false = k.1 in cc)

      opens_receive : (taken : Bool) → connection.receive_taken ≡ taken → RecordRow [] (opened_receive r (in_socket (with_state r.inner (state.Connected connection)) (still_connected (taken_receive connection taken))))
      opens_receive false e = opens_send connection.send_taken refl
      opens_receive true e =
          subst (λ (st : TcpState). RecordRow [] (Err (code_stop InvalidState), idle r (with_state r.inner st))) at_state (never _ (λ h. let k : MayFinish (state.Connected connection) = subst MayFinish at_state h in let free : connection.receive_taken ≡ false = k.0 in cc))

    by_state : (st : TcpState) → r.inner.state ≡ st → Meets StateRow [] (finish_in st)
    by_state (state.Default side) e = ends (subst (λ (st : TcpState). StateRow [] (Err InvalidState, st)) e (never _ (λ h. subst MayFinish e h)))
    by_state (state.Listening side) e = ends (subst (λ (st : TcpState). StateRow [] (Err InvalidState, st)) e (never _ (λ h. subst MayFinish e h)))
    by_state (state.Connecting op) e = polled op e
    by_state (state.Connected connection) e = ends (opens_receive connection e connection.receive_taken refl)
    by_state (state.Closed code) e = ends (fails [] code _ (λ h finishes. WasClosed code connects e refl))

  by_progress : (place : ℕ) (r : TcpRecord) → Names m handle place r → (b : Bool) → is_connect r.in_progress ≡ b
      → Meets PollRow [] (if b then last (done_by place r poll_connect_asks) m.store else Give (Err (Code word_p2.NotInProgress), m.store))
  by_progress place r n false e = ends ((λ same. rw (its n) e, λ k. refl), (inl refl, record { none = λ same. (refl, refl); cause = λ holds finishes. here n (NoConnect e refl) }))
  by_progress place r n true e =
      calls {Mid = λ es done. PollRow es (with_record_put m.store place done)} _ (onto _ (onto _ (by_state place r n e r.inner.state refl)))
      (λ es stop now k. ends k) (λ es done now k. ends k)

  -- == the streams
  connected : (place : ℕ) (es : List Entry) (store : Records) → PollRow es (Ok tt, store) → Meets FinishSays es (make_streams own handle place (side_at (tcp2_at store.records place)) (record m { store = store }))
  connected place es store k =
      makes_streams (record m { store = store }) es own handle place (side_at (tcp2_at store.records place)) m.table.next (let none = k.1 in omega arith) (λ fs table full count. (apart (λ e. cc) k.0, (tt, (full, count), tt))) (apart (λ e. cc) k.0, ((tt, (tt, tt)), tt))

  pub finish_connect_row : Meets (Says contexts m line (step.Call c (guest.Tcp (tcp_call.FinishConnect handle)))) [] (bind (finish_connect own handle m) (λ done. Give (pair_reply done.0, done.1)))
  finish_connect_row =
      onto _ (finds (λ place. in_store (finish_connect_of place) >> (Read (λ m. side_at (tcp2_at m.store.records place)) >>= λ side. make_streams own handle place side)) (socket_at m handle)
      (λ none. missing (ap (record_in m) none))
      (λ place names. calls _ (polled place names) (λ es stop store k. ends k) (λ es done store k. connected place es store k)))
    where
      missing : record_at m handle ≡ None → FinishSays [] (Err (Trap NoSuchHandle), m)
      missing none = (apart (λ e. cc) (none_has _ (record_at m handle) none), (none, (refl, refl)))

      polled : (place : ℕ) → socket_at m handle ≡ Some place → Meets PollRow [] (finish_connect_of place m.store)
      polled place names =
          finds (λ r. need (is_connect r.in_progress) (Code word_p2.NotInProgress) >> last (done_by place r poll_connect_asks)) (tcp2_at m.store.records place)
          (λ none. missing (ap (record_in m) names ∙ none))
          (λ r at. by_progress place r (record { names = names; at = at }) (is_connect r.in_progress) refl)

  -- == an accept
  abbrev AcceptSays : Rows (Result (ℕ × ℕ × ℕ) Stop × Machine)
  AcceptSays es done = Outcome contexts m line (step.Call c (guest.Tcp (tcp_call.Accept handle))) es (triple_reply done.0) done.1

  -- the records, where this connection was taken from the listener
  abbrev taking : ℕ → TcpRecord → Listener → OpId → IpSocketAddress → Records
  taking place r l side peer = let left = accepting_now m place r l accepting.Idle in record left.store { records = tcp2_pushed left.store.records (accepted_record (accepted_socket l.family l.maker (accepted_state side peer))).1 }

  -- A connection was taken from the handle's listener, and is at this place.
  record Took (es : List Entry) (place : ℕ) (store : Records) : Type 0 where
    of : ℕ
    found : TcpRecord
    named : Names m handle of found
    listener : Listener
    listens : found.listening ≡ listening.Accepts listener
    side : OpId
    peer : IpSocketAddress
    given : AcceptsAt m handle → AcceptGives (accept_name line listener.accept) listener.side listener.accept side peer es
    left : store ≡ taking of found listener side peer
    its_side : side_at (tcp2_at store.records place) ≡ Some side
    none : marks_in es ≡ 0

  abbrev StoreRow : Rows (Result ℕ Stop × Records)
  StoreRow es (Ok place, store) = Took es place store
  StoreRow es (Err stop, store) = AcceptSays es (Err stop, record m { store = store })

  -- == of the record that the handle names
  module _ (place : ℕ) (r : TcpRecord) (n : Names m handle place r) where
    abbrev TakingRow : Rows (Result (Answer Socket) ErrorCode × TcpRecord)
    TakingRow es done = StoreRow es (accept_answered m.store place done)

    module _ (l : Listener) (is : r.listening ≡ listening.Accepts l) where
      abbrev ListenerRow : Rows (Answer Socket × Listener)
      ListenerRow es done = TakingRow es (Ok done.0, with_listening r (listening.Accepts done.1))

      holds_accept : AcceptsAt m handle → HoldsAccept l.side l.maker l.accept
      holds_accept h = let k = rw (its n) at h in rw is at k

      taken : (es : List Entry) (new : OpId) (peer : IpSocketAddress) → marks_in es ≡ 0 → (AcceptsAt m handle → AcceptGives (accept_name line l.accept) l.side l.accept new peer es) → ListenerRow es (accept_end l (accepting.Arrived new peer))
      taken es new peer none given = record {
        of = place;
        found = r;
        named = n;
        listener = l;
        listens = is;
        side = new;
        peer = peer;
        given = given;
        left = refl;
        its_side = ap side_at (push_finds tcp_sort (tcp2_put m.store.records place (with_listening r (listening.Accepts (accept_end l (accepting.Arrived new peer)).1))) (accepted_record (accepted_socket l.family l.maker (accepted_state new peer))).1);
        none = none;
      }

      made_of_it : (es : List Entry) (a : Accepting) → marks_in es ≡ 0 → AcceptRow line l es a → ListenerRow es (accept_end l a)
      made_of_it es accepting.Idle none h = (tt, (inl refl, λ holds. absurd (h (holds_accept holds))))
      made_of_it es (accepting.Asking op) none h = (tt, (inl refl, λ holds. here n (StillAccepts l op is h.0 (subst (λ (id : OpId). AcceptWaits id es) (sym h.0) (h.1 (holds_accept holds))))))
      made_of_it es (accepting.Arrived new peer) none h = taken es new peer none (λ holds. h (holds_accept holds))
      made_of_it es (accepting.Failed code) none h = (tt, (inr (code_word code), λ holds. here n (AcceptFailed l code is (h (holds_accept holds)))))

    by_listening : (o : Listening) → r.listening ≡ o → Meets TakingRow [] (accept_listening (first_ids line) r o)
    by_listening (listening.Accepts l) e = onto _ (accepts line l (accept_end l) (made_of_it l e))
    by_listening _ e = ends (put_back (λ (after : Machine). Outcome contexts m line (step.Call c (guest.Tcp (tcp_call.Accept handle))) [] (triple_reply (Err (code_stop InvalidState))) after) m place r n.at (tt, (inr (code_word InvalidState), λ holds. here n (NoListener (rw e tt) refl))))

  -- == the (with_handle two (Output place) (Some next)) handles
  module _ (es : List Entry) (place : ℕ) (store : Records) (t : Took es place store) where
    abbrev next : ℕ
    next = m.table.next

    abbrev side : Option OpId
    side = Some t.side

    abbrev one : HandleTable
    one = with_handle m.table (Tcp2 place) (Some handle)

    abbrev two : HandleTable
    two = with_handle one (Input place) (Some next)

    abbrev now : HandleTable → Machine
    now table = record m { store = store; table = table }

    abbrev first : Entry
    first = entry own (call.Made next name.Tcp2 (Some handle) side) told.Done

    abbrev second : Entry
    second = entry own (call.Made one.next name.Input (Some next) side) told.Done

    abbrev third : Entry
    third = entry own (call.Made two.next name.Output (Some next) side) told.Done

    after_two : two.next ≡ next + 2
    after_two = omega arith

    three_marks : ((es ++ first ∷ []) ++ second ∷ []) ++ third ∷ [] ≡ es ++ accepted_marks own handle next t.side
    three_marks =
        (ap (λ (xs : List Entry). xs ++ third ∷ []) (append_assoc es (first ∷ []) (second ∷ [])) ∙ append_assoc es (first ∷ second ∷ []) (third ∷ []))
        ∙ ap (λ (k : ℕ). es ++ first ∷ second ∷ entry own (call.Made k name.Output (Some next) side) told.Done ∷ []) after_two

    all_made : AcceptSays (((es ++ first ∷ []) ++ second ∷ []) ++ third ∷ []) (Ok (next, one.next, two.next), now (with_handle two (Output place) (Some next)))
    all_made = (
      tt,
      (
        (tt, (tt, (tt, tt))),
        record {
          numbers = ap (λ (k : ℕ). triple_fields next (next + 1) k) after_two;
          takes = λ holds. here t.named (record { listener = t.listener; listens = t.listens; side = t.side; peer = t.peer; front = es; given = t.given holds; asked = three_marks; store = t.left });
        },
      ),
    )

    handles : Meets AcceptSays es (accepted_handles (now m.table) own handle place side)
    handles =
        chain {Mid = λ fs made. Meets AcceptSays fs (accepted_streams own place side (made.0, now made.1))}
        (makes m.table own (Tcp2 place) (Some handle) side (λ full. ends (tt, (tt, (full, let none = t.none in omega arith), tt))) (onto _ streams))
        (λ fs made k. k)
      where
        streams : Meets (λ fs made. AcceptSays fs (socket_with_streams next made)) (es ++ first ∷ []) (make_streams own next place side (now one))
        streams = makes_streams (now one) (es ++ first ∷ []) own next place side next (let p = marks_in-push es first in let none = t.none in omega arith) (λ fs table full count. (tt, (tt, (full, count), tt))) all_made

  accepted : (es : List Entry) (done : Result ℕ Stop × Records) → StoreRow es done → Meets AcceptSays es (accepted_asks own handle (with_store m done))
  accepted es (Ok place, store) t = subst (λ (o : Option OpId). Meets AcceptSays es (accepted_handles (record m { store = store }) own handle place o)) (sym t.its_side) (handles es place store t)
  accepted es (Err stop, store) k = ends k

  pub accept : Meets (Says contexts m line (step.Call c (guest.Tcp (tcp_call.Accept handle)))) [] (bind (accept_asks m (first_ids line) handle) (λ done. Give (triple_reply done.0, done.1)))
  accept =
      onto _ (through_record m handle (accept_on m (first_ids line) handle) (λ place o. accept_at m.store (first_ids line) place o) (λ place done. accepted_asks own handle done) (λ place. refl) (λ place. refl) (λ none. ends (tt, (none, (refl, refl)))) (λ none place. ends (tt, (none, (refl, refl))))
      (λ place r n. widen accepted (onto _ (by_listening place r n r.listening refl))))

-- The starts and the finishes of a bind and of a listen, and the start of a connect.
use Rattle.wasi_causes.proofs.Words.{AlreadyBound, Answer, Begins, BindRefusal, Bool, BoundElsewhere, CodeWord, ConnectRefusal, Denied, Done}
use Rattle.wasi_causes.proofs.Words.{Elsewhere, End, EndsPending, Entry, Err, ErrorCode, Failed, Give, Given, InvalidArgument}
use Rattle.wasi_walks.specs.Answered.{InProgress}
use Rattle.wasi_causes.proofs.Words.{InvalidState, IpSocketAddress, IsAddr, IsBound, IsFoundUnbound, IsPastDefault, IsSomeAnd, Item, Known}
use Rattle.wasi_causes.proofs.Words.{KnowsBound, List, ListenDenied, ListenFails, ListenRefusal, ListenRefused, ListenTold, Listening}
use Rattle.wasi_causes.proofs.Words.{LocalTold, Machine, NoSuchHandle, None, NotBound, NotDefault, OfRecord, Ok, OpId, Operation, Other}
use Rattle.wasi_causes.proofs.Words.{PastDefault, Pending, Ready, Refused, Reply, Result, Socket, StandingCall, TcpRecord, TcpState, Told}
use Rattle.wasi_causes.proofs.Words.{ToldBound, Waits, WasiSocketsCtx, WrongAddress, [], after_local, answer_reply, ap, append_assoc, ask_bound}
use Rattle.wasi_causes.proofs.Words.{begin_bind_asks, begin_connect_asks, begin_listen_asks, bind, bind_allowed, bind_begun, bind_ended}
use Rattle.wasi_causes.proofs.Words.{bind_operation, bound_asks, call_answered, closed_by_listen, connect_begun, connect_start, done_reply, entry}
use Rattle.wasi_causes.proofs.Words.{false, finish_at, finish_by, finish_on, idle, if◌then◌else◌, inl, inr, is_bind, is_connectable, is_listen}
use Rattle.wasi_causes.proofs.Words.{is_network, is_nothing, is_wildcard, kind_at, knowing_bound, listen_begun, listen_bound, listen_ended}
use Rattle.wasi_causes.proofs.Words.{listen_once, listen_operation, listen_polled, listen_start, may_bind_to, no_fields, not, own_of, putting}
use Rattle.wasi_causes.proofs.Words.{record_at, refl, socket_at, start_bind_asks, start_bind_at, start_bind_by, start_bind_on, start_connect_asks}
use Rattle.wasi_causes.proofs.Words.{start_connect_at, start_connect_by, start_connect_in, start_connect_on, start_listen_at, start_listen_by}
use Rattle.wasi_causes.proofs.Words.{start_listen_on, subst, sym, told_addr, true, wildcard, with_inner, with_progress, with_state, with_store}
use Rattle.wasi_causes.proofs.Words.{word_of_code, ℕ, ⊤, ◌++◌, ◌∙◌, ◌∷◌, ◌≡◌, ◌⊎◌}
use Rattle.wasi_machine.specs.Machine.{first_ids}
use Rattle.wasi_causes.proofs.operations.Polls.{polled, ends_so, not_over}
use Rattle.wasi_causes.proofs.tables.Meets.{Meets, ends, asks, branch, Rows, chain, onto, widen, After, shifted}
use Rattle.wasi_causes.proofs.tables.Routes.{Replied, Says, put_back, Names, here, code_word, not_of_code, in_conflict, no_conflict, none_conflicts, on_idle, on_number, its as found_in, apart, none_has}
use Rattle.wasi_causes.specs.Outcomes.{Conflicts}
use Rattle.wasi_causes.specs.Reached.{ListensLate, ListensLateAt}
use Rattle.wasi_causes.specs.Polls.{ToldYes, ToldNo, BindToldCode, Polled, GoesOn, Stops, LocalToldYes, LocalToldNo, LocalToldCode, ListenToldCode}
use Rattle.host_store.specs.declared.kind.Interface.TheVariants.{P2}
use Rattle.host_store.specs.Store.{put_back as answer_put}
use Rattle.tcp_records.specs.declared.tcp_listening.Listening.TheVariants as listening
use Rattle.tcp_records.specs.declared.tcp_binding.InProgress.{InProgress as Doing}
use Rattle.wasi_walks.specs.Listens.{NotDefault as PastStart}
use Rattle.wasi_steps.specs.declared.reply.CodeWord.TheVariants as word
use Rattle.wasi_steps.specs.declared.reply.Reply.TheVariants as reply
use Rattle.wasi_steps.specs.declared.guest_call.GuestCall.TheVariants as guest
use Rattle.wasi_steps.specs.declared.guest_call.TcpCall.TheVariants as tcp_call
use Rattle.wasi_steps.specs.declared.step.Step.TheVariants as step
use Rattle.wasi_tcp.specs.Socket.{bind_start}
use Rattle.socket_common.specs.declared.asker.Asker.{Asker}
use Rattle.wasi_tcp.specs.declared.bind.BindStage.TheVariants as stage
use Rattle.wasi_tcp.specs.declared.listen.ListenStage.TheVariants as listen_stage
use Rattle.wasi_tcp.specs.declared.socket.TcpState.TheVariants.{Default}
use Rattle.wasi_tcp.specs.declared.socket.TcpState.TheVariants as state
use Rattle.wasi_world.specs.declared.call.Call.TheVariants as call
use Rattle.wasi_world.specs.declared.call.Told.TheVariants as told

-- The socket is bound, which is kept; or it is free, and stays as it was.
pub data BoundRow (own : OpId) (socket : Socket) : List Entry → Bool × Socket → Type 0 where
  ItsBound : (es : List Entry) → IsBound own socket es → BoundRow own socket es (true, record socket { bound = true })
  ItsFree : (side : OpId) (local : Told) → IsFoundUnbound socket side local → BoundRow own socket (entry own (call.Local side) local ∷ []) (false, socket)

pub asked_none : (own : OpId) (socket : Socket) (es : List Entry) → IsBound own socket es → IsPastDefault socket.state → es ≡ []
asked_none own socket _ (Known known) past = refl
asked_none own socket _ (PastDefault p) past = refl
asked_none own socket _ (ToldBound side told at_side says) past = absurd (subst IsPastDefault at_side past)

module _ (own : OpId) (socket : Socket) where
  is_known : socket.bound ≡ true → BoundRow own socket [] (true, socket)
  is_known e =
      let same = ap (λ (b : Bool). let now : Socket = record socket { bound = b } in now) e in
      subst (λ (now : Socket). BoundRow own socket [] (true, now)) (sym same) (ItsBound [] (Known e))

  said : (side : OpId) (b : IpSocketAddress) (wild : Bool) → is_wildcard socket.family b ≡ wild → socket.bound ≡ false → socket.state ≡ Default side
      → BoundRow own socket (entry own (call.Local side) (told.Addr b) ∷ []) (if wild then (false, socket) else (true, record socket { bound = true }))
  said side b true e unknown at_side = ItsFree side (told.Addr b) (record { unknown = unknown; open_side = at_side; free = ap not e })
  said side b false e unknown at_side = ItsBound _ (ToldBound side (told.Addr b) at_side (ap not e))

  told_local : (side : OpId) (t : Told) → IsAddr t → socket.bound ≡ false → socket.state ≡ Default side → BoundRow own socket (entry own (call.Local side) t ∷ []) (after_local socket (told_addr t))
  told_local side (told.Addr b) fits unknown at_side = said side b (is_wildcard socket.family b) refl unknown at_side
  told_local side (told.Code c) fits unknown at_side = ItsFree side (told.Code c) (record { unknown = unknown; open_side = at_side; free = refl })
  told_local side _ fits unknown at_side = absurd fits

  asks_side : (st : TcpState) → socket.state ≡ st → socket.bound ≡ false → Meets (BoundRow own socket) [] (ask_bound own socket st)
  unfolding bind
  asks_side (Default side) e unknown = asks (λ t fits. ends (told_local side t fits unknown e))
  asks_side _ e unknown = ends (ItsBound [] (PastDefault (rw e tt)))

  pub bounds : Meets (BoundRow own socket) [] (bound_asks own socket)
  bounds = branch socket.bound (λ e. ends (is_known e)) (λ unknown. asks_side socket.state refl unknown)

nothing_is : (doing : Doing) → is_nothing doing ≡ true → Doing.Nothing ≡ doing
nothing_is Doing.Nothing e = refl
nothing_is (Doing.Binding op) e = absurd (cc)
nothing_is (Doing.Started o) e = absurd (cc)

-- == a bind
module _ (m : Machine) (own : OpId) (handle place : ℕ) (r : TcpRecord) (n : Names m handle place r) (a : IpSocketAddress) where
  -- why it is refused, and what is left then
  abbrev BindRefused : List Entry → CodeWord → Machine → Type 0
  BindRefused es w after = BindRefusal m own place r a es w after × ((after ≡ m) ⊎ ((w ≡ word.InvalidState) × KnowsBound m handle after))

  -- a bind as it was begun: it is pending, or is done, or is refused
  abbrev BindRow : Rows (Result (Answer (Unit {0})) ErrorCode × TcpRecord)
  BindRow es (Ok Pending, now) = EndsPending own es
  BindRow es (Ok (Ready done), now) = Unit {0}
  BindRow es (Err code, now) = BindRefused es (word_of_code code) (putting m place now)

  stays : (es : List Entry) (code : ErrorCode) → BindRefusal m own place r a es (word_of_code code) m → BindRow es (Err code, r)
  stays es code cause = put_back (BindRefused es (word_of_code code)) m place r n.at (cause, inl refl)

  -- with nothing in progress the record is as it was
  stays_idle : is_nothing r.in_progress ≡ true → (es : List Entry) (code : ErrorCode) → BindRefusal m own place r a es (word_of_code code) m → BindRow es (Err code, with_progress r Doing.Nothing)
  stays_idle idle es code cause = subst (λ (now : TcpRecord). BindRow es (Err code, now)) (ap (with_progress r) (sym (nothing_is r.in_progress idle))) (stays es code cause)

  module _ (side : OpId) (local : Told) (free : IsFoundUnbound r.inner side local) (idle : is_nothing r.in_progress ≡ true) where
    abbrev asked : Entry
    asked = entry own (call.Local side) local

    abbrev its : Operation
    its = bind_operation (record { op = own; side = side; maker = r.inner.maker }) a stage.Check

    refused : (es : List Entry) (code : ErrorCode) (given : Given) (items : List Item) → may_bind_to r.inner.family a ≡ true → Polled its.who its.left es (Refused code given, items) → BindRefusal m own place r a (asked ∷ es) (word_of_code code) m
    refused _ _ _ _ may (Stops _ _ _ _ (ToldNo _ _)) = Denied side local free may
    refused _ _ _ _ may (GoesOn _ _ _ _ _ (ToldYes _ _) (Stops _ _ _ _ (BindToldCode _ code))) = Failed side local code free may
    refused _ _ _ _ may (GoesOn _ _ _ _ _ (ToldYes _ _) (GoesOn _ _ _ _ _ passed row)) = absurd (not_over row)

    ended : may_bind_to r.inner.family a ≡ true → (es : List Entry) (end : End × List Item) → After (Polled its.who its.left) (asked ∷ []) es end → BindRow es (bind_ended its (with_progress r (Doing.Binding its)) end)
    ended may es (Waits, items) k = let w = ends_so its.who its.left k.rest (Waits, items) k.row in record { front = asked ∷ w.front; last = w.last; cut = k.cut ∙ ap (λ (xs : List Entry). asked ∷ xs) w.cut; op = w.op; told = w.told }
    ended may es (Done given, items) k = tt
    ended may es (Refused code given, items) k = stays_idle idle es code (rw k.cut (refused k.rest code given items may k.row))

    tested : (b : Bool) → may_bind_to r.inner.family a ≡ b → Meets BindRow (asked ∷ []) (bind_begun r (if b then Ok its else Err InvalidArgument, r.inner))
    tested true may = onto (bind_ended its (with_progress r (Doing.Binding its))) (widen (ended may) (shifted (asked ∷ []) (polled its (tt, (tt, tt)))))
    tested false e = ends (stays _ InvalidArgument (WrongAddress side local free e))

  by_bound : is_nothing r.in_progress ≡ true → (es : List Entry) (b : Bool × Socket) → BoundRow own r.inner es b → Meets BindRow es (bind_begun r (bind_start own b.1 a b.0, b.1))
  by_bound idle _ _ (ItsBound es is) = ends (AlreadyBound es is, inr (refl, here n refl))
  by_bound idle _ _ (ItsFree side local free) = subst (λ (st : TcpState). Meets BindRow (asked side local free idle ∷ []) (bind_begun r (bind_allowed own r.inner a st, r.inner))) (sym free.open_side) (tested side local free idle (may_bind_to r.inner.family a) refl)

  bind_begins : is_nothing r.in_progress ≡ true → Meets BindRow [] (begin_bind_asks own r a)
  bind_begins idle = chain {Mid = λ es start. Meets BindRow es (bind_begun r start)} (onto _ (widen (by_bound idle) (bounds own r.inner))) (λ es start k. k)

-- == a connect
module _ (m : Machine) (own : OpId) (handle place : ℕ) (r : TcpRecord) (n : Names m handle place r) (a : IpSocketAddress) where
  -- why it is refused, and what is left then
  abbrev ConnectRefused : List Entry → CodeWord → Machine → Type 0
  ConnectRefused es w after = ConnectRefusal m own place r a es w after × ((after ≡ m) ⊎ ((w ≡ word.InvalidArgument) × KnowsBound m handle after))

  -- a connect as it was begun: it is in progress, or is refused
  abbrev ConnectRow : Rows (Result (Unit {0}) ErrorCode × TcpRecord)
  ConnectRow es (Ok done, now) = Unit {0}
  ConnectRow es (Err code, now) = ConnectRefused es (word_of_code code) (putting m place now)

  connect_stays : (es : List Entry) (code : ErrorCode) → ConnectRefusal m own place r a es (word_of_code code) m → ConnectRow es (Err code, r)
  connect_stays es code cause = put_back (ConnectRefused es (word_of_code code)) m place r n.at (cause, inl refl)

  connect_tested : (side : OpId) (socket : Socket) (bound : Bool) (es : List Entry) (b : Bool) → is_connectable socket a ≡ b → (b ≡ false → ConnectRow es (connect_begun r (Err InvalidArgument, socket))) → ConnectRow es (connect_begun r (connect_start own side socket a bound))
  connect_tested side socket bound es true e other = rw e tt
  connect_tested side socket bound es false e other = rw e (other refl)

  connect_by_bound : (side : OpId) → r.inner.state ≡ state.Default side → (es : List Entry) (b : Bool × Socket) → BoundRow own r.inner es b → ConnectRow es (connect_begun r (connect_start own side b.1 a b.0))
  connect_by_bound side e _ _ (ItsBound es is) = connect_tested side (record r.inner { bound = true }) true es (is_connectable r.inner a) refl (λ no. (BoundElsewhere side es e is no, inr (refl, here n refl)))
  connect_by_bound side e _ _ (ItsFree other local free) = connect_tested side r.inner false _ (is_connectable r.inner a) refl (λ no. connect_stays _ InvalidArgument (Elsewhere other local free no))

  connect_in : (st : TcpState) → r.inner.state ≡ st → Meets (λ es done. ConnectRow es (connect_begun r done)) [] (start_connect_in own r.inner a st)
  connect_in (state.Default side) e = onto _ (widen (connect_by_bound side e) (bounds own r.inner))
  connect_in _ e = ends (connect_stays [] InvalidState (NotDefault (rw e tt)))

  connect_begins : Meets ConnectRow [] (begin_connect_asks own r a)
  connect_begins = onto (connect_begun r) (connect_in r.inner.state refl)

-- == the first poll of a listen, of a socket that is bound
module _ (asker : Asker) (any : IpSocketAddress) (backlog : ℕ) where
  abbrev listens : Operation
  listens = listen_operation asker any backlog listen_stage.Local

  listen_refused : (es : List Entry) (c : ErrorCode) (given : Given) (items : List Item) → Polled listens.who listens.left es (Refused c given, items) → ListenFails asker.op asker.side asker.maker backlog es c
  listen_refused _ _ _ _ (Stops _ _ _ _ (LocalToldNo a _)) = ListenDenied a
  listen_refused _ _ _ _ (Stops _ _ _ _ (LocalToldCode _ c)) = LocalTold c
  listen_refused _ _ _ _ (GoesOn _ _ _ _ _ (LocalToldYes a _) (Stops _ _ _ _ (ListenToldCode _ c))) = ListenTold a c
  listen_refused _ _ _ _ (GoesOn _ _ _ _ _ (LocalToldYes a _) (GoesOn _ _ _ _ _ passed row)) = absurd (not_over row)

-- == a listen
-- the socket listens, or is about to
abbrev pub IsPastNot : Listening → Type 0
IsPastNot listening.Not = ⊥
IsPastNot _ = ⊤

module _ (m : Machine) (own : OpId) (handle place : ℕ) (r : TcpRecord) (n : Names m handle place r) where
  -- why it is refused, and what is left then
  abbrev ListenRefusedSo : List Entry → CodeWord → Machine → Type 0
  ListenRefusedSo es w after = (ListensLateAt m handle → ListenRefusal m own place r es w after) × ((after ≡ m) ⊎ (KnowsBound m handle after ⊎ OfRecord m handle (λ place r. after ≡ closed_by_listen m place r)))

  -- a listen as it was begun: it is pending, or is done, or is refused
  abbrev ListenRow : Rows (Result (Answer (Unit {0})) ErrorCode × TcpRecord)
  ListenRow es (Ok Pending, now) = EndsPending own es
  ListenRow es (Ok (Ready done), now) = Unit {0}
  ListenRow es (Err code, now) = ListenRefusedSo es (word_of_code code) (putting m place now)

  abbrev bound : Socket
  bound = record r.inner { bound = true }

  abbrev known : TcpRecord
  known = with_inner r bound

  module _ (es : List Entry) (is : IsBound own r.inner es) where
    past_default : IsPastDefault r.inner.state → ListenRow es (Err InvalidState, known)
    past_default past = (λ late. subst (λ (fs : List Entry). ListenRefusal m own place r fs word.InvalidState (knowing_bound m place r)) (sym (asked_none own r.inner es is past)) (PastStart past), inr (inl (here n refl)))

    module _ (side : OpId) (open_side : r.inner.state ≡ state.Default side) (nothing : r.listening ≡ listening.Not) where
      abbrev asker : Asker
      asker = record { op = own; side = side; maker = r.inner.maker }

      abbrev op : Operation
      op = listens asker (wildcard r.inner.family) r.inner.backlog

      abbrev taken : Socket
      taken = with_state bound (state.Closed Other)

      listen_poll_ended : (fs : List Entry) (end : End × List Item) → After (Polled op.who op.left) es fs end → ListenRow fs (listen_polled (record known { inner = taken; listening = listening.Begins op }) (listen_ended op.who taken end))
      listen_poll_ended fs (Waits, items) k =
          let w = ends_so op.who op.left k.rest (Waits, items) k.row in
          record { front = es ++ w.front; last = w.last; cut = k.cut ∙ (ap (λ (xs : List Entry). es ++ xs) w.cut ∙ sym (append_assoc es w.front (w.last ∷ []))); op = w.op; told = w.told }
      listen_poll_ended fs (Done given, items) k = tt
      listen_poll_ended fs (Refused c given, items) k = (λ late. rw k.cut (ListenRefused side es k.rest c open_side nothing is (listen_refused asker (wildcard r.inner.family) r.inner.backlog k.rest c given items k.row)), inr (inr (here n refl)))

    by_state : (st : TcpState) → r.inner.state ≡ st → r.listening ≡ listening.Not → Meets ListenRow es (listen_begun known (listen_start own bound true st))
    by_state (state.Default side) e nothing = onto _ (onto _ (widen (listen_poll_ended side e nothing) (shifted es (polled (op side e nothing) (tt, (tt, tt))))))
    by_state _ e nothing = ends (past_default (rw e tt))

    already : (st : TcpState) → r.inner.state ≡ st → IsPastNot r.listening → ListenRow es (Err InvalidState, known)
    already (state.Default side) e past = (λ late. let k : ListensLate r = rw (found_in n) at late in absurd (subst IsPastNot (k side e) past), inr (inl (here n refl)))
    already _ e past = past_default (rw e tt)

    by_listening : (l : Listening) → r.listening ≡ l → Meets ListenRow es (listen_once own known l)
    unfolding bind
    by_listening listening.Not e = by_state r.inner.state refl e
    by_listening _ e = ends (already r.inner.state refl (rw e tt))

  listen_by_bound : (es : List Entry) (b : Bool × Socket) → BoundRow own r.inner es b → Meets ListenRow es (listen_bound own (with_inner r b.1) b.0)
  listen_by_bound _ _ (ItsBound es is) = by_listening es is r.listening refl
  listen_by_bound _ _ (ItsFree side local free) = ends (put_back (ListenRefusedSo (entry own (call.Local side) local ∷ []) word.InvalidState) m place r n.at (λ late. NotBound side local free, inl refl))

  listen_begins : Meets ListenRow [] (begin_listen_asks own r)
  listen_begins = chain (bounds own r.inner) listen_by_bound

-- == a finish of a bind, or of a listen
-- it isn't in progress, and is refused; or it is, and is done; or there is no socket
finishes : {Row : Rows (Reply × Machine)} (is_it : Doing → Bool) (m : Machine) (handle : ℕ) → let HasNot : Type 0 = IsSomeAnd (record_at m handle) (λ r. is_it r.in_progress ≡ false) in
    (record_at m handle ≡ None → Row [] (reply.Trap NoSuchHandle, m)) → (HasNot → Row [] (reply.Err word.NotInProgress, m)) → ((HasNot → ⊥) → (after : Machine) → Row [] (reply.Ok no_fields, after))
    → let done = finish_on is_it m (socket_at m handle) in Meets Row [] (Give (done_reply done.0, done.1))
finishes {Row} is_it m handle gone refused done =
    on_number m handle (λ o. let given = finish_on is_it m o in Give (done_reply given.0, given.1)) (λ place o. let given = with_store m (finish_at is_it m.store place o) in Give (done_reply given.0, given.1)) (λ place. refl) (λ none. ends (gone none)) (λ none place. ends (gone none))
    (λ place r n. by_it place r n (is_it r.in_progress) refl)
  where
    by_it : (place : ℕ) (r : TcpRecord) → Names m handle place r → (b : Bool) → is_it r.in_progress ≡ b → let given = with_store m (finish_by m.store place r b) in Meets Row [] (Give (done_reply given.0, given.1))
    by_it place r n false e = ends (refused (rw (found_in n) e))
    by_it place r n true e = ends (done (λ k. let none : is_it r.in_progress ≡ false = rw (found_in n) at k in cc) _)

-- == the steps
module _ (contexts : List WasiSocketsCtx) (m : Machine) (line c handle : ℕ) where
  abbrev own : OpId
  own = own_of line

  -- with no operation in progress a code of what was begun is none of the start itself
  no_code : {place : ℕ} {r : TcpRecord} → Names m handle place r → is_nothing r.in_progress ≡ true → (code : ErrorCode) → Conflicts m handle (reply.Err (word_of_code code))
  no_code n idle code = no_conflict n idle _ (not_of_code code word.ConcurrencyConflict (λ no. no))

  module _ (network : ℕ) (a : IpSocketAddress) where
    -- == a bind
    bind_said : (place : ℕ) (r : TcpRecord) (n : Names m handle place r) → is_nothing r.in_progress ≡ true → (es : List Entry) (ended : Result (Answer (Unit {0})) ErrorCode × TcpRecord) → BindRow m own handle place r n a es ended → (Replied contexts m line (step.Call c (guest.Tcp (tcp_call.StartBind handle network a))) (answer_reply line)) es (with_store m (call_answered m.store (first_ids line) (StandingCall.Bind place P2) ended))
    bind_said place r n idle es (Ok Pending, now) h = (λ is. no_conflict n idle _ (λ e. cc), ((refl, refl), h))
    bind_said place r n idle es (Ok (Ready done), now) h = (λ is. no_conflict n idle _ (λ e. cc), (tt, tt))
    bind_said place r n idle es (Err code, now) h = (λ is. no_code n idle code, (inr (code_word code), (here n (Begins idle h.0), h.1)))

    pub start_bind : Meets (Says contexts m line (step.Call c (guest.Tcp (tcp_call.StartBind handle network a)))) [] (bind (start_bind_asks m (first_ids line) handle network a) (λ done. Give (answer_reply line done.0, done.1)))
    start_bind =
        onto _ (branch (is_network (kind_at m.table network))
        (λ is. on_idle m handle (start_bind_on m (first_ids line) a) (λ place o. start_bind_at m.store (first_ids line) place a o) (λ place r b. start_bind_by m.store (first_ids line) place a r b) refl (λ place. refl) (λ place. refl) (λ place r. refl) (λ place r. refl)
        (λ none. (λ is. none_conflicts m handle _ none (λ e. cc), (inr none, (refl, refl)))) (λ place r n e. (λ is. in_conflict n e, (inl refl, (here n (InProgress e refl refl refl), inl refl)))) (λ place r n idle. onto _ (widen (bind_said place r n idle) (bind_begins m own handle place r n a idle))))
        (λ no. ends (λ is. absurd (cc), (inl no, (refl, refl)))))

    -- == a connect
    connect_said : (place : ℕ) (r : TcpRecord) (n : Names m handle place r) → is_nothing r.in_progress ≡ true → (es : List Entry) (done : Result (Unit {0}) ErrorCode × TcpRecord) → ConnectRow m own handle place r n a es done → (Replied contexts m line (step.Call c (guest.Tcp (tcp_call.StartConnect handle network a))) done_reply) es (with_store m (answer_put m.store place done))
    connect_said place r n idle es (Ok done, now) h = (λ is. no_conflict n idle _ (λ e. cc), (tt, tt))
    connect_said place r n idle es (Err code, now) h = (λ is. no_code n idle code, (inr (code_word code), (here n (Begins idle h.0), h.1)))

    pub start_connect : Meets (Says contexts m line (step.Call c (guest.Tcp (tcp_call.StartConnect handle network a)))) [] (bind (start_connect_asks m own handle network a) (λ done. Give (done_reply done.0, done.1)))
    start_connect =
        onto _ (branch (is_network (kind_at m.table network))
        (λ is. on_idle m handle (start_connect_on m own a) (λ place o. start_connect_at m.store own place a o) (λ place r b. start_connect_by m.store own place a r b) refl (λ place. refl) (λ place. refl) (λ place r. refl) (λ place r. refl)
        (λ none. (λ is. none_conflicts m handle _ none (λ e. cc), (inr none, (refl, refl)))) (λ place r n e. (λ is. in_conflict n e, (inl refl, (here n (InProgress e refl refl refl), inl refl)))) (λ place r n idle. onto _ (widen (connect_said place r n idle) (connect_begins m own handle place r n a))))
        (λ no. ends (λ is. absurd (cc), (inl no, (refl, refl)))))

  -- == a listen
  listen_said : (place : ℕ) (r : TcpRecord) (n : Names m handle place r) → is_nothing r.in_progress ≡ true → (es : List Entry) (done : Result (Answer (Unit {0})) ErrorCode × TcpRecord) → ListenRow m own handle place r n es done → (Replied contexts m line (step.Call c (guest.Tcp (tcp_call.StartListen handle))) (answer_reply line)) es (with_store m (call_answered m.store (first_ids line) (StandingCall.Listen place None) done))
  listen_said place r n idle es (Ok Pending, now) h = (no_conflict n idle _ (λ e. cc), ((refl, refl), h))
  listen_said place r n idle es (Ok (Ready done), now) h = (no_conflict n idle _ (λ e. cc), (tt, tt))
  listen_said place r n idle es (Err code, now) h = (no_code n idle code, (inr (code_word code), (λ late. here n (Begins idle (h.0 late)), h.1)))

  pub start_listen : Meets (Says contexts m line (step.Call c (guest.Tcp (tcp_call.StartListen handle)))) [] (bind (start_listen_on m (first_ids line) (socket_at m handle)) (λ done. Give (answer_reply line done.0, done.1)))
  start_listen =
      onto _ (on_idle m handle (start_listen_on m (first_ids line)) (λ place o. start_listen_at m.store (first_ids line) place o) (λ place r b. start_listen_by m.store (first_ids line) place r b) refl (λ place. refl) (λ place. refl) (λ place r. refl) (λ place r. refl)
      (λ none. (none_conflicts m handle _ none (λ e. cc), (none, (refl, refl)))) (λ place r n e. (in_conflict n e, (inl refl, (λ late. here n (InProgress e refl refl refl), inl refl)))) (λ place r n idle. onto _ (widen (listen_said place r n idle) (listen_begins m own handle place r n))))

  pub finish_bind : let done = finish_on is_bind m (socket_at m handle) in Meets (Says contexts m line (step.Call c (guest.Tcp (tcp_call.FinishBind handle)))) [] (Give (done_reply done.0, done.1))
  finish_bind =
      finishes is_bind m handle (λ none. ((refl, apart (λ e. cc) (none_has _ (record_at m handle) none)), (none, (refl, refl)))) (λ none. ((refl, (λ e. none, λ k. refl)), (refl, refl))) (λ some after. ((refl, apart (λ e. cc) some), (tt, tt)))

  pub finish_listen : let done = finish_on is_listen m (socket_at m handle) in Meets (Says contexts m line (step.Call c (guest.Tcp (tcp_call.FinishListen handle)))) [] (Give (done_reply done.0, done.1))
  finish_listen =
      finishes is_listen m handle (λ none. ((refl, apart (λ e. cc) (none_has _ (record_at m handle) none)), (none, (refl, refl)))) (λ none. ((refl, (λ e. none, λ k. refl)), (refl, refl))) (λ some after. ((refl, apart (λ e. cc) some), (tt, tt)))

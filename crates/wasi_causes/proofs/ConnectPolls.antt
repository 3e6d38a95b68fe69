-- A poll of a call that stands beside other calls: of a connect, and of a lookup.
use Rattle.wasi_causes.proofs.Words.{◌≡◌, ℕ, true, false, List, [], Some, None, Result, Ok, Err}
use Rattle.wasi_causes.proofs.Words.{refl, sym, subst, inl, inr, IsSomeAnd, Answer, Pending, Ready, Entry, ErrorCode}
use Rattle.wasi_causes.proofs.Words.{InvalidState, Item, End, Waits, Done, Refused, Machine, Operation, Reply, TcpRecord, TcpState}
use Rattle.wasi_causes.proofs.Words.{WasiSocketsCtx, Trap, NoSuchHandle, Stop, no_fields, p3_word, putting}
use Rattle.wasi_causes.proofs.Words.{with_inner, with_store, with_state, finish_in, connect_ended, in_socket, resumed}
use Rattle.wasi_causes.proofs.Words.{resumed_reply, with_socket, stands_as, Records}
use Rattle.wasi_tcp.specs.declared.socket.TcpState.TheVariants as state
use Rattle.wasi_tcp.specs.Connecting.{new_connection}
use Rattle.wasi_records.specs.Records.{tcp2_at}
use Rattle.tcp_records.specs.Sockets.{inner_answered}
use Rattle.record_common.specs.Stops.{Code}
use Rattle.host_store.specs.declared.beside.Beside.{Beside}
use Rattle.host_store.specs.declared.beside.BesideCall.{BesideCall}
use Rattle.host_store.specs.declared.beside.BesideCall.TheVariants.{Connect, Receive, Resolve, Send}
use Rattle.host_store.specs.declared.kind.Interface.TheVariants.{P3}
use Rattle.wasi_host.specs.declared.pending.Outcome.{Outcome as Given}
use Rattle.host_store.specs.BaseStops.{BaseStop}
use Rattle.host_store.specs.Beside.{beside_of, beside_polled, stands_under}
use Rattle.host_store.specs.Lines.{Answered}
use Rattle.host_store.specs.Block.{Call, last}
use Rattle.host_tcp.specs.Connects.{reconnect_in, reconnects}
use Rattle.wasi_host.specs.Pending.{answered_on, go_on_beside, outcome_of}
use Rattle.wasi_steps.specs.declared.reply.Reply.TheVariants as reply
use Rattle.wasi_steps.specs.declared.step.Step.TheVariants as step
use Rattle.wasi_walks.specs.Answered.{ConnectsOn}
use Rattle.wasi_walks.specs.Waiting.{call_over, left_missing}
use Rattle.wasi_causes.proofs.Beside.{beside_call, is_beside, none_of, not_both}
use Rattle.wasi_causes.proofs.operations.ConnectEnds.{ConnectEnd, connect_ends_so}
use Rattle.wasi_causes.proofs.resolving.P3ResolvePolls.{lookup_resumes}
use Rattle.wasi_causes.proofs.sockets.P3DatagramPolls.{receive_resumes, send_resumes}
use Rattle.wasi_causes.proofs.tables.Meets.{Meets, Rows, ends, granted, onto, widen}
use Rattle.wasi_causes.proofs.tables.Routes.{apart, calls, finds, put_same}
use Rattle.wasi_causes.specs.Outcomes.{BlockedGoesOn, Outcome}
use Rattle.wasi_causes.specs.P3Connects.{BesidePolled, ConnectsStill, EndsOver, GoesOnBeside, IsBeside, IsClosed, IsConnected, StaysPending}
use Rattle.wasi_causes.specs.P3Connects.{IsOver, NeverBegan, OverDone, OverGone, OverRefused, SocketIsGone, SocketPolled}
use Rattle.wasi_causes.specs.P3Connects.{WasClosedBefore, WasConnected, with_socket_as}

module _ (contexts : List WasiSocketsCtx) (m : Machine) (line n : ℕ) (other : stands_as m.store.standing n ≡ false)
    (no_blocking : (es : List Entry) (r : Reply) (after : Machine) → BlockedGoesOn contexts m n es r after) where
  abbrev Row : Rows (Reply × Machine)
  Row es done = Outcome contexts m line (step.Poll n) es done.0 done.1

  abbrev GoneRow : Rows (Result (Answer Given) Stop × Machine)
  GoneRow es done = Row es (resumed_reply n (resumed done).0, (resumed done).1)

  -- of a connect on this record
  module _ (b : Beside) (is : beside_of m.store n ≡ Some b) (place : ℕ) (call : b.call ≡ Connect place) where
    abbrev Why : List Entry → Reply → Machine → Type 0
    Why es r after = GoesOnBeside m n es r after (Connect place)

    on : stands_under m.store n ≡ true
    on = beside_call m n is

    beside : IsBeside m n
    beside = is_beside m n other is

    its_why : (es : List Entry) (r : Reply) (after : Machine) → Why es r after → IsSomeAnd (beside_of m.store n) (λ b. GoesOnBeside m n es r after b.call)
    its_why es r after why = rw is (rw call why)

    -- it is over, and leaves this socket
    over_row : (es : List Entry) (r : Reply) (r_now : TcpRecord) → let after : Machine = call_over (putting m place r_now) n in IsOver r → Why es r after → BesidePolled m n es r after
    over_row es r now over why = record { handles = refl; exclusive = refl; ends = rw is (EndsOver r (call_over (putting m place now) n) over refl); why = its_why es r _ why }

    module _ (r : TcpRecord) (at : tcp2_at m.store.records place ≡ Some r) where
      abbrev Socket : List Entry → Reply → Machine → Type 0
      Socket es said after = ConnectsOn r.inner.state → SocketPolled m n place r es said after

      -- the record is there
      there : (es : List Entry) (said : Reply) (after : Machine) → Socket es said after → Why es said after
      there es said after why = (λ none. absurd (cc), λ q found connects. let its : r ≡ q = cc in subst (λ (x : TcpRecord). SocketPolled m n place x es said after) its (why (subst (λ (x : TcpRecord). ConnectsOn x.inner.state) (sym its) connects)))

      done_row : (es : List Entry) (now : TcpRecord) → let after : Machine = call_over (putting m place now) n in Socket es (reply.Ok no_fields) after → Row es (reply.Ok no_fields, after)
      done_row es now why =
          let after : Machine = call_over (putting m place now) n in
          let polled = over_row es (reply.Ok no_fields) now OverDone (there es (reply.Ok no_fields) after why) in
          ((apart (λ e. cc) (λ none. not_both (stands_under m.store n) on none), λ stands. absurd (cc), no_blocking es (reply.Ok no_fields) after, λ b. polled), (inl (inl tt), inr (beside, rw is (rw call refl))))

      refused_row : (es : List Entry) (code : ErrorCode) (now : TcpRecord) → let after : Machine = call_over (putting m place now) n in Socket es (reply.Err (p3_word code)) after → Row es (reply.Err (p3_word code), after)
      refused_row es code now why =
          let after : Machine = call_over (putting m place now) n in
          let polled = over_row es (reply.Err (p3_word code)) now (OverRefused code) (there es (reply.Err (p3_word code)) after why) in
          ((apart (λ e. cc) (λ none. not_both (stands_under m.store n) on none), λ stands. absurd (cc), no_blocking es (reply.Err (p3_word code)) after, λ b. polled), (inr (inl (record { code = code; is = refl })), (inr beside, refl)))

      waits_row : (es : List Entry) (now : TcpRecord) → let after : Machine = putting m place now in Socket es (reply.Pending n) after → Row es (reply.Pending n, after)
      waits_row es now why =
          let after : Machine = putting m place now in
          let polled : BesidePolled m n es (reply.Pending n) after = record { handles = refl; exclusive = refl; ends = rw is (rw call (StaysPending after refl)); why = its_why es (reply.Pending n) after (there es (reply.Pending n) after why) } in
          ((apart (λ e. cc) (λ none. not_both (stands_under m.store n) on none), λ stands. absurd (cc), no_blocking es (reply.Pending n) after, λ b. polled), ((refl, inr (rw is refl)), (inr beside, refl, λ k. refl)))

      abbrev ToldRow : Rows (Answered × TcpRecord)
      ToldRow es (Ok Pending, now) = Socket es (reply.Pending n) (putting m place now)
      ToldRow es (Ok (Ready done), now) = Socket es (reply.Ok no_fields) (call_over (putting m place now) n)
      ToldRow es (Err code, now) = Socket es (reply.Err (p3_word code)) (call_over (putting m place now) n)

      abbrev StateRow : Rows (Answered × TcpState)
      StateRow es done = ToldRow es (inner_answered r (in_socket r.inner done))

      -- the record is as it was
      same_record : (st : TcpState) → r.inner.state ≡ st → (said : Reply) → SocketPolled m n place r [] said (call_over m n) → SocketPolled m n place r [] said (call_over (putting m place (with_inner r (with_state r.inner st))) n)
      same_record st e said k = subst (λ (x : TcpState). SocketPolled m n place r [] said (call_over (putting m place (with_inner r (with_state r.inner x))) n)) e (subst (λ (now : Machine). SocketPolled m n place r [] said (call_over now n)) (sym (put_same m place r at)) k)

      module _ (op : Operation) (e : r.inner.state ≡ state.Connecting op) where
        ended : (es : List Entry) (end : End × List Item) → (ConnectsOn (state.Connecting op) → ConnectEnd op es end) → StateRow es (connect_ended op.who end)
        ended es (Waits, items) h = λ connects. ConnectsStill op items es e (h (rw e at connects))
        ended es (Done given, items) h = λ connects. subst (λ (xs : List Entry). SocketPolled m n place r xs (reply.Ok no_fields) (call_over (with_socket_as m place r (with_state r.inner (state.Connected (new_connection op.who.side)))) n)) (sym (h (rw e at connects))) (IsConnected op e)
        ended es (Refused code given, items) h = λ connects. IsClosed op es code e (h (rw e at connects))

      by_state : (st : TcpState) → r.inner.state ≡ st → Meets StateRow [] (finish_in st)
      by_state (state.Connecting op) e = onto _ (widen (ended op e) (granted (connect_ends_so op)))
      by_state (state.Connected connection) e = ends (λ connects. same_record (state.Connected connection) e (reply.Ok no_fields) (WasConnected connection e))
      by_state (state.Closed code) e = ends (λ connects. same_record (state.Closed code) e (reply.Err (p3_word code)) (WasClosedBefore code e))
      by_state (state.Default side) e = ends (λ connects. same_record (state.Default side) e (reply.Err (p3_word InvalidState)) (NeverBegan (rw e tt)))
      by_state (state.Listening side) e = ends (λ connects. same_record (state.Listening side) e (reply.Err (p3_word InvalidState)) (NeverBegan (rw e tt)))

      polls : Meets ToldRow [] (reconnects r)
      polls = onto _ (onto _ (by_state r.inner.state refl))

    -- by the record
    abbrev StoreRow : Rows (Result (Answer (Unit {0})) BaseStop × Records)
    StoreRow es done = GoneRow es (answered_on outcome_of P3 (with_store m (beside_polled n done)))

    gone_row : tcp2_at m.store.records place ≡ None → StoreRow [] (Err (Trap NoSuchHandle), m.store)
    gone_row none =
        let after : Machine = call_over m n in
        let gone : SocketIsGone m n [] (reply.Trap NoSuchHandle) after = (refl, refl, refl) in
        let why : Why [] (reply.Trap NoSuchHandle) after = (λ k. gone, λ q found connects. absurd (cc)) in
        let polled : BesidePolled m n [] (reply.Trap NoSuchHandle) after = record { handles = refl; exclusive = refl; ends = rw is (EndsOver (reply.Trap NoSuchHandle) after OverGone refl); why = its_why [] (reply.Trap NoSuchHandle) after why } in
        ((apart (λ e. cc) (λ none. not_both (stands_under m.store n) on none), λ stands. absurd (cc), no_blocking [] (reply.Trap NoSuchHandle) after, λ b. polled), (inr (other, rw is (rw call none)), λ live. (refl, left_beside)))
      where
        left_beside : call_over m n ≡ left_missing m (step.Poll n)
        left_beside = rw (none_of m.store.standing n other, is, call) refl

    its : Meets StoreRow [] (reconnect_in place m.store)
    its =
        finds (λ r. last (Call Code (λ store. r) (λ store now. with_socket store place now) reconnects)) (tcp2_at m.store.records place) gone_row
        (λ r at. calls {Mid = ToldRow r at} _ (polls r at) (λ es code now h. ends (refused_row r at es code now h)) (λ es answer now h. ends (by_answer r at es answer now h)))
      where
        by_answer : (r : TcpRecord) (at : tcp2_at m.store.records place ≡ Some r) (es : List Entry) (answer : Answer (Unit {0})) (now : TcpRecord) → ToldRow r at es (Ok answer, now) → StoreRow es (Ok answer, with_socket m.store place now)
        by_answer r at es Pending now h = waits_row r at es now h
        by_answer r at es (Ready done) now h = done_row r at es now h

  by_call : (b : Beside) → beside_of m.store n ≡ Some b → (call : BesideCall) → b.call ≡ call → Meets GoneRow [] (go_on_beside m n call)
  by_call b is (Connect place) call = onto _ (onto _ (its b is place call))
  by_call b is (Resolve host) call = lookup_resumes contexts m line n other no_blocking b is host call
  by_call b is (Send place op) call = send_resumes contexts m line n other no_blocking b is place op call
  by_call b is (Receive place op) call = receive_resumes contexts m line n other no_blocking b is place op call

  pub resumes_beside : (b : Beside) → beside_of m.store n ≡ Some b → Meets GoneRow [] (go_on_beside m n b.call)
  resumes_beside b is = by_call b is b.call refl

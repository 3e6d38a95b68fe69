-- Polls of listens of 0.3 that are pending.
use Rattle.wasi_causes.proofs.Words.{◌≡◌, ◌∙◌, ◌∷◌, ◌++◌, ℕ, Bool, if◌then◌else◌, List, [], Option, Some, None, Result}
use Rattle.wasi_causes.proofs.Words.{Ok, Err, refl, ap, subst, sym, Answer, Done, End, Entry, ErrorCode, Given, Item, Listening, Machine, OpId, Operation, Pending, Ready, Refused, Reply, Waits}
use Rattle.wasi_causes.proofs.Words.{Records, Standing, StandingCall, Stop, TcpRecord, WasiSocketsCtx, call_of, eq-eqb, nothing_stands, resume_asks, resume_call, resumed, resumed_reply, standing_as, unstood}
use Rattle.wasi_causes.proofs.Words.{closed_listening, entry, listen_ended, listen_polled, number_fields, own_of, poll_begun, poll_listening, with_socket}
use Rattle.wasi_world.specs.declared.ids.Ids.{Ids}
use Rattle.wasi_causes.proofs.Beside.{polls_itself}
use Rattle.wasi_causes.proofs.operations.Polls.{listen_in_table}
use Rattle.wasi_causes.proofs.tables.Meets.{Meets, Rows, branch, chain, ends, met, onto, widen}
use Rattle.wasi_causes.proofs.tables.Routes.{calls, makes}
use Rattle.wasi_causes.specs.P3Listens.{HasNoRoom, IsDone, IsRefused, ListenPolled, WaitsStill, as_listener, left_polled, with_listener}
use Rattle.wasi_causes.specs.Polls.{Polled}
use Rattle.wasi_host.specs.declared.pending.Outcome.{Outcome}
use Rattle.host_store.specs.declared.kind.Interface.TheVariants.{P3}
use Rattle.host_store.specs.declared.kind.Kind.TheVariants.{Listen3}
use Rattle.host_store.specs.declared.store.StandingCall.TheVariants.{Listen}
use Rattle.host_store.specs.BaseStops.{BaseStop, trap_of}
use Rattle.host_store.specs.Lines.{Answered, keeps}
use Rattle.host_tcp.specs.Binds.{bind_told}
use Rattle.host_store.specs.Block.{Call, Does, Read, after_call, give, goes_on, or_trap, ◌>>=◌}
use Rattle.host_store.specs.Kinds.{make_asks}
use Rattle.host_store.specs.Lines.{tabling}
use Rattle.host_tcp.specs.Listens.{listened, make_listener, relisten_in, relisten_of, relistens}
use Rattle.host_store.specs.Machine.{side_at, tcp3_at}
use Rattle.wasi_host.specs.Pending.{answered_on, handle_outcome}
use Rattle.wasi_machine.specs.Machine.{asks_while, is_held_up}
use Rattle.tcp_records.specs.declared.tcp_listening.Listening.TheVariants as listening
use Rattle.wasi_records.specs.Records.{tcp2_at}
use Rattle.record_common.specs.Stops.{Code}
use Rattle.wasi_steps.specs.declared.reply.Reply.TheVariants as reply
use Rattle.wasi_steps.specs.declared.step.Step.TheVariants as step
use Rattle.wasi_tcp.specs.Listen.{is_over}
use Rattle.wasi_walks.proofs.Places.{put_finds, tcp_sort}
use Rattle.wasi_walks.specs.Answered.{Answered as AnsweredBy}
use Rattle.wasi_walks.specs.Waiting.{IsListening}
use Rattle.wasi_world.specs.declared.call.Call.TheVariants as call
use Rattle.wasi_world.specs.declared.call.HandleKind.TheVariants as name
use Rattle.wasi_world.specs.declared.call.Told.TheVariants as told

module _ (contexts : List WasiSocketsCtx) (m : Machine) (line : ℕ) (ids : Ids) (place handle : ℕ) (stands : m.store.standing ≡ Some (standing_as ids (Listen place (Some handle)))) (names : tcp3_at m handle ≡ Some place)
    (r : TcpRecord) (at : tcp2_at m.store.records place ≡ Some r) (op : Operation) (is : r.listening ≡ listening.Begins op) (its : IsListening r.inner.state (listening.Begins op)) where
  abbrev n : ℕ
  n = ids.line

  abbrev its_call : StandingCall
  its_call = Listen place (Some handle)

  abbrev free : Records
  free = unstood m.store

  abbrev Row : Rows (Reply × Machine)
  Row es done = ListenPolled m n handle place r op es done.0 done.1

  abbrev ResumedRow : Rows (Result (Option (Answer Outcome)) Stop × Machine)
  ResumedRow es done = Row es (resumed_reply n done.0, done.1)

  abbrev GoneRow : Rows (Result (Answer ℕ) BaseStop × Machine)
  GoneRow es done = ResumedRow es (resumed (answered_on handle_outcome P3 done))

  -- It is done, and these are the records.
  record IsOver (es : List Entry) (store : Records) : Type 0 where
    given : Given
    items : List Item
    ends_so : Polled op.who op.left es (Done given, items)
    left : store ≡ with_socket free place (as_listener r op.who.side op.who.context r.inner)

  abbrev StoreRow : Rows (Result (Answer (Unit {0})) BaseStop × Records)
  StoreRow es (Ok Pending, store) = GoneRow es (Ok Pending, record m { store = store })
  StoreRow es (Ok (Ready done), store) = IsOver es store
  StoreRow es (Err stop, store) = GoneRow es (Err stop, record m { store = store })

  -- what the socket answers, and the call with it
  abbrev ToldRow : Rows (Answered × TcpRecord)
  ToldRow es (Ok answer, now) = Meets StoreRow es (keeps ids its_call answer (with_socket free place now))
  ToldRow es (Err code, now) = StoreRow es (Err (Code code), with_socket free place now)

  ended : (es : List Entry) (end : End × List Item) → Polled op.who op.left es end → ToldRow es (bind_told P3 (listen_polled r (listen_ended op.who r.inner end)))
  ended es (Waits, items) k =
      let now : TcpRecord = (listen_polled r (listen_ended op.who r.inner (Waits, items))).1 in
      ends (subst (λ (s : Option Standing). Row es (reply.Pending n, record m { store = record (with_socket m.store place now) { standing = s } })) stands (WaitsStill es items k))
  ended es (Done given, items) k = ends (record { given = given; items = items; ends_so = k; left = refl })
  ended es (Refused code given, items) k = IsRefused es code given items k

  begun : Meets (λ es done. ToldRow es (bind_told P3 done)) [] (poll_begun r op)
  begun = onto _ (branch (is_over op) (λ over. let going = its.2 in absurd (cc)) (λ on. onto _ (widen ended (listen_in_table op its.1))))

  polls_listen : Meets ToldRow [] (relistens r)
  polls_listen =
      onto _ (subst (λ (o : Option OpId). Meets (λ es done. ToldRow es (bind_told P3 done)) [] (closed_listening r o)) (sym its.3)
      (subst (λ (l : Listening). Meets (λ es done. ToldRow es (bind_told P3 done)) [] (poll_listening r l)) (sym is) begun))

  abbrev next : TcpRecord → Does ErrorCode Records (Answer (Unit {0}))
  next r = goes_on (Call Code (λ store. r) (λ store now. with_socket store place now) relistens) (keeps ids its_call)

  in_records : Meets StoreRow [] (relisten_in ids handle place free)
  in_records = subst (λ (x : Option TcpRecord). Meets StoreRow [] (or_trap next free x)) (sym at) (calls {Mid = ToldRow} _ polls_listen (λ es code now h. ends h) (λ es answer now h. h))

  -- == its listener gets a handle
  abbrev now_listens : Machine
  now_listens = left_polled m place r op

  its_side : side_at (tcp2_at now_listens.store.records place) ≡ r.side
  its_side = ap side_at (put_finds tcp_sort m.store.records place r (as_listener r op.who.side op.who.context r.inner) at)

  module _ (es : List Entry) (given : Given) (items : List Item) (over : Polled op.who op.left es (Done given, items)) where
    marked : (side : Option OpId) → side ≡ r.side → Meets GoneRow es (goes_on (Call trap_of (λ m. m.table) tabling (λ t. make_asks t (own_of n) (Listen3 place) (Some handle) side)) (λ listener. give (Ready listener)) now_listens)
    marked side e =
        chain {Mid = λ fs made. Meets GoneRow fs (after_call trap_of tabling (λ listener. give (Ready listener)) now_listens made)}
        (makes m.table (own_of n) (Listen3 place) (Some handle) side (λ full. ends (HasNoRoom es given items over full))
        (ends (subst (λ (s : Option OpId). Row (es ++ entry (own_of n) (call.Made m.table.next name.Listen3 (Some handle) s) told.Done ∷ []) (reply.Ok (number_fields m.table.next), with_listener now_listens place handle)) (sym e) (IsDone es given items over))))
        (λ fs made k. k)

    makes_so : Meets GoneRow es (make_listener (own_of n) handle now_listens)
    makes_so = subst (λ (o : Option ℕ). Meets GoneRow es (or_trap (λ place. Read (λ m. side_at (tcp2_at m.store.records place)) >>= λ side. Call trap_of (λ m. m.table) tabling (λ t. make_asks t (own_of n) (Listen3 place) (Some handle) side) >>= λ listener. give (Ready listener)) now_listens o)) (sym names) (marked (side_at (tcp2_at now_listens.store.records place)) its_side)

  after_store : (es : List Entry) (answer : Answer (Unit {0})) (store : Records) → StoreRow es (Ok answer, store) → Meets GoneRow es (listened (own_of n) handle answer (record m { store = store }))
  after_store es Pending store row = ends row
  after_store es (Ready done) store row = subst (λ (s : Records). Meets GoneRow es (make_listener (own_of n) handle (record m { store = s }))) (sym row.left) (makes_so es row.given row.items row.ends_so)

  goes : Meets GoneRow [] (relisten_of ids handle place (nothing_stands m))
  goes = calls {Mid = StoreRow} _ in_records (λ es why store row. ends row) after_store

  found : call_of m.store.standing n ≡ Some (standing_as ids its_call)
  found = ap (λ (x : Option Standing). call_of x n) stands ∙ ap (λ (b : Bool). let its : Option Standing = if b then Some (standing_as ids its_call) else None in its) (eq-eqb n n refl)

  resumes : Meets ResumedRow [] (resume_asks m n)
  resumes = subst (λ (x : Option Standing). Meets ResumedRow [] (resume_call m n x)) (sym found) (onto _ (onto _ goes))

  by_standing : (x : Option Standing) → m.store.standing ≡ x → Meets Row [] (asks_while contexts m line (step.Poll n) x)
  by_standing None e = let none : None ≡ Some (standing_as ids its_call) = sym e ∙ stands in absurd (cc)
  by_standing (Some s) e = branch (is_held_up m.store (step.Poll n)) (λ held. let free = polls_itself m ids its_call stands in absurd (cc)) (λ other. onto _ resumes)

  pub listen_polled_so : (es : List Entry) (r' : Reply) (after : Machine) → AnsweredBy contexts m line (step.Poll n) es r' after → ListenPolled m n handle place r op es r' after
  listen_polled_so es r' after w = met {a = (r', after)} (by_standing m.store.standing refl) w

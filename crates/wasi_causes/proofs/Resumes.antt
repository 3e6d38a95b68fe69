-- A poll of the pending call.
use Rattle.host_store.specs.declared.store.BlockingCall.{BlockingCall}
use Rattle.wasi_causes.proofs.pollables.Polls.{blocked_goes_on}
use Rattle.wasi_records.specs.Records.{tcp2_at, udp2_at, open_at}
use Rattle.udp_records.specs.Udp.{open_of}
use Rattle.tcp_records.specs.declared.tcp_binding.InProgress.TheVariants.{Binding}
use Rattle.wasi_walks.proofs.walks.States.{stands_so as stands_under_it}
use Rattle.host_store.specs.declared.beside.Beside.{Beside}
use Rattle.host_store.specs.Beside.{beside_of}
use Rattle.wasi_host.specs.Pending.{resume_beside}
use Rattle.wasi_causes.proofs.Beside.{no_call}
use Rattle.wasi_causes.proofs.ConnectPolls.{resumes_beside}
use Rattle.wasi_causes.proofs.Words.{Answer, BindFailed, BindFails, BindWaits, Bool, CallWaits, Done, End, EndsPending, Entry, Err, ErrorCode, Full, Give, IfSome, InProgress, InvalidState, IsBinding, IsRestOfBind}
use Rattle.wasi_causes.proofs.Words.{IsSome, IsSomeAnd, Item, List, Machine, NoSuchHandle, None, Ok, Operation, Option, Pending, PendingCallsFit, Ready, Records, Refused, Reply, Result, Some}
use Rattle.wasi_causes.proofs.Words.{Standing, StandingCall, Stop, TcpRecord, Waits, WasiSocketsCtx, [], allowed_answer, ap, bind, bind_ended, call_of, entry, eq-eqb, false, go_on, if◌then◌else◌, inl}
use Rattle.wasi_causes.proofs.Words.{inr, marks_in, nothing_stands, name_of, number_fields, own_of, poll_binding, refl, resume_asks, resume_call}
use Rattle.wasi_causes.proofs.Words.{resumed_reply, standing_as, stands_as, subst, sym, true, with_handle, with_socket, with_store, ℕ, ◌++◌, ◌+◌, ◌==◌, ◌∙◌, ◌∷◌, ◌≡◌}
use Rattle.wasi_world.specs.declared.ids.Ids.{Ids}
use Rattle.wasi_causes.proofs.operations.Polls.{EndsFor, bind_ends as bind_polls}
use Rattle.wasi_causes.proofs.streams.Halves.{OutputRow, outputs}
use Rattle.wasi_causes.proofs.tables.Meets.{Rows, Meets, ends, onto, widen, granted}
use Rattle.wasi_causes.proofs.tables.Routes.{full_so, calls, finds}
use Rattle.wasi_causes.specs.Outcomes.{Outcome}
use Rattle.wasi_causes.specs.Udp.{GivesBy}
use Rattle.wasi_host.specs.Pending.{answered_on, handle_outcome, outcome_of, streams_on}
use Rattle.wasi_causes.proofs.udp_streams.Makes.{makes_both, marks_of}
use Rattle.wasi_causes.proofs.operations.ConnectPolls.{ConnectRow, udp_connect_gives}
use Rattle.wasi_causes.proofs.operations.Marks.{poll_marks_none}
use Rattle.wasi_causes.specs.Datagrams.{LacksRoomForStreams, PendingHandleIsLive, with_both}
use Rattle.host_udp.specs.DatagramCalls.{drop_outgoing_at, drop_outgoing_by, mark_streams, mark_streams_of, reconnect_udp_at, remake_streams_asks, streams_so}
use Rattle.udp_records.specs.Datagrams.{poll_udp_connecting, sends, udp_connect_ended, udp_connect_left, udp_reconnect_asks, udp_reconnect_ended, udp_reconnecting}
use Rattle.host_store.specs.Machine.{udp_socket_at}
use Rattle.wasi_steps.specs.Reply.{pair_fields}
use Rattle.wasi_causes.proofs.operations.Polls.{CreateFails, create_ends, udp_bind_ends}
use Rattle.wasi_causes.proofs.sockets.UdpCreates.{marks_udp}
use Rattle.wasi_causes.proofs.tables.Meets.{chain, both}
use Rattle.wasi_causes.specs.Udp.{MakesOneHandle}
use Rattle.udp_records.specs.Udp.{opened_udp, poll_create_asks, udp_create_ended, udp_bind_ended, poll_udp_binding}
use Rattle.host_store.specs.GivingBack.{given_back}
use Rattle.wasi_records.specs.declared.records.Record.{Record}
use Rattle.wasi_causes.proofs.GivenBack.{put_gone}
use Rattle.host_udp.specs.UdpConnects.{udp_reconnect_of}
use Rattle.host_udp.specs.UdpCalls.{udp_left, udp_call_answered}
use Rattle.host_store.specs.Store.{with_udp, with_open_udp}
use Rattle.host_udp.specs.UdpCreates.{create_answered, poll_create_at, create_so, create_on}
use Rattle.host_store.specs.BaseStops.{BaseStop}
use Rattle.host_store.specs.Lines.{Answered, keeps}
use Rattle.host_tcp.specs.Binds.{bind_told, rebind_of, rebinds as tcp_rebinds}
use Rattle.host_udp.specs.UdpBinds.{udp_bind_told, udp_rebind_of, udp_rebinds as its_rebinds}
use Rattle.host_store.specs.Block.{Call, goes_on}
use Rattle.host_store.specs.Standing.{stood}
use Rattle.host_store.specs.Kinds.{udp_kind}
use Rattle.host_store.specs.declared.kind.Interface.{Interface}
use Rattle.host_store.specs.declared.kind.Interface.TheVariants.{P2, P3}
use Rattle.record_common.specs.Stops.{Code}
use Rattle.wasi_walks.specs.Waiting.{word_for}
use Rattle.udp_records.specs.declared.udp.OpenUdp.{OpenUdp}
use Rattle.udp_records.specs.declared.udp.UdpRecord.{UdpRecord}
use Rattle.udp_records.specs.declared.udp.UdpRecord.TheVariants as udp
use Rattle.udp_records.specs.declared.udp.UdpInProgress.{UdpInProgress}
use Rattle.udp_records.specs.declared.udp.UdpInProgress.TheVariants as doing
use Rattle.wasi_udp.specs.Bind.{IsBind as IsUdpBind}
use Rattle.wasi_udp.specs.Create.{Create, made_by, with_left}
use Rattle.wasi_walks.specs.Waiting.{CreateFailed, CreateWaits, IsCreating, IsRestOfUdpConnect, IsUdpBinding, IsUdpConnecting, UdpConnect3Failed, UdpConnectFailed, UdpConnectWaits, UdpBindFailed, UdpBindFails, UdpBindWaits}
use Rattle.wasi_host.specs.declared.pending.Outcome.{Outcome as Given}
use Rattle.wasi_udp.specs.Connect.{with_given}
use Rattle.wasi_world.specs.Operation.{Given as GivenByConnect}
use Rattle.host_store.specs.declared.store.StandingCall.TheVariants.{Bind, Listen, DropOutput}
use Rattle.wasi_steps.specs.declared.reply.Reply.TheVariants as reply
use Rattle.wasi_steps.specs.declared.step.Step.TheVariants as step
use Rattle.wasi_world.specs.declared.call.Call.TheVariants as call
use Rattle.wasi_world.specs.declared.call.Told.TheVariants as told
use Rattle.wasi_walks.proofs.Places.{put_finds, udp_sort}
use Rattle.wasi_causes.proofs.resuming.Rows as rows
use Rattle.wasi_causes.proofs.resuming.Rows.{Due, done, fails, gives_none, it_ends, missing, waits}
use Rattle.wasi_causes.proofs.resuming.Listens.{relistens, relists}

module _ (contexts : List WasiSocketsCtx) (m : Machine) (line : ℕ) (ids : Ids) where
  -- its number
  abbrev n : ℕ
  n = ids.line

  abbrev Row : Rows (Reply × Machine)
  Row = rows.Row contexts m line ids

  abbrev GoneRow : Rows (Result (Answer Given) Stop × Machine)
  GoneRow = rows.GoneRow contexts m line ids

  abbrev CallRow : Rows (Result (Answer (Unit {0})) Stop × Records)
  CallRow = rows.CallRow contexts m line ids

  abbrev Under : StandingCall → Type 0
  Under = rows.Under contexts m line ids

  abbrev free : Records
  free = rows.free contexts m line ids

  -- == of a drop
  of_output : (place : ℕ) → Under (DropOutput place) → (es : List Entry) (done : Answer (Unit {0}) × Records) → OutputRow free ids place es done → CallRow es (allowed_answer done)
  of_output place stands es (Ready given, store) k = done contexts m line ids (DropOutput place) stands (λ k. k) es (record m { store = store }) k.1 (refl, refl)
  of_output place stands es (Pending, store) k = waits contexts m line ids (DropOutput place) stands (λ k. k) es (record m { store = store }) refl k.1 (λ binds. k.0 m refl)

  -- == of a bind
  abbrev BoundRow : Interface → Rows (Result (Answer (Unit {0})) BaseStop × Records)
  BoundRow face es done = GoneRow es (answered_on outcome_of face (with_store (nothing_stands m) done))

  module _ (place : ℕ) (face : Interface) (stands : Under (Bind place face)) where
    abbrev bind_call : StandingCall
    bind_call = Bind place face

    -- a code is told by the word of its interface
    bind_refused : (es : List Entry) (store : Records) (code : ErrorCode) → Row es (reply.Err (word_for bind_call code), record m { store = store }) → BoundRow face es (Err (Code code), store)
    bind_refused es store code row = by_face face row
      where
        by_face : (f : Interface) → Row es (reply.Err (word_for (Bind place f) code), record m { store = store }) → BoundRow f es (Err (Code code), store)
        by_face P2 row = row
        by_face P3 row = row

    abbrev BindDue : Rows (Answered × TcpRecord)
    BindDue es begun = Due contexts m line ids bind_call stands (λ k. k) es begun.0 (record m { store = with_socket free place begun.1 })

    -- what a bind that is done leaves is no matter
    bind_due : (es : List Entry) (begun : Answered × TcpRecord) → BindDue es begun → BindDue es (bind_told face begun)
    bind_due es (Ok Pending, r) h = h
    bind_due es (Ok (Ready given), r) h = tt
    bind_due es (Err code, r) h = h

    bind_kept : (es : List Entry) (answer : Answer (Unit {0})) (r : TcpRecord) → BindDue es (Ok answer, r) → BoundRow face es (let so = stood (with_socket free place r) ids bind_call answer in (Ok so.0, so.1))
    bind_kept es Pending r h = waits contexts m line ids bind_call stands (λ k. k) es (record m { store = record (with_socket free place r) { standing = Some (standing_as ids bind_call) } }) refl refl h
    bind_kept es (Ready given) r h = let left : Machine = record m { store = with_socket free place r } in done contexts m line ids bind_call stands (λ k. k) es left refl (gives_none m left bind_call tt refl)

    module _ (r : TcpRecord) (at : tcp2_at m.store.records place ≡ Some r) where
      binds_on : PendingCallsFit m → IsBinding r.in_progress
      binds_on binds = let k : IfSome (tcp2_at m.store.records place) (λ q. IsBinding q.in_progress) = rw stands at binds in rw at at k

      module _ (op : Operation) (is : r.in_progress ≡ Binding op) where
        is_bind : PendingCallsFit m → IsRestOfBind op
        is_bind binds = let k = binds_on binds in rw is at k

        bind_waits : (es : List Entry) → EndsPending op.who.id es → CallWaits m (own_of n) es bind_call
        bind_waits es h = let k : BindWaits r.in_progress es = rw is h in rw at k

        bind_ends : (es : List Entry) (end : End × List Item) → (IsRestOfBind op → EndsFor op (BindFails op) es end) → BindDue es (bind_ended op r end)
        bind_ends es (Waits, items) h = λ binds. bind_waits es (h (is_bind binds))
        bind_ends es (Done given, items) h = tt
        bind_ends es (Refused code given, items) h = λ binds. (BindFailed place face r op code at is (h (is_bind binds)), refl)

      rebinds_by : (doing : InProgress) → r.in_progress ≡ doing → Meets BindDue [] (poll_binding r doing)
      rebinds_by (Binding op) is = onto _ (widen (bind_ends op is) (granted (bind_polls op)))
      rebinds_by _ is = ends (λ binds. let k = binds_on binds in absurd (rw is at k))

    rebinds : Meets (BoundRow face) [] (rebind_of face ids place free)
    rebinds =
        finds (λ r. goes_on (Call Code (λ store. r) (λ store now. with_socket store place now) (tcp_rebinds face)) (keeps ids bind_call)) (tcp2_at m.store.records place) (missing contexts m line ids bind_call stands (λ k. k))
        (λ r at. calls {Mid = BindDue} _ (onto _ (widen bind_due (rebinds_by r at r.in_progress refl)))
        (λ es code r h. ends (bind_refused es (with_socket free place r) code (fails contexts m line ids bind_call stands (λ k. k) es (record m { store = with_socket free place r }) code refl refl h)))
        (λ es answer r h. ends (bind_kept es answer r h)))

  -- == of a create of a UDP socket
  module _ (place : ℕ) (face : Interface) (stands : Under (StandingCall.UdpCreate place face)) where
    abbrev CreatedRow : Rows (Result (Answer ℕ) BaseStop × Machine)
    CreatedRow es made = GoneRow es (answered_on handle_outcome face made)

    abbrev MadeRow : Rows (Result (Answer (Unit {0})) BaseStop × Records)
    MadeRow es made = Meets CreatedRow es (create_so face ids place (nothing_stands m) made)

    -- a code is told by the word of its interface
    refused_row : (es : List Entry) (after : Machine) (code : ErrorCode) → Row es (reply.Err (word_for (StandingCall.UdpCreate place face) code), after) → CreatedRow es (Err (Code code), after)
    refused_row es after code row = by_face face row
      where
        by_face : (f : Interface) → Row es (reply.Err (word_for (StandingCall.UdpCreate place f) code), after) → GoneRow es (answered_on handle_outcome f (Err (Code code), after))
        by_face P2 row = row
        by_face P3 row = row

    module _ (u : UdpRecord) (at : udp2_at m.store.records place ≡ Some u) where
      creates_on : PendingCallsFit m → IsCreating u
      creates_on fits = let k : IfSome (udp2_at m.store.records place) IsCreating = rw stands at fits in rw at at k

      left_free : (now : UdpRecord) → (udp_left free place now).standing ≡ None
      left_free (udp.Creating create) = refl
      left_free (udp.Open o) = refl
      left_free (udp.Closed side) = refl

      -- a pending create is in progress
      uncreated : (IsCreating u → ⊥) → MadeRow [] (create_answered free place (Err InvalidState, u))
      uncreated none = ends (refused_row [] (record m { store = udp_left free place u }) InvalidState (fails contexts m line ids (StandingCall.UdpCreate place face) stands (λ k. k) [] (record m { store = udp_left free place u }) InvalidState (left_free u) refl (λ fits. absurd (none (creates_on fits)))))

    module _ (create : Create) (at : udp2_at m.store.records place ≡ Some (udp.Creating create)) where
      -- the socket is there
      abbrev made_so : Machine
      made_so = record m { store = with_udp free place (opened_udp (made_by create)) }

      there : udp2_at made_so.store.records place ≡ Some (opened_udp (made_by create))
      there = put_finds udp_sort m.store.records place (udp.Creating create) (opened_udp (made_by create)) at

      abbrev mark : Entry
      mark = entry create.operation.who.side (call.Made m.table.next (name_of (udp_kind face place)) None (Some create.operation.who.side)) told.Done

      is_create : IsSomeAnd m.store.standing (λ s. MakesOneHandle s.call)
      is_create = subst (λ (o : Option Standing). IsSomeAnd o (λ s. MakesOneHandle s.call)) (sym stands) tt

      gives_handle : let after : Machine = record made_so { table = with_handle m.table (udp_kind face place) None } in IsSomeAnd m.store.standing (λ s. GivesBy m (number_fields m.table.next) after s.call)
      gives_handle =
          let after : Machine = record made_so { table = with_handle m.table (udp_kind face place) None } in
          subst (λ (o : Option Standing). IsSomeAnd o (λ s. GivesBy m (number_fields m.table.next) after s.call)) (sym stands) (refl, refl, subst IsSome (sym (ap open_of there)) refl)

      create_ended : (es : List Entry) (end : End × List Item) → (marks_in es ≡ 0) × (PendingCallsFit m → EndsFor create.operation (CreateFails create.operation) es end) → MadeRow es (create_answered free place (udp_create_ended create end))
      create_ended es (Waits, items) k =
          ends (waits contexts m line ids (StandingCall.UdpCreate place face) stands (λ k. k) es (record m { store = record (with_udp free place (udp.Creating (with_left create items))) { standing = Some (standing_as ids (StandingCall.UdpCreate place face)) } }) refl refl
          (λ fits. subst (λ (o : Option UdpRecord). IsSomeAnd o (λ u. CreateWaits u es)) (sym at) (k.1 fits)))
      create_ended es (Done given, items) k =
          marks_udp face made_so place (opened_udp (made_by create)) there
          (λ full. (it_ends contexts m line ids (StandingCall.UdpCreate place face) stands (λ k. k) es (reply.Trap Full) made_so (λ e. cc) refl, (tt, full_so m made_so es full refl k.0, inl (full, is_create))))
          (it_ends contexts m line ids (StandingCall.UdpCreate place face) stands (λ k. k) (es ++ mark ∷ []) (reply.Ok (number_fields m.table.next)) (record made_so { table = with_handle m.table (udp_kind face place) None }) (λ e. cc) refl, (inl (inr (inl (tt, tt))), inl gives_handle))
      create_ended es (Refused code given, items) k =
          let left : Machine = record m { store = given_back place (with_udp free place (udp.Closed create.operation.who.side)) } in
          ends (refused_row es left code (fails contexts m line ids (StandingCall.UdpCreate place face) stands (λ k. k) es left code refl refl (λ fits. (CreateFailed place face create code at (k.1 fits), put_gone (nothing_stands m) place (Record.Udp (udp.Closed create.operation.who.side))))))

    recreates_by : (u : UdpRecord) → udp2_at m.store.records place ≡ Some u → Meets (λ es done. MadeRow es (create_answered free place done)) [] (poll_create_asks u)
    recreates_by (udp.Creating create) at = onto _ (widen (create_ended create at) (both (record { along = poll_marks_none create.operation }) (granted (λ fits. create_ends create.operation (creates_on (udp.Creating create) at fits)))))
    recreates_by (udp.Open o) at = ends (uncreated (udp.Open o) at (λ k. k))
    recreates_by (udp.Closed side) at = ends (uncreated (udp.Closed side) at (λ k. k))

    recreates_at : (o : Option UdpRecord) → udp2_at m.store.records place ≡ o → Meets MadeRow [] (poll_create_at free place o)
    recreates_at None at = ends (ends (missing contexts m line ids (StandingCall.UdpCreate place face) stands (λ k. k) at))
    recreates_at (Some u) at = onto _ (recreates_by u at)

    recreates : Meets CreatedRow [] (create_on face (nothing_stands m) ids place)
    recreates = chain {Mid = MadeRow} (recreates_at (udp2_at m.store.records place) refl) (λ es made k. k)

  -- == of a bind of a UDP socket
  module _ (place : ℕ) (face : Interface) (stands : Under (StandingCall.UdpBind place face)) where
    abbrev udp_bind_call : StandingCall
    udp_bind_call = StandingCall.UdpBind place face

    udp_bind_refused : (es : List Entry) (store : Records) (code : ErrorCode) → Row es (reply.Err (word_for udp_bind_call code), record m { store = store }) → BoundRow face es (Err (Code code), store)
    udp_bind_refused es store code row = by_face face row
      where
        by_face : (f : Interface) → Row es (reply.Err (word_for (StandingCall.UdpBind place f) code), record m { store = store }) → BoundRow f es (Err (Code code), store)
        by_face P2 row = row
        by_face P3 row = row

    abbrev UdpBindDue : Rows (Answered × OpenUdp)
    UdpBindDue es begun = Due contexts m line ids udp_bind_call stands (λ k. k) es begun.0 (record m { store = with_open_udp free place begun.1 })

    udp_bind_due : (es : List Entry) (begun : Answered × OpenUdp) → UdpBindDue es begun → UdpBindDue es (udp_bind_told face begun)
    udp_bind_due es (Ok Pending, o) h = h
    udp_bind_due es (Ok (Ready given), o) h = tt
    udp_bind_due es (Err code, o) h = h

    udp_bind_kept : (es : List Entry) (answer : Answer (Unit {0})) (o : OpenUdp) → UdpBindDue es (Ok answer, o) → BoundRow face es (let so = stood (with_open_udp free place o) ids udp_bind_call answer in (Ok so.0, so.1))
    udp_bind_kept es Pending o h = waits contexts m line ids udp_bind_call stands (λ k. k) es (record m { store = record (with_open_udp free place o) { standing = Some (standing_as ids udp_bind_call) } }) refl refl h
    udp_bind_kept es (Ready given) o h = done contexts m line ids udp_bind_call stands (λ k. k) es (record m { store = with_open_udp free place o }) refl (refl, refl)

    module _ (o : OpenUdp) (at : open_at m.store.records place ≡ Some o) where
      udp_goes_on : PendingCallsFit m → IsUdpBinding o.in_progress
      udp_goes_on fits = let k : IfSome (open_at m.store.records place) (λ q. IsUdpBinding q.in_progress) = rw stands at fits in rw at at k

      module _ (op : Operation) (is : o.in_progress ≡ doing.Binding op) where
        is_udp_bind : PendingCallsFit m → IsUdpBind op
        is_udp_bind fits = let k = udp_goes_on fits in rw is at k

        udp_bind_waits : (es : List Entry) → EndsPending op.who.id es → CallWaits m (own_of n) es udp_bind_call
        udp_bind_waits es h = let k : UdpBindWaits o.in_progress es = rw is h in rw at k

        udp_ended : (es : List Entry) (end : End × List Item) → (PendingCallsFit m → EndsFor op (UdpBindFails op) es end) → UdpBindDue es (udp_bind_ended op o end)
        udp_ended es (Waits, items) h = λ fits. udp_bind_waits es (h fits)
        udp_ended es (Done given, items) h = tt
        udp_ended es (Refused code given, items) h = λ fits. (UdpBindFailed place face o op code at is (h fits), refl)

      udp_rebinds_by : (doing : UdpInProgress) → o.in_progress ≡ doing → Meets UdpBindDue [] (poll_udp_binding o doing)
      udp_rebinds_by (doing.Binding op) is = onto _ (widen (udp_ended op is) (granted (λ fits. udp_bind_ends op (is_udp_bind op is fits))))
      udp_rebinds_by _ is = ends (λ fits. let k = udp_goes_on fits in absurd (rw is at k))

    udp_rebinds : Meets (BoundRow face) [] (udp_rebind_of face ids place free)
    udp_rebinds =
        finds (λ o. goes_on (Call Code (λ store. o) (λ store now. with_open_udp store place now) (its_rebinds face)) (keeps ids udp_bind_call)) (open_at m.store.records place) (missing contexts m line ids udp_bind_call stands (λ k. k))
        (λ o at. calls {Mid = UdpBindDue} _ (onto _ (widen udp_bind_due (udp_rebinds_by o at o.in_progress refl)))
        (λ es code o h. ends (udp_bind_refused es (with_open_udp free place o) code (fails contexts m line ids udp_bind_call stands (λ k. k) es (record m { store = with_open_udp free place o }) code refl refl h)))
        (λ es answer o h. ends (udp_bind_kept es answer o h)))

  -- == of datagram streams
  module _ (place handle : ℕ) (stands : Under (StandingCall.UdpConnect place handle)) where
    abbrev the_call : StandingCall
    the_call = StandingCall.UdpConnect place handle

    abbrev PairRow : Rows (Result (Answer (ℕ × ℕ)) Stop × Machine)
    PairRow es made = GoneRow es (streams_on made)

    abbrev ConnectedRow : Rows (Result (Answer (Unit {0})) Stop × Records)
    ConnectedRow es done = Meets PairRow es (streams_so (own_of n) handle (nothing_stands m) done)

    -- the handle of the socket is still live
    lost_handle : udp_socket_at m handle ≡ None → PendingHandleIsLive m → ⊥
    lost_handle none live = let its : udp_socket_at m handle ≡ Some place = rw stands at live in cc

    -- they are there, and have their handles
    marked : (es : List Entry) (store : Records) → store.standing ≡ None → marks_in es ≡ 0 → (its : Option ℕ) → udp_socket_at m handle ≡ its → Meets PairRow es (mark_streams (record m { store = store }) (own_of n) handle)
    marked es store over unmarked None names =
        subst (λ (o : Option ℕ). Meets PairRow es (mark_streams_of (record m { store = store }) (own_of n) handle o)) (sym names)
        (ends (it_ends contexts m line ids the_call stands (λ k. k) es (reply.Trap NoSuchHandle) (record m { store = store }) (λ e. cc) over, (inl (rw (stands, eq-eqb n n refl) (inr names)), λ live. absurd (lost_handle names live))))
    marked es store over unmarked (Some its) names =
        let now : Machine = record m { store = store } in
        makes_both now (own_of n) handle its es names unmarked
        (λ fs table full next lacks. (it_ends contexts m line ids the_call stands (λ k. k) fs (reply.Trap Full) (record now { table = table }) (λ e. cc) over, (tt, (full, next), inr (inl (subst (λ (o : Option Standing). IsSomeAnd o (λ s. LacksRoomForStreams m s.call)) (sym stands) (rw names lacks)))))) (
          it_ends contexts m line ids the_call stands (λ k. k) (marks_of now (own_of n) handle its es) (reply.Ok (pair_fields m.table.next (m.table.next + 1))) (record now { table = with_both m.table its handle }) (λ e. cc) over,
          (inl (inr (inr (inl (tt, (tt, tt))))), inl (subst (λ (o : Option Standing). IsSomeAnd o (λ s. GivesBy m (pair_fields m.table.next (m.table.next + 1)) (record now { table = with_both m.table its handle }) s.call)) (sym stands) (refl, rw names refl))),
        )

    module _ (o : OpenUdp) (at : open_at m.store.records place ≡ Some o) where
      connects_on : PendingCallsFit m → IsUdpConnecting o.connecting
      connects_on fits = let k : IfSome (open_at m.store.records place) (λ q. IsUdpConnecting q.connecting) = rw stands at fits in rw at at k

      module _ (op : Operation) (is : o.connecting ≡ Some op) where
        is_connect : PendingCallsFit m → IsRestOfUdpConnect op
        is_connect fits = let k = connects_on fits in rw is at k

        connect_waits : (es : List Entry) → EndsPending op.who.id es → CallWaits m (own_of n) es the_call
        connect_waits es h = let k : UdpConnectWaits o.connecting es = rw is h in rw at k

        connect_ended : (es : List Entry) (end : End × List Item) → (marks_in es ≡ 0) × (PendingCallsFit m → ConnectRow op es end) → ConnectedRow es (udp_call_answered free ids the_call (udp_connect_ended op o end))
        connect_ended es (Waits, items) k =
            ends (waits contexts m line ids the_call stands (λ k. k) es (record m { store = record (with_open_udp free place (udp_connect_left op o (Waits, items))) { standing = Some (standing_as ids the_call) } }) refl refl (λ fits. connect_waits es (k.1 fits)))
        connect_ended es (Done given, items) k = marked es (with_open_udp free place (udp_connect_left op o (Done given, items))) refl k.0 (udp_socket_at m handle) refl
        connect_ended es (Refused code given, items) k =
            ends (fails contexts m line ids the_call stands (λ k. k) es (record m { store = with_open_udp free place (udp_connect_left op o (Refused code given, items)) }) code refl refl
            (λ fits. let it = k.1 fits in (UdpConnectFailed place handle o op code at is it.why, ap (λ (g : GivenByConnect). record m { store = with_open_udp free place (record o { inner = with_given o.inner g; connecting = None }) }) it.gives)))

      reconnects_by : (doing : Option Operation) → o.connecting ≡ doing → Meets (λ es done. ConnectedRow es (udp_call_answered free ids the_call done)) [] (poll_udp_connecting o doing)
      reconnects_by (Some op) is = onto _ (widen (connect_ended op is) (both (record { along = poll_marks_none op }) (granted (λ fits. udp_connect_gives op (is_connect op is fits) []))))
      reconnects_by None is = ends (ends (fails contexts m line ids the_call stands (λ k. k) [] (record m { store = with_open_udp free place o }) InvalidState refl refl (λ fits. let k = connects_on fits in absurd (rw is at k))))

    reconnects : (o : Option OpenUdp) → open_at m.store.records place ≡ o → Meets ConnectedRow [] (reconnect_udp_at free ids place handle o)
    reconnects None at = ends (ends (missing contexts m line ids the_call stands (λ k. k) (inl at)))
    reconnects (Some o) at = onto _ (reconnects_by o at o.connecting refl)

    remakes : Meets PairRow [] (remake_streams_asks (nothing_stands m) ids place handle)
    remakes = chain {Mid = ConnectedRow} (reconnects (open_at m.store.records place) refl) (λ es done k. k)

  -- == of a connect of 0.3
  module _ (place : ℕ) (stands : Under (StandingCall.UdpConnect3 place)) where
    abbrev connect_call : StandingCall
    connect_call = StandingCall.UdpConnect3 place

    abbrev ConnectDue : Rows (Answered × OpenUdp)
    ConnectDue es begun = Due contexts m line ids connect_call stands (λ k. k) es begun.0 (record m { store = with_open_udp free place begun.1 })

    connect_kept : (es : List Entry) (answer : Answer (Unit {0})) (o : OpenUdp) → ConnectDue es (Ok answer, o) → BoundRow P3 es (let so = stood (with_open_udp free place o) ids connect_call answer in (Ok so.0, so.1))
    connect_kept es Pending o h = waits contexts m line ids connect_call stands (λ k. k) es (record m { store = record (with_open_udp free place o) { standing = Some (standing_as ids connect_call) } }) refl refl h
    connect_kept es (Ready given) o h = done contexts m line ids connect_call stands (λ k. k) es (record m { store = with_open_udp free place o }) refl (refl, refl)

    module _ (o : OpenUdp) (at : open_at m.store.records place ≡ Some o) where
      connect_holds : PendingCallsFit m → IsUdpConnecting o.connecting
      connect_holds fits = let k : IfSome (open_at m.store.records place) (λ q. IsUdpConnecting q.connecting) = rw stands at fits in rw at at k

      module _ (op : Operation) (is : o.connecting ≡ Some op) where
        is_its_rest : PendingCallsFit m → IsRestOfUdpConnect op
        is_its_rest fits = let k = connect_holds fits in rw is at k

        its_waits : (es : List Entry) → EndsPending op.who.id es → CallWaits m (own_of n) es connect_call
        its_waits es h = let k : UdpConnectWaits o.connecting es = rw is h in rw at k

        its_ended : (es : List Entry) (end : End × List Item) → (PendingCallsFit m → ConnectRow op es end) → ConnectDue es (udp_reconnect_ended op o end)
        its_ended es (Waits, items) h = λ fits. its_waits es (h fits)
        its_ended es (Done given, items) h = tt
        its_ended es (Refused code given, items) h =
            λ fits. let it = h fits in (UdpConnect3Failed place o op code at is it.why, ap (λ (g : GivenByConnect). record m { store = with_open_udp free place (record o { inner = with_given o.inner g; connecting = None }) }) it.gives)

      reconnect_by : (doing : Option Operation) → o.connecting ≡ doing → Meets ConnectDue [] (udp_reconnecting o doing)
      reconnect_by (Some op) is = onto _ (widen (its_ended op is) (granted (λ fits. udp_connect_gives op (is_its_rest op is fits) [])))
      reconnect_by None is = ends (λ fits. let k = connect_holds fits in absurd (rw is at k))

    udp_reconnects : Meets (BoundRow P3) [] (udp_reconnect_of ids place free)
    udp_reconnects =
        finds (λ o. goes_on (Call Code (λ store. o) (λ store now. with_open_udp store place now) udp_reconnect_asks) (keeps ids connect_call)) (open_at m.store.records place) (missing contexts m line ids connect_call stands (λ k. k))
        (λ o at. calls {Mid = ConnectDue} _ (reconnect_by o at o.connecting refl)
        (λ es code o h. ends (fails contexts m line ids connect_call stands (λ k. k) es (record m { store = with_open_udp free place o }) code refl refl h))
        (λ es answer o h. ends (connect_kept es answer o h)))

  -- == of the drop of an outgoing datagram stream
  module _ (place : ℕ) (stands : Under (StandingCall.DropOutgoing place)) where
    goes_by : (o : OpenUdp) → open_at m.store.records place ≡ Some o → (b : Bool) → sends o.outgoing ≡ b → CallRow [] (allowed_answer (drop_outgoing_by free ids place o b))
    goes_by o at true e = waits contexts m line ids (StandingCall.DropOutgoing place) stands (λ k. k) [] (record m { store = record free { standing = Some (standing_as ids (StandingCall.DropOutgoing place)) } }) refl refl (λ fits. rw at (e, refl))
    goes_by o at false e = done contexts m line ids (StandingCall.DropOutgoing place) stands (λ k. k) [] (record m { store = with_open_udp free place (record o { outgoing = None }) }) refl (refl, refl)

    goes : (o : Option OpenUdp) → open_at m.store.records place ≡ o → CallRow [] (allowed_answer (drop_outgoing_at free ids place o))
    goes None at = done contexts m line ids (StandingCall.DropOutgoing place) stands (λ k. k) [] (record m { store = free }) refl (refl, refl)
    goes (Some o) at = goes_by o at (sends o.outgoing) refl

  -- == by what is pending
  goes_on_as : (call : StandingCall) → Under call → Meets GoneRow [] (go_on (nothing_stands m) ids call)
  goes_on_as (Bind place face) stands = onto _ (rebinds place face stands)
  goes_on_as (Listen place None) stands = onto _ (relists contexts m line ids place stands (tcp2_at m.store.records place) refl)
  goes_on_as (Listen place (Some handle)) stands = onto _ (relistens contexts m line ids place handle stands)
  goes_on_as (StandingCall.UdpCreate place face) stands = onto _ (recreates place face stands)
  goes_on_as (StandingCall.UdpBind place face) stands = onto _ (udp_rebinds place face stands)
  goes_on_as (StandingCall.UdpConnect place handle) stands = onto _ (remakes place handle stands)
  goes_on_as (StandingCall.UdpConnect3 place) stands = onto _ (udp_reconnects place stands)
  goes_on_as (StandingCall.DropOutgoing place) stands = ends (goes place stands (open_at m.store.records place) refl)
  goes_on_as (StandingCall.Blocking call) stands = blocked_goes_on contexts m line ids call stands
  goes_on_as (DropOutput place) stands = onto _ (widen (of_output place stands) (outputs free ids place (tcp2_at m.store.records place) refl))

module _ (contexts : List WasiSocketsCtx) (m : Machine) (line n : ℕ) where
  none_so : (o : Option Standing) → call_of o n ≡ None → stands_as o n ≡ false
  none_so None e = refl
  none_so (Some s) e = by_line (s.ids.line == n) e
    where
      by_line : (same : Bool) → (if same then Some s else None) ≡ None → same ≡ false
      by_line true k = absurd (cc)
      by_line false k = refl

  -- so it is no call that blocks
  by_none : stands_as m.store.standing n ≡ false → {other : Ids} {its : BlockingCall} → m.store.standing ≡ Some (standing_as other (StandingCall.Blocking its)) → other.line ≡ n → ⊥
  by_none none {other} on same = let k : stands_as m.store.standing n ≡ true = ap (λ (o : Option Standing). stands_as o n) on ∙ eq-eqb other.line n same in cc

  abbrev PolledRow : ℕ → Rows (Result (Option (Answer Given)) Stop × Machine)
  PolledRow k es done = Outcome contexts m line (step.Poll k) es (resumed_reply k done.0) done.1

  -- no exclusive call has the number
  by_beside : stands_as m.store.standing n ≡ false → (o : Option Beside) → beside_of m.store n ≡ o → Meets (PolledRow n) [] (resume_beside m n o)
  by_beside none None e =
      let nothing = no_call m n none e in
      ends (((λ same. nothing, λ k. refl), λ same. absurd (cc), λ c other its on same short. absurd (by_none none on same), λ beside. absurd (let k : IsSome {T = Beside} None = rw e at beside.1 in cc)), (inl tt, (refl, refl)))
  by_beside none (Some b) e = onto _ (resumes_beside contexts m line n none (λ es r after c other its on same short. absurd (by_none none on same)) b e)

  by_call : (o : Option Standing) → call_of m.store.standing n ≡ o → Meets (PolledRow n) [] (resume_call m n o)
  by_call None e = by_beside (none_so m.store.standing e) (beside_of m.store n) refl
  by_call (Some s) e = let k = stands_under_it m.store.standing n s e in subst (λ (l : ℕ). Meets (PolledRow l) [] (resume_call m l (Some s))) k.1 (onto _ (goes_on_as contexts m line s.ids s.call k.0))

  abbrev Polled : Rows (Reply × Machine)
  Polled es done = Outcome contexts m line (step.Poll n) es done.0 done.1

  pub poll : Meets Polled [] (bind (resume_asks m n) (λ done. Give (resumed_reply n done.0, done.1)))
  poll = onto _ (by_call (call_of m.store.standing n) refl)

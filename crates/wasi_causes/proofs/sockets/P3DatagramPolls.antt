-- Polls of datagrams of 0.3 that are pending beside other calls.
use Rattle.wasi_causes.proofs.Words.{◌≡◌, ◌++◌, ℕ, true, false, List, [], Some, None, Result, Ok, Err, refl, inl, inr, subst, IsSomeAnd}
use Rattle.wasi_causes.proofs.Words.{InvalidState, Pending, Ready, sym, Answer, Done, End, Entry, ErrorCode, Give, Given, Item, Machine, NoSuchHandle, Operation, Records, Refused, Reply, Stop, Trap, Waits, WasiSocketsCtx}
use Rattle.wasi_causes.proofs.Words.{bind, p3_word, resumed, resumed_reply, stands_as, with_store}
use Rattle.wasi_world.specs.declared.datagram.IncomingDatagram.{IncomingDatagram}
use Rattle.wasi_world.specs.Operation.{Datagram}
use Rattle.wasi_udp.specs.Receive.{wanted_in}
use Rattle.wasi_udp.specs.Send.{at_remote}
use Rattle.record_common.specs.Binding.{bind_answer, left_of}
use Rattle.udp_records.specs.declared.udp.OpenUdp.{OpenUdp}
use Rattle.wasi_records.specs.Records.{open_at}
use Rattle.record_common.specs.Stops.{Code}
use Rattle.host_store.specs.declared.beside.Beside.{Beside}
use Rattle.host_store.specs.declared.beside.BesideCall.{BesideCall}
use Rattle.host_store.specs.declared.beside.BesideCall.TheVariants.{Receive, Send}
use Rattle.host_store.specs.declared.kind.Interface.TheVariants.{P3}
use Rattle.wasi_host.specs.declared.pending.Outcome.{Outcome as Gives}
use Rattle.host_store.specs.BaseStops.{BaseStop}
use Rattle.host_store.specs.Beside.{beside_of, beside_without, stands_under}
use Rattle.host_store.specs.Block.{after_call, goes_on}
use Rattle.wasi_host.specs.Pending.{answered_on, datagram_outcome, go_on_beside, outcome_of}
use Rattle.host_udp.specs.SocketDatagrams.{drop_datagram, is_datagram, polled, polled_so, received_answer, receive_polls, send_polls}
use Rattle.wasi_steps.specs.declared.reply.Field.{Field}
use Rattle.wasi_steps.specs.declared.reply.Reply.TheVariants as reply
use Rattle.wasi_steps.specs.Replies.{OfAPolledCall}
use Rattle.wasi_steps.specs.declared.step.Step.TheVariants as step
use Rattle.wasi_steps.specs.Reply.{no_fields, received_values}
use Rattle.wasi_walks.specs.Missing.{IsOfNoSocket}
use Rattle.wasi_walks.specs.Waiting.{left_missing}
use Rattle.wasi_causes.proofs.Beside.{beside_call, found_there, is_beside, none_of, not_both}
use Rattle.wasi_causes.proofs.HeldUdp.{datagram_over}
use Rattle.wasi_causes.proofs.operations.P3DatagramEnds.{gives_datagram, receive_ends, send_ends}
use Rattle.wasi_causes.proofs.tables.Meets.{After, Meets, Rows, chain, ends, granted, onto, shifted, widen}
use Rattle.wasi_causes.proofs.tables.Routes.{apart, finds}
use Rattle.wasi_causes.specs.Outcomes.{AreLike, BlockedGoesOn, Outcome}
use Rattle.wasi_causes.specs.P3Connects.{BesideEnds, BesideGives, BesidePolled, EndsOver, GoesOnBeside, HasNoRecord, IsBeside, IsLost, IsOver, OverDone, OverReceived, OverRefused, StandsStill, StaysPending}
use Rattle.wasi_causes.specs.P3Datagrams.{DatagramOver, IsHeldNoMore, IsNotReceived, IsNotSent, IsReceived, IsRestOfReceive, IsRestOfSend, IsSent, IsStillHeld, ReceivePolled, ReceivePolls, ReceivesStill, SendPolled, SendPolls, SendsStill, most_dropped, with_datagram_left}

-- what stays once a datagram is over
over_keeps : {m : Machine} {n place : ℕ} {o : OpenUdp} {es : List Entry} {after : Machine} → DatagramOver m n place o es after → (after.table ≡ m.table) × (after.store.standing ≡ m.store.standing) × (after.store.beside ≡ beside_without m.store.beside n)
over_keeps (IsStillHeld held) = (refl, refl, refl)
over_keeps (IsHeldNoMore held) = (refl, refl, refl)

module _ (contexts : List WasiSocketsCtx) (m : Machine) (line n : ℕ) (other : stands_as m.store.standing n ≡ false)
    (no_blocking : (es : List Entry) (r : Reply) (after : Machine) → BlockedGoesOn contexts m n es r after)
    (b : Beside) (is : beside_of m.store n ≡ Some b) where
  abbrev GoneRow : Rows (Result (Answer Gives) Stop × Machine)
  GoneRow es done = Outcome contexts m line (step.Poll n) es (resumed_reply n (resumed done).0) (resumed done).1

  beside : IsBeside m n
  beside = is_beside m n other is

  -- of this call
  module _ (its : BesideCall) (call : b.call ≡ its) where
    its_why : (es : List Entry) (r : Reply) (after : Machine) → GoesOnBeside m n es r after its → IsSomeAnd (beside_of m.store n) (λ b. GoesOnBeside m n es r after b.call)
    its_why es r after why = rw is (rw call why)

    its_end : (r : Reply) (after : Machine) → BesideEnds m n its r after → IsSomeAnd (beside_of m.store n) (λ b. BesideEnds m n b.call r after)
    its_end r after why = rw is (rw call why)

    over_polled : (es closing : List Entry) (r : Reply) (after : Machine) {place : ℕ} {o : OpenUdp} → IsOver r → DatagramOver m n place o closing after → GoesOnBeside m n es r after its → BesidePolled m n es r after
    over_polled es closing r after over gone why = let kept = over_keeps gone in record { handles = kept.0; exclusive = kept.1; ends = its_end r after (EndsOver r after over kept.2); why = its_why es r after why }

    on : stands_under m.store n ≡ true
    on = beside_call m n is

    waits_row : (es : List Entry) (now : BesideCall) → let after : Machine = with_datagram_left m n now in StandsStill m n after its → GoesOnBeside m n es (reply.Pending n) after its → GoneRow es (Ok Pending, after)
    waits_row es now still why =
        let after : Machine = with_datagram_left m n now in
        let polled : BesidePolled m n es (reply.Pending n) after = record { handles = refl; exclusive = refl; ends = its_end (reply.Pending n) after (StaysPending after still); why = its_why es (reply.Pending n) after why } in
        ((apart (λ e. cc) (λ none. not_both (stands_under m.store n) on none), λ stands. absurd (cc), no_blocking es (reply.Pending n) after, λ b. polled), ((refl, inr (found_there m.store.beside n now beside.1)), (inr beside, refl, λ k. refl)))

    done_row : (es closing : List Entry) (given : Gives) (fields : List Field) (after : Machine) {place : ℕ} {o : OpenUdp} → resumed_reply n (Ok (Some (Ready given))) ≡ reply.Ok fields → IsOver (reply.Ok fields) → AreLike OfAPolledCall fields → BesideGives fields its
        → DatagramOver m n place o closing after → GoesOnBeside m n es (reply.Ok fields) after its → GoneRow es (Ok (Ready given), after)
    done_row es closing given fields after said over like gives gone why =
        let polled = over_polled es closing (reply.Ok fields) after over gone why in
        subst (λ (r : Reply). Outcome contexts m line (step.Poll n) es r after) (sym said)
        ((apart (λ e. cc) (λ none. not_both (stands_under m.store n) on none), λ stands. absurd (cc), no_blocking es (reply.Ok fields) after, λ b. polled), (like, inr (beside, rw is (rw call gives))))

    refused_row : (es closing : List Entry) (code : ErrorCode) (after : Machine) {place : ℕ} {o : OpenUdp} → DatagramOver m n place o closing after → GoesOnBeside m n es (reply.Err (p3_word code)) after its → Outcome contexts m line (step.Poll n) es (reply.Err (p3_word code)) after
    refused_row es closing code after gone why =
        let polled = over_polled es closing (reply.Err (p3_word code)) after (OverRefused code) gone why in
        ((apart (λ e. cc) (λ none. not_both (stands_under m.store n) on none), λ stands. absurd (cc), no_blocking es (reply.Err (p3_word code)) after, λ b. polled), (inr (inl (record { code = code; is = refl })), (inr beside, polled.handles)))

    lost_row : IsOfNoSocket m its → HasNoRecord m its → is_datagram its ≡ true → GoesOnBeside m n [] (reply.Trap NoSuchHandle) m its → Outcome contexts m line (step.Poll n) [] (reply.Trap NoSuchHandle) m
    lost_row missing none datagram why =
        let polled : BesidePolled m n [] (reply.Trap NoSuchHandle) m = record { handles = refl; exclusive = refl; ends = its_end (reply.Trap NoSuchHandle) m (IsLost none); why = its_why [] (reply.Trap NoSuchHandle) m why } in
        ((apart (λ e. cc) (λ none. not_both (stands_under m.store n) on none), λ stands. absurd (cc), no_blocking [] (reply.Trap NoSuchHandle) m, λ b. polled), (inr (other, rw is (rw call missing)), λ live. (refl, stays)))
      where
        stays : m ≡ left_missing m (step.Poll n)
        stays = rw (none_of m.store.standing n other, is, call, datagram) refl

  -- == of a send
  module _ (place : ℕ) (op : Operation) (call : b.call ≡ Send place op) where
    abbrev SendRow : Rows (Result (Answer (Unit {0})) BaseStop × Records)
    SendRow es done = GoneRow es (answered_on outcome_of P3 (with_store m done))

    send_lost : open_at m.store.records place ≡ None → SendRow [] (Err (Trap NoSuchHandle), m.store)
    send_lost none = lost_row (Send place op) call none none refl ((λ e. (refl, refl, refl)), λ o at. absurd (cc))

    module _ (o : OpenUdp) (at : open_at m.store.records place ≡ Some o) where
      -- the record is there
      send_there : (es : List Entry) (r : Reply) (after : Machine) → (IsRestOfSend op → SendPolled m n place o op es r after) → GoesOnBeside m n es r after (Send place op)
      send_there es r after why = (λ none. absurd (cc), λ q found rest. let its : o ≡ q = cc in subst (λ (x : OpenUdp). SendPolled m n place x op es r after) its (why rest))

      send_ended : (es : List Entry) (end : End × List Item) → (IsRestOfSend op → SendPolls (at_remote o.inner.remote op).who op.left es end) → Meets SendRow es (polled_so bind_answer n place (Send place) op end m.store)
      send_ended es (Waits, items) k = ends (waits_row (Send place op) call es (Send place (left_of op items)) (left_of op items, refl) (send_there es _ _ (λ rest. SendsStill es items (k rest))))
      send_ended es (Done given, items) k = onto _ (widen over (shifted es (datagram_over m n place o at)))
        where
          over : (fs : List Entry) (done : Unit {0} × Records) → After (λ es done. DatagramOver m n place o es (record m { store = done.1 })) es fs done → SendRow fs (Ok (Ready tt), done.1)
          over fs done j = rw j.cut (done_row (Send place op) call (es ++ j.rest) j.rest Gives.Nothing no_fields (record m { store = done.1 }) refl OverDone (inl (inl tt)) refl j.row (send_there _ _ _ (λ rest. IsSent es j.rest given items _ (k rest) j.row)))
      send_ended es (Refused code given, items) k = onto _ (widen over (shifted es (datagram_over m n place o at)))
        where
          over : (fs : List Entry) (done : Unit {0} × Records) → After (λ es done. DatagramOver m n place o es (record m { store = done.1 })) es fs done → SendRow fs (Err (Code code), done.1)
          over fs done j = rw j.cut (refused_row (Send place op) call (es ++ j.rest) j.rest code (record m { store = done.1 }) j.row (send_there _ _ _ (λ rest. IsNotSent es j.rest code given items _ (k rest) j.row)))

      sends_on : Meets SendRow [] (goes_on (polled (send_polls o op)) (polled_so bind_answer n place (Send place) op) m.store)
      sends_on =
          chain {Mid = λ es done. Meets SendRow es (after_call (λ stop. stop) (λ store none. store) (polled_so bind_answer n place (Send place) op) m.store done)}
          (onto _ (widen send_ended (granted (λ (rest : IsRestOfSend op). send_ends (at_remote o.inner.remote op) (record { last = rest.last; left = rest.left })))))
          (λ es done k. k)

    pub send_resumes : Meets GoneRow [] (go_on_beside m n (Send place op))
    send_resumes = onto _ (finds (λ o. goes_on (polled (send_polls o op)) (polled_so bind_answer n place (Send place) op)) (open_at m.store.records place) send_lost sends_on)

  -- == of a receive
  module _ (place : ℕ) (op : Operation) (call : b.call ≡ Receive place op) where
    abbrev ReceiveRow : Rows (Result (Answer IncomingDatagram) BaseStop × Records)
    ReceiveRow es done = GoneRow es (answered_on datagram_outcome P3 (with_store m done))

    receive_lost : open_at m.store.records place ≡ None → ReceiveRow [] (Err (Trap NoSuchHandle), m.store)
    receive_lost none = lost_row (Receive place op) call none none refl ((λ e. (refl, refl, refl)), λ o at. absurd (cc))

    module _ (o : OpenUdp) (at : open_at m.store.records place ≡ Some o) where
      receive_there : (es : List Entry) (r : Reply) (after : Machine) → (IsRestOfReceive op → ReceivePolled m n place o op es r after) → GoesOnBeside m n es r after (Receive place op)
      receive_there es r after why = (λ none. absurd (cc), λ q found rest. let its : o ≡ q = cc in subst (λ (x : OpenUdp). ReceivePolled m n place x op es r after) its (why rest))

      abbrev Ends : List Entry → End × List Item → Type 0
      Ends es end = IsRestOfReceive op → ReceivePolls op.who most_dropped (wanted_in None op.left) es end

      -- it ended with a code
      receive_refused : (es : List Entry) (code : ErrorCode) → ((closing : List Entry) (after : Machine) → IsRestOfReceive op → DatagramOver m n place o closing after → ReceivePolled m n place o op (es ++ closing) (reply.Err (p3_word code)) after)
          → Meets ReceiveRow es (bind (drop_datagram n place m.store) (λ done. Give (Err (Code code), done.1)))
      receive_refused es code why = onto _ (widen over (shifted es (datagram_over m n place o at)))
        where
          over : (fs : List Entry) (done : Unit {0} × Records) → After (λ es done. DatagramOver m n place o es (record m { store = done.1 })) es fs done → ReceiveRow fs (Err (Code code), done.1)
          over fs done j = rw j.cut (refused_row (Receive place op) call (es ++ j.rest) j.rest code (record m { store = done.1 }) j.row (receive_there _ _ _ (λ rest. why j.rest _ rest j.row)))

      -- or gave what it gives
      receive_gave : (es : List Entry) (given : Given) (items : List Item) → Ends es (Done given, items) → Meets ReceiveRow es (polled_so received_answer n place (Receive place) op (Done given, items) m.store)
      receive_gave es (Datagram bytes a) items k = onto _ (widen over (shifted es (datagram_over m n place o at)))
        where
          d : IncomingDatagram
          d = record { bytes = bytes; remote_address = a }

          over : (fs : List Entry) (done : Unit {0} × Records) → After (λ es done. DatagramOver m n place o es (record m { store = done.1 })) es fs done → ReceiveRow fs (Ok (Ready d), done.1)
          over fs done j = rw j.cut (done_row (Receive place op) call (es ++ j.rest) j.rest (Gives.Datagram d) (received_values d) (record m { store = done.1 }) refl (OverReceived d) (inr (inr (inr (d, refl)))) (d, refl) j.row (receive_there _ _ _ (λ rest. IsReceived es j.rest d items _ (k rest) j.row)))
      receive_gave es given items k = receive_refused es InvalidState (λ closing after rest gone. absurd (gives_datagram (k rest)))

      receive_ended : (es : List Entry) (end : End × List Item) → Ends es end → Meets ReceiveRow es (polled_so received_answer n place (Receive place) op end m.store)
      receive_ended es (Waits, items) k = ends (waits_row (Receive place op) call es (Receive place (left_of op items)) (left_of op items, refl) (receive_there es _ _ (λ rest. ReceivesStill es items (k rest))))
      receive_ended es (Done given, items) k = receive_gave es given items k
      receive_ended es (Refused code given, items) k = receive_refused es code (λ closing after rest gone. IsNotReceived es closing code given items after (k rest) gone)

      receives_on : Meets ReceiveRow [] (goes_on (polled (receive_polls o op)) (polled_so received_answer n place (Receive place) op) m.store)
      receives_on =
          chain {Mid = λ es done. Meets ReceiveRow es (after_call (λ stop. stop) (λ store none. store) (polled_so received_answer n place (Receive place) op) m.store done)}
          (onto _ (widen receive_ended (granted (λ (rest : IsRestOfReceive op). receive_ends op rest))))
          (λ es done k. k)

    pub receive_resumes : Meets GoneRow [] (go_on_beside m n (Receive place op))
    receive_resumes = onto _ (finds (λ o. goes_on (polled (receive_polls o op)) (polled_so received_answer n place (Receive place) op)) (open_at m.store.records place) receive_lost receives_on)

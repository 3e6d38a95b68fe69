-- What a look leaves of the operation that it polls.
use Rattle.wasi_causes.proofs.Words.{◌≡◌, ◌∙◌, ℕ, ⊤, Accepting, Bool, true, false, Done, End, Entry, Err, Give}
use Rattle.wasi_causes.proofs.Words.{HoldsAccept, InProgress, IsAcceptOn, Item, Left, List, [], ◌∷◌, Listener}
use Rattle.wasi_causes.proofs.Words.{Listening, Machine, Ok, Operation, Option, Refused, Result, Some, Stop, TcpRecord}
use Rattle.wasi_causes.proofs.Words.{TcpState, Waits, Watched, accept_asks, accept_ended, accept_operation, ap}
use Rattle.wasi_causes.proofs.Words.{connect_ended, is_connect, is_nothing, kind_at, own_of, poll_asks}
use Rattle.wasi_causes.proofs.Words.{ready_on, refl, subst, sym, watch_of, with_store}
use Rattle.wasi_world.specs.declared.ids.Ids.{Ids}
use Rattle.wasi_world.specs.Operation.{Connection, Datagram}
use Rattle.wasi_tcp.specs.Accept.{Unarrived}
use Rattle.wasi_tcp.specs.Connecting.{finish_in}
use Rattle.wasi_tcp.specs.Listener.{begun, ready_end}
use Rattle.wasi_tcp.specs.declared.accept.AcceptStage.TheVariants as stage
use Rattle.wasi_udp.specs.Receive.{receive_start, wanting}
use Rattle.wasi_udp.specs.Shape.{Socket}
use Rattle.tcp_records.specs.Looks.{accept_looked, connect_looked, ready_idle, ready_listening, ready_socket_by}
use Rattle.record_common.specs.Names.{next_name}
use Rattle.udp_records.specs.Receiving.{fetch_asks, look_incoming, poll_receive_asks, receive_left, with_receiving}
use Rattle.wasi_records.specs.Records.{open_at, open_put, tcp2_at}
use Rattle.udp_records.specs.declared.datagrams.Incoming.{Incoming}
use Rattle.udp_records.specs.declared.datagrams.Receiving.{Receiving}
use Rattle.udp_records.specs.declared.udp.OpenUdp.{OpenUdp}
use Rattle.host_udp.specs.DatagramCalls.{begins_receive, incoming_looked, ready_incoming_at}
use Rattle.host_store.specs.Readiness.{ready_at, ready_put}
use Rattle.host_store.specs.declared.kind.Watched.TheVariants as watched
use Rattle.wasi_host.specs.declared.polling.Look.TheVariants.{First}
use Rattle.wasi_causes.proofs.ReceivesGo.{ReceiveEnds, receive_ends, start_goes, wanted_goes}
use Rattle.wasi_causes.proofs.operations.Accepts.{AcceptEnds, poll_accept_ends}
use Rattle.wasi_causes.proofs.pollables.Looks.{job_stays}
use Rattle.wasi_causes.proofs.sockets.Udp.{ItsBound, ItsFree, UdpBoundRow, udp_bounds}
use Rattle.wasi_causes.proofs.tables.Meets.{Meets, Rows, both, chain, ends, met, onto, shifted, widen}
use Rattle.wasi_causes.proofs.tables.Parts.{by_left}
use Rattle.wasi_causes.specs.LookPolls as looks
use Rattle.wasi_causes.specs.LookPolls.{AcceptLeft, AcceptLooked, ConnectLeft, ConnectLooked, ReceiveLeft}
use Rattle.wasi_causes.specs.LookPolls.{ReceiveLooked}
use Rattle.wasi_causes.specs.PollableCalls.{Finds}
use Rattle.wasi_causes.specs.PollableCalls as on
use Rattle.wasi_causes.specs.SendCauses.{BoundSo, IsBoundSo, IsFreeSo, found_so}
use Rattle.wasi_causes.specs.TurnPolls.{PolledOnce, ReceiveGoesOn, ReceiveHasCode, ReceiveHasDatagram, ReceivePolled}
use Rattle.wasi_causes.specs.Udp.{udp_local_entry}

-- a row of looks that found something out
abbrev Found : (List Entry → Bool → Machine → Type 0) → Rows (Result Bool Stop × Machine)
Found Row es (Ok b, after) = Row es b after
Found Row es (Err why, after) = ⊤

of_find : {Row : List Entry → Bool → Machine → Type 0} (m : Machine) (ids : Ids) (p : ℕ) (w : Watched) → watch_of
    (kind_at m.table p) ≡ Some w → Meets (Found Row) [] (ready_on m ids (Some w))
    → {es : List Entry} {b : Bool} {after : Machine} → Finds m ids p First es b after → Row es b after
of_find {Row} m ids p w e rows (on.FindsFirst es b after k) = met {Row = Found Row} {a = (Ok b, after)} rows
    (subst (λ (o : Option Watched). Left (ready_on m ids o) es (Give (Ok b, after))) e k)

module _ (m : Machine) (ids : Ids) (place : ℕ) where
  -- == of a TCP socket
  module _ (r : TcpRecord) (at : tcp2_at m.store.records place ≡ Some r) where
    in_record : {Row : List Entry → Bool → Machine → Type 0} → Meets
        (λ es done. Found Row es (with_store m (ready_put m.store place done))) []
        (ready_socket_by ids r (is_connect r.in_progress)) → Meets (Found Row) []
        (ready_on m ids (Some (watched.Socket place)))
    in_record {Row} rows = onto _ (subst
        (λ (o : Option TcpRecord). Meets (λ es done. Found Row es (with_store m done)) []
        (ready_at m.store (own_of ids.line) ids (watched.Socket place) place o)) (sym at) (onto _ rows))

    -- a connect
    module _ (op : Operation) (connects : is_connect r.in_progress ≡ true)
        (state : r.inner.state ≡ TcpState.Connecting op) where
      connect_left : (es : List Entry) (end : End × List Item) → PolledOnce op es end → Found
          (ConnectLooked m place r op) es (with_store m
          (ready_put m.store place
          (connect_looked r ((connect_ended op.who end).0, record r.inner { state = (connect_ended op.who end).1 }))))
      connect_left es (Waits, items) w = record { now = _; left = looks.ConnectGoesOn items w; kept = refl }
      connect_left es (Done given, items) w = record { now = _; left = looks.ConnectIsDone given items w; kept = refl }
      connect_left es (Refused c given, items) w = record
          { now = _; left = looks.ConnectHasCode c given items w; kept = refl }

      by_state : (s : TcpState) → s ≡ TcpState.Connecting op → Meets (λ es done. Found (ConnectLooked m place r op) es
          (with_store m (ready_put m.store place (connect_looked r (done.0, record r.inner { state = done.1 }))))) []
          (finish_in s)
      by_state s is = subst (λ (x : TcpState). Meets
          (λ es done. Found (ConnectLooked m place r op) es
          (with_store m (ready_put m.store place (connect_looked r (done.0, record r.inner { state = done.1 }))))) []
          (finish_in x)) (sym is)
          (onto _ (by_left (poll_asks op) connect_left))

      connects_so : Meets (Found (ConnectLooked m place r op)) [] (ready_on m ids (Some (watched.Socket place)))
      connects_so = in_record (subst
          (λ (b : Bool). Meets
          (λ es done. Found (ConnectLooked m place r op) es (with_store m (ready_put m.store place done))) []
          (ready_socket_by ids r b)) (sym connects) (onto _ (onto _ (by_state r.inner.state state))))

    -- an accept
    module _ (l : Listener) (idle : is_nothing r.in_progress ≡ true) (accepts : r.listening ≡ Listening.Accepts l)
        (holds : HoldsAccept l.side l.maker l.accept) where
      abbrev AcceptRow : List Entry → Accepting → Type 0
      AcceptRow es a = Found (AcceptLooked m place r l ids) es
          (with_store m (ready_put m.store place (accept_looked r (ready_end l a))))

      accept_ended_so : (op : Operation) → begun l.side l.maker ids l.accept ≡ Accepting.Asking op → (es : List Entry)
          (end : End × List Item) → AcceptEnds op.who es end × PolledOnce op es end → AcceptRow es
          (accept_ended op.who end)
      accept_ended_so op is es (Waits, items) k = record
          { now = _; left = looks.AcceptGoesOn op items es is k.1; kept = refl }
      accept_ended_so op is es (Done (Connection new peer), items) k = record
          { now = _; left = looks.AcceptHasConnection op new peer items es is k.1; kept = refl }
      accept_ended_so op is es (Done _, items) k = absurd k.0
      accept_ended_so op is es (Refused c given, items) k = record
          { now = _; left = looks.AcceptHasCode op c given items es is k.1; kept = refl }

      asked : (op : Operation) → IsAcceptOn l.side l.maker op → begun l.side l.maker ids l.accept ≡ Accepting.Asking op
          → Meets AcceptRow [] (accept_asks (λ a. a) (Accepting.Asking op))
      asked op its is = onto _ (widen (λ es end k. accept_ended_so op is es end k)
          (both (record { along = poll_accept_ends op its.accept its.going }) (by_left (poll_asks op) (λ es end w. w))))

      by_accept : (a : Accepting) → l.accept ≡ a → HoldsAccept l.side l.maker a → Meets (λ es done. Found
          (AcceptLooked m place r l ids) es (with_store m (ready_put m.store place (accept_looked r done)))) []
          (accept_asks (ready_end l) (begun l.side l.maker ids a))
      by_accept Accepting.Idle e h =
          onto _ (widen (λ es end k. accept_ended_so _ (ap (begun l.side l.maker ids) e) es end k)
          (both
          (record {
            along = poll_accept_ends
                (accept_operation (record { op = record { step = ids.line; part = ids.next_part }; side = l.side; maker = l.maker }) stage.Accept)
                (record { last = refl; left = Unarrived }) refl;
          })
          (by_left (poll_asks (accept_operation (record {
            op = record { step = ids.line; part = ids.next_part };
            side = l.side;
            maker = l.maker;
          }) stage.Accept)) (λ es end w. w))))
      by_accept (Accepting.Asking op) e h = onto _ (widen
          (λ es end k. accept_ended_so op (ap (begun l.side l.maker ids) e) es end k)
          (both (record { along = poll_accept_ends op h.accept h.going }) (by_left (poll_asks op) (λ es end w. w))))
      by_accept (Accepting.Arrived new peer) e h = ends
          (record { now = _; left = looks.ConnectionWaited new peer e; kept = refl })
      by_accept (Accepting.Failed c) e h = ends (record { now = _; left = looks.CodeWaited c e; kept = refl })

      accepts_so : Meets (Found (AcceptLooked m place r l ids)) [] (ready_on m ids (Some (watched.Socket place)))
      accepts_so = in_record (subst (λ (b : Bool). Meets (λ es done. Found (AcceptLooked m place r l ids) es (with_store
          m (ready_put m.store place done))) [] (ready_socket_by ids r b)) (sym (other r.in_progress idle))
          (subst (λ (b : Bool). Meets (λ es done. Found (AcceptLooked m place r l ids) es (with_store m (ready_put
          m.store place done))) [] (ready_idle ids r b)) (sym idle)
          (subst (λ (x : Listening). Meets (λ es done. Found (AcceptLooked m place r l ids) es (with_store m (ready_put
          m.store place done))) [] (ready_listening ids r x)) (sym accepts)
          (onto _ (by_accept l.accept refl holds)))))
        where
          other : (doing : InProgress) → is_nothing doing ≡ true → is_connect doing ≡ false
          other InProgress.Nothing e = refl
          other _ e = absurd (cc)

  -- == of a UDP socket
  module _ (o : OpenUdp) (at : open_at m.store.records place ≡ Some o) (inc : Incoming) (has : o.incoming ≡ Some inc)
    where
      abbrev ReceiveRow : List Entry → Socket × Incoming → Type 0
      ReceiveRow es s = (now : Receiving) × ReceiveLeft ids o.inner inc es s.0 now × (s.1 ≡ with_receiving inc now)

      polled : (op : Operation) (es : List Entry) (end : End × List Item) → ReceiveEnds end → PolledOnce
          (wanting inc.remote op) es end → ReceivePolled inc.remote op es (receive_left op end)
      polled op es (Waits, items) k w = ReceiveGoesOn items w
      polled op es (Done (Datagram bytes a), items) k w = ReceiveHasDatagram bytes a items w
      polled op es (Done _, items) k w = absurd k
      polled op es (Refused c given, items) k w = ReceiveHasCode c given items w

      module _ (none : inc.receiving ≡ Receiving.Nothing) where
        by_poll : (before : List Entry) (bound : Bool) → BoundSo (next_name ids) o.inner before bound → Meets ReceiveRow
            before (poll_receive_asks (found_so bound o.inner) inc (receive_start (next_name ids) o.inner bound))
        by_poll before bound so =
            let op = receive_start (next_name ids) o.inner bound in
            onto _ (widen (λ es end k. (
              receive_left op end,
              subst (λ (xs : List Entry). ReceiveLeft ids o.inner inc xs
                  (found_so bound o.inner) (receive_left op end)) (sym k.cut) (looks.ReceiveIsBegun before k.rest bound _
                  none so (polled op k.rest end k.row.0 k.row.1)),
              refl,
            ))
            (shifted before (both (record {
              along = receive_ends (wanting inc.remote op) (wanted_goes inc.remote op.left
                  (start_goes (next_name ids) o.inner bound)) [];
            }) (by_left (poll_asks (wanting inc.remote op)) (λ es end
            w. w)))))

        by_bound : (es : List Entry) (b : Bool × Socket) → UdpBoundRow (next_name ids) o.inner es b → Meets ReceiveRow es
            (poll_receive_asks b.1 inc (receive_start (next_name ids) b.1 b.0))
        by_bound _ _ (ItsBound es is) = by_poll es true (IsBoundSo es is)
        by_bound _ _ (ItsFree local free) = by_poll (udp_local_entry (next_name ids) o.inner local ∷ []) false
            (IsFreeSo local free)

      fetches : (receiving : Receiving) → inc.receiving ≡ receiving → Meets ReceiveRow []
          (fetch_asks (next_name ids) receiving (o.inner, inc))
      fetches Receiving.Nothing is = chain {Mid = λ es begun. Meets ReceiveRow es (poll_receive_asks begun.1 inc begun.0)}
          (onto _ (widen (by_bound is) (udp_bounds (next_name ids) o.inner))) (λ es begun k. k)
      fetches (Receiving.InProgress op) is = ends (inc.receiving, looks.NoneIsBegun (rw is refl), refl)
      fetches (Receiving.Came d) is = ends (inc.receiving, looks.NoneIsBegun (rw is refl), refl)
      fetches (Receiving.Failed c) is = ends (inc.receiving, looks.NoneIsBegun (rw is refl), refl)

      looked : (es : List Entry) (s : Socket × Incoming) → ReceiveRow es s → (let now : OpenUdp = record o
          { inner = s.0; incoming = Some s.1 } in Found (ReceiveLooked m place o inc ids) es
          (with_store m (incoming_looked m.store place o now)))
      looked es s k =
          let now : OpenUdp = record o { inner = s.0; incoming = Some s.1 } in
          record {
            socket = s.0;
            now = k.0;
            left = k.1;
            ready_so = rw k.2 refl;
            kept =
                (job_stays m.store place o now (begins_receive o now)).1 ∙ ap
                (λ (x : Incoming). open_put m.store.records place (record o { inner = s.0; incoming = Some x })) k.2;
          }

      receives_so : Meets (Found (ReceiveLooked m place o inc ids)) [] (ready_on m ids (Some (watched.Incoming place)))
      receives_so =
          onto _ (subst (λ (x : Option OpenUdp). Meets (λ es done. Found (ReceiveLooked m place o inc ids) es (with_store
          m done)) [] (ready_incoming_at m.store ids place x)) (sym at)
          (onto _ (subst (λ (x : Option Incoming). Meets (λ es now. Found (ReceiveLooked m place o inc ids) es (with_store
          m (incoming_looked m.store place o now))) [] (look_incoming ids o x)) (sym has)
          (onto _ (widen looked (fetches inc.receiving refl))))))

-- == of a look
pub connect_looks : (m : Machine) (ids : Ids) (p place : ℕ) (es : List Entry) (ready : Bool) (after : Machine)
    (r : TcpRecord) (op : Operation) → Finds m ids p First es ready after → watch_of (kind_at m.table p) ≡ Some
    (watched.Socket place)
    → tcp2_at m.store.records place ≡ Some r → is_connect r.in_progress ≡ true → r.inner.state ≡ TcpState.Connecting op
    → ConnectLooked m place r op es ready after
connect_looks m ids p place es ready after r op found w at connects state = of_find m ids p (watched.Socket place) w
    (connects_so m ids place r at op connects state) found

pub accept_looks : (m : Machine) (ids : Ids) (p place : ℕ) (es : List Entry) (ready : Bool) (after : Machine)
    (r : TcpRecord) (l : Listener) → Finds m ids p First es ready after → watch_of (kind_at m.table p) ≡ Some
    (watched.Socket place)
    → tcp2_at m.store.records place ≡ Some r → is_nothing r.in_progress ≡ true → r.listening ≡ Listening.Accepts l →
    HoldsAccept l.side l.maker l.accept → AcceptLooked m place r l ids es ready after
accept_looks m ids p place es ready after r l found w at idle accepts holds = of_find m ids p (watched.Socket place) w
    (accepts_so m ids place r at l idle accepts holds) found

pub receive_looks : (m : Machine) (ids : Ids) (p place : ℕ) (es : List Entry) (ready : Bool) (after : Machine)
    (o : OpenUdp) (inc : Incoming) → Finds m ids p First es ready after → watch_of (kind_at m.table p) ≡ Some
    (watched.Incoming place)
    → open_at m.store.records place ≡ Some o → o.incoming ≡ Some inc → ReceiveLooked m place o inc ids es ready after
receive_looks m ids p place es ready after o inc found w at has = of_find m ids p (watched.Incoming place) w
    (receives_so m ids place o at inc has) found

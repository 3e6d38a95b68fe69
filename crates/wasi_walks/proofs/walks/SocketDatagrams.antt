-- Datagrams of 0.3, as moves: one begins and is polled, is polled again where it stands beside other calls, and is given up; and the
-- network socket goes with the last that holds it.
use Rattle.std.specs.Prelude.{◌≡◌, ℕ, Bool, true, false, List, Option, Some, None, Result, Ok, refl}
use Rattle.std.proofs.Common.{ap, subst, sym}
use Rattle.wasi_addr.specs.declared.code.ErrorCode.{ErrorCode}
use Rattle.wasi_world.specs.declared.datagram.OutgoingDatagram.{OutgoingDatagram}
use Rattle.wasi_world.specs.declared.outcome.Answer.{Answer}
use Rattle.wasi_world.specs.declared.outcome.WasiSocketsCtx.{WasiSocketsCtx}
use Rattle.wasi_world.specs.Asks.{Asks, Give}
use Rattle.wasi_world.specs.Operation.{End, Item, Operation, Waits, Done, Refused, poll_asks}
use Rattle.wasi_udp.specs.Receive.{receive_asks, receive_start, wanting}
use Rattle.wasi_udp.specs.Send.{at_remote, send_asks, send_start}
use Rattle.wasi_udp.specs.Shape.{Socket}
use Rattle.wasi_udp.specs.Socket.{bound_asks}
use Rattle.udp_records.specs.declared.udp.OpenUdp.{OpenUdp}
use Rattle.udp_records.specs.declared.udp.UdpRecord.{UdpRecord}
use Rattle.record_common.specs.Binding.{bind_answer}
use Rattle.record_common.specs.Names.{own_of}
use Rattle.wasi_records.specs.Records.{open_at, udp2_at}
use Rattle.record_common.specs.Stops.{Code}
use Rattle.udp_records.specs.Udp.{with_udp_inner, without_udp_socket}
use Rattle.host_store.specs.declared.beside.Beside.{Beside}
use Rattle.host_store.specs.declared.beside.BesideCall.{BesideCall}
use Rattle.host_store.specs.declared.beside.BesideCall.TheVariants.{Connect, Resolve, Send, Receive}
use Rattle.host_store.specs.declared.kind.Kind.TheVariants.{Udp3}
use Rattle.host_store.specs.declared.machine.Machine.{Machine}
use Rattle.host_store.specs.BaseStops.{BaseStop}
use Rattle.host_store.specs.Beside.{beside_of, beside_without, unbeside}
use Rattle.host_store.specs.Block.{Call, Does, after_call, goes_on, last, or_trap, ◌>>=◌}
use Rattle.wasi_host.specs.Cancel.{beside_given_up}
use Rattle.host_store.specs.Kinds.{kind_at}
use Rattle.host_store.specs.Machine.{udp3_at}
use Rattle.host_udp.specs.SocketDatagrams.{Begun, begins_so, begun_on, begun_so, drop_udp, ends_so, goes_on_so, is_udp_held, let_udp_go, polled, polled_so, receive_begins, receive_of, received_answer, rereceive_of, resend_of, send_begins, send_of, udp_goes, without_udp_handle}
use Rattle.host_store.specs.Store.{Records}
use Rattle.host_store.specs.Store.{with_open_udp}
use Rattle.wasi_p3.specs.Lines.{in_base}
use Rattle.wasi_p3.specs.Udp.{receive, send}
use Rattle.wasi_steps.specs.declared.guest_call.GuestCall.{GuestCall}
use Rattle.wasi_steps.specs.declared.guest_call.P3UdpCall.{P3UdpCall}
use Rattle.wasi_steps.specs.declared.step.Step.{Step}
use Rattle.wasi_steps.specs.Steps.{handles_of}
use Rattle.wasi_walks.specs.Licence.{Has}
use Rattle.wasi_walks.proofs.walks.Asked.{BeginsDatagram, PollsBeside}
use Rattle.wasi_walks.proofs.walks.Datagrams.{KeepsBound, bound_given}
use Rattle.wasi_walks.proofs.walks.Law.{Law, Walks, Given, and_given, and_so, and_then, from, give, given_along, gives, move}
use Rattle.wasi_walks.proofs.walks.Lines.{call, look}
use Rattle.wasi_walks.proofs.walks.Moves.{DropsUdp, EndsBeside, FoundUdp, Here, Leaves, PollsDatagram, PollsReceive, PollsSend, ReachesUdp, Spends, StartsDatagram, StartsReceive, StartsSend, Unheld, Unused, Used, datagram_begun, datagram_polled, put_udp, with_beside}
use Rattle.wasi_walks.proofs.walks.States.{At, Emptying, Over, OverIn, OverWith, Put, Starts, udp3_kind, udp3_record}
use Rattle.wasi_walks.proofs.walks.Udp.{bound_walks, open_is, opened, release_udp_walks, udp_there, with_store_of}
use Rattle.wasi_walks.proofs.walks.UdpLaw.{udp_found, udp_put_same}

-- what is polled of an operation on a socket
abbrev sent_on : OpenUdp → Operation → Operation
sent_on o op = at_remote o.inner.remote op

abbrev received_on : OpenUdp → Operation → Operation
received_on o op = wanting None op

-- A datagram has begun on the socket.
record HasBegun (line : ℕ) (origin : Step) (m : Machine) (place : ℕ) (call : Operation → BesideCall) (polled : OpenUdp → Operation → Operation) (done : Begun) : Type 0 where
  socket : OpenUdp
  op : Operation
  is : done ≡ (Ok (op, socket), socket)
  starts : StartsDatagram line origin m.table place socket call op (polled socket op)

module _ (line : ℕ) (origin : Step) (m : Machine) (place : ℕ) where
  -- A start of it on a socket that is bound or not.
  record SendStarts (d : OutgoingDatagram) (begun : Operation × Socket) : Type 0 where
    bound : Bool
    same : begun.0 ≡ send_start (own_of line) begun.1 d.bytes d.remote_address bound
    known : bound ≡ true → begun.1.bound ≡ true

  record ReceiveStarts (begun : Operation × Socket) : Type 0 where
    bound : Bool
    same : begun.0 ≡ receive_start (own_of line) begun.1 bound
    known : bound ≡ true → begun.1.bound ≡ true

  send_given : (c s : ℕ) (d : OutgoingDatagram) → origin ≡ Step.Call c (GuestCall.P3Udp (P3UdpCall.Send s d)) → kind_at m.table s ≡ Some (Udp3 place) → (o : OpenUdp) → Given (HasBegun line origin m place (Send place) sent_on) (send_begins (own_of line) d o)
  send_given c s d is at o =
      given_along (SendStarts d) (HasBegun line origin m place (Send place) sent_on) (send_asks (own_of line) o.inner d.bytes d.remote_address) (λ begun. Give (begun_on o begun))
      (given_along KeepsBound (SendStarts d) (bound_asks (own_of line) o.inner) _ (bound_given (own_of line) o.inner) (λ b k. record { bound = b.0; same = refl; known = k }))
      (λ begun k. record { socket = with_udp_inner o begun.1; op = _; is = ap (λ (op : Operation). (Ok (op, with_udp_inner o begun.1), with_udp_inner o begun.1)) k.same; starts = StartsSend c s d k.bound is at k.known })

  receive_given : (c s : ℕ) → origin ≡ Step.Call c (GuestCall.P3Udp (P3UdpCall.Receive s)) → kind_at m.table s ≡ Some (Udp3 place) → (o : OpenUdp) → Given (HasBegun line origin m place (Receive place) received_on) (receive_begins (own_of line) o)
  receive_given c s is at o =
      given_along ReceiveStarts (HasBegun line origin m place (Receive place) received_on) (receive_asks (own_of line) o.inner) (λ begun. Give (begun_on o begun))
      (given_along KeepsBound ReceiveStarts (bound_asks (own_of line) o.inner) _ (bound_given (own_of line) o.inner) (λ b k. record { bound = b.0; same = refl; known = k }))
      (λ begun k. record { socket = with_udp_inner o begun.1; op = _; is = ap (λ (op : Operation). (Ok (op, with_udp_inner o begun.1), with_udp_inner o begun.1)) k.same; starts = StartsReceive c s k.bound is at k.known })

module _ {contexts : List WasiSocketsCtx} {line : ℕ} {origin : Step} {law : Law contexts line origin} where
  -- == its network socket goes with the last that holds it
  udp_goes_walks : (h : Here) (place n : ℕ) (held : Bool) → is_udp_held h.machine.store place ≡ held → Walks law h (λ done. with_store_of h done.1) (udp_goes (own_of n) place h.machine.store held)
  udp_goes_walks h place n true e = give _
  udp_goes_walks h place n false e = release_udp_walks h place n (udp2_at h.machine.store.records place) refl (λ o g. Unheld e)

  let_go_walks : (h : Here) (place n : ℕ) → Walks law h (λ done. with_store_of h done.1) (let_udp_go (own_of n) place h.machine.store)
  let_go_walks h place n = udp_goes_walks h place n (is_udp_held h.machine.store place) refl

  -- the handle goes
  pub drop_udp_walks : (m : Machine) (place : ℕ) → m.store.standing ≡ None → Walks law (Emptying line m place (Udp3 place) Unused) (OverIn m) (drop_udp (own_of line) place m.store)
  drop_udp_walks m place q = by_record (open_at m.store.records place) refl
    where
      by_record : (o : Option OpenUdp) → open_at m.store.records place ≡ o → Walks law (Emptying line m place (Udp3 place) Unused) (OverIn m) (let_udp_go (own_of line) place (without_udp_handle m.store place o))
      by_record None e = move (Spends _ refl) (move (Leaves _) (let_go_walks (Over m) place line))
      by_record (Some o) e =
          let now : Machine = record m { store = with_open_udp m.store place (without_udp_socket o) } in
          move (DropsUdp _ place o q refl (open_is (udp2_at m.store.records place) o e)) (move (Spends _ refl) (move (Leaves _) (let_go_walks (Over now) place line)))

  module _ {A : Type 0} (told : End → Result (Answer A) ErrorCode) (call : Operation → BesideCall) (poll : OpenUdp → Operation → Operation) (m : Machine) (place : ℕ) where
    -- == one begins, and is polled
    begun_walks : (o : OpenUdp) → FoundUdp (At line m place Unused) place (UdpRecord.Open o) → (x : OpenUdp) (op : Operation) → StartsDatagram line origin m.table place x call op (poll x op)
        → Walks law (put_udp (At line m place Unused) place (UdpRecord.Open x)) (Put line m place) (goes_on (polled (poll_asks (poll x op))) (begun_so told line call op) (with_open_udp m.store place x))
    begun_walks o g x op starts =
        and_so (λ ended. (Ok ended, tt)) (after_call (λ stop. stop) (λ store none. store) (begun_so told line call op) (with_open_udp m.store place x)) (record { along = λ es i. law.asks es now _ _ _ (BeginsDatagram place x call op (poll x op) refl (udp_found (udp_there {h = At line m place Unused} g) (UdpRecord.Open x)) starts refl refl) tt i }) ends_walks
      where
        now : Here
        now = put_udp (At line m place Unused) place (UdpRecord.Open x)

        ends_walks : (ended : End × List Item) → Walks law (record (with_beside now (datagram_begun m.store.beside line call op ended)) { own = Used }) (Put line m place) (begun_so told line call op ended (with_open_udp m.store place x))
        ends_walks (Waits, items) = give _
        ends_walks (Done given, items) = give _
        ends_walks (Refused c given, items) = give _

    begins_walks : (begins : OpenUdp → Asks Begun) → ((o : OpenUdp) → Given (HasBegun line origin m place call poll) (begins o))
        → ((o : OpenUdp) → FoundUdp (At line m place Unused) place (UdpRecord.Open o) → Walks law (put_udp (At line m place Unused) place (UdpRecord.Open o)) (λ done. put_udp (At line m place Unused) place (UdpRecord.Open done.1)) (begins o))
        → Walks law (At line m place Unused) (Put line m place) (begins_so told begins (λ o op. poll_asks (poll o op)) line place call m.store)
    begins_walks begins given w =
        look (λ o. Call Code (λ store. o) (λ store now. with_open_udp store place now) begins >>= polls) (open_at m.store.records place) (gives _ (Spends _ refl))
        (λ o e. (let g = opened line m place o e in
        from (udp_put_same (At line m place Unused) place (UdpRecord.Open o) g) (and_given (HasBegun line origin m place call poll) (given o) (w o g)
        (λ done k. subst (λ (done : Begun). Walks law (put_udp (At line m place Unused) place (UdpRecord.Open done.1)) (Put line m place) (after_call Code (λ store now. with_open_udp store place now) polls m.store done)) (sym k.is) (begun_walks o g k.socket k.op k.starts)))))
      where
        polls : Operation × OpenUdp → Records → Asks (Result (Answer A) BaseStop × Records)
        polls begun store = goes_on (polled (poll_asks (poll begun.1 begun.0))) (begun_so told line call begun.0) store

    -- == one that was pending is polled where it stands, and is over where it isn't pending any more
    goes_on_walks : (n : ℕ) (b : Beside) (op : Operation) → origin ≡ Step.Poll n → beside_of m.store n ≡ Some b → ((o : OpenUdp) → PollsDatagram place o b.call call op (poll o op))
        → Walks law (Over m) (OverIn m) (goes_on_so told (λ o op. poll_asks (poll o op)) n place call op m.store)
    goes_on_walks n b op is at polls =
        look (λ o. goes_on (polled (poll_asks (poll o op))) (polled_so told n place call op)) (open_at m.store.records place) (give _)
        (λ o e. and_so (λ ended. (Ok ended, tt)) (after_call (λ stop. stop) (λ store none. store) (polled_so told n place call op) m.store)
        (record { along = λ es i. law.asks es (Over m) _ _ _ (PollsBeside n b place o call op (poll o op) is at (open_is (udp2_at m.store.records place) o e) (polls o)) tt i }) ends_walks)
      where
        over_walks : (ended : End) → Walks law (with_beside (Over m) (beside_without m.store.beside n)) (OverIn m) (ends_so told n place ended m.store)
        over_walks ended = and_then (let_go_walks (Over (record m { store = unbeside m.store n })) place n) (λ done. give _)

        ends_walks : (ended : End × List Item) → Walks law (with_beside (Over m) (datagram_polled m.store.beside n call op ended)) (OverIn m) (polled_so told n place call op ended m.store)
        ends_walks (Waits, items) = give _
        ends_walks (Done given, items) = over_walks (Done given)
        ends_walks (Refused c given, items) = over_walks (Refused c given)

  -- == the calls
  send_of_walks : (m : Machine) (c s : ℕ) (d : OutgoingDatagram) → origin ≡ Step.Call c (GuestCall.P3Udp (P3UdpCall.Send s d)) → (place : ℕ) → kind_at m.table s ≡ Some (Udp3 place) → Walks law (At line m place Unused) (Put line m place) (send_of line place d m.store)
  send_of_walks m c s d is place at =
      begins_walks bind_answer (Send place) sent_on m place (send_begins (own_of line) d) (send_given line origin m place c s d is at)
      (λ o g. and_then (and_then (bound_walks (udp_there {h = At line m place Unused} g) refl o) (λ b. give _)) (λ begun. give _))

  receive_of_walks : (m : Machine) (c s : ℕ) → origin ≡ Step.Call c (GuestCall.P3Udp (P3UdpCall.Receive s)) → (place : ℕ) → kind_at m.table s ≡ Some (Udp3 place) → Walks law (At line m place Unused) (Put line m place) (receive_of line place m.store)
  receive_of_walks m c s is place at =
      begins_walks received_answer (Receive place) received_on m place (receive_begins (own_of line)) (receive_given line origin m place c s is at)
      (λ o g. and_then (and_then (bound_walks (udp_there {h = At line m place Unused} g) refl o) (λ b. give _)) (λ begun. give _))

  -- by the handle that the line names
  on_named_walks : {B : Type 0} (m : Machine) (s : ℕ) → Has (handles_of origin) s → (does : ℕ → Does ErrorCode Records B) → ((place : ℕ) → kind_at m.table s ≡ Some (Udp3 place) → Walks law (At line m place Unused) (Put line m place) (does place m.store))
      → Walks law (Starts m Unused) OverWith (or_trap (λ place. last (in_base (does place))) m (udp3_at m s))
  on_named_walks m s named does w =
      look (λ place. last (in_base (does place))) (udp3_at m s) (gives _ (Spends _ refl))
      (λ place e. move (ReachesUdp _ s place named (udp3_record (kind_at m.table s) place e)) (call _ (w place (udp3_kind (kind_at m.table s) place e)) (λ stop t. gives _ (Leaves _)) (λ a t. gives _ (Leaves _))))

  pub p3_udp_send_walks : (m : Machine) (c s : ℕ) (d : OutgoingDatagram) → origin ≡ Step.Call c (GuestCall.P3Udp (P3UdpCall.Send s d)) → Has (handles_of origin) s → Walks law (Starts m Unused) OverWith (send line s d m)
  p3_udp_send_walks m c s d is named = on_named_walks m s named (λ place. send_of line place d) (send_of_walks m c s d is)

  pub p3_udp_receive_walks : (m : Machine) (c s : ℕ) → origin ≡ Step.Call c (GuestCall.P3Udp (P3UdpCall.Receive s)) → Has (handles_of origin) s → Walks law (Starts m Unused) OverWith (receive line s m)
  p3_udp_receive_walks m c s is named = on_named_walks m s named (λ place. receive_of line place) (receive_of_walks m c s is)

  pub resend_walks : (m : Machine) (n place : ℕ) (b : Beside) (op : Operation) → origin ≡ Step.Poll n → beside_of m.store n ≡ Some b → b.call ≡ Send place op → Walks law (Over m) (OverIn m) (resend_of n place op m.store)
  resend_walks m n place b op is at e = goes_on_walks bind_answer (Send place) sent_on m place n b op is at (λ o. subst (λ (x : BesideCall). PollsDatagram place o x (Send place) op (sent_on o op)) (sym e) (PollsSend op))

  pub rereceive_walks : (m : Machine) (n place : ℕ) (b : Beside) (op : Operation) → origin ≡ Step.Poll n → beside_of m.store n ≡ Some b → b.call ≡ Receive place op → Walks law (Over m) (OverIn m) (rereceive_of n place op m.store)
  rereceive_walks m n place b op is at e = goes_on_walks received_answer (Receive place) received_on m place n b op is at (λ o. subst (λ (x : BesideCall). PollsDatagram place o x (Receive place) op (received_on o op)) (sym e) (PollsReceive op))

  -- == one is given up
  pub given_up_walks : (m : Machine) (n : ℕ) (call : BesideCall) → Walks law (Over m) (OverIn m) (beside_given_up n m.store call)
  given_up_walks m n (Connect place) = gives _ (EndsBeside _ n)
  given_up_walks m n (Resolve host) = gives _ (EndsBeside _ n)
  given_up_walks m n (Send place op) = move (EndsBeside _ n) (let_go_walks (Over (record m { store = unbeside m.store n })) place n)
  given_up_walks m n (Receive place op) = move (EndsBeside _ n) (let_go_walks (Over (record m { store = unbeside m.store n })) place n)

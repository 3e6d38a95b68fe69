-- Sends and receives of 0.3, as they begin.
use Rattle.wasi_causes.proofs.Words.{◌≡◌, ◌∙◌, ◌++◌, ℕ, Bool, true, false, if◌then◌else◌, List, [], ◌∷◌, Option, Some, None, Result}
use Rattle.wasi_causes.proofs.Words.{append-nil, Ok, Err, refl, ap, subst, sym, Answer, Asks, Done, End, Entry, ErrorCode, Give, Given}
use Rattle.wasi_causes.proofs.Words.{InvalidArgument, InvalidState, IpSocketAddress, Item, Machine, Nothing, OpId, Operation, Records, Refused, Told, Waits}
use Rattle.wasi_causes.proofs.Words.{WasiSocketsCtx, bind, own_of, p3_word}
use Rattle.std.specs.Prelude.{nat_lt, length}
use Rattle.wasi_addr.specs.declared.address.SocketAddressFamily.{SocketAddressFamily}
use Rattle.wasi_addr.specs.declared.code.ErrorCode.TheVariants.{DatagramTooLarge}
use Rattle.wasi_addr.specs.Code.{p3_of_code}
use Rattle.wasi_world.specs.declared.datagram.IncomingDatagram.{IncomingDatagram}
use Rattle.wasi_world.specs.declared.datagram.OutgoingDatagram.{OutgoingDatagram}
use Rattle.wasi_world.specs.Operation as op
use Rattle.wasi_world.specs.Operation.{Connection, Datagram, Names, Remote}
use Rattle.wasi_udp.specs.declared.send.Destination.{Destination}
use Rattle.wasi_udp.specs.declared.send.SendStage.TheVariants as stage
use Rattle.wasi_udp.specs.declared.receive.RecvStage.TheVariants as receive_stage
use Rattle.wasi_udp.specs.Receive.{receive_operation, receive_start}
use Rattle.wasi_udp.specs.Send.{at_remote, is_sendable, send_first, send_operation, where_to}
use Rattle.wasi_udp.specs.Shape.{Socket}
use Rattle.wasi_udp.specs.Socket.{asker_of}
use Rattle.udp_records.specs.declared.udp.OpenUdp.{OpenUdp}
use Rattle.wasi_records.specs.Records.{open_at}
use Rattle.record_common.specs.Stops.{Code}
use Rattle.udp_records.specs.Udp.{with_udp_inner}
use Rattle.record_common.specs.Binding.{bind_answer, left_of}
use Rattle.host_store.specs.BaseStops.{BaseStop, told_as}
use Rattle.host_store.specs.Beside.{beside_as}
use Rattle.host_store.specs.Block.{Call, after_call, goes_on, last}
use Rattle.host_store.specs.declared.beside.BesideCall.TheVariants.{Receive, Send}
use Rattle.host_store.specs.Machine.{udp3_at}
use Rattle.host_udp.specs.SocketDatagrams.{begun_so, polled, receive_begins, receive_of, receive_polls, received_answer, send_begins, send_of, send_polls}
use Rattle.host_store.specs.Store.{with_open_udp}
use Rattle.wasi_machine.specs.Machine.{p3_answer_reply}
use Rattle.wasi_p3.specs.Lines.{in_base, udp_in}
use Rattle.wasi_p3.specs.Udp as udp3
use Rattle.wasi_steps.specs.declared.guest_call.GuestCall.TheVariants as guest
use Rattle.wasi_steps.specs.declared.guest_call.P3UdpCall.TheVariants as p3_udp_call
use Rattle.wasi_steps.specs.declared.step.Step.TheVariants as step
use Rattle.wasi_steps.specs.Reply.{no_values, received_values}
use Rattle.wasi_causes.proofs.Beside.{found_last}
use Rattle.wasi_causes.proofs.operations.P3DatagramEnds.{gives_datagram, receive_ends, refuses, send_ends}
use Rattle.wasi_causes.proofs.sockets.Udp.{ItsBound, ItsFree, UdpBoundRow, put_udp_back, udp_bounds}
use Rattle.wasi_causes.proofs.tables.Meets.{After, Meets, Rows, chain, ends, onto, shifted, widen}
use Rattle.wasi_causes.proofs.tables.Routes.{Replied, Says, calls, finds}
use Rattle.wasi_causes.specs.MayAnswer.{IsP3Word}
use Rattle.wasi_causes.specs.P3Datagrams.{DatagramBegins, GoesNowhere, GoesTo, IsRestOfSend, IsTooLarge, IsUnbound, ReceiveEnds, ReceiveFails, ReceivePolls, SendEnds, SendFails, SendPolls, ToCheck, ToCheckBoth, ToReceive, its_receive, its_send, its_stage, left_begun, most_dropped}
use Rattle.wasi_causes.specs.P3Udp.{OfUdp3}
use Rattle.wasi_causes.specs.P3UdpConnects.{FindsBound, FoundBound, FoundFree}
use Rattle.wasi_causes.specs.Udp.{IsUdpBound, IsUdpUnbound, udp_local_entry}

p3_code : (c : ErrorCode) → IsP3Word (p3_word c)
p3_code c = record { code = c; is = refl }

-- == where a datagram goes
-- by its line it goes nowhere for one reason alone
by_test : (b : Bool) (to : Destination) (c : ErrorCode) → (if b then Ok to else Err InvalidArgument) ≡ Err c → c ≡ InvalidArgument
by_test true to c e = absurd (cc)
by_test false to c e = cc

nowhere : (family : SocketAddressFamily) (kept given : Option IpSocketAddress) (c : ErrorCode) → where_to family kept given ≡ Err c → c ≡ InvalidArgument
nowhere family None None c e = cc
nowhere family (Some remote) None c e = absurd (cc)
nowhere family None (Some a) c e = by_test (is_sendable family a) (record { addr = a; kept = false }) c e
nowhere family (Some remote) (Some a) c e = by_test _ (record { addr = a; kept = true }) c e

-- == a call that begins
module _ (contexts : List WasiSocketsCtx) (m : Machine) (line c handle place : ℕ) (names : udp3_at m handle ≡ Some place) (o : OpenUdp) (at : open_at m.store.records place ≡ Some o) where
  abbrev own : OpId
  own = own_of line

  of_udp : {P : ℕ → OpenUdp → Type 0} → P place o → OfUdp3 m handle P
  of_udp h = record { place = place; found = o; names = names; at = at; holds = h }

  -- the store, with the socket as it is then
  abbrev storing_so : Socket → Records
  storing_so now = with_open_udp m.store place (with_udp_inner o now)

  -- == a send
  module _ (d : OutgoingDatagram) where
    abbrev SendRow : Rows (Result (Answer (Unit {0})) BaseStop × Records)
    SendRow es done = Replied contexts m line (step.Call c (guest.P3Udp (p3_udp_call.Send handle d))) (p3_answer_reply no_values line) es (told_as p3_of_code done.0, record m { store = done.1 })

    -- its poll ended, and what follows
    abbrev sent_so : Socket → Operation → Asks (Result (Answer (Unit {0})) BaseStop × Records)
    sent_so now op = goes_on (polled (send_polls (with_udp_inner o now) op)) (begun_so bind_answer line (Send place) op) (storing_so now)

    refused : (es : List Entry) (code : ErrorCode) (now : Socket) → SendFails m own place o d es code (left_begun m place o now) → SendRow es (Err (Code code), storing_so now)
    refused es code now why = (tt, (p3_code code, of_udp (record { code = code; is = refl; cause = why })))

    module _ (asked : List Entry) (bound known : Bool) (finds_so : FindsBound own o.inner asked bound (record o.inner { bound = known })) where
      abbrev now : Socket
      now = record o.inner { bound = known }

      abbrev begins : DatagramBegins own o
      begins = record { asked = asked; bound = bound; now = now; finds = finds_so }

      -- a code that its line alone decides
      refuses_so : (code : ErrorCode) → SendFails m own place o d asked code (left_begun m place o now) → Meets SendRow asked (sent_so now (send_operation (asker_of own now) now.family d.bytes (stage.Refused code)))
      refuses_so code why =
          chain {Mid = λ es ended. Meets SendRow es (after_call (λ stop. stop) (λ store none. store) (begun_so bind_answer line (Send place) op) (storing_so now) ended)}
          (onto _ (widen ended (shifted asked (refuses (at_remote o.inner.remote op).who refl 63 code))))
          (λ es done k. k)
        where
          op : Operation
          op = send_operation (asker_of own now) now.family d.bytes (stage.Refused code)

          ended : (es : List Entry) (end : End × List Item) → After (λ es end. (es ≡ []) × (end ≡ (Refused code Nothing, []))) asked es end → Meets SendRow es (begun_so bind_answer line (Send place) op end (storing_so now))
          ended es end k =
              subst (λ (x : End × List Item). Meets SendRow es (begun_so bind_answer line (Send place) op x (storing_so now))) (sym k.row.1)
              (ends (refused es code now (subst (λ (xs : List Entry). SendFails m own place o d xs code (left_begun m place o now)) (sym (k.cut ∙ ap (λ (xs : List Entry). asked ++ xs) k.row.0 ∙ append-nil asked)) why)))

      module _ (goes : GoesTo o d) where
        abbrev its : Operation
        its = its_send begins d goes.to

        rest : (b : Bool) → IsRestOfSend (at_remote o.inner.remote (send_operation (asker_of own now) now.family d.bytes (its_stage goes.to b)))
        rest true = record { last = refl; left = ToCheck goes.to.kept goes.to.addr d.bytes }
        rest false = record { last = refl; left = ToCheckBoth now.family goes.to.kept goes.to.addr d.bytes }

        ended : (es : List Entry) (end : End × List Item) → After (SendPolls (at_remote o.inner.remote its).who its.left) asked es end → Meets SendRow es (begun_so bind_answer line (Send place) its end (storing_so now))
        ended es (Waits, items) k =
            ends (tt, ((refl, found_last m.store.beside (beside_as line (Send place (left_of its items)))), of_udp (record { begins = begins; goes = goes; polled = k.rest; items = items; ends = k.row; asked = k.cut; left = refl })))
        ended es (Done given, items) k = ends (tt, (tt, of_udp (record { begins = begins; goes = goes; polled = k.rest; given = given; items = items; ends = k.row; asked = k.cut; left = refl })))
        ended es (Refused code given, items) k = ends (refused es code now (rw k.cut (SendEnds begins goes k.rest code given items k.row)))

        polls_so : Meets SendRow asked (sent_so now its)
        polls_so =
            chain {Mid = λ es done. Meets SendRow es (after_call (λ stop. stop) (λ store none. store) (begun_so bind_answer line (Send place) its) (storing_so now) done)}
            (onto _ (widen ended (shifted asked (send_ends (at_remote o.inner.remote its) (rest bound)))))
            (λ es done k. k)

      by_bound : (goes : GoesTo o d) (b : Bool) → bound ≡ b → Meets SendRow asked (sent_so now (send_operation (asker_of own now) now.family d.bytes (send_first (Ok goes.to) b)))
      by_bound goes true e = subst (λ (x : Bool). Meets SendRow asked (sent_so now (send_operation (asker_of own now) now.family d.bytes (its_stage goes.to x)))) e (polls_so goes)
      by_bound goes false e = subst (λ (x : Bool). Meets SendRow asked (sent_so now (send_operation (asker_of own now) now.family d.bytes (its_stage goes.to x)))) e (polls_so goes)

      by_where : nat_lt 65535 (length d.bytes) ≡ false → (w : Result Destination ErrorCode) → where_to o.inner.family o.inner.remote d.remote_address ≡ w → Meets SendRow asked (sent_so now (send_operation (asker_of own now) now.family d.bytes (send_first w bound)))
      by_where within (Ok to) e = by_bound (record { within = within; to = to; goes = e }) bound refl
      by_where within (Err code) e =
          let its = nowhere o.inner.family o.inner.remote d.remote_address code e in
          subst (λ (x : ErrorCode). Meets SendRow asked (sent_so now (send_operation (asker_of own now) now.family d.bytes (stage.Refused x)))) (sym its) (refuses_so InvalidArgument (GoesNowhere begins within (e ∙ ap Err its)))

      by_size : (large : Bool) → nat_lt 65535 (length d.bytes) ≡ large → Meets SendRow asked (sent_so now (send_operation (asker_of own now) now.family d.bytes (send_first (if large then Err DatagramTooLarge else where_to o.inner.family o.inner.remote d.remote_address) bound)))
      by_size true e = refuses_so DatagramTooLarge (IsTooLarge begins e)
      by_size false e = by_where e (where_to o.inner.family o.inner.remote d.remote_address) refl

    abbrev send_next : Operation × OpenUdp → Records → Asks (Result (Answer (Unit {0})) BaseStop × Records)
    send_next begun = goes_on (polled (send_polls begun.1 begun.0)) (begun_so bind_answer line (Send place) begun.0)

    found : (es : List Entry) (b : Bool × Socket) → UdpBoundRow own o.inner es b
        → Meets SendRow es (goes_on (polled (send_polls (with_udp_inner o b.1) (send_operation (asker_of own b.1) b.1.family d.bytes (send_first (if nat_lt 65535 (length d.bytes) then Err DatagramTooLarge else where_to b.1.family b.1.remote d.remote_address) b.0)))) (begun_so bind_answer line (Send place) (send_operation (asker_of own b.1) b.1.family d.bytes (send_first (if nat_lt 65535 (length d.bytes) then Err DatagramTooLarge else where_to b.1.family b.1.remote d.remote_address) b.0))) (storing_so b.1))
    found _ _ (ItsBound es is) = by_size es true true (FoundBound es is) (nat_lt 65535 (length d.bytes)) refl
    found _ _ (ItsFree local free) = by_size _ false o.inner.bound (FoundFree local free) (nat_lt 65535 (length d.bytes)) refl

    pub sends_so : Meets SendRow [] (goes_on (Call Code (λ store. o) (λ store now. with_open_udp store place now) (send_begins own d)) send_next m.store)
    sends_so =
        chain {Mid = λ es done. Meets SendRow es (after_call Code (λ store now. with_open_udp store place now) send_next m.store done)}
        (onto _ (onto _ (widen found (udp_bounds own o.inner))))
        (λ es done k. k)

  -- == a receive
  abbrev ReceiveRow : Rows (Result (Answer IncomingDatagram) BaseStop × Records)
  ReceiveRow es done = Replied contexts m line (step.Call c (guest.P3Udp (p3_udp_call.Receive handle))) (p3_answer_reply received_values line) es (told_as p3_of_code done.0, record m { store = done.1 })

  -- its poll ended, and what follows
  abbrev received_so : Socket → Operation → Asks (Result (Answer IncomingDatagram) BaseStop × Records)
  received_so now op = goes_on (polled (receive_polls (with_udp_inner o now) op)) (begun_so received_answer line (Receive place) op) (storing_so now)

  receive_refused : (es : List Entry) (code : ErrorCode) (store : Records) → ReceiveFails m own place o es code (record m { store = store }) → ReceiveRow es (Err (Code code), store)
  receive_refused es code store why = (tt, (p3_code code, of_udp (record { code = code; is = refl; cause = why })))

  module _ (asked : List Entry) (is : IsUdpBound own o.inner asked) where
    abbrev bound_now : Socket
    bound_now = record o.inner { bound = true }

    abbrev its_op : Operation
    its_op = its_receive own o.inner

    came : (es : List Entry) (given : Given) (items : List Item) → After (ReceivePolls its_op.who most_dropped (op.Receive None ∷ [])) asked es (Done given, items) → Meets ReceiveRow es (begun_so received_answer line (Receive place) its_op (Done given, items) (storing_so bound_now))
    came es (Datagram bytes a) items k = ends (tt, ((record { bytes = bytes; remote_address = a }, refl), of_udp (record { before = asked; bound = is; polled = k.rest; datagram = record { bytes = bytes; remote_address = a }; items = items; ends = k.row; asked = k.cut; gives = refl; left = refl })))
    came es given items k = absurd (gives_datagram k.row)

    receive_ended : (es : List Entry) (end : End × List Item) → After (ReceivePolls its_op.who most_dropped (op.Receive None ∷ [])) asked es end → Meets ReceiveRow es (begun_so received_answer line (Receive place) its_op end (storing_so bound_now))
    receive_ended es (Waits, items) k =
        ends (tt, ((refl, found_last m.store.beside (beside_as line (Receive place (left_of its_op items)))), of_udp (record { before = asked; bound = is; polled = k.rest; items = items; ends = k.row; asked = k.cut; left = refl })))
    receive_ended es (Done given, items) k = came es given items k
    receive_ended es (Refused code given, items) k = ends (receive_refused es code (storing_so bound_now) (rw k.cut (ReceiveEnds asked k.rest code given items is k.row)))

    receives_bound : Meets ReceiveRow asked (received_so bound_now its_op)
    receives_bound =
        chain {Mid = λ es done. Meets ReceiveRow es (after_call (λ stop. stop) (λ store none. store) (begun_so received_answer line (Receive place) its_op) (storing_so bound_now) done)}
        (onto _ (widen receive_ended (shifted asked (receive_ends its_op (record { last = refl; left = ToReceive None })))))
        (λ es done k. k)

  module _ (local : Told) (free : IsUdpUnbound o.inner local) where
    abbrev refused_receive : Operation
    refused_receive = receive_operation (asker_of own o.inner) None (receive_stage.Refused InvalidState)

    unbound_ended : (es : List Entry) (end : End × List Item) → After (λ es end. (es ≡ []) × (end ≡ (Refused InvalidState Nothing, []))) (udp_local_entry own o.inner local ∷ []) es end
        → Meets ReceiveRow es (begun_so received_answer line (Receive place) refused_receive end (storing_so o.inner))
    unbound_ended es end k =
        let only : es ≡ udp_local_entry own o.inner local ∷ [] = k.cut ∙ ap (λ (xs : List Entry). udp_local_entry own o.inner local ∷ xs) k.row.0 in
        subst (λ (x : End × List Item). Meets ReceiveRow es (begun_so received_answer line (Receive place) refused_receive x (storing_so o.inner))) (sym k.row.1)
        (ends (receive_refused es InvalidState (storing_so o.inner) (put_udp_back (λ (after : Machine). ReceiveFails m own place o es InvalidState after) m place o at (rw only (IsUnbound local free)))))

    receives_unbound : Meets ReceiveRow (udp_local_entry own o.inner local ∷ []) (received_so o.inner refused_receive)
    receives_unbound =
        chain {Mid = λ es done. Meets ReceiveRow es (after_call (λ stop. stop) (λ store none. store) (begun_so received_answer line (Receive place) refused_receive) (storing_so o.inner) done)}
        (onto _ (widen unbound_ended (shifted (udp_local_entry own o.inner local ∷ []) (refuses refused_receive.who refl 63 InvalidState))))
        (λ es done k. k)

  abbrev receive_next : Operation × OpenUdp → Records → Asks (Result (Answer IncomingDatagram) BaseStop × Records)
  receive_next begun = goes_on (polled (receive_polls begun.1 begun.0)) (begun_so received_answer line (Receive place) begun.0)

  receive_found : (es : List Entry) (b : Bool × Socket) → UdpBoundRow own o.inner es b → Meets ReceiveRow es (received_so b.1 (receive_start own b.1 b.0))
  receive_found _ _ (ItsBound es is) = receives_bound es is
  receive_found _ _ (ItsFree local free) = receives_unbound local free

  pub receives_so : Meets ReceiveRow [] (goes_on (Call Code (λ store. o) (λ store now. with_open_udp store place now) (receive_begins own)) receive_next m.store)
  receives_so =
      chain {Mid = λ es done. Meets ReceiveRow es (after_call Code (λ store now. with_open_udp store place now) receive_next m.store done)}
      (onto _ (onto _ (widen receive_found (udp_bounds own o.inner))))
      (λ es done k. k)

-- == the steps
module _ (contexts : List WasiSocketsCtx) (m : Machine) (line c handle : ℕ) where
  pub p3_udp_send : (d : OutgoingDatagram) → Meets (Says contexts m line (step.Call c (guest.P3Udp (p3_udp_call.Send handle d)))) [] (bind (udp3.send line handle d m) (λ done. Give (p3_answer_reply no_values line done.0, done.1)))
  p3_udp_send d =
      onto _ (finds (λ place. last (in_base (send_of line place d))) (udp3_at m handle) (λ none. (tt, (ap (udp_in m) none, (refl, refl))))
      (λ place names. calls _ (on_place place names) (λ es why store row. ends row) (λ es answer store row. ends row)))
    where
      on_place : (place : ℕ) → udp3_at m handle ≡ Some place
          → Meets (λ es done. Replied contexts m line (step.Call c (guest.P3Udp (p3_udp_call.Send handle d))) (p3_answer_reply no_values line) es (told_as p3_of_code done.0, record m { store = done.1 })) [] (send_of line place d m.store)
      on_place place names =
          finds (λ o. goes_on (Call Code (λ store. o) (λ store now. with_open_udp store place now) (send_begins (own_of line) d)) (λ begun. goes_on (polled (send_polls begun.1 begun.0)) (begun_so bind_answer line (Send place) begun.0))) (open_at m.store.records place)
          (λ none. (tt, (ap (udp_in m) names ∙ none, (refl, refl))))
          (λ o at. sends_so contexts m line c handle place names o at d)

  pub p3_udp_receive : Meets (Says contexts m line (step.Call c (guest.P3Udp (p3_udp_call.Receive handle)))) [] (bind (udp3.receive line handle m) (λ done. Give (p3_answer_reply received_values line done.0, done.1)))
  p3_udp_receive =
      onto _ (finds (λ place. last (in_base (receive_of line place))) (udp3_at m handle) (λ none. (tt, (ap (udp_in m) none, (refl, refl))))
      (λ place names. calls _ (on_place place names) (λ es why store row. ends row) (λ es answer store row. ends row)))
    where
      on_place : (place : ℕ) → udp3_at m handle ≡ Some place
          → Meets (λ es done. Replied contexts m line (step.Call c (guest.P3Udp (p3_udp_call.Receive handle))) (p3_answer_reply received_values line) es (told_as p3_of_code done.0, record m { store = done.1 })) [] (receive_of line place m.store)
      on_place place names =
          finds (λ o. goes_on (Call Code (λ store. o) (λ store now. with_open_udp store place now) (receive_begins (own_of line))) (λ begun. goes_on (polled (receive_polls begun.1 begun.0)) (begun_so received_answer line (Receive place) begun.0))) (open_at m.store.records place)
          (λ none. (tt, (ap (udp_in m) names ∙ none, (refl, refl))))
          (λ o at. receives_so contexts m line c handle place names o at)

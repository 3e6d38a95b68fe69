-- How a UDP socket changes, and that it fits then.
use Rattle.std.specs.Prelude.{◌≡◌, Bool, true, false, if◌then◌else◌, ℕ, List, Option, Some, None, Result, Ok, Err, ◌⊎◌}
use Rattle.wasi_walks.proofs.Words.{Done, End, ErrorCode, Given, IpSocketAddress, Item, OpId, Operation, Refused, Waits, inl, inr, is_wildcard}
use Rattle.wasi_walks.proofs.Words.{refl, subst, sym, ◌∙◌}
use Rattle.wasi_addr.specs.declared.address.SocketAddressFamily.{SocketAddressFamily}
use Rattle.wasi_addr.specs.declared.code.ErrorCode.TheVariants.{InvalidState}
use Rattle.wasi_world.specs.Operation.{Datagram, Remote}
use Rattle.udp_records.specs.Datagrams.{udp_connect_left, udp_reconnect_left, with_sending}
use Rattle.udp_records.specs.Receiving.{receive_left, with_receiving}
use Rattle.udp_records.specs.Udp.{udp_bind_progress, with_udp_inner, with_udp_progress}
use Rattle.udp_records.specs.declared.datagrams.Incoming.{Incoming}
use Rattle.udp_records.specs.declared.datagrams.Outgoing.{Outgoing}
use Rattle.udp_records.specs.declared.datagrams.Receiving.{Receiving}
use Rattle.udp_records.specs.declared.datagrams.Sending.{Sending}
use Rattle.udp_records.specs.declared.udp.OpenUdp.{OpenUdp}
use Rattle.udp_records.specs.declared.udp.UdpRecord.{UdpRecord}
use Rattle.udp_records.specs.declared.udp.UdpInProgress.{UdpInProgress}
use Rattle.wasi_udp.specs.Bind as udp
use Rattle.wasi_udp.specs.Connect.{connect_start, with_given}
use Rattle.wasi_walks.specs.Waiting as binding
use Rattle.wasi_walks.specs.Waiting.{IsRestOfUdpConnect}
use Rattle.wasi_udp.specs.Create.{Create}
use Rattle.wasi_udp.specs.Receive.{IsLeftOfReceive, receive_first, receive_start}
use Rattle.wasi_udp.specs.Receive as receive
use Rattle.wasi_udp.specs.Send.{IsLeftOfSend, send_first, send_start, send_to}
use Rattle.wasi_udp.specs.Send as send
use Rattle.wasi_udp.specs.declared.send.Destination.{Destination}
use Rattle.wasi_udp.specs.Shape.{Socket}
use Rattle.wasi_udp.specs.Socket.{after_local}
use Rattle.wasi_walks.proofs.walks.Moves.{IsUdpSettled, SettlesSend, UdpPlain, receive_op, receiving_in, send_op, sending_in}
use Rattle.wasi_walks.proofs.fits.DatagramPolls.{LeavesConnect}
use Rattle.wasi_walks.proofs.fits.Records.{FitConnecting, FitReceiving, FitSending, FitUdp, FitUdpProgress, ReceiveOn, SendOn, UdpBindOn, UdpConnectOn}

-- it stays open, with a bind in progress where one was, and with a connect likewise
pub record KeepsOpen (u now : UdpRecord) : Type 0 where
  pub was : OpenUdp
  pub is : OpenUdp
  pub from : u ≡ UdpRecord.Open was
  pub to : now ≡ UdpRecord.Open is
  pub binds : (op : Operation) → was.in_progress ≡ UdpInProgress.Binding op → (next : Operation) × (is.in_progress ≡ UdpInProgress.Binding next)
  pub connects : (op : Operation) → was.connecting ≡ Some op → (next : Operation) × (is.connecting ≡ Some next)

-- the same record is the same socket
pub same_udp : (a b : UdpRecord) → Some a ≡ Some b → a ≡ b
same_udp a b e = cc

-- and the same open one
pub same_open : (a b : OpenUdp) → UdpRecord.Open a ≡ UdpRecord.Open b → a ≡ b
same_open a b e = cc

-- one that is made isn't open
pub no_open : (c : Create) (o : OpenUdp) → UdpRecord.Creating c ≡ UdpRecord.Open o → ⊥
no_open c o e = absurd (cc)

-- what it is in the middle of is the same
pub stays_open : (o now : OpenUdp) → now.in_progress ≡ o.in_progress → now.connecting ≡ o.connecting → KeepsOpen (UdpRecord.Open o) (UdpRecord.Open now)
stays_open o now d c = record { was = o; is = now; from = refl; to = refl; binds = λ op e. (op, d ∙ e); connects = λ op e. (op, c ∙ e) }

-- == what is no operation's own change
-- the bind in progress stays, or none was
plain_binds : (old now : UdpInProgress) → (now ≡ old) ⊎ (IsUdpSettled old × IsUdpSettled now) → (op : Operation) → old ≡ UdpInProgress.Binding op → now ≡ UdpInProgress.Binding op
plain_binds old now (inl same) op e = same ∙ e
plain_binds old now (inr s) op e = absurd (subst IsUdpSettled e s.0)

-- so it stays open
pub plain_open : (o now : OpenUdp) → UdpPlain o now → KeepsOpen (UdpRecord.Open o) (UdpRecord.Open now)
plain_open o now p = record { was = o; is = now; from = refl; to = refl; binds = λ op e. (op, plain_binds o.in_progress now.in_progress p.binds op e); connects = λ op e. (op, p.connects ∙ e) }

-- and what it is bound by fits
plain_progress : (side : OpId) (old now : UdpInProgress) → (now ≡ old) ⊎ (IsUdpSettled old × IsUdpSettled now) → FitUdpProgress side old → FitUdpProgress side now
plain_progress side old now (inl same) f = subst (FitUdpProgress side) (sym same) f
plain_progress side old UdpInProgress.Nothing (inr s) f = tt
plain_progress side old UdpInProgress.Bound (inr s) f = tt
plain_progress side old (UdpInProgress.Binding op) (inr s) f = absurd s.1

-- what is kept, or is over
pub kept_op : {A : Type 0} (P : Option A → Type 0) → P None → (old now : Option A) → (now ≡ old) ⊎ (now ≡ None) → P old → P now
kept_op P none old now (inl e) f = subst P (sym e) f
kept_op P none old now (inr e) f = subst P (sym e) none

-- what it is in the middle of fits this network socket
abbrev FitsOn : OpenUdp → OpId → Type 0
FitsOn o side = FitUdpProgress side o.in_progress × FitConnecting side o.connecting × FitSending side (sending_in o.outgoing) × FitReceiving side (receiving_in o.incoming)

-- and so does all of it
pub plain_fits : (o now : OpenUdp) → UdpPlain o now → FitUdp (UdpRecord.Open o) → FitUdp (UdpRecord.Open now)
plain_fits o now p f =
    let side : OpId = o.inner.side in
    subst (FitsOn now) (sym p.side) (
      plain_progress side o.in_progress now.in_progress p.binds f.0,
      subst (FitConnecting side) (sym p.connects) f.1,
      kept_op (FitSending side) tt (sending_in o.outgoing) (sending_in now.outgoing) p.sends f.2,
      kept_op (FitReceiving side) tt (receiving_in o.incoming) (receiving_in now.incoming) p.receives f.3,
    )

-- the socket changes, and keeps its network socket
pub inner_fits : (o : OpenUdp) (socket : Socket) → socket.side ≡ o.inner.side → FitUdp (UdpRecord.Open o) → FitUdp (UdpRecord.Open (with_udp_inner o socket))
inner_fits o socket e f = subst (FitsOn o) (sym e) f

-- what is learnt of whether it is bound leaves its network socket
pub learnt_side : (socket : Socket) (told : Result IpSocketAddress ErrorCode) → (after_local socket told).1.side ≡ socket.side
learnt_side socket (Ok a) = by_test (is_wildcard socket.family a)
  where
    by_test : (b : Bool) → (let answer : Bool × Socket = if b then (false, socket) else (true, record socket { bound = true }) in answer.1.side ≡ socket.side)
    by_test true = refl
    by_test false = refl
learnt_side socket (Err c) = refl

-- == a bind and a connect, polled
-- what a poll leaves of a bind fits
pub bound_udp : (o : OpenUdp) (op : Operation) (end : End × List Item) → UdpBindOn o.inner.side op → udp.IsLeftOfBind end.1 → FitUdp (UdpRecord.Open o) → FitUdp (UdpRecord.Open (with_udp_progress o (udp_bind_progress op end)))
bound_udp o op (Waits, items) its k f = (record { bind = record { last = its.bind.last; left = k }; of_side = its.of_side }, f.1, f.2, f.3)
bound_udp o op (Done given, items) its k f = (tt, f.1, f.2, f.3)
bound_udp o op (Refused c given, items) its k f = (tt, f.1, f.2, f.3)

-- a remote address that is given leaves the network socket
given_side : (socket : Socket) (given : Given) → (with_given socket given).side ≡ socket.side
given_side socket (Remote remote) = refl
given_side socket _ = refl

-- so does a poll of a connect
pub connected_side : (o : OpenUdp) (op : Operation) (end : End × List Item) → (udp_connect_left op o end).inner.side ≡ o.inner.side
connected_side o op (Waits, items) = refl
connected_side o op (Done given, items) = given_side o.inner given
connected_side o op (Refused c given, items) = given_side o.inner given

-- done, its streams do nothing yet
pub connected_udp : (o : OpenUdp) (op : Operation) (end : End × List Item) → UdpConnectOn o.inner.side op → LeavesConnect end → FitUdp (UdpRecord.Open o) → FitUdp (UdpRecord.Open (udp_connect_left op o end))
connected_udp o op (Waits, items) its k f = (f.0, record { connect = record { last = its.connect.last; left = k }; of_side = its.of_side }, f.2, f.3)
connected_udp o op (Done given, items) its k f = subst (FitsOn (udp_connect_left op o (Done given, items))) (sym (given_side o.inner given)) (f.0, tt, tt, tt)
connected_udp o op (Refused c given, items) its k f = subst (FitsOn (udp_connect_left op o (Refused c given, items))) (sym (given_side o.inner given)) (f.0, tt, f.2, f.3)

-- the first stage of a connect
pub begun_connect : (own : OpId) (socket : Socket) (a : IpSocketAddress) (bound : Bool) → IsRestOfUdpConnect (connect_start own socket a bound)
begun_connect own socket a true = record { last = refl; left = binding.ConnectUnchecked socket.family a }
begun_connect own socket a false = record { last = refl; left = binding.ConnectUnbound socket.family a }

-- one of 0.3
pub reconnected_udp : (o : OpenUdp) (op : Operation) (end : End × List Item) → UdpConnectOn o.inner.side op → LeavesConnect end → FitUdp (UdpRecord.Open o) → FitUdp (UdpRecord.Open (udp_reconnect_left op o end))
reconnected_udp o op (Waits, items) its k f = (f.0, record { connect = record { last = its.connect.last; left = k }; of_side = its.of_side }, f.2, f.3)
reconnected_udp o op (Done given, items) its k f = subst (FitsOn (udp_reconnect_left op o (Done given, items))) (sym (given_side o.inner given)) (f.0, tt, f.2, f.3)
reconnected_udp o op (Refused c given, items) its k f = subst (FitsOn (udp_reconnect_left op o (Refused c given, items))) (sym (given_side o.inner given)) (f.0, tt, f.2, f.3)

pub reconnected_side : (o : OpenUdp) (op : Operation) (end : End × List Item) → (udp_reconnect_left op o end).inner.side ≡ o.inner.side
reconnected_side o op (Waits, items) = refl
reconnected_side o op (Done given, items) = given_side o.inner given
reconnected_side o op (Refused c given, items) = given_side o.inner given

-- == datagrams
-- the first stage of one
first_send : (family : SocketAddressFamily) (bytes : List ℕ) (to : Result Destination ErrorCode) (bound : Bool) → IsLeftOfSend (send.send_left family bytes (send_first to bound))
first_send family bytes (Err c) bound = send.ToRefuse c
first_send family bytes (Ok to) true = send.Unchecked to.kept to.addr bytes
first_send family bytes (Ok to) false = send.Unbound family to.kept to.addr bytes

-- a datagram that begins is one
pub begun_send : (own : OpId) (socket : Socket) (bytes : List ℕ) (given : Option IpSocketAddress) (bound : Bool) → SendOn socket.side (send_start own socket bytes given bound)
begun_send own socket bytes given bound = record { send = record { last = refl; left = first_send socket.family bytes (send_to socket bytes given) bound }; of_side = refl }

-- what its outgoing stream sends
pub sends_on : (o : OpenUdp) (out : Outgoing) (op : Operation) → o.outgoing ≡ Some out → out.sending ≡ Sending.InProgress op → FitUdp (UdpRecord.Open o) → SendOn o.inner.side op
sends_on o out op e s f = subst (λ (x : Sending). FitSending o.inner.side (send_op x)) s (subst (λ (x : Option Outgoing). FitSending o.inner.side (sending_in x)) e f.2)

-- what a poll leaves of it fits
settled : (side : OpId) (op : Operation) (left : End × List Item → Sending) (end : End × List Item) → SettlesSend op left → SendOn side op → IsLeftOfSend end.1 → FitSending side (send_op (left end))
settled side op left (Waits, items) s its k = subst (λ (x : Sending). FitSending side (send_op x)) (sym (s.waits items)) (record { send = record { last = its.send.last; left = k }; of_side = its.of_side })
settled side op left (Done given, items) s its k = subst (FitSending side) (sym (s.done given items)) tt
settled side op left (Refused c given, items) s its k = subst (FitSending side) (sym (s.refused c given items)) tt

-- and so does its socket
pub sent_udp : (o : OpenUdp) (out : Outgoing) (op : Operation) (left : End × List Item → Sending) (end : End × List Item) → SettlesSend op left → SendOn o.inner.side op → IsLeftOfSend end.1 → FitUdp (UdpRecord.Open o) → FitUdp (UdpRecord.Open (record o { outgoing = Some (with_sending out (left end)) }))
sent_udp o out op left end s its k f = (f.0, f.1, settled o.inner.side op left end s its k, f.3)

-- the first stage of a receive
first_receive : (bound : Bool) → IsLeftOfReceive (receive.receive_left None (receive_first bound))
first_receive true = receive.Unreceived None
first_receive false = receive.ToRefuse InvalidState

-- a receive that begins is one
pub begun_receive : (own : OpId) (socket : Socket) (bound : Bool) → ReceiveOn socket.side (receive_start own socket bound)
begun_receive own socket bound = record { receive = record { last = refl; left = first_receive bound }; of_side = refl }

-- what its incoming stream receives by
pub receives_on : (o : OpenUdp) (inc : Incoming) (op : Operation) → o.incoming ≡ Some inc → inc.receiving ≡ Receiving.InProgress op → FitUdp (UdpRecord.Open o) → ReceiveOn o.inner.side op
receives_on o inc op e r f = subst (λ (x : Receiving). FitReceiving o.inner.side (receive_op x)) r (subst (λ (x : Option Incoming). FitReceiving o.inner.side (receiving_in x)) e f.3)

-- what a poll leaves of it fits
came : (side : OpId) (op : Operation) (end : End × List Item) → ReceiveOn side op → IsLeftOfReceive end.1 → FitReceiving side (receive_op (receive_left op end))
came side op (Waits, items) its k = record { receive = record { last = its.receive.last; left = k }; of_side = its.of_side }
came side op (Done (Datagram bytes a), items) its k = tt
came side op (Done _, items) its k = tt
came side op (Refused c given, items) its k = tt

-- and so does its socket
pub received_udp : (o : OpenUdp) (inc : Incoming) (op : Operation) (end : End × List Item) → ReceiveOn o.inner.side op → IsLeftOfReceive end.1 → FitUdp (UdpRecord.Open o) → FitUdp (UdpRecord.Open (record o { incoming = Some (with_receiving inc (receive_left op end)) }))
received_udp o inc op end its k f = (f.0, f.1, f.2, came o.inner.side op end its k)

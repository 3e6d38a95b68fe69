-- What is left of a datagram, of a receive and of a connect of a UDP socket after a poll.
use Rattle.std.specs.Prelude.{Bool, true, false, not, ◌&&◌, if◌then◌else◌, ℕ, zero, suc, refl, List, [], ◌∷◌, ⊤, ◌≡◌, Option, Result, Ok, Err}
use Rattle.wasi_walks.proofs.Words.{AccessDenied, Asks, Check, Done, End, Entry, ErrorCode, Front, Given, IpSocketAddress, Item, LastAsk, Nothing, NothingLast}
use Rattle.wasi_walks.proofs.Words.{Operation, Polled, Refused, Verdict, Waits, Who, allows_if, bind, front, last_ask, poll_asks, told_addr, told_done}
use Rattle.wasi_walks.proofs.Words.{told_polled, told_verdict, wildcard}
use Rattle.wasi_addr.specs.declared.address.SocketAddressFamily.{SocketAddressFamily}
use Rattle.wasi_addr.specs.declared.address.SocketAddrUse.TheVariants.{UdpBind, UdpReceive, UdpSend}
use Rattle.wasi_addr.specs.declared.code.ErrorCode.TheVariants.{InvalidState}
use Rattle.wasi_world.specs.Operation.{Again, Datagram, Ends, Goes, Stays, Receive, Send, UdpConnect, after, check_peer_front, is_now, is_wanted, peer_front, polls, receive_front, received_front, remote_told, round, send_front, verdict_front}
use Rattle.wasi_world.specs.Typed.{told_datagram}
use Rattle.socket_common.specs.Rounds.{some_left}
use Rattle.wasi_udp.specs.Receive.{IsLeftOfReceive, wanted_in}
use Rattle.wasi_udp.specs.Receive as receive
use Rattle.wasi_udp.specs.Send.{IsLeftOfSend}
use Rattle.wasi_udp.specs.Send as send
use Rattle.wasi_walks.specs.Waiting.{IsLeftOfUdpConnect, ConnectUnbound, ConnectUnchecked, ConnectSendChecked}
use Rattle.wasi_walks.proofs.Gives.{Gives, gives_more, gives_then}
use Rattle.wasi_walks.proofs.fits.Polls.{Anything, Keeps, by_polled, checks, kept, lasts}

-- == a datagram
module _ (who : Who) where
  abbrev SendKeeps : List Item → List Entry → Front → Type 0
  SendKeeps items es f = Keeps who IsLeftOfSend send.Ended items es f

  -- one for a remote address that has changed is refused; else it is sent, or waits
  sends : (es : List Entry) (to : Bool) (a : IpSocketAddress) (bytes : List ℕ) → Gives (λ fs f. SendKeeps [] fs f) es (send_front who to a bytes)
  unfolding bind
  sends es to a bytes = allows_if Anything (λ fs f. SendKeeps [] fs f) es (to && not (is_now who.remote a)) _ _ (λ late. lasts who IsLeftOfSend send.Ended who.last es InvalidState Nothing) (λ now. (tt, λ t fits. by_polled who IsLeftOfSend send.Ended [] send.Ended _ (Send to a bytes) (told_polled t) (send.Checked to a bytes)))

  -- each of its asks leaves a datagram
  send_fronts : (es : List Entry) (given : Given) (item : Item) (items : List Item) → IsLeftOfSend (item ∷ items) → Gives (λ fs f. SendKeeps items fs f) es (front who item)
  send_fronts es given _ _ (send.ToRefuse c) = lasts who IsLeftOfSend send.Ended who.last es c Nothing
  send_fronts es given _ _ (send.Unbound family to a bytes) = checks who IsLeftOfSend send.Ended _ (send.Unchecked to a bytes) es (wildcard family) _ (send.Unbound family to a bytes)
  send_fronts es given _ _ (send.Unchecked to a bytes) = checks who IsLeftOfSend send.Ended _ (send.Checked to a bytes) es a _ (send.Unchecked to a bytes)
  send_fronts es given _ _ (send.Checked to a bytes) = sends es to a bytes

-- a datagram that is polled leaves a datagram
pub datagram_left : (op : Operation) → IsLeftOfSend op.left → (es : List Entry) → Gives (λ fs end. IsLeftOfSend end.1) es (poll_asks op)
datagram_left op its es = kept op.who IsLeftOfSend send.Ended (send_fronts op.who) op.left its es

-- == a receive
module _ (who : Who) where
  abbrev ReceiveKeeps : List Item → List Entry → Front → Type 0
  ReceiveKeeps items es f = Keeps who IsLeftOfReceive receive.Ended items es f

  module _ (only : Option IpSocketAddress) where
    -- a datagram of another sender than the wanted one is dropped
    by_sender : (es : List Entry) (bytes : List ℕ) (a : IpSocketAddress) (b : Bool) → ReceiveKeeps [] es (if b then Goes (Datagram bytes a) else Again (Receive only))
    by_sender es bytes a true = receive.Ended
    by_sender es bytes a false = receive.Unreceived only

    -- its sender's check was answered
    by_checked : (es : List Entry) (bytes : List ℕ) (a : IpSocketAddress) (v : Verdict) → ReceiveKeeps [] es (received_front only bytes a v)
    by_checked es bytes a Verdict.Yes = by_sender es bytes a (is_wanted only a)
    by_checked es bytes a Verdict.No = receive.Unreceived only
    by_checked es bytes a Verdict.Pending = receive.Received only bytes a

    -- the sender is checked
    peer_checks : (es : List Entry) (bytes : List ℕ) (a : IpSocketAddress) → Gives (λ fs f. ReceiveKeeps [] fs f) es (check_peer_front who only bytes a)
    unfolding bind
    peer_checks es bytes a = (tt, λ t fits. by_checked _ bytes a (told_verdict t))

    -- once the receive was answered
    received : (es : List Entry) (p : Polled (List ℕ × IpSocketAddress)) → Gives (λ fs f. ReceiveKeeps [] fs f) es (receive_front who only p)
    received es Polled.Pending = receive.Unreceived only
    received es (Polled.Ready d) = peer_checks es d.0 d.1
    received es (Polled.Code c) = lasts who IsLeftOfReceive receive.Ended who.last es c Nothing

  -- each of its asks leaves a receive
  receive_fronts : (es : List Entry) (given : Given) (item : Item) (items : List Item) → IsLeftOfReceive (item ∷ items) → Gives (λ fs f. ReceiveKeeps items fs f) es (front who item)
  unfolding bind
  receive_fronts es given _ _ (receive.ToRefuse c) = lasts who IsLeftOfReceive receive.Ended who.last es c Nothing
  receive_fronts es given _ _ (receive.Unreceived only) = (tt, λ t fits. received only _ (told_datagram t))
  receive_fronts es given _ _ (receive.Received only bytes a) = peer_checks only es bytes a

-- a receive that is polled leaves a receive
pub received_left : (op : Operation) → IsLeftOfReceive op.left → (es : List Entry) → Gives (λ fs end. IsLeftOfReceive end.1) es (poll_asks op)
received_left op its es = kept op.who IsLeftOfReceive receive.Ended (receive_fronts op.who) op.left its es

-- whomever it is wanted from
pub wanted_left : (only : Option IpSocketAddress) (items : List Item) → IsLeftOfReceive items → IsLeftOfReceive (wanted_in only items)
wanted_left only _ (receive.ToRefuse c) = receive.ToRefuse c
wanted_left only _ (receive.Unreceived any) = receive.Unreceived only
wanted_left only _ (receive.Received any bytes peer) = receive.Received only bytes peer
wanted_left only _ receive.Ended = receive.Ended

-- == a connect, whose checks alone may wait
abbrev pub LeavesConnect : End × List Item → Type 0
LeavesConnect (Waits, items) = IsLeftOfUdpConnect items
LeavesConnect _ = ⊤

module _ (who : Who) (again : List Item → Asks (End × List Item)) where
  abbrev ConnectGives : List Entry → Given → List Item → Type 0
  ConnectGives es given items = Gives (λ fs end. LeavesConnect end) es (round again who given items)

  -- one that ended with a code leaves whatever it may
  ends_so : (es : List Entry) (last : LastAsk) (c : ErrorCode) (given : Given) → Gives (λ fs end. LeavesConnect end) es (last_ask who last c given)
  unfolding bind
  ends_so es NothingLast c given = tt
  ends_so es _ c given = (tt, λ t fits. tt)

  -- it was answered, and the remote address reported: the connect is over
  by_outcome : (es : List Entry) (outcome : Result (Unit {0}) ErrorCode) (remote : Option IpSocketAddress) → Gives (λ fs end. LeavesConnect end) es (after again who [] (λ g. round again who g []) (peer_front outcome remote))
  by_outcome es (Ok done) remote = tt
  by_outcome es (Err c) remote = ends_so es who.last c _

  -- both checks were answered
  connects : (es : List Entry) (given : Given) (family : SocketAddressFamily) (a : IpSocketAddress) → ConnectGives es given (UdpConnect family a ∷ [])
  unfolding bind
  connects es given family a = (tt, λ t fits. (tt, λ u more. by_outcome _ (told_done t) (remote_told family (told_addr u))))

  module _ (family : SocketAddressFamily) (a : IpSocketAddress) where
    -- the second check was answered
    by_second : (es : List Entry) (v : Verdict) → Gives (λ fs end. LeavesConnect end) es (after again who (UdpConnect family a ∷ []) (λ g. round again who g (UdpConnect family a ∷ [])) (verdict_front (Check a UdpReceive) v))
    by_second es Verdict.Yes = connects es Nothing family a
    by_second es Verdict.No = ends_so es who.last AccessDenied Nothing
    by_second es Verdict.Pending = ConnectSendChecked family a

    -- only the first check was
    second_check : (es : List Entry) (given : Given) → ConnectGives es given (Check a UdpReceive ∷ UdpConnect family a ∷ [])
    unfolding bind
    second_check es given = (tt, λ t fits. by_second _ (told_verdict t))

    -- the first check was answered
    by_first : (es : List Entry) (v : Verdict) → Gives (λ fs end. LeavesConnect end) es (after again who (Check a UdpReceive ∷ UdpConnect family a ∷ []) (λ g. round again who g (Check a UdpReceive ∷ UdpConnect family a ∷ [])) (verdict_front (Check a UdpSend) v))
    by_first es Verdict.Yes = second_check es Nothing
    by_first es Verdict.No = ends_so es who.last AccessDenied Nothing
    by_first es Verdict.Pending = ConnectUnchecked family a

    -- neither check was
    first_check : (es : List Entry) (given : Given) → ConnectGives es given (Check a UdpSend ∷ Check a UdpReceive ∷ UdpConnect family a ∷ [])
    unfolding bind
    first_check es given = (tt, λ t fits. by_first _ (told_verdict t))

    -- the check of the wildcard was answered
    by_wildcard : (es : List Entry) (v : Verdict) → Gives (λ fs end. LeavesConnect end) es (after again who (Check a UdpSend ∷ Check a UdpReceive ∷ UdpConnect family a ∷ []) (λ g. round again who g (Check a UdpSend ∷ Check a UdpReceive ∷ UdpConnect family a ∷ [])) (verdict_front (Check (wildcard family) UdpBind) v))
    by_wildcard es Verdict.Yes = first_check es Nothing
    by_wildcard es Verdict.No = ends_so es who.last AccessDenied Nothing
    by_wildcard es Verdict.Pending = ConnectUnbound family a

    -- no check was
    wildcard_check : (es : List Entry) (given : Given) → ConnectGives es given (Check (wildcard family) UdpBind ∷ Check a UdpSend ∷ Check a UdpReceive ∷ UdpConnect family a ∷ [])
    unfolding bind
    wildcard_check es given = (tt, λ t fits. by_wildcard _ (told_verdict t))

  -- a round of what is left
  connect_round : (es : List Entry) (items : List Item) → IsLeftOfUdpConnect items → ConnectGives es Nothing items
  connect_round es _ (ConnectUnbound family a) = wildcard_check family a es Nothing
  connect_round es _ (ConnectUnchecked family a) = first_check family a es Nothing
  connect_round es _ (ConnectSendChecked family a) = second_check family a es Nothing

-- a poll of it is one round
connect_polls : (n : ℕ) (who : Who) (items : List Item) → IsLeftOfUdpConnect items → (es : List Entry) → Gives (λ fs end. LeavesConnect end) es (polls (suc n) who items)
unfolding polls
connect_polls n who items its es = connect_round who (polls n who) es items its

-- a connect that waits is one whose checks aren't both answered
pub udp_connect_leaves : (op : Operation) → IsLeftOfUdpConnect op.left → (es : List Entry) → Gives (λ fs end. LeavesConnect end) es (poll_asks op)
udp_connect_leaves op its es = connect_polls 63 op.who op.left its es

-- == of one that is pending something is left
module _ (who : Who) (C : List Item → Type 0) (over : C []) where
  abbrev Pends : End × List Item → Type 0
  Pends (Waits, items) = C items × (some_left items ≡ true)
  Pends _ = ⊤

  -- one that ended with a code is pending no more
  refused_so : (es : List Entry) (last : LastAsk) (c : ErrorCode) (given : Given) → Gives (λ fs end. Pends end) es (last_ask who last c given)
  unfolding bind
  refused_so es NothingLast c given = tt
  refused_so es _ c given = (tt, λ t fits. tt)

  module _ (fronts : (es : List Entry) (given : Given) (item : Item) (items : List Item) → C (item ∷ items) → Gives (λ fs f. Keeps who C over items fs f) es (front who item)) where
    pends_after : (again : List Item → Asks (End × List Item)) (items : List Item) (next : Given → Asks (End × List Item)) → ((es : List Entry) (item : Item) (items : List Item) → C (item ∷ items) → Gives (λ fs end. Pends end) es (again (item ∷ items)))
        → ((es : List Entry) (given : Given) → C items → Gives (λ fs end. Pends end) es (next given)) → (es : List Entry) (f : Front) → Keeps who C over items es f → Gives (λ fs end. Pends end) es (after again who items next f)
    pends_after again items next a n es (Goes given) k = n es given k
    pends_after again items next a n es (Stays item) k = (k, refl)
    pends_after again items next a n es (Again item) k = a es item items k
    pends_after again items next a n es (Ends c given) k = refused_so es who.last c given

    pends_round : (again : List Item → Asks (End × List Item)) → ((es : List Entry) (item : Item) (items : List Item) → C (item ∷ items) → Gives (λ fs end. Pends end) es (again (item ∷ items)))
        → (items : List Item) (es : List Entry) (given : Given) → C items → Gives (λ fs end. Pends end) es (round again who given items)
    pends_round again a [] es given k = tt
    pends_round again a (item ∷ items) es given k =
        gives_then (λ fs f. Keeps who C over items fs f) (λ fs end. Pends end) es (front who item) (after again who items (λ g. round again who g items)) (fronts es given item items k)
        (λ fs f l. pends_after again items (λ g. round again who g items) a (λ gs g. pends_round again a items gs g) fs f l)

    pends_again : (n : ℕ) (es : List Entry) (item : Item) (items : List Item) → C (item ∷ items) → Gives (λ fs end. Pends end) es (polls n who (item ∷ items))
    unfolding polls
    pends_again zero es item items k = (k, refl)
    pends_again (suc n) es item items k = pends_round (polls n who) (pends_again n) (item ∷ items) es Nothing k

    pub pends : (n : ℕ) (items : List Item) → C items → (es : List Entry) → Gives (λ fs end. Pends end) es (polls (suc n) who items)
    unfolding polls
    pends n items k es = pends_round (polls n who) (pends_again n) items es Nothing k

-- a datagram, and a receive
abbrev pub LeavesSend : End × List Item → Type 0
LeavesSend (Waits, items) = IsLeftOfSend items × (some_left items ≡ true)
LeavesSend _ = ⊤

abbrev pub LeavesReceive : End × List Item → Type 0
LeavesReceive (Waits, items) = IsLeftOfReceive items × (some_left items ≡ true)
LeavesReceive _ = ⊤

pub send_leaves : (op : Operation) → IsLeftOfSend op.left → (es : List Entry) → Gives (λ fs end. LeavesSend end) es (poll_asks op)
send_leaves op its es = gives_more (λ fs end. Pends op.who IsLeftOfSend send.Ended end) (λ fs end. LeavesSend end) (λ fs end k. so end k) es (poll_asks op) (pends op.who IsLeftOfSend send.Ended (send_fronts op.who) 63 op.left its es)
  where
    so : (end : End × List Item) → Pends op.who IsLeftOfSend send.Ended end → LeavesSend end
    so (Waits, items) k = k
    so (Done given, items) k = tt
    so (Refused c given, items) k = tt

pub receive_leaves : (op : Operation) → IsLeftOfReceive op.left → (es : List Entry) → Gives (λ fs end. LeavesReceive end) es (poll_asks op)
receive_leaves op its es =
    gives_more (λ fs end. Pends op.who IsLeftOfReceive receive.Ended end) (λ fs end. LeavesReceive end) (λ fs end k. so end k) es (poll_asks op) (pends op.who IsLeftOfReceive receive.Ended (receive_fronts op.who) 63 op.left its es)
  where
    so : (end : End × List Item) → Pends op.who IsLeftOfReceive receive.Ended end → LeavesReceive end
    so (Waits, items) k = k
    so (Done given, items) k = tt
    so (Refused c given, items) k = tt

-- A poll of a datagram, and of a receive: how it ends.
use Rattle.std.specs.Prelude.{suc}
use Rattle.wasi_causes.proofs.Words.{Asks, Bool, Check, End, Entry, ErrorCode, Has, InvalidState, IpSocketAddress, IsPolled, IsVerdict, Item, Last, LastAsk, List, Nothing, NothingLast, OpId}
use Rattle.wasi_causes.proofs.Words.{Operation, Option, Refused, Told, [], after, bind, entry, false, inl, inr, if◌then◌else◌, is_now, last_ask, not, poll_asks, polled_front, polls, refl, round}
use Rattle.wasi_causes.proofs.Words.{subst, sym, told_polled, told_verdict, true, wildcard, zero, ℕ, ⊤, ◌&&◌, ◌++◌, ◌∷◌, ◌≡◌}
use Rattle.wasi_addr.specs.declared.address.SocketAddrUse.TheVariants as usages
use Rattle.wasi_world.specs.Fits.{IsDatagram}
use Rattle.wasi_world.specs.Operation.{Again, Datagram, Goes, Receive, Send, is_wanted, receive_front, received_front}
use Rattle.wasi_world.specs.Typed.{told_datagram}
use Rattle.wasi_world.specs.declared.call.Call.TheVariants as call
use Rattle.wasi_world.specs.declared.call.Told.TheVariants as told
use Rattle.wasi_udp.specs.Send.{IsLeftOfSend, IsSend}
use Rattle.wasi_udp.specs.Send as send
use Rattle.udp_records.specs.declared.datagrams.Incoming.{Incoming}
use Rattle.udp_records.specs.declared.udp.OpenUdp.{OpenUdp}
use Rattle.wasi_causes.proofs.operations.Checks.{by_verdict, stops}
use Rattle.wasi_causes.proofs.operations.Polls.{EndsFor}
use Rattle.wasi_causes.proofs.tables.Meets.{Meets, Rows, asks, branch, chain, ends}
use Rattle.wasi_causes.specs.SendCauses.{CannotBeSent, CannotReceive, DatagramFails, first_receive, ReceiveFails, ReceiveToldWhy, SendToldNo, SendToldWhy, SendTooLate}

-- == a datagram
module _ (op : Operation) (plain : op.who.last ≡ NothingLast) (again : List Item → Asks (End × List Item)) where
  -- it waits, or is done, or ends with a code for this reason
  abbrev SendRow : Rows (End × List Item)
  SendRow = EndsFor op (DatagramFails op)

  module _ (kept : Bool) (a : IpSocketAddress) (bytes : List ℕ) (its : Has op.left (Send kept a bytes)) where
    -- it was answered
    answered : (es : List Entry) (t : Told) → IsPolled t → Meets SendRow (es ++ entry op.who.id (call.Send op.who.side a bytes) t ∷ []) (after again op.who [] (λ g. round again op.who g []) (polled_front (Send kept a bytes) (told_polled t)))
    answered es told.Done fits = ends tt
    answered es told.Pending fits = ends (record { front = es; last = _; cut = refl; op = refl; told = refl })
    answered es (told.Code c) fits = stops op plain again (DatagramFails op) _ c Nothing (SendToldWhy kept a bytes c its (record { front = es; cut = refl }))
    answered es _ fits = absurd fits

    -- its checks were
    sends : (es : List Entry) → Meets SendRow es (round again op.who Nothing (Send kept a bytes ∷ []))
    unfolding bind
    sends es =
        chain {Mid = λ fs f. Meets SendRow fs (after again op.who [] (λ g. round again op.who g []) f)}
        (branch (kept && not (is_now op.who.remote a)) (λ late. ends (stops op plain again (DatagramFails op) es InvalidState Nothing (SendTooLate kept a bytes its late)))
        (λ now. asks (λ t fits. ends (answered es t fits))))
        (λ fs f k. k)

    -- it is checked before
    checks : Has op.left (Check a usages.UdpSend) → (es : List Entry) → Meets SendRow es (round again op.who Nothing (Check a usages.UdpSend ∷ Send kept a bytes ∷ []))
    unfolding bind
    checks has es = asks (λ t fits. by_verdict op plain again (DatagramFails op) es a usages.UdpSend (Send kept a bytes ∷ []) (SendToldNo a usages.UdpSend has (record { front = es; cut = refl })) sends t fits)

    -- and the wildcard before that
    checks_both : (w : IpSocketAddress) → Has op.left (Check w usages.UdpBind) → Has op.left (Check a usages.UdpSend) → (es : List Entry) → Meets SendRow es (round again op.who Nothing (Check w usages.UdpBind ∷ Check a usages.UdpSend ∷ Send kept a bytes ∷ []))
    unfolding bind
    checks_both w first has es = asks (λ t fits. by_verdict op plain again (DatagramFails op) es w usages.UdpBind (Check a usages.UdpSend ∷ Send kept a bytes ∷ []) (SendToldNo w usages.UdpBind first (record { front = es; cut = refl })) (checks has) t fits)

  -- by what is left
  by_left : (items : List Item) → IsLeftOfSend items → ((item : Item) → Has items item → Has op.left item) → Meets SendRow [] (round again op.who Nothing items)
  unfolding bind
  by_left _ (send.ToRefuse c) in_left = stops op plain again (DatagramFails op) [] c Nothing (CannotBeSent c (in_left _ (inl refl)) refl)
  by_left _ (send.Unbound family kept a bytes) in_left = checks_both kept a bytes (in_left _ (inr (inr (inl refl)))) (wildcard family) (in_left _ (inl refl)) (in_left _ (inr (inl refl))) []
  by_left _ (send.Unchecked kept a bytes) in_left = checks kept a bytes (in_left _ (inr (inl refl))) (in_left _ (inl refl)) []
  by_left _ (send.Checked kept a bytes) in_left = sends kept a bytes (in_left _ (inl refl)) []
  by_left _ send.Ended in_left = ends tt

-- a poll is one round
send_rounds : (op : Operation) (n : ℕ) → IsSend op → Meets (EndsFor op (DatagramFails op)) [] (polls (suc n) op.who op.left)
unfolding polls
send_rounds op n its = by_left op its.last (polls n op.who) op.left its.left (λ item has. has)

-- how a poll of it ends
pub datagram_ends : (op : Operation) → IsSend op → Meets (EndsFor op (DatagramFails op)) [] (poll_asks op)
datagram_ends op its = send_rounds op 63 its

-- == a receive
module _ (op : Operation) (plain : op.who.last ≡ NothingLast) (only : Option IpSocketAddress) where
  -- it waits or is done, or one of its asks broke it
  abbrev pub ReceiveRow : Rows (End × List Item)
  ReceiveRow es (Refused c given, items) = ReceiveFails op es c
  ReceiveRow es _ = ⊤

  -- it ended with a code
  receive_stops : (es : List Entry) (c : ErrorCode) → ReceiveFails op es c → Meets ReceiveRow es (last_ask op.who op.who.last c Nothing)
  receive_stops es c why = subst (λ (last : LastAsk). Meets ReceiveRow es (last_ask op.who last c Nothing)) (sym plain) (ends why)

  module _ (again : List Item → Asks (End × List Item)) (next : (es : List Entry) → Meets ReceiveRow es (again (Receive only ∷ []))) where
    -- the sender's check was answered
    by_check : (es : List Entry) (bytes : List ℕ) (a : IpSocketAddress) (t : Told) → IsVerdict t → Meets ReceiveRow es (after again op.who [] (λ g. round again op.who g []) (received_front only bytes a (told_verdict t)))
    by_check es bytes a told.Yes fits = by_sender (is_wanted only a)
      where
        by_sender : (b : Bool) → Meets ReceiveRow es (after again op.who [] (λ g. round again op.who g []) (if b then Goes (Datagram bytes a) else Again (Receive only)))
        by_sender true = ends tt
        by_sender false = next es
    by_check es bytes a told.No fits = next es
    by_check es bytes a told.Pending fits = ends tt
    by_check es bytes a _ fits = absurd fits

    -- the receive was
    by_told : (es : List Entry) (t : Told) → IsDatagram t → Meets ReceiveRow (es ++ entry op.who.id (call.Recv op.who.side) t ∷ []) (bind (receive_front op.who only (told_datagram t)) (after again op.who [] (λ g. round again op.who g [])))
    unfolding bind
    by_told es told.Pending fits = ends tt
    by_told es (told.Datagram bytes a) fits = asks (λ u more. by_check _ bytes a u more)
    by_told es (told.Code c) fits = receive_stops _ c (ReceiveToldWhy c (record { front = es; cut = refl }))
    by_told es _ fits = absurd fits

    -- a round
    receive_round : (es : List Entry) → Meets ReceiveRow es (round again op.who Nothing (Receive only ∷ []))
    unfolding bind
    receive_round es = asks (λ t fits. by_told es t fits)

  -- datagrams that are dropped take another round each, so many at most
  receive_rounds : (n : ℕ) (es : List Entry) → Meets ReceiveRow es (polls n op.who (Receive only ∷ []))
  unfolding polls
  receive_rounds zero es = ends tt
  receive_rounds (suc n) es = receive_round (polls n op.who) (receive_rounds n) es

  -- one that can't receive
  refuses : (n : ℕ) (c : ErrorCode) → Has op.left (Last c Nothing) → Meets ReceiveRow [] (polls (suc n) op.who (Last c Nothing ∷ []))
  unfolding polls bind
  refuses n c its = receive_stops [] c (CannotReceive c its refl)

-- one that begins, of a socket that is bound or not
pub receive_ends : (own : OpId) (o : OpenUdp) (inc : Incoming) (bound : Bool) → let op = first_receive own o inc bound in Meets (ReceiveRow op refl inc.remote) [] (poll_asks op)
receive_ends own o inc true = receive_rounds (first_receive own o inc true) refl inc.remote 64 []
receive_ends own o inc false = refuses (first_receive own o inc false) refl inc.remote 63 InvalidState (inl refl)

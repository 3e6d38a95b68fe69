-- A poll of a datagram of 0.3: what it asks, and how it ends.
use Rattle.std.specs.Prelude.{suc}
use Rattle.wasi_causes.proofs.Words.{Asks, Bool, Check, CheckPeer, Done, End, Entry, ErrorCode, InvalidState, IpSocketAddress, IsPolled, IsVerdict, Item, LastAsk, List}
use Rattle.wasi_causes.proofs.Words.{None, Nothing, NothingLast, Operation, Refused, SocketAddrUse, Told, Who, [], after, bind, false, last_ask, poll_asks, polled_front, polls}
use Rattle.wasi_causes.proofs.Words.{refl, round, subst, sym, told_datagram, told_polled, told_verdict, verdict_front, zero, ℕ, ◌∷◌, ◌≡◌}
use Rattle.wasi_addr.specs.declared.code.ErrorCode.TheVariants.{AccessDenied}
use Rattle.wasi_world.specs.Fits.{IsDatagram}
use Rattle.wasi_causes.proofs.Words.{Last, ⊤}
use Rattle.wasi_world.specs.Operation.{Datagram, Receive, Send, received_front, receive_front}
use Rattle.wasi_world.specs.declared.call.Told.TheVariants as told
use Rattle.wasi_udp.specs.Receive.{wanted_in, wanting}
use Rattle.wasi_causes.proofs.tables.Meets.{After, Meets, Rows, asks, branch, chain, ends, shifted, widen}
use Rattle.wasi_causes.specs.P3Datagrams.{DatagramCame, DroppedMost, IsLeftToReceive, IsLeftToSend, IsRestOfReceive, IsRestOfSend, ReceiveCode, ReceivePolls, ReceiveRefused, ReceiveWaits, SendRefused, ToRefuseReceive, ToRefuseSend, SendCheckWaits, SendCode, SendDone, SenderNo, SenderWaits, SenderYes, SendNo, SendPolls, SendTooLate, SendWaits, SendYes, ToCheck, ToCheckBoth, ToCheckSender, ToReceive, ToSend, comes_late, most_dropped, receive_told, send_told}
use Rattle.wasi_causes.specs.P3UdpConnects.{check_told}

-- == a send
module _ (who : Who) (plain : who.last ≡ NothingLast) (again : List Item → Asks (End × List Item)) where
  abbrev EndsSo : List Item → Rows (End × List Item)
  EndsSo items es end = SendPolls who items es end

  -- it ended with a code
  stops : (items : List Item) (es : List Entry) (c : ErrorCode) → EndsSo items es (Refused c Nothing, []) → Meets (EndsSo items) es (last_ask who who.last c Nothing)
  stops items es c row = subst (λ (last : LastAsk). Meets (EndsSo items) es (last_ask who last c Nothing)) (sym plain) (ends row)

  -- it was sent
  answered : (kept : Bool) (a : IpSocketAddress) (bytes : List ℕ) → comes_late who kept a ≡ false → (t : Told) → IsPolled t
      → Meets (EndsSo (Send kept a bytes ∷ [])) (send_told who a bytes t ∷ []) (after again who [] (λ g. round again who g []) (polled_front (Send kept a bytes) (told_polled t)))
  answered kept a bytes now told.Done fits = ends (SendDone kept a bytes now)
  answered kept a bytes now told.Pending fits = ends (SendWaits kept a bytes now)
  answered kept a bytes now (told.Code c) fits = stops _ _ c (SendCode kept a bytes c now)
  answered kept a bytes now _ fits = absurd fits

  sends : (kept : Bool) (a : IpSocketAddress) (bytes : List ℕ) → Meets (EndsSo (Send kept a bytes ∷ [])) [] (round again who Nothing (Send kept a bytes ∷ []))
  unfolding bind
  sends kept a bytes =
      chain {Mid = λ es f. Meets (EndsSo (Send kept a bytes ∷ [])) es (after again who [] (λ g. round again who g []) f)}
      (branch (comes_late who kept a) (λ late. ends (stops _ _ InvalidState (SendTooLate kept a bytes late)))
      (λ now. asks (λ t fits. ends (answered kept a bytes now t fits))))
      (λ es f k. k)

  -- a check was answered
  by_verdict : (a : IpSocketAddress) (usage : SocketAddrUse) (items : List Item) → Meets (EndsSo items) [] (round again who Nothing items) → (t : Told) → IsVerdict t
      → Meets (EndsSo (Check a usage ∷ items)) (check_told who a usage t ∷ []) (after again who items (λ g. round again who g items) (verdict_front (Check a usage) (told_verdict t)))
  by_verdict a usage items next told.Yes fits = widen goes (shifted (check_told who a usage told.Yes ∷ []) next)
    where
      goes : (es : List Entry) (end : End × List Item) → After (EndsSo items) (check_told who a usage told.Yes ∷ []) es end → EndsSo (Check a usage ∷ items) es end
      goes es end k = rw k.cut (SendYes a usage items k.rest end k.row)
  by_verdict a usage items next told.No fits = stops _ _ AccessDenied (SendNo a usage items)
  by_verdict a usage items next told.Pending fits = ends (SendCheckWaits a usage items)
  by_verdict a usage items next _ fits = absurd fits

  checks : (a : IpSocketAddress) (usage : SocketAddrUse) (items : List Item) → Meets (EndsSo items) [] (round again who Nothing items) → Meets (EndsSo (Check a usage ∷ items)) [] (round again who Nothing (Check a usage ∷ items))
  unfolding bind
  checks a usage items next = asks (λ t fits. by_verdict a usage items next t fits)

  -- it was refused
  round_refuses : (c : ErrorCode) → Meets (EndsSo (Last c Nothing ∷ [])) [] (round again who Nothing (Last c Nothing ∷ []))
  unfolding bind
  round_refuses c = stops _ _ c (SendRefused c)

  -- by what is left
  by_left : (items : List Item) → IsLeftToSend items → Meets (EndsSo items) [] (round again who Nothing items)
  by_left _ (ToRefuseSend c) = round_refuses c
  by_left _ (ToCheckBoth family kept a bytes) = checks _ _ _ (checks _ _ _ (sends kept a bytes))
  by_left _ (ToCheck kept a bytes) = checks _ _ _ (sends kept a bytes)
  by_left _ (ToSend kept a bytes) = sends kept a bytes

-- a poll is one round
send_rounds : (op : Operation) (n : ℕ) → IsRestOfSend op → Meets (SendPolls op.who op.left) [] (polls (suc n) op.who op.left)
unfolding polls
send_rounds op n its = by_left op.who its.last (polls n op.who) op.left its.left

pub send_ends : (op : Operation) → IsRestOfSend op → Meets (SendPolls op.who op.left) [] (poll_asks op)
send_ends op its = send_rounds op 63 its

-- == a receive
module _ (who : Who) (plain : who.last ≡ NothingLast) where
  module _ (n : ℕ) (again : List Item → Asks (End × List Item)) (next : Meets (ReceivePolls who n (Receive None ∷ [])) [] (again (Receive None ∷ []))) where
    -- the sender's check was answered
    sender_told : (bytes : List ℕ) (a : IpSocketAddress) (t : Told) → IsVerdict t
        → Meets (ReceivePolls who (suc n) (CheckPeer None bytes a ∷ [])) (check_told who a SocketAddrUse.UdpReceive t ∷ []) (after again who [] (λ g. round again who g []) (received_front None bytes a (told_verdict t)))
    sender_told bytes a told.Yes fits = ends (SenderYes n bytes a)
    sender_told bytes a told.No fits = widen goes (shifted (check_told who a SocketAddrUse.UdpReceive told.No ∷ []) next)
      where
        goes : (es : List Entry) (end : End × List Item) → After (ReceivePolls who n (Receive None ∷ [])) (check_told who a SocketAddrUse.UdpReceive told.No ∷ []) es end → ReceivePolls who (suc n) (CheckPeer None bytes a ∷ []) es end
        goes es end k = rw k.cut (SenderNo n bytes a k.rest end k.row)
    sender_told bytes a told.Pending fits = ends (SenderWaits n bytes a)
    sender_told bytes a _ fits = absurd fits

    checks_sender : (bytes : List ℕ) (a : IpSocketAddress) → Meets (ReceivePolls who (suc n) (CheckPeer None bytes a ∷ [])) [] (round again who Nothing (CheckPeer None bytes a ∷ []))
    unfolding bind
    checks_sender bytes a = asks (λ t fits. sender_told bytes a t fits)

    -- the receive was
    by_told : (t : Told) → IsDatagram t → Meets (ReceivePolls who (suc n) (Receive None ∷ [])) (receive_told who t ∷ []) (bind (receive_front who None (told_datagram t)) (after again who [] (λ g. round again who g [])))
    unfolding bind
    by_told told.Pending fits = ends (ReceiveWaits n)
    by_told (told.Datagram bytes a) fits = widen goes (shifted (receive_told who (told.Datagram bytes a) ∷ []) (checks_sender bytes a))
      where
        goes : (es : List Entry) (end : End × List Item) → After (ReceivePolls who (suc n) (CheckPeer None bytes a ∷ [])) (receive_told who (told.Datagram bytes a) ∷ []) es end → ReceivePolls who (suc n) (Receive None ∷ []) es end
        goes es end k = rw k.cut (DatagramCame n bytes a k.rest end k.row)
    by_told (told.Code c) fits = subst (λ (last : LastAsk). Meets (ReceivePolls who (suc n) (Receive None ∷ [])) (receive_told who (told.Code c) ∷ []) (last_ask who last c Nothing)) (sym plain) (ends (ReceiveCode n c))
    by_told _ fits = absurd fits

    receives : Meets (ReceivePolls who (suc n) (Receive None ∷ [])) [] (round again who Nothing (Receive None ∷ []))
    unfolding bind
    receives = asks (λ t fits. by_told t fits)

  -- a datagram that is dropped takes another round, so many at most
  rounds : (n : ℕ) → Meets (ReceivePolls who n (Receive None ∷ [])) [] (polls n who (Receive None ∷ []))
  unfolding polls
  rounds zero = ends DroppedMost
  rounds (suc n) = receives n (polls n who) (rounds n)

  sender_round : (n : ℕ) (bytes : List ℕ) (a : IpSocketAddress) → Meets (ReceivePolls who (suc n) (CheckPeer None bytes a ∷ [])) [] (polls (suc n) who (CheckPeer None bytes a ∷ []))
  unfolding polls
  sender_round n bytes a = checks_sender n (polls n who) (rounds n) bytes a

  refused_round : (n : ℕ) (c : ErrorCode) → Meets (ReceivePolls who (suc n) (Last c Nothing ∷ [])) [] (polls (suc n) who (Last c Nothing ∷ []))
  unfolding polls bind
  refused_round n c = subst (λ (last : LastAsk). Meets (ReceivePolls who (suc n) (Last c Nothing ∷ [])) [] (last_ask who last c Nothing)) (sym plain) (ends (ReceiveRefused n c))

  left_receives : (items : List Item) → IsLeftToReceive items → Meets (ReceivePolls who most_dropped (wanted_in None items)) [] (polls most_dropped who (wanted_in None items))
  left_receives _ (ToRefuseReceive c) = refused_round 63 c
  left_receives _ (ToReceive only) = rounds most_dropped
  left_receives _ (ToCheckSender only bytes a) = sender_round 63 bytes a

-- whatever comes is taken
pub receive_ends : (op : Operation) → IsRestOfReceive op → Meets (ReceivePolls op.who most_dropped (wanted_in None op.left)) [] (poll_asks (wanting None op))
receive_ends op its = left_receives op.who its.last op.left its.left

-- what it gives is a datagram
abbrev pub GivesDatagram : End × List Item → Type 0
GivesDatagram (Done (Datagram bytes a), items) = ⊤
GivesDatagram (Done given, items) = ⊥
GivesDatagram _ = ⊤

pub gives_datagram : {who : Who} {n : ℕ} {items : List Item} {es : List Entry} {end : End × List Item} → ReceivePolls who n items es end → GivesDatagram end
gives_datagram (ReceiveRefused n c) = tt
gives_datagram (ReceiveWaits n) = tt
gives_datagram (ReceiveCode n c) = tt
gives_datagram (DatagramCame n bytes a es end k) = gives_datagram k
gives_datagram (SenderYes n bytes a) = tt
gives_datagram (SenderNo n bytes a es end k) = gives_datagram k
gives_datagram (SenderWaits n bytes a) = tt
gives_datagram DroppedMost = tt

-- == one that ends at once, by what its line or its socket is
pub refuses : (who : Who) → who.last ≡ NothingLast → (n : ℕ) (c : ErrorCode) → Meets (λ es end. (es ≡ []) × (end ≡ (Refused c Nothing, []))) [] (polls (suc n) who (Last c Nothing ∷ []))
unfolding polls bind
refuses who plain n c = subst (λ (last : LastAsk). Meets (λ es end. (es ≡ []) × (end ≡ (Refused c Nothing, []))) [] (last_ask who last c Nothing)) (sym plain) (ends (refl, refl))

-- A poll of a connect of a UDP socket: what it asks, and how it ends.
use Rattle.std.specs.Prelude.{suc}
use Rattle.wasi_causes.proofs.Words.{Asks, Check, End, Entry, Given, IpSocketAddress, IsDoneOrCode, IsVerdict, Item, LastAsk, List, Nothing, NothingLast, Operation}
use Rattle.wasi_causes.proofs.Words.{SocketAddressFamily, SocketAddrUse, Told, UdpConnect, Who, [], after, bind, last_ask, poll_asks, polls, round, subst, sym}
use Rattle.wasi_causes.proofs.Words.{told_addr, told_done, told_verdict, verdict_front, ℕ, ◌∷◌, ◌≡◌}
use Rattle.wasi_world.specs.Operation.{Refused, peer_front, remote_told}
use Rattle.wasi_addr.specs.declared.code.ErrorCode.{ErrorCode}
use Rattle.wasi_addr.specs.declared.code.ErrorCode.TheVariants.{AccessDenied}
use Rattle.wasi_world.specs.declared.call.Told.TheVariants as told
use Rattle.wasi_walks.specs.Waiting.{ConnectSendChecked, ConnectUnbound, ConnectUnchecked, IsLeftOfUdpConnect, IsRestOfUdpConnect}
use Rattle.wasi_causes.proofs.tables.Meets.{After, Meets, Rows, asks, ends, shifted, widen}
use Rattle.wasi_causes.specs.P3UdpConnects.{CheckNo, CheckWaits, CheckYes, ConnectCode, ConnectDone, ConnectPolls, check_told, connect_told, heard, peer_told}

module _ (who : Who) (plain : who.last ≡ NothingLast) (again : List Item → Asks (End × List Item)) where
  abbrev EndsSo : List Item → Rows (End × List Item)
  EndsSo items es end = ConnectPolls who items es end

  -- it ended with a code
  stops : (items : List Item) (es : List Entry) (c : ErrorCode) (given : Given) → EndsSo items es (Refused c given, []) → Meets (EndsSo items) es (last_ask who who.last c given)
  stops items es c given row = subst (λ (last : LastAsk). Meets (EndsSo items) es (last_ask who last c given)) (sym plain) (ends row)

  -- the connect was answered, and then the remote address was asked for
  answered : (family : SocketAddressFamily) (a : IpSocketAddress) (t peer : Told) → IsDoneOrCode t
      → Meets (EndsSo (UdpConnect family a ∷ [])) (connect_told who a t ∷ peer_told who peer ∷ []) (after again who [] (λ g. round again who g []) (peer_front (told_done t) (remote_told family (told_addr peer))))
  answered family a told.Done peer fits = ends (ConnectDone family a peer)
  answered family a (told.Code c) peer fits = stops _ _ c (heard family peer) (ConnectCode family a c peer)
  answered family a _ peer fits = absurd fits

  connects : (family : SocketAddressFamily) (a : IpSocketAddress) (given : Given) → Meets (EndsSo (UdpConnect family a ∷ [])) [] (round again who given (UdpConnect family a ∷ []))
  unfolding bind
  connects family a given = asks (λ t fits. asks (λ u more. answered family a t u fits))

  -- a check was answered
  by_verdict : (a : IpSocketAddress) (usage : SocketAddrUse) (items : List Item) → Meets (EndsSo items) [] (round again who Nothing items) → (t : Told) → IsVerdict t
      → Meets (EndsSo (Check a usage ∷ items)) (check_told who a usage t ∷ []) (after again who items (λ g. round again who g items) (verdict_front (Check a usage) (told_verdict t)))
  by_verdict a usage items next told.Yes fits = widen goes (shifted (check_told who a usage told.Yes ∷ []) next)
    where
      goes : (es : List Entry) (end : End × List Item) → After (EndsSo items) (check_told who a usage told.Yes ∷ []) es end → EndsSo (Check a usage ∷ items) es end
      goes es end k = rw k.cut (CheckYes a usage items k.rest end k.row)
  by_verdict a usage items next told.No fits = stops _ _ AccessDenied Nothing (CheckNo a usage items)
  by_verdict a usage items next told.Pending fits = ends (CheckWaits a usage items)
  by_verdict a usage items next _ fits = absurd fits

  checks : (a : IpSocketAddress) (usage : SocketAddrUse) (items : List Item) → Meets (EndsSo items) [] (round again who Nothing items) → Meets (EndsSo (Check a usage ∷ items)) [] (round again who Nothing (Check a usage ∷ items))
  unfolding bind
  checks a usage items next = asks (λ t fits. by_verdict a usage items next t fits)

  -- by what is left
  by_left : (items : List Item) → IsLeftOfUdpConnect items → Meets (EndsSo items) [] (round again who Nothing items)
  by_left _ (ConnectUnbound family a) = checks _ _ _ (checks _ _ _ (checks _ _ _ (connects family a Nothing)))
  by_left _ (ConnectUnchecked family a) = checks _ _ _ (checks _ _ _ (connects family a Nothing))
  by_left _ (ConnectSendChecked family a) = checks _ _ _ (connects family a Nothing)

-- a poll is one round
rounds : (op : Operation) (n : ℕ) → IsRestOfUdpConnect op → Meets (ConnectPolls op.who op.left) [] (polls (suc n) op.who op.left)
unfolding polls
rounds op n its = by_left op.who its.last (polls n op.who) op.left its.left

pub udp_connect_ends : (op : Operation) → IsRestOfUdpConnect op → Meets (ConnectPolls op.who op.left) [] (poll_asks op)
udp_connect_ends op its = rounds op 63 its

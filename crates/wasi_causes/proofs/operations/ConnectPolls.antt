-- A poll of a connect of a UDP socket, whose checks aren't both answered: how it ends, and what one that fails gives.
use Rattle.std.specs.Prelude.{suc}
use Rattle.wasi_causes.proofs.Words.{AccessDenied, Asks, Check, Done, End, EndsPending, Entry, ErrorCode, Given, Has, IpSocketAddress, IsDoneOrCode, IsVerdict}
use Rattle.wasi_causes.proofs.Words.{Item, LastAsk, List, Nothing, NothingLast, Operation, Refused, SocketAddressFamily, SocketAddrUse, Told, Waits}
use Rattle.wasi_causes.proofs.Words.{UdpConnect, [], after, append_assoc, bind, entry, inl, inr, last_ask, poll_asks, polls, refl, round, subst, sym}
use Rattle.wasi_causes.proofs.Words.{told_addr, told_done, told_verdict, verdict_front, ℕ, ⊤, ◌++◌, ◌∷◌, ◌≡◌}
use Rattle.wasi_addr.specs.Address.{wildcard}
use Rattle.wasi_addr.specs.declared.address.SocketAddrUse.TheVariants as usages
use Rattle.wasi_world.specs.Operation.{peer_front, remote_told}
use Rattle.wasi_world.specs.declared.call.Call.TheVariants as call
use Rattle.wasi_world.specs.declared.call.Told.TheVariants as told
use Rattle.wasi_walks.specs.Waiting.{ConnectSendChecked, ConnectToldNo, ConnectToldWhy, ConnectUnbound, ConnectUnchecked, IsLeftOfUdpConnect, IsRestOfUdpConnect, UdpConnectFails}
use Rattle.wasi_causes.proofs.tables.Meets.{Meets, Rows, asks, ends}
use Rattle.wasi_causes.specs.StreamCauses.{given_by}

-- it ended with this code for this reason, and gave what one that failed so gives
pub record FailsGiving (op : Operation) (entries : List Entry) (c : ErrorCode) (given : Given) : Type 0 where
  pub why : UdpConnectFails op entries c
  pub gives : given ≡ given_by why

-- it waits, or is done, or ends with a code so
abbrev pub ConnectRow : Operation → Rows (End × List Item)
ConnectRow op es (Waits, items) = EndsPending op.who.id es
ConnectRow op es (Done given, items) = ⊤
ConnectRow op es (Refused c given, items) = FailsGiving op es c given

module _ (op : Operation) (plain : op.who.last ≡ NothingLast) (again : List Item → Asks (End × List Item)) where
  -- it ended with a code
  stops : (es : List Entry) (c : ErrorCode) (given : Given) → FailsGiving op es c given → Meets (ConnectRow op) es (last_ask op.who op.who.last c given)
  stops es c given why = subst (λ (last : LastAsk). Meets (ConnectRow op) es (last_ask op.who last c given)) (sym plain) (ends why)

  -- a check was answered
  by_verdict : (es : List Entry) (a : IpSocketAddress) (usage : SocketAddrUse) (items : List Item) → Has op.left (Check a usage) → ((fs : List Entry) → Meets (ConnectRow op) fs (round again op.who Nothing items))
      → (t : Told) → IsVerdict t → Meets (ConnectRow op) (es ++ entry op.who.id (call.Check op.who.context a usage) t ∷ []) (after again op.who items (λ g. round again op.who g items) (verdict_front (Check a usage) (told_verdict t)))
  by_verdict es a usage items its next told.Yes fits = next _
  by_verdict es a usage items its next told.No fits = stops _ AccessDenied Nothing (record { why = ConnectToldNo a usage its (record { front = es; cut = refl }); gives = refl })
  by_verdict es a usage items its next told.Pending fits = ends (record { front = es; last = _; cut = refl; op = refl; told = refl })
  by_verdict es a usage items its next _ fits = absurd fits

  module _ (family : SocketAddressFamily) (a : IpSocketAddress) (its : Has op.left (UdpConnect family a)) where
    -- the connect itself
    abbrev asked : Told → Entry
    asked t = entry op.who.id (call.UdpConnect op.who.side a) t

    -- it was answered, and then the remote address was asked for
    answered : (es : List Entry) (t peer : Told) → IsDoneOrCode t
        → Meets (ConnectRow op) ((es ++ asked t ∷ []) ++ entry op.who.id (call.Peer op.who.side) peer ∷ []) (after again op.who [] (λ g. round again op.who g []) (peer_front (told_done t) (remote_told family (told_addr peer))))
    answered es told.Done peer fits = ends tt
    answered es (told.Code c) peer fits = stops _ c _ (record { why = ConnectToldWhy family a c peer its (record { front = es; cut = append_assoc es (asked (told.Code c) ∷ []) _ }); gives = refl })
    answered es _ peer fits = absurd fits

    -- both checks were answered
    connects : (es : List Entry) (given : Given) → Meets (ConnectRow op) es (round again op.who given (UdpConnect family a ∷ []))
    unfolding bind
    connects es given = asks (λ t fits. asks (λ u more. answered es t u fits))

    -- only the first check was
    second_check : Has op.left (Check a usages.UdpReceive) → (es : List Entry) → Meets (ConnectRow op) es (round again op.who Nothing (Check a usages.UdpReceive ∷ UdpConnect family a ∷ []))
    unfolding bind
    second_check has es = asks (λ t fits. by_verdict es a usages.UdpReceive (UdpConnect family a ∷ []) has (λ fs. connects fs Nothing) t fits)

    -- neither check was
    first_check : Has op.left (Check a usages.UdpSend) → Has op.left (Check a usages.UdpReceive) → (es : List Entry) → Meets (ConnectRow op) es (round again op.who Nothing (Check a usages.UdpSend ∷ Check a usages.UdpReceive ∷ UdpConnect family a ∷ []))
    unfolding bind
    first_check send receive es = asks (λ t fits. by_verdict es a usages.UdpSend (Check a usages.UdpReceive ∷ UdpConnect family a ∷ []) send (second_check receive) t fits)

    -- no check was
    wildcard_check : Has op.left (Check (wildcard family) usages.UdpBind) → Has op.left (Check a usages.UdpSend) → Has op.left (Check a usages.UdpReceive)
        → (es : List Entry) → Meets (ConnectRow op) es (round again op.who Nothing (Check (wildcard family) usages.UdpBind ∷ Check a usages.UdpSend ∷ Check a usages.UdpReceive ∷ UdpConnect family a ∷ []))
    unfolding bind
    wildcard_check any send receive es = asks (λ t fits. by_verdict es (wildcard family) usages.UdpBind (Check a usages.UdpSend ∷ Check a usages.UdpReceive ∷ UdpConnect family a ∷ []) any (first_check send receive) t fits)

  -- by what is left
  by_left : (items : List Item) → IsLeftOfUdpConnect items → ((item : Item) → Has items item → Has op.left item) → (es : List Entry) → Meets (ConnectRow op) es (round again op.who Nothing items)
  by_left _ (ConnectUnbound family a) in_left es = wildcard_check family a (in_left _ (inr (inr (inr (inl refl))))) (in_left _ (inl refl)) (in_left _ (inr (inl refl))) (in_left _ (inr (inr (inl refl)))) es
  by_left _ (ConnectUnchecked family a) in_left es = first_check family a (in_left _ (inr (inr (inl refl)))) (in_left _ (inl refl)) (in_left _ (inr (inl refl))) es
  by_left _ (ConnectSendChecked family a) in_left es = second_check family a (in_left _ (inr (inl refl))) (in_left _ (inl refl)) es

-- a poll is one round
rounds : (op : Operation) (n : ℕ) → IsRestOfUdpConnect op → (es : List Entry) → Meets (ConnectRow op) es (polls (suc n) op.who op.left)
unfolding polls
rounds op n its es = by_left op its.last (polls n op.who) op.left its.left (λ item has. has) es

-- it waits for a check, or is done, or one of its asks broke it, and it gave what one that failed so gives
pub udp_connect_gives : (op : Operation) → IsRestOfUdpConnect op → (es : List Entry) → Meets (ConnectRow op) es (poll_asks op)
udp_connect_gives op its es = rounds op 63 its es

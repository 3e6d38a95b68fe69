-- Operations that ask for no datagram of a network socket, nor about the sender of one that another operation has in hand: all but a
-- receive of it.
use Rattle.wasi_walks.proofs.Fronts.{AsksBy, Becomes, Checks, ChecksPeer, Comes, GoesBy, PollLaw, Receives, ToldAddress, polls_by}
use Rattle.wasi_walks.proofs.Words.{Allows, Call, Check, End, Entry, ErrorCode, Given}
use Rattle.wasi_walks.proofs.Words.{IpSocketAddress, Item, LastAsk, List, NothingLast, OpId, Operation}
use Rattle.wasi_walks.proofs.Words.{SocketAddrUse, Who, []}
use Rattle.wasi_walks.proofs.Words.{bind}
use Rattle.wasi_walks.proofs.Words.{last_ask, poll_asks}
use Rattle.wasi_walks.proofs.Words.{ℕ, ⊤}
use Rattle.wasi_walks.proofs.Words.{◌∷◌, ◌≡◌}
use Rattle.wasi_addr.specs.declared.address.SocketAddrUse.TheVariants.{UdpReceive}
use Rattle.wasi_walks.proofs.received.Late.{NoRecvOf}
use Rattle.wasi_world.specs.Operation.{check_peer_front, is_now, is_wanted, lookup_front, receive_front, received_front, send_front, ask_peer_front, peer_front, remote_told, Goes, Again}
use Rattle.wasi_world.specs.Operation as item

-- no operation has these names
abbrev pub NoName : OpId → Type 0
NoName op = ⊥

-- any call but a `recv` of this network socket, and but the check of a sender by an operation of these names
abbrev pub Spares : OpId → (OpId → Type 0) → OpId → Call → Type 0
Spares side Names op (Call.Recv x) = x ≡ side → ⊥
Spares side Names op (Call.Check ctx a UdpReceive) = Names op → ⊥
Spares side Names op _ = ⊤

pub spares_recv : (side : OpId) (Names : OpId → Type 0) (op : OpId) (c : Call) → Spares side Names op c → NoRecvOf side c
spares_recv side Names op (Call.Recv x) n = n
spares_recv side Names op _ n = tt

module _ (side : OpId) (Held : Type 0) (Names : OpId → Type 0) where
  -- any call but those, where the network socket is held
  abbrev pub Elsewhere : List Entry → OpId → Call → Type 0
  Elsewhere es op c = Held → Spares side Names op c

  -- the operation is of another network socket, and has none of the names
  abbrev pub IsApart : Who → Type 0
  IsApart who = Held → (who.side ≡ side → ⊥) × (Names who.id → ⊥)

  -- any ask but for a datagram there, and but the check of a sender
  abbrev pub IsSilent : Who → Item → Type 0
  IsSilent who (item.Receive wanted) = IsApart who
  IsSilent who (item.CheckPeer wanted bytes a) = IsApart who
  IsSilent who (Check a UdpReceive) = Held → Names who.id → ⊥
  IsSilent who (item.CheckLocal UdpReceive) = Held → Names who.id → ⊥
  IsSilent who _ = ⊤

  -- all of them
  abbrev pub AreSilent : Who → List Item → Type 0
  AreSilent who [] = ⊤
  AreSilent who (i ∷ items) = IsSilent who i × AreSilent who items

  module _ (who : Who) where
    abbrev Left : List Entry → List Item → Type 0
    Left es items = AreSilent who items

    -- after the poll
    abbrev After : List Entry → End × List Item → Type 0
    After es ended = ⊤

    -- the last ask
    last_silent : (es : List Entry) (last : LastAsk) (c : ErrorCode) (given : Given) → Allows Elsewhere After es (last_ask who last c given)
    unfolding bind
    last_silent es NothingLast c given = tt
    last_silent es _ c given = ((λ x. tt), λ t fits. tt)

    -- a check for this use
    use_silent : (ctx : ℕ) (a : IpSocketAddress) (usage : SocketAddrUse) → IsSilent who (Check a usage) → Held
        → Spares side Names who.id (Call.Check ctx a usage)
    use_silent ctx a UdpReceive may x = may x
    use_silent ctx a _ may x = tt

    local_use : (a : IpSocketAddress) (usage : SocketAddrUse) → IsSilent who (item.CheckLocal usage) → IsSilent who (Check a usage)
    local_use a UdpReceive may = may
    local_use a _ may = tt

    asks_silently : (i : Item) (c : Call) → AsksBy who i c → IsSilent who i → Held → Spares side Names who.id c
    asks_silently _ _ (Checks a usage) may x = use_silent who.context a usage may x
    asks_silently _ _ (ChecksPeer wanted bytes a) may x = (may x).1
    asks_silently _ _ (Receives wanted) may x = (may x).0
    asks_silently _ _ _ may x = tt

    becomes_silent : (i j : Item) → Becomes i j → IsSilent who i → IsSilent who j
    becomes_silent _ _ (ToldAddress a usage) may = local_use a usage may
    becomes_silent _ _ (Comes wanted bytes a) may = may
    becomes_silent _ _ (GoesBy wanted bytes a) may = may
    becomes_silent _ _ _ may = tt

    silent_law : PollLaw Elsewhere who Left After
    silent_law = record {
      asks = λ es i items c a k. (asks_silently i c a k.0, λ told fits. k);
      writes = λ es b bytes items k. ((λ x. tt), λ told fits front. k);
      becomes = λ es i j items b k. (becomes_silent i j b k.0, k.1);
      drops = λ es i items spent k. k.1;
      ends = λ es i items c given k. last_silent es who.last c given;
      waits = λ es items k. tt;
      done = λ es given g k. tt;
    }

  -- a poll of such an operation asks for none, and leaves such a one
  pub silent_poll : (op : Operation) (es : List Entry) → AreSilent op.who op.left → Allows Elsewhere (λ fs ended. ⊤) es (poll_asks op)
  silent_poll op es k = polls_by (silent_law op.who) op.left es k

-- Operations that ask for no remote address: all but a connect of a UDP socket.
use Rattle.wasi_walks.proofs.Fronts.{AsksBy, AsksPeer, Becomes, IsConnected, PollLaw, polls_by}
use Rattle.wasi_walks.proofs.Words.{Allows, Call, End, Entry, ErrorCode, Given}
use Rattle.wasi_walks.proofs.Words.{Item, LastAsk, List, NothingLast, OpId, Operation}
use Rattle.wasi_walks.proofs.Words.{Who, []}
use Rattle.wasi_walks.proofs.Words.{bind}
use Rattle.wasi_walks.proofs.Words.{last_ask, poll_asks}
use Rattle.wasi_walks.proofs.Words.{⊤}
use Rattle.wasi_walks.proofs.Words.{◌∷◌}
use Rattle.wasi_world.specs.Operation.{check_peer_front, is_now, is_wanted, lookup_front, receive_front, received_front, send_front, Goes, Again}
use Rattle.wasi_world.specs.Operation as item

-- any call but `peer`
abbrev pub NoPeer : Call → Type 0
NoPeer (Call.Peer side) = ⊥
NoPeer _ = ⊤

-- the same of what is asked
abbrev pub Unpeered : List Entry → OpId → Call → Type 0
Unpeered es op c = NoPeer c

-- any ask but those that ask for a remote address
abbrev pub IsSilent : Item → Type 0
IsSilent (item.UdpConnect family a) = ⊥
IsSilent (item.AskPeer family told) = ⊥
IsSilent _ = ⊤

-- all of them
abbrev pub AreSilent : List Item → Type 0
AreSilent [] = ⊤
AreSilent (i ∷ items) = IsSilent i × AreSilent items

module _ (who : Who) where
  abbrev Left : List Entry → List Item → Type 0
  Left es items = AreSilent items

  -- after the poll
  abbrev After : List Entry → End × List Item → Type 0
  After es ended = AreSilent ended.1

  -- the last ask
  last_silent : (es : List Entry) (last : LastAsk) (c : ErrorCode) (given : Given) → Allows Unpeered After es (last_ask who last c given)
  unfolding bind
  last_silent es NothingLast c given = tt
  last_silent es _ c given = (tt, λ t fits. tt)

  asks_silently : (i : Item) (c : Call) → AsksBy who i c → IsSilent i → NoPeer c
  asks_silently _ _ (AsksPeer family outcome) may = may
  asks_silently _ _ _ may = tt

  becomes_silent : (i j : Item) → Becomes i j → IsSilent i → IsSilent j
  becomes_silent _ _ (IsConnected family a outcome) may = may
  becomes_silent _ _ _ may = tt

  silent_law : PollLaw Unpeered who Left After
  silent_law = record {
    asks = λ es i items c a k. (asks_silently i c a k.0, λ told fits. k);
    writes = λ es b bytes items k. (tt, λ told fits front. k);
    becomes = λ es i j items b k. (becomes_silent i j b k.0, k.1);
    drops = λ es i items spent k. k.1;
    ends = λ es i items c given k. last_silent es who.last c given;
    waits = λ es items k. k;
    done = λ es given g k. tt;
  }

-- a poll of such an operation asks for none, and leaves such a one
pub silent_poll : (op : Operation) (es : List Entry) → AreSilent op.left → Allows Unpeered (λ fs ended. AreSilent ended.1) es (poll_asks op)
silent_poll op es k = polls_by (silent_law op.who) op.left es k

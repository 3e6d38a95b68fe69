-- Calls that are calm; and one poll of an operation by its single asks: what each may be, and what is known of the items that are left.
use Rattle.wasi_walks.proofs.Fronts as asked
pub use Rattle.wasi_walks.proofs.Fronts.{Becomes, ToldAddress, Arrives, IsAdmitted, IsUnwanted, IsRefused, IsConnected, Comes, GoesBy, IsSpent, still}
use Rattle.wasi_world.specs.declared.call.Call.TheVariants as call
use Rattle.wasi_addr.specs.declared.address.SocketAddrUse.{SocketAddrUse}
use Rattle.wasi_laws.proofs.Words.{Step}
use Rattle.wasi_walks.proofs.walks.Moves.{IsUdpQuestionOf}
use Rattle.wasi_laws.proofs.Words.{◌≡◌, Bool, true, false, Some, refl, ap, ℕ, List, [], ◌∷◌, ◌++◌, length, Option, None, ⊤, OpId, Call, socket_of, NoWrite, IsQuestionOf, IpSocketAddress, ErrorCode, Told, Entry, IsFront, Fits, told_taken, Given, Connection, Item, Check, Bind, Connect, Listen, CheckArrival, Write, UdpBind, UdpConnect, Send, CheckPeer, Who, End, Waits, Done, last_ask, poll_asks, Allows, entry, IsMade, HandedOver, GoesOut}

abbrev pub is_calm : Call → Bool
is_calm (call.Check ctx addr usage) = false
is_calm (call.Bind sock addr) = false
is_calm (call.Listen sock backlog) = false
is_calm (call.Connect sock addr) = false
is_calm (call.UdpBind sock addr) = false
is_calm (call.UdpConnect sock addr) = false
is_calm (call.Send sock addr bytes) = false
is_calm (call.Write sock offered) = false
is_calm (call.Close sock) = false
is_calm _ = true

-- it asks for no datagram
abbrev pub NoRecv : Call → Type 0
NoRecv (call.Recv sock) = ⊥
NoRecv _ = ⊤

-- A calm call on the network socket, which asks for no datagram.
pub record CalmOn (side : OpId) (c : Call) : Type 0 where
  pub calm : is_calm c ≡ true
  pub quiet : NoRecv c
  pub on : socket_of c ≡ Some side

pub question_calm : (line : ℕ) (origin : Step) (n : ℕ) (side : OpId) (c : Call) → IsQuestionOf line origin n side c → CalmOn side c
question_calm line origin n side (call.Local s) q = record { calm = refl; quiet = tt; on = ap (λ (x : OpId). Some x) q }
question_calm line origin n side (call.Peer s) q = record { calm = refl; quiet = tt; on = ap (λ (x : OpId). Some x) q }
question_calm line origin n side (call.GetOption s option) q = record { calm = refl; quiet = tt; on = ap (λ (x : OpId). Some x) q.0 }
question_calm line origin n side (call.SetOption s option value) q = record { calm = refl; quiet = tt; on = ap (λ (x : OpId). Some x) q.0 }
question_calm line origin n side (call.Read s size) q = record { calm = refl; quiet = tt; on = ap (λ (x : OpId). Some x) q }
question_calm line origin n side (call.ReadReady s) q = record { calm = refl; quiet = tt; on = ap (λ (x : OpId). Some x) q }
question_calm line origin n side (call.WriteReady s) q = record { calm = refl; quiet = tt; on = ap (λ (x : OpId). Some x) q }
question_calm line origin n side (call.Shutdown s how) q = record { calm = refl; quiet = tt; on = ap (λ (x : OpId). Some x) q }
question_calm line origin n side _ q = absurd q

-- the same of a UDP socket
pub udp_question_calm : (line : ℕ) (origin : Step) (n : ℕ) (side : OpId) (c : Call) → IsUdpQuestionOf line origin n side c → CalmOn side c
udp_question_calm line origin n side (call.Local s) q = record { calm = refl; quiet = tt; on = ap (λ (x : OpId). Some x) q }
udp_question_calm line origin n side (call.GetOption s option) q = record { calm = refl; quiet = tt; on = ap (λ (x : OpId). Some x) q.0 }
udp_question_calm line origin n side (call.SetOption s option value) q = record { calm = refl; quiet = tt; on = ap (λ (x : OpId). Some x) q.0 }
udp_question_calm line origin n side _ q = absurd q

pub unwritten : (c : Call) → is_calm c ≡ true → NoWrite c
unwritten (call.Write sock offered) e = absurd (cc)
unwritten _ e = tt

abbrev pub IsToCheck : Item → Type 0
IsToCheck (Check a usage) = ⊤
IsToCheck (CheckArrival peer) = ⊤
IsToCheck (CheckPeer wanted bytes a) = ⊤
IsToCheck _ = ⊥

abbrev pub IsToGo : Item → Type 0
IsToGo (Bind a) = ⊤
IsToGo (Connect a) = ⊤
IsToGo (Listen backlog) = ⊤
IsToGo (UdpBind a) = ⊤
IsToGo (UdpConnect family a) = ⊤
IsToGo (Send kept a bytes) = ⊤
IsToGo _ = ⊥

-- of this network socket, where it is on one
abbrev pub IsOfSide : OpId → Option OpId → Type 0
IsOfSide side None = ⊤
IsOfSide side (Some s) = s ≡ side

-- What is asked where this item is the first that is left, but by a write.
pub data AsksBy (who : Who) (item : Item) : Call → Type 0 where
  Checks : (a : IpSocketAddress) (usage : SocketAddrUse) → IsToCheck item → AsksBy who item (call.Check who.context a usage)
  Goes : (c : Call) → IsToGo item → GoesOut c → IsOfSide who.side (socket_of c) → AsksBy who item c
  Calmly : (c : Call) → is_calm c ≡ true → IsOfSide who.side (socket_of c) → AsksBy who item c

pub of_side : (who : Who) (item : Item) (c : Call) → AsksBy who item c → IsOfSide who.side (socket_of c)
of_side who item _ (Checks a usage i) = tt
of_side who item _ (Goes c i k s) = s
of_side who item _ (Calmly c k s) = s

-- and each ask is such
asked_by : (who : Who) (i : Item) (c : Call) → asked.AsksBy who i c → AsksBy who i c
asked_by who _ _ (asked.Checks a usage) = Checks a usage tt
asked_by who _ _ (asked.ChecksArrival peer) = Checks peer _ tt
asked_by who _ _ (asked.ChecksPeer wanted bytes a) = Checks a _ tt
asked_by who _ _ (asked.Binds a) = Goes _ tt tt refl
asked_by who _ _ (asked.Connects a) = Goes _ tt tt refl
asked_by who _ _ (asked.Listens backlog) = Goes _ tt tt refl
asked_by who _ _ (asked.UdpBinds a) = Goes _ tt tt refl
asked_by who _ _ (asked.UdpConnects family a) = Goes _ tt tt refl
asked_by who _ _ (asked.Sends kept a bytes) = Goes _ tt tt refl
asked_by who _ _ (asked.Looks host) = Calmly _ refl tt
asked_by who _ _ _ = Calmly _ refl refl

-- a connection that is given was made, and has the operation's own name
abbrev pub IsGivenMade : OpId → List Entry → Given → Type 0
IsGivenMade own es (Connection new peer) = IsMade es new × (new ≡ own)
IsGivenMade own es given = ⊤

given_made : (own : OpId) (es : List Entry) (given : Given) → asked.IsGivenOver own es given → IsGivenMade own es given
given_made own es (Connection new peer) k = (HandedOver k.0.listener k.0.peer k.0.told k.0.has, k.1)
given_made own es _ k = tt

-- K is what is known where these items are left, and Q what is at the end.
pub record PollLaw (P : List Entry → OpId → Call → Type 0) (who : Who) (K : List Entry → List Item → Type 0) (Q : List Entry → End × List Item → Type 0) : Type 0 where
  pub asks : (es : List Entry) (i : Item) (items : List Item) (c : Call) → AsksBy who i c → K es (i ∷ items) → P es who.id c × ((told : Told) → Fits c told → K (es ++ entry who.id c told ∷ []) (i ∷ items))
  pub writes : (es : List Entry) (b : ℕ) (bytes : List ℕ) (items : List Item) → K es (Write (b ∷ bytes) ∷ items) → let c : Call = call.Write who.side (length (b ∷ bytes)) in
      P es who.id c × ((told : Told) → Fits c told → IsFront told (b ∷ bytes) → K (es ++ entry who.id c told ∷ []) (Write (still (told_taken told) b bytes) ∷ items))
  pub becomes : (es : List Entry) (i j : Item) (items : List Item) → Becomes i j → K es (i ∷ items) → K es (j ∷ items)
  pub drops : (es : List Entry) (i : Item) (items : List Item) → IsSpent i → K es (i ∷ items) → K es items
  pub ends : (es : List Entry) (i : Item) (items : List Item) (c : ErrorCode) (given : Given) → K es (i ∷ items) → Allows P Q es (last_ask who who.last c given)
  pub waits : (es : List Entry) (items : List Item) → K es items → Q es (Waits, items)
  pub done : (es : List Entry) (given : Given) → IsGivenMade who.id es given → K es [] → Q es (Done given, [])

module _ {P : List Entry → OpId → Call → Type 0} {who : Who} {K : List Entry → List Item → Type 0} {Q : List Entry → End × List Item → Type 0} (law : PollLaw P who K Q) where
  by_asks : asked.PollLaw P who K Q
  by_asks = record {
    asks = λ es i items c a k. law.asks es i items c (asked_by who i c a) k;
    writes = law.writes;
    becomes = law.becomes;
    drops = law.drops;
    ends = law.ends;
    waits = law.waits;
    done = λ es given g k. law.done es given (given_made who.id es given g) k;
  }

  pub polls_by : (items : List Item) (es : List Entry) → K es items → Allows P Q es (poll_asks (record { who = who; left = items }))
  polls_by items es k = asked.polls_by by_asks items es k

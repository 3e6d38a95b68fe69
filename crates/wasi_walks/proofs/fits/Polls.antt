-- What is left of an operation after a poll is left of the same: of a bind, of a connect, of a listen, of an accept.
use Rattle.wasi_walks.proofs.Words.{AccessDenied, Asks, Bind, Call, Check, CheckLocal, Connect, End, Entry, Err, ErrorCode, Front, FrontKeeps, Given}
use Rattle.wasi_walks.proofs.Words.{IpSocketAddress, IsAccept, IsConnect, IsLeftOfAccept, IsLeftOfBind, IsLeftOfConnect, IsLeftOfListen, IsRestOfBind}
use Rattle.wasi_walks.proofs.Words.{Item, LastAsk, List, Listen, Nothing, NothingLast, Ok, OpId, Operation, Polled, Result, SocketAddrUse, Verdict}
use Rattle.wasi_walks.proofs.Words.{Waits, Who, [], accept_front, admitted_front, allows_polls, arrival_front, bind, done_front, front, last_ask}
use Rattle.wasi_walks.proofs.Words.{local_front, poll_asks, polled_front, refl, told_addr, told_arrival, told_done, told_polled, told_verdict, true}
use Rattle.wasi_walks.proofs.Words.{verdict_front, ℕ, ⊤, ◌∷◌, ◌≡◌}
use Rattle.wasi_world.specs.Operation.{Connection, UdpBind}
use Rattle.wasi_udp.specs.Bind as udp
use Rattle.wasi_tcp.specs.Listen.{IsListen}
use Rattle.socket_common.specs.Rounds.{some_left, is_going}
use Rattle.wasi_walks.proofs.Gives.{Gives}
use Rattle.wasi_tcp.specs.Accept as accept
use Rattle.wasi_tcp.specs.Connect as connect
use Rattle.wasi_tcp.specs.Listen as listen
use Rattle.wasi_walks.specs.Waiting as binding

abbrev pub Anything : List Entry → OpId → Call → Type 0
Anything es op call = ⊤

-- == where the same is known of all that may be left
module _ (who : Who) (C : List Item → Type 0) (over : C []) where
  abbrev Leaves : List Entry → End × List Item → Type 0
  Leaves es end = C end.1

  abbrev Known : List Entry → Given → List Item → Type 0
  Known es given items = C items

  abbrev pub Keeps : List Item → List Entry → Front → Type 0
  Keeps items es f = FrontKeeps Anything who Known Leaves items es f

  -- nothing is left once the last ask was made
  pub lasts : (last : LastAsk) (es : List Entry) (c : ErrorCode) (given : Given) → Gives Leaves es (last_ask who last c given)
  unfolding bind
  lasts NothingLast es c given = over
  lasts _ es c given = (tt, λ t fits. over)

  -- these items follow the front ask
  module _ (items : List Item) (goes : C items) where
    -- a check continues, stays or ends
    by_verdict : (es : List Entry) (item : Item) (v : Verdict) → C (item ∷ items) → Keeps items es (verdict_front item v)
    by_verdict es item Verdict.Yes stays = goes
    by_verdict es item Verdict.No stays = lasts who.last es AccessDenied Nothing
    by_verdict es item Verdict.Pending stays = stays

    -- what is done or returned a code continues or ends
    by_done : (es : List Entry) (r : Result (Unit {0}) ErrorCode) → Keeps items es (done_front r)
    by_done es (Ok done) = goes
    by_done es (Err c) = lasts who.last es c Nothing

    -- a connect continues, stays or ends
    pub by_polled : (es : List Entry) (item : Item) (p : Polled (Unit {0})) → C (item ∷ items) → Keeps items es (polled_front item p)
    by_polled es item (Polled.Ready done) stays = goes
    by_polled es item (Polled.Code c) stays = lasts who.last es c Nothing
    by_polled es item Polled.Pending stays = stays

    abbrev FrontGives : List Entry → Item → Type 0
    FrontGives es item = Gives (λ fs f. Keeps items fs f) es (front who item)

    -- the front ask is a check
    pub checks : (es : List Entry) (a : IpSocketAddress) (usage : SocketAddrUse) → C (Check a usage ∷ items) → FrontGives es (Check a usage)
    unfolding bind
    checks es a usage stays = (tt, λ t fits. by_verdict _ (Check a usage) (told_verdict t) stays)

    -- once the local address was reported
    after_local : (es : List Entry) (usage : SocketAddrUse) (r : Result IpSocketAddress ErrorCode) → ((a : IpSocketAddress) → C (Check a usage ∷ items)) → Gives (λ fs f. Keeps items fs f) es (local_front who usage r)
    after_local es usage (Ok a) stays = checks es a usage (stays a)
    after_local es usage (Err c) stays = lasts who.last es c Nothing

    -- it is the check of the local address
    locals : (es : List Entry) (usage : SocketAddrUse) → ((a : IpSocketAddress) → C (Check a usage ∷ items)) → FrontGives es (CheckLocal usage)
    unfolding bind
    locals es usage stays = (tt, λ t fits. after_local _ usage (told_addr t) stays)

    -- it is a bind
    binds : (es : List Entry) (a : IpSocketAddress) → FrontGives es (Bind a)
    unfolding bind
    binds es a = (tt, λ t fits. by_done _ (told_done t))

    -- it is a bind of a UDP socket
    udp_binds : (es : List Entry) (a : IpSocketAddress) → FrontGives es (UdpBind a)
    unfolding bind
    udp_binds es a = (tt, λ t fits. by_done _ (told_done t))

    -- it is a listen
    listens : (es : List Entry) (backlog : ℕ) → FrontGives es (Listen backlog)
    unfolding bind
    listens es backlog = (tt, λ t fits. by_done _ (told_done t))

    -- it is a connect
    connects : (es : List Entry) (a : IpSocketAddress) → C (Connect a ∷ items) → FrontGives es (Connect a)
    unfolding bind
    connects es a stays = (tt, λ t fits. by_polled _ (Connect a) (told_polled t) stays)

  -- where each front ask keeps it
  pub kept : ((es : List Entry) (given : Given) (item : Item) (items : List Item) → C (item ∷ items) → Gives (λ fs f. Keeps items fs f) es (front who item)) → (items : List Item) → C items → (es : List Entry) → Gives Leaves es (poll_asks (record { who = who; left = items }))
  kept fronts items c es = allows_polls Anything who Known Leaves fronts (λ fs left k. k) (λ fs given k. k) 64 items es c

-- == of each
bind_fronts : (who : Who) (es : List Entry) (given : Given) (item : Item) (items : List Item) → IsLeftOfBind (item ∷ items) → Gives (λ fs f. Keeps who IsLeftOfBind binding.Ended items fs f) es (front who item)
bind_fronts who es given _ _ (binding.Unchecked a) = checks who IsLeftOfBind binding.Ended (Bind a ∷ []) (binding.Checked a) es a _ (binding.Unchecked a)
bind_fronts who es given _ _ (binding.Checked a) = binds who IsLeftOfBind binding.Ended [] binding.Ended es a

-- a bind that is polled leaves a bind
pub bind_left : (op : Operation) → IsRestOfBind op → (es : List Entry) → Gives (λ fs end. IsLeftOfBind end.1) es (poll_asks op)
bind_left op its es = kept op.who IsLeftOfBind binding.Ended (bind_fronts op.who) op.left its.left es

udp_bind_fronts : (who : Who) (es : List Entry) (given : Given) (item : Item) (items : List Item) → udp.IsLeftOfBind (item ∷ items) → Gives (λ fs f. Keeps who udp.IsLeftOfBind udp.Ended items fs f) es (front who item)
udp_bind_fronts who es given _ _ (udp.Unchecked a) = checks who udp.IsLeftOfBind udp.Ended (UdpBind a ∷ []) (udp.Checked a) es a _ (udp.Unchecked a)
udp_bind_fronts who es given _ _ (udp.Checked a) = udp_binds who udp.IsLeftOfBind udp.Ended [] udp.Ended es a

-- a bind of a UDP socket that is polled leaves one
pub udp_bind_left : (op : Operation) → udp.IsBind op → (es : List Entry) → Gives (λ fs end. udp.IsLeftOfBind end.1) es (poll_asks op)
udp_bind_left op its es = kept op.who udp.IsLeftOfBind udp.Ended (udp_bind_fronts op.who) op.left its.left es

connect_fronts : (who : Who) (es : List Entry) (given : Given) (item : Item) (items : List Item) → IsLeftOfConnect (item ∷ items) → Gives (λ fs f. Keeps who IsLeftOfConnect connect.Ended items fs f) es (front who item)
connect_fronts who es given _ _ (connect.Unbound wildcard a) = checks who IsLeftOfConnect connect.Ended _ (connect.Unchecked a) es wildcard _ (connect.Unbound wildcard a)
connect_fronts who es given _ _ (connect.Unchecked a) = checks who IsLeftOfConnect connect.Ended _ (connect.Checked a) es a _ (connect.Unchecked a)
connect_fronts who es given _ _ (connect.Checked a) = connects who IsLeftOfConnect connect.Ended [] connect.Ended es a (connect.Checked a)
connect_fronts who es given _ _ (connect.ToClose c) = lasts who IsLeftOfConnect connect.Ended who.last es c Nothing

-- a connect leaves a connect
pub connect_left : (op : Operation) → IsConnect op → (es : List Entry) → Gives (λ fs end. IsLeftOfConnect end.1) es (poll_asks op)
connect_left op its es = kept op.who IsLeftOfConnect connect.Ended (connect_fronts op.who) op.left its.left es

listen_fronts : (who : Who) (es : List Entry) (given : Given) (item : Item) (items : List Item) → IsLeftOfListen (item ∷ items) → Gives (λ fs f. Keeps who IsLeftOfListen listen.Ended items fs f) es (front who item)
listen_fronts who es given _ _ (listen.BoundBefore backlog) = locals who IsLeftOfListen listen.Ended (Listen backlog ∷ []) (listen.Bound backlog) es _ (λ a. listen.AddressTold a backlog)
listen_fronts who es given _ _ (listen.AddressTold a backlog) = checks who IsLeftOfListen listen.Ended (Listen backlog ∷ []) (listen.Bound backlog) es a _ (listen.AddressTold a backlog)
listen_fronts who es given _ _ (listen.Unbound wildcard backlog) = checks who IsLeftOfListen listen.Ended _ (listen.BindChecked wildcard backlog) es wildcard _ (listen.Unbound wildcard backlog)
listen_fronts who es given _ _ (listen.BindChecked wildcard backlog) = checks who IsLeftOfListen listen.Ended _ (listen.Checked wildcard backlog) es wildcard _ (listen.BindChecked wildcard backlog)
listen_fronts who es given _ _ (listen.Checked wildcard backlog) = binds who IsLeftOfListen listen.Ended _ (listen.Bound backlog) es wildcard
listen_fronts who es given _ _ (listen.Bound backlog) = listens who IsLeftOfListen listen.Ended [] listen.Ended es backlog
listen_fronts who es given _ _ (listen.ToClose c) = lasts who IsLeftOfListen listen.Ended who.last es c Nothing

-- a listen leaves a listen
pub listen_left : (op : Operation) → IsListen op → (es : List Entry) → Gives (λ fs end. IsLeftOfListen end.1) es (poll_asks op)
listen_left op its es = kept op.who IsLeftOfListen listen.Ended (listen_fronts op.who) op.left its.left es

-- == an accept: with an ask left it is in progress
abbrev pub GoesOn : List Item → Type 0
GoesOn items = IsLeftOfAccept items × (some_left items ≡ true)

abbrev pub AcceptLeaves : End × List Item → Type 0
AcceptLeaves (Waits, items) = GoesOn items
AcceptLeaves _ = ⊤

module _ (who : Who) where
  abbrev Leaving : List Entry → End × List Item → Type 0
  Leaving es end = AcceptLeaves end

  -- nothing follows what an accept gives
  abbrev Going : List Entry → Given → List Item → Type 0
  Going es Nothing items = GoesOn items
  Going es (Connection new peer) items = items ≡ []
  Going es _ items = ⊥

  abbrev AcceptKeeps : List Item → List Entry → Front → Type 0
  AcceptKeeps items es f = FrontKeeps Anything who Going Leaving items es f

  -- one that ended with a code leaves whatever it may
  ends_so : (last : LastAsk) (es : List Entry) (c : ErrorCode) (given : Given) → Gives Leaving es (last_ask who last c given)
  unfolding bind
  ends_so NothingLast es c given = tt
  ends_so _ es c given = (tt, λ t fits. tt)

  abbrev ArrivalGives : List Entry → Asks Front → Type 0
  ArrivalGives es asks = Gives (λ fs f. AcceptKeeps [] fs f) es asks

  -- an arrival that was checked is handed over, refused or kept
  admitted : (es : List Entry) (peer : IpSocketAddress) (v : Verdict) → ArrivalGives es (admitted_front who peer v)
  unfolding bind
  admitted es peer Verdict.Yes = (tt, λ t fits. refl)
  admitted es peer Verdict.No = (tt, λ t fits. (accept.Unarrived, refl))
  admitted es peer Verdict.Pending = (accept.Arrived peer, refl)

  -- an arrival is checked
  arrives : (es : List Entry) (peer : IpSocketAddress) → ArrivalGives es (arrival_front who peer)
  unfolding bind
  arrives es peer = (tt, λ t fits. admitted _ peer (told_verdict t))

  -- once the accept was answered
  accepted : (es : List Entry) (p : Polled IpSocketAddress) → ArrivalGives es (accept_front who p)
  accepted es Polled.Pending = (accept.Unarrived, refl)
  accepted es (Polled.Ready peer) = arrives es peer
  accepted es (Polled.Code c) = ends_so who.last es c Nothing

  -- by what is left of it
  by_left : (es : List Entry) (item : Item) (items : List Item) → IsLeftOfAccept (item ∷ items) → Gives (λ fs f. AcceptKeeps items fs f) es (front who item)
  unfolding bind
  by_left es _ _ accept.Unarrived = (tt, λ t fits. accepted _ (told_arrival t))
  by_left es _ _ (accept.Arrived peer) = arrives es peer
  by_left es _ _ (accept.Admitted peer) = (tt, λ t fits. refl)
  by_left es _ _ (accept.Unwanted peer) = (tt, λ t fits. (accept.Unarrived, refl))

  fronts : (es : List Entry) (given : Given) (item : Item) (items : List Item) → Going es given (item ∷ items) → Gives (λ fs f. AcceptKeeps items fs f) es (front who item)
  fronts es Nothing item items k = by_left es item items k.0
  fronts es (Connection new peer) item items k = absurd (cc)
  fronts es _ item items k = absurd k

-- an accept that waits stays one
pub accept_left : (op : Operation) → IsAccept op → is_going op ≡ true → (es : List Entry) → Gives (λ fs end. AcceptLeaves end) es (poll_asks op)
accept_left op its going es = allows_polls Anything op.who (Going op.who) (Leaving op.who) (fronts op.who) (λ fs left k. k) (λ fs given k. tt) 64 op.left es (its.left, going)

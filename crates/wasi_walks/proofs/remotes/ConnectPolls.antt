-- A connect of a UDP socket asks for its own remote address alone, and gives what it was told.
use Rattle.wasi_walks.proofs.Words.{AccessDenied, Allows, Bool, Call, Check, Done, End, Entry, Err, ErrorCode, FrontKeeps, Given, IpSocketAddress}
use Rattle.wasi_walks.proofs.Words.{IsMaker, Item, LastAsk, List, None, Nothing, NothingLast, Ok, OpId, Option, Refused, Result}
use Rattle.wasi_walks.proofs.Words.{SocketAddressFamily, Some, Told, Verdict, Waits, Who, [], allows_polls, ap, bind, entry, false}
use Rattle.wasi_walks.proofs.Words.{front, if◌then◌else◌, inl, inr, is_wildcard, last_ask, poll_asks, refl, subst, sym, told_addr, told_done}
use Rattle.wasi_walks.proofs.Words.{told_verdict, true, verdict_front, ℕ, ◌++◌, ◌∙◌, ◌∷◌, ◌≡◌}
use Rattle.wasi_addr.specs.Address.{wildcard}
use Rattle.wasi_addr.specs.declared.address.SocketAddrUse.TheVariants.{UdpBind, UdpSend, UdpReceive}
use Rattle.wasi_world.specs.Operation.{Front, UdpConnect, ask_peer_front, peer_front, remote_told}
use Rattle.wasi_udp.specs.Connect.{connect_first, connect_left, with_given}
use Rattle.wasi_udp.specs.Shape.{Socket}
use Rattle.wasi_walks.specs.Licence.{IsLastPeer, IsRemote}
use Rattle.wasi_walks.proofs.Lists.{cut_more, has_split}
use Rattle.wasi_walks.proofs.licence.Frames.{maker_more}
use Rattle.wasi_walks.proofs.licence.State.{RemoteIs}
use Rattle.wasi_walks.proofs.remotes.Along.{has_more, has_told}
use Rattle.wasi_walks.proofs.remotes.Polls.{NoPeer}
use Rattle.wasi_walks.specs.Remotes.{HasRemote}

-- == the last report
-- an entry that is no `peer` of the network socket leaves it
pub peer_more : (es : List Entry) (op : OpId) (c : Call) (told : Told) (side : OpId) (addr : IpSocketAddress) → (c ≡ Call.Peer side → ⊥) → IsLastPeer es side addr → IsLastPeer (es ++ entry op c told ∷ []) side addr
peer_more es op c told side addr n h = record {
  front = h.front;
  op = h.op;
  back = h.back ++ entry op c told ∷ [];
  cut = cut_more es _ h.front h.back _ h.cut;
  last = λ o t i. elim (has_split h.back (entry op c told) (entry o (Call.Peer side) t) i) [
    | inl j ↦ h.last o t j
    | inr e ↦ n (ap (λ (x : Entry). x.call) e)
  ];
}

-- and so the remote address that is kept
pub remote_more : (es : List Entry) (op : OpId) (c : Call) (told : Told) (side : OpId) (remote : Option IpSocketAddress) → (c ≡ Call.Peer side → ⊥) → RemoteIs es side remote → RemoteIs (es ++ entry op c told ∷ []) side remote
remote_more es op c told side remote n h addr e =
    let r : IsRemote es side addr = h addr e in
    record { ctx = r.ctx; family = r.family; maker = maker_more es _ r.ctx r.family side r.maker; told = peer_more es op c told side addr n r.told; other = r.other }

-- none is kept, whatever was reported
pub none_kept : (es : List Entry) (side : OpId) (remote : Option IpSocketAddress) → remote ≡ None → RemoteIs es side remote
none_kept es side remote e addr f = let p : None ≡ Some addr = sym e ∙ f in absurd (cc)

-- what was just reported is what is kept
pub told_kept : (es : List Entry) (op : OpId) (ctx : ℕ) (family : SocketAddressFamily) (side : OpId) (told : Told) → IsMaker es ctx family side → RemoteIs (es ++ entry op (Call.Peer side) told ∷ []) side (remote_told family (told_addr told))
told_kept es op ctx family side (Told.Addr a) m = by_test (is_wildcard family a) refl
  where
    by_test : (b : Bool) → is_wildcard family a ≡ b → (let kept : Option IpSocketAddress = if b then None else Some a in RemoteIs (es ++ entry op (Call.Peer side) (Told.Addr a) ∷ []) side kept)
    by_test true p = none_kept _ side None refl
    by_test false p = λ addr e. (let same : a ≡ addr = cc in subst (IsRemote (es ++ entry op (Call.Peer side) (Told.Addr a) ∷ []) side) same (record {
      ctx = ctx;
      family = family;
      maker = maker_more es _ ctx family side m;
      told = record { front = es; op = op; back = []; cut = refl; last = λ o t i. i };
      other = p;
    }))
told_kept es op ctx family side _ m = none_kept _ side None refl

-- == a connect
-- what is left of a connect of a socket of this family, and what it gave
pub data ConnectLeft (family : SocketAddressFamily) : Given → List Item → Type 0 where
  Unbound : (a : IpSocketAddress) → ConnectLeft family Nothing (Check (wildcard family) UdpBind ∷ Check a UdpSend ∷ Check a UdpReceive ∷ UdpConnect family a ∷ [])
  Whole : (a : IpSocketAddress) → ConnectLeft family Nothing (Check a UdpSend ∷ Check a UdpReceive ∷ UdpConnect family a ∷ [])
  SendChecked : (a : IpSocketAddress) → ConnectLeft family Nothing (Check a UdpReceive ∷ UdpConnect family a ∷ [])
  Checked : (a : IpSocketAddress) → ConnectLeft family Nothing (UdpConnect family a ∷ [])
  Over : (given : Given) → ConnectLeft family given []

-- its first stage
pub connects_whole : (family : SocketAddressFamily) (a : IpSocketAddress) (bound : Bool) → ConnectLeft family Nothing (connect_left family a (connect_first bound))
connects_whole family a true = Whole a
connects_whole family a false = Unbound a

module _ (who : Who) (ctx : ℕ) (family : SocketAddressFamily) (socket : Socket) where
  -- no remote address but that of its own network socket
  abbrev pub AsksOwn : List Entry → OpId → Call → Type 0
  AsksOwn es op c = (side : OpId) → c ≡ Call.Peer side → who.side ≡ side

  -- the remote address is that of the socket, or what was given
  abbrev Known : List Entry → Given → Type 0
  Known es given = IsMaker es ctx family who.side × (RemoteIs es who.side (with_given socket given).remote × HasRemote
      es who.side family (with_given socket given).remote)

  -- before each ask
  abbrev Before : List Entry → Given → List Item → Type 0
  Before es given items = Known es given × ConnectLeft family given items

  -- after the poll
  abbrev pub After : List Entry → End × List Item → Type 0
  After es (Waits, items) = Before es Nothing items
  After es (Done given, items) = Known es given
  After es (Refused c given, items) = Known es given

  -- what comes of the front ask
  abbrev Keeps : List Item → List Entry → Front → Type 0
  Keeps items es f = FrontKeeps AsksOwn who Before After items es f

  -- any other call
  no_peer : (c : Call) → NoPeer c → (side : OpId) → c ≡ Call.Peer side → ⊥
  no_peer c n side e = subst NoPeer e n

  -- it asks for none
  own_if : (c : Call) → NoPeer c → (side : OpId) → c ≡ Call.Peer side → who.side ≡ side
  own_if c n side e = absurd (no_peer c n side e)

  -- under one more entry, which asks for none
  known_more : (es : List Entry) (op : OpId) (c : Call) (t : Told) (given : Given) → NoPeer c → Known es given → Known (es ++ entry op c t ∷ []) given
  known_more es op c t given n k = (
    maker_more es _ ctx family who.side k.0,
    (
      remote_more es op c t who.side (with_given socket given).remote (no_peer c n who.side) k.1.0,
      has_more es op c t
          who.side family (with_given socket given).remote (no_peer c n who.side) k.1.1,
    ),
  )

  -- the last ask
  last_known : (es : List Entry) (last : LastAsk) (c : ErrorCode) (given : Given) → Known es given → Allows AsksOwn After es (last_ask who last c given)
  unfolding bind
  last_known es NothingLast c given k = k
  last_known es _ c given k = (own_if _ tt, λ t fits. known_more es _ _ t given tt k)

  -- a check that was answered
  by_verdict : (es : List Entry) (i : Item) (items : List Item) (v : Verdict) → Known es Nothing → ConnectLeft family Nothing (i ∷ items) → ConnectLeft family Nothing items → Keeps items es (verdict_front i v)
  by_verdict es i items Verdict.Yes k stays goes = (k, goes)
  by_verdict es i items Verdict.No k stays goes = last_known es who.last AccessDenied Nothing k
  by_verdict es i items Verdict.Pending k stays goes = (k, stays)

  -- the remote address was reported
  by_peer : (es : List Entry) (r : Result (Unit {0}) ErrorCode) (remote : Option IpSocketAddress) → IsMaker es ctx
      family who.side → RemoteIs es who.side remote × HasRemote es who.side family remote → Keeps [] es
      (peer_front r remote)
  by_peer es (Ok done) remote m k = ((m, k), Over _)
  by_peer es (Err c) remote m k = last_known es who.last c _ (m, k)

  -- it is asked for
  peers : (es : List Entry) (r : Result (Unit {0}) ErrorCode) → Known es Nothing → Allows AsksOwn
      (λ fs f. Keeps [] fs f) es (ask_peer_front who family r)
  unfolding bind
  peers es r k = (
    λ side e. (let p : Call.Peer who.side ≡ Call.Peer side = e in cc),
    λ t fits. by_peer _ r _
        (maker_more es _ ctx family who.side k.0) (
          told_kept es who.id ctx family who.side t k.0,
          has_told es who.id t who.side family
              (with_given socket Nothing).remote k.1.1,
        ),
  )

  -- each front ask
  connect_front : (es : List Entry) (given : Given) (i : Item) (items : List Item) → Known es given → ConnectLeft family given (i ∷ items) → Allows AsksOwn (λ fs f. Keeps items fs f) es (front who i)
  unfolding bind
  connect_front es _ _ _ k (Unbound a) = (own_if _ tt, λ t fits. by_verdict _ _ _ (told_verdict t) (known_more es _ _ t Nothing tt k) (Unbound a) (Whole a))
  connect_front es _ _ _ k (Whole a) = (own_if _ tt, λ t fits. by_verdict _ _ _ (told_verdict t) (known_more es _ _ t Nothing tt k) (Whole a) (SendChecked a))
  connect_front es _ _ _ k (SendChecked a) = (own_if _ tt, λ t fits. by_verdict _ _ _ (told_verdict t) (known_more es _ _ t Nothing tt k) (SendChecked a) (Checked a))
  connect_front es _ _ _ k (Checked a) =
      (own_if _ tt, λ t fits. peers _ (told_done t) (known_more es _ _ t Nothing tt k))

  -- a poll of it
  pub connect_poll : (items : List Item) (es : List Entry) → IsMaker es ctx family who.side → RemoteIs es who.side
      socket.remote × HasRemote es who.side family socket.remote → ConnectLeft family Nothing items → Allows AsksOwn
      After es (poll_asks (record { who = who; left = items }))
  connect_poll items es m k left = allows_polls AsksOwn who Before After (λ fs given i rest h. connect_front fs given i rest h.0 h.1) (λ fs rest h. h) (λ fs given h. h.0) 64 items es ((m, k), left)

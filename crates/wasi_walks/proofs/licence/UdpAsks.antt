-- A create and a bind of a UDP socket: each of their asks is allowed, and what is left may be polled on.
use Rattle.wasi_walks.proofs.Words.{AccessDenied, Allows, BeganBy, Call, Check, CloseLast, End, Entry, ErrorCode, FrontKeeps, Given, IpSocketAddress}
use Rattle.wasi_walks.proofs.Words.{Item, LastAsk, List, Nothing, NothingLast, Operation, Step, Told, Waits, WasiSocketsCtx, Who, [], allows_polls}
use Rattle.wasi_walks.proofs.Words.{bind, done_front, entry, front, inl, inr, last_ask, left_of, poll_asks, polls, refl, subst, sym, told_done}
use Rattle.wasi_walks.proofs.Words.{told_verdict, verdict_front, ⊤, ◌++◌, ◌∷◌, ◌≡◌}
use Rattle.wasi_addr.specs.declared.address.SocketAddrUse.TheVariants as use_of
use Rattle.wasi_world.specs.Fits.{IsPolled}
use Rattle.wasi_world.specs.Operation.{UdpBind, UdpWritable, after, polled_front, round}
use Rattle.wasi_world.specs.Typed.{told_polled}
use Rattle.wasi_walks.specs.Licence.{IsUdpBindTo, MakesUdp}
use Rattle.wasi_walks.proofs.Lists.{has_last}
use Rattle.wasi_walks.proofs.licence.State.{UdpBindLeft, UdpUnchecked, UdpChecked, UdpOver, WorksOn, UdpBindIsFine}
use Rattle.wasi_walks.proofs.licence.Frames.{stay, works_more}
use Rattle.wasi_walks.proofs.licence.Binds.{MayQuietly}

-- == a create
-- one that waits asks again whether its network socket is there
abbrev pub AsksAgain : End × List Item → Type 0
AsksAgain (Waits, items) = items ≡ UdpWritable ∷ []
AsksAgain _ = ⊤

module _ (contexts : List WasiSocketsCtx) (steps : List Step) where
  module _ (who : Who) (own : who.id ≡ who.side) (last : who.last ≡ CloseLast) where
    abbrev Leaves : List Entry → End × List Item → Type 0
    Leaves es ended = AsksAgain ended

    -- one that is refused closes its network socket
    closes_last : (es : List Entry) (c : ErrorCode) → Allows (MayQuietly contexts steps) Leaves es (last_ask who who.last c Nothing)
    unfolding bind
    closes_last es c = subst (λ (l : LastAsk). Allows (MayQuietly contexts steps) Leaves es (last_ask who l c Nothing)) (sym last) (((tt, tt), tt), λ t fits. tt)

    polled_create : (es : List Entry) → Allows (MayQuietly contexts steps) Leaves es (polls 64 who (UdpWritable ∷ []))
    unfolding bind polls
    polled_create es = (((inr own, tt), tt), λ t fits. told t fits)
      where
        told : (t : Told) → IsPolled t → Allows (MayQuietly contexts steps) Leaves (es ++ entry who.id (Call.UdpWritable who.side) t ∷ []) (after (polls 63 who) who [] (λ g. round (polls 63 who) who g []) (polled_front UdpWritable (told_polled t)))
        told Told.Done fits = tt
        told Told.Pending fits = refl
        told (Told.Code c) fits = closes_last _ c
        told _ fits = absurd fits

  pub fine_poll_create : (op : Operation) (es : List Entry) → op.who.id ≡ op.who.side → op.who.last ≡ CloseLast → op.left ≡ UdpWritable ∷ [] → Allows (MayQuietly contexts steps) (λ fs ended. AsksAgain ended) es (poll_asks op)
  fine_poll_create op es own last left = subst (λ (items : List Item). Allows (MayQuietly contexts steps) (λ fs ended. AsksAgain ended) es (polls 64 op.who items)) (sym left) (polled_create op.who own last es)

module _ (contexts : List WasiSocketsCtx) (steps : List Step) where
  -- == a bind
  module _ (who : Who) where
    -- with these items left it may be polled
    abbrev Stands : List Entry → List Item → Type 0
    Stands es items = UdpBindIsFine steps es (record { who = who; left = items })

    abbrev StandsBefore : List Entry → Given → List Item → Type 0
    StandsBefore es given items = Stands es items

    abbrev StandsAfter : List Entry → End × List Item → Type 0
    StandsAfter es ended = Stands es ended.1

    abbrev Works : List Entry → Type 0
    Works es = WorksOn steps es who.id who.side who.context

    module _ (addr : IpSocketAddress) (to : BeganBy steps who.id (IsUdpBindTo addr)) (udp : BeganBy steps who.side MakesUdp) (last : who.last ≡ NothingLast) where
      works_on : (es : List Entry) (c : Call) (t : Told) → Works es → Works (es ++ entry who.id c t ∷ [])
      works_on es c t w = works_more (stay steps) es _ who.id who.side who.context w

      stands : (es : List Entry) (items : List Item) → Works es → UdpBindLeft es who.id who.context addr items → Stands es items
      stands es items w l = record { addr = addr; to = to; udp = udp; works = w; last = last; left = l }

      ends_last : (es : List Entry) (c : ErrorCode) (given : Given) → Works es → Allows (MayQuietly contexts steps) StandsAfter es (last_ask who who.last c given)
      ends_last es c given w = subst (λ (l : LastAsk). Allows (MayQuietly contexts steps) StandsAfter es (last_ask who l c given)) (sym last) (stands es [] w UdpOver)

      checked : (es : List Entry) (t : Told) → Works es
          → FrontKeeps (MayQuietly contexts steps) who StandsBefore StandsAfter (UdpBind addr ∷ []) (es ++ entry who.id (Call.Check who.context addr use_of.UdpBind) t ∷ []) (verdict_front (Check addr use_of.UdpBind) (told_verdict t))
      checked es Told.Yes w = stands _ _ (works_on es _ Told.Yes w) (UdpChecked (has_last es _))
      checked es Told.No w = ends_last _ AccessDenied Nothing (works_on es _ Told.No w)
      checked es t w = stands _ _ (works_on es _ t w) UdpUnchecked

      bound : (es : List Entry) (t : Told) → Works es → FrontKeeps (MayQuietly contexts steps) who StandsBefore StandsAfter [] (es ++ entry who.id (Call.UdpBind who.side addr) t ∷ []) (done_front (told_done t))
      bound es (Told.Code c) w = ends_last _ c Nothing (works_on es _ (Told.Code c) w)
      bound es t w = stands _ _ (works_on es _ t w) UdpOver

      fine_front : (es : List Entry) (item : Item) (items : List Item) → Works es → UdpBindLeft es who.id who.context addr (item ∷ items) → Allows (MayQuietly contexts steps) (FrontKeeps (MayQuietly contexts steps) who StandsBefore StandsAfter items) es (front who item)
      unfolding bind
      fine_front es _ _ w UdpUnchecked = (((tt, tt), tt), λ t fits. checked es t w)
      fine_front es _ _ w (UdpChecked y) = (
        (((inl w.named, to, record { ctx = who.context; family = w.family; maker = w.made; checked = y }, udp), tt), tt),
        λ t fits. bound es t w,
      )

  -- a poll of a bind leaves one that may be polled
  pub fine_poll_udp_bind : (op : Operation) (es : List Entry) → UdpBindIsFine steps es op → Allows (MayQuietly contexts steps) (λ fs ended. UdpBindIsFine steps fs (left_of op ended.1)) es (poll_asks op)
  fine_poll_udp_bind op es b =
      allows_polls (MayQuietly contexts steps) op.who (StandsBefore op.who) (StandsAfter op.who)
      (λ fs given item items k. fine_front op.who k.addr k.to k.udp k.last fs item items k.works k.left)
      (λ fs items k. k) (λ fs given k. k) 64 op.left es b

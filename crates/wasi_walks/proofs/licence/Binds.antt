-- Whether a socket is bound, and a bind: what is asked is allowed, what is learned is in the log, and what a bind leaves may be polled on.
use Rattle.wasi_walks.proofs.Words.{AccessDenied, Allows, BeganBy, Bind, Bool, Call, Check, End, Entry, ErrorCode, FrontKeeps, Given, Has}
use Rattle.wasi_walks.proofs.Words.{IpSocketAddress, IsAddr, IsBindTo, IsBoundSide, Item, LastAsk, List, Nothing, NothingLast, OpId}
use Rattle.wasi_walks.proofs.Words.{Operation, Socket, Step, TcpBind, TcpState, Told, WasiSocketsCtx, Who, [], after_local, allows_polls, ap, bind}
use Rattle.wasi_walks.proofs.Words.{done_front, entry, false, front, if◌then◌else◌, inl, is_wildcard, last_ask, left_of, poll_asks, refl, side_in}
use Rattle.wasi_walks.proofs.Words.{subst, sym, told_addr, told_done, told_verdict, true, verdict_front, ⊤, ◌++◌, ◌∷◌, ◌≡◌}
use Rattle.wasi_walks.specs.Licence.{MakesTcp}
use Rattle.wasi_walks.proofs.Lists.{has_last}
use Rattle.wasi_walks.proofs.licence.State.{BindLeft, Whole, Checked, Over, WorksOn, BindIsFine, SocketIsFine}
use Rattle.wasi_walks.proofs.licence.Frames.{stay, works_more, NoMark, KeepsSide, keeps_side}
use Rattle.wasi_walks.proofs.claims.Polls.{IsPlainCall}
use Rattle.wasi_walks.proofs.licence.Unbound.{MayAskSo}

-- any call but `local`
abbrev pub NoLocal : Call → Type 0
NoLocal (Call.Local side) = ⊥
NoLocal _ = ⊤

pub no_local : (c : Call) → IsPlainCall c → NoLocal c
no_local (Call.Local side) h = h
no_local _ h = tt

module _ (contexts : List WasiSocketsCtx) (steps : List Step) where
  -- an ask that may come, and is no mark
  abbrev pub May : List Entry → OpId → Call → Type 0
  May es op c = MayAskSo contexts steps es op c × NoMark c

  -- and doesn't ask for a local address either
  abbrev pub MayQuietly : List Entry → OpId → Call → Type 0
  MayQuietly es op c = May es op c × NoLocal c

  -- What the answer to Bound? leaves.
  pub record Learned (socket : Socket) (es : List Entry) (b : Bool × Socket) : Type 0 where
    pub keeps : KeepsSide socket b.1
    pub state : b.1.state ≡ socket.state
    pub told : b.0 ≡ true → b.1.bound ≡ true
    pub fine : SocketIsFine steps es b.1

  learned_nothing : (socket : Socket) (es : List Entry) → SocketIsFine steps es socket → Learned socket es (false, socket)
  learned_nothing socket es f = record { keeps = keeps_side socket; state = refl; told = λ e. absurd (cc); fine = f }

  learned_bound : (socket : Socket) (es : List Entry) → SocketIsFine steps es socket → ((side : OpId) → socket.state ≡ TcpState.Default side → IsBoundSide es side) → Learned socket es (true, record socket { bound = true })
  learned_bound socket es f w = record {
    keeps = record { maker = refl; family = refl; side = λ s e. e; connected = λ c e. record { connection = c; state = e; same = refl } };
    state = refl;
    told = λ e. refl;
    fine = record { knows = record { maker = f.knows.maker }; tcp = f.tcp; bound = λ side s e. w side s; listens = f.listens; connect = f.connect };
  }

  pub learned_told : (es : List Entry) (op side : OpId) (socket : Socket) (t : Told) → socket.state ≡ TcpState.Default side → IsAddr t → Has es (entry op (Call.Local side) t) → SocketIsFine steps es socket → Learned socket es (after_local socket (told_addr t))
  learned_told es op side socket (Told.Addr a) e fits has f = by_test (is_wildcard socket.family a) refl
    where
      same : (other : OpId) → socket.state ≡ TcpState.Default other → side ≡ other
      same other s = let p : TcpState.Default side ≡ TcpState.Default other = cc in cc

      by_test : (b : Bool) → is_wildcard socket.family a ≡ b → (let told : Bool × Socket = if b then (false, socket) else (true, record socket { bound = true }) in Learned socket es told)
      by_test true p = learned_nothing socket es f
      by_test false p = learned_bound socket es f (λ other s. record {
        ctx = socket.maker;
        family = socket.family;
        maker = f.knows.maker other (ap side_in s);
        op = op;
        addr = a;
        told = subst (λ (o : OpId). Has es (entry op (Call.Local o) (Told.Addr a))) (same other s) has;
        other = p;
      })
  learned_told es op side socket (Told.Code c) e fits has f = learned_nothing socket es f
  learned_told es op side socket _ e fits has f = absurd fits

module _ (contexts : List WasiSocketsCtx) (steps : List Step) where
  -- == a poll
  module _ (who : Who) where
    -- with these items left it may be polled
    abbrev Stands : List Entry → List Item → Type 0
    Stands es items = BindIsFine steps es (record { who = who; left = items })

    abbrev StandsBefore : List Entry → Given → List Item → Type 0
    StandsBefore es given items = Stands es items

    abbrev StandsAfter : List Entry → End × List Item → Type 0
    StandsAfter es ended = Stands es ended.1

    abbrev Works : List Entry → Type 0
    Works es = WorksOn steps es who.id who.side who.context

    module _ (addr : IpSocketAddress) (to : BeganBy steps who.id (IsBindTo addr)) (tcp : BeganBy steps who.side MakesTcp) (last : who.last ≡ NothingLast) where
      works_on : (es : List Entry) (c : Call) (t : Told) → Works es → Works (es ++ entry who.id c t ∷ [])
      works_on es c t w = works_more (stay steps) es _ who.id who.side who.context w

      stands : (es : List Entry) (items : List Item) → Works es → BindLeft es who.id who.context addr items → Stands es items
      stands es items w l = record { addr = addr; to = to; tcp = tcp; works = w; last = last; left = l }

      ends_last : (es : List Entry) (c : ErrorCode) (given : Given) → Works es → Allows (May contexts steps) StandsAfter es (last_ask who who.last c given)
      ends_last es c given w = subst (λ (l : LastAsk). Allows (May contexts steps) StandsAfter es (last_ask who l c given)) (sym last) (stands es [] w Over)

      checked : (es : List Entry) (t : Told) → Works es → FrontKeeps (May contexts steps) who StandsBefore StandsAfter (Bind addr ∷ []) (es ++ entry who.id (Call.Check who.context addr TcpBind) t ∷ []) (verdict_front (Check addr TcpBind) (told_verdict t))
      checked es Told.Yes w = stands _ _ (works_on es _ Told.Yes w) (Checked (has_last es _))
      checked es Told.No w = ends_last _ AccessDenied Nothing (works_on es _ Told.No w)
      checked es t w = stands _ _ (works_on es _ t w) Whole

      bound : (es : List Entry) (t : Told) → Works es → FrontKeeps (May contexts steps) who StandsBefore StandsAfter [] (es ++ entry who.id (Call.Bind who.side addr) t ∷ []) (done_front (told_done t))
      bound es (Told.Code c) w = ends_last _ c Nothing (works_on es _ (Told.Code c) w)
      bound es t w = stands _ _ (works_on es _ t w) Over

      fine_front : (es : List Entry) (item : Item) (items : List Item) → Works es → BindLeft es who.id who.context addr (item ∷ items) → Allows (May contexts steps) (FrontKeeps (May contexts steps) who StandsBefore StandsAfter items) es (front who item)
      unfolding bind
      fine_front es _ _ w Whole = ((tt, tt), λ t fits. checked es t w)
      fine_front es _ _ w (Checked y) = (
        ((inl w.named, inl to, record { ctx = who.context; family = w.family; maker = w.made; checked = y }, tcp), tt),
        λ t fits. bound es t w,
      )

  -- a poll of a bind leaves one that may be polled
  pub fine_poll : (op : Operation) (es : List Entry) → BindIsFine steps es op → Allows (May contexts steps) (λ fs ended. BindIsFine steps fs (left_of op ended.1)) es (poll_asks op)
  fine_poll op es b =
      allows_polls (May contexts steps) op.who (StandsBefore op.who) (StandsAfter op.who)
      (λ fs given item items k. fine_front op.who k.addr k.to k.tcp k.last fs item items k.works k.left)
      (λ fs items k. k) (λ fs given k. k) 64 op.left es b

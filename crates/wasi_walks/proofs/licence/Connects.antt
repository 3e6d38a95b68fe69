-- A connect: each of its asks is allowed, and what it leaves may be polled on.
use Rattle.wasi_walks.proofs.Words.{AccessDenied, Allows, Answer, BeganBy, Call, Check, CloseLast, Connect, Done, End, Entry, ErrorCode, FrontKeeps}
use Rattle.wasi_walks.proofs.Words.{Given, Has, IpSocketAddress, IsConnectTo, IsMaker, Item, LastAsk, List, MayGoOut, Nothing, Ok, OpId, Operation}
use Rattle.wasi_walks.proofs.Words.{Ready, Refused, Result, Socket, SocketAddressFamily, Some, Step, TcpBind, TcpConnect, TcpState, Told, Waits}
use Rattle.wasi_walks.proofs.Words.{WasiSocketsCtx, Who, [], allows_polls, ap, bind, connect_ended, entry, front, in_socket, inl, inr, last_ask}
use Rattle.wasi_walks.proofs.Words.{left_of, new_connection, poll_asks, polled_front, refl, side_in, side_of, subst, sym, told_polled, told_verdict}
use Rattle.wasi_walks.proofs.Words.{verdict_front, wildcard, with_state, ⊤, ◌++◌, ◌∙◌, ◌∷◌, ◌≡◌}
use Rattle.wasi_walks.proofs.licence.Binds.{May}
use Rattle.wasi_walks.specs.Licence.{MakesTcp}
use Rattle.wasi_walks.proofs.Lists.{has_last, has_front}
use Rattle.wasi_walks.proofs.licence.State.{ConnectLeft, Unbound, Unchecked, Allowed, ToClose, Ended, WorksOn, ConnectIsFine, IsConnectedOn, KnowsMaker, SocketIsFine}
use Rattle.wasi_walks.proofs.licence.Frames.{stay, KeepsSide, works_more, out_more, maker_more}

module _ (contexts : List WasiSocketsCtx) (steps : List Step) where
  -- == a poll
  module _ (who : Who) where
    -- with these items left it may be polled
    abbrev Stands : List Entry → List Item → Type 0
    Stands es items = ConnectIsFine steps es (record { who = who; left = items })

    abbrev StandsBefore : List Entry → Given → List Item → Type 0
    StandsBefore es given items = Stands es items

    abbrev StandsAfter : List Entry → End × List Item → Type 0
    StandsAfter es ended = Stands es ended.1

    abbrev Works : List Entry → Type 0
    Works es = WorksOn steps es who.id who.side who.context

    module _ (addr : IpSocketAddress) (to : BeganBy steps who.id (IsConnectTo addr)) (tcp : BeganBy steps who.side MakesTcp) (last : who.last ≡ CloseLast) where
      works_on : (es : List Entry) (c : Call) (t : Told) → Works es → Works (es ++ entry who.id c t ∷ [])
      works_on es c t w = works_more (stay steps) es _ who.id who.side who.context w

      stands : (es : List Entry) (items : List Item) → Works es → ConnectLeft es who.id who.side who.context addr items → Stands es items
      stands es items w l = record { addr = addr; to = to; tcp = tcp; works = w; last = last; left = l }

      -- one that ends with a code closes its network socket
      ends_last : (es : List Entry) (c : ErrorCode) (given : Given) → Works es → Allows (May contexts steps) StandsAfter es (last_ask who who.last c given)
      unfolding bind
      ends_last es c given w =
          subst (λ (l : LastAsk). Allows (May contexts steps) StandsAfter es (last_ask who l c given)) (sym last) ((tt, tt), λ t fits. stands _ [] (works_on es _ t w) Ended)

      -- the check of the wildcard
      asked_wildcard : (es : List Entry) (family : SocketAddressFamily) (t : Told) → Works es → IsMaker es who.context family who.side
          → FrontKeeps (May contexts steps) who StandsBefore StandsAfter (Check addr TcpConnect ∷ Connect addr ∷ []) (es ++ entry who.id (Call.Check who.context (wildcard family) TcpBind) t ∷ []) (verdict_front (Check (wildcard family) TcpBind) (told_verdict t))
      asked_wildcard es family Told.Yes w m = stands _ _ (works_on es _ Told.Yes w)
          (Unchecked (inr (record { ctx = who.context; family = family; maker = maker_more es _ who.context family who.side m; checked = has_last es _ })))
      asked_wildcard es family Told.No w m = ends_last _ AccessDenied Nothing (works_on es _ Told.No w)
      asked_wildcard es family t w m = stands _ _ (works_on es _ t w) (Unbound family (maker_more es _ who.context family who.side m))

      -- the check of the address
      asked_check : (es : List Entry) (t : Told) → Works es → MayGoOut es who.id who.side
          → FrontKeeps (May contexts steps) who StandsBefore StandsAfter (Connect addr ∷ []) (es ++ entry who.id (Call.Check who.context addr TcpConnect) t ∷ []) (verdict_front (Check addr TcpConnect) (told_verdict t))
      asked_check es Told.Yes w o = stands _ _ (works_on es _ Told.Yes w) (Allowed (out_more es _ who.id who.side o) (has_last es _))
      asked_check es Told.No w o = ends_last _ AccessDenied Nothing (works_on es _ Told.No w)
      asked_check es t w o = stands _ _ (works_on es _ t w) (Unchecked (out_more es _ who.id who.side o))

      -- the connect itself
      asked_connect : (es : List Entry) (t : Told) → Works es → MayGoOut es who.id who.side → Has es (entry who.id (Call.Check who.context addr TcpConnect) Told.Yes)
          → FrontKeeps (May contexts steps) who StandsBefore StandsAfter [] (es ++ entry who.id (Call.Connect who.side addr) t ∷ []) (polled_front (Connect addr) (told_polled t))
      asked_connect es Told.Done w o y = stands _ _ (works_on es _ Told.Done w) Ended
      asked_connect es (Told.Code c) w o y = ends_last _ c Nothing (works_on es _ (Told.Code c) w)
      asked_connect es t w o y = stands _ _ (works_on es _ t w) (Allowed (out_more es _ who.id who.side o) (has_front es _ _ y))

      fine_front : (es : List Entry) (item : Item) (items : List Item) → Works es → ConnectLeft es who.id who.side who.context addr (item ∷ items)
          → Allows (May contexts steps) (FrontKeeps (May contexts steps) who StandsBefore StandsAfter items) es (front who item)
      unfolding bind
      fine_front es _ _ w (Unbound family m) = ((tt, tt), λ t fits. asked_wildcard es family t w m)
      fine_front es _ _ w (Unchecked o) = ((tt, tt), λ t fits. asked_check es t w o)
      fine_front es _ _ w (Allowed o y) = (
        ((inl w.named, to, record { ctx = who.context; family = w.family; maker = w.made; checked = y }, o, tcp), tt),
        λ t fits. asked_connect es t w o y,
      )
      fine_front es _ _ w (ToClose c) = ends_last es c Nothing w

  -- a poll of a connect leaves one that may be polled
  pub fine_poll_connect : (op : Operation) (es : List Entry) → ConnectIsFine steps es op → Allows (May contexts steps) (λ fs ended. ConnectIsFine steps fs (left_of op ended.1)) es (poll_asks op)
  fine_poll_connect op es b =
      allows_polls (May contexts steps) op.who (StandsBefore op.who) (StandsAfter op.who)
      (λ fs given item items k. fine_front op.who k.addr k.to k.tcp k.last fs item items k.works k.left)
      (λ fs items k. k) (λ fs given k. k) 64 op.left es b

  -- == the poll of a socket's connect
  -- one that is ready is connected
  abbrev pub HasSide : Socket → Result (Answer (Unit {0})) ErrorCode → Type 0
  HasSide socket (Ok (Ready done)) = (side : OpId) × IsConnectedOn socket side
  HasSide socket _ = ⊤

  pub record FinishedFine (old : Socket) (es : List Entry) (done : Result (Answer (Unit {0})) ErrorCode × Socket) : Type 0 where
    pub keeps : KeepsSide old done.1
    pub fine : SocketIsFine steps es done.1
    pub side : HasSide done.1 done.0

  plain : (es : List Entry) (socket : Socket) (s : TcpState) → ((side : OpId) → side_in s ≡ Some side → side_of socket ≡ Some side) → KnowsMaker es socket → ((side : OpId) → s ≡ TcpState.Default side → socket.state ≡ TcpState.Default side) → ((side : OpId) → s ≡ TcpState.Listening side → ⊥) → ((op : Operation) → s ≡ TcpState.Connecting op → ConnectIsFine steps es op) → SocketIsFine steps es socket → SocketIsFine steps es (with_state socket s)
  plain es socket s k m d n c f = record {
    knows = record { maker = λ side e. m.maker side (k side e) };
    tcp = λ side e. f.tcp side (d side e);
    bound = λ side e b. f.bound side (d side e) b;
    listens = λ side e. absurd (n side e);
    connect = c;
  }

  pub ended : (es : List Entry) (socket : Socket) (op : Operation) (end : End × List Item) → socket.state ≡ TcpState.Connecting op → SocketIsFine steps es socket → ConnectIsFine steps es (left_of op end.1) → FinishedFine socket es (in_socket socket (connect_ended op.who end))
  ended es socket op (Waits, items) e f c = record {
    keeps = record { maker = refl; family = refl; side = λ s p. ap side_in e ∙ p; connected = λ d p. absurd (cc) };
    fine = plain es socket _ (λ s p. ap side_in e ∙ p) f.knows (λ s p. absurd (cc)) (λ s p. cc) (λ o p. let same : left_of op items ≡ o = cc in subst (ConnectIsFine steps es) same c) f;
    side = tt;
  }
  ended es socket op (Done given, items) e f c = record {
    keeps = record { maker = refl; family = refl; side = λ s p. ap side_in e ∙ p; connected = λ d p. absurd (cc) };
    fine = plain es socket _ (λ s p. ap side_in e ∙ p) f.knows (λ s p. absurd (cc)) (λ s p. cc) (λ o p. absurd (cc)) f;
    side = (op.who.side, record { connection = new_connection op.who.side; state = refl; same = refl });
  }
  ended es socket op (Refused code given, items) e f c = record {
    keeps = record { maker = refl; family = refl; side = λ s p. absurd (cc); connected = λ d p. absurd (cc) };
    fine = plain es socket _ (λ s p. absurd (cc)) f.knows (λ s p. absurd (cc)) (λ s p. cc) (λ o p. absurd (cc)) f;
    side = tt;
  }

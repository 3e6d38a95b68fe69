-- A listen: each of its asks is allowed, what it leaves may be polled on, and where it is done its network socket listens; and
-- one that is in progress stays so, whatever else is asked.
use Rattle.wasi_walks.proofs.Words.{Accepts, AccessDenied, Allows, Answer, Ask, AskWrite, Asks, AsyncOperation, BeganBy, Begins, Call, Check}
use Rattle.wasi_walks.proofs.Words.{CheckLocal, CloseLast, Done, End, Entry, ErrorCode, FrontKeeps, Give, Given, Has, InProgress, IpSocketAddress}
use Rattle.wasi_walks.proofs.Words.{IsAddr, IsBoundSide, IsDoneOrCode, IsLastLocal, IsListenStep, IsMaker, Item, LastAsk, List, Listen, Listening}
use Rattle.wasi_walks.proofs.Words.{Listens, None, Not, Nothing, Ok, OpId, Operation, Pending, Refused, Result, Some, Step, Streams, TcpRecord}
use Rattle.wasi_walks.proofs.Words.{TcpListen, TcpState, Told, Waits, WasiSocketsCtx, Who, [], allows_polls, ap, append_assoc, bind, check_front}
use Rattle.wasi_walks.proofs.Words.{done_front, entry, front, inl, inr, last_ask, left_of, listen_ended, listen_polled, local_front, new_listener}
use Rattle.wasi_walks.proofs.Words.{poll_asks, refl, side_in, side_of, subst, sym, told_addr, told_done, told_verdict, verdict_front, with_state, ℕ}
use Rattle.wasi_walks.proofs.Words.{⊤, ◌++◌, ◌∙◌, ◌∷◌, ◌≡◌}
use Rattle.wasi_walks.specs.Licence.{BindsAnywhere, HasWildcardYes, MakesTcp}
use Rattle.wasi_addr.specs.declared.address.SocketAddressFamily.{SocketAddressFamily}
use Rattle.wasi_addr.specs.declared.address.SocketAddrUse.{SocketAddrUse}
use Rattle.wasi_addr.specs.declared.address.SocketAddrUse.TheVariants.{TcpBind}
use Rattle.wasi_addr.specs.Address.{wildcard}
use Rattle.wasi_world.specs.Operation.{Bind}
use Rattle.wasi_walks.proofs.licence.Unbound.{OnlyWild, wild_more}
use Rattle.wasi_walks.proofs.Lists.{has_last, has_split, has_front}
use Rattle.wasi_walks.proofs.licence.Binds.{NoLocal, May}
use Rattle.wasi_walks.proofs.licence.State.{WorksOn, ListeningStands, accept_name, RecordIsFine}
use Rattle.wasi_walks.proofs.licence.Frames.{stay, maker_more, works_more, bound_more, listens_more, LeavesRecord, KeepsListening}

-- == the last local address
-- what was reported last stays the last, where the network socket isn't asked
pub local_unless : (es : List Entry) (op : OpId) (c : Call) (t : Told) (side : OpId) (a : IpSocketAddress) → (c ≡ Call.Local side → ⊥) → IsLastLocal es side a → IsLastLocal (es ++ entry op c t ∷ []) side a
local_unless es op c t side a n h = record {
  front = h.front;
  op = h.op;
  back = h.back ++ entry op c t ∷ [];
  cut = ap (λ (fs : List Entry). fs ++ entry op c t ∷ []) h.cut ∙ append_assoc h.front (entry h.op (Call.Local side) (Told.Addr a) ∷ h.back) (entry op c t ∷ []);
  last = λ o u i. elim (has_split h.back (entry op c t) (entry o (Call.Local side) u) i) [ inl j ↦ h.last o u j | inr e ↦ n (ap (λ (x : Entry). x.call) e) ];
}

pub local_more : (es : List Entry) (op : OpId) (c : Call) (t : Told) (side : OpId) (a : IpSocketAddress) → NoLocal c → IsLastLocal es side a → IsLastLocal (es ++ entry op c t ∷ []) side a
local_more es op c t side a n h = local_unless es op c t side a (λ e. subst NoLocal e n) h

pub local_told : (es : List Entry) (op side : OpId) (a : IpSocketAddress) → IsLastLocal (es ++ entry op (Call.Local side) (Told.Addr a) ∷ []) side a
local_told es op side a = record { front = es; op = op; back = []; cut = refl; last = λ o u i. i }

-- == what is left of a listen, and what it was answered so far
module _ (steps : List Step) where
  -- Of a network socket that isn't bound, which the step of this operation binds to the wildcard.
  pub record IsFree (es : List Entry) (op side : OpId) (maker : ℕ) (family : SocketAddressFamily) : Type 0 where
    pub anywhere : BeganBy steps op BindsAnywhere
    pub maker_is : IsMaker es maker family side
    pub wild : OnlyWild es side family

  pub data ListenLeft (es : List Entry) (op side : OpId) (maker : ℕ) : List Item → Type 0 where
    Whole : (backlog : ℕ) → IsBoundSide es side → ListenLeft es op side maker (CheckLocal TcpListen ∷ Listen backlog ∷ [])
    Untold : (a : IpSocketAddress) (backlog : ℕ) → IsBoundSide es side → IsLastLocal es side a → ListenLeft es op side maker (Check a TcpListen ∷ Listen backlog ∷ [])
    Allowed : (a : IpSocketAddress) (backlog : ℕ) → IsBoundSide es side → IsLastLocal es side a → Has es (entry op (Call.Check maker a TcpListen) Told.Yes) → ListenLeft es op side maker (Listen backlog ∷ [])
    WholeUnbound : (family : SocketAddressFamily) (backlog : ℕ) → IsFree es op side maker family → ListenLeft es op side maker (Check (wildcard family) TcpBind ∷ Check (wildcard family) TcpListen ∷ Bind (wildcard family) ∷ Listen backlog ∷ [])
    BindAllowed : (family : SocketAddressFamily) (backlog : ℕ) → IsFree es op side maker family → Has es (entry op (Call.Check maker (wildcard family) TcpBind) Told.Yes) → ListenLeft es op side maker (Check (wildcard family) TcpListen ∷ Bind (wildcard family) ∷ Listen backlog ∷ [])
    BothAllowed : (family : SocketAddressFamily) (backlog : ℕ) → IsFree es op side maker family → Has es (entry op (Call.Check maker (wildcard family) TcpBind) Told.Yes) → Has es (entry op (Call.Check maker (wildcard family) TcpListen) Told.Yes) → ListenLeft es op side maker (Bind (wildcard family) ∷ Listen backlog ∷ [])
    BoundNow : (family : SocketAddressFamily) (backlog : ℕ) → IsFree es op side maker family → Has es (entry op (Call.Check maker (wildcard family) TcpBind) Told.Yes) → Has es (entry op (Call.Check maker (wildcard family) TcpListen) Told.Yes) → ListenLeft es op side maker (Listen backlog ∷ [])
    Over : Listens es side → ListenLeft es op side maker []

  -- with nothing left its `listen` was answered done
  pub it_listens : (es : List Entry) (op side : OpId) (maker : ℕ) → ListenLeft es op side maker [] → Listens es side
  it_listens es op side maker (Over h) = h

  -- A listen that may be polled: where it came from, and what it has asked so far.
  pub record ListenIsFine (es : List Entry) (op : Operation) : Type 0 where
    pub to : BeganBy steps op.who.id IsListenStep
    pub tcp : BeganBy steps op.who.side MakesTcp
    pub works : WorksOn steps es op.who.id op.who.side op.who.context
    pub last : op.who.last ≡ CloseLast
    pub so_far : ListenLeft es op.who.id op.who.side op.who.context op.left

  -- what a poll of it leaves: one that waits may be polled on, and where it is done its network socket listens
  abbrev pub ListenEnds : List Entry → Who → End → List Item → Type 0
  ListenEnds es who Waits items = ListenIsFine es (record { who = who; left = items })
  ListenEnds es who (Done given) items = Listens es who.side
  ListenEnds es who (Refused c given) items = ⊤

module _ (contexts : List WasiSocketsCtx) (steps : List Step) where
  -- == a poll
  module _ (who : Who) where
    -- with these items left it may be polled
    abbrev Stands : List Entry → List Item → Type 0
    Stands es items = ListenIsFine steps es (record { who = who; left = items })

    abbrev StandsBefore : List Entry → Given → List Item → Type 0
    StandsBefore es given items = Stands es items

    abbrev StandsAfter : List Entry → End × List Item → Type 0
    StandsAfter es ended = ListenEnds steps es who ended.0 ended.1

    module _ (to : BeganBy steps who.id IsListenStep) (tcp : BeganBy steps who.side MakesTcp) (last : who.last ≡ CloseLast) where
      -- it works on its network socket
      abbrev Works : List Entry → Type 0
      Works es = WorksOn steps es who.id who.side who.context

      works_on : (es : List Entry) (c : Call) (t : Told) → Works es → Works (es ++ entry who.id c t ∷ [])
      works_on es c t w = works_more (stay steps) es _ who.id who.side who.context w

      abbrev Bound : List Entry → Type 0
      Bound es = IsBoundSide es who.side

      bound_on : (es : List Entry) (c : Call) (t : Told) → Bound es → Bound (es ++ entry who.id c t ∷ [])
      bound_on es c t b = bound_more es _ who.side b

      stands : (es : List Entry) (items : List Item) → Works es → ListenLeft steps es who.id who.side who.context items → Stands es items
      stands es items w l = record { to = to; tcp = tcp; works = w; last = last; so_far = l }

      -- one that ends with a code closes its network socket
      ends_last : (es : List Entry) (c : ErrorCode) (given : Given) → Allows (May contexts steps) StandsAfter es (last_ask who who.last c given)
      unfolding bind
      ends_last es c given = subst (λ (l : LastAsk). Allows (May contexts steps) StandsAfter es (last_ask who l c given)) (sym last) ((tt, tt), λ t fits. tt)

      -- == of a network socket that is bound
      -- the check of the address that was reported
      asked_check : (es : List Entry) (a : IpSocketAddress) (backlog : ℕ) (t : Told) → Works es → Bound es → IsLastLocal es who.side a
          → FrontKeeps (May contexts steps) who StandsBefore StandsAfter (Listen backlog ∷ []) (es ++ entry who.id (Call.Check who.context a TcpListen) t ∷ []) (verdict_front (Check a TcpListen) (told_verdict t))
      asked_check es a backlog Told.Yes w b h = stands _ _ (works_on es _ Told.Yes w) (Allowed a backlog (bound_on es _ Told.Yes b) (local_more es who.id _ Told.Yes who.side a tt h) (has_last es _))
      asked_check es a backlog Told.No w b h = ends_last _ AccessDenied Nothing
      asked_check es a backlog t w b h = stands _ _ (works_on es _ t w) (Untold a backlog (bound_on es _ t b) (local_more es who.id _ t who.side a tt h))

      checks : (es : List Entry) (a : IpSocketAddress) (backlog : ℕ) → Works es → Bound es → IsLastLocal es who.side a → Allows (May contexts steps) (FrontKeeps (May contexts steps) who StandsBefore StandsAfter (Listen backlog ∷ [])) es (check_front who a TcpListen)
      unfolding bind
      checks es a backlog w b h = ((tt, tt), λ t fits. asked_check es a backlog t w b h)

      -- the local address
      asked_local : (es : List Entry) (backlog : ℕ) (t : Told) → IsAddr t → Works es → Bound es
          → Allows (May contexts steps) (FrontKeeps (May contexts steps) who StandsBefore StandsAfter (Listen backlog ∷ [])) (es ++ entry who.id (Call.Local who.side) t ∷ []) (local_front who TcpListen (told_addr t))
      asked_local es backlog (Told.Addr a) fits w b = checks _ a backlog (works_on es _ (Told.Addr a) w) (bound_on es _ (Told.Addr a) b) (local_told es who.id who.side a)
      asked_local es backlog (Told.Code c) fits w b = ends_last _ c Nothing
      asked_local es backlog _ fits w b = absurd fits

      -- == of one that isn't
      free_on : (es : List Entry) (c : Call) (t : Told) (family : SocketAddressFamily) → NoLocal c → IsFree steps es who.id who.side who.context family → IsFree steps (es ++ entry who.id c t ∷ []) who.id who.side who.context family
      free_on es c t family n f = record { anywhere = f.anywhere; maker_is = maker_more es _ who.context family who.side f.maker_is; wild = wild_more es who.id c t who.side family (λ e. subst NoLocal e n) f.wild }

      asked_bind_check : (es : List Entry) (family : SocketAddressFamily) (backlog : ℕ) (t : Told) → Works es → IsFree steps es who.id who.side who.context family
          → FrontKeeps (May contexts steps) who StandsBefore StandsAfter (Check (wildcard family) TcpListen ∷ Bind (wildcard family) ∷ Listen backlog ∷ []) (es ++ entry who.id (Call.Check who.context (wildcard family) TcpBind) t ∷ []) (verdict_front (Check (wildcard family) TcpBind) (told_verdict t))
      asked_bind_check es family backlog Told.Yes w f = stands _ _ (works_on es _ Told.Yes w) (BindAllowed family backlog (free_on es _ Told.Yes family tt f) (has_last es _))
      asked_bind_check es family backlog Told.No w f = ends_last _ AccessDenied Nothing
      asked_bind_check es family backlog t w f = stands _ _ (works_on es _ t w) (WholeUnbound family backlog (free_on es _ t family tt f))

      asked_listen_check : (es : List Entry) (family : SocketAddressFamily) (backlog : ℕ) (t : Told) → Works es → IsFree steps es who.id who.side who.context family → Has es (entry who.id (Call.Check who.context (wildcard family) TcpBind) Told.Yes)
          → FrontKeeps (May contexts steps) who StandsBefore StandsAfter (Bind (wildcard family) ∷ Listen backlog ∷ []) (es ++ entry who.id (Call.Check who.context (wildcard family) TcpListen) t ∷ []) (verdict_front (Check (wildcard family) TcpListen) (told_verdict t))
      asked_listen_check es family backlog Told.Yes w f y = stands _ _ (works_on es _ Told.Yes w) (BothAllowed family backlog (free_on es _ Told.Yes family tt f) (has_front es _ _ y) (has_last es _))
      asked_listen_check es family backlog Told.No w f y = ends_last _ AccessDenied Nothing
      asked_listen_check es family backlog t w f y = stands _ _ (works_on es _ t w) (BindAllowed family backlog (free_on es _ t family tt f) (has_front es _ _ y))

      asked_bind : (es : List Entry) (family : SocketAddressFamily) (backlog : ℕ) (t : Told) → IsDoneOrCode t → Works es → IsFree steps es who.id who.side who.context family → Has es (entry who.id (Call.Check who.context (wildcard family) TcpBind) Told.Yes) → Has es (entry who.id (Call.Check who.context (wildcard family) TcpListen) Told.Yes)
          → FrontKeeps (May contexts steps) who StandsBefore StandsAfter (Listen backlog ∷ []) (es ++ entry who.id (Call.Bind who.side (wildcard family)) t ∷ []) (done_front (told_done t))
      asked_bind es family backlog Told.Done fits w f y z = stands _ _ (works_on es _ Told.Done w) (BoundNow family backlog (free_on es _ Told.Done family tt f) (has_front es _ _ y) (has_front es _ _ z))
      asked_bind es family backlog (Told.Code c) fits w f y z = ends_last _ c Nothing
      asked_bind es family backlog _ fits w f y z = absurd fits

      -- the listen itself
      asked_listen : (es : List Entry) (backlog : ℕ) (t : Told) → IsDoneOrCode t → Works es → FrontKeeps (May contexts steps) who StandsBefore StandsAfter [] (es ++ entry who.id (Call.Listen who.side backlog) t ∷ []) (done_front (told_done t))
      asked_listen es backlog Told.Done fits w = stands _ _ (works_on es _ Told.Done w) (Over (record { op = who.id; backlog = backlog; told = has_last es _ }))
      asked_listen es backlog (Told.Code c) fits w = ends_last _ c Nothing
      asked_listen es backlog _ fits w = absurd fits

      has_yes : (es : List Entry) (family : SocketAddressFamily) (usage : SocketAddrUse) → IsFree steps es who.id who.side who.context family → Has es (entry who.id (Call.Check who.context (wildcard family) usage) Told.Yes) → HasWildcardYes es who.id who.side usage
      has_yes es family usage f y = record { ctx = who.context; family = family; maker = f.maker_is; checked = y }

      fine_front : (es : List Entry) (item : Item) (items : List Item) → Works es → ListenLeft steps es who.id who.side who.context (item ∷ items) → Allows (May contexts steps) (FrontKeeps (May contexts steps) who StandsBefore StandsAfter items) es (front who item)
      unfolding bind
      fine_front es _ _ w (Whole backlog b) = ((inl w.named, tt), λ t fits. asked_local es backlog t fits w b)
      fine_front es _ _ w (Untold a backlog b h) = checks es a backlog w b h
      fine_front es _ _ w (Allowed a backlog b h y) = (
        ((inl w.named, to, inl (b, (a, h, record { ctx = who.context; family = w.family; maker = w.made; checked = y })), tcp), tt),
        λ t fits. asked_listen es backlog t fits w,
      )
      fine_front es _ _ w (WholeUnbound family backlog f) = ((tt, tt), λ t fits. asked_bind_check es family backlog t w f)
      fine_front es _ _ w (BindAllowed family backlog f y) = ((tt, tt), λ t fits. asked_listen_check es family backlog t w f y)
      fine_front es _ _ w (BothAllowed family backlog f y z) = (
        ((inl w.named, inr (f.anywhere, record { ctx = who.context; family = family; maker = f.maker_is; is = refl }), record { ctx = who.context; family = family; maker = f.maker_is; checked = y }, tcp), tt),
        λ t fits. asked_bind es family backlog t fits w f y z,
      )
      fine_front es _ _ w (BoundNow family backlog f y z) = (
        ((inl w.named, to, inr (record { ctx = who.context; family = family; maker = f.maker_is; wild = f.wild }, has_yes es family TcpBind f y, has_yes es family TcpListen f z), tcp), tt),
        λ t fits. asked_listen es backlog t fits w,
      )

  pub fine_poll_listen : (op : Operation) (es : List Entry) → ListenIsFine steps es op → Allows (May contexts steps) (λ fs ended. ListenEnds steps fs op.who ended.0 ended.1) es (poll_asks op)
  fine_poll_listen op es b =
      allows_polls (May contexts steps) op.who (StandsBefore op.who) (StandsAfter op.who)
      (λ fs given item items k. fine_front op.who k.to k.tcp k.last fs item items k.works k.so_far)
      (λ fs items k. k) (λ fs given k. it_listens steps fs op.who.id op.who.side op.who.context k.so_far) 64 op.left es b

-- the two of one tree
pub also : {A : Type 0} (P R : List Entry → OpId → Call → Type 0) (Q S : List Entry → A → Type 0) (es : List Entry) (asks : Asks A) → Allows P Q es asks → Allows R S es asks → Allows (λ fs o c. P fs o c × R fs o c) Q es asks
also P R Q S es (Give a) h k = h
also P R Q S es (Ask op c next) h k = ((h.0, k.0), λ told f. also P R Q S _ (next told) (h.1 told f) (k.1 told f))
also P R Q S es (AskWrite op sock bytes next) h k = ((h.0, k.0), λ told f g. also P R Q S _ (next told) (h.1 told f g) (k.1 told f g))

-- == what was reported last stays the last, where the network socket isn't asked
module _ (steps : List Step) (es : List Entry) (o op side : OpId) (maker : ℕ) (c : Call) (t : Told) (n : c ≡ Call.Local side → ⊥) where
  abbrev later : List Entry
  later = es ++ entry o c t ∷ []

  free_unless : (family : SocketAddressFamily) → IsFree steps es op side maker family → IsFree steps later op side maker family
  free_unless family f = record { anywhere = f.anywhere; maker_is = maker_more es _ maker family side f.maker_is; wild = wild_more es o c t side family n f.wild }

  left_unless : (items : List Item) → ListenLeft steps es op side maker items → ListenLeft steps later op side maker items
  left_unless _ (Whole backlog b) = Whole backlog (bound_more es _ side b)
  left_unless _ (Untold a backlog b h) = Untold a backlog (bound_more es _ side b) (local_unless es o c t side a n h)
  left_unless _ (Allowed a backlog b h y) = Allowed a backlog (bound_more es _ side b) (local_unless es o c t side a n h) (has_front es (entry o c t ∷ []) _ y)
  left_unless _ (WholeUnbound family backlog f) = WholeUnbound family backlog (free_unless family f)
  left_unless _ (BindAllowed family backlog f y) = BindAllowed family backlog (free_unless family f) (has_front es (entry o c t ∷ []) _ y)
  left_unless _ (BothAllowed family backlog f y z) = BothAllowed family backlog (free_unless family f) (has_front es (entry o c t ∷ []) _ y) (has_front es (entry o c t ∷ []) _ z)
  left_unless _ (BoundNow family backlog f y z) = BoundNow family backlog (free_unless family f) (has_front es (entry o c t ∷ []) _ y) (has_front es (entry o c t ∷ []) _ z)
  left_unless _ (Over h) = Over (listens_more es _ side h)

pub listen_unless : (steps : List Step) (es : List Entry) (o : OpId) (c : Call) (t : Told) (op : Operation) → (c ≡ Call.Local op.who.side → ⊥) → ListenIsFine steps es op → ListenIsFine steps (es ++ entry o c t ∷ []) op
listen_unless steps es o c t op n h = record {
  to = h.to;
  tcp = h.tcp;
  works = works_more (stay steps) es _ op.who.id op.who.side op.who.context h.works;
  last = h.last;
  so_far = left_unless steps es o op.who.id op.who.side op.who.context c t n op.left h.so_far;
}

module _ (contexts : List WasiSocketsCtx) (steps : List Step) where
  -- The record's listen is in progress: it holds the network socket that the record was made with, and the socket has none.
  pub record ListenRecord (es : List Entry) (r : TcpRecord) : Type 0 where
    pub op : Operation
    pub begins : r.listening ≡ Begins op
    pub fine : ListenIsFine steps es op
    pub side : r.side ≡ Some op.who.side
    pub closed : side_of r.inner ≡ None
    pub asks : op.who.context ≡ r.inner.maker
    pub made : IsMaker es r.inner.maker r.inner.family op.who.side

  abbrev pub IfWaits : Result (Answer (Unit {0})) ErrorCode → Type 0 → Type 0
  IfWaits (Ok Pending) P = P
  IfWaits _ P = ⊤

  -- What a poll of a listen leaves, in place of this record.
  pub record ListenLeaves (old : TcpRecord) (es : List Entry) (done : Result (Answer (Unit {0})) ErrorCode × TcpRecord) : Type 0 where
    pub leaves : LeavesRecord steps old es done
    pub waits : IfWaits done.0 (ListenRecord es done.1)

  -- == a poll
  quiet : (old now : Listening) → ((es : List Entry) → ListeningStands es now) → accept_name now ≡ None → KeepsListening old now
  quiet old now h n = record { stands = λ es k. h es; names = λ x e. let p : None ≡ Some x = sym n ∙ e in absurd (cc) }

  -- a socket without a network socket has no streams
  no_streams : (es : List Entry) (r : TcpRecord) (s : Streams) → side_of r.inner ≡ None → RecordIsFine steps es r → r.streams ≡ Some s → ⊥
  no_streams es r s c h e = let p : side_of r.inner ≡ Some (h.streams s e).connected.connection.side = ap side_in (h.streams s e).connected.state in absurd (cc)

  -- one that is done listens
  listens_now : (es : List Entry) (r : TcpRecord) (op : Operation) → r.side ≡ Some op.who.side → side_of r.inner ≡ None → op.who.context ≡ r.inner.maker → IsMaker es r.inner.maker r.inner.family op.who.side → Listens es op.who.side → RecordIsFine steps es r
      → RecordIsFine steps es (record r { inner = with_state r.inner (TcpState.Listening op.who.side); in_progress = InProgress.Started AsyncOperation.Listen; listening = Accepts (new_listener op.who.side op.who.context r.inner.family) })
  listens_now es r op s c a m l h = record {
    socket = record {
      knows = record { maker = λ side e. let p : op.who.side ≡ side = cc in subst (IsMaker es r.inner.maker r.inner.family) p m };
      tcp = λ side e. absurd (cc);
      bound = λ side e b. absurd (cc);
      listens = λ side e. let p : op.who.side ≡ side = cc in subst (Listens es) p l;
      connect = λ o e. absurd (cc);
    };
    named = λ side e. s ∙ e;
    streams = λ streams e. absurd (no_streams es r streams c h e);
    listening = record { side = s; maker = subst (λ (n : ℕ). IsMaker es n r.inner.family op.who.side) (sym a) m; accept = tt };
    progress = tt;
  }

  pub ended : (es : List Entry) (old r : TcpRecord) (op : Operation) (end : End × List Item) → r.side ≡ old.side → r.side ≡ Some op.who.side → side_of r.inner ≡ None → op.who.context ≡ r.inner.maker → IsMaker es r.inner.maker r.inner.family op.who.side
      → RecordIsFine steps es r → ListenEnds steps es op.who end.0 end.1 → ListenLeaves old es (listen_polled r (listen_ended op.who r.inner end))
  ended es old r op (Waits, items) k s c a m h f = record {
    leaves = record { side = k; listening = quiet old.listening (Begins (left_of op items)) (λ fs. tt) refl; fine = record { socket = h.socket; named = h.named; streams = h.streams; listening = tt; progress = h.progress } };
    waits = record { op = left_of op items; begins = refl; fine = f; side = s; closed = c; asks = a; made = m };
  }
  ended es old r op (Done given, items) k s c a m h f = record {
    leaves = record { side = k; listening = quiet old.listening (Accepts (new_listener op.who.side op.who.context r.inner.family)) (λ fs. tt) refl; fine = listens_now es r op s c a m f h };
    waits = tt;
  }
  ended es old r op (Refused code given, items) k s c a m h f = record {
    leaves = record { side = k; listening = quiet old.listening Not (λ fs. tt) refl; fine = record { socket = h.socket; named = h.named; streams = h.streams; listening = tt; progress = h.progress } };
    waits = tt;
  }

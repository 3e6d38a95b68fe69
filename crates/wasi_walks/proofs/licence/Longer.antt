-- Of a licensed log: it is one where each entry may come after those before it; its prefixes are licensed, and so it is with
-- fewer replies, and by a longer script.
use Rattle.wasi_walks.proofs.Words.{Item, SocketAddressFamily, BeganBy, Call, Entry, IsLicensed, List, Machine, MayAsk, NamesSide, OpId, Operation, ReachesSide, Reply, Some, Step}
use Rattle.wasi_walks.proofs.Words.{WasiSocketsCtx, [], ap, append-nil, append_assoc, inl, inr, step_at, subst, suc}
use Rattle.wasi_walks.proofs.Words.{zero, ℕ, ⊤, ◌++◌, ◌∙◌, ◌∷◌, ◌≡◌}
use Rattle.wasi_walks.proofs.Lists.{get_front}
use Rattle.wasi_walks.specs.Licence.{EachMayReply, MakesTcp}
use Rattle.wasi_walks.proofs.licence.Besides.{BesidesAreFine, besides_more}
use Rattle.wasi_walks.proofs.licence.Replies.{replies_fewer, replies_longer}
use Rattle.wasi_walks.proofs.licence.State.{WorksOn, RecordIsFine, UdpIsFine, StandingIsFine, StateIsFine}
use Rattle.wasi_walks.proofs.licence.ListenAsks.{Allowed, BindAllowed, BothAllowed, BoundNow, Over, Untold, Whole, WholeUnbound, ListenLeft, IsFree, ListenIsFine}
use Rattle.wasi_walks.proofs.licence.Frames.{Goes, began_more, works_more, record_more}
use Rattle.wasi_walks.proofs.licence.UdpFrames.{standing_more, udp_more}

module _ (steps more : List Step) where
  step_more : (n : ℕ) (s : Step) → step_at steps n ≡ Some s → step_at (steps ++ more) n ≡ Some s
  step_more zero s h = absurd (cc)
  step_more (suc n) s h = get_front steps more n s h

  pub on : Goes steps (steps ++ more)
  on = record { at = step_more }

  -- == the calls
  reach_more : (before : List Entry) (op side : OpId) → ReachesSide steps before op side → ReachesSide (steps ++ more) before op side
  reach_more before op side (inl h) = inl (began_more on op (NamesSide before side) h)
  reach_more before op side (inr h) = inr h

  pub may_more : (contexts : List WasiSocketsCtx) (before : List Entry) (op : OpId) (c : Call) → MayAsk contexts steps before op c → MayAsk contexts (steps ++ more) before op c
  may_more contexts before op (Call.Check ctx addr usage) h = h
  may_more contexts before op (Call.Lookup host) h = began_more on op _ h
  may_more contexts before op (Call.TcpCreate ctx family) h = began_more on op _ h
  may_more contexts before op (Call.UdpCreate ctx family) h = began_more on op _ h
  may_more contexts before op (Call.Bind sock addr) h = (reach_more before op sock h.0, elim h.1 [ inl by_bind ↦ inl (began_more on op _ by_bind) | inr by_listen ↦ inr (began_more on op _ by_listen.0, by_listen.1) ], h.2, began_more on sock _ h.3)
  may_more contexts before op (Call.UdpBind sock addr) h = (reach_more before op sock h.0, began_more on op _ h.1, h.2, began_more on sock _ h.3)
  may_more contexts before op (Call.UdpConnect sock addr) h = (reach_more before op sock h.0, began_more on op _ h.1, h.2, h.3, h.4, began_more on sock _ h.5)
  may_more contexts before op (Call.Listen sock backlog) h = (reach_more before op sock h.0, began_more on op _ h.1, h.2, began_more on sock _ h.3)
  may_more contexts before op (Call.SetBacklog sock backlog) h = (reach_more before op sock h.0, began_more on op _ h.1, h.2)
  may_more contexts before op (Call.UdpDisconnect sock) h = (reach_more before op sock h.0, began_more on op _ h.1)
  may_more contexts before op (Call.GetOption sock option) h = (reach_more before op sock h.0, began_more on op _ h.1)
  may_more contexts before op (Call.SetOption sock option value) h = (reach_more before op sock h.0, began_more on op _ h.1)
  may_more contexts before op (Call.Connect sock addr) h = (reach_more before op sock h.0, began_more on op _ h.1, h.2, h.3, began_more on sock _ h.4)
  may_more contexts before op (Call.Hand sock peer) h = (reach_more before op sock h.0, h.1, h.2)
  may_more contexts before op (Call.Send sock addr bytes) h = (reach_more before op sock h.0, began_more on op _ h.1, h.2, h.3, began_more on sock _ h.4)
  may_more contexts before op (Call.Recv sock) h = (reach_more before op sock h.0, began_more on op _ h.1)
  may_more contexts before op (Call.Close sock) h = h
  may_more contexts before op (Call.Made handle kind parent sock) h = (h.0, began_more on op _ h.1)
  may_more contexts before op _ h = reach_more before op _ h

  -- == the state
  pub state_more : (contexts : List WasiSocketsCtx) (es : List Entry) (m : Machine) → StateIsFine contexts steps es m → StateIsFine contexts (steps ++ more) es m
  state_more contexts es m h = record {
    count = h.count;
    handles = h.handles;
    records = λ place r e. subst (λ (fs : List Entry). RecordIsFine (steps ++ more) fs r) (append-nil es) (record_more on es [] r (h.records place r e));
    udp = λ place u e. subst (λ (fs : List Entry). UdpIsFine (steps ++ more) fs u) (append-nil es) (udp_more on es [] u (h.udp place u e));
    lookups = λ place op e. began_more on op.id _ (h.lookups place op e);
    besides = subst (λ (fs : List Entry). BesidesAreFine contexts (steps ++ more) fs m.store.beside) (append-nil es) (besides_more contexts on es [] m.store.beside h.besides);
    standing = λ s e. subst (λ (fs : List Entry). StandingIsFine (steps ++ more) fs m.store.records s) (append-nil es) (standing_more on es [] m.store.records s (h.standing s e));
    accepts = h.accepts;
    one = h.one;
  }

  pub tcp_more : (side : OpId) → BeganBy steps side MakesTcp → BeganBy (steps ++ more) side MakesTcp
  tcp_more side h = began_more on side MakesTcp h

  free_longer : (es : List Entry) (op side : OpId) (maker : ℕ) (family : SocketAddressFamily) → IsFree steps es op side maker family → IsFree (steps ++ more) es op side maker family
  free_longer es op side maker family f = record { anywhere = began_more on op _ f.anywhere; maker_is = f.maker_is; wild = f.wild }

  left_longer : (es : List Entry) (op side : OpId) (maker : ℕ) (items : List Item) → ListenLeft steps es op side maker items → ListenLeft (steps ++ more) es op side maker items
  left_longer es op side maker _ (Whole backlog b) = Whole backlog b
  left_longer es op side maker _ (Untold a backlog b h) = Untold a backlog b h
  left_longer es op side maker _ (Allowed a backlog b h y) = Allowed a backlog b h y
  left_longer es op side maker _ (WholeUnbound family backlog f) = WholeUnbound family backlog (free_longer es op side maker family f)
  left_longer es op side maker _ (BindAllowed family backlog f y) = BindAllowed family backlog (free_longer es op side maker family f) y
  left_longer es op side maker _ (BothAllowed family backlog f y z) = BothAllowed family backlog (free_longer es op side maker family f) y z
  left_longer es op side maker _ (BoundNow family backlog f y z) = BoundNow family backlog (free_longer es op side maker family f) y z
  left_longer es op side maker _ (Over h) = Over h

  pub listen_more : (es : List Entry) (op : Operation) → ListenIsFine steps es op → ListenIsFine (steps ++ more) es op
  listen_more es op h = record {
    to = began_more on op.who.id _ h.to;
    tcp = tcp_more op.who.side h.tcp;
    works = subst (λ (fs : List Entry). WorksOn (steps ++ more) fs op.who.id op.who.side op.who.context) (append-nil es) (works_more on es [] op.who.id op.who.side op.who.context h.works);
    last = h.last;
    so_far = left_longer es op.who.id op.who.side op.who.context op.left h.so_far;
  }

module _ (contexts : List WasiSocketsCtx) (steps : List Step) where
  -- each of the later entries may come after those before it
  abbrev pub EachMayCome : List Entry → List Entry → Type 0
  EachMayCome before [] = ⊤
  EachMayCome before (e ∷ es) = MayAsk contexts steps before e.op e.call × EachMayCome (before ++ e ∷ []) es

  may_at : (before front : List Entry) (e : Entry) (back : List Entry) → EachMayCome before (front ++ e ∷ back) → MayAsk contexts steps (before ++ front) e.op e.call
  may_at before [] e back h = rw append-nil h.0
  may_at before (x ∷ front) e back h = rw append_assoc at (may_at (before ++ x ∷ []) front e back h.1)

  -- with no reply given yet, and with replies that may be
  pub licensed : (log : List Entry) → EachMayCome [] log → IsLicensed contexts steps log []
  licensed log h = record { each = λ before e after cut. may_at [] before e after (subst (EachMayCome []) cut h); replied = tt }

  pub with_replies : (log : List Entry) (replies : List Reply) → EachMayReply steps log [] 1 steps replies → IsLicensed contexts steps log [] → IsLicensed contexts steps log replies
  with_replies log replies may h = record { each = h.each; replied = may }

  -- one more that may come
  come_more : (before es : List Entry) (e : Entry) → EachMayCome before es → MayAsk contexts steps (before ++ es) e.op e.call → EachMayCome before (es ++ e ∷ [])
  come_more before [] e h m = (rw append-nil at m, tt)
  come_more before (x ∷ es) e h m = (h.0, come_more (before ++ x ∷ []) es e h.1 (rw append_assoc m))

  pub may_come : (es : List Entry) (e : Entry) → EachMayCome [] es → MayAsk contexts steps es e.op e.call → EachMayCome [] (es ++ e ∷ [])
  may_come es e h m = come_more [] es e h m

-- by a longer script
pub come_longer : (contexts : List WasiSocketsCtx) (steps more : List Step) (before es : List Entry) → EachMayCome contexts steps before es → EachMayCome contexts (steps ++ more) before es
come_longer contexts steps more before [] h = tt
come_longer contexts steps more before (e ∷ es) h = (may_more steps more contexts before e.op e.call h.0, come_longer contexts steps more (before ++ e ∷ []) es h.1)

module _ (contexts : List WasiSocketsCtx) (steps : List Step) where
  -- a prefix of a licensed log, before a reply is given
  pub prefix_is_licensed : (front back : List Entry) (replies : List Reply) → IsLicensed contexts steps (front ++ back) replies → IsLicensed contexts steps front []
  prefix_is_licensed front back replies h = record {
    each = λ before e after cut. h.each before e (after ++ back) (ap (λ (es : List Entry). es ++ back) cut ∙ append_assoc before (e ∷ after) back);
    replied = tt;
  }

  -- with the first of the replies
  pub fewer_replies : (log : List Entry) (replies more : List Reply) → IsLicensed contexts steps log (replies ++ more) → IsLicensed contexts steps log replies
  fewer_replies log replies more h = record { each = h.each; replied = replies_fewer steps log [] 1 steps replies more h.replied }

  -- by a longer script
  pub longer_script : (more : List Step) (log : List Entry) (replies : List Reply) → IsLicensed contexts steps log replies → IsLicensed contexts (steps ++ more) log replies
  longer_script more log replies h = record {
    each = λ before e after cut. may_more steps more contexts before e.op e.call (h.each before e after cut);
    replied = replies_longer log steps more replies (on steps more) h.replied;
  }

-- What it is that nothing has the names of a line, and that it is so of the line that comes next, in a licensed log and a state
-- that fits it.
use Rattle.wasi_walks.proofs.Words.{Accepting, Accepts, BeganBy, Call, Created, Entry, Handed, HandedNone, HandleKind, Has, IpSocketAddress}
use Rattle.wasi_walks.proofs.Words.{IsLicensed, IsMaker, IsMarkOf, List, Listening, Machine, MarksNoSocket, MayAsk, OpId, Option, Reply}
use Rattle.wasi_walks.proofs.Words.{SocketAddressFamily, Some, GuestCall, Step, Told, WasiSocketsCtx, [], ap, arith, entry, inl, inr, length}
use Rattle.wasi_walks.proofs.Words.{marked_by, slice_get, step_at, subst, suc, sym, zero, ℕ, ◌++◌, ◌+◌, ◌<◌, ◌∙◌, ◌∷◌, ◌≡◌, ◌≤◌}
use Rattle.wasi_walks.proofs.Lists.{Cut, cut_of, has_front, has_split}
use Rattle.wasi_walks.proofs.licence.State.{name_in, accept_name, AcceptingIsFine, ListeningIsFine, StateIsFine}
use Rattle.wasi_walks.proofs.licence.Frames.{Spared, Free}
use Rattle.wasi_walks.specs.Licence.{IsTcpName, UdpCreated}
use Rattle.wasi_world.specs.declared.call.HandleKind.TheVariants as name
use Rattle.wasi_records.specs.declared.records.Record.{Record}
use Rattle.wasi_steps.specs.declared.guest_call.TcpCall.{TcpCall}
use Rattle.wasi_steps.specs.declared.guest_call.UdpCall.{UdpCall}
use Rattle.wasi_steps.specs.declared.guest_call.NameCall.{NameCall}
use Rattle.wasi_steps.specs.declared.guest_call.StreamCall.{StreamCall}
use Rattle.wasi_steps.specs.declared.guest_call.PipeCall.{PipeCall}
use Rattle.wasi_steps.specs.declared.guest_call.PollableCall.{PollableCall}
use Rattle.wasi_steps.specs.declared.guest_call.P3TcpCall.{P3TcpCall}
use Rattle.wasi_steps.specs.declared.guest_call.P3UdpCall.{P3UdpCall}

-- no mark is by this operation
abbrev pub NoMadeBy : List Entry → OpId → Type 0
NoMadeBy es op = (handle : ℕ) (kind : HandleKind) (above : Option ℕ) (side : Option OpId) (told : Told) → Has es (entry op (Call.Made handle kind above side) told) → ⊥

-- Nothing was asked by the names of this line: they handed nothing over, marked nothing, and are in no mark and in no record.
pub record IsNew (es : List Entry) (records : List Record) (line : ℕ) : Type 0 where
  pub handed : (x : OpId) → x.step ≡ line → HandedNone es x
  pub marked : (x : OpId) → x.step ≡ line → MarksNoSocket es x
  pub made : (x : OpId) → x.step ≡ line → NoMadeBy es x
  pub free : (x : OpId) → x.step ≡ line → Free records x

-- what is asked by a name that no record has touches no accept
pub spared_as : (records : List Record) (op x : OpId) (c : Call) → op ≡ x → marked_by c ≡ 0 → Free records x → Spared records op c
spared_as records op x (Call.Made handle kind parent sock) e z f place r y g n t = absurd (omega arith)
spared_as records op x (Call.Accept s) e z f place r y g n t = f place r g (subst (λ (k : OpId). accept_name r.listening ≡ Some k) (sym t ∙ e) n)
spared_as records op x (Call.Hand s p) e z f place r y g n t = f place r g (subst (λ (k : OpId). accept_name r.listening ≡ Some k) (sym t ∙ e) n)
spared_as records op x _ e z f place r y g n t = t

pub made_more : (es : List Entry) (op own : OpId) (c : Call) (t : Told) → marked_by c ≡ 0 → NoMadeBy es own → NoMadeBy (es ++ entry op c t ∷ []) own
made_more es op own c t z h handle kind above side told i = elim (has_split es (entry op c t) (entry own (Call.Made handle kind above side) told) i) [
  | inl j ↦ h handle kind above side told j
  | inr e ↦ (let p = ap (λ (x : Entry). marked_by x.call) e in absurd (omega arith))
]

-- a place of a list is below its length
get_below : {A : Type 0} (xs : List A) (n : ℕ) (x : A) → slice_get xs n ≡ Some x → n < length xs
get_below [] n x e = absurd (cc)
get_below (y ∷ xs) zero x e = omega arith
get_below (y ∷ xs) (suc n) x e = let k = get_below xs n x e in omega arith

step_below : (steps : List Step) (n : ℕ) (s : Step) → step_at steps n ≡ Some s → n ≤ length steps
step_below steps zero s e = omega arith
step_below steps (suc n) s e = let k = get_below steps n s e in omega arith

module _ (contexts : List WasiSocketsCtx) (steps : List Step) where
  began_below : (op : OpId) (P : Step → Type 0) → BeganBy steps op P → op.step ≤ length steps
  began_below op P h = step_below steps op.step h.origin h.at

  module _ (log : List Entry) {replies : List Reply} (h : IsLicensed contexts steps log replies) where
    may_at : (e : Entry) (c : Cut log e) → MayAsk contexts steps c.front e.op e.call
    may_at e c = h.each c.front e c.back c.is

    -- in the prefix of the log that ends there
    front_in : (c d : Entry) (k : Cut log c) → Has k.front d → Has log d
    front_in c d k i = subst (λ (es : List Entry). Has es d) (sym k.is) (has_front k.front (c ∷ k.back) d i)

    created_below : (op : OpId) (ctx : ℕ) (family : SocketAddressFamily) (t : Told) → Has log (entry op (Call.TcpCreate ctx family) t) → op.step ≤ length steps
    created_below op ctx family t i = began_below op _ (may_at _ (cut_of log _ i))

    udp_created_below : (op : OpId) (ctx : ℕ) (family : SocketAddressFamily) (t : Told) → Has log (entry op (Call.UdpCreate ctx family) t) → op.step ≤ length steps
    udp_created_below op ctx family t i = began_below op _ (may_at _ (cut_of log _ i))

    -- what was handed over on its own network socket was made before
    own_below : (op : OpId) (ctx : ℕ) (family : SocketAddressFamily) (c : Entry) (k : Cut log c) → ((l : OpId) (p : IpSocketAddress) (t : Told) → Has k.front (entry op (Call.Hand l p) t) → ⊥) → IsMaker k.front ctx family op → op.step ≤ length steps
    own_below op ctx family c k n (Created s t i) = created_below op ctx family t (front_in c _ k i)
    own_below op ctx family c k n (UdpCreated s t i) = udp_created_below op ctx family t (front_in c _ k i)
    own_below op ctx family c k n (Handed s l p t i m) = absurd (n l p t i)

    handed_below : (op l : OpId) (p : IpSocketAddress) (t : Told) → Has log (entry op (Call.Hand l p) t) → op.step ≤ length steps
    handed_below op l p t i =
        let c = cut_of log (entry op (Call.Hand l p) t) i in
        let may = may_at _ c in
        elim may.0 [
          | inl b ↦ began_below op _ b
          | inr e ↦ own_below op may.1.yes.ctx may.1.yes.family (entry op (Call.Hand l p) t) c may.2 (subst (IsMaker c.front may.1.yes.ctx may.1.yes.family) (sym e) may.1.yes.maker)
        ]

    made_below : (op : OpId) (handle : ℕ) (kind : HandleKind) (parent : Option ℕ) (sock : Option OpId) (t : Told) → Has log (entry op (Call.Made handle kind parent sock) t) → op.step ≤ length steps
    made_below op handle kind parent sock t i = began_below op _ (may_at _ (cut_of log _ i)).1

    -- the network socket in a socket's mark is of its own line, or was handed over
    no_tcp : (its other : HandleKind) → IsTcpName its → its ≡ other → (other ≡ name.Tcp2 → ⊥) → (other ≡ name.Tcp3 → ⊥) → ⊥
    no_tcp its other (inl is) e two three = two (sym e ∙ is)
    no_tcp its other (inr is) e two three = three (sym e ∙ is)

    marked_below : (its : HandleKind) → IsTcpName its → (op : OpId) (parent : Option ℕ) (x : OpId) (c : Entry) (k : Cut log c) (s : Step) → op.step ≤ length steps → IsMarkOf k.front op its parent (Some x) s → x.step ≤ length steps
    marked_below its is op parent x c k (Step.Call ctx (GuestCall.Names NameCall.Network)) b m = absurd (no_tcp its _ is m.0 (λ e. cc) (λ e. cc))
    marked_below its is op parent x c k (Step.Call ctx (GuestCall.Tcp (TcpCall.Create family))) b m = let e : x ≡ op = (let q = m.2 in cc) in subst (λ (o : OpId). o.step ≤ length steps) (sym e) b
    marked_below its is op parent x c k (Step.Call ctx (GuestCall.P3Tcp (P3TcpCall.Create family))) b m = let e : x ≡ op = (let q = m.2 in cc) in subst (λ (o : OpId). o.step ≤ length steps) (sym e) b
    marked_below its is op parent x c k (Step.Call ctx (GuestCall.Udp (UdpCall.Create family))) b m = absurd (no_tcp its _ is m.0 (λ e. cc) (λ e. cc))
    marked_below its is op parent x c k (Step.Call ctx (GuestCall.P3Udp (P3UdpCall.Create family))) b m = absurd (no_tcp its _ is m.0 (λ e. cc) (λ e. cc))
    marked_below its is op parent x c k (Step.Call ctx (GuestCall.Tcp (TcpCall.Accept socket))) b (inl m) =
        let e : m.accept ≡ x = (let q = m.side in cc) in
        subst (λ (o : OpId). o.step ≤ length steps) e (handed_below m.accept m.on m.peer m.told (front_in c _ k m.handed))
    marked_below its is op parent x c k (Step.Call ctx (GuestCall.Tcp (TcpCall.Accept socket))) b (inr m) = absurd (elim m.stream [ inl e ↦ no_tcp its _ is e (λ q. cc) (λ q. cc) | inr e ↦ no_tcp its _ is e (λ q. cc) (λ q. cc) ])
    marked_below its is op parent x c k (Step.Call ctx (GuestCall.P3Tcp (P3TcpCall.Listen socket))) b m = absurd (no_tcp its _ is m.0 (λ e. cc) (λ e. cc))
    marked_below its is op parent x c k (Step.Call ctx (GuestCall.P3Tcp (P3TcpCall.Accept listener remaining))) b (inl m) =
        let e : m.accept ≡ x = (let q = m.side in cc) in
        subst (λ (o : OpId). o.step ≤ length steps) e (handed_below m.accept m.on m.peer m.told (front_in c _ k m.handed))
    marked_below its is op parent x c k (Step.Call ctx (GuestCall.P3Tcp (P3TcpCall.Accept listener remaining))) b (inr m) = absurd (let q = m.2 in cc)
    marked_below its is op parent x c k (Step.Call ctx (GuestCall.Tcp (TcpCall.FinishConnect socket))) b m = absurd (elim m.0 [ inl e ↦ no_tcp its _ is e (λ q. cc) (λ q. cc) | inr e ↦ no_tcp its _ is e (λ q. cc) (λ q. cc) ])
    marked_below its is op parent x c k (Step.Call ctx (GuestCall.Pipe (PipeCall.In bytes))) b m = absurd (no_tcp its _ is m.0 (λ e. cc) (λ e. cc))
    marked_below its is op parent x c k (Step.Call ctx (GuestCall.Pipe (PipeCall.Out capacity))) b m = absurd (no_tcp its _ is m.0 (λ e. cc) (λ e. cc))
    marked_below its is op parent x c k (Step.Call ctx (GuestCall.Pipe PipeCall.Sink)) b m = absurd (no_tcp its _ is m.0 (λ e. cc) (λ e. cc))
    marked_below its is op parent x c k (Step.Call ctx (GuestCall.Pipe PipeCall.ClosedIn)) b m = absurd (no_tcp its _ is m.0 (λ e. cc) (λ e. cc))
    marked_below its is op parent x c k (Step.Call ctx (GuestCall.Pipe PipeCall.ClosedOut)) b m = absurd (no_tcp its _ is m.0 (λ e. cc) (λ e. cc))
    marked_below its is op parent x c k (Step.Call ctx (GuestCall.Stream (StreamCall.Read input len))) b m = absurd (no_tcp its _ is m.0 (λ e. cc) (λ e. cc))
    marked_below its is op parent x c k (Step.Call ctx (GuestCall.Stream (StreamCall.Skip input len))) b m = absurd (no_tcp its _ is m.0 (λ e. cc) (λ e. cc))
    marked_below its is op parent x c k (Step.Call ctx (GuestCall.Stream (StreamCall.CheckWrite output))) b m = absurd (no_tcp its _ is m.0 (λ e. cc) (λ e. cc))
    marked_below its is op parent x c k (Step.Call ctx (GuestCall.Stream (StreamCall.Write output bytes))) b m = absurd (no_tcp its _ is m.0 (λ e. cc) (λ e. cc))
    marked_below its is op parent x c k (Step.Call ctx (GuestCall.Stream (StreamCall.WriteZeroes output len))) b m = absurd (no_tcp its _ is m.0 (λ e. cc) (λ e. cc))
    marked_below its is op parent x c k (Step.Call ctx (GuestCall.Stream (StreamCall.Flush output))) b m = absurd (no_tcp its _ is m.0 (λ e. cc) (λ e. cc))
    marked_below its is op parent x c k (Step.Call ctx (GuestCall.Stream (StreamCall.BlockingRead input len))) b m = absurd (no_tcp its _ is m.0 (λ e. cc) (λ e. cc))
    marked_below its is op parent x c k (Step.Call ctx (GuestCall.Stream (StreamCall.BlockingSkip input len))) b m = absurd (no_tcp its _ is m.0 (λ e. cc) (λ e. cc))
    marked_below its is op parent x c k (Step.Call ctx (GuestCall.Stream (StreamCall.BlockingWrite output bytes))) b m = absurd (no_tcp its _ is m.0 (λ e. cc) (λ e. cc))
    marked_below its is op parent x c k (Step.Call ctx (GuestCall.Stream (StreamCall.BlockingZeroes output len))) b m = absurd (no_tcp its _ is m.0 (λ e. cc) (λ e. cc))
    marked_below its is op parent x c k (Step.Call ctx (GuestCall.Stream (StreamCall.BlockingFlush output))) b m = absurd (no_tcp its _ is m.0 (λ e. cc) (λ e. cc))
    marked_below its is op parent x c k (Step.Call ctx (GuestCall.Stream (StreamCall.Splice output input len))) b m = absurd (elim m [ inl e ↦ no_tcp its _ is e.0 (λ q. cc) (λ q. cc) | inr e ↦ no_tcp its _ is e.0 (λ q. cc) (λ q. cc) ])
    marked_below its is op parent x c k (Step.Call ctx (GuestCall.Stream (StreamCall.BlockingSplice output input len))) b m = absurd (elim m [ inl e ↦ no_tcp its _ is e.0 (λ q. cc) (λ q. cc) | inr e ↦ no_tcp its _ is e.0 (λ q. cc) (λ q. cc) ])
    marked_below its is op parent x c k (Step.Call ctx (GuestCall.Names (NameCall.Resolve network host))) b m = absurd (no_tcp its _ is m.0 (λ e. cc) (λ e. cc))
    marked_below its is op parent x c k (Step.Call ctx (GuestCall.Pollable (PollableCall.Subscribe handle))) b m = absurd (no_tcp its _ is m.0 (λ e. cc) (λ e. cc))
    marked_below its is op parent x c k (Step.Call ctx (GuestCall.P3Tcp (P3TcpCall.Send socket))) b m = absurd (elim m.0 [ inl e ↦ no_tcp its _ is e (λ q. cc) (λ q. cc) | inr e ↦ no_tcp its _ is e (λ q. cc) (λ q. cc) ])
    marked_below its is op parent x c k (Step.Call ctx (GuestCall.P3Tcp (P3TcpCall.Receive socket))) b m = absurd (elim m.0 [ inl e ↦ no_tcp its _ is e (λ q. cc) (λ q. cc) | inr e ↦ no_tcp its _ is e (λ q. cc) (λ q. cc) ])
    marked_below its is op parent x c k (Step.Call ctx (GuestCall.Udp (UdpCall.Stream socket remote))) b m = absurd (elim m.0 [ inl e ↦ no_tcp its _ is e (λ q. cc) (λ q. cc) | inr e ↦ no_tcp its _ is e (λ q. cc) (λ q. cc) ])
    marked_below its is op parent x c k _ b m = absurd m

    socket_below : (op : OpId) (handle : ℕ) (its : HandleKind) → IsTcpName its → (parent : Option ℕ) (x : OpId) (t : Told) → Has log (entry op (Call.Made handle its parent (Some x)) t) → x.step ≤ length steps
    socket_below op handle its is parent x t i =
        let c = cut_of log (entry op (Call.Made handle its parent (Some x)) t) i in
        let may = may_at _ c in
        marked_below its is op parent x (entry op (Call.Made handle its parent (Some x)) t) c may.1.origin (made_below op handle its parent (Some x) t i) may.1.holds

    -- an accept in a record has the name of an earlier line
    name_below : (side : OpId) (maker : ℕ) (a : Accepting) (x : OpId) → AcceptingIsFine steps log side maker a → name_in a ≡ Some x → x.step ≤ length steps
    name_below side maker (Accepting.Asking op) x f e = let p : op.who.id ≡ x = cc in subst (λ (o : OpId). o.step ≤ length steps) p (began_below op.who.id _ f.named)
    name_below side maker (Accepting.Arrived new peer) x f e = let p : new ≡ x = cc in subst (λ (o : OpId). o.step ≤ length steps) p (handed_below new side peer f.told f.hand)
    name_below side maker _ x f e = absurd (cc)

    listening_below : (made : Option OpId) (l : Listening) (x : OpId) → ListeningIsFine steps log made l → accept_name l ≡ Some x → x.step ≤ length steps
    listening_below made (Accepts l) x f e = name_below l.side l.maker l.accept x f.accept e
    listening_below made _ x f e = absurd (cc)

    pub next_is_new : (m : Machine) → StateIsFine contexts steps log m → IsNew log m.store.records (length steps + 1)
    next_is_new m f = record {
      handed = λ x e l p t i. let k = handed_below x l p t i in omega arith;
      marked = λ x e o handle its parent t is i. let k = socket_below o handle its is parent x t i in omega arith;
      made = λ x e handle kind above side t i. let k = made_below x handle kind above side t i in omega arith;
      free = λ x e place r g n. let k = listening_below r.side r.listening x (f.records place r g).listening n in omega arith;
    }

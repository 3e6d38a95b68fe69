-- What holds of a line: the state fits the log, and so does what the line works on.
use Rattle.wasi_walks.proofs.walks.Moves.{Awaited, Emptied, MakesUdpFor, Numbered}
use Rattle.wasi_walks.proofs.Words.{BeganBy, Begins, Call, Entry, HandedNone, Has, IpSocketAddress, IsMaker, IsSide, Kind, List, MarksNoSocket, None, Not}
use Rattle.wasi_walks.proofs.Words.{OpId, Operation, Option, SocketAddressFamily, Some, GuestCall, Step, TcpRecord, Told, WasiSocketsCtx, ap, entry, inl, inr, length}
use Rattle.wasi_walks.proofs.Words.{own_of, refl, side_in, subst, sym, with_socket, ℕ, ⊤, ◌∙◌, ◌≡◌, ◌⊎◌}
use Rattle.wasi_walks.proofs.licence.ListenAsks.{ListenIsFine}
use Rattle.wasi_walks.proofs.licence.Fresh.{NoMadeBy}
use Rattle.wasi_walks.proofs.walks.Moves.{Faulted, Freed, Interface, P2, P3, ToListen, Own, Used, Unused, ToResult, ToSend, ToStream, Calls, Past, Here, put, put_udp, Found, FoundUdp, record_of, udp_record_of, Plain, Made, Unmade, Joined, Marked, part_of}
use Rattle.wasi_walks.proofs.walks.Here.{IsToCome, Shrinks}
use Rattle.wasi_walks.specs.Licence.{MakesTcp}
use Rattle.wasi_walks.proofs.licence.State.{NamesIf, NamesRecord, NamesUdp, NamesUdpIf, HandleIsFine, Names, RecordIsFine, UdpIsFine, StateIsFine, IsHanded, MakesListener, MakesStreams, MakesCalls}
use Rattle.wasi_walks.proofs.licence.Frames.{KeepsListening, KeepsRecord, same_record}
use Rattle.wasi_walks.proofs.licence.States.{state_put, state_put_udp}
use Rattle.wasi_world.specs.declared.call.HandleKind.TheVariants as name
use Rattle.wasi_records.specs.Records.{tcp2_at, tcp2_pushed, udp2_at}
use Rattle.udp_records.specs.Udp.{udp_side}
use Rattle.wasi_records.specs.declared.records.Record.{Record}
use Rattle.udp_records.specs.declared.udp.UdpRecord.{UdpRecord}
use Rattle.wasi_walks.proofs.Places.{push_finds, put_found, put_was, tcp_sort, udp_sort}
use Rattle.wasi_steps.specs.declared.guest_call.TcpCall.{TcpCall}
use Rattle.wasi_steps.specs.declared.guest_call.P3TcpCall.{P3TcpCall}

pub names_record : (es : List Entry) (records : List Record) (handle place : ℕ) (k : Option Kind) → record_of k ≡ Some place → ((kind : Kind) → k ≡ Some kind → HandleIsFine es records handle kind) → NamesRecord es records handle place
names_record es records handle place None e h = absurd (cc)
names_record es records handle place (Some kind) e h = subst (NamesIf es records handle) e (h kind refl).0

pub names_udp : (es : List Entry) (records : List Record) (handle place : ℕ) (k : Option Kind) → udp_record_of k ≡ Some place → ((kind : Kind) → k ≡ Some kind → HandleIsFine es records handle kind) → NamesUdp es records handle place
names_udp es records handle place None e h = absurd (cc)
names_udp es records handle place (Some kind) e h = subst (NamesUdpIf es records handle) e (h kind refl).1

pub some_same : (a b : OpId) → Some b ≡ Some a → a ≡ b
some_same a b e = cc

pub keeps_plain : {goes begins : Type 0} (r now : TcpRecord) → Plain goes begins r now → KeepsRecord r now
keeps_plain r now p = record {
  keeps = record { maker = p.maker; family = p.family; side = λ side e. sym (ap side_in p.does) ∙ e; connected = λ c e. record { connection = c; state = p.does ∙ e; same = refl } };
  side = p.side;
  streams = p.streams;
  listening = p.listening;
  binds = p.binds;
}

pub seam : (its face : Interface) (xs : List Record) (now : TcpRecord) (p : ℕ) (q : TcpRecord) → Joined its (length xs) ≡ Joined face p → tcp2_at (tcp2_pushed xs now) p ≡ Some q → now ≡ q
seam its face xs now p q e d = let at : length xs ≡ p = cc in same_record now q (sym (push_finds tcp_sort xs now) ∙ (ap (tcp2_at (tcp2_pushed xs now)) at ∙ d))

pub fault_seam : (xs : List Record) (now : TcpRecord) (p : ℕ) (q : TcpRecord) → Faulted (length xs) ≡ Faulted p → tcp2_at (tcp2_pushed xs now) p ≡ Some q → now ≡ q
fault_seam xs now p q e d = let at : length xs ≡ p = cc in same_record now q (sym (push_finds tcp_sort xs now) ∙ (ap (tcp2_at (tcp2_pushed xs now)) at ∙ d))

pub same_face : (a b : Interface) (n p : ℕ) → Joined a n ≡ Joined b p → a ≡ b
same_face a b n p e = cc

abbrev pub SamePair : ℕ → ℕ → ℕ → ℕ → Type 0
SamePair a b c d = let x : Option (ℕ × ℕ) = Some (a, b) in let y : Option (ℕ × ℕ) = Some (c, d) in x ≡ y

pair_of : (x y : ℕ × ℕ) → Some x ≡ Some y → x ≡ y
pair_of x y e = cc

pub pair_first : (a b c d : ℕ) → SamePair a b c d → a ≡ c
pair_first a b c d e = ap (λ (p : ℕ × ℕ). p.0) (pair_of (a, b) (c, d) e)

pub pair_second : (a b c d : ℕ) → SamePair a b c d → b ≡ d
pair_second a b c d e = ap (λ (p : ℕ × ℕ). p.1) (pair_of (a, b) (c, d) e)

pub no_listen : (op : Operation) → Not ≡ Begins op → ⊥
no_listen op e = absurd (cc)

pub local_side : (a b : OpId) → Call.Local a ≡ Call.Local b → a ≡ b
local_side a b e = cc

pub part_names : {steps : List Step} (es : List Entry) (line part : ℕ) (side : OpId) → Names steps es (own_of line) side → Names steps es (part_of line part) side
part_names es line part side n = record { origin = n.origin; at = n.at; holds = n.holds }

-- A listen in progress, of this record: its network socket is one of a `tcp-create`.
pub record ListenGoesOn (steps : List Step) (es : List Entry) (r : TcpRecord) (op : Operation) : Type 0 where
  pub fine : ListenIsFine steps es op
  pub asks : op.who.context ≡ r.inner.maker
  pub made : IsMaker es r.inner.maker r.inner.family op.who.side
  pub tcp : BeganBy steps op.who.side MakesTcp

-- the line has made no mark of a socket
abbrev pub NotMarked : Made → Type 0
NotMarked Unmade = ⊤
NotMarked (Joined face place) = ⊤
NotMarked (Faulted place) = ⊤
NotMarked _ = ⊥

-- it is nothing of an accept
abbrev pub NoAccept : Made → Type 0
NoAccept (ToStream line handle place) = ⊤
NoAccept (ToSend line handle place) = ⊤
NoAccept (Calls kind line handles) = ⊤
NoAccept Past = ⊤
NoAccept (ToListen line marks place) = ⊤
NoAccept (Emptied kind) = ⊤
NoAccept (Freed place) = ⊤
NoAccept (Awaited face side place) = ⊤
NoAccept (Numbered place next) = ⊤
NoAccept (ToResult slot) = ⊤
NoAccept _ = ⊥

no_mark : (made : Made) → NoAccept made → NotMarked made → ⊥
no_mark Unmade q u = q
no_mark (Joined face place) q u = q
no_mark (Faulted place) q u = q
no_mark _ q u = u

-- where streams are made, or called, or a socket listens for a line, its step says so; and where a create is polled for an interface, the step that made
-- its network socket is a create of it
abbrev pub MakingStands : List Step → Made → Type 0
MakingStands steps (ToStream line handle place) = MakesStreams steps line handle
MakingStands steps (ToSend line handle place) = MakesStreams steps line handle
MakingStands steps (ToListen line marks place) = MakesListener steps line marks
MakingStands steps (Calls kind line handles) = MakesCalls steps kind line handles
MakingStands steps (Awaited face side place) = BeganBy steps side (MakesUdpFor face)
MakingStands steps _ = ⊤

-- a line's operation names a handle of the network socket that the record was made with
abbrev pub NamesMade : List Step → ℕ → List Entry → TcpRecord → Type 0
NamesMade steps n es r = (side : OpId) → r.side ≡ Some side → Names steps es (own_of n) side

-- the line's operation names a handle of the network socket of the record that it works on
abbrev pub NamesTcpHere : List Step → List Entry → Here → Type 0
NamesTcpHere steps es h = (place n : ℕ) (r : TcpRecord) → h.at ≡ Some (place, n) → Found h place r → NamesMade steps n es r

abbrev pub NamesUdpHere : List Step → List Entry → Here → Type 0
NamesUdpHere steps es h = (place n : ℕ) (u : UdpRecord) → h.at ≡ Some (place, n) → FoundUdp h place u → Names steps es (own_of n) (udp_side u)

-- a step that accepts, and one of the interface on this listener
abbrev pub IsAccept : Step → Type 0
IsAccept (Step.Call c (GuestCall.Tcp (TcpCall.Accept listener))) = ⊤
IsAccept (Step.Call c (GuestCall.P3Tcp (P3TcpCall.Accept listener remaining))) = ⊤
IsAccept _ = ⊥

abbrev pub AcceptsFor : Interface → ℕ → Step → Type 0
AcceptsFor P2 listener (Step.Call c (GuestCall.Tcp (TcpCall.Accept s))) = s ≡ listener
AcceptsFor P3 listener (Step.Call c (GuestCall.P3Tcp (P3TcpCall.Accept s remaining))) = s ≡ listener
AcceptsFor face listener _ = ⊥

-- A record was taken from the listener that the line names, and has no mark yet.
pub record JoinedIsFine (origin : Step) (es : List Entry) (h : Here) (face : Interface) (place : ℕ) : Type 0 where
  pub new : OpId
  pub on : OpId
  pub peer : IpSocketAddress
  pub listener : ℕ
  pub by : AcceptsFor face listener origin
  pub side : (r : TcpRecord) → Found h place r → r.side ≡ Some new
  pub of_listener : IsSide es listener on
  pub handed : IsHanded es new on peer
  pub fresh : MarksNoSocket es new

-- The handle was marked by the line, with this network socket.
pub record MadeSocket (line : ℕ) (es : List Entry) (handle : ℕ) (sock : Option OpId) : Type 0 where
  pub above : Option ℕ
  pub told : Told
  pub mark : Has es (entry (own_of line) (Call.Made handle name.Tcp2 above sock) told)

-- The state fits the log, and so do the record that the line works on, each listen in progress, and what an accept has made.
pub record Licensed (contexts : List WasiSocketsCtx) (steps : List Step) (line : ℕ) (origin : Step) (es : List Entry) (h : Here) : Type 0 where
  pub fine : StateIsFine contexts steps es h.machine
  pub names : NamesTcpHere steps es h
  pub udp_names : NamesUdpHere steps es h
  pub listens : (place : ℕ) (r : TcpRecord) (op : Operation) → Found h place r → r.listening ≡ Begins op → ListenGoesOn steps es r op
  pub new : (x : OpId) → IsToCome line h.own x → HandedNone es x × MarksNoSocket es x
  pub unmade : (h.own ≡ Unused) ⊎ NotMarked h.made → IsAccept origin → NoMadeBy es (own_of line)
  pub joined : (face : Interface) (place : ℕ) → h.made ≡ Joined face place → JoinedIsFine origin es h face place
  pub faulted : (place : ℕ) → h.made ≡ Faulted place → (r : TcpRecord) → Found h place r → r.side ≡ None
  pub marked : (handle place : ℕ) → h.made ≡ Marked handle place → (r : TcpRecord) → Found h place r → MadeSocket line es handle r.side
  pub making : MakingStands steps h.made

-- == a record changes
-- == moves
-- of a record at a place, by its network socket alone
by_side : (P : Option OpId → Type 0) (h : Here) (place : ℕ) (r now : TcpRecord) → Found h place r → now.side ≡ r.side → (k : ℕ) → ((q : TcpRecord) → Found h k q → P q.side) → (q : TcpRecord) → Found (put h place now) k q → P q.side
by_side P h place r now g s k f q e = elim (put_found tcp_sort h.machine.store.records place now k q e) [
  | inl p ↦ subst P (sym s ∙ ap (λ (x : TcpRecord). x.side) p.1) (f r (ap (tcp2_at h.machine.store.records) p.0 ∙ g))
  | inr p ↦ f q p
]

-- a listen of it is the one that it was
abbrev pub KeepsListen : TcpRecord → TcpRecord → Type 0
KeepsListen r now = (op : Operation) → now.listening ≡ Begins op → (r.listening ≡ Begins op) × ((now.inner.maker ≡ r.inner.maker) × (now.inner.family ≡ r.inner.family))

module _ {steps : List Step} where
  goes_kept : (es : List Entry) (r now : TcpRecord) (op : Operation) → now.inner.maker ≡ r.inner.maker → now.inner.family ≡ r.inner.family → ListenGoesOn steps es r op → ListenGoesOn steps es now op
  goes_kept es r now op m f g = record { fine = g.fine; asks = g.asks ∙ sym m; made = subst (λ (n : ℕ). IsMaker es n now.inner.family op.who.side) (sym m) (subst (λ (x : SocketAddressFamily). IsMaker es r.inner.maker x op.who.side) (sym f) g.made); tcp = g.tcp }

module _ {contexts : List WasiSocketsCtx} {steps : List Step} {line : ℕ} {origin : Step} where
  -- a record changes
  module _ (es : List Entry) (h : Here) (place : ℕ) (r now : TcpRecord) (g : Found h place r) (s : now.side ≡ r.side) (i : Licensed contexts steps line origin es h) where
    joined_put : (face : Interface) (p : ℕ) → JoinedIsFine origin es h face p → JoinedIsFine origin es (put h place now) face p
    joined_put face p j = record { new = j.new; on = j.on; peer = j.peer; listener = j.listener; by = j.by; side = by_side (λ (o : Option OpId). o ≡ Some j.new) h place r now g s p j.side; of_listener = j.of_listener; handed = j.handed; fresh = j.fresh }

    pub put_with : StateIsFine contexts steps es (record h.machine { store = with_socket h.machine.store place now }) → ((op : Operation) → now.listening ≡ Begins op → ListenGoesOn steps es now op) → Licensed contexts steps line origin es (put h place now)
    put_with f l = record {
      fine = f;
      names = λ k n q a e. by_side (λ (o : Option OpId). (side : OpId) → o ≡ Some side → Names steps es (own_of n) side) h place r now g s k (λ x d. i.names k n x a d) q e;
      udp_names = λ k n u a e. i.udp_names k n u a (put_was tcp_sort udp_sort (λ t. refl) h.machine.store.records place now k u e);
      listens = λ k q op e b. elim (put_found tcp_sort h.machine.store.records place now k q e) [ inl p ↦ subst (λ (x : TcpRecord). ListenGoesOn steps es x op) p.1 (l op (ap (λ (x : TcpRecord). x.listening) p.1 ∙ b)) | inr p ↦ i.listens k q op p b ];
      new = i.new;
      unmade = i.unmade;
      joined = λ face p e. joined_put face p (i.joined face p e);
      faulted = λ p e q d. by_side (λ (o : Option OpId). o ≡ None) h place r now g s p (λ x u. i.faulted p e x u) q d;
      marked = λ handle p e q d. by_side (λ (o : Option OpId). MadeSocket line es handle o) h place r now g s p (λ x u. i.marked handle p e x u) q d;
      making = i.making;
    }

  pub put_fine : (es : List Entry) (h : Here) (place : ℕ) (r now : TcpRecord) → Found h place r → now.side ≡ r.side → KeepsListening r.listening now.listening → KeepsListen r now → RecordIsFine steps es now → Licensed contexts steps line origin es h → Licensed contexts steps line origin es (put h place now)
  put_fine es h place r now g s l k f i = put_with es h place r now g s i (state_put contexts steps es h.machine place r now g s l f i.fine) (λ op e. let q = k op e in goes_kept es r now op q.1.0 q.1.1 (i.listens place r op g q.0))

  -- a UDP socket changes
  pub put_udp_fine : (es : List Entry) (h : Here) (place : ℕ) (u now : UdpRecord) → FoundUdp h place u → udp_side now ≡ udp_side u → UdpIsFine steps es now → Licensed contexts steps line origin es h → Licensed contexts steps line origin es (put_udp h place now)
  put_udp_fine es h place u now g s f i =
      let old : (k : ℕ) (r : TcpRecord) → Found (put_udp h place now) k r → Found h k r = λ k r e. put_was udp_sort tcp_sort (λ t. refl) h.machine.store.records place now k r e in
      record {
        fine = state_put_udp contexts steps es h.machine place u now g s f i.fine;
        names = λ k n r a e. i.names k n r a (old k r e);
        udp_names = λ k n v a e. elim (put_found udp_sort h.machine.store.records place now k v e) [
          | inl p ↦ subst (Names steps es (own_of n)) (sym s ∙ ap udp_side p.1) (i.udp_names k n u a (ap (udp2_at h.machine.store.records) p.0 ∙ g))
          | inr p ↦ i.udp_names k n v a p
        ];
        listens = λ k r op e b. i.listens k r op (old k r e) b;
        new = i.new;
        unmade = i.unmade;
        joined = λ face p e. (let j = i.joined face p e in record { new = j.new; on = j.on; peer = j.peer; listener = j.listener; by = j.by; side = λ r d. j.side r (old p r d); of_listener = j.of_listener; handed = j.handed; fresh = j.fresh });
        faulted = λ p e r d. i.faulted p e r (old p r d);
        marked = λ handle p e r d. i.marked handle p e r (old p r d);
        making = i.making;
      }

  -- its own operation began something, or its names are counted
  pub owned : (es : List Entry) (h : Here) (own : Own) → (own ≡ Unused → ⊥) → Shrinks line h.own own → Licensed contexts steps line origin es h → Licensed contexts steps line origin es (record h { own = own })
  owned es h own used less i = record {
    fine = i.fine;
    names = i.names;
    udp_names = i.udp_names;
    listens = i.listens;
    new = λ x t. i.new x (less x t);
    unmade = λ e is. i.unmade (elim e [ inl u ↦ absurd (used u) | inr u ↦ inr u ]) is;
    joined = λ face p e. (let j = i.joined face p e in record { new = j.new; on = j.on; peer = j.peer; listener = j.listener; by = j.by; side = j.side; of_listener = j.of_listener; handed = j.handed; fresh = j.fresh });
    faulted = i.faulted;
    marked = i.marked;
    making = i.making;
  }

  pub spent : (es : List Entry) (h : Here) → Licensed contexts steps line origin es h → Licensed contexts steps line origin es (record h { own = Used })
  spent es h i = owned es h Used (λ e. absurd (cc)) (λ x t. absurd t) i

  -- the line makes, or calls, something else
  pub remade : (es : List Entry) (h : Here) (made : Made) → NoAccept made → MakingStands steps made → Licensed contexts steps line origin es h → Licensed contexts steps line origin es (record h { made = made })
  remade es h made q k i = record {
    fine = i.fine;
    names = i.names;
    udp_names = i.udp_names;
    listens = i.listens;
    new = i.new;
    unmade = λ e is. i.unmade (elim e [ inl u ↦ inl u | inr u ↦ absurd (no_mark made q u) ]) is;
    joined = λ face p e. absurd (subst NoAccept e q);
    faulted = λ p e. absurd (subst NoAccept e q);
    marked = λ a p e. absurd (subst NoAccept e q);
    making = k;
  }

  -- what it works on is other
  pub elsewhere : (es : List Entry) (h now : Here) → now.machine.store.records ≡ h.machine.store.records → now.own ≡ h.own → now.made ≡ h.made → Licensed contexts steps line origin es h → StateIsFine contexts steps es now.machine → NamesTcpHere steps es now → NamesUdpHere steps es now → Licensed contexts steps line origin es now
  elsewhere es h now s o m i f n u = record {
    fine = f;
    names = n;
    udp_names = u;
    listens = λ k r op g e. i.listens k r op (there h now s k r g) e;
    new = λ x t. i.new x (subst (λ (own : Own). IsToCome line own x) o t);
    unmade = λ e is. i.unmade (elim e [ inl x ↦ inl (sym o ∙ x) | inr x ↦ inr (subst NotMarked m x) ]) is;
    joined = λ face p e. (let j = i.joined face p (sym m ∙ e) in record { new = j.new; on = j.on; peer = j.peer; listener = j.listener; by = j.by; side = λ r g. j.side r (there h now s p r g); of_listener = j.of_listener; handed = j.handed; fresh = j.fresh });
    faulted = λ p e r g. i.faulted p (sym m ∙ e) r (there h now s p r g);
    marked = λ handle p e r g. i.marked handle p (sym m ∙ e) r (there h now s p r g);
    making = subst (MakingStands steps) (sym m) i.making;
  }
    where
      there : (h now : Here) → now.machine.store.records ≡ h.machine.store.records → (k : ℕ) (r : TcpRecord) → Found now k r → Found h k r
      there h now s k r g = subst (λ (xs : List Record). tcp2_at xs k ≡ Some r) s g

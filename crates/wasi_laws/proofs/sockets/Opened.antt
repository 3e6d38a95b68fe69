-- A log that grows, and what holds of it between the asks of a line: each network socket that is alive is open, and what is
-- closed is older.
use Rattle.wasi_world.specs.declared.call.Call.TheVariants as call
use Rattle.wasi_tcp.specs.declared.listener.Accepting.TheVariants as accepting
use Rattle.wasi_walks.proofs.walks.Here.{IsOlder}
use Rattle.wasi_laws.proofs.Words.{Accepts, Call, Claims, Created, Entry, Found, HandedOver, Here, IpSocketAddress, IsClosed, IsMade, IsOpen, List, Listener, Named, None, OpId, Some, TcpRecord, Told, [], accept_name, ap, entry, has_front, has_split, inl, inr, name_in, no_some, put, refl, subst, sym, ℕ, ◌++◌, ◌∙◌, ◌∷◌, ◌≡◌, ◌⊎◌, ⊤}
use Rattle.wasi_laws.proofs.shapes.Shape.{some_same, Lives, Follows, SocketsStay, UdpLives}
use Rattle.wasi_records.specs.Numbered.{record_gone}
use Rattle.wasi_records.specs.Records.{tcp2_at, tcp2_of, tcp2_put, tcp2_pushed, udp2_at, udp2_of, udp2_put, udp2_pushed}
use Rattle.wasi_walks.proofs.GoneLists.{was_there}
use Rattle.udp_records.specs.declared.udp.UdpRecord.{UdpRecord}
use Rattle.udp_records.specs.Udp.{udp_side}
use Rattle.wasi_laws.specs.Opened.{UdpCreated}
use Rattle.wasi_walks.proofs.walks.Moves.{put_udp, FoundUdp}
use Rattle.wasi_records.specs.declared.records.Record.{Record}
use Rattle.wasi_walks.proofs.Places.{push_found, push_new, push_was, put_finds, put_found, put_was, tcp_sort, udp_sort}

-- a close, of this socket
abbrev pub Closes : Call → OpId → Type 0
Closes (call.Close side) x = side ≡ x
Closes _ x = ⊥

-- The entries so far came after these ones, and of the sockets that they close more C holds.
pub record Grows (C : OpId → Type 0) (es fs : List Entry) : Type 0 where
  pub made : (x : OpId) → IsMade es x → IsMade fs x
  pub closed : (x : OpId) → IsClosed fs x → IsClosed es x ⊎ C x

-- nothing more was closed
abbrev pub NoneCloses : OpId → Type 0
NoneCloses x = ⊥

pub grows_none : (C : OpId → Type 0) (es : List Entry) → Grows C es es
grows_none C es = record { made = λ x m. m; closed = λ x c. inl c }

made_more : (es fs : List Entry) (x : OpId) → IsMade es x → IsMade (es ++ fs) x
made_more es fs x (Created ctx family h) = Created ctx family (has_front es fs _ h)
made_more es fs x (UdpCreated ctx family h) = UdpCreated ctx family (has_front es fs _ h)
made_more es fs x (HandedOver listener peer told h) = HandedOver listener peer told (has_front es fs _ h)

close_is : (a b : Entry) (x : OpId) → a ≡ b → Closes b.call x → Closes a.call x
close_is a b x e c = subst (λ (k : Call). Closes k x) (sym (ap (λ (y : Entry). y.call) e)) c

-- one more entry
pub grows_entry : (C : OpId → Type 0) (es fs : List Entry) (op : OpId) (c : Call) (t : Told) → ((x : OpId) → Closes c x → C x) → Grows C es fs → Grows C es (fs ++ entry op c t ∷ [])
grows_entry C es fs op c t k g = record {
  made = λ x m. made_more fs (entry op c t ∷ []) x (g.made x m);
  closed = λ x h. elim (has_split fs (entry op c t) (entry h.op (call.Close x) h.told) h.closed) [
    | inl j ↦ g.closed x (record { op = h.op; told = h.told; closed = j })
    | inr e ↦ inr (k x (close_is (entry op c t) (entry h.op (call.Close x) h.told) x e refl))
  ];
}

pub grows_weaker : (C D : OpId → Type 0) (es fs : List Entry) → ((x : OpId) → C x → D x) → Grows C es fs → Grows D es fs
grows_weaker C D es fs k g = record { made = g.made; closed = λ x c. elim (g.closed x c) [ inl a ↦ inl a | inr p ↦ inr (k x p) ] }

-- one that is open stays so, unless it is closed
pub open_more : (C : OpId → Type 0) (es fs : List Entry) (x : OpId) → Grows C es fs → (C x → ⊥) → IsOpen es x → IsOpen fs x
open_more C es fs x g n o = record { made = g.made x o.made; unclosed = λ c. elim (g.closed x c) [ inl a ↦ o.unclosed a | inr p ↦ n p ] }

-- one that isn't closed stays so, unless it is closed
pub unclosed_more : (C : OpId → Type 0) (es fs : List Entry) (x : OpId) → Grows C es fs → (C x → ⊥) → (IsClosed es x → ⊥) → IsClosed fs x → ⊥
unclosed_more C es fs x g n u c = elim (g.closed x c) [ inl a ↦ u a | inr p ↦ n p ]

-- Each network socket that is alive in it is open; the name of its accept isn't closed, and what arrived was made.
pub record RecordOpen (es : List Entry) (r : TcpRecord) : Type 0 where
  pub lives : (x : OpId) → Lives x r → IsOpen es x
  pub named : (x : OpId) → accept_name r.listening ≡ Some x → IsClosed es x → ⊥
  pub arrived : (l : Listener) (new : OpId) (peer : IpSocketAddress) → r.listening ≡ Accepts l → l.accept ≡ accepting.Arrived new peer → IsMade es new

pub name_of : (r : TcpRecord) (l : Listener) (new : OpId) (peer : IpSocketAddress) → r.listening ≡ Accepts l → l.accept ≡ accepting.Arrived new peer → accept_name r.listening ≡ Some new
name_of r l new peer e a = ap accept_name e ∙ ap name_in a

-- it changes: it listens as it did, or accepts nothing
pub changed : (es : List Entry) (r now : TcpRecord) → Follows r now → (now.listening ≡ r.listening) ⊎ (accept_name now.listening ≡ None) → RecordOpen es r → RecordOpen es now
changed es r now f (inl l) i = record { lives = λ x v. i.lives x (f.lives x v); named = λ x e. i.named x (ap accept_name (sym l) ∙ e); arrived = λ k new peer e a. i.arrived k new peer (sym l ∙ e) a }
changed es r now f (inr n) i = record { lives = λ x v. i.lives x (f.lives x v); named = λ x e. absurd (no_some x (sym n ∙ e)); arrived = λ k new peer e a. absurd (no_some new (sym n ∙ name_of now k new peer e a)) }

-- it has the network socket, or its accept has the name
abbrev pub HasIt : TcpRecord → OpId → Type 0
HasIt r x = Lives x r ⊎ (accept_name r.listening ≡ Some x)

-- the log grows, and closes nothing that the record has
record_more : (C : OpId → Type 0) (es fs : List Entry) (r : TcpRecord) → Grows C es fs → ((x : OpId) → HasIt r x → C x → ⊥) → RecordOpen es r → RecordOpen fs r
record_more C es fs r g n i = record {
  lives = λ x v. open_more C es fs x g (n x (inl v)) (i.lives x v);
  named = λ x e. unclosed_more C es fs x g (n x (inr e)) (i.named x e);
  arrived = λ l new peer e a. g.made new (i.arrived l new peer e a);
}

-- the network socket of a UDP socket is open, until it is closed
abbrev pub UdpOpen : List Entry → UdpRecord → Type 0
UdpOpen es (UdpRecord.Creating create) = IsOpen es create.operation.who.side
UdpOpen es (UdpRecord.Open o) = IsOpen es o.inner.side
UdpOpen es (UdpRecord.Closed side) = ⊤

-- so one that wasn't closed yet has it open
pub lives_open : (es : List Entry) (u : UdpRecord) → UdpLives u → UdpOpen es u → IsOpen es (udp_side u)
lives_open es (UdpRecord.Creating create) l o = o
lives_open es (UdpRecord.Open s) l o = o
lives_open es (UdpRecord.Closed side) l o = absurd l

udp_more : (C : OpId → Type 0) (es fs : List Entry) (u : UdpRecord) → Grows C es fs → (UdpLives u → C (udp_side u) → ⊥) → UdpOpen es u → UdpOpen fs u
udp_more C es fs (UdpRecord.Creating create) g n o = open_more C es fs _ g (n tt) o
udp_more C es fs (UdpRecord.Open s) g n o = open_more C es fs _ g (n tt) o
udp_more C es fs (UdpRecord.Closed side) g n o = tt

-- What is open, and only a name that was given is closed.
pub record Opened (given : OpId → Type 0) (es : List Entry) (rs : List Record) : Type 0 where
  pub records : (place : ℕ) (r : TcpRecord) → tcp2_at rs place ≡ Some r → RecordOpen es r
  pub udps : (place : ℕ) (u : UdpRecord) → udp2_at rs place ≡ Some u → UdpOpen es u
  pub older : (x : OpId) → IsClosed es x → given x

pub one_more : (es : List Entry) (op : OpId) (c : Call) (t : Told) → ((x : OpId) → Closes c x → ⊥) → Grows NoneCloses es (es ++ entry op c t ∷ [])
one_more es op c t n = grows_entry NoneCloses es es op c t n (grows_none NoneCloses es)

module _ {given : OpId → Type 0} {records : List Record} where
  -- asks that close nothing
  pub opened_more : (es fs : List Entry) → Grows NoneCloses es fs → Opened given es records → Opened given fs records
  opened_more es fs g i = record {
    records = λ place r e. record_more NoneCloses es fs r g (λ x u n. n) (i.records place r e);
    udps = λ place u e. udp_more NoneCloses es fs u g (λ l n. n) (i.udps place u e);
    older = λ x c. elim (g.closed x c) [ inl a ↦ i.older x a | inr n ↦ absurd n ];
  }

  -- a record changes, or there is one more
  pub put_open : (es : List Entry) (place : ℕ) (now : TcpRecord) → RecordOpen es now → Opened given es records → Opened given es (tcp2_put records place now)
  put_open es place now k i = record { records = λ n r e. elim (put_found tcp_sort records place now n r e) [ inl p ↦ subst (RecordOpen es) p.1 k | inr p ↦ i.records n r p ]; udps = λ n u e. i.udps n u (put_was tcp_sort udp_sort (λ t. refl) records place now n u e); older = i.older }

  pub push_open : (es : List Entry) (now : TcpRecord) → RecordOpen es now → Opened given es records → Opened given es (tcp2_pushed records now)
  push_open es now k i = record { records = λ n r e. elim (push_new tcp_sort records now n r e) [ inl p ↦ i.records n r p | inr p ↦ subst (RecordOpen es) p k ]; udps = λ n u e. i.udps n u (push_was tcp_sort udp_sort (λ t. refl) records now n u e); older = i.older }

  -- the same of a UDP socket
  pub put_udp_open : (es : List Entry) (place : ℕ) (now : UdpRecord) → UdpOpen es now → Opened given es records → Opened given es (udp2_put records place now)
  put_udp_open es place now k i = record { records = λ n r e. i.records n r (put_was udp_sort tcp_sort (λ t. refl) records place now n r e); udps = λ n u e. elim (put_found udp_sort records place now n u e) [ inl p ↦ subst (UdpOpen es) p.1 k | inr p ↦ i.udps n u p ]; older = i.older }

  pub push_udp_open : (es : List Entry) (now : UdpRecord) → UdpOpen es now → Opened given es records → Opened given es (udp2_pushed records now)
  push_udp_open es now k i = record { records = λ n r e. i.records n r (push_was udp_sort tcp_sort (λ t. refl) records now n r e); udps = λ n u e. elim (push_found udp_sort records now n u e) [ inl p ↦ i.udps n u p | inr p ↦ subst (UdpOpen es) p.0 k ]; older = i.older }

  -- a lookup has no network socket
  pub looked_open : (es : List Entry) (now : List Record) → SocketsStay records now → Opened given es records → Opened given es now
  looked_open es now s i = record { records = λ n r e. i.records n r (sym (s.tcp n) ∙ e); udps = λ n u e. i.udps n u (sym (s.udp n) ∙ e); older = i.older }

  -- one is given back
  pub fewer_open : (es : List Entry) (place : ℕ) → Opened given es records → Opened given es (record_gone records place)
  fewer_open es place i = record { records = λ n r e. i.records n r (was_there tcp2_of refl records place n r e); udps = λ n u e. i.udps n u (was_there udp2_of refl records place n u e); older = i.older }

  -- more may be closed by now
  pub later : (es : List Entry) (more : OpId → Type 0) → ((x : OpId) → given x → more x) → Opened given es records → Opened more es records
  later es more l i = record { records = i.records; udps = i.udps; older = λ x c. l x (i.older x c) }

abbrev pub Kept : ℕ → List Entry → Here → Type 0
Kept line es h = Opened (IsOlder line h.own) es h.machine.store.records

-- a network socket is closed: the record that claims it has it no more
pub closed_put : (line : ℕ) (C : OpId → Type 0) (es fs : List Entry) (h : Here) (place : ℕ) (r now : TcpRecord) (side : OpId) → Found h place r → Claims side r → ((x : OpId) → C x → side ≡ x) → (HasIt now side → ⊥) → Grows C es fs → Named line h → RecordOpen es now → Kept line es h → Kept line fs (put h place now)
closed_put line C es fs h place r now side g claims of none grows named k i = record {
  records = λ n q e. record_more C es fs q grows (λ x u d. lacks n q e (subst (HasIt q) (sym (of x d)) u)) ((put_open es place now k i).records n q e);
  udps = λ n u e. (let f = put_was tcp_sort udp_sort (λ t. refl) h.machine.store.records place now n u e in udp_more C es fs u grows (λ l d. named.udps.apart side place n r u g f claims (sym (of (udp_side u) d))) (i.udps n u f));
  older = λ x c. elim (grows.closed x c) [ inl a ↦ i.older x a | inr d ↦ subst (IsOlder line h.own) (of x d) (named.older side place r g claims) ];
}
  where
    its : (q : TcpRecord) → HasIt q side → Claims side q
    its q (inl v) = inl v.0
    its q (inr a) = inr a

    other : (n : ℕ) (q : TcpRecord) → Found (put h place now) n q → Found h n q → HasIt q side → ⊥
    other n q e p u =
        let at : n ≡ place = named.one side n place q r p g (its q u) claims in
        let is : now ≡ q = some_same now q (sym (ap (tcp2_at (tcp2_put h.machine.store.records place now)) at ∙ put_finds tcp_sort h.machine.store.records place r now g) ∙ e) in
        none (subst (λ (y : TcpRecord). HasIt y side) (sym is) u)

    lacks : (n : ℕ) (q : TcpRecord) → Found (put h place now) n q → HasIt q side → ⊥
    lacks n q e u = elim (put_found tcp_sort h.machine.store.records place now n q e) [ inl p ↦ none (subst (λ (y : TcpRecord). HasIt y side) (sym p.1) u) | inr p ↦ other n q e p u ]

some_udp : (a b : UdpRecord) → Some a ≡ Some b → a ≡ b
some_udp a b e = cc

-- the network socket of a UDP socket is closed, and its record says so
pub udp_closed_put : (line : ℕ) (C : OpId → Type 0) (es fs : List Entry) (h : Here) (place : ℕ) (u : UdpRecord) → FoundUdp h place u → ((x : OpId) → C x → udp_side u ≡ x) → Grows C es fs → Named line h → Kept line es h → Kept line fs (put_udp h place (UdpRecord.Closed (udp_side u)))
udp_closed_put line C es fs h place u g of grows named i = record {
  records = λ n r e. (let f = put_was udp_sort tcp_sort (λ t. refl) h.machine.store.records place (UdpRecord.Closed (udp_side u)) n r e in record_more C es fs r grows (λ x l d. named.udps.apart x n place r u f g (its r x l) (of x d)) (i.records n r f));
  udps = λ n v e. elim (put_found udp_sort h.machine.store.records place (UdpRecord.Closed (udp_side u)) n v e) [
    | inl p ↦ subst (UdpOpen fs) p.1 tt
    | inr p ↦ udp_more C es fs v grows (λ l d. other n v e p l (of (udp_side v) d)) (i.udps n v p)
  ];
  older = λ x c. elim (grows.closed x c) [ inl a ↦ i.older x a | inr d ↦ subst (IsOlder line h.own) (of x d) (named.udps.older place u g) ];
}
  where
    its : (r : TcpRecord) (x : OpId) → HasIt r x → Claims x r
    its r x (inl v) = inl v.0
    its r x (inr a) = inr a

    other : (n : ℕ) (v : UdpRecord) → FoundUdp (put_udp h place (UdpRecord.Closed (udp_side u))) n v → FoundUdp h n v → UdpLives v → udp_side u ≡ udp_side v → ⊥
    other n v e p l s =
        let at : n ≡ place = named.udps.one (udp_side v) n place v u p g refl s in
        let is : Some (UdpRecord.Closed (udp_side u)) ≡ Some v = sym (ap (udp2_at (udp2_put h.machine.store.records place (UdpRecord.Closed (udp_side u)))) at ∙ put_finds udp_sort h.machine.store.records place u (UdpRecord.Closed (udp_side u)) g) ∙ e in
        subst UdpLives (sym (some_udp (UdpRecord.Closed (udp_side u)) v is)) l

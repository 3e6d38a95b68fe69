-- The base law: numbers and network sockets are claimed once, and are of older lines. A network socket is claimed by the record
-- that was made with it, and the name of an accept by the record of its listener.
use Rattle.wasi_walks.proofs.walks.Moves.{AddsSlot, DropsUdp, OfReceive, OfSend, TakesEnd}
use Rattle.wasi_records.specs.Records.{slot_pushed}
use Rattle.wasi_walks.proofs.PipeLists.{slot_push_same}
use Rattle.wasi_walks.proofs.Words.{Bool, Machine, Accepting, Accepts, Allows, Asks, Begins, Done, End, Entry, Err, ErrorCode}
use Rattle.wasi_walks.proofs.Words.{HoldsAccept, IsAcceptOn, IsLeftOfAccept, Item, List, Listener, Listening, None, Not, Ok, OpId, Operation}
use Rattle.wasi_walks.proofs.Words.{Refused, Result, SocketAddressFamily, Some, Step, TcpRecord, Waits, WasiSocketsCtx}
use Rattle.wasi_walks.proofs.Words.{accept_ended, allows_weaker, ap, arith, bind_progress}
use Rattle.wasi_walks.proofs.Words.{connect_ended, gone, inl, inr, new_record}
use Rattle.wasi_walks.proofs.Words.{own_of, poll_asks, refl, side_in, side_of, subst, sym, told_addr}
use Rattle.wasi_walks.proofs.Words.{with_inner, with_listening, with_progress, with_state, with_writer, ℕ, ⊤, ◌+◌, ◌∙◌, ◌≡◌, ◌⊎◌}
use Rattle.wasi_walks.proofs.walks.Layers.{begins_stand, layer, over, restate, stand}
use Rattle.wasi_walks.proofs.walks.OfState.{Becomes, Learnt, IsClosed, GivenUp, UdpLearnt, UdpIsClosed, UdpGivenUp, UdpBegun, Resolved, DatagramBegan, Created, CreatedWith, Writing, OfState, creating, of_state}
use Rattle.wasi_walks.proofs.walks.Here.{Grows, IsOlder, IsToCome, grows_to, next_given, next_grows, next_to_come, not_given, older_unused, older_used, own_not_given}
use Rattle.wasi_walks.proofs.licence.State.{name_in, accept_name}
use Rattle.wasi_walks.proofs.fits.Polls.{Anything}
use Rattle.wasi_walks.proofs.fits.Records.{FitListening}
use Rattle.wasi_walks.proofs.claims.Polls.{AllAskBut, ArePlain, GivesOwn, any_quiet, ended_name, ended_sides, none_of, own_poll}
use Rattle.wasi_walks.proofs.GoneLists.{was_there}
use Rattle.wasi_walks.proofs.owners.Law.{Owns, owners, owners_begin}
use Rattle.wasi_walks.proofs.walks.Moves.{closed_record, Own, Used, Unused, Here, put, Found, joined, part_of, new_accept, accepting_now, listen_after, beginning_listen, Held, BindsOn, Connects, Listens, Awaits, Move, Spends, Changes, ClosesReader, Writes, IsGone, Reconnects, Opens, BeginsConnect, BeginsBind, BeginsWrite, CancelsBind, CancelsUdpBind, CancelsUdpConnect, BeginsListen, BeginsAccept, Unlistens, Forgets, Joins, JoinsFault, JoinsPlain, faulted, joined_plain}
use Rattle.wasi_walks.proofs.walks.Law.{BeginsWrites, InCall, Law, Rests, Walks}
use Rattle.wasi_walks.proofs.Words.{new_socket}
use Rattle.wasi_walks.proofs.fits.Law.{Fit, begins_fit, told_same, whatever, fits}
use Rattle.wasi_walks.proofs.fits.Datagrams.{Datagrams}
use Rattle.wasi_walks.proofs.fits.DatagramLaw.{datagrams, datagrams_begin}
use Rattle.wasi_walks.proofs.fits.UdpPolls.{create_side}
use Rattle.wasi_walks.proofs.fits.UdpFits.{connected_side, reconnected_side}
use Rattle.wasi_tcp.specs.Accept as accept
use Rattle.udp_records.specs.Datagrams.{udp_connect_left, udp_reconnect_left, with_sending}
use Rattle.udp_records.specs.Receiving.{receive_left, with_receiving}
use Rattle.wasi_records.specs.Records.{tcp2_at, tcp2_of, tcp2_put, tcp2_pushed, udp2_at, udp2_of, udp2_pushed}
use Rattle.lookup_records.specs.declared.name_lookup.LookupOp.{LookupOp}
use Rattle.wasi_records.specs.declared.records.Record.{Record}
use Rattle.udp_records.specs.declared.udp.UdpRecord.{UdpRecord}
use Rattle.udp_records.specs.Udp.{udp_bind_progress, udp_create_left, udp_side, with_udp_progress}
use Rattle.wasi_udp.specs.Create.{new_create, after_create as udp_after_create}
use Rattle.wasi_walks.proofs.walks.Moves.{EndsConnect, RecallsConnect, RecallsStreams, ToConnect, with_records, SameSockets, Finds, put_udp, FoundUdp, udp_begun, Names, UdpChanges, BeginsUdpBind, BeginsUdpConnect, BeginsSend, BeginsReceive, Counts, SpendsNames, UdpCreates, UdpBindsOn, UdpConnectsOn, UdpReconnectsOn, SendsOn, ReceivesOn, GivesBack, without_record}
use Rattle.wasi_walks.proofs.Places.{push_found, push_new, push_was, put_finds, put_found, put_was, tcp_sort, udp_sort}

-- it was made with this network socket, or its accept has this name, by which a network socket will be made
abbrev pub Claims : OpId → TcpRecord → Type 0
Claims x r = (r.side ≡ Some x) ⊎ (accept_name r.listening ≡ Some x)

-- A UDP socket claims the network socket that it was made with.
pub record UdpNamed (line : ℕ) (h : Here) : Type 0 where
  pub one : (x : OpId) (i k : ℕ) (u v : UdpRecord) → FoundUdp h i u → FoundUdp h k v → udp_side u ≡ x → udp_side v ≡ x → i ≡ k
  pub apart : (x : OpId) (i k : ℕ) (r : TcpRecord) (u : UdpRecord) → Found h i r → FoundUdp h k u → Claims x r → udp_side u ≡ x → ⊥
  pub older : (i : ℕ) (u : UdpRecord) → FoundUdp h i u → IsOlder line h.own (udp_side u)

pub record Named (line : ℕ) (h : Here) : Type 0 where
  pub one : (x : OpId) (i k : ℕ) (r q : TcpRecord) → Found h i r → Found h k q → Claims x r → Claims x q → i ≡ k
  pub apart : (x : OpId) (i : ℕ) (r : TcpRecord) → Found h i r → r.side ≡ Some x → accept_name r.listening ≡ Some x → ⊥
  pub older : (x : OpId) (i : ℕ) (r : TcpRecord) → Found h i r → Claims x r → IsOlder line h.own x
  pub named : (x : OpId) (i : ℕ) (r : TcpRecord) → Found h i r → side_of r.inner ≡ Some x → r.side ≡ Some x
  pub held : (op : Operation) (i : ℕ) (r : TcpRecord) → Found h i r → r.listening ≡ Begins op → (r.side ≡ Some op.who.side) × (side_of r.inner ≡ None)
  pub udps : UdpNamed line h

pub no_some : {A : Type 0} (x : A) → None ≡ Some x → ⊥
no_some x e = absurd (cc)

same_record : (a b : TcpRecord) → Some a ≡ Some b → a ≡ b
same_record a b e = cc

pub same_begun : (a b : Operation) → Begins a ≡ Begins b → a ≡ b
same_begun a b e = cc

-- no record of a TCP socket claims it, and none of a UDP socket
abbrev pub Fresh : Here → OpId → Type 0
Fresh h x = (i : ℕ) (r : TcpRecord) → Found h i r → Claims x r → ⊥

abbrev pub FreshUdp : Here → OpId → Type 0
FreshUdp h x = (i : ℕ) (u : UdpRecord) → FoundUdp h i u → udp_side u ≡ x → ⊥

-- How a record may change: what it claims it claimed, or it is fresh, and may be given.
pub record KeepsNames (h : Here) (given : OpId → Type 0) (r now : TcpRecord) : Type 0 where
  pub side : now.side ≡ r.side
  pub accepts : (x : OpId) → accept_name now.listening ≡ Some x → (accept_name r.listening ≡ Some x) ⊎ (given x × Fresh h x × FreshUdp h x)
  pub named : (x : OpId) → side_of now.inner ≡ Some x → now.side ≡ Some x
  pub held : (op : Operation) → now.listening ≡ Begins op → (now.side ≡ Some op.who.side) × (side_of now.inner ≡ None)

module _ (line : ℕ) where
  -- a record changes
  module _ (h : Here) (place : ℕ) (r now : TcpRecord) (g : Found h place r) (given : OpId → Type 0) (k : KeepsNames h given r now) (n : Named line h) where
    claimed : (x : OpId) → Claims x now → Claims x r ⊎ (given x × Fresh h x × FreshUdp h x)
    claimed x (inl e) = inl (inl (sym k.side ∙ e))
    claimed x (inr e) = elim (k.accepts x e) [ inl p ↦ inl (inr p) | inr p ↦ inr p ]

    -- a record that claims it, among those with this one
    at_most : (x : OpId) (i : ℕ) (q : TcpRecord) → Found h i q → Claims x q → Claims x now → i ≡ place
    at_most x i q e c d = elim (claimed x d) [ inl p ↦ n.one x i place q r e g c p | inr p ↦ absurd (p.1 i q e c) ]

    one_put : (x : OpId) (i j : ℕ) (a b : TcpRecord) → Found (put h place now) i a → Found (put h place now) j b → Claims x a → Claims x b → i ≡ j
    one_put x i j a b e f c d = elim (put_found tcp_sort h.machine.store.records place now i a e) [
      | inl p ↦ elim (put_found tcp_sort h.machine.store.records place now j b f) [ inl q ↦ p.0 ∙ sym q.0 | inr q ↦ p.0 ∙ sym (at_most x j b q d (subst (Claims x) (sym p.1) c)) ]
      | inr p ↦ elim (put_found tcp_sort h.machine.store.records place now j b f) [ inl q ↦ at_most x i a p c (subst (Claims x) (sym q.1) d) ∙ sym q.0 | inr q ↦ n.one x i j a b p q c d ]
    ]

    apart_now : (x : OpId) → now.side ≡ Some x → accept_name now.listening ≡ Some x → ⊥
    apart_now x s e = elim (k.accepts x e) [ inl p ↦ n.apart x place r g (sym k.side ∙ s) p | inr p ↦ p.1 place r g (inl (sym k.side ∙ s)) ]

    udps_put : (own : Own) → Grows line h.own own → UdpNamed line (record (put h place now) { own = own })
    udps_put own l =
        let same : (i : ℕ) (u : UdpRecord) → FoundUdp (put h place now) i u → FoundUdp h i u = put_was tcp_sort udp_sort (λ t. refl) h.machine.store.records place now in
        record {
          one = λ x i j u v e f c d. n.udps.one x i j u v (same i u e) (same j v f) c d;
          apart = λ x i j q u e f c d. elim (put_found tcp_sort h.machine.store.records place now i q e) [
            | inl p ↦ elim (claimed x (subst (Claims x) (sym p.1) c)) [ inl y ↦ n.udps.apart x place j r u g (same j u f) y d | inr y ↦ y.2 j u (same j u f) d ]
            | inr p ↦ n.udps.apart x i j q u p (same j u f) c d
          ];
          older = λ i u e. l (udp_side u) (n.udps.older i u (same i u e));
        }

    pub put_by : (own : Own) → Grows line h.own own → ((x : OpId) → given x → IsOlder line own x) → Named line (record (put h place now) { own = own })
    put_by own l b = record {
      one = one_put;
      apart = λ x i q e s a. elim (put_found tcp_sort h.machine.store.records place now i q e) [ inl p ↦ apart_now x (ap (λ (y : TcpRecord). y.side) p.1 ∙ s) (ap (λ (y : TcpRecord). accept_name y.listening) p.1 ∙ a) | inr p ↦ n.apart x i q p s a ];
      older = λ x i q e c. elim (put_found tcp_sort h.machine.store.records place now i q e) [
        | inl p ↦ elim (claimed x (subst (Claims x) (sym p.1) c)) [ inl d ↦ l x (n.older x place r g d) | inr d ↦ b x d.0 ]
        | inr p ↦ l x (n.older x i q p c)
      ];
      named = λ x i q e s. elim (put_found tcp_sort h.machine.store.records place now i q e) [ inl p ↦ subst (λ (y : TcpRecord). y.side ≡ Some x) p.1 (k.named x (ap (λ (y : TcpRecord). side_of y.inner) p.1 ∙ s)) | inr p ↦ n.named x i q p s ];
      held = λ op i q e s. elim (put_found tcp_sort h.machine.store.records place now i q e) [
        | inl p ↦ subst (λ (y : TcpRecord). (y.side ≡ Some op.who.side) × (side_of y.inner ≡ None)) p.1 (k.held op (ap (λ (y : TcpRecord). y.listening) p.1 ∙ s))
        | inr p ↦ n.held op i q p s
      ];
      udps = udps_put own l;
    }

  pub put_named : (h : Here) (place : ℕ) (r now : TcpRecord) → Found h place r → KeepsNames h (λ x. ⊥) r now → Named line h → Named line (put h place now)
  put_named h place r now g k n = put_by h place r now g (λ x. ⊥) k n h.own (λ x o. o) (λ x o. absurd o)

  -- a record more, whose network socket is fresh
  pub push_named : (h : Here) (now : TcpRecord) (own : Own) → accept_name now.listening ≡ None → ((x : OpId) → now.side ≡ Some x → IsOlder line own x × Fresh h x × FreshUdp h x) → ((x : OpId) → side_of now.inner ≡ Some x → now.side ≡ Some x) → ((op : Operation) → now.listening ≡ Begins op → ⊥) → Grows line h.own own
      → Named line h → Named line (record h { machine = record h.machine { store = record h.machine.store { records = tcp2_pushed h.machine.store.records now } }; own = own })
  push_named h now own none fresh named held l n = record {
    one = one;
    apart = λ x i q e s a. elim (push_new tcp_sort h.machine.store.records now i q e) [ inl p ↦ n.apart x i q p s a | inr p ↦ no_some x (sym none ∙ (ap (λ (y : TcpRecord). accept_name y.listening) p ∙ a)) ];
    older = λ x i q e c. elim (push_new tcp_sort h.machine.store.records now i q e) [ inl p ↦ l x (n.older x i q p c) | inr p ↦ (fresh x (its x q p c)).0 ];
    named = λ x i q e s. elim (push_new tcp_sort h.machine.store.records now i q e) [ inl p ↦ n.named x i q p s | inr p ↦ subst (λ (y : TcpRecord). y.side ≡ Some x) p (named x (ap (λ (y : TcpRecord). side_of y.inner) p ∙ s)) ];
    held = λ op i q e s. elim (push_new tcp_sort h.machine.store.records now i q e) [ inl p ↦ n.held op i q p s | inr p ↦ absurd (held op (ap (λ (y : TcpRecord). y.listening) p ∙ s)) ];
    udps = record {
      one = λ x i k u v e f c d. n.udps.one x i k u v (same i u e) (same k v f) c d;
      apart = λ x i k q u e f c d. elim (push_new tcp_sort h.machine.store.records now i q e) [ inl p ↦ n.udps.apart x i k q u p (same k u f) c d | inr p ↦ (fresh x (its x q p c)).2 k u (same k u f) d ];
      older = λ i u e. l (udp_side u) (n.udps.older i u (same i u e));
    };
  }
    where
      same : (i : ℕ) (u : UdpRecord) → udp2_at (tcp2_pushed h.machine.store.records now) i ≡ Some u → FoundUdp h i u
      same = push_was tcp_sort udp_sort (λ t. refl) h.machine.store.records now

      its : (x : OpId) (q : TcpRecord) → now ≡ q → Claims x q → now.side ≡ Some x
      its x q p (inl e) = ap (λ (y : TcpRecord). y.side) p ∙ e
      its x q p (inr e) = absurd (no_some x (sym none ∙ (ap (λ (y : TcpRecord). accept_name y.listening) p ∙ e)))

      one : (x : OpId) (i k : ℕ) (a b : TcpRecord) → tcp2_at (tcp2_pushed h.machine.store.records now) i ≡ Some a → tcp2_at (tcp2_pushed h.machine.store.records now) k ≡ Some b → Claims x a → Claims x b → i ≡ k
      one x i k a b e f c d = elim (push_found tcp_sort h.machine.store.records now i a e) [
        | inl p ↦ elim (push_found tcp_sort h.machine.store.records now k b f) [ inl q ↦ n.one x i k a b p q c d | inr q ↦ absurd ((fresh x (its x b q.0 d)).1 i a p c) ]
        | inr p ↦ elim (push_found tcp_sort h.machine.store.records now k b f) [ inl q ↦ absurd ((fresh x (its x a p.0 c)).1 k b q d) | inr q ↦ p.1 ∙ sym q.1 ]
      ]

  -- a UDP socket changes, and keeps its network socket
  module _ (h : Here) (place : ℕ) (u now : UdpRecord) (g : FoundUdp h place u) (s : udp_side now ≡ udp_side u) (n : Named line h) where
    -- what there is at a place was there, with the same network socket
    before : (i : ℕ) (v : UdpRecord) → FoundUdp (put_udp h place now) i v → (w : UdpRecord) × (FoundUdp h i w × (udp_side w ≡ udp_side v))
    before i v e = elim (put_found udp_sort h.machine.store.records place now i v e) [
      | inl p ↦ (u, (ap (udp2_at h.machine.store.records) p.0 ∙ g, sym s ∙ ap udp_side p.1))
      | inr p ↦ (v, (p, refl))
    ]

    pub put_udp_by : (own : Own) → Grows line h.own own → Named line (record (put_udp h place now) { own = own })
    put_udp_by own l =
        let tcp : (i : ℕ) (r : TcpRecord) → Found (put_udp h place now) i r → Found h i r = put_was udp_sort tcp_sort (λ t. refl) h.machine.store.records place now in
        record {
          one = λ x i k r q e f c d. n.one x i k r q (tcp i r e) (tcp k q f) c d;
          apart = λ x i r e a b. n.apart x i r (tcp i r e) a b;
          older = λ x i r e c. l x (n.older x i r (tcp i r e) c);
          named = λ x i r e a. n.named x i r (tcp i r e) a;
          held = λ op i r e a. n.held op i r (tcp i r e) a;
          udps = record {
            one = λ x i k v w e f c d. (let a = before i v e in let b = before k w f in n.udps.one x i k a.0 b.0 a.1.0 b.1.0 (a.1.1 ∙ c) (b.1.1 ∙ d));
            apart = λ x i k r v e f c d. (let b = before k v f in n.udps.apart x i k r b.0 (tcp i r e) b.1.0 c (b.1.1 ∙ d));
            older = λ i v e. (let a = before i v e in l (udp_side v) (subst (IsOlder line h.own) a.1.1 (n.udps.older i a.0 a.1.0)));
          };
        }

    pub put_udp_named : Named line (put_udp h place now)
    put_udp_named = put_udp_by h.own (λ x o. o)

  -- a UDP socket more, whose network socket is fresh
  pub push_udp_named : (h : Here) (now : UdpRecord) (own : Own) → IsOlder line own (udp_side now) → Fresh h (udp_side now) → FreshUdp h (udp_side now) → Grows line h.own own
      → Named line h → Named line (record h { machine = record h.machine { store = record h.machine.store { records = udp2_pushed h.machine.store.records now } }; own = own })
  push_udp_named h now own small fresh free l n = record {
    one = λ x i k r q e f c d. n.one x i k r q (tcp i r e) (tcp k q f) c d;
    apart = λ x i r e a b. n.apart x i r (tcp i r e) a b;
    older = λ x i r e c. l x (n.older x i r (tcp i r e) c);
    named = λ x i r e a. n.named x i r (tcp i r e) a;
    held = λ op i r e a. n.held op i r (tcp i r e) a;
    udps = record {
      one = λ x i k u v e f c d. elim (push_found udp_sort h.machine.store.records now i u e) [
        | inl p ↦ elim (push_found udp_sort h.machine.store.records now k v f) [ inl q ↦ n.udps.one x i k u v p q c d | inr q ↦ absurd (free i u p (c ∙ (sym d ∙ sym (ap udp_side q.0)))) ]
        | inr p ↦ elim (push_found udp_sort h.machine.store.records now k v f) [ inl q ↦ absurd (free k v q (d ∙ (sym c ∙ sym (ap udp_side p.0)))) | inr q ↦ p.1 ∙ sym q.1 ]
      ];
      apart = λ x i k r u e f c d. elim (push_found udp_sort h.machine.store.records now k u f) [ inl p ↦ n.udps.apart x i k r u (tcp i r e) p c d | inr p ↦ fresh i r (tcp i r e) (subst (λ (y : OpId). Claims y r) (sym d ∙ sym (ap udp_side p.0)) c) ];
      older = λ i u e. elim (push_found udp_sort h.machine.store.records now i u e) [ inl p ↦ l (udp_side u) (n.udps.older i u p) | inr p ↦ subst (λ (y : UdpRecord). IsOlder line own (udp_side y)) p.0 small ];
    };
  }
    where
      tcp : (i : ℕ) (r : TcpRecord) → tcp2_at (udp2_pushed h.machine.store.records now) i ≡ Some r → Found h i r
      tcp = push_was udp_sort tcp_sort (λ t. refl) h.machine.store.records now

  -- each socket among the records was there
  part_named : (h : Here) (machine : Machine) → ((i : ℕ) (r : TcpRecord) → tcp2_at machine.store.records i ≡ Some r → Found h i r) → ((i : ℕ) (u : UdpRecord) → udp2_at machine.store.records i ≡ Some u → FoundUdp h i u) → Named line h → Named line (record h { machine = machine })
  part_named h machine tcp udp n = record {
    one = λ x i k r q e f c d. n.one x i k r q (tcp i r e) (tcp k q f) c d;
    apart = λ x i r e a b. n.apart x i r (tcp i r e) a b;
    older = λ x i r e c. n.older x i r (tcp i r e) c;
    named = λ x i r e a. n.named x i r (tcp i r e) a;
    held = λ op i r e a. n.held op i r (tcp i r e) a;
    udps = record {
      one = λ x i k u v e f c d. n.udps.one x i k u v (udp i u e) (udp k v f) c d;
      apart = λ x i k r u e f c d. n.udps.apart x i k r u (tcp i r e) (udp k u f) c d;
      older = λ i u e. n.udps.older i u (udp i u e);
    };
  }

  -- the records are others with the same sockets, or one is given back
  pub records_named : {new : LookupOp → Type 0} (h : Here) (records : List Record) → SameSockets new h.machine.store.records records → Named line h → Named line (with_records h records)
  records_named h records s n = part_named h (with_records h records).machine (λ i r e. sym (s.tcp i) ∙ e) (λ i u e. sym (s.udp i) ∙ e) n

  pub fewer_named : (h : Here) (place : ℕ) → Named line h → Named line (without_record h place)
  fewer_named h place n = part_named h (without_record h place).machine (was_there tcp2_of refl h.machine.store.records place) (was_there udp2_of refl h.machine.store.records place) n

pub accept_plain : (L : Type 0) (items : List Item) → IsLeftOfAccept items → AllAskBut L items
accept_plain L _ accept.Unarrived = (tt, tt)
accept_plain L _ (accept.Arrived peer) = (tt, tt)
accept_plain L _ (accept.Admitted peer) = (tt, tt)
accept_plain L _ (accept.Unwanted peer) = (tt, tt)
accept_plain L _ accept.Ended = tt

module _ (contexts : List WasiSocketsCtx) (line : ℕ) (origin : Step) where
  -- the socket changes
  inner_names : (h : Here) (place : ℕ) (r now : TcpRecord) → Found h place r → now.side ≡ r.side → now.listening ≡ r.listening → ((x : OpId) → side_of now.inner ≡ Some x → side_of r.inner ≡ Some x) → Named line h → KeepsNames h (λ x. ⊥) r now
  inner_names h place r now g s l k n = record {
    side = s;
    accepts = λ x e. inl (ap accept_name (sym l) ∙ e);
    named = λ x e. s ∙ n.named x place r g (k x e);
    held = λ op e. let d = n.held op place r g (sym l ∙ e) in (s ∙ d.0, none_of (side_of now.inner) (λ x e. no_some x (sym d.1 ∙ k x e)));
  }

  pub put_inner : (h : Here) (place : ℕ) (r now : TcpRecord) → Found h place r → now.side ≡ r.side → now.listening ≡ r.listening → ((x : OpId) → side_of now.inner ≡ Some x → side_of r.inner ≡ Some x) → Named line h → Named line (put h place now)
  put_inner h place r now g s l k n = put_named line h place r now g (inner_names h place r now g s l k n) n

  -- the listening changes, and none begins
  listening_names : (h : Here) (place : ℕ) (r : TcpRecord) (l : Listening) → Found h place r → ((x : OpId) → accept_name l ≡ Some x → accept_name r.listening ≡ Some x) → ((op : Operation) → l ≡ Begins op → ⊥) → Named line h → KeepsNames h (λ x. ⊥) r (record r { listening = l })
  listening_names h place r l g k none n = record { side = refl; accepts = λ x e. inl (k x e); named = λ x e. n.named x place r g e; held = λ op e. absurd (none op e) }

  -- what the line has begun changes, and as many names are taken, or more
  owns_named : (h : Here) (own : Own) → Named line h → Grows line h.own own → Named line (record h { own = own })
  owns_named h own n l = record { one = n.one; apart = n.apart; older = λ x i r g c. l x (n.older x i r g c); named = n.named; held = n.held; udps = record { one = n.udps.one; apart = n.udps.apart; older = λ i u g. l (udp_side u) (n.udps.older i u g) } }

  spends_named : (h : Here) → Named line h → Named line (record h { own = Used })
  spends_named h n = owns_named h Used n (older_used line h.own)

  put_spent : (h : Here) (place : ℕ) (r now : TcpRecord) → Found h place r → now.side ≡ r.side → now.listening ≡ r.listening → ((x : OpId) → side_of now.inner ≡ Some x → side_of r.inner ≡ Some x) → Named line h → Named line (record (put h place now) { own = Used })
  put_spent h place r now g s l k n = spends_named (put h place now) (put_inner h place r now g s l k n)

  -- a name that isn't given yet is fresh
  fresh_by : (h : Here) → Named line h → (x : OpId) → (IsOlder line h.own x → ⊥) → Fresh h x
  fresh_by h n x new i r g c = new (n.older x i r g c)

  fresh_udp_by : (h : Here) → Named line h → (x : OpId) → (IsOlder line h.own x → ⊥) → FreshUdp h x
  fresh_udp_by h n x new i v g c = new (subst (IsOlder line h.own) c (n.udps.older i v g))

  -- so is one of the line, where it has begun nothing
  pub fresh : (h : Here) → h.own ≡ Unused → Named line h → (x : OpId) → x.step ≡ line → Fresh h x
  fresh h u n x e = fresh_by h n x (own_not_given line h.own x u e)

  pub fresh_udp : (h : Here) → h.own ≡ Unused → Named line h → (x : OpId) → x.step ≡ line → FreshUdp h x
  fresh_udp h u n x e = fresh_udp_by h n x (own_not_given line h.own x u e)

  -- and one that is to come
  pub fresh_to_come : (h : Here) → Named line h → (x : OpId) → IsToCome line h.own x → Fresh h x
  fresh_to_come h n x t = fresh_by h n x (λ o. not_given line h.own x o t)

  -- the name of an accept is claimed by no record, once its record has it no more
  pub taken_fresh : (h : Here) (place : ℕ) (r now : TcpRecord) (new : OpId) → Found h place r → accept_name r.listening ≡ Some new → now.side ≡ r.side → accept_name now.listening ≡ None → Named line h → Fresh (put h place now) new
  taken_fresh h place r now new g a s none n i q e c = elim (put_found tcp_sort h.machine.store.records place now i q e) [
    | inl p ↦ idle (subst (Claims new) (sym p.1) c)
    | inr p ↦ (
        let here : i ≡ place = n.one new i place q r p g c (inr a) in
        let there : Found (put h place now) i now = ap (tcp2_at (tcp2_put h.machine.store.records place now)) here ∙ put_finds tcp_sort h.machine.store.records place r now g in
        idle (subst (Claims new) (sym (same_record now q (sym there ∙ e))) c))
  ]
    where
      idle : Claims new now → ⊥
      idle (inl t) = n.apart new place r g (sym s ∙ t) a
      idle (inr t) = no_some new (sym none ∙ t)

  pub moves_named : (h now : Here) → Move line origin h now → Named line h → Named line now
  moves_named _ _ (Spends h e) n = spends_named h n
  moves_named _ _ (SpendsNames h part e) n = spends_named h n
  moves_named _ _ (EndsConnect h place e over) n = spends_named h n
  moves_named _ _ (RecallsStreams h ids place handle e own) n = let k = owns_named h (ToConnect place) n (older_used line h.own) in record { one = k.one; apart = k.apart; older = k.older; named = k.named; held = k.held; udps = record { one = k.udps.one; apart = k.udps.apart; older = k.udps.older } }
  moves_named _ _ (Counts h e) n = owns_named h (Names 1) n (grows_to line h.own Unused (Names 1) e (older_unused line (Names 1)))
  moves_named _ _ (Changes h place r now g p) n = put_inner h place r now g p.side p.listening (λ x e. sym (ap side_in p.does) ∙ e) n
  moves_named _ _ (ClosesReader h place r s g e) n = put_inner h place r _ g refl refl (λ x e. e) n
  moves_named _ _ (Writes h place r s w g e m) n = put_inner h place r _ g refl refl (λ x e. e) n
  moves_named _ _ (IsGone h place r q g e) n = put_named line h place r (gone r r.inner) g (record { side = refl; accepts = λ x p. absurd (cc); named = λ x p. n.named x place r g p; held = λ op p. absurd (cc) }) n
  moves_named _ _ (Reconnects h place r c now g e s t u) n = put_inner h place r _ g refl refl (λ x p. ap side_in e ∙ (ap (λ (y : OpId). Some y) (sym s) ∙ p)) n
  moves_named _ _ (Opens h place r c d g e k) n = put_inner h place r _ g refl refl (λ x p. ap side_in e ∙ p) n
  moves_named _ _ (BeginsConnect h place r side a bound at g d to known idle own) n = put_spent h place r _ g refl refl (λ x p. ap side_in d ∙ p) n
  moves_named _ _ (BeginsBind h place r side a at g d to own) n = put_spent h place r _ g refl refl (λ x p. p) n
  moves_named _ _ (BeginsWrite h place number r s half permit bytes at g e w within own) n = put_spent h place r _ g refl refl (λ x p. p) n
  moves_named _ _ (BeginsListen h place r side bound at g d known un none to idle own) n =
      let now = beginning_listen (own_of line) side r bound in
      spends_named (put h place now) (put_named line h place r now g (record { side = refl; accepts = λ x e. absurd (cc); named = λ x e. absurd (cc); held = λ op e. (let s = n.named side place r g (ap side_in d) in let p : Begins _ ≡ Begins op = e in (its side bound op r e s, refl)) }) n)
    where
      its : (side : OpId) (bound : Bool) (op : Operation) (r : TcpRecord) → (beginning_listen (own_of line) side r bound).listening ≡ Begins op → r.side ≡ Some side → r.side ≡ Some op.who.side
      its side bound op r e s = s ∙ ap (λ (o : Operation). Some o.who.side) (same_begun _ op e)
  moves_named _ _ (BeginsAccept h place part r l at g e a own) n =
      let name : OpId = part_of line part in
      let new : IsOlder line h.own name → ⊥ = λ o. not_given line h.own name o (next_to_come line part h.own own) in
      put_by line h place r (accepting_now r l (new_accept name l)) g (λ x. name ≡ x)
      (record { side = refl; accepts = λ x p. (let q : name ≡ x = some_name x p in inr (q, subst (Fresh h) q (fresh_by h n name new), subst (FreshUdp h) q (fresh_udp_by h n name new))); named = λ x p. n.named x place r g p; held = λ op p. absurd (cc) })
      n (Names (part + 1)) (next_grows line part h.own own) (λ x q. subst (IsOlder line (Names (part + 1))) q (next_given line part))
    where
      some_name : (x : OpId) → Some (part_of line part) ≡ Some x → part_of line part ≡ x
      some_name x p = cc
  moves_named _ _ (Unlistens h place r op q g e c o) n = put_named line h place r _ g (listening_names h place r Not g (λ x p. absurd (cc)) (λ op p. absurd (cc)) n) n
  moves_named _ _ (Forgets h place r l c g e a) n = put_named line h place r _ g (listening_names h place r _ g (λ x p. absurd (cc)) (λ op p. absurd (cc)) n) n
  moves_named _ _ (Joins h c handle place r l new peer is of u g e a) n =
      let mid = put h place (accepting_now r l Accepting.Idle) in
      let k = put_named line h place r (accepting_now r l Accepting.Idle) g (listening_names h place r _ g (λ x p. absurd (cc)) (λ op p. absurd (cc)) n) n in
      let name : accept_name r.listening ≡ Some new = ap accept_name e ∙ ap name_in a in
      let j = push_named line mid (joined l new peer) h.own refl (λ x p. (let s : new ≡ x = cc in subst (λ (y : OpId). IsOlder line h.own y × Fresh mid y × FreshUdp mid y) s (n.older new place r g (inr name), taken_fresh h place r (accepting_now r l Accepting.Idle) new g name refl refl n, λ i v f q. n.udps.apart new place i r v g (put_was tcp_sort udp_sort (λ t. refl) h.machine.store.records place (accepting_now r l Accepting.Idle) i v f) (inr name) q))) (λ x p. p) (λ op p. absurd (cc)) (λ x o. o) k in
      record { one = j.one; apart = j.apart; older = j.older; named = j.named; held = j.held; udps = record { one = j.udps.one; apart = j.udps.apart; older = j.udps.older } }
  moves_named _ _ (JoinsPlain h c listener remaining place r l new peer is of u g e a) n =
      let mid = put h place (accepting_now r l Accepting.Idle) in
      let k = put_named line h place r (accepting_now r l Accepting.Idle) g (listening_names h place r _ g (λ x p. absurd (cc)) (λ op p. absurd (cc)) n) n in
      let name : accept_name r.listening ≡ Some new = ap accept_name e ∙ ap name_in a in
      let j = push_named line mid (joined_plain l new peer) h.own refl (λ x p. (let s : new ≡ x = cc in subst (λ (y : OpId). IsOlder line h.own y × Fresh mid y × FreshUdp mid y) s (n.older new place r g (inr name), taken_fresh h place r (accepting_now r l Accepting.Idle) new g name refl refl n, λ i v f q. n.udps.apart new place i r v g (put_was tcp_sort udp_sort (λ t. refl) h.machine.store.records place (accepting_now r l Accepting.Idle) i v f) (inr name) q))) (λ x p. p) (λ op p. absurd (cc)) (λ x o. o) k in
      record { one = j.one; apart = j.apart; older = j.older; named = j.named; held = j.held; udps = record { one = j.udps.one; apart = j.udps.apart; older = j.udps.older } }
  moves_named _ _ (JoinsFault h place r l c u g e a) n =
      let mid = put h place (accepting_now r l Accepting.Idle) in
      let k = put_named line h place r (accepting_now r l Accepting.Idle) g (listening_names h place r _ g (λ x p. absurd (cc)) (λ op p. absurd (cc)) n) n in
      let j = push_named line mid (faulted l c) h.own refl (λ x p. absurd (cc)) (λ x p. p) (λ op p. absurd (cc)) (λ x o. o) k in
      record { one = j.one; apart = j.apart; older = j.older; named = j.named; held = j.held; udps = record { one = j.udps.one; apart = j.udps.apart; older = j.udps.older } }
  moves_named _ _ (UdpChanges h place o now g p keeps) n = put_udp_named line h place (UdpRecord.Open o) (UdpRecord.Open now) g p.side n
  moves_named _ _ (BeginsUdpBind h place o a at g to own) n = put_udp_by line h place (UdpRecord.Open o) (UdpRecord.Open _) g refl n Used (older_used line h.own)
  moves_named _ _ (RecallsConnect h ids place e own) n = let k = owns_named h (ToConnect place) n (older_used line h.own) in record { one = k.one; apart = k.apart; older = k.older; named = k.named; held = k.held; udps = record { one = k.udps.one; apart = k.udps.apart; older = k.udps.older } }
  moves_named _ _ (BeginsUdpConnect h place o a bound at g to known none own) n = put_udp_by line h place (UdpRecord.Open o) (UdpRecord.Open _) g refl n (ToConnect place) (older_used line h.own)
  moves_named _ _ (BeginsSend h place part o out d bound at g e is known own) n = put_udp_by line h place (UdpRecord.Open o) (UdpRecord.Open _) g refl n (Names (part + 1)) (next_grows line part h.own own)
  moves_named _ _ (BeginsReceive h place part o inc bound at g e is own) n = put_udp_by line h place (UdpRecord.Open o) (UdpRecord.Open _) g refl n (Names (part + 1)) (next_grows line part h.own own)
  moves_named _ _ (CancelsBind h place r op q g e) n = put_inner h place r _ g refl refl (λ x p. p) n
  moves_named _ _ (CancelsUdpBind h place o op q g e) n = put_udp_named line h place (UdpRecord.Open o) (UdpRecord.Open _) g refl n
  moves_named _ _ (CancelsUdpConnect h place o q g) n = put_udp_named line h place (UdpRecord.Open o) (UdpRecord.Open _) g refl n
  moves_named _ _ (TakesEnd h handle place r _ of g (OfReceive c e free)) n = put_inner h place r _ g refl refl (λ x p. ap side_in e ∙ p) n
  moves_named _ _ (TakesEnd h handle place r _ of g (OfSend c e free)) n = put_inner h place r _ g refl refl (λ x p. ap side_in e ∙ p) n
  moves_named _ _ (AddsSlot h s) n = let k = records_named line h (slot_pushed h.machine.store.records s) (slot_push_same {new = λ op. ⊥} h.machine.store.records s) n in record { one = k.one; apart = k.apart; older = k.older; named = k.named; held = k.held; udps = record { one = k.udps.one; apart = k.udps.apart; older = k.udps.older } }
  moves_named _ _ (Finds h records s) n = records_named line h records s n
  moves_named _ _ (DropsUdp h place o idle made g) n = let k = put_udp_named line h place (UdpRecord.Open o) (UdpRecord.Open _) g refl n in record { one = k.one; apart = k.apart; older = k.older; named = k.named; held = k.held; udps = record { one = k.udps.one; apart = k.udps.apart; older = k.udps.older } }
  moves_named _ _ (GivesBack h place idle left) n = fewer_named line h place n
  moves_named _ _ _ n = record { one = n.one; apart = n.apart; older = n.older; named = n.named; held = n.held; udps = record { one = n.udps.one; apart = n.udps.apart; older = n.udps.older } }

  -- the record that a listen leaves
  listened_names : (h : Here) (place : ℕ) (r : TcpRecord) (op : Operation) (end : End × List Item) → Found h place r → r.listening ≡ Begins op → Named line h → KeepsNames h (λ x. ⊥) r (listen_after op r end)
  listened_names h place r op (Waits, items) g e n = record { side = refl; accepts = λ x p. absurd (cc); named = λ x p. n.named x place r g p; held = λ o p. (let d = n.held op place r g e in (let q : op.who.side ≡ o.who.side = cc in d.0 ∙ ap (λ (y : OpId). Some y) q, d.1)) }
  listened_names h place r op (Done given, items) g e n = record { side = refl; accepts = λ x p. absurd (cc); named = λ x p. (n.held op place r g e).0 ∙ p; held = λ o p. absurd (cc) }
  listened_names h place r op (Refused c given, items) g e n = record { side = refl; accepts = λ x p. absurd (cc); named = λ x p. n.named x place r g p; held = λ o p. absurd (cc) }

  awaited_names : (h : Here) (place : ℕ) (r : TcpRecord) (l : Listener) (op : Operation) (end : End × List Item) → Found h place r → r.listening ≡ Accepts l → l.accept ≡ Accepting.Asking op → GivesOwn op.who.id end.0 → Named line h → Named line (put h place (accepting_now r l (accept_ended op.who end)))
  awaited_names h place r l op end g e a k n = put_named line h place r _ g (listening_names h place r _ g (λ x p. ap accept_name e ∙ (ap name_in a ∙ ended_name op end k x p)) (λ o p. absurd (cc)) n) n

  -- == the law
  abbrev pub Pair : Here → Type 0
  Pair h = Fit h × Named line h

  -- and what is live of each record, and of datagrams in progress
  abbrev pub Base : Here → Type 0
  Base h = Fit h × Named line h × Owns h × Datagrams h

  pub names_polled : (es : List Entry) (h : Here) (op : Operation) (after : End × List Item → Here) → Held h op after → Pair h → Allows Anything (λ fs ended. Named line (after ended)) es (poll_asks op)
  names_polled es h _ _ (BindsOn place r op q g e) n = whatever (λ ended. Named line (put h place (with_progress r (bind_progress op ended)))) (λ ended. put_inner h place r _ g refl refl (λ x p. p) n.1) es _
  names_polled es h _ _ (Connects place r op g e) n =
      whatever (λ ended. Named line (put h place (with_inner r (with_state r.inner (connect_ended op.who ended).1)))) (λ ended. put_inner h place r _ g refl refl (λ x p. ap side_in e ∙ ended_sides op ended x p) n.1) es _
  names_polled es h _ _ (Listens place r op q g e c) n = whatever (λ ended. Named line (put h place (listen_after op r ended))) (λ ended. put_named line h place r _ g (listened_names h place r op ended g e n.1) n.1) es _
  names_polled es h _ _ (Awaits place r l op g e a) n =
      let its : IsAcceptOn l.side l.maker op = subst (HoldsAccept l.side l.maker) a (subst FitListening e (n.0.records place r g).1) in
      allows_weaker Anything (λ fs ended. ArePlain ended.1 × GivesOwn op.who.id ended.0) (λ fs ended. Named line (put h place (accepting_now r l (accept_ended op.who ended)))) (λ fs ended k. awaited_names h place r l op ended g e a k.1 n.1) es (poll_asks op)
      (any_quiet (λ ended. ArePlain ended.1 × GivesOwn op.who.id ended.0) es (poll_asks op) (own_poll op es (accept_plain ⊤ op.left its.accept.left)))
  names_polled es h _ _ (UdpCreates place create q g) n =
      whatever (λ ended. Named line (put_udp h place (udp_create_left create ended))) (λ ended. put_udp_named line h place (UdpRecord.Creating create) _ g (create_side create ended) n.1) es _
  names_polled es h _ _ (UdpBindsOn place o op q g e) n =
      whatever (λ ended. Named line (put_udp h place (UdpRecord.Open (with_udp_progress o (udp_bind_progress op ended))))) (λ ended. put_udp_named line h place (UdpRecord.Open o) (UdpRecord.Open _) g refl n.1) es _
  names_polled es h _ _ (UdpConnectsOn place o op q g e) n =
      whatever (λ ended. Named line (put_udp h place (UdpRecord.Open (udp_connect_left op o ended)))) (λ ended. put_udp_named line h place (UdpRecord.Open o) (UdpRecord.Open _) g (connected_side o op ended) n.1) es _
  names_polled es h _ _ (UdpReconnectsOn place o op q g e) n =
      whatever (λ ended. Named line (put_udp h place (UdpRecord.Open (udp_reconnect_left op o ended)))) (λ ended. put_udp_named line h place (UdpRecord.Open o) (UdpRecord.Open _) g (reconnected_side o op ended) n.1) es _
  names_polled es h _ _ (SendsOn place o out op left g e s settles) n =
      whatever (λ ended. Named line (put_udp h place (UdpRecord.Open (record o { outgoing = Some (with_sending out (left ended)) })))) (λ ended. put_udp_named line h place (UdpRecord.Open o) (UdpRecord.Open _) g refl n.1) es _
  names_polled es h _ _ (ReceivesOn place o inc op g e r) n =
      whatever (λ ended. Named line (put_udp h place (UdpRecord.Open (record o { incoming = Some (with_receiving inc (receive_left op ended)) })))) (λ ended. put_udp_named line h place (UdpRecord.Open o) (UdpRecord.Open _) g refl n.1) es _

  -- a UDP socket whose create begins has the line's own name
  begun_named : (h : Here) (maker : ℕ) (family : SocketAddressFamily) (r : Result (Unit {0}) ErrorCode) → h.own ≡ Unused → Named line h → Named line (udp_begun h (udp_after_create (own_of line) maker family r))
  begun_named h maker family (Ok done) u n = push_udp_named line h (UdpRecord.Creating (new_create (own_of line) maker family)) Used (omega arith) (fresh h u n (own_of line) refl) (fresh_udp h u n (own_of line) refl) (older_used line h.own) n
  begun_named h maker family (Err c) u n = spends_named h n

  -- a socket that is created has the line's own name
  created_named : (h : Here) (ctx : WasiSocketsCtx) (family : SocketAddressFamily) → h.own ≡ Unused → Named line h → Named line (creating h (own_of line) ctx family)
  created_named h ctx family u n =
      push_named line h (new_record (new_socket (own_of line) ctx.name family)) Used refl
      (λ x p. (let s : own_of line ≡ x = cc in let z : x.step ≡ line = ap (λ (o : OpId). o.step) (sym s) in
      (omega (arith, z), fresh h u n x z, fresh_udp h u n x z))) (λ x p. p) (λ op p. absurd (cc))
      (older_used line h.own) n

  pub becomes_named : (h now : Here) → Becomes contexts line origin h now → Named line h → Named line now
  becomes_named h _ (Learnt place r side told at g e) n =
      put_inner h place r _ g refl refl (λ x p. sym (ap side_in (told_same r.inner (told_addr told))) ∙ p) n
  becomes_named h _ (IsClosed place r side q g e) n =
      put_named line h place r (closed_record r) g
      (record {
        side = refl;
        accepts = λ x p. absurd (cc);
        named = λ x p. absurd (cc);
        held = λ op p. absurd (cc);
      }) n
  becomes_named h _ (GivenUp place r q goes g) n =
      put_named line h place r (with_listening r Not) g
      (listening_names h place r Not g (λ x p. absurd (cc)) (λ op p. absurd (cc)) n) n
  becomes_named h _ (UdpLearnt place o socket g e) n =
      put_udp_named line h place (UdpRecord.Open o) (UdpRecord.Open _) g e n
  becomes_named h _ (UdpIsClosed place o q g) n =
      put_udp_named line h place (UdpRecord.Open o) (UdpRecord.Closed o.inner.side) g refl n
  becomes_named h _ (UdpGivenUp place create q g) n =
      put_udp_named line h place (UdpRecord.Creating create) (UdpRecord.Closed create.operation.who.side) g refl n
  becomes_named h _ (UdpBegun face ctx family r c u m) n = begun_named h ctx.name family r u n
  becomes_named h _ (Resolved host records l s) n = records_named line h records s n
  becomes_named h _ (DatagramBegan place o call op polled ended at g starts made own left) n = let k = spends_named h n in record { one = k.one; apart = k.apart; older = k.older; named = k.named; held = k.held; udps = record { one = k.udps.one; apart = k.udps.apart; older = k.udps.older } }
  becomes_named h _ (Created face ctx family c u m) n = created_named h ctx family u n
  becomes_named h _ (CreatedWith face ctx family c u m) n = let j = created_named h ctx family u n in record { one = j.one; apart = j.apart; older = j.older; named = j.named; held = j.held; udps = record { one = j.udps.one; apart = j.udps.apart; older = j.udps.older } }
  becomes_named h _ (Writing _ (InCall place k r s half permit bytes at g e w within used)) n =
      put_spent h place r _ g refl refl (λ x p. p) n
  becomes_named h _ _ n = record { one = n.one; apart = n.apart; older = n.older; named = n.named; held = n.held; udps = record { one = n.udps.one; apart = n.udps.apart; older = n.udps.older } }

  -- it takes that the records fit: that an accept is one
  abbrev pub named_state : OfState contexts line origin (λ es h. ⊤ × Fit h)
  named_state = record { Holds = Named line; moves = λ es h now m b i. moves_named h now m i; becomes = λ es h now k b i. becomes_named h now k i; polls = λ es h op after k b i. names_polled es h op after k (b.1, i); turns = λ es h place r s g e b n. whatever (λ done. Named line (put h place (with_writer r s done.1))) (λ done. put_inner h place r _ g refl refl (λ x p. p) n) es _ }

  -- the four
  unfoldable four : Law contexts line origin
  unfolding fits owners datagrams
  four =
      layer (owners contexts line origin) (layer (over (λ es h b. b.1) (datagrams contexts line origin))
      (layer (over (λ es h b. (b.0.1, b.1)) (fits contexts line origin)) (over (λ es h b. (tt, b.1)) (of_state named_state))))

  pub names : Law contexts line origin
  unfolding four fits owners datagrams
  names = restate (λ es h. Base h) four (λ es h k. (k.1.1.0, k.1.1.1, k.0, k.1.0)) (λ es h k. (k.2, (k.3, (k.0, k.1))))

  -- a write that begins in a call of streams
  pub begins_named : BeginsWrites names
  unfolding names fits owners datagrams
  begins_named = record { begins = λ es h now w b i. ((begins_fit contexts line origin).begins es h now w (i.2, i.3) i.0, becomes_named h now (Writing now w) i.1, (owners_begin contexts line origin).begins es h now w tt i.2, (datagrams_begin contexts line origin).begins es h now w i.2 i.3) }

  -- of the records alone
  unfoldable pub fitting : Law contexts line origin
  unfolding fits owners datagrams
  fitting = layer (owners contexts line origin) (layer (over (λ es h b. b.1) (datagrams contexts line origin)) (over (λ es h b. (b.0.1, b.1)) (fits contexts line origin)))

  pub begins_fitting : BeginsWrites fitting
  unfolding fitting fits owners datagrams
  begins_fitting = record { begins = λ es h now w b i. ((owners_begin contexts line origin).begins es h now w tt i.0, ((datagrams_begin contexts line origin).begins es h now w i.0 i.1.0, (begins_fit contexts line origin).begins es h now w (i.0, i.1.0) i.1.1)) }

  -- what it says of a tree
  pub fits_along : {A : Type 0} {h : Here} {end : A → Here} {asks : Asks A} → Walks fitting h end asks → (es : List Entry) → Owns h × (Datagrams h × Fit h) → Allows Anything (λ fs a. Owns (end a) × (Datagrams (end a) × Fit (end a))) es asks
  unfolding fitting fits owners datagrams
  fits_along w es i = w.along es i

  -- the laws that rest on it
  pub on_names : Rests contexts line origin (λ es h. Base h) → Law contexts line origin
  unfolding names
  on_names a = stand names a

  -- a law that rests on another one that rests on it
  pub on_two : (r : Rests contexts line origin (λ es h. Base h)) → Rests contexts line origin (λ es h. Base h × r.Inv es h) → Law contexts line origin
  unfolding on_names names
  on_two r a = stand (on_names r) a

  -- a write that begins in a call of streams, in both
  pub begins_on_names : (a : Rests contexts line origin (λ es h. Base h)) → BeginsWrites a → BeginsWrites (on_names a)
  unfolding on_names names
  begins_on_names a k = begins_stand names a begins_named k

  pub begins_on_two : (r : Rests contexts line origin (λ es h. Base h)) (a : Rests contexts line origin (λ es h. Base h × r.Inv es h)) → BeginsWrites r → BeginsWrites a → BeginsWrites (on_two r a)
  unfolding on_two on_names names
  begins_on_two r a j k = begins_stand (on_names r) a (begins_on_names r j) k

  -- what such a law says of a tree
  pub on_two_along : (r : Rests contexts line origin (λ es h. Base h)) (a : Rests contexts line origin (λ es h. Base h × r.Inv es h)) {A : Type 0} {h : Here} {end : A → Here} {asks : Asks A} → Walks (on_two r a) h end asks → (es : List Entry) → Base h → r.Inv es h → a.Inv es h → Allows a.P (λ fs x. (Base (end x) × r.Inv fs (end x)) × a.Inv fs (end x)) es asks
  unfolding on_two on_names names
  on_two_along r a w es b k i = w.along es ((b, k), i)

  pub on_along : (a : Rests contexts line origin (λ es h. Base h)) {A : Type 0} {h : Here} {end : A → Here} {asks : Asks A} → Walks (on_names a) h end asks → (es : List Entry) → Base h → a.Inv es h → Allows a.P (λ fs x. Base (end x) × a.Inv fs (end x)) es asks
  unfolding on_names names
  on_along a w es b i = w.along es (b, i)

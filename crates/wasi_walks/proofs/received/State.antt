-- What is known of the records: what the incoming stream of this network socket holds was received from this place of the log on.
use Rattle.wasi_walks.proofs.Words.{◌∷◌, [], entry, Told, Allows, Asks, Bool, Call, Entry, List, None, OpId, Operation, Option, Some, TcpRecord, []}
use Rattle.wasi_walks.proofs.Words.{allows_keep, ap, arith, first_state, inl, inr, length, refl, subst, sym, true, false, ℕ, ⊤, ◌==◌, ◌⊎◌, ◌++◌, ◌∙◌, ◌≡◌, ◌≤◌}
use Rattle.std.proofs.lemmas.Bool.{eqb-true, eqb-false}
use Rattle.wasi_records.specs.Numbered.{record_gone}
use Rattle.wasi_records.specs.Records.{tcp2_put, tcp2_pushed, udp2_at, udp2_of, udp2_put, udp2_pushed}
use Rattle.wasi_walks.proofs.GoneLists.{was_there}
use Rattle.udp_records.specs.declared.datagrams.Incoming.{Incoming as IncomingStream}
use Rattle.udp_records.specs.declared.datagrams.Receiving.{Receiving}
use Rattle.lookup_records.specs.declared.name_lookup.LookupOp.{LookupOp}
use Rattle.wasi_records.specs.declared.records.Record.{Record}
use Rattle.udp_records.specs.declared.udp.OpenUdp.{OpenUdp}
use Rattle.udp_records.specs.declared.udp.UdpRecord.{UdpRecord}
use Rattle.wasi_walks.proofs.fits.Polls.{Anything}
use Rattle.wasi_walks.proofs.fits.UdpFits.{kept_op}
use Rattle.wasi_walks.proofs.walks.Moves.{Kept, SameSockets, UdpPlain, came_from, came_in, came_of, receive_op, receiving_in}
use Rattle.wasi_walks.specs.Received.{ReceivesNone}
use Rattle.wasi_walks.proofs.received.Polls.{Elsewhere, NoName, spares_recv}
use Rattle.wasi_walks.proofs.received.Late.{NoRecvOf, one_none, InHandLate, IncomingLate, ReceivedLate, ReceivingLate, incoming_late_more, long_more}
use Rattle.wasi_walks.proofs.Places.{push_found, push_was, put_finds, put_found, put_was, tcp_sort, udp_sort}

-- two names are the same or not
pub same_or_not : (a b : OpId) → (a ≡ b) ⊎ (a ≡ b → ⊥)
same_or_not a b = by_steps (a.step == b.step) refl
  where
    by_parts : a.step ≡ b.step → (t : Bool) → (a.part == b.part) ≡ t → (a ≡ b) ⊎ (a ≡ b → ⊥)
    by_parts e true p = let q : a.part ≡ b.part = eqb-true a.part b.part p in inl (ap (λ (n : ℕ). let x : OpId = record { step = n; part = a.part } in x) e ∙ ap (λ (n : ℕ). let x : OpId = record { step = b.step; part = n } in x) q)
    by_parts e false p = inr (λ s. eqb-false a.part b.part p (ap (λ (x : OpId). x.part) s))

    by_steps : (t : Bool) → (a.step == b.step) ≡ t → (a ≡ b) ⊎ (a ≡ b → ⊥)
    by_steps true p = by_parts (eqb-true a.step b.step p) (a.part == b.part) refl
    by_steps false p = inr (λ s. eqb-false a.step b.step p (ap (λ (x : OpId). x.step) s))

-- of the receive in progress alone
abbrev HandIsLate : ℕ → List Entry → OpId → Option Operation → Type 0
HandIsLate from es side (Some op) = InHandLate from es op.who.id side op.left
HandIsLate from es side None = ⊤

-- of what has come alone
abbrev CameIsLate : ℕ → List Entry → OpId → Option Kept → Type 0
CameIsLate from es side (Some k) = ReceivedLate from es side k.1
CameIsLate from es side None = ⊤

hand_of : (from : ℕ) (es : List Entry) (side : OpId) (inc : Option IncomingStream) → IncomingLate from es side inc → HandIsLate from es side (receiving_in inc)
hand_of from es side None k = tt
hand_of from es side (Some inc) k = of inc.receiving k
  where
    of : (r : Receiving) → ReceivingLate from es side r → HandIsLate from es side (receive_op r)
    of (Receiving.InProgress op) k = k
    of _ k = tt

came_of_it : (from : ℕ) (es : List Entry) (side : OpId) (inc : Option IncomingStream) → IncomingLate from es side inc → CameIsLate from es side (came_in inc)
came_of_it from es side None k = tt
came_of_it from es side (Some inc) k = of inc.receiving k
  where
    of : (r : Receiving) → ReceivingLate from es side r → CameIsLate from es side (came_from inc.remote (came_of r))
    of (Receiving.Came d) k = k
    of _ k = tt

both_late : (from : ℕ) (es : List Entry) (side : OpId) (inc : Option IncomingStream) → HandIsLate from es side (receiving_in inc) → CameIsLate from es side (came_in inc) → IncomingLate from es side inc
both_late from es side None k l = tt
both_late from es side (Some inc) k l = of inc.receiving k l
  where
    of : (r : Receiving) → HandIsLate from es side (receive_op r) → CameIsLate from es side (came_from inc.remote (came_of r)) → ReceivingLate from es side r
    of (Receiving.InProgress op) k l = k
    of (Receiving.Came d) k l = l
    of _ k l = tt

-- no two open UDP sockets are on one network socket
abbrev pub OneEach : List Record → Type 0
OneEach records = (i k : ℕ) (o p : OpenUdp) → udp2_at records i ≡ Some (UdpRecord.Open o) → udp2_at records k ≡ Some (UdpRecord.Open p) → o.inner.side ≡ p.inner.side → i ≡ k

module _ (side : OpId) where
  -- of one UDP socket, where it is on the network socket
  abbrev pub UdpLate : ℕ → List Entry → UdpRecord → Type 0
  UdpLate from es (UdpRecord.Open o) = o.inner.side ≡ side → IncomingLate from es side o.incoming
  UdpLate from es u = ⊤

  -- A UDP socket on the network socket is there.
  pub record IsHeld (records : List Record) : Type 0 where
    pub place : ℕ
    pub socket : OpenUdp
    pub found : udp2_at records place ≡ Some (UdpRecord.Open socket)
    pub is : socket.inner.side ≡ side

  -- Of all of them; and the log reaches the place.
  pub record Late (from : ℕ) (es : List Entry) (records : List Record) : Type 0 where
    pub long : from ≤ length es
    pub udps : (place : ℕ) (u : UdpRecord) → udp2_at records place ≡ Some u → UdpLate from es u

  -- there are no records at first
  pub first_late : Late 0 [] first_state.store.records
  first_late = record { long = omega arith; udps = λ place u e. absurd (cc) }

  -- under more entries, where none of them asks for a datagram of the network socket, if it is held
  udp_late_more : (from : ℕ) (es fs : List Entry) (records : List Record) (place : ℕ) (u : UdpRecord) → udp2_at records place ≡ Some u → (IsHeld records → ReceivesNone side fs) → UdpLate from es u → UdpLate from (es ++ fs) u
  udp_late_more from es fs records place (UdpRecord.Open o) g n k = λ e. incoming_late_more from es fs side o.incoming (n (record { place = place; socket = o; found = g; is = e })) (k e)
  udp_late_more from es fs records place (UdpRecord.Creating create) g n k = tt
  udp_late_more from es fs records place (UdpRecord.Closed x) g n k = tt

  late_more : (from : ℕ) (es fs : List Entry) (records : List Record) → (IsHeld records → ReceivesNone side fs) → Late from es records → Late from (es ++ fs) records
  late_more from es fs records n k = record { long = long_more from es fs k.long; udps = λ place u e. udp_late_more from es fs records place u e n (k.udps place u e) }

  pub one_late : (from : ℕ) (es : List Entry) (op : OpId) (c : Call) (told : Told) (records : List Record) → (IsHeld records → NoRecvOf side c) → Late from es records → Late from (es ++ entry op c told ∷ []) records
  one_late from es op c told records n k = late_more from es _ records (λ x. one_none side op c told (n x)) k

  -- along a tree that asks for none
  pub late_along : {A : Type 0} (from : ℕ) (records : List Record) (Q : List Entry → A → Type 0) (es : List Entry) (asks : Asks A) → Late from es records → Allows (Elsewhere side (IsHeld records) NoName) Q es asks → Allows Anything (λ fs a. Late from fs records × Q fs a) es asks
  late_along from records Q es asks k a = allows_keep (Elsewhere side (IsHeld records) NoName) Anything (λ fs. Late from fs records) Q (λ fs op c t fits m n. one_late from fs op c t records (λ x. spares_recv side NoName op c (n x)) m) (λ fs op c n. tt) es asks k a

  -- == a record changes, or joins them
  pub put_tcp : (from : ℕ) (es : List Entry) (records : List Record) (place : ℕ) (now : TcpRecord) → Late from es records → Late from es (tcp2_put records place now)
  put_tcp from es records place now k = record { long = k.long; udps = λ i u e. k.udps i u (put_was tcp_sort udp_sort (λ t. refl) records place now i u e) }

  pub push_tcp : (from : ℕ) (es : List Entry) (records : List Record) (now : TcpRecord) → Late from es records → Late from es (tcp2_pushed records now)
  push_tcp from es records now k = record { long = k.long; udps = λ i u e. k.udps i u (push_was tcp_sort udp_sort (λ t. refl) records now i u e) }

  pub put_udps : (from : ℕ) (es : List Entry) (records : List Record) (place : ℕ) (now : UdpRecord) → UdpLate from es now → Late from es records → Late from es (udp2_put records place now)
  put_udps from es records place now f k = record {
    long = k.long;
    udps = λ i u e. elim (put_found udp_sort records place now i u e) [ inl p ↦ subst (UdpLate from es) p.1 f | inr p ↦ k.udps i u p ];
  }

  pub push_udps : (from : ℕ) (es : List Entry) (records : List Record) (now : UdpRecord) → UdpLate from es now → Late from es records → Late from es (udp2_pushed records now)
  push_udps from es records now f k = record {
    long = k.long;
    udps = λ i u e. elim (push_found udp_sort records now i u e) [ inl p ↦ k.udps i u p | inr p ↦ subst (UdpLate from es) p.0 f ];
  }

  pub same_late : {new : LookupOp → Type 0} (from : ℕ) (es : List Entry) (old now : List Record) → SameSockets new old now → Late from es old → Late from es now
  same_late from es old now s k = record { long = k.long; udps = λ i u e. k.udps i u (sym (s.udp i) ∙ e) }

  pub fewer_late : (from : ℕ) (es : List Entry) (old : List Record) (place : ℕ) → Late from es old → Late from es (record_gone old place)
  fewer_late from es old place k = record { long = k.long; udps = λ i u e. k.udps i u (was_there udp2_of refl old place i u e) }

  -- a plain change
  pub plain_late : (from : ℕ) (es : List Entry) (o now : OpenUdp) → UdpPlain o now → UdpLate from es (UdpRecord.Open o) → UdpLate from es (UdpRecord.Open now)
  plain_late from es o now p k e =
      let was : IncomingLate from es side o.incoming = k (sym p.side ∙ e) in
      both_late from es side now.incoming
      (kept_op (HandIsLate from es side) tt (receiving_in o.incoming) (receiving_in now.incoming) p.receives (hand_of from es side o.incoming was))
      (kept_op (CameIsLate from es side) tt (came_in o.incoming) (came_in now.incoming) p.came (came_of_it from es side o.incoming was))

  -- the record of the network socket is this one, and what it holds is from another place on
  pub put_later : (upto : ℕ) (es : List Entry) (records : List Record) (place : ℕ) (o now : OpenUdp) → OneEach records → udp2_at records place ≡ Some (UdpRecord.Open o) → o.inner.side ≡ side → upto ≤ length es → UdpLate upto es (UdpRecord.Open now) → Late upto es (udp2_put records place (UdpRecord.Open now))
  put_later upto es records place o now one g is long k = record {
    long = long;
    udps = λ i u e. by_kind i u e;
  }
    where
      same_udp : (u v : UdpRecord) → Some u ≡ Some v → u ≡ v
      same_udp u v e = cc

      by_kind : (i : ℕ) (u : UdpRecord) → udp2_at (udp2_put records place (UdpRecord.Open now)) i ≡ Some u → UdpLate upto es u
      by_kind i (UdpRecord.Open p) e = λ q. elim (put_found udp_sort records place (UdpRecord.Open now) i (UdpRecord.Open p) e) [
        | inl a ↦ (let t : UdpLate upto es (UdpRecord.Open p) = subst (UdpLate upto es) a.1 k in t q)
        | inr a ↦ (
            let at : place ≡ i = one place i o p g a (is ∙ sym q) in
            let there : udp2_at (udp2_put records place (UdpRecord.Open now)) i ≡ Some (UdpRecord.Open now) = subst (λ (x : ℕ). udp2_at (udp2_put records place (UdpRecord.Open now)) x ≡ Some (UdpRecord.Open now)) at (put_finds udp_sort records place (UdpRecord.Open o) (UdpRecord.Open now) g) in
            let t : UdpLate upto es (UdpRecord.Open p) = subst (UdpLate upto es) (same_udp (UdpRecord.Open now) (UdpRecord.Open p) (sym there ∙ e)) k in
            t q)
      ]
      by_kind i (UdpRecord.Creating create) e = tt
      by_kind i (UdpRecord.Closed x) e = tt

-- The incoming stream of one handle, while it is live: all that it received was taken or waits.
use Rattle.wasi_causes.proofs.StreamsLive.{IsOther}
use Rattle.wasi_causes.proofs.Words.{Allows, Asks, Call, Entry, HandleTable, Kind, List, None, OpId, Option, Some, TcpRecord, Told, ap, arith, entry, eqb-false, eqb-true, false, inl, inr, kind_at, name_of, refl, subst, sym, true, with_handle, without_handle, Bool, ℕ, ⊤, ◌++◌, ◌==◌, ◌∙◌, ◌∷◌, ◌≡◌, ◌⊎◌, []}
use Rattle.wasi_table.proofs.Tables.{value_without}
use Rattle.wasi_world.specs.declared.call.HandleKind.TheVariants as name
use Rattle.wasi_world.specs.declared.datagram.IncomingDatagram.{IncomingDatagram}
use Rattle.wasi_world.specs.Operation.{CheckPeer}
use Rattle.wasi_addr.specs.declared.address.SocketAddrUse.TheVariants.{UdpReceive}
use Rattle.host_store.specs.Kinds.{incoming_of}
use Rattle.wasi_records.specs.Records.{tcp2_at, tcp2_put, tcp2_pushed, udp2_at, udp2_put, udp2_pushed}
use Rattle.udp_records.specs.declared.datagrams.Incoming.{Incoming as IncomingStream}
use Rattle.udp_records.specs.declared.datagrams.Receiving.{Receiving}
use Rattle.host_store.specs.declared.kind.Kind.TheVariants.{Incoming}
use Rattle.lookup_records.specs.declared.name_lookup.LookupOp.{LookupOp}
use Rattle.wasi_records.specs.declared.records.Record.{Record}
use Rattle.udp_records.specs.declared.udp.OpenUdp.{OpenUdp}
use Rattle.udp_records.specs.declared.udp.UdpRecord.{UdpRecord}
use Rattle.wasi_walks.proofs.Words.{allows_weaker, ◌≤◌}
use Rattle.wasi_walks.proofs.fits.Law.{whatever}
use Rattle.wasi_walks.proofs.fits.Polls.{Anything}
use Rattle.wasi_walks.proofs.received.Handles.{was_or_new}
use Rattle.wasi_walks.proofs.received.Polls.{Elsewhere, Spares}
use Rattle.wasi_walks.proofs.walks.States.{incoming_kind}
use Rattle.wasi_walks.proofs.walks.Moves.{SameSockets, receive_op}
use Rattle.wasi_causes.proofs.receiving.Along.{HandName, MarksNoStream, along_quiet, along_silent, asks_other, quiet}
use Rattle.wasi_causes.proofs.receiving.Named.{name_of_op}
use Rattle.wasi_causes.proofs.receiving.Unmarked.{Unmarked}
use Rattle.wasi_causes.proofs.receiving.Polled.{Exact, hand_in, hand_of, receiver_of, with_waiting}
use Rattle.wasi_walks.proofs.Places.{push_still, put_stays, put_still, tcp_sort, udp_sort}

-- two numbers are the same or not
pub same_place : (a b : ℕ) → (a ≡ b) ⊎ (a ≡ b → ⊥)
same_place a b = by_test (a == b) refl
  where
    by_test : (t : Bool) → (a == b) ≡ t → (a ≡ b) ⊎ (a ≡ b → ⊥)
    by_test true e = inl (eqb-true a b e)
    by_test false e = inr (eqb-false a b e)

-- what is in hand has the name of the receive in progress
pub its_name : (r : Receiving) (x : OpId) → HandName (hand_of r) x → name_of_op (receive_op r) ≡ Some x
its_name (Receiving.InProgress op) x k = by_items op.left k
  where
    by_items : (items : List _) → HandName (hand_in op.who.id items) x → Some op.who.id ≡ Some x
    by_items (CheckPeer only bytes a ∷ items) k = ap (λ (y : OpId). Some y) k
    by_items _ k = absurd k
its_name _ x k = absurd k

-- calls that do nothing to any stream
abbrev pub IsElse : Call → Type 0
IsElse (Call.Recv x) = ⊥
IsElse (Call.Check ctx a UdpReceive) = ⊥
IsElse (Call.Made handle name.Incoming parent sock) = ⊥
IsElse _ = ⊤

pub spares_else : (side : OpId) (Names : OpId → Type 0) (op : OpId) (c : Call) → IsElse c → Spares side Names op c
spares_else side Names op (Call.Recv x) n = absurd n
spares_else side Names op (Call.Check ctx a UdpReceive) n = absurd n
spares_else side Names op _ n = tt

else_unmarked : (side : OpId) (c : Call) → IsElse c → MarksNoStream side c
else_unmarked side (Call.Made handle name.Incoming parent sock) n = absurd n
else_unmarked side _ n = tt

-- nor does the mark of anything but an incoming stream
pub mark_else : (handle : ℕ) (kind : Kind) (parent : Option ℕ) (sock : Option OpId) → IsOther kind → IsElse (Call.Made handle (name_of kind) parent sock)
mark_else handle (Incoming place) parent sock other = absurd other
mark_else handle _ parent sock other = tt

-- == of one handle, on which so much was handed out
module _ (handle : ℕ) (list : List IncomingDatagram) where
  -- what is known of its stream, in this socket
  abbrev pub Knows : List Entry → OpenUdp → IncomingStream → Type 0
  Knows es o inc = Exact handle o.inner.side inc.remote es list inc.receiving

  -- The stream is in the record of this place.
  pub record StreamAt (es : List Entry) (records : List Record) (place : ℕ) : Type 0 where
    pub socket : OpenUdp
    pub at : udp2_at records place ≡ Some (UdpRecord.Open socket)
    pub stream : IncomingStream
    pub has : socket.incoming ≡ Some stream
    pub knows : Knows es socket stream

  -- while the handle is live
  abbrev pub StreamIs : List Entry → HandleTable → List Record → Type 0
  StreamIs es t records = (place : ℕ) → kind_at t handle ≡ Some (Incoming place) → StreamAt es records place

  -- and before it is made nothing was handed out on it
  abbrev pub IsFresh : HandleTable → Type 0
  IsFresh t = t.next ≤ handle → list ≡ []

  -- == more entries
  pub at_more : (es : List Entry) (op : OpId) (c : Call) (told : Told) (records : List Record) (place : ℕ) (s : StreamAt es records place) → Spares s.socket.inner.side (HandName (hand_of s.stream.receiving)) op c → MarksNoStream s.socket.inner.side c → StreamAt (es ++ entry op c told ∷ []) records place
  at_more es op c told records place s spares none =
      let side = s.socket.inner.side in
      let hand = hand_of s.stream.receiving in
      record {
        socket = s.socket;
        at = s.at;
        stream = s.stream;
        has = s.has;
        knows = along_quiet handle side s.stream.remote es (entry op c told) (with_waiting list s.stream.receiving) hand (receiver_of s.stream.receiving) (quiet side s.stream.remote hand op c told spares) (asks_other handle side s.stream.remote hand (receiver_of s.stream.receiving) (HandName hand) op c told spares) none s.knows;
      }

  pub stream_more : (es : List Entry) (op : OpId) (c : Call) (told : Told) (t : HandleTable) (records : List Record) → IsElse c → StreamIs es t records → StreamIs (es ++ entry op c told ∷ []) t records
  stream_more es op c told t records n k place e =
      let s = k place e in
      at_more es op c told records place s (spares_else s.socket.inner.side (HandName (hand_of s.stream.receiving)) op c n) (else_unmarked s.socket.inner.side c n)

  -- along a tree, by the place of the stream
  pub stream_along : {A : Type 0} (t : HandleTable) (end : A → List Record) (es : List Entry) (asks : Asks A) → ((place : ℕ) → kind_at t handle ≡ Some (Incoming place) → Allows Anything (λ fs a. StreamAt fs (end a) place) es asks) → Allows Anything (λ fs a. StreamIs fs t (end a)) es asks
  stream_along {A} t end es asks f = by_place (incoming_of (kind_at t handle)) refl
    where
      its : (place : ℕ) → kind_at t handle ≡ Some (Incoming place) → (fs : List Entry) (a : A) → StreamAt fs (end a) place → StreamIs fs t (end a)
      its place e fs a s other d = subst (StreamAt fs (end a)) (let p : Some (Incoming place) ≡ Some (Incoming other) = sym e ∙ d in cc) s

      by_place : (o : Option ℕ) → incoming_of (kind_at t handle) ≡ o → Allows Anything (λ fs a. StreamIs fs t (end a)) es asks
      by_place (Some place) e = let k = incoming_kind (kind_at t handle) place e in allows_weaker Anything (λ fs a. StreamAt fs (end a) place) (λ fs a. StreamIs fs t (end a)) (its place k) es asks (f place k)
      by_place None e = allows_weaker Anything (λ fs a. ⊤) (λ fs a. StreamIs fs t (end a)) (λ fs a u place d. let p : None ≡ Some place = sym e ∙ ap (λ (k : Option Kind). incoming_of k) d in absurd (cc)) es asks (whatever (λ a. ⊤) (λ a. tt) es asks)

  -- which does nothing to it
  pub at_silent : {A : Type 0} (es : List Entry) (records : List Record) (place : ℕ) (asks : Asks A) (s : StreamAt es records place) → Allows (Elsewhere s.socket.inner.side ⊤ (HandName (hand_of s.stream.receiving))) (λ fs a. ⊤) es asks → Allows Unmarked (λ fs a. ⊤) es asks → Allows Anything (λ fs a. StreamAt fs records place) es asks
  at_silent es records place asks s n u =
      let side = s.socket.inner.side in
      allows_weaker Anything (λ fs a. Knows fs s.socket s.stream) (λ fs a. StreamAt fs records place) (λ fs a k. record { socket = s.socket; at = s.at; stream = s.stream; has = s.has; knows = k }) es asks
      (along_silent handle side s.stream.remote es asks (with_waiting list s.stream.receiving) (hand_of s.stream.receiving) (receiver_of s.stream.receiving) s.knows n u)

  -- == records change
  -- what the stream's socket becomes, where it was this one
  pub record NowHas (es : List Entry) (now : UdpRecord) : Type 0 where
    pub socket : OpenUdp
    pub is : now ≡ UdpRecord.Open socket
    pub stream : IncomingStream
    pub has : socket.incoming ≡ Some stream
    pub knows : Knows es socket stream

  abbrev pub Becomes : List Entry → UdpRecord → UdpRecord → Type 0
  Becomes es u now = (o : OpenUdp) (inc : IncomingStream) → u ≡ UdpRecord.Open o → o.incoming ≡ Some inc → Knows es o inc → NowHas es now

  -- it is on the same network socket, and has the same stream
  pub stays_so : (es : List Entry) (o now : OpenUdp) → now.inner.side ≡ o.inner.side → now.incoming ≡ o.incoming → Becomes es (UdpRecord.Open o) (UdpRecord.Open now)
  stays_so es o now side same p inc e has k =
      let is : p ≡ o = cc in
      record { socket = now; is = refl; stream = inc; has = same ∙ (ap (λ (x : OpenUdp). x.incoming) (sym is) ∙ has); knows = subst (λ (x : OpId). Exact handle x inc.remote es list inc.receiving) (ap (λ (x : OpenUdp). x.inner.side) is ∙ sym side) k }

  same_udp : (u v : UdpRecord) → Some u ≡ Some v → u ≡ v
  same_udp u v e = cc

  at_put : (es : List Entry) (records : List Record) (k place : ℕ) (u now : UdpRecord) → udp2_at records k ≡ Some u → (place ≡ k → Becomes es u now) → StreamAt es records place → StreamAt es (udp2_put records k now) place
  at_put es records k place u now g becomes s = elim (put_stays udp_sort records k now place (UdpRecord.Open s.socket) s.at) [
    | inl same ↦ record { socket = s.socket; at = same; stream = s.stream; has = s.has; knows = s.knows }
    | inr its ↦ (
        let it : u ≡ UdpRecord.Open s.socket = same_udp u (UdpRecord.Open s.socket) (sym g ∙ (ap (udp2_at records) (sym its.0) ∙ s.at)) in
        let n = becomes its.0 s.socket s.stream it s.has s.knows in
        record { socket = n.socket; at = its.1 ∙ ap (λ (x : UdpRecord). Some x) n.is; stream = n.stream; has = n.has; knows = n.knows })
  ]

  -- one at another place
  pub at_other : (es : List Entry) (records : List Record) (k place : ℕ) (now : UdpRecord) → (k ≡ place → ⊥) → StreamAt es records place → StreamAt es (udp2_put records k now) place
  at_other es records k place now n s = elim (put_stays udp_sort records k now place (UdpRecord.Open s.socket) s.at) [
    | inl same ↦ record { socket = s.socket; at = same; stream = s.stream; has = s.has; knows = s.knows }
    | inr its ↦ absurd (n (sym its.0))
  ]

  pub put_at : (es : List Entry) (t : HandleTable) (records : List Record) (k place : ℕ) (u now : UdpRecord) → udp2_at records k ≡ Some u → kind_at t handle ≡ Some (Incoming place) → (kind_at t handle ≡ Some (Incoming k) → Becomes es u now) → StreamAt es records place → StreamAt es (udp2_put records k now) place
  put_at es t records k place u now g e becomes s = at_put es records k place u now g (λ same. becomes (e ∙ ap (λ (x : ℕ). Some (Incoming x)) same)) s

  pub stream_put : (es : List Entry) (t : HandleTable) (records : List Record) (k : ℕ) (u now : UdpRecord) → udp2_at records k ≡ Some u → (kind_at t handle ≡ Some (Incoming k) → Becomes es u now) → StreamIs es t records → StreamIs es t (udp2_put records k now)
  stream_put es t records k u now g becomes i place e = put_at es t records k place u now g e becomes (i place e)

  pub tcp_at : (es : List Entry) (records : List Record) (k place : ℕ) (r now : TcpRecord) → tcp2_at records k ≡ Some r → StreamAt es records place → StreamAt es (tcp2_put records k now) place
  tcp_at es records k place r now g s = record { socket = s.socket; at = put_still tcp_sort udp_sort (λ t. refl) records k r now place _ g s.at; stream = s.stream; has = s.has; knows = s.knows }

  pub stream_put_tcp : (es : List Entry) (t : HandleTable) (records : List Record) (k : ℕ) (r now : TcpRecord) → tcp2_at records k ≡ Some r → StreamIs es t records → StreamIs es t (tcp2_put records k now)
  stream_put_tcp es t records k r now g i place e = tcp_at es records k place r now g (i place e)

  pub stream_push_tcp : (es : List Entry) (t : HandleTable) (records : List Record) (now : TcpRecord) → StreamIs es t records → StreamIs es t (tcp2_pushed records now)
  stream_push_tcp es t records now i place e = let s = i place e in record { socket = s.socket; at = push_still tcp_sort udp_sort records now place _ s.at; stream = s.stream; has = s.has; knows = s.knows }

  pub stream_push : (es : List Entry) (t : HandleTable) (records : List Record) (now : UdpRecord) → StreamIs es t records → StreamIs es t (udp2_pushed records now)
  stream_push es t records now i place e = let s = i place e in record { socket = s.socket; at = push_still udp_sort udp_sort records now place _ s.at; stream = s.stream; has = s.has; knows = s.knows }

  pub stream_same : {new : LookupOp → Type 0} (es : List Entry) (t : HandleTable) (records now : List Record) → SameSockets new records now → StreamIs es t records → StreamIs es t now
  stream_same es t records now same i place e = let s = i place e in record { socket = s.socket; at = same.udp place ∙ s.at; stream = s.stream; has = s.has; knows = s.knows }

  -- what is open stays
  pub stream_stays : (es : List Entry) (t : HandleTable) (records now : List Record) → ((k : ℕ) (o : OpenUdp) → udp2_at records k ≡ Some (UdpRecord.Open o) → udp2_at now k ≡ Some (UdpRecord.Open o)) → StreamIs es t records → StreamIs es t now
  stream_stays es t records now stays i place e = let s = i place e in record { socket = s.socket; at = stays place s.socket s.at; stream = s.stream; has = s.has; knows = s.knows }

  -- == the table changes
  pub stream_without : (es : List Entry) (t : HandleTable) (records : List Record) (gone : ℕ) → StreamIs es t records → StreamIs es (without_handle t gone) records
  stream_without es t records gone i place e = i place (value_without t.live gone handle (Incoming place) e)

  pub stream_with : (es : List Entry) (t : HandleTable) (records : List Record) (kind : Kind) (parent : Option ℕ) → IsOther kind → StreamIs es t records → StreamIs es (with_handle t kind parent) records
  stream_with es t records kind parent other i place e = elim (was_or_new t kind parent handle (Incoming place) e) [ inl was ↦ i place was | inr new ↦ absurd (subst (IsOther) new.1 other) ]

  pub fresh_with : (t : HandleTable) (kind : Kind) (parent : Option ℕ) → IsFresh t → IsFresh (with_handle t kind parent)
  fresh_with t kind parent f l = f (omega arith)

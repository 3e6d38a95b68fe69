-- A `udp-receive` hands out what its stream received, from where it was on: each datagram of it in turn.
use Rattle.std.specs.Prelude.{◌-◌, ◌+◌, min}
use Rattle.wasi_causes.proofs.Words.{Allows, Answer, Asks, Call, Entry, Err, ErrorCode, IpSocketAddress, List, None, Ok, OpId, Operation, Option, Pending, Ready, Result, Some, Stop, length, [], allows_if, allows_then, append-nil, append_assoc, bind, poll_asks, refl, subst, suc, sym, told_addr, zero, ℕ, ◌++◌, ◌∙◌, ◌∷◌, ◌≡◌}
use Rattle.wasi_world.specs.declared.datagram.IncomingDatagram.{IncomingDatagram}
use Rattle.wasi_world.specs.declared.ids.Ids.{Ids}
use Rattle.wasi_udp.specs.Receive.{IsReceive, receive_asks, wanting}
use Rattle.wasi_udp.specs.Shape.{Socket}
use Rattle.wasi_udp.specs.Socket.{bound_asks}
use Rattle.record_common.specs.Names.{names_after, next_name}
use Rattle.udp_records.specs.Receiving.{all_received, fetch_asks, fetch_names, poll_receive_asks, receive_after, receive_all, receive_datagrams_asks, receive_left, receive_next_asks, received_told, taken, with_receiving}
use Rattle.udp_records.specs.declared.datagrams.Incoming.{Incoming}
use Rattle.udp_records.specs.declared.datagrams.Receiving.{Receiving}
use Rattle.udp_records.specs.declared.udp.OpenUdp.{OpenUdp}
use Rattle.wasi_walks.proofs.fits.Polls.{Anything}
use Rattle.wasi_walks.proofs.fits.UdpFits.{begun_receive, learnt_side}
use Rattle.wasi_walks.specs.Allowed.{Has}
use Rattle.wasi_walks.proofs.Words.{arith, ◌≤◌}
use Rattle.wasi_walks.proofs.licence.Replies.{allows_both}
use Rattle.wasi_walks.proofs.walks.Here.{IsOlder, IsToCome, next_given, next_grows, next_to_come, not_given}
use Rattle.wasi_walks.proofs.walks.Moves.{Names, Own}
use Rattle.wasi_causes.proofs.receiving.Along.{Along, HandName, along_named, along_quiet, asks_other, quiet}
use Rattle.wasi_causes.proofs.receiving.Older.{AllOlder, all_grow, else_none, one_older, polled as all_polled}
use Rattle.wasi_causes.proofs.receiving.Polled.{Exact, hand_in, poll_exact}
use Rattle.wasi_causes.proofs.receiving.Polls.{begun_none}

module _ (handle : ℕ) (side : OpId) (only : Option IpSocketAddress) where
  -- the socket is on the network socket, its stream keeps the address, and so much was taken from it
  abbrev pub Holds : List IncomingDatagram → List Entry → Socket × Incoming → Type 0
  Holds list es s = (s.0.side ≡ side) × (s.1.remote ≡ only) × Exact handle side only es list s.1.receiving

  -- each `recv` is by a name before the next one
  abbrev pub Olds : Ids → List Entry → Type 0
  Olds ids es = AllOlder ids.line (Names ids.next_part) es × (1 ≤ ids.next_part)

  -- it is asked whether it is bound
  bounds : (list : List IncomingDatagram) (es : List Entry) (ids : Ids) (op : OpId) (socket : Socket) → socket.side ≡ side → Along handle side only es list None None → Olds ids es → Allows Anything (λ fs b. ((b.1.side ≡ side) × Along handle side only fs list None None) × Olds ids fs) es (bound_asks op socket)
  unfolding bind
  bounds list es ids op socket on k old =
      allows_if Anything (λ fs b. ((b.1.side ≡ side) × Along handle side only fs list None None) × Olds ids fs) es socket.bound _ _ (λ yes. ((on, k), old))
      (λ no. (
        tt,
        λ t fits. (
          (learnt_side socket (told_addr t) ∙ on, along_quiet handle side only es _ list None None (quiet side only None op (Call.Local socket.side) t tt) (asks_other handle side only None None (HandName None) op (Call.Local socket.side) t tt) tt k),
          (one_older ids.line (Names ids.next_part) es op (Call.Local socket.side) t (else_none ids.line (Names ids.next_part) op (Call.Local socket.side) tt) old.0, old.1),
        ),
      ))

  -- A receive that begins is on the network socket, and has nothing in hand. Its name is the next one.
  record Begun (list : List IncomingDatagram) (ids : Ids) (es : List Entry) (begun : Operation × Socket) : Type 0 where
    pub on : begun.1.side ≡ side
    pub receive : IsReceive begun.0
    pub of_side : begun.0.who.side ≡ side
    pub hand : Along handle side only es list (hand_in begun.0.who.id begun.0.left) (Some begun.0.who.id)
    pub named : begun.0.who.id ≡ next_name ids
    pub olds : Olds ids es

  not_yet : (ids : Ids) (es : List Entry) → Olds ids es → (e : Entry) → Has es e → e.op ≡ next_name ids → e.call ≡ Call.Recv side → ⊥
  not_yet ids es old e h q c =
      not_given ids.line (Names ids.next_part) e.op (old.0 e side h c (subst (λ (x : OpId). 1 ≤ x.part) (sym q) old.1))
      (subst (IsToCome ids.line (Names ids.next_part)) (sym q) (next_to_come ids.line ids.next_part (Names ids.next_part) refl))

  begins : (list : List IncomingDatagram) (es : List Entry) (ids : Ids) (socket : Socket) → socket.side ≡ side → Along handle side only es list None None → Olds ids es → Allows Anything (λ fs begun. Begun list ids fs begun) es (receive_asks (next_name ids) socket)
  begins list es ids socket on k old =
      allows_then Anything (λ fs b. ((b.1.side ≡ side) × Along handle side only fs list None None) × Olds ids fs) (λ fs begun. Begun list ids fs begun) es (bound_asks (next_name ids) socket) _ (bounds list es ids (next_name ids) socket on k old)
      (λ fs b m.
      let its = begun_receive (next_name ids) b.1 b.0 in
      record {
        on = m.0.0;
        receive = its.receive;
        of_side = its.of_side ∙ m.0.0;
        hand = subst (λ (hand : Option _). Along handle side only fs list hand (Some (next_name ids))) (sym (begun_none (next_name ids) b.0)) (along_named handle side only fs list None None (next_name ids) (not_yet ids fs m.1) m.0.1);
        named = refl;
        olds = m.1;
      })

  -- and is polled
  poll_older : (ids : Ids) (es : List Entry) (op : Operation) → op.who.id ≡ next_name ids → Olds ids es → Allows Anything (λ fs ended. AllOlder ids.line (Names (ids.next_part + 1)) fs) es (poll_asks op)
  poll_older ids es op named old =
      let now : Own = Names (ids.next_part + 1) in
      all_polled ids.line now op es (all_grow ids.line (Names ids.next_part) now es (next_grows ids.line ids.next_part (Names ids.next_part) refl) old.0) (λ l. subst (IsOlder ids.line now) (sym named) (next_given ids.line ids.next_part))

  polled : (list : List IncomingDatagram) (es : List Entry) (ids : Ids) (inc : Incoming) → inc.remote ≡ only → (begun : Operation × Socket) → Begun list ids es begun → Allows Anything (λ fs s. Holds list fs s × Olds (names_after ids) fs) es (poll_receive_asks begun.1 inc begun.0)
  polled list es ids inc keeps begun k =
      allows_then Anything (λ fs ended. Exact handle side only fs list (receive_left begun.0 ended) × AllOlder ids.line (Names (ids.next_part + 1)) fs) (λ fs s. Holds list fs s × Olds (names_after ids) fs) es (poll_asks (wanting inc.remote begun.0)) _
      (allows_both Anything Anything (λ fs ended. Exact handle side only fs list (receive_left begun.0 ended)) (λ fs ended. AllOlder ids.line (Names (ids.next_part + 1)) fs) es (poll_asks (wanting inc.remote begun.0))
      (subst (λ (kept : Option IpSocketAddress). Allows Anything (λ fs ended. Exact handle side only fs list (receive_left begun.0 ended)) es (poll_asks (wanting kept begun.0))) (sym keeps)
      (subst (λ (x : OpId). Allows Anything (λ fs ended. Exact handle x only fs list (receive_left begun.0 ended)) es (poll_asks (wanting only begun.0))) k.of_side
      (poll_exact handle only list begun.0 es k.receive (subst (λ (x : OpId). Along handle x only es list (hand_in begun.0.who.id begun.0.left) (Some begun.0.who.id)) (sym k.of_side) k.hand))))
      (poll_older ids es (wanting inc.remote begun.0) k.named k.olds))
      (λ fs ended m. ((k.on, keeps, m.0), (m.1, omega arith)))

  -- where none is in progress and none has ended
  fetches : (list : List IncomingDatagram) (es : List Entry) (ids : Ids) (s : Socket × Incoming) (receiving : Receiving) → s.1.receiving ≡ receiving → Holds list es s → Olds ids es → Allows Anything (λ fs t. Holds list fs t × Olds (fetch_names receiving ids) fs) es (fetch_asks (next_name ids) receiving s)
  fetches list es ids s Receiving.Nothing e k old =
      allows_then Anything (λ fs begun. Begun list ids fs begun) (λ fs t. Holds list fs t × Olds (names_after ids) fs) es (receive_asks (next_name ids) s.0) _ (begins list es ids s.0 k.0 (subst (λ (r : Receiving). Exact handle side only es list r) e k.2) old) (λ fs begun m. polled list fs ids s.1 k.1 begun m)
  fetches list es ids s _ e k old = (k, old)

  -- what has come is taken
  abbrev Took : List IncomingDatagram → List Entry → Result (Answer IncomingDatagram) ErrorCode × (Socket × Incoming) → Type 0
  Took list es (Ok (Ready d), s) = Holds (list ++ d ∷ []) es s
  Took list es (_, s) = Holds list es s

  takes : (list : List IncomingDatagram) (es : List Entry) (socket : Socket) (inc : Incoming) (r : Receiving) → socket.side ≡ side → inc.remote ≡ only → Exact handle side only es list r → Took list es ((taken r).0, (socket, with_receiving inc (taken r).1))
  takes list es socket inc Receiving.Nothing on keeps k = (on, keeps, k)
  takes list es socket inc (Receiving.InProgress op) on keeps k = (on, keeps, k)
  takes list es socket inc (Receiving.Came d) on keeps k = (on, keeps, k)
  takes list es socket inc (Receiving.Failed c) on keeps k = (on, keeps, k)

  nexts : (list : List IncomingDatagram) (es : List Entry) (ids : Ids) (s : Socket × Incoming) → Holds list es s → Olds ids es → Allows Anything (λ fs done. Took list fs done × Olds (fetch_names s.1.receiving ids) fs) es (receive_next_asks (next_name ids) s)
  nexts list es ids s k old =
      allows_then Anything (λ fs t. Holds list fs t × Olds (fetch_names s.1.receiving ids) fs) (λ fs done. Took list fs done × Olds (fetch_names s.1.receiving ids) fs) es (fetch_asks (next_name ids) s.1.receiving s) _ (fetches list es ids s s.1.receiving refl k old)
      (λ fs t m. (takes list fs t.0 t.1 t.1.receiving m.0.0 m.0.1 m.0.2, m.1))

  -- == datagrams in turn
  -- these are given: none where it ends with a code
  abbrev pub IsGiven : {E : Type 0} → Result (List IncomingDatagram) E → List IncomingDatagram → Type 0
  IsGiven (Ok ds) new = ds ≡ new
  IsGiven (Err why) new = new ≡ []

  -- What all of them leave.
  pub record Ends (list : List IncomingDatagram) (es : List Entry) (done : Result (List IncomingDatagram) ErrorCode × (Socket × Incoming)) : Type 0 where
    pub new : List IncomingDatagram
    pub gives : IsGiven done.0 new
    pub holds : Holds (list ++ new) es done.1

  module _ (list : List IncomingDatagram) where
    ends : (es : List Entry) (so_far : List IncomingDatagram) (c : ErrorCode) (s : Socket × Incoming) → Holds (list ++ so_far) es s → Ends list es (received_told so_far c, s)
    ends es [] c s k = record { new = []; gives = refl; holds = k }
    ends es (d ∷ ds) c s k = record { new = d ∷ ds; gives = refl; holds = k }

    follows : (es : List Entry) (so_far : List IncomingDatagram) (more : IncomingDatagram → Socket × Incoming → Asks (Result (List IncomingDatagram) ErrorCode × (Socket × Incoming)))
        → ((d : IncomingDatagram) (s : Socket × Incoming) → Holds (list ++ (so_far ++ d ∷ [])) es s → Allows Anything (λ fs done. Ends list fs done) es (more d s))
        → (done : Result (Answer IncomingDatagram) ErrorCode × (Socket × Incoming)) → Took (list ++ so_far) es done → Allows Anything (λ fs done. Ends list fs done) es (receive_after so_far more done)
    follows es so_far more again (Ok (Ready d), s) k = again d s (subst (λ (ds : List IncomingDatagram). Holds ds es s) (append_assoc list so_far (d ∷ [])) k)
    follows es so_far more again (Ok Pending, s) k = record { new = so_far; gives = refl; holds = k }
    follows es so_far more again (Err c, s) k = ends es so_far c s k

    pub all_taken : (n room : ℕ) (ids : Ids) (so_far : List IncomingDatagram) (s : Socket × Incoming) (es : List Entry) → Holds (list ++ so_far) es s → Olds ids es → Allows Anything (λ fs done. Ends list fs done) es (receive_all n room ids so_far s)
    all_taken zero room ids so_far s es k old = record { new = so_far; gives = refl; holds = k }
    all_taken (suc n) zero ids so_far s es k old = record { new = so_far; gives = refl; holds = k }
    all_taken (suc n) (suc room) ids so_far s es k old =
        allows_then Anything (λ fs done. Took (list ++ so_far) fs done × Olds (fetch_names s.1.receiving ids) fs) (λ fs done. Ends list fs done) es (receive_next_asks (next_name ids) s) _ (nexts (list ++ so_far) es ids s k old)
        (λ fs done m. follows fs so_far _ (λ d t x. all_taken n (room - length d.bytes) (fetch_names s.1.receiving ids) (so_far ++ d ∷ []) t fs x m.1) done m.0)

-- == of a socket
-- What a receive of the socket's stream leaves, from which so much was taken before.
pub record Leaves (handle : ℕ) (list : List IncomingDatagram) (o : OpenUdp) (inc : Incoming) (es : List Entry) (done : Result (List IncomingDatagram) Stop × OpenUdp) : Type 0 where
  pub new : List IncomingDatagram
  pub gives : IsGiven handle o.inner.side inc.remote done.0 new
  pub stream : Incoming
  pub has : done.1.incoming ≡ Some stream
  pub knows : Exact handle done.1.inner.side stream.remote es (list ++ new) stream.receiving

leaves : (handle : ℕ) (list : List IncomingDatagram) (o : OpenUdp) (inc : Incoming) (es : List Entry) (done : Result (List IncomingDatagram) ErrorCode × (Socket × Incoming)) → Ends handle o.inner.side inc.remote list es done → Leaves handle list o inc es (all_received o done)
leaves handle list o inc es (Ok ds, s) k = record { new = k.new; gives = k.gives; stream = s.1; has = refl; knows = rw (k.holds.0, k.holds.1) k.holds.2 }
leaves handle list o inc es (Err c, s) k = record { new = k.new; gives = k.gives; stream = s.1; has = refl; knows = rw (k.holds.0, k.holds.1) k.holds.2 }

pub receives_exact : (handle : ℕ) (list : List IncomingDatagram) (o : OpenUdp) (inc : Incoming) (es : List Entry) (ids : Ids) (most : ℕ) → Exact handle o.inner.side inc.remote es list inc.receiving → Olds handle o.inner.side inc.remote ids es → Allows Anything (λ fs done. Leaves handle list o inc fs done) es (receive_datagrams_asks ids most o (Some inc))
receives_exact handle list o inc es ids most k old =
    allows_then Anything (λ fs done. Ends handle o.inner.side inc.remote list fs done) (λ fs done. Leaves handle list o inc fs done) es (receive_all (min most 16) 65536 ids [] (o.inner, inc)) _
    (all_taken handle o.inner.side inc.remote list (min most 16) 65536 ids [] (o.inner, inc) es (refl, refl, subst (λ (ds : List IncomingDatagram). Exact handle o.inner.side inc.remote es ds inc.receiving) (sym (append-nil list)) k) old) (λ fs done m. leaves handle list o inc fs done m)

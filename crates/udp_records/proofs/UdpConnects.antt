-- A connect of a UDP socket, by which its datagram streams are made, or not in 0.3: what its poll asks, and that it makes no network
-- socket and closes none.
use Rattle.std.proofs.Common.{◌≡◌, Bool, true, false, List, Option, Some, None, refl, sym, subst, ◌∙◌}
use Rattle.std.specs.Prelude.{Result, Ok, Err, OnErr}
use Rattle.std.specs.declared.alloc.AllocError.{AllocError}
use Rattle.wasi_addr.specs.declared.address.IpSocketAddress.{IpSocketAddress}
use Rattle.wasi_addr.specs.declared.code.ErrorCode.{ErrorCode}
use Rattle.wasi_world.specs.declared.ids.OpId.{OpId}
use Rattle.wasi_world.specs.declared.outcome.Answer.{Answer}
use Rattle.wasi_world.specs.declared.outcome.Answer.TheVariants.{Ready, Pending}
use Rattle.wasi_world.specs.declared.outcome.Refusal.{Refusal}
use Rattle.wasi_world.specs.declared.outcome.Refusal.TheVariants as refusal
use Rattle.wasi_world.specs.Seen.{Seen}
use Rattle.wasi_world.specs.Asks.{Asks, Give, bind, Reaches, AsksFor, outcome}
use Rattle.wasi_world.specs.Operation.{Operation, Item, End, Waits, Done, Refused, poll_asks}
use Rattle.wasi_world.proofs.Walks.{asks_at, asks_end, asks_given, asks_gives, reaches_in, asks_err, asks_ok}
use Rattle.socket_common.specs.Rounds.{is_going, stays_going}
use Rattle.wasi_udp.specs.Connect.{connect_ended, connect_poll_asks}
use Rattle.wasi_udp.specs.Shape.{Socket}
use Rattle.wasi_udp.specs.Socket.{is_connected, disconnect_asks}
use Rattle.udp_records.specs.declared.udp.OpenUdp.{OpenUdp}
use Rattle.udp_records.specs.Datagrams.{with_streams, disconnect_streams, streams_to, streams_where, udp_connect_ended, udp_connect_settled, poll_udp_connecting, poll_udp_connect_asks}
use Rattle.udp_records.specs.Datagrams.{udp_reconnect_asks, udp_reconnect_ended, udp_reconnect_settled, udp_reconnecting}
use Rattle.udp_records.specs.Udp.{with_udp_inner}
use Rattle.udp_records.proofs.UdpPolls.{gives_twice}

-- the record that the connect was taken out of, with the socket that it left
abbrev pub unconnecting : OpenUdp → Socket → OpenUdp
unconnecting o socket = record o { inner = socket; connecting = None }

-- what it makes of its record
abbrev made_of : OpenUdp → Result (Answer (Unit {0})) ErrorCode × (Operation × Socket) → Result (Answer (Unit {0})) ErrorCode × OpenUdp
made_of o (Ok (Ready d), left) = (Ok (Ready tt), with_streams (unconnecting o left.1))
made_of o (Ok Pending, left) = (Ok Pending, record o { inner = left.1; connecting = Some left.0 })
made_of o (Err c, left) = (Err c, unconnecting o left.1)

made_so : (o : OpenUdp) (op : Operation) (ended : End × List Item) → made_of o (connect_ended op.who o.inner ended) ≡ udp_connect_ended op o ended
made_so o op (Waits, items) = refl
made_so o op (Done given, items) = refl
made_so o op (Refused c given, items) = refl

same_tree : (o : OpenUdp) (op : Operation) → bind (bind (poll_asks op) (λ ended. Give (connect_ended op.who o.inner ended))) (λ done. Give (made_of o done)) ≡ bind (poll_asks op) (λ ended. Give (udp_connect_ended op o ended))
same_tree o op = gives_twice (connect_ended op.who o.inner) (made_of o) (poll_asks op) ∙ (λ i. bind (poll_asks op) (λ ended. Give (made_so o op ended i)))

connected_as : (o : OpenUdp) (op now : Operation) (socket : Socket) (p : Result (Answer (Unit {0})) Refusal) {s t : Seen} → AsksFor (bind (poll_asks op) (λ ended. Give (udp_connect_ended op o ended))) s t (λ (answer : Result (Answer (Unit {0})) ErrorCode). made_of o (answer, (now, socket))) (outcome p)
    → AsksFor (bind (poll_asks op) (λ ended. Give (udp_connect_ended op o ended))) s t (λ answer. (answer, udp_connect_settled now (unconnecting o socket) p)) (outcome p)
connected_as o op now socket (Ok (Ready d)) h = asks_ok h.ok
connected_as o op now socket (Ok Pending) h = asks_ok h.ok
connected_as o op now socket (Err (refusal.Code c)) h = asks_ok h.ok
connected_as o op now socket (Err (refusal.Memory e)) h = asks_err _ h.err.reached

pub udp_connect_polled : (o : OpenUdp) (op now : Operation) (socket : Socket) (p : Result (Answer (Unit {0})) Refusal) {s t : Seen} → Some op ≡ o.connecting → is_going op ≡ true → AsksFor (connect_poll_asks op o.inner) s t (λ answer. (answer, (now, socket))) (outcome p)
    → AsksFor (poll_udp_connect_asks o) s t (λ answer. (answer, udp_connect_settled now (unconnecting o socket) p)) (outcome p)
udp_connect_polled o op now socket p {s} {t} e going h =
    let P : Asks (Result (Answer (Unit {0})) ErrorCode × OpenUdp) → Type 0 = λ asks. AsksFor asks s t (λ (answer : Result (Answer (Unit {0})) ErrorCode). made_of o (answer, (now, socket))) (outcome p) in
    asks_at (poll_udp_connecting o) (sym e) (connected_as o op now socket p (subst P (same_tree o op) (asks_gives (made_of o) (rw going at h))))

-- the record that has the connect still, with the socket that it left
abbrev kept_in : OpenUdp → Socket → Operation → OpenUdp
kept_in o socket now = record (unconnecting o socket) { connecting = Some now }

goes_on : (o : OpenUdp) (socket : Socket) (now : Operation) (ended : End × List Item) → made_of o (connect_ended now.who socket ended) ≡ udp_connect_ended now (kept_in o socket now) ended
goes_on o socket now (Waits, items) = refl
goes_on o socket now (Done given, items) = refl
goes_on o socket now (Refused c given, items) = refl

-- out of memory, what is left is a poll of what the record has then
pub udp_connect_left_over : (o : OpenUdp) (op now : Operation) (socket : Socket) (p : Result (Answer (Unit {0})) Refusal) (s t : Seen) → Some op ≡ o.connecting → is_going op ≡ true → is_going now ≡ stays_going p → OnErr (outcome p) (Reaches (connect_poll_asks op o.inner) (connect_poll_asks now socket) s t)
    → OnErr (outcome p) (Reaches (poll_udp_connect_asks o) (poll_udp_connect_asks (udp_connect_settled now (unconnecting o socket) p)) s t)
udp_connect_left_over o op now socket (Ok (Ready d)) s t e going still h = tt
udp_connect_left_over o op now socket (Ok Pending) s t e going still h = tt
udp_connect_left_over o op now socket (Err (refusal.Code c)) s t e going still h = tt
udp_connect_left_over o op now socket (Err (refusal.Memory m)) s t e going still h =
    let whole : Operation → Socket → Asks (Result (Answer (Unit {0})) ErrorCode × OpenUdp) = λ x k. bind (bind (poll_asks x) (λ ended. Give (connect_ended x.who k ended))) (λ done. Give (made_of o done)) in
    let rest : Asks (Result (Answer (Unit {0})) ErrorCode × OpenUdp) = poll_udp_connect_asks (kept_in o socket now) in
    let so : Reaches (whole op o.inner) (whole now socket) s t = reaches_in (λ done. Give (made_of o done)) (rw (going, still) at h) in
    let tree : whole now socket ≡ rest = gives_twice (connect_ended now.who socket) (made_of o) (poll_asks now) ∙ (λ i. bind (poll_asks now) (λ ended. Give (goes_on o socket now ended i))) in
    let its : Reaches (whole op o.inner) rest s t = subst (λ (asks : Asks (Result (Answer (Unit {0})) ErrorCode × OpenUdp)). Reaches (whole op o.inner) asks s t) tree so in
    let here : Reaches (poll_udp_connecting o (Some op)) rest s t = subst (λ (asks : Asks (Result (Answer (Unit {0})) ErrorCode × OpenUdp)). Reaches asks rest s t) (same_tree o op) its in
    subst (λ (x : Option Operation). Reaches (poll_udp_connecting o x) rest s t) e here

-- == the same of a connect of 0.3, which makes no streams
module _ (o : OpenUdp) where
  abbrev alone_of : Result (Answer (Unit {0})) ErrorCode × (Operation × Socket) → Result (Answer (Unit {0})) ErrorCode × OpenUdp
  alone_of (Ok (Ready d), left) = (Ok (Ready tt), unconnecting o left.1)
  alone_of (Ok Pending, left) = (Ok Pending, record o { inner = left.1; connecting = Some left.0 })
  alone_of (Err c, left) = (Err c, unconnecting o left.1)

  alone_so : (op : Operation) (ended : End × List Item) → alone_of (connect_ended op.who o.inner ended) ≡ udp_reconnect_ended op o ended
  alone_so op (Waits, items) = refl
  alone_so op (Done given, items) = refl
  alone_so op (Refused c given, items) = refl

  alone_tree : (op : Operation) → bind (bind (poll_asks op) (λ ended. Give (connect_ended op.who o.inner ended))) (λ done. Give (alone_of done)) ≡ bind (poll_asks op) (λ ended. Give (udp_reconnect_ended op o ended))
  alone_tree op = gives_twice (connect_ended op.who o.inner) alone_of (poll_asks op) ∙ (λ i. bind (poll_asks op) (λ ended. Give (alone_so op ended i)))

  alone_as : (op now : Operation) (socket : Socket) (p : Result (Answer (Unit {0})) Refusal) {s t : Seen} → AsksFor (bind (poll_asks op) (λ ended. Give (udp_reconnect_ended op o ended))) s t (λ (answer : Result (Answer (Unit {0})) ErrorCode). alone_of (answer, (now, socket))) (outcome p)
      → AsksFor (bind (poll_asks op) (λ ended. Give (udp_reconnect_ended op o ended))) s t (λ answer. (answer, udp_reconnect_settled now (unconnecting o socket) p)) (outcome p)
  alone_as op now socket (Ok (Ready d)) h = asks_ok h.ok
  alone_as op now socket (Ok Pending) h = asks_ok h.ok
  alone_as op now socket (Err (refusal.Code c)) h = asks_ok h.ok
  alone_as op now socket (Err (refusal.Memory e)) h = asks_err _ h.err.reached

  pub udp_reconnect_polled : (op now : Operation) (socket : Socket) (p : Result (Answer (Unit {0})) Refusal) {s t : Seen} → Some op ≡ o.connecting → is_going op ≡ true → AsksFor (connect_poll_asks op o.inner) s t (λ answer. (answer, (now, socket))) (outcome p)
      → AsksFor (udp_reconnect_asks o) s t (λ answer. (answer, udp_reconnect_settled now (unconnecting o socket) p)) (outcome p)
  udp_reconnect_polled op now socket p {s} {t} e going h =
      let P : Asks (Result (Answer (Unit {0})) ErrorCode × OpenUdp) → Type 0 = λ asks. AsksFor asks s t (λ (answer : Result (Answer (Unit {0})) ErrorCode). alone_of (answer, (now, socket))) (outcome p) in
      asks_at (udp_reconnecting o) (sym e) (alone_as op now socket p (subst P (alone_tree op) (asks_gives alone_of (rw going at h))))

  alone_goes : (socket : Socket) (now : Operation) (ended : End × List Item) → alone_of (connect_ended now.who socket ended) ≡ udp_reconnect_ended now (kept_in o socket now) ended
  alone_goes socket now (Waits, items) = refl
  alone_goes socket now (Done given, items) = refl
  alone_goes socket now (Refused c given, items) = refl

  pub udp_reconnect_left_over : (op now : Operation) (socket : Socket) (p : Result (Answer (Unit {0})) Refusal) (s t : Seen) → Some op ≡ o.connecting → is_going op ≡ true → is_going now ≡ stays_going p → OnErr (outcome p) (Reaches (connect_poll_asks op o.inner) (connect_poll_asks now socket) s t)
      → OnErr (outcome p) (Reaches (udp_reconnect_asks o) (udp_reconnect_asks (udp_reconnect_settled now (unconnecting o socket) p)) s t)
  udp_reconnect_left_over op now socket (Ok (Ready d)) s t e going still h = tt
  udp_reconnect_left_over op now socket (Ok Pending) s t e going still h = tt
  udp_reconnect_left_over op now socket (Err (refusal.Code c)) s t e going still h = tt
  udp_reconnect_left_over op now socket (Err (refusal.Memory m)) s t e going still h =
      let whole : Operation → Socket → Asks (Result (Answer (Unit {0})) ErrorCode × OpenUdp) = λ x k. bind (bind (poll_asks x) (λ ended. Give (connect_ended x.who k ended))) (λ done. Give (alone_of done)) in
      let rest : Asks (Result (Answer (Unit {0})) ErrorCode × OpenUdp) = udp_reconnect_asks (kept_in o socket now) in
      let so : Reaches (whole op o.inner) (whole now socket) s t = reaches_in (λ done. Give (alone_of done)) (rw (going, still) at h) in
      let tree : whole now socket ≡ rest = gives_twice (connect_ended now.who socket) alone_of (poll_asks now) ∙ (λ i. bind (poll_asks now) (λ ended. Give (alone_goes socket now ended i))) in
      let its : Reaches (whole op o.inner) rest s t = subst (λ (asks : Asks (Result (Answer (Unit {0})) ErrorCode × OpenUdp)). Reaches (whole op o.inner) asks s t) tree so in
      let here : Reaches (udp_reconnecting o (Some op)) rest s t = subst (λ (asks : Asks (Result (Answer (Unit {0})) ErrorCode × OpenUdp)). Reaches asks rest s t) (alone_tree op) its in
      subst (λ (x : Option Operation). Reaches (udp_reconnecting o x) rest s t) e here

-- == the streams of a socket that is disconnected before
pub streams_disconnected : (op : OpId) (o mid : OpenUdp) (socket : Socket) {s t u : Seen} → is_connected o.inner.remote ≡ true → Reaches (disconnect_asks op o.inner) (Give (Ok tt, socket)) s t → mid ≡ with_udp_inner o socket → u ≡ t
    → AsksFor (disconnect_streams op o (is_connected o.inner.remote)) s u (λ (answer : Result (Answer (Unit {0})) ErrorCode). (answer, with_streams mid)) (Ok (Ok (Ready tt)))
streams_disconnected op o mid socket h r e k = rw (h, e, k) (asks_end _ r refl)

-- of one that has no remote address
pub streams_unasked : (op : OpId) (o mid : OpenUdp) {s u : Seen} → is_connected o.inner.remote ≡ false → mid ≡ o → u ≡ s
    → AsksFor (disconnect_streams op o (is_connected o.inner.remote)) s u (λ (answer : Result (Answer (Unit {0})) ErrorCode). (answer, with_streams mid)) (Ok (Ok (Ready tt)))
streams_unasked op o mid h e k = rw (h, e, k) (asks_given (Ok (Ready tt)) _ refl refl)

-- == the streams of a socket that is bound
pub streams_bound : {T : Type 0} (op : OpId) (remote given : Option IpSocketAddress) (o : OpenUdp) (b : Bool) {s t : Seen} {view : T → Result (Answer (Unit {0})) ErrorCode × OpenUdp} {r : Result T AllocError} → b ≡ true → remote ≡ given → AsksFor (streams_to op o given) s t view r → AsksFor (streams_where op remote o b) s t view r
streams_bound op remote given o b h e k = rw (h, e) k

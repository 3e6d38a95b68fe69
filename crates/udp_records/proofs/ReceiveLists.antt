-- Datagrams that are received in turn: a datagram more, and how their list ends.
use Rattle.std.proofs.Common.{◌≡◌, true, false, ◌==◌, ℕ, zero, suc, ◌+◌, ◌-◌, ◌<◌, ◌≤◌, List, [], ◌∷◌, ◌++◌, length, min, Option, Some, None, refl, sym, ap, subst, inl, inr, arith}
use Rattle.std.specs.Prelude.{Result, Ok, Err, OnErr, IsErrAnd}
use Rattle.std.specs.declared.alloc.AllocError.{AllocError}
use Rattle.std.proofs.lemmas.Bool.Decides.{nat_tests}
use Rattle.wasi_addr.specs.declared.address.IpSocketAddress.{IpSocketAddress}
use Rattle.wasi_addr.specs.declared.code.ErrorCode.{ErrorCode}
use Rattle.wasi_world.specs.declared.datagram.IncomingDatagram.{IncomingDatagram}
use Rattle.wasi_world.specs.declared.ids.Ids.{Ids}
use Rattle.wasi_world.specs.declared.outcome.Answer.{Answer}
use Rattle.wasi_world.specs.declared.outcome.Answer.TheVariants.{Ready, Pending}
use Rattle.wasi_world.specs.declared.outcome.Refusal.{Refusal}
use Rattle.wasi_world.specs.declared.outcome.Refusal.TheVariants as refusal
use Rattle.wasi_world.specs.Seen.{Seen}
use Rattle.wasi_world.specs.Operation.{Operation}
use Rattle.wasi_world.specs.Asks.{Asks, Give, bind, Reaches, Started, outcome}
use Rattle.wasi_world.proofs.Walks.{reaches_all, reaches_in, reaches_on, reaches_then}
use Rattle.wasi_udp.specs.Shape.{Socket}
use Rattle.udp_records.specs.declared.datagrams.Incoming.{Incoming}
use Rattle.udp_records.specs.declared.datagrams.Receiving.{Receiving}
use Rattle.udp_records.specs.declared.datagrams.Receiving.TheVariants as receiving
use Rattle.udp_records.specs.declared.udp.OpenUdp.{OpenUdp}
use Rattle.wasi_streams.specs.HostError.{of_refusal as error_of}
use Rattle.record_common.specs.Stops.{SocketError, host_outcome}
use Rattle.record_common.specs.Names.{RoseUpTo, next_name}
use Rattle.udp_records.specs.Receiving.{LosesTaken, StreamLost, StreamLoses, StaysPending, fetch_names, receive_next_asks, receive_after, receive_all, receive_settled, receive_wants, received_told}

-- one place is gone, and so many are left
one_less : (n i : ℕ) → i < n → n - i ≡ suc (n - (i + 1))
one_less n i h = omega arith

-- no place is left
none_left : (n i : ℕ) → n ≤ i → n - i ≡ 0
none_left n i h = omega arith

-- one more and one less
one_back : (n : ℕ) → suc n - 1 ≡ n
one_back n = omega arith

-- none is gone
pub none_less : (n : ℕ) → n - 0 ≡ n
none_less n = omega arith

-- what is made of the next one
abbrev Next : ℕ → ℕ → Ids → List IncomingDatagram → Socket × Incoming → Result (Answer IncomingDatagram) ErrorCode × (Socket × Incoming) → Asks (Result (List IncomingDatagram) ErrorCode × (Socket × Incoming))
Next n room ids so_far x = receive_after so_far (λ d t. receive_all n (room - length d.bytes) (fetch_names x.1.receiving ids) (so_far ++ d ∷ []) t)

-- while there is room, the next one is asked for
next_asks : {s t : Seen} (most i room : ℕ) (ids : Ids) (so_far : List IncomingDatagram) (x : Socket × Incoming) (told : Result (Answer IncomingDatagram) ErrorCode × (Socket × Incoming)) → i < most → (room ≡ 0 → ⊥)
    → Reaches (receive_next_asks (next_name ids) x) (Give told) s t → Reaches (receive_all (most - i) room ids so_far x) (Next (most - (i + 1)) (room - 1) ids so_far x told) s t
next_asks most i zero ids so_far x told l r h = absurd (r refl)
next_asks {s} {t} most i (suc room) ids so_far x told l r h =
    let P : ℕ → Type 0 = λ n. Reaches (receive_all n (suc room) ids so_far x) (Next (most - (i + 1)) room ids so_far x told) s t in
    rw (one_back room) (subst P (sym (one_less most i l)) (reaches_on (Next (most - (i + 1)) room ids so_far x) h))

-- a datagram more
pub one_more : {s t : Seen} (most i room left : ℕ) (ids now : Ids) (so_far more : List IncomingDatagram) (d : IncomingDatagram) (x y : Socket × Incoming) → i < most → (room ≡ 0 → ⊥)
    → left ≡ room - 1 - length d.bytes → now ≡ fetch_names x.1.receiving ids → more ≡ so_far ++ d ∷ [] → Reaches (receive_next_asks (next_name ids) x) (Give (Ok (Ready d), y)) s t
    → Reaches (receive_all (most - i) room ids so_far x) (receive_all (most - (i + 1)) left now more y) s t
one_more most i room left ids now so_far more d x y l r e f m h = rw (e, f, m) (next_asks most i room ids so_far x (Ok (Ready d), y) l r h)

-- one that hasn't come ends the list
pub none_came : {s t : Seen} (most i room : ℕ) (ids : Ids) (so_far : List IncomingDatagram) (x y : Socket × Incoming) → i < most → (room ≡ 0 → ⊥)
    → Reaches (receive_next_asks (next_name ids) x) (Give (Ok Pending, y)) s t → Reaches (receive_all (most - i) room ids so_far x) (Give (Ok so_far, y)) s t
none_came most i room ids so_far x y l r h = next_asks most i room ids so_far x (Ok Pending, y) l r h

-- and so does a code, which is told where there is no datagram before it
pub code_came : {s t : Seen} (most i room : ℕ) (ids : Ids) (so_far : List IncomingDatagram) (c : ErrorCode) (x y : Socket × Incoming) (told : Result (List IncomingDatagram) ErrorCode) → i < most → (room ≡ 0 → ⊥) → received_told so_far c ≡ told
    → Reaches (receive_next_asks (next_name ids) x) (Give (Err c, y)) s t → Reaches (receive_all (most - i) room ids so_far x) (Give (told, y)) s t
code_came most i room ids so_far c x y told l r e h = rw (← e) (next_asks most i room ids so_far x (Err c, y) l r h)

-- out of memory, the next one was begun
next_begun : {s t : Seen} (most i room : ℕ) (ids : Ids) (so_far : List IncomingDatagram) (x : Socket × Incoming) → i < most → (room ≡ 0 → ⊥)
    → Started (receive_next_asks (next_name ids) x) s t → Started (receive_all (most - i) room ids so_far x) s t
next_begun most i zero ids so_far x l r h = absurd (r refl)
next_begun {s} {t} most i (suc room) ids so_far x l r h =
    let P : ℕ → Type 0 = λ n. Started (receive_all n (suc room) ids so_far x) s t in
    subst P (sym (one_less most i l)) (record { rest = bind h.rest (Next (most - (i + 1)) room ids so_far x); reached = reaches_in (Next (most - (i + 1)) room ids so_far x) h.reached })

-- after the datagrams that were received before
pub all_begun : {s t u : Seen} {asks : Asks (Result (List IncomingDatagram) ErrorCode × (Socket × Incoming))} (most i room : ℕ) (ids : Ids) (so_far : List IncomingDatagram) (x : Socket × Incoming) → Reaches asks (receive_all (most - i) room ids so_far x) s t → i < most → (room ≡ 0 → ⊥)
    → Started (receive_next_asks (next_name ids) x) t u → Started asks s u
all_begun most i room ids so_far x before l r h = let b = next_begun most i room ids so_far x l r h in record { rest = b.rest; reached = reaches_then before b.reached }

-- so many were taken
pub all_taken : (most i room : ℕ) (ids : Ids) (so_far : List IncomingDatagram) (x : Socket × Incoming) (s : Seen) → most ≤ i → Reaches (receive_all (most - i) room ids so_far x) (Give (Ok so_far, x)) s s
all_taken most i room ids so_far x s h =
    let P : ℕ → Type 0 = λ n. Reaches (receive_all n room ids so_far x) (Give (Ok so_far, x)) s s in
    subst P (sym (none_left most i h)) (reaches_all (Give (Ok so_far, x)) s)

-- there is no room
pub no_room : (n room : ℕ) (ids : Ids) (so_far : List IncomingDatagram) (x : Socket × Incoming) (s : Seen) → room ≡ 0 → Reaches (receive_all n room ids so_far x) (Give (Ok so_far, x)) s s
no_room zero room ids so_far x s h = reaches_all (Give (Ok so_far, x)) s
no_room (suc n) zero ids so_far x s h = reaches_all (Give (Ok so_far, x)) s
no_room (suc n) (suc room) ids so_far x s h = absurd (cc)

-- with a datagram before it, a code isn't told
pub some_told : (so_far : List IncomingDatagram) (n : ℕ) (c : ErrorCode) → n ≡ length so_far → false ≡ (n == 0) → received_told so_far c ≡ Ok so_far
some_told [] n c e h = let k : false ≡ true = rw e at h in absurd (cc)
some_told (d ∷ ds) n c e h = refl

-- with none before it, it is
pub none_told : (so_far : List IncomingDatagram) (n : ℕ) (c : ErrorCode) → n ≡ length so_far → true ≡ (n == 0) → received_told so_far c ≡ Err c
none_told [] n c e h = refl
none_told (d ∷ ds) n c e h = absurd (grind (arith, nat_tests))

-- the names that are left are of the same line
pub same_line : (r : Receiving) (ids now : Ids) → now ≡ fetch_names r ids → now.line ≡ ids.line
same_line receiving.Nothing ids now e = rw e refl
same_line (receiving.InProgress op) ids now e = rw e refl
same_line (receiving.Came d) ids now e = rw e refl
same_line (receiving.Failed c) ids now e = rw e refl

-- of which at most one was taken
pub name_more : (r : Receiving) (ids now : Ids) → now ≡ fetch_names r ids → now.next_part ≤ ids.next_part + 1
name_more receiving.Nothing ids now e = rw e (omega arith)
name_more (receiving.InProgress op) ids now e = rw e (omega arith)
name_more (receiving.Came d) ids now e = rw e (omega arith)
name_more (receiving.Failed c) ids now e = rw e (omega arith)

-- and none is given back
pub name_kept : (r : Receiving) (ids now : Ids) → now ≡ fetch_names r ids → ids.next_part ≤ now.next_part
name_kept receiving.Nothing ids now e = rw e (omega arith)
name_kept (receiving.InProgress op) ids now e = rw e (omega arith)
name_kept (receiving.Came d) ids now e = rw e (omega arith)
name_kept (receiving.Failed c) ids now e = rw e (omega arith)

pub took_one : (first now next : Ids) (most rounds : ℕ) → first.next_part ≤ now.next_part → now.next_part ≤ first.next_part + rounds → rounds < most → now.next_part ≤ next.next_part → next.next_part ≤ now.next_part + 1 → RoseUpTo most first next
took_one first now next most rounds forth part less kept more = record { kept = omega (arith, forth, kept); few = omega (arith, part, less, more) }

-- == what is lost for lack of memory
none_lost_yet : (most room : ℕ) (ids : Ids) (x : Socket × Incoming) (s : Seen) → LosesTaken most room ids x x s s
none_lost_yet most room ids x s = record {
  lost = [];
  left = most;
  space = room;
  names = ids;
  met = x;
  seen = s;
  took = reaches_all (receive_all most room ids [] x) s;
  began = record { rest = receive_next_asks (next_name ids) x; reached = reaches_all (receive_next_asks (next_name ids) x) s };
  stays = inl refl;
}

pub none_lost : {T : Type 0} (most room : ℕ) (ids : Ids) (x : Socket × Incoming) (s : Seen) (r : Result T Refusal) → OnErr (outcome r) (LosesTaken most room ids x x s s)
none_lost most room ids x s (Ok t) = tt
none_lost most room ids x s (Err (refusal.Code c)) = tt
none_lost most room ids x s (Err (refusal.Memory e)) = none_lost_yet most room ids x s

pub taken_lost : (most room left space : ℕ) (ids names : Ids) (lost : List IncomingDatagram) (x met now : Socket × Incoming) (s t u : Seen) → Reaches (receive_all most room ids [] x) (receive_all left space names lost met) s t → Started (receive_next_asks (next_name names) met) t u → StaysPending met.1 now.1
    → LosesTaken most room ids x now s u
taken_lost most room left space ids names lost x met now s t u took began stays = record { lost = lost; left = left; space = space; names = names; met = met; seen = t; took = took; began = began; stays = stays }

-- the next one's receive is kept where memory ran out in its poll
pub settled_stays : (op : Operation) (inc now : Incoming) (polled : Result (Answer (List ℕ × IpSocketAddress)) Refusal) (r : Result (Unit {0}) AllocError) → inc.receiving ≡ receiving.Nothing → r ≡ receive_wants polled → now ≡ receive_settled op inc polled → OnErr r (StaysPending inc now)
settled_stays op inc now (Ok (Ready d)) r n w e = rw w tt
settled_stays op inc now (Ok Pending) r n w e = rw w tt
settled_stays op inc now (Err (refusal.Code c)) r n w e = rw w tt
settled_stays op inc now (Err (refusal.Memory d)) r n w e = rw (w, e) (inr (n, refl, refl))

-- so it is where memory ran out
pub on_err : {T E A : Type 0} (r : Result T E) → A → OnErr r A
on_err (Ok t) h = tt
on_err (Err e) h = h

pub err_then : {T E A B : Type 0} (r : Result T E) → (A → B) → OnErr r A → OnErr r B
err_then (Ok t) f h = tt
err_then (Err e) f h = f h

-- so it is for the socket of the stream
pub stream_lost : (T : Type 0) {U : Type 0} (s t : Seen) (most : ℕ) (ids : Ids) (old : OpenUdp) (stream left : Incoming) (inner : Socket) (x : Refusal) (r : Result U SocketError) → IsErrAnd r (λ y. y ≡ error_of x) → old.incoming ≡ Some stream
    → OnErr (outcome {T = T} (Err x)) (LosesTaken (min most 16) 65536 ids (old.inner, stream) (inner, left) s t)
    → OnErr (host_outcome r) (StreamLoses most ids old (record old { inner = inner; incoming = Some left }) old.incoming s t)
stream_lost T s t most ids old stream left inner x (Ok y) h e l = absurd h
stream_lost T {U} s t most ids old stream left inner (refusal.Code c) (Err y) h e l =
    let P : SocketError → Type 0 = λ z. OnErr (host_outcome {T = U} (Err z)) (StreamLoses most ids old (record old { inner = inner; incoming = Some left }) old.incoming s t) in subst P (sym h) tt
stream_lost T {U} s t most ids old stream left inner (refusal.Memory d) (Err y) h e l =
    let now : OpenUdp = record old { inner = inner; incoming = Some left } in
    let P : SocketError → Type 0 = λ z. OnErr (host_outcome {T = U} (Err z)) (StreamLoses most ids old now old.incoming s t) in
    let lost : StreamLost most ids old now stream s t = record { left = left; loses = l; rest = refl } in
    subst P (sym h) (subst (λ (i : Option Incoming). StreamLoses most ids old now i s t) (sym e) lost)

-- and where nothing was asked
pub nothing_lost : (most : ℕ) (ids : Ids) (o : OpenUdp) (inc : Option Incoming) (s : Seen) → o.incoming ≡ inc → StreamLoses most ids o o inc s s
nothing_lost most ids o None s e = (refl, refl)
nothing_lost most ids o (Some stream) s e = record { left = stream; loses = none_lost_yet (min most 16) 65536 ids (o.inner, stream) s; rest = ap (λ (i : Option Incoming). let now : OpenUdp = record o { incoming = i } in now) e }

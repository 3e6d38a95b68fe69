-- Datagrams of 0.3: what the code answers, and what it keeps of them.
use Rattle.std.proofs.Common.{◌≡◌, ◌∙◌, ℕ, List, None, Some, Option, Result, Ok, Err, ap, refl, sym, subst}
use Rattle.std.specs.Prelude.{IfOk, IsErrAnd, OnOk}
use Rattle.std.specs.declared.alloc.AllocError.{AllocError}
use Rattle.wasi_addr.specs.declared.address.IpSocketAddress.{IpSocketAddress}
use Rattle.wasi_world.specs.declared.datagram.IncomingDatagram.{IncomingDatagram}
use Rattle.wasi_world.specs.declared.outcome.Answer.{Answer}
use Rattle.wasi_world.specs.declared.outcome.Answer.TheVariants.{Ready, Pending}
use Rattle.wasi_world.specs.declared.outcome.Refusal.{Refusal}
use Rattle.wasi_world.specs.declared.outcome.Refusal.TheVariants as refusal
use Rattle.wasi_world.specs.Seen.{Seen}
use Rattle.wasi_world.specs.Asks.{Asks, Give, AsksFor, Reaches, Started}
use Rattle.wasi_world.specs.Operation.{Operation, End, Done, Refused, Waits, Item, Nothing, PollsFor}
use Rattle.wasi_world.proofs.Walks.{asks_end, asks_err, asks_then, reaches_in, reaches_on}
use Rattle.socket_common.specs.Rounds.{PollsRounds}
use Rattle.wasi_udp.specs.Receive.{datagram_of, wanting}
use Rattle.wasi_udp.specs.Send.{at_remote}
use Rattle.udp_records.specs.declared.udp.OpenUdp.{OpenUdp}
use Rattle.wasi_addr.specs.declared.code.ErrorCode.{ErrorCode}
use Rattle.wasi_streams.specs.declared.fault.HostError.{HostError}
use Rattle.wasi_streams.specs.declared.fault.HostError.TheVariants as error
use Rattle.record_common.specs.Binding.{bind_answer, left_of}
use Rattle.record_common.specs.Names.{own_of}
use Rattle.record_common.specs.Stops.{StopOf}
use Rattle.host_store.specs.declared.beside.Beside.{Beside}
use Rattle.host_store.specs.declared.beside.BesideCall.{BesideCall}
use Rattle.host_store.specs.declared.beside.BesideCall.TheVariants.{Send, Receive}
use Rattle.host_store.specs.BaseStops.{BaseStop, base_outcome, ends_as}
use Rattle.host_store.specs.Beside.{beside_as, beside_with, beside_without, begun_beside}
use Rattle.host_store.specs.Block.{goes_on}
use Rattle.host_udp.specs.SocketDatagrams.{as_base, begun_so, datagram_told, drop_datagram, ends_so, let_udp_go, polled, polled_so, receive_polls, received_answer, send_polls}
use Rattle.host_store.specs.Store.{Records}
use Rattle.host_store.proofs.BesidePlaces.{with_twice, without_with}

-- what the code was told of a poll of a send, and of a receive
abbrev pub SendTold : OpenUdp → Operation → Operation → Seen → Seen → Result (Answer (Unit {0})) Refusal → Type 0
SendTold o send now s t p = PollsFor (λ (done : Unit {0}). Nothing) Nothing (at_remote o.inner.remote send) (at_remote o.inner.remote now) s t p

abbrev pub ReceiveTold : Operation → Operation → Seen → Seen → Result (Answer (List ℕ × IpSocketAddress)) Refusal → Type 0
ReceiveTold receive now s t p = PollsRounds datagram_of Nothing (wanting None receive) now s t p

-- the first poll of a send and what follows it, and what is kept of it
abbrev pub send_tree : Records → ℕ → ℕ → OpenUdp → Operation → Asks (Result (Answer (Unit {0})) BaseStop × Records)
send_tree store line place o send = goes_on (polled (send_polls o send)) (begun_so bind_answer line (Send place) send) store

abbrev pub send_calls : Records → ℕ → ℕ → Operation → Result (Answer (Unit {0})) Refusal → Records
send_calls store line place now p = record store { beside = begun_beside store.beside (beside_as line (Send place now)) p }

abbrev pub receive_tree : Records → ℕ → ℕ → OpenUdp → Operation → Asks (Result (Answer IncomingDatagram) BaseStop × Records)
receive_tree store line place o receive = goes_on (polled (receive_polls o receive)) (begun_so received_answer line (Receive place) receive) store

abbrev pub receive_calls : Records → ℕ → ℕ → Operation → Result (Answer (List ℕ × IpSocketAddress)) Refusal → Records
receive_calls store line place now p = record store { beside = begun_beside store.beside (beside_as line (Receive place now)) p }

module _ (store : Records) (line place : ℕ) (o : OpenUdp) (send now : Operation) {s t : Seen} where
  send_short : (p : Result (Answer (Unit {0})) Refusal) (after : Records) {d : AllocError} → SendTold o send now s t p → AsksFor (send_tree store line place o send) s t (λ (answer : Result (Answer (Unit {0})) BaseStop). (answer, after)) (Err d)
  send_short (Ok answer) after h = asks_err _ (reaches_in _ (reaches_in _ h.ended))
  send_short (Err (refusal.Code c)) after h = asks_err _ (reaches_in _ (reaches_in _ h.ended))
  send_short (Err (refusal.Memory e)) after h = asks_err _ (reaches_in _ (reaches_in _ h.ended))

  send_whole : (p : Result (Answer (Unit {0})) Refusal) (x : Result (Answer (Unit {0})) BaseStop) → now.who ≡ send.who → SendTold o send now s t p → base_outcome p ≡ Ok x
      → AsksFor (send_tree store line place o send) s t (λ (answer : Result (Answer (Unit {0})) BaseStop). (answer, (send_calls store line place now p))) (Ok x)
  send_whole (Ok (Ready done)) x w h told = let its : Ok (Ready done) ≡ x = cc in rw (← its) (asks_end _ (reaches_on _ h.ended) refl)
  send_whole (Ok Pending) x w h told = let its : Ok Pending ≡ x = cc in rw (← its) (asks_end _ (reaches_on _ h.ended) (rw (← w) refl))
  send_whole (Err (refusal.Code c)) x w h told = rw (← told) (asks_end _ (reaches_on _ h.ended) refl)
  send_whole (Err (refusal.Memory e)) x w h told = absurd (cc)

  -- a send began: it stands beside others where it is pending
  pub send_kept : (p : Result (Answer (Unit {0})) Refusal) (r : Result (Result (Answer (Unit {0})) BaseStop) AllocError) (after : Records) → now.who ≡ send.who → SendTold o send now s t p
      → IfOk r (λ told. base_outcome p ≡ Ok told) → OnOk r (after ≡ (send_calls store line place now p)) → AsksFor (send_tree store line place o send) s t (λ (answer : Result (Answer (Unit {0})) BaseStop). (answer, after)) r
  send_kept p (Err d) after w h told calls = send_short p after h
  send_kept p (Ok x) after w h told calls = rw calls (send_whole p x w h told)

module _ (store : Records) (line place : ℕ) (o : OpenUdp) (receive now : Operation) {s t : Seen} where
  receive_short : (p : Result (Answer (List ℕ × IpSocketAddress)) Refusal) (after : Records) {d : AllocError} → ReceiveTold receive now s t p → AsksFor (receive_tree store line place o receive) s t (λ (answer : Result (Answer IncomingDatagram) BaseStop). (answer, after)) (Err d)
  receive_short (Ok answer) after h = asks_err _ (reaches_in _ (reaches_in _ h.ended))
  receive_short (Err (refusal.Code c)) after h = asks_err _ (reaches_in _ (reaches_in _ h.ended))
  receive_short (Err (refusal.Memory e)) after h = asks_err _ (reaches_in _ (reaches_in _ h.ended.reached))

  receive_whole : (p : Result (Answer (List ℕ × IpSocketAddress)) Refusal) (x : Result (Answer IncomingDatagram) BaseStop) → ReceiveTold receive now s t p → base_outcome (datagram_told p) ≡ Ok x
      → AsksFor (receive_tree store line place o receive) s t (λ (answer : Result (Answer IncomingDatagram) BaseStop). (answer, (receive_calls store line place now p))) (Ok x)
  receive_whole (Ok (Ready came)) x h told = rw (← told) (asks_end _ (reaches_on _ h.ended) refl)
  receive_whole (Ok Pending) x h told = rw (← told) (asks_end _ (reaches_on _ h.ended) (rw (← h.who) refl))
  receive_whole (Err (refusal.Code c)) x h told = rw (← told) (asks_end _ (reaches_on _ h.ended) refl)
  receive_whole (Err (refusal.Memory e)) x h told = absurd (cc)

  -- a receive began: it stands beside others where it is pending
  pub receive_kept : (p : Result (Answer (List ℕ × IpSocketAddress)) Refusal) (r : Result (Result (Answer IncomingDatagram) BaseStop) AllocError) (after : Records) → ReceiveTold receive now s t p
      → IfOk r (λ told. base_outcome (datagram_told p) ≡ Ok told) → OnOk r (after ≡ (receive_calls store line place now p)) → AsksFor (receive_tree store line place o receive) s t (λ (answer : Result (Answer IncomingDatagram) BaseStop). (answer, after)) r
  receive_kept p (Err d) after h told calls = receive_short p after h
  receive_kept p (Ok x) after h told calls = rw calls (receive_whole p x h told)

-- == one that stands is polled again
-- memory that ran out is passed on by a `?`
pub ends_exit : {C A T : Type 0} {asks : Asks A} (rest : Asks A) {s t : Seen} {view : Result T (StopOf C) → A} {d : AllocError} (r : Result T (HostError C)) → IsErrAnd r (λ x. x ≡ error.Memory d) → Reaches asks rest s t → AsksFor asks s t view (ends_as r)
ends_exit rest (Ok v) h k = absurd h
ends_exit {C} {T = T} {asks} rest {s} {t} {view} {d} (Err x) h k =
    let P : HostError C → Type 0 = λ y. AsksFor asks s t view (ends_as {T = T} (Err y)) in subst P (sym h) (asks_err rest k)

-- it is over
abbrev pub IsOver : End → Type 0
IsOver Waits = ⊥
IsOver _ = Unit {0}

module _ {A : Type 0} (told : End → Result (Answer A) ErrorCode) (line place : ℕ) (call : Operation → BesideCall) (op : Operation) (store : Records) (asked : Asks (End × List Item)) where
  abbrev pub again_tree : Asks (Result (Answer A) BaseStop × Records)
  again_tree = goes_on (polled asked) (polled_so told line place call op) store

  -- what is asked once it is over, where the call was out of its place meanwhile
  goes : (before : List Beside) (away : BesideCall) → before ≡ beside_with store.beside line away → drop_datagram line place (record store { beside = before }) ≡ drop_datagram line place store
  goes before away e = ap (λ (calls : List Beside). drop_so calls) (ap (λ (calls : List Beside). beside_without calls line) e ∙ without_with store.beside line away)
    where
      drop_so : List Beside → Asks (Unit {0} × Records)
      drop_so calls = let_udp_go (own_of line) place (record store { beside = calls })

  over_tree : (e : End) (items : List Item) → IsOver e → polled_so told line place call op (e, items) store ≡ ends_so told line place e store
  over_tree Waits items o = absurd o
  over_tree (Done given) items o = refl
  over_tree (Refused c given) items o = refl

  pub again_waits : (items : List Item) (before after : List Beside) (away : BesideCall) {s t : Seen} → before ≡ beside_with store.beside line away → after ≡ beside_with before line (call (left_of op items)) → Reaches asked (Give (Waits, items)) s t
      → AsksFor again_tree s t (λ (answer : Result (Answer A) BaseStop). let now : Records = record store { beside = after } in (answer, now)) (Ok (Ok Pending))
  again_waits items before after away e f h =
      asks_end _ (reaches_on _ h) (rw (f, e, with_twice store.beside line away (call (left_of op items))) refl)

  pub again_over : (e : End) (items : List Item) (before : List Beside) (away : BesideCall) (after : Records) {s t u : Seen} → IsOver e → before ≡ beside_with store.beside line away → Reaches asked (Give (e, items)) s t
      → Reaches (drop_datagram line place (record store { beside = before })) (Give (tt, after)) t u → AsksFor again_tree s u (λ (answer : Result (Answer A) BaseStop). (answer, after)) (Ok (as_base (told e)))
  again_over e items before away after o f h k =
      asks_then _ (reaches_on _ h) (rw (over_tree e items o) (asks_end _ (rw (goes before away f) at k) refl))

  pub again_short : (e : End) (items : List Item) (before : List Beside) (away : BesideCall) {s t u : Seen} {view : Result (Answer A) BaseStop → Result (Answer A) BaseStop × Records} {d : AllocError} (r : Result (Answer A) (HostError ErrorCode)) → IsErrAnd r (λ x. x ≡ error.Memory d) → IsOver e → before ≡ beside_with store.beside line away → Reaches asked (Give (e, items)) s t
      → Started (drop_datagram line place (record store { beside = before })) t u → AsksFor again_tree s u view (ends_as r)
  again_short e items before away r i o f h k =
      let more = rw (goes before away f) at k.reached in
      asks_then _ (reaches_on _ h) (rw (over_tree e items o) (ends_exit _ r i (reaches_in _ more)))

-- what is taken out of its place is the send that stands there
pub same_send : (taken under : Option BesideCall) (place socket : ℕ) (op send : Operation) (call : BesideCall) → taken ≡ Some call → call ≡ Send socket send → taken ≡ under → under ≡ Some (Send place op) → op ≡ send
same_send taken under place socket op send call t c u e = cc

pub same_receive : (taken under : Option BesideCall) (place socket : ℕ) (op receive : Operation) (call : BesideCall) → taken ≡ Some call → call ≡ Receive socket receive → taken ≡ under → under ≡ Some (Receive place op) → op ≡ receive
same_receive taken under place socket op receive call t c u e = cc

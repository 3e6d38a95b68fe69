-- Why a send of datagrams is refused, by its line: the first datagram can't be sent, or is denied, or is answered with
-- a code.
use Rattle.std.specs.Prelude.{◌≤◌}
use Rattle.wasi_causes.proofs.Words.{Answer, Answered, Bool, CodeWord, Entry, Err, ErrorCode, Has}
use Rattle.wasi_causes.proofs.Words.{IpSocketAddress, Last, List, Machine, None, Nothing, Ok, OpId}
use Rattle.wasi_causes.proofs.Words.{Option, Reply, Result, Some, Standing, Stop}
use Rattle.wasi_causes.proofs.Words.{WasiSocketsCtx, [], ap, append_assoc, arith, asks_while, bind, code_stop}
use Rattle.wasi_causes.proofs.Words.{first_ids, inl, inr, length, ltb-true, machine_asks, nat_lt, polls}
use Rattle.wasi_causes.proofs.Words.{refl, subst, sym, true, false, word_of_code, ℕ, ◌++◌, ◌∙◌, ◌∷◌, ◌≡◌}
use Rattle.wasi_addr.specs.declared.address.SocketAddressFamily.{SocketAddressFamily}
use Rattle.socket_common.specs.declared.asker.Asker.{Asker}
use Rattle.wasi_world.specs.declared.datagram.OutgoingDatagram.{OutgoingDatagram}
use Rattle.wasi_world.specs.Operation.{Send}
use Rattle.wasi_udp.specs.Send.{send_first, send_left, send_operation, send_start, send_to}
use Rattle.wasi_udp.specs.Shape.{Socket}
use Rattle.wasi_udp.specs.declared.send.Destination.{Destination}
use Rattle.udp_records.specs.Datagrams.{all_sent, one_sent, poll_send_asks, send_after, send_all, send_datagrams_asks}
use Rattle.udp_records.specs.Datagrams.{send_next_asks, send_one_asks}
use Rattle.wasi_records.specs.Records.{open_at}
use Rattle.record_common.specs.Names.{names_after, next_name}
use Rattle.udp_records.specs.declared.datagrams.Outgoing.{Outgoing}
use Rattle.udp_records.specs.declared.datagrams.Sending.{Sending}
use Rattle.udp_records.specs.declared.udp.OpenUdp.{OpenUdp}
use Rattle.host_udp.specs.DatagramCalls.{send_datagrams_at}
use Rattle.host_store.specs.Machine.{outgoing_at}
use Rattle.wasi_p2.specs.Udp.{send_datagrams_on}
use Rattle.wasi_machine.specs.Machine.{reply_of}
use Rattle.wasi_steps.specs.Reply.{number_fields}
use Rattle.wasi_steps.specs.declared.reply.Reply.TheVariants as reply
use Rattle.wasi_steps.specs.declared.guest_call.GuestCall.TheVariants as guest
use Rattle.wasi_steps.specs.declared.guest_call.UdpCall.TheVariants as udp_call
use Rattle.wasi_steps.specs.declared.step.Step.TheVariants as step
use Rattle.wasi_walks.specs.Waiting.{EndsWith}
use Rattle.wasi_causes.proofs.sockets.Udp.{ItsBound, ItsFree, UdpBoundRow, udp_bounds}
use Rattle.wasi_causes.proofs.tables.Meets.{Meets, branch, chain, ends, met, onto, widen}
use Rattle.wasi_causes.proofs.tables.Steps.{its_own}
use Rattle.wasi_causes.proofs.udp_streams.SendAsks.{never_late, of_outgoing}
use Rattle.wasi_causes.proofs.udp_streams.Unsendable.{refused_so, unsendable}
use Rattle.wasi_causes.specs.Datagrams.{OfOutgoing}
use Rattle.wasi_causes.specs.SendCauses.{CannotBeSent, DatagramFails, FailedBefore, FirstFails, SendTooLate, SendToldNo}
use Rattle.wasi_causes.specs.SendCauses.{SendToldWhy, UdpSendRefusal, first_send}
use Rattle.wasi_causes.specs.Unsendable.{FirstIsDenied, FirstIsTold, FirstIsUnsendable, IsRefusedSend, IsUnsendable}
use Rattle.wasi_causes.specs.Unsendable.{OneFailedBefore, RefusesSend}

-- == what is refused comes of the line or of an answer
-- what is left at the start has a code where the datagram can't go, and the datagram where it can
last_so : (family : SocketAddressFamily) (bytes : List ℕ) (bound : Bool) (to : Result Destination ErrorCode) (c : ErrorCode) → Has (send_left family bytes (send_first to bound)) (Last c Nothing) → to ≡ Err c
last_so family bytes bound (Err x) c (inl e) = cc
last_so family bytes bound (Err x) c (inr h) = absurd h
last_so family bytes true (Ok to) c (inl e) = absurd (cc)
last_so family bytes true (Ok to) c (inr (inl e)) = absurd (cc)
last_so family bytes true (Ok to) c (inr (inr h)) = absurd h
last_so family bytes false (Ok to) c (inl e) = absurd (cc)
last_so family bytes false (Ok to) c (inr (inl e)) = absurd (cc)
last_so family bytes false (Ok to) c (inr (inr (inl e))) = absurd (cc)
last_so family bytes false (Ok to) c (inr (inr (inr h))) = absurd h

abbrev GoesTo : Result Destination ErrorCode → Bool → IpSocketAddress → Type 0
GoesTo r kept a = (to : Destination) × ((r ≡ Ok to) × ((to.kept ≡ kept) × (to.addr ≡ a)))

same_send : (k kept : Bool) (b a : IpSocketAddress) (bs bytes : List ℕ) → Send k b bs ≡ Send kept a bytes
    → (k ≡ kept) × (b ≡ a)
same_send k kept b a bs bytes e = (cc, cc)

send_so : (family : SocketAddressFamily) (bs : List ℕ) (bound : Bool) (r : Result Destination ErrorCode) (kept : Bool) (a : IpSocketAddress) (bytes : List ℕ) → Has (send_left family bs (send_first r bound)) (Send kept a bytes) → GoesTo r kept a
send_so family bs bound (Err x) kept a bytes (inl e) = absurd (cc)
send_so family bs bound (Err x) kept a bytes (inr h) = absurd h
send_so family bs true (Ok to) kept a bytes (inl e) = absurd (cc)
send_so family bs true (Ok to) kept a bytes (inr (inl e)) = (to, (refl, same_send to.kept kept to.addr a bs bytes e))
send_so family bs true (Ok to) kept a bytes (inr (inr h)) = absurd h
send_so family bs false (Ok to) kept a bytes (inl e) = absurd (cc)
send_so family bs false (Ok to) kept a bytes (inr (inl e)) = absurd (cc)
send_so family bs false (Ok to) kept a bytes (inr (inr (inl e))) = (to, (refl, same_send to.kept kept to.addr a bs bytes e))
send_so family bs false (Ok to) kept a bytes (inr (inr (inr h))) = absurd h

module _ (m : Machine) (own : OpId) (place : ℕ) (o : OpenUdp) (out : Outgoing) where
  -- other entries come first
  ends_more : (e : Entry) (front es : List Entry) → EndsWith e es → EndsWith e (front ++ es)
  ends_more e front es k = record { front = front ++ k.front; cut = ap (λ l. front ++ l) k.cut ∙ sym (append_assoc front k.front (e ∷ [])) }

  first_fails : (d : OutgoingDatagram) (more : List OutgoingDatagram) (asked es : List Entry) (bound : Bool) (c : ErrorCode) → DatagramFails (first_send own o d bound) es c → IsRefusedSend o.inner.family o.inner.remote out.sending (asked ++ es) (d ∷ more) c
  first_fails d more asked es bound c (CannotBeSent _ its none) = FirstIsUnsendable d more c (unsendable o.inner d c (last_so o.inner.family d.bytes bound (send_to o.inner d.bytes d.remote_address) c its))
  first_fails d more asked es bound _ (SendToldNo a usage its ended) = FirstIsDenied d more _ (ends_more _ asked es ended) refl
  first_fails d more asked es bound _ (SendTooLate kept a bytes its late) =
      let goes = send_so o.inner.family d.bytes bound (send_to o.inner d.bytes d.remote_address) kept a bytes its in
      absurd (never_late 0 o.inner [] d.bytes d.remote_address goes.0 goes.1.0 (rw (goes.1.1.0, goes.1.1.1) late))
  first_fails d more asked es bound c (SendToldWhy kept a bytes _ its ended) = FirstIsTold d more _ c (ends_more _ asked es ended) refl

  refusal : (ds : List OutgoingDatagram) (es : List Entry) (word : CodeWord) (after : Machine)
      → UdpSendRefusal m own place ds o out es word after
      → RefusesSend o.inner.family o.inner.remote out.sending ds es word
  refusal ds _ _ _ (FailedBefore c is) = record { code = c; why = OneFailedBefore ds c is refl; word_is = refl }
  refusal ds _ _ _ (FirstFails d more asked polled bound c list none so fails) =
      record { code = c; why = subst (λ (l : List OutgoingDatagram). IsRefusedSend o.inner.family o.inner.remote out.sending (asked ++ polled) l c) (sym list) (first_fails d more asked polled bound c fails); word_is = refl }

module _ (contexts : List WasiSocketsCtx) (m : Machine) (line ctx handle : ℕ) where
  pub send_refusals : (ds : List OutgoingDatagram) (es : List Entry) (word : CodeWord) (after : Machine)
      → Answered contexts m line (step.Call ctx (guest.Udp (udp_call.Send handle ds))) es (reply.Err word) after
      → OfOutgoing m (outgoing_at m handle) (λ place o out. RefusesSend o.inner.family o.inner.remote out.sending ds es word)
  send_refusals ds es word after w = of_outgoing _ _ (λ place o out k. refusal m (next_name (first_ids line)) place o out ds es word after k) (its_own contexts m line (step.Call ctx (guest.Udp (udp_call.Send handle ds))) es (reply.Err word) after w (λ e. cc)).1.1.0

  -- == and a datagram that can't be sent is refused
  module _ (place : ℕ) (o : OpenUdp) (out : Outgoing) (d : OutgoingDatagram) (more : List OutgoingDatagram) (c : ErrorCode) (cannot : IsUnsendable o.inner.family o.inner.remote d c) where
    abbrev own : OpId
    own = next_name (first_ids line)

    abbrev spent : Outgoing
    spent = record out { permit = 0 }

    abbrev ds : List OutgoingDatagram
    ds = d ∷ more

    -- one is refused with the code
    polled_so : (es : List Entry) (now : Socket) (asker : Asker) (bound : Bool) (r : Result Destination ErrorCode)
        → r ≡ Err c
        → Meets (λ fs done. done.0 ≡ Err c) es (poll_send_asks now spent (send_operation asker o.inner.family d.bytes (send_first r bound)))
    unfolding polls bind
    polled_so es now asker bound (Err x) e = ends (let same : x ≡ c = cc in ap Err same)
    polled_so es now asker bound (Ok to) e = absurd (cc)

    begun_so : (es : List Entry) (b : Bool × Socket) → UdpBoundRow own o.inner es b
        → Meets (λ fs done. done.0 ≡ Err c) es (poll_send_asks b.1 spent (send_start own b.1 d.bytes d.remote_address b.0))
    begun_so _ _ (ItsBound es is) = polled_so es _ _ true (send_to o.inner d.bytes d.remote_address) (refused_so o.inner d c cannot)
    begun_so _ _ (ItsFree local free) = polled_so _ _ _ false (send_to o.inner d.bytes d.remote_address) (refused_so o.inner d c cannot)

    one_so : Meets (λ fs done. done.0 ≡ Err c) [] (send_one_asks own o.inner spent d)
    one_so = chain {Mid = λ es begun. Meets (λ fs done. done.0 ≡ Err c) es (poll_send_asks begun.1 spent begun.0)} (onto _ (widen begun_so (udp_bounds own o.inner))) (λ es begun k. k)

    told_one : (es : List Entry) (done : Result (Unit {0}) ErrorCode × (Socket × Outgoing)) → done.0 ≡ Err c
        → (one_sent done).0 ≡ Err c
    told_one es (Err x, s) e = let same : x ≡ c = cc in ap Err same
    told_one es (Ok x, s) e = absurd (cc)

    list_so : out.sending ≡ Sending.Nothing
        → Meets (λ fs done. done.0 ≡ Err c) [] (send_all 0 (first_ids line) ds (o.inner, spent))
    list_so none = chain {Mid = λ fs r. r.0 ≡ Err c} (subst (λ (s : Sending). Meets (λ fs r. r.0 ≡ Err c) [] (send_next_asks own o.inner spent d s)) (sym none) (onto one_sent (widen told_one one_so))) by_told
      where
        by_told : (es : List Entry) (r : Result (Answer (Unit {0})) ErrorCode × (Socket × Outgoing)) → r.0 ≡ Err c
            → Meets (λ fs done. done.0 ≡ Err c) es (send_after 0 (λ t. send_all 1 (names_after (first_ids line)) more t) r)
        by_told es (Err x, t) e = ends (let same : x ≡ c = cc in ap Err same)
        by_told es (Ok x, t) e = absurd (cc)

    -- and so is the list, where it is permitted
    told_all : (es : List Entry) (done : Result ℕ ErrorCode × (Socket × Outgoing)) → done.0 ≡ Err c
        → (all_sent o done).0 ≡ Err (code_stop c)
    told_all es (Err x, s) e = let same : x ≡ c = cc in ap (λ (y : ErrorCode). Err (code_stop y)) same
    told_all es (Ok n, s) e = absurd (cc)

    abbrev StopRow : {A : Type 0} → List Entry → Result ℕ Stop × A → Type 0
    StopRow es done = done.0 ≡ Err (code_stop c)

    sends_so : out.sending ≡ Sending.Nothing → length ds ≤ out.permit
        → Meets StopRow [] (send_datagrams_asks (first_ids line) o (Some out) ds)
    sends_so none few = branch (nat_lt out.permit (length ds)) (λ e. absurd (let less = ltb-true _ _ e in omega (arith, less, few))) (λ e. onto _ (widen told_all (list_so none)))

    told_reply : (es : List Entry) (done : Result ℕ Stop × Machine) → StopRow es done
        → reply_of number_fields done.0 ≡ reply.Err (word_of_code c)
    told_reply es done e = ap (λ (r : Result ℕ Stop). reply_of number_fields r) e

    pub refused_by_line : m.store.standing ≡ None → outgoing_at m handle ≡ Some place
        → open_at m.store.records place ≡ Some o → o.outgoing ≡ Some out → out.sending ≡ Sending.Nothing
        → length ds ≤ out.permit
        → (es : List Entry) (r : Reply) (after : Machine)
        → Answered contexts m line (step.Call ctx (guest.Udp (udp_call.Send handle ds))) es r after → r ≡ reply.Err (word_of_code c)
    refused_by_line free names at has none few es r after w = met asked w
      where
        by_socket : Meets StopRow [] (send_datagrams_at m.store (first_ids line) place ds (Some o))
        by_socket = onto _ (subst (λ (s : Option Outgoing). Meets StopRow [] (send_datagrams_asks (first_ids line) o s ds)) (sym has) (sends_so none few))

        by_handle : Meets StopRow [] (send_datagrams_on m (first_ids line) ds (Some place))
        by_handle = onto _ (subst (λ (f : Option OpenUdp). Meets StopRow [] (send_datagrams_at m.store (first_ids line) place ds f)) (sym at) by_socket)

        by_line : Meets (λ fs done. done.0 ≡ reply.Err (word_of_code c)) [] (asks_while contexts m line (step.Call ctx (guest.Udp (udp_call.Send handle ds))) None)
        by_line = onto _ (widen told_reply (subst (λ (n : Option ℕ). Meets StopRow [] (send_datagrams_on m (first_ids line) ds n)) (sym names) by_handle))

        asked : Meets (λ fs done. done.0 ≡ reply.Err (word_of_code c)) [] (machine_asks contexts m line (step.Call ctx (guest.Udp (udp_call.Send handle ds))))
        asked = subst (λ (s : Option Standing). Meets (λ fs done. done.0 ≡ reply.Err (word_of_code c)) [] (asks_while contexts m line (step.Call ctx (guest.Udp (udp_call.Send handle ds))) s)) (sym free) by_line

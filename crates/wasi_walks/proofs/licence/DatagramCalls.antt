-- What is asked of a datagram of 0.3 that begins, or that stands beside other calls, is licensed, and leaves calls that may be polled.
use Rattle.wasi_walks.proofs.Words.{Allows, BeganBy, Done, End, Entry, Item, List, None, OpId, Operation, Refused, Some, Step, Told, Waits, WasiSocketsCtx, allows_weaker, ap, own_of, poll_asks, refl, step_at, subst, sym, ℕ, ◌∙◌, ◌≡◌}
use Rattle.wasi_udp.specs.Receive.{receive_start, wanting}
use Rattle.wasi_udp.specs.Send.{at_remote, send_start, send_to}
use Rattle.record_common.specs.Binding.{left_of}
use Rattle.udp_records.specs.declared.udp.OpenUdp.{OpenUdp}
use Rattle.udp_records.specs.declared.udp.UdpRecord.{UdpRecord}
use Rattle.host_store.specs.declared.beside.Beside.{Beside}
use Rattle.host_store.specs.declared.beside.BesideCall.{BesideCall}
use Rattle.host_store.specs.declared.beside.BesideCall.TheVariants.{Send, Receive}
use Rattle.host_store.specs.Beside.{beside_as, beside_of}
use Rattle.wasi_walks.specs.Licence.{IsReceive, IsSendOf, Receives, UdpCreated}
use Rattle.wasi_walks.proofs.BesideLists.{found_has}
use Rattle.wasi_walks.proofs.fits.Datagrams.{Datagrams, DatagramOn, FitBeside}
use Rattle.wasi_walks.proofs.walks.Moves.{FoundUdp, Here, PollsDatagram, PollsReceive, PollsSend, StartsDatagram, StartsReceive, StartsSend, Used, datagram_begun, datagram_polled, with_beside}
use Rattle.wasi_walks.proofs.licence.Besides.{BesidesAreFine, CallIsFine, beside_fine, besides_push, besides_with, besides_without}
use Rattle.wasi_walks.proofs.licence.DatagramAsks.{fine_poll_receive, fine_poll_send}
use Rattle.wasi_walks.proofs.licence.Line.{Licensed, elsewhere, spent}
use Rattle.wasi_walks.proofs.licence.State.{OpenIsFine, ReceiveIsFine, RemoteIs, SendIsFine}
use Rattle.wasi_walks.proofs.licence.States.{state_beside}
use Rattle.wasi_walks.proofs.licence.DatagramAsks.{NoPeer}
use Rattle.wasi_walks.proofs.licence.UdpGoesOn.{quietly}
use Rattle.wasi_walks.proofs.licence.UdpFrames.{same_udp}
use Rattle.wasi_walks.proofs.licence.UdpMoves.{first_left, goes_for, open_at_place, received_first}
use Rattle.wasi_walks.proofs.licence.Unbound.{MayAskSo}

module _ (contexts : List WasiSocketsCtx) (steps : List Step) (line : ℕ) (origin : Step) (is_line : step_at steps line ≡ Some origin) where
  -- other calls stand beside others
  stand_beside : (es : List Entry) (h : Here) (calls : List Beside) → BesidesAreFine contexts steps es calls → Licensed contexts steps line origin es h → Licensed contexts steps line origin es (with_beside h calls)
  stand_beside es h calls f i = elsewhere es h _ refl refl refl i (state_beside contexts steps es h.machine calls f i.fine) i.names i.udp_names

  -- what may be left of the call is fine
  abbrev LeavesFine : List Entry → ℕ → (Operation → BesideCall) → Operation → End × List Item → Type 0
  LeavesFine es n call op ended = CallIsFine contexts steps es n (call (left_of op ended.1))

  -- == one that begins
  begun_fine : (es : List Entry) (h : Here) (call : Operation → BesideCall) (op : Operation) (ended : End × List Item) → LeavesFine es line call op ended → Licensed contexts steps line origin es h
      → Licensed contexts steps line origin es (record (with_beside h (datagram_begun h.machine.store.beside line call op ended)) { own = Used })
  begun_fine es h call op (Waits, items) f i = spent es _ (stand_beside es h _ (besides_push contexts steps es h.machine.store.beside (beside_as line (call (left_of op items))) f i.fine.besides) i)
  begun_fine es h call op (Done given, items) f i = spent es _ (stand_beside es h _ i.fine.besides i)
  begun_fine es h call op (Refused c given, items) f i = spent es _ (stand_beside es h _ i.fine.besides i)

  pub datagram_begins : (es : List Entry) (h : Here) (place : ℕ) (o : OpenUdp) (call : Operation → BesideCall) (op polled : Operation) → h.at ≡ Some (place, line) → FoundUdp h place (UdpRecord.Open o)
      → StartsDatagram line origin h.machine.table place o call op polled → RemoteIs es o.inner.side o.inner.remote → Licensed contexts steps line origin es h
      → Allows (MayAskSo contexts steps) (λ fs ended. Licensed contexts steps line origin fs (record (with_beside h (datagram_begun h.machine.store.beside line call op ended)) { own = Used })) es (poll_asks polled)
  datagram_begins es h place o _ _ _ at g (StartsSend c s d bound is of known) r i =
      let f : OpenIsFine steps es o = open_at_place contexts steps line origin is_line es h place o g i in
      let op : Operation = send_start (own_of line) o.inner d.bytes d.remote_address bound in
      let begun : SendIsFine steps es op = record {
        datagram = d;
        item = record { origin = origin; at = is_line; holds = subst (IsSendOf 0 d) (sym is) (refl, refl) };
        udp = f.made.by;
        family = o.inner.family;
        made = UdpCreated o.inner.side Told.Done f.made.created;
        named = i.udp_names place line (UdpRecord.Open o) at g;
        last = refl;
        left = first_left contexts steps line origin is_line es (own_of line) o.inner.side o.inner.maker o.inner.family d (send_to o.inner d.bytes d.remote_address) bound (goes_for d o.inner) (λ b. f.bound (known b));
      } in
      allows_weaker (MayAskSo contexts steps) (λ fs ended. Licensed contexts steps line origin fs h × SendIsFine steps fs (left_of op ended.1)) _ (λ fs ended k. begun_fine fs h (Send place) op ended (refl, k.1) k.0) es (poll_asks (at_remote o.inner.remote op))
      (quietly contexts steps line origin is_line NoPeer h (λ fs ended. SendIsFine steps fs (left_of op ended.1)) es (poll_asks (at_remote o.inner.remote op)) i (fine_poll_send contexts steps op o.inner.remote es begun r))
  datagram_begins es h place o _ _ _ at g (StartsReceive c s bound is of known) r i =
      let f : OpenIsFine steps es o = open_at_place contexts steps line origin is_line es h place o g i in
      let op : Operation = receive_start (own_of line) o.inner bound in
      let its : BeganBy steps (own_of line) IsReceive = record { origin = origin; at = is_line; holds = subst IsReceive (sym is) tt } in
      let begun : ReceiveIsFine steps es op = record {
        began = record { origin = origin; at = is_line; holds = subst Receives (sym is) tt };
        family = o.inner.family;
        made = UdpCreated o.inner.side Told.Done f.made.created;
        named = i.udp_names place line (UdpRecord.Open o) at g;
        last = refl;
        left = received_first contexts steps line origin is_line bound;
      } in
      allows_weaker (MayAskSo contexts steps) (λ fs ended. Licensed contexts steps line origin fs h × ReceiveIsFine steps fs (left_of op ended.1)) _ (λ fs ended k. begun_fine fs h (Receive place) op ended (refl, k.1, its) k.0) es (poll_asks (wanting None op))
      (quietly contexts steps line origin is_line NoPeer h (λ fs ended. ReceiveIsFine steps fs (left_of op ended.1)) es (poll_asks (wanting None op)) i (fine_poll_receive contexts steps op None es begun))

  -- == one that is polled where it stands
  polled_fine : (es : List Entry) (h : Here) (n : ℕ) (call : Operation → BesideCall) (op : Operation) (ended : End × List Item) → LeavesFine es n call op ended → Licensed contexts steps line origin es h
      → Licensed contexts steps line origin es (with_beside h (datagram_polled h.machine.store.beside n call op ended))
  polled_fine es h n call op (Waits, items) f i = stand_beside es h _ (besides_with contexts steps es h.machine.store.beside n (call (left_of op items)) f i.fine.besides) i
  polled_fine es h n call op (Done given, items) f i = stand_beside es h _ (besides_without contexts steps es h.machine.store.beside n i.fine.besides) i
  polled_fine es h n call op (Refused c given, items) f i = stand_beside es h _ (besides_without contexts steps es h.machine.store.beside n i.fine.besides) i

  -- the network socket of its operation is its socket's
  side_of_it : (h : Here) (n place : ℕ) (o : OpenUdp) (op : Operation) → FoundUdp h place (UdpRecord.Open o) → DatagramOn h.machine.store.records n place op → op.who.side ≡ o.inner.side
  side_of_it h n place o op g d =
      let same : UdpRecord.Open d.was ≡ UdpRecord.Open o = same_udp (UdpRecord.Open d.was) (UdpRecord.Open o) (sym d.at ∙ g) in
      let its : d.was ≡ o = cc in
      d.of_side ∙ ap (λ (x : OpenUdp). x.inner.side) its

  polls_as : (es : List Entry) (h : Here) (n place : ℕ) (o : OpenUdp) (was : BesideCall) (call : Operation → BesideCall) (op polled : Operation) → FoundUdp h place (UdpRecord.Open o) → PollsDatagram place o was call op polled
      → CallIsFine contexts steps es n was → FitBeside h.machine.store.records n was → RemoteIs es o.inner.side o.inner.remote → Licensed contexts steps line origin es h
      → Allows (MayAskSo contexts steps) (λ fs ended. Licensed contexts steps line origin fs (with_beside h (datagram_polled h.machine.store.beside n call op ended))) es (poll_asks polled)
  polls_as es h n place o _ _ _ _ g (PollsSend op) f d r i =
      allows_weaker (MayAskSo contexts steps) (λ fs ended. Licensed contexts steps line origin fs h × SendIsFine steps fs (left_of op ended.1)) _ (λ fs ended k. polled_fine fs h n (Send place) op ended (f.0, k.1) k.0) es (poll_asks (at_remote o.inner.remote op))
      (quietly contexts steps line origin is_line NoPeer h (λ fs ended. SendIsFine steps fs (left_of op ended.1)) es (poll_asks (at_remote o.inner.remote op)) i (fine_poll_send contexts steps op o.inner.remote es f.1 (subst (λ (x : OpId). RemoteIs es x o.inner.remote) (sym (side_of_it h n place o op g d.0)) r)))
  polls_as es h n place o _ _ _ _ g (PollsReceive op) f d r i =
      allows_weaker (MayAskSo contexts steps) (λ fs ended. Licensed contexts steps line origin fs h × ReceiveIsFine steps fs (left_of op ended.1)) _ (λ fs ended k. polled_fine fs h n (Receive place) op ended (f.0, k.1, f.2) k.0) es (poll_asks (wanting None op))
      (quietly contexts steps line origin is_line NoPeer h (λ fs ended. ReceiveIsFine steps fs (left_of op ended.1)) es (poll_asks (wanting None op)) i (fine_poll_receive contexts steps op None es f.1))

  pub datagram_polls : (es : List Entry) (h : Here) (n : ℕ) (b : Beside) (place : ℕ) (o : OpenUdp) (call : Operation → BesideCall) (op polled : Operation) → beside_of h.machine.store n ≡ Some b → FoundUdp h place (UdpRecord.Open o)
      → PollsDatagram place o b.call call op polled → Datagrams h → RemoteIs es o.inner.side o.inner.remote → Licensed contexts steps line origin es h
      → Allows (MayAskSo contexts steps) (λ fs ended. Licensed contexts steps line origin fs (with_beside h (datagram_polled h.machine.store.beside n call op ended))) es (poll_asks polled)
  datagram_polls es h n b place o call op polled e g polls d r i =
      let its = found_has h.machine.store.beside n b e in
      polls_as es h n place o b.call call op polled g polls (beside_fine contexts steps es h.machine.store.beside n b e i.fine.besides) (subst (λ (k : ℕ). FitBeside h.machine.store.records k b.call) its.1 (d.besides b its.0)) r i

-- What a receive hands out is from the remote address that its stream keeps.
use Rattle.std.specs.Prelude.{◌-◌, min, suc, zero}
use Rattle.wasi_causes.proofs.Words.{Allows, Answer, Asks, Entry, Err, ErrorCode, Give, List, Machine, None, Ok, OpId, Operation, Option, Pending, Ready, Reply, Result, Some, Standing, Step, Stop, WasiSocketsCtx, [], allows_then, first_ids, first_state, length, machine_asks, poll_asks, refl, run, subst, true, ℕ, ⊤, ◌++◌, ◌∷◌, ◌≡◌}
use Rattle.wasi_addr.specs.declared.address.IpSocketAddress.{IpSocketAddress}
use Rattle.wasi_world.specs.Asks.{Left}
use Rattle.wasi_world.specs.Operation.{is_wanted}
use Rattle.wasi_world.specs.declared.datagram.IncomingDatagram.{IncomingDatagram}
use Rattle.wasi_world.specs.declared.ids.Ids.{Ids}
use Rattle.wasi_world.proofs.Allowed.{reached}
use Rattle.wasi_udp.specs.Receive.{IsReceive, receive_asks, wanting}
use Rattle.wasi_udp.specs.Shape.{Socket}
use Rattle.wasi_udp.specs.Socket.{bound_asks}
use Rattle.host_udp.specs.DatagramCalls.{receive_datagrams_at}
use Rattle.record_common.specs.Stops.{code_stop}
use Rattle.host_store.specs.Machine.{incoming_at}
use Rattle.record_common.specs.Names.{next_name}
use Rattle.udp_records.specs.Receiving.{all_received, fetch_asks, fetch_names, poll_receive_asks, receive_after, receive_all, receive_datagrams_asks, receive_left, receive_next_asks, received_told, taken}
use Rattle.wasi_records.specs.Records.{open_at, udp2_at}
use Rattle.udp_records.specs.declared.datagrams.Incoming.{Incoming}
use Rattle.udp_records.specs.declared.datagrams.Receiving.{Receiving}
use Rattle.udp_records.specs.declared.udp.OpenUdp.{OpenUdp}
use Rattle.udp_records.specs.declared.udp.UdpRecord.{UdpRecord}
use Rattle.wasi_p2.specs.Udp.{receive_datagrams_on}
use Rattle.wasi_machine.specs.Machine.{asks_while, reply_of}
use Rattle.wasi_steps.specs.Reply.{datagram_values}
use Rattle.wasi_steps.specs.declared.reply.Field.{Field}
use Rattle.wasi_steps.specs.declared.reply.Reply.TheVariants as reply
use Rattle.wasi_steps.specs.declared.guest_call.GuestCall.TheVariants as guest
use Rattle.wasi_steps.specs.declared.guest_call.UdpCall.TheVariants as udp_call
use Rattle.wasi_steps.specs.declared.step.Step.TheVariants as step
use Rattle.wasi_walks.specs.Answered.{Answered}
use Rattle.wasi_walks.proofs.claims.Lines.{BaseBetween}
use Rattle.wasi_walks.proofs.fits.Law.{whatever}
use Rattle.wasi_walks.proofs.fits.Polls.{Anything}
use Rattle.wasi_walks.proofs.fits.UdpFits.{begun_receive}
use Rattle.wasi_walks.proofs.received.Kept.{AllWanted, first_wanted, line_wanted}
use Rattle.wasi_walks.proofs.received.Wanted.{IncomingWanted, ReceivingWanted, poll_wanted}
use Rattle.wasi_walks.proofs.walks.Runs.{run_ends}
use Rattle.wasi_walks.proofs.walks.Udp.{open_is}
use Rattle.wasi_causes.specs.Datagrams.{OfIncoming}
use Rattle.wasi_causes.specs.SendCauses.{AreFrom, ReceivedFrom}

module _ (only : Option IpSocketAddress) where
  -- one more of them
  one_from : (ds : List IncomingDatagram) (d : IncomingDatagram) → AreFrom only ds → is_wanted only d.remote_address ≡ true → AreFrom only (ds ++ d ∷ [])
  one_from [] d k l = (l, tt)
  one_from (x ∷ ds) d k l = (k.0, one_from ds d k.1 l)

  -- the stream keeps the address, and holds only what is from there
  abbrev Holds : Socket × Incoming → Type 0
  Holds s = (s.1.remote ≡ only) × ReceivingWanted only s.1.receiving

  -- what is given is from there
  abbrev Gives : Result (List IncomingDatagram) ErrorCode → Type 0
  Gives (Ok ds) = AreFrom only ds
  Gives (Err c) = ⊤

  -- a receive begins, and is polled
  begins : (es : List Entry) (op : OpId) (socket : Socket) → Allows Anything (λ fs begun. IsReceive begun.0) es (receive_asks op socket)
  begins es op socket = allows_then Anything (λ fs b. ⊤) (λ fs begun. IsReceive begun.0) es (bound_asks op socket) _ (whatever (λ b. ⊤) (λ b. tt) es (bound_asks op socket)) (λ fs b m. (begun_receive op b.1 b.0).receive)

  polled : (es : List Entry) (socket : Socket) (inc : Incoming) (op : Operation) → IsReceive op → inc.remote ≡ only → Allows Anything (λ fs s. Holds s) es (poll_receive_asks socket inc op)
  polled es socket inc op its e = allows_then Anything (λ fs ended. ReceivingWanted inc.remote (receive_left op ended)) (λ fs s. Holds s) es (poll_asks (wanting inc.remote op)) _ (poll_wanted op inc.remote es its) (λ fs ended m. (e, subst (λ (x : Option IpSocketAddress). ReceivingWanted x (receive_left op ended)) e m))

  fetches : (es : List Entry) (op : OpId) (s : Socket × Incoming) (receiving : Receiving) → Holds s → Allows Anything (λ fs t. Holds t) es (fetch_asks op receiving s)
  fetches es op s Receiving.Nothing k = allows_then Anything (λ fs begun. IsReceive begun.0) (λ fs t. Holds t) es (receive_asks op s.0) _ (begins es op s.0) (λ fs begun m. polled fs begun.1 s.1 begun.0 m k.0)
  fetches es op s _ k = k

  -- what has come is taken
  abbrev Comes : Result (Answer IncomingDatagram) ErrorCode → Type 0
  Comes (Ok (Ready d)) = is_wanted only d.remote_address ≡ true
  Comes _ = ⊤

  takes : (r : Receiving) → ReceivingWanted only r → Comes (taken r).0 × ReceivingWanted only (taken r).1
  takes Receiving.Nothing k = (tt, tt)
  takes (Receiving.InProgress op) k = (tt, tt)
  takes (Receiving.Came d) k = (k, tt)
  takes (Receiving.Failed c) k = (tt, tt)

  abbrev Next : Result (Answer IncomingDatagram) ErrorCode × (Socket × Incoming) → Type 0
  Next done = Comes done.0 × Holds done.1

  nexts : (es : List Entry) (op : OpId) (s : Socket × Incoming) → Holds s → Allows Anything (λ fs done. Next done) es (receive_next_asks op s)
  nexts es op s k = allows_then Anything (λ fs t. Holds t) (λ fs done. Next done) es (fetch_asks op s.1.receiving s) _ (fetches es op s s.1.receiving k) (λ fs t m. (let x = takes t.1.receiving m.1 in (x.0, (m.0, x.1))))

  -- == datagrams in turn
  told_from : (ds : List IncomingDatagram) (c : ErrorCode) → AreFrom only ds → Gives (received_told ds c)
  told_from [] c k = tt
  told_from (d ∷ ds) c k = k

  follows : (es : List Entry) (so_far : List IncomingDatagram) (more : IncomingDatagram → Socket × Incoming → Asks (Result (List IncomingDatagram) ErrorCode × (Socket × Incoming)))
      → ((d : IncomingDatagram) (s : Socket × Incoming) → is_wanted only d.remote_address ≡ true → Holds s → Allows Anything (λ fs done. Gives done.0) es (more d s))
      → (done : Result (Answer IncomingDatagram) ErrorCode × (Socket × Incoming)) → AreFrom only so_far → Next done → Allows Anything (λ fs done. Gives done.0) es (receive_after so_far more done)
  follows es so_far more again (Ok (Ready d), s) r k = again d s k.0 k.1
  follows es so_far more again (Ok Pending, s) r k = r
  follows es so_far more again (Err c, s) r k = told_from so_far c r

  all_from : (n room : ℕ) (ids : Ids) (so_far : List IncomingDatagram) (s : Socket × Incoming) (es : List Entry) → AreFrom only so_far → Holds s → Allows Anything (λ fs done. Gives done.0) es (receive_all n room ids so_far s)
  all_from zero room ids so_far s es r k = r
  all_from (suc n) zero ids so_far s es r k = r
  all_from (suc n) (suc room) ids so_far s es r k =
      allows_then Anything (λ fs done. Next done) (λ fs done. Gives done.0) es (receive_next_asks (next_name ids) s) _ (nexts es (next_name ids) s k)
      (λ fs done m. follows fs so_far _ (λ d t x y. all_from n (room - length d.bytes) (fetch_names s.1.receiving ids) (so_far ++ d ∷ []) t fs (one_from so_far d r x) y) done r m)

-- == of the step
module _ (m : Machine) (wants : AllWanted m.store.records) (line ctx handle most : ℕ) where
  abbrev Says : Reply → Type 0
  Says (reply.Ok fields) = OfIncoming m (incoming_at m handle) (λ place o inc. ReceivedFrom inc.remote fields)
  Says _ = ⊤

  abbrev Told : Result (List IncomingDatagram) Stop → Type 0
  Told r = Says (reply_of datagram_values r)

  module _ (place : ℕ) (o : OpenUdp) (names : incoming_at m handle ≡ Some place) (at : open_at m.store.records place ≡ Some o) where
    told_so : (inc : Incoming) → o.incoming ≡ Some inc → (done : Result (List IncomingDatagram) ErrorCode × (Socket × Incoming)) → Gives inc.remote done.0 → Told (all_received o done).0
    told_so inc has (Ok ds, s) k = record { place = place; found = o; stream = inc; names = names; at = at; has = has; holds = record { datagrams = ds; gives = refl; from = k } }
    told_so inc has (Err c, s) k = code_told c
      where
        code_told : (c : ErrorCode) → Told (Err (code_stop c))
        code_told c = tt

    by_stream : (es : List Entry) (inc : Option Incoming) → o.incoming ≡ inc → Allows Anything (λ fs done. Told done.0) es (receive_datagrams_asks (first_ids line) most o inc)
    by_stream es None has = tt
    by_stream es (Some inc) has =
        let k : ReceivingWanted inc.remote inc.receiving = subst IncomingWanted has (wants place (UdpRecord.Open o) (open_is (udp2_at m.store.records place) o at)) in
        allows_then Anything (λ fs done. Gives inc.remote done.0) (λ fs done. Told done.0) es (receive_all (min most 16) 65536 (first_ids line) [] (o.inner, inc)) _ (all_from inc.remote (min most 16) 65536 (first_ids line) [] (o.inner, inc) es tt (refl, k)) (λ fs done g. told_so inc has done g)

  by_socket : (es : List Entry) (place : ℕ) (names : incoming_at m handle ≡ Some place) (o : Option OpenUdp) → open_at m.store.records place ≡ o → Allows Anything (λ fs done. Told done.0) es (receive_datagrams_at m.store (first_ids line) place most o)
  by_socket es place names None at = tt
  by_socket es place names (Some o) at = allows_then Anything (λ fs done. Told done.0) (λ fs done. Told done.0) es (receive_datagrams_asks (first_ids line) most o o.incoming) _ (by_stream place o names at es o.incoming refl) (λ fs done k. k)

  by_handle : (es : List Entry) (place : Option ℕ) → incoming_at m handle ≡ place → Allows Anything (λ fs done. Told done.0) es (receive_datagrams_on m (first_ids line) most place)
  by_handle es None names = tt
  by_handle es (Some place) names = allows_then Anything (λ fs done. Told done.0) (λ fs done. Told done.0) es (receive_datagrams_at m.store (first_ids line) place most (open_at m.store.records place)) _ (by_socket es place names (open_at m.store.records place) refl) (λ fs done k. k)

  by_standing : (contexts : List WasiSocketsCtx) (es : List Entry) (standing : Option Standing) → Allows Anything (λ fs done. Says done.0) es (asks_while contexts m line (step.Call ctx (guest.Udp (udp_call.Receive handle most))) standing)
  by_standing contexts es (Some s) = tt
  by_standing contexts es None = allows_then Anything (λ fs done. Told done.0) (λ fs done. Says done.0) es (receive_datagrams_on m (first_ids line) most (incoming_at m handle)) _ (by_handle es (incoming_at m handle) refl) (λ fs done k. k)

  pub receives_from : (contexts : List WasiSocketsCtx) (entries : List Entry) (r : Reply) (after : Machine) → Answered contexts m line (step.Call ctx (guest.Udp (udp_call.Receive handle most))) entries r after → Says r
  receives_from contexts entries r after w = reached Anything (λ fs done. Says done.0) [] (machine_asks contexts m line (step.Call ctx (guest.Udp (udp_call.Receive handle most)))) entries (Give (r, after)) (by_standing contexts [] m.store.standing) w

-- in a run
pub runs_receive_from : (contexts : List WasiSocketsCtx) (steps : List Step) (log : List Entry) (replies : List Reply) (m : Machine) → Left (run contexts [] first_state 1 steps) log (Give (replies, m)) → (line ctx handle most : ℕ) (fields : List Field) (entries : List Entry) (after : Machine)
    → Answered contexts m line (step.Call ctx (guest.Udp (udp_call.Receive handle most))) entries (reply.Ok fields) after → OfIncoming m (incoming_at m handle) (λ place o inc. ReceivedFrom inc.remote fields)
runs_receive_from contexts steps log replies m w line ctx handle most fields entries after a =
    receives_from m (run_ends contexts Anything (λ line fs now. BaseBetween line now × AllWanted now.store.records) (λ line s now fs i. line_wanted contexts line s now fs i) first_wanted steps log replies m w).1.1 line ctx handle most contexts entries (reply.Ok fields) after a

-- What an incoming datagram stream receives.
use Rattle.std.specs.Prelude.{◌-◌, ◌≤◌, min, suc, zero}
use Rattle.std.proofs.Common.{length-append}
use Rattle.std.proofs.Math.Nat.{min-le_left, min-le_right}
use Rattle.wasi_causes.proofs.Words.{Answer, Bool, Done, End, Entry, Err, ErrorCode, Give, Item, List, Machine, NoSuchHandle, None, Ok, OpId, Operation, Option, Pending, Ready, Records, Refused}
use Rattle.wasi_causes.proofs.Words.{Result, Some, Stop, Trap, Waits, WasiSocketsCtx, [], ap, arith, bind, false, first_ids, length, refl, subst, sym, true, with_store, word_of_code}
use Rattle.wasi_causes.proofs.Words.{ℕ, ⊤, ◌+◌, ◌++◌, ◌∙◌, ◌∷◌, ◌≡◌}
use Rattle.wasi_world.specs.Operation.{Datagram}
use Rattle.wasi_world.specs.declared.datagram.IncomingDatagram.{IncomingDatagram}
use Rattle.wasi_world.specs.declared.ids.Ids.{Ids}
use Rattle.wasi_udp.specs.Receive.{receive_start}
use Rattle.wasi_udp.specs.Shape.{Socket}
use Rattle.host_udp.specs.DatagramCalls.{receive_datagrams_at, with_receive}
use Rattle.record_common.specs.Stops.{code_stop}
use Rattle.host_store.specs.Machine.{incoming_at}
use Rattle.record_common.specs.Names.{next_name}
use Rattle.udp_records.specs.Receiving.{all_received, fetch_asks, fetch_names, is_receiving, poll_receive_asks, receive_after, receive_all, receive_datagrams_asks, receive_left, receive_next_asks, receives, taken_from, with_receiving}
use Rattle.wasi_records.specs.Records.{open_at}
use Rattle.udp_records.specs.declared.datagrams.Incoming.{Incoming}
use Rattle.udp_records.specs.declared.datagrams.Receiving.{Receiving}
use Rattle.wasi_jobs.specs.declared.job.HostJob.TheVariants.{Receive}
use Rattle.udp_records.specs.declared.udp.OpenUdp.{OpenUdp}
use Rattle.wasi_p2.specs.Udp.{receive_datagrams_on}
use Rattle.wasi_machine.specs.Machine.{reply_of}
use Rattle.wasi_steps.specs.Reply.{datagram_values}
use Rattle.wasi_steps.specs.declared.guest_call.GuestCall.TheVariants as guest
use Rattle.wasi_steps.specs.declared.guest_call.UdpCall.TheVariants as udp_call
use Rattle.wasi_steps.specs.declared.step.Step.TheVariants as step
use Rattle.wasi_walks.specs.Answered.{incoming_of_open, open_in}
use Rattle.wasi_causes.proofs.operations.DatagramPolls.{ReceiveRow as PollRow, receive_ends}
use Rattle.wasi_causes.proofs.sockets.Udp.{ItsBound, ItsFree, UdpBoundRow, udp_bounds}
use Rattle.wasi_causes.proofs.tables.Meets.{After, Meets, Rows, chain, ends, onto, shifted, widen}
use Rattle.wasi_causes.proofs.tables.Routes.{Replied, Says, code_word}
use Rattle.wasi_causes.proofs.udp_streams.Routes.{any_at, jobless, kept_same, on_open_record}
use Rattle.wasi_causes.specs.SendCauses.{BoundSo, FirstReceiveFails, IsBoundSo, IsFreeSo, ReceiveFailedBefore, UdpReceiveRefusal, first_receive, found_so}
use Rattle.wasi_causes.specs.Udp.{putting_udp, udp_local_entry}

-- at most so many, and no code
abbrev Within : ℕ → Result (List IncomingDatagram) ErrorCode → Type 0
Within most (Ok ds) = length ds ≤ most
Within most (Err c) = ⊥

-- at most so many are at most more
within_more : (most more : ℕ) → most ≤ more → (taken : Result (List IncomingDatagram) ErrorCode) → Within most taken → Within more taken
within_more most more le (Ok ds) h = omega (arith, le, h)
within_more most more le (Err c) h = absurd h

-- once one was received a code ends the list and isn't answered
rest_so : (n room : ℕ) (ids : Ids) (d : IncomingDatagram) (ds : List IncomingDatagram) (s : Socket × Incoming) (es : List Entry) → Meets (λ fs done. Within (length (d ∷ ds) + n) done.0) es (receive_all n room ids (d ∷ ds) s)
rest_so zero room ids d ds s es = ends (omega arith)
rest_so (suc n) zero ids d ds s es = ends (omega arith)
rest_so (suc n) (suc room) ids d ds s es = chain {Mid = λ fs r. ⊤} (any_at es (receive_next_asks (next_name ids) s)) (λ fs r k. by_next (λ x t gs. rest_so n (room - length x.bytes) (fetch_names s.1.receiving ids) d (ds ++ x ∷ []) t gs) fs r)
  where
    by_next : ((x : IncomingDatagram) (t : Socket × Incoming) (gs : List Entry) → Meets (λ hs done. Within (length (d ∷ (ds ++ x ∷ [])) + n) done.0) gs (receive_all n (room - length x.bytes) (fetch_names s.1.receiving ids) (d ∷ (ds ++ x ∷ [])) t)) → (fs : List Entry) (r : Result (Answer IncomingDatagram) ErrorCode × (Socket × Incoming)) → Meets (λ gs done. Within (length (d ∷ ds) + suc n) done.0) fs (receive_after (d ∷ ds) (λ x t. receive_all n (room - length x.bytes) (fetch_names s.1.receiving ids) ((d ∷ ds) ++ x ∷ []) t) r)
    by_next next fs (Ok (Ready x), t) =
        widen (λ gs done k. within_more (length (d ∷ (ds ++ x ∷ [])) + n) (length (d ∷ ds) + suc n) (let le = length-append ds (x ∷ []) in omega (arith, le)) done.0 k) (next x t fs)
    by_next next fs (Ok Pending, t) = ends (omega arith)
    by_next next fs (Err c, t) = ends (omega arith)

-- a receive is refused, and this is left: none is in progress
abbrev Leaves : Machine → ℕ → Ids → OpenUdp → Incoming → ErrorCode → List Entry → Socket × Incoming → Type 0
Leaves m place ids o inc c es s = UdpReceiveRefusal m (next_name ids) place o inc es (word_of_code c) (putting_udp m place (record o { inner = s.0; incoming = Some s.1 })) × (is_receiving s.1.receiving ≡ false)

-- == the first of a list
module _ (m : Machine) (place : ℕ) (ids : Ids) (o : OpenUdp) (inc : Incoming) where
  -- the name of the first receive
  abbrev own : OpId
  own = next_name ids

  -- the first comes, or doesn't come yet, or is refused for this reason
  abbrev FirstRow : Rows (Result (Answer IncomingDatagram) ErrorCode × (Socket × Incoming))
  FirstRow es (Ok answer, s) = ⊤
  FirstRow es (Err c, s) = Leaves m place ids o inc c es s

  -- the socket, known to be bound
  abbrev known : Socket
  known = record o.inner { bound = true }

  -- one begins
  module _ (none : inc.receiving ≡ Receiving.Nothing) where
    -- its poll ended
    ended : (asked : List Entry) (bound : Bool) → BoundSo own o.inner asked bound → (es : List Entry) (end : End × List Item) → After (PollRow (first_receive own o inc bound) refl inc.remote) asked es end
        → (op : Operation) → FirstRow es (taken_from (found_so bound o.inner, with_receiving inc (receive_left op end)))
    ended asked bound so es (Waits, items) k op = tt
    ended asked bound so es (Done (Datagram bytes a), items) k op = tt
    ended asked bound so es (Done _, items) k op = tt
    ended asked bound so es (Refused c given, items) k op = rw k.cut (FirstReceiveFails asked k.rest bound c none so k.row, refl)

    -- by whether the socket is bound
    by_bound : (es : List Entry) (b : Bool × Socket) → UdpBoundRow own o.inner es b → Meets (λ fs t. FirstRow fs (taken_from t)) es (poll_receive_asks b.1 inc (receive_start own b.1 b.0))
    by_bound _ _ (ItsBound es is) = onto _ (widen (λ fs end k. ended es true (IsBoundSo es is) fs end k (receive_start own known true)) (shifted es (receive_ends own o inc true)))
    by_bound _ _ (ItsFree local free) = onto _ (widen (λ fs end k. ended (udp_local_entry own o.inner local ∷ []) false (IsFreeSo local free) fs end k (receive_start own o.inner false)) (shifted (udp_local_entry own o.inner local ∷ []) (receive_ends own o inc false)))

  -- by what the stream receives
  fetches : (receiving : Receiving) → inc.receiving ≡ receiving → Meets (λ es t. FirstRow es (taken_from t)) [] (fetch_asks own receiving (o.inner, inc))
  fetches Receiving.Nothing is = chain {Mid = λ es begun. Meets (λ fs t. FirstRow fs (taken_from t)) es (poll_receive_asks begun.1 inc begun.0)} (onto _ (widen (by_bound is) (udp_bounds own o.inner))) (λ es begun k. k)
  fetches (Receiving.InProgress op) is = ends (rw is tt)
  fetches (Receiving.Came d) is = ends (rw is tt)
  fetches (Receiving.Failed c) is = ends (rw is (ReceiveFailedBefore c is, refl))

  -- all of them
  abbrev pub TakenSo : ℕ → Rows (Result (List IncomingDatagram) ErrorCode × (Socket × Incoming))
  TakenSo most es (Ok ds, s) = length ds ≤ most
  TakenSo most es (Err c, s) = Leaves m place ids o inc c es s

  -- with one received, no code is answered
  within_so : (most : ℕ) (es : List Entry) (done : Result (List IncomingDatagram) ErrorCode × (Socket × Incoming)) → Within most done.0 → TakenSo most es done
  within_so most es (Ok ds, s) h = h
  within_so most es (Err c, s) h = absurd h

  -- what follows the first
  after_first : (n room : ℕ) (es : List Entry) (r : Result (Answer IncomingDatagram) ErrorCode × (Socket × Incoming)) → FirstRow es r → Meets (TakenSo (suc n)) es (receive_after [] (λ x t. receive_all n (room - length x.bytes) (fetch_names inc.receiving ids) ([] ++ x ∷ []) t) r)
  after_first n room es (Ok (Ready x), t) k =
      widen (λ fs done h. within_so (suc n) fs done (within_more (length (x ∷ []) + n) (suc n) (omega arith) done.0 h)) (rest_so n (room - length x.bytes) (fetch_names inc.receiving ids) x [] t es)
  after_first n room es (Ok Pending, t) k = ends (omega arith)
  after_first n room es (Err c, t) k = ends k

  -- so many at most, while there is room
  pub all_taken : (n room : ℕ) → Meets (TakenSo n) [] (receive_all n room ids [] (o.inner, inc))
  all_taken zero room = ends (omega arith)
  all_taken (suc n) zero = ends (omega arith)
  all_taken (suc n) (suc room) = chain {Mid = FirstRow} (onto _ (fetches inc.receiving refl)) (after_first n room)

module _ (contexts : List WasiSocketsCtx) (m : Machine) (line c handle : ℕ) where
  module _ (most : ℕ) where
    -- the table of the step
    abbrev ReceiveRow : Rows (Result (List IncomingDatagram) Stop × Machine)
    ReceiveRow = Replied contexts m line (step.Call c (guest.Udp (udp_call.Receive handle most))) (reply_of datagram_values)

    module _ (place : ℕ) (o : OpenUdp) (names : incoming_at m handle ≡ Some place) (at : open_at m.store.records place ≡ Some o) where
      -- the same of what the socket gives
      abbrev ReceivedRow : Rows (Result (List IncomingDatagram) Stop × OpenUdp)
      ReceivedRow es done = ReceiveRow es (with_store m (done.0, with_receive m.store place o done.1))

      -- it is refused, and no job begins
      refused_so : (inc : Incoming) (code : ErrorCode) (es : List Entry) (s : Socket × Incoming) → Leaves m place (first_ids line) o inc code es s
          → UdpReceiveRefusal m (next_name (first_ids line)) place o inc es (word_of_code code) (with_store {A = Result (List IncomingDatagram) Stop} m (Err (code_stop code), with_receive m.store place o (record o { inner = s.0; incoming = Some s.1 }))).1
      refused_so inc code es s k =
          subst (λ (store : Records). let left : Machine = record m { store = store } in UdpReceiveRefusal m (next_name (first_ids line)) place o inc es (word_of_code code) left)
          (sym (jobless m.store place (record o { inner = s.0; incoming = Some s.1 }) (Receive place) (receives o.incoming) (is_receiving s.1.receiving) k.1)) k.0

      -- what was received is in the table
      received_so : (inc : Incoming) → o.incoming ≡ Some inc → (es : List Entry) (done : Result (List IncomingDatagram) ErrorCode × (Socket × Incoming)) → TakenSo m place (first_ids line) o inc (min most 16) es done → ReceivedRow es (all_received o done)
      received_so inc has es (Ok ds, s) k = (tt, ((ds, refl), record { datagrams = ds; gives = refl; wanted = let le = min-le_left most 16 in omega (arith, le, k); within = let le = min-le_right most 16 in omega (arith, le, k) }))
      received_so inc has es (Err code, s) k = (tt, (code_word code, record { place = place; found = o; stream = inc; names = names; at = at; has = has; holds = refused_so inc code es s k }))

      -- by the stream of the socket
      by_incoming : (inc : Option Incoming) → o.incoming ≡ inc → Meets ReceivedRow [] (receive_datagrams_asks (first_ids line) most o inc)
      by_incoming None has =
          ends (subst (λ (store : Records). let left : Machine = record m { store = store } in ReceiveRow [] (Err (Trap NoSuchHandle), left)) (sym (kept_same m.store place o (Receive place) (receives o.incoming) at))
          (tt, (ap incoming_of_open (ap (open_in m) names ∙ at) ∙ has, (refl, refl))))
      by_incoming (Some inc) has = onto _ (widen (received_so inc has) (all_taken m place (first_ids line) o inc (min most 16) 65536))

    -- the step
    pub udp_receive : Meets (Says contexts m line (step.Call c (guest.Udp (udp_call.Receive handle most)))) [] (bind (receive_datagrams_on m (first_ids line) most (incoming_at m handle)) (λ done. Give (reply_of datagram_values done.0, done.1)))
    udp_receive =
        onto _ (on_open_record m (incoming_at m handle) (receive_datagrams_on m (first_ids line) most) (λ place o. receive_datagrams_at m.store (first_ids line) place most o) refl (λ place. refl) (λ place. refl)
        (λ none. (tt, (ap incoming_of_open none, (refl, refl)))) (λ place o names at. onto _ (by_incoming place o names at o.incoming refl)))

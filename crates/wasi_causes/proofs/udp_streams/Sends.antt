-- The permit of an outgoing datagram stream, and what is sent on it.
use Rattle.std.specs.Prelude.{◌≤◌, suc, zero}
use Rattle.wasi_causes.proofs.Words.{Answer, Bool, Done, End, Entry, Err, ErrorCode, Give, IsSomeAnd, Item, List, Machine, NoSuchHandle, None, NotPermitted, Ok, OpId, Operation, Option, Pending, Ready, Records, Refused}
use Rattle.wasi_causes.proofs.Words.{Result, Some, Stop, Trap, Waits, WasiSocketsCtx, [], ap, arith, bind, false, first_ids, inr, length, ltb-false, ltb-true, nat_lt, poll_asks, refl, subst, sym, true, value_reply, with_store, word_of_code}
use Rattle.wasi_causes.proofs.Words.{ℕ, ⊤, ◌+◌, ◌<◌, ◌∙◌, ◌∷◌, ◌≡◌}
use Rattle.wasi_world.specs.declared.datagram.OutgoingDatagram.{OutgoingDatagram}
use Rattle.wasi_world.specs.declared.ids.Ids.{Ids}
use Rattle.wasi_udp.specs.Send.{IsSend, at_remote, send_asks, send_start}
use Rattle.wasi_udp.specs.Shape.{Socket}
use Rattle.host_udp.specs.DatagramCalls.{begins_send, check_send_at, check_send_by, datagrams_sent, send_datagrams_at}
use Rattle.udp_records.specs.Datagrams.{all_sent, count_told, one_sent, poll_send_asks, send_after, send_all, send_datagrams_asks, send_ended, send_next_asks, send_one_asks, send_some, is_sending, sends}
use Rattle.record_common.specs.Stops.{code_stop}
use Rattle.host_store.specs.Machine.{outgoing_at}
use Rattle.record_common.specs.Names.{names_after, next_name}
use Rattle.wasi_records.specs.Records.{open_at}
use Rattle.udp_records.specs.declared.datagrams.Outgoing.{Outgoing}
use Rattle.udp_records.specs.declared.datagrams.Sending.{Sending}
use Rattle.wasi_jobs.specs.declared.job.HostJob.TheVariants.{Datagram}
use Rattle.udp_records.specs.declared.udp.OpenUdp.{OpenUdp}
use Rattle.wasi_p2.specs.Udp.{check_send_on, send_datagrams_on}
use Rattle.wasi_steps.specs.declared.guest_call.GuestCall.TheVariants as guest
use Rattle.wasi_steps.specs.declared.guest_call.UdpCall.TheVariants as udp_call
use Rattle.wasi_steps.specs.declared.step.Step.TheVariants as step
use Rattle.wasi_walks.proofs.fits.UdpFits.{begun_send}
use Rattle.wasi_walks.specs.Answered.{open_in, outgoing_in, outgoing_of_open}
use Rattle.wasi_causes.proofs.operations.DatagramPolls.{datagram_ends}
use Rattle.wasi_causes.proofs.operations.Polls.{EndsFor}
use Rattle.wasi_causes.proofs.sockets.Udp.{ItsBound, ItsFree, UdpBoundRow, udp_bounds}
use Rattle.wasi_causes.proofs.tables.Meets.{After, Meets, Rows, both, branch, chain, ends, onto, shifted, widen}
use Rattle.wasi_causes.proofs.tables.Routes.{Replied, Says, apart, code_word, none_has}
use Rattle.wasi_causes.proofs.udp_streams.Routes.{any_at, job_there, jobless, kept_same, on_open, on_open_record}
use Rattle.wasi_causes.specs.Datagrams.{IsSpent}
use Rattle.wasi_causes.specs.SendCauses.{BoundSo, DatagramFails, FailedBefore, FirstFails, IsBoundSo, IsFreeSo, UdpSendRefusal, first_send, found_so}
use Rattle.wasi_causes.specs.Udp.{putting_udp, udp_local_entry}

-- nothing is less than 0
none_less : (n : ℕ) → n < 0 → ⊥
none_less n h = omega (arith, h)

-- what is at most so many isn't more
never_less : (n k : ℕ) → k ≤ n → n < k → ⊥
never_less n k most less = omega (arith, most, less)

-- at most so many, and no code
abbrev Within : ℕ → Result ℕ ErrorCode → Type 0
Within most (Ok n) = n ≤ most
Within most (Err c) = ⊥

-- at most so many are at most more
within_more : (most more : ℕ) → most ≤ more → (sent : Result ℕ ErrorCode) → Within most sent → Within more sent
within_more most more le (Ok n) h = omega (arith, le, h)
within_more most more le (Err c) h = absurd h

-- once one was sent, or isn't sent yet, a code ends the list and isn't answered
told_so : (count : ℕ) → 0 < count → (most : ℕ) → count ≤ most → (c : ErrorCode) → Within most (count_told count c)
told_so zero some most le c = absurd (none_less 0 some)
told_so (suc n) some most le c = le

-- the rest of a list answers a number, at most of all of them
rest_so : (count : ℕ) → 0 < count → (ids : Ids) (ds : List OutgoingDatagram) (s : Socket × Outgoing) (es : List Entry) → Meets (λ fs done. Within (count + length ds) done.0) es (send_all count ids ds s)
rest_so count some ids [] s es = ends (omega arith)
rest_so count some ids (d ∷ more) s es = chain {Mid = λ fs r. ⊤} (any_at es (send_next_asks (next_name ids) s.0 s.1 d s.1.sending)) (λ fs r k. by_next (λ t gs. rest_so (count + 1) (omega arith) (names_after ids) more t gs) fs r)
  where
    by_next : ((t : Socket × Outgoing) (gs : List Entry) → Meets (λ hs done. Within (count + 1 + length more) done.0) gs (send_all (count + 1) (names_after ids) more t)) → (fs : List Entry) (r : Result (Answer (Unit {0})) ErrorCode × (Socket × Outgoing)) → Meets (λ gs done. Within (count + length (d ∷ more)) done.0) fs (send_after count (λ t. send_all (count + 1) (names_after ids) more t) r)
    by_next next fs (Ok (Ready done), t) = widen (λ gs done k. within_more (count + 1 + length more) (count + length (d ∷ more)) (omega arith) done.0 k) (next t fs)
    by_next next fs (Ok Pending, t) = ends (omega arith)
    by_next next fs (Err c, t) = ends (told_so count some (count + length (d ∷ more)) (omega arith) c)

-- == the permit, which stays as it is
spent_next : (op : OpId) (socket : Socket) (out : Outgoing) (d : OutgoingDatagram) (sending : Sending) (es : List Entry) → Meets (λ fs r. r.1.1.permit ≡ out.permit) es (send_next_asks op socket out d sending)
spent_next op socket out d (Sending.InProgress job) es = ends refl
spent_next op socket out d (Sending.Failed c) es = ends refl
spent_next op socket out d Sending.Nothing es =
    onto one_sent (chain {Mid = λ fs begun. ⊤} (any_at es (send_asks op socket d.bytes d.remote_address)) (λ fs begun k. onto _ (widen {Mid = λ gs end. ⊤} (λ gs end any. told_spent (send_ended begun.0 begun.1 out end) refl) (any_at fs (poll_asks (at_remote begun.1.remote begun.0))))))
  where
    told_spent : (done : Result (Unit {0}) ErrorCode × (Socket × Outgoing)) → done.1.1.permit ≡ out.permit → (one_sent done).1.1.permit ≡ out.permit
    told_spent (Ok x, s) k = k
    told_spent (Err c, s) k = k

-- and of a list
spent_all : (ds : List OutgoingDatagram) (count : ℕ) (ids : Ids) (s : Socket × Outgoing) (es : List Entry) → Meets (λ fs done. done.1.1.permit ≡ s.1.permit) es (send_all count ids ds s)
spent_all [] count ids s es = ends refl
spent_all (d ∷ more) count ids s es = chain {Mid = λ fs r. r.1.1.permit ≡ s.1.permit} (spent_next (next_name ids) s.0 s.1 d s.1.sending es) (λ fs r k. by_next (λ t gs. spent_all more (count + 1) (names_after ids) t gs) fs r k)
  where
    by_next : ((t : Socket × Outgoing) (gs : List Entry) → Meets (λ hs done. done.1.1.permit ≡ t.1.permit) gs (send_all (count + 1) (names_after ids) more t)) → (fs : List Entry) (r : Result (Answer (Unit {0})) ErrorCode × (Socket × Outgoing)) → r.1.1.permit ≡ s.1.permit
        → Meets (λ gs done. done.1.1.permit ≡ s.1.permit) fs (send_after count (λ t. send_all (count + 1) (names_after ids) more t) r)
    by_next next fs (Ok (Ready done), t) k = widen (λ gs done h. h ∙ k) (next t fs)
    by_next next fs (Ok Pending, t) k = ends k
    by_next next fs (Err c, t) k = ends k

-- a send is refused, and this is left: nothing of it is in the background
abbrev Leaves : Machine → ℕ → Ids → OpenUdp → Outgoing → List OutgoingDatagram → ErrorCode → List Entry → Socket × Outgoing → Type 0
Leaves m place ids o out ds c es s = UdpSendRefusal m (next_name ids) place ds o out es (word_of_code c) (putting_udp m place (record o { inner = s.0; outgoing = Some s.1 })) × (is_sending s.1.sending ≡ false)

-- == the first of a list
module _ (m : Machine) (place : ℕ) (ids : Ids) (o : OpenUdp) (out : Outgoing) (d : OutgoingDatagram) (more : List OutgoingDatagram) where
  -- the name of the first datagram
  abbrev own : OpId
  own = next_name ids

  -- the stream, on which nothing is permitted
  abbrev spent : Outgoing
  spent = record out { permit = 0 }

  -- the first is sent, or isn't sent yet, or is refused for this reason
  abbrev FirstRow : Rows (Result (Answer (Unit {0})) ErrorCode × (Socket × Outgoing))
  FirstRow es (Ok answer, s) = ⊤
  FirstRow es (Err c, s) = Leaves m place ids o out (d ∷ more) c es s

  -- the socket, known to be bound
  abbrev known : Socket
  known = record o.inner { bound = true }

  -- it is begun, and polled
  module _ (none : out.sending ≡ Sending.Nothing) where
    -- what begins is a datagram's
    is_send : (bound : Bool) → IsSend (first_send own o d bound)
    is_send bound = let k = (begun_send own o.inner d.bytes d.remote_address bound).send in record { last = k.last; left = k.left }

    -- its poll ended
    ended : (asked : List Entry) (bound : Bool) → BoundSo own o.inner asked bound → (es : List Entry) (end : End × List Item) → After (EndsFor (first_send own o d bound) (DatagramFails (first_send own o d bound))) asked es end
        → (op : Operation) → FirstRow es (one_sent (send_ended op (found_so bound o.inner) spent end))
    ended asked bound so es (Waits, items) k op = tt
    ended asked bound so es (Done given, items) k op = tt
    ended asked bound so es (Refused c given, items) k op = rw k.cut (FirstFails d more asked k.rest bound c refl none so k.row, refl)

    -- by whether the socket is bound
    by_bound : (es : List Entry) (b : Bool × Socket) → UdpBoundRow own o.inner es b → Meets (λ fs done. FirstRow fs (one_sent done)) es (poll_send_asks b.1 spent (send_start own b.1 d.bytes d.remote_address b.0))
    by_bound _ _ (ItsBound es is) = onto _ (widen (λ fs end k. ended es true (IsBoundSo es is) fs end k (send_start own known d.bytes d.remote_address true)) (shifted es (datagram_ends (first_send own o d true) (is_send true))))
    by_bound _ _ (ItsFree local free) = onto _ (widen (λ fs end k. ended (udp_local_entry own o.inner local ∷ []) false (IsFreeSo local free) fs end k (send_start own o.inner d.bytes d.remote_address false)) (shifted (udp_local_entry own o.inner local ∷ []) (datagram_ends (first_send own o d false) (is_send false))))

    -- one is begun and polled
    sends_one : Meets (λ fs done. FirstRow fs (one_sent done)) [] (send_one_asks own o.inner spent d)
    sends_one = chain {Mid = λ es begun. Meets (λ fs done. FirstRow fs (one_sent done)) es (poll_send_asks begun.1 spent begun.0)} (onto _ (widen by_bound (udp_bounds own o.inner))) (λ es begun k. k)

  -- by what the stream sends
  sends_first : (sending : Sending) → out.sending ≡ sending → Meets FirstRow [] (send_next_asks own o.inner spent d sending)
  sends_first Sending.Nothing is = onto _ (sends_one is)
  sends_first (Sending.InProgress job) is = ends tt
  sends_first (Sending.Failed c) is = ends (FailedBefore c is, refl)

  -- all of them
  abbrev pub SentSo : Rows (Result ℕ ErrorCode × (Socket × Outgoing))
  SentSo es (Ok n, s) = n ≤ length (d ∷ more)
  SentSo es (Err c, s) = Leaves m place ids o out (d ∷ more) c es s

  -- with one sent, no code is answered
  within_so : (es : List Entry) (done : Result ℕ ErrorCode × (Socket × Outgoing)) → Within (1 + length more) done.0 → SentSo es done
  within_so es (Ok n, s) h = omega (arith, h)
  within_so es (Err c, s) h = absurd h

  -- what follows the first
  after_first : (es : List Entry) (r : Result (Answer (Unit {0})) ErrorCode × (Socket × Outgoing)) → FirstRow es r → Meets SentSo es (send_after 0 (λ t. send_all 1 (names_after ids) more t) r)
  after_first es (Ok (Ready done), t) k = widen within_so (rest_so 1 (omega arith) (names_after ids) more t es)
  after_first es (Ok Pending, t) k = ends (omega arith)
  after_first es (Err c, t) k = ends k

  -- the whole list
  pub all_so : Meets SentSo [] (send_all 0 ids (d ∷ more) (o.inner, spent))
  all_so = chain {Mid = FirstRow} (sends_first out.sending refl) after_first

module _ (contexts : List WasiSocketsCtx) (m : Machine) (line c handle : ℕ) where
  -- == the permit
  abbrev CheckRow : Rows (Result ℕ Stop × Machine)
  CheckRow = Replied contexts m line (step.Call c (guest.Udp (udp_call.CheckSend handle))) value_reply

  -- the stream of the handle is that of its socket
  no_outgoing : (place : ℕ) (o : OpenUdp) → outgoing_at m handle ≡ Some place → open_at m.store.records place ≡ Some o → (out : Option Outgoing) → o.outgoing ≡ out → outgoing_in m handle ≡ out
  no_outgoing place o names at out has = ap outgoing_of_open (ap (open_in m) names ∙ at) ∙ has

  -- by the stream of the socket
  checks : (place : ℕ) (o : OpenUdp) → outgoing_at m handle ≡ Some place → open_at m.store.records place ≡ Some o → (out : Option Outgoing) → o.outgoing ≡ out → CheckRow [] (with_store m (check_send_by m.store place o out))
  checks place o names at None has = (refl, (no_outgoing place o names at None has, (refl, refl)))
  checks place o names at (Some out) has = (refl, ((tt, tt), record { place = place; found = o; stream = out; names = names; at = at; has = has; holds = record { gives = refl; left = refl } }))

  -- the step
  pub udp_check_send : let done = check_send_on m (outgoing_at m handle) in Meets (Says contexts m line (step.Call c (guest.Udp (udp_call.CheckSend handle)))) [] (Give (value_reply done.0, done.1))
  udp_check_send =
      on_open m (outgoing_at m handle) (λ n. let given = check_send_on m n in Give (value_reply given.0, given.1)) (λ place o. let given = with_store m (check_send_at m.store place o) in Give (value_reply given.0, given.1)) (λ place. refl)
      (λ none. ends (refl, (ap outgoing_of_open none, (refl, refl)))) (λ none place. ends (refl, (ap outgoing_of_open none, (refl, refl)))) (λ place o names at. ends (checks place o names at o.outgoing refl))

  -- == a send
  module _ (ds : List OutgoingDatagram) where
    -- the table of the step
    abbrev SendRow : Rows (Result ℕ Stop × Machine)
    SendRow = Replied contexts m line (step.Call c (guest.Udp (udp_call.Send handle ds))) value_reply

    -- more are to be sent than are permitted
    abbrev TooMany : Type 0
    TooMany = IsSomeAnd (outgoing_in m handle) (λ out. out.permit < length ds)

    -- there is no such stream
    missing : outgoing_in m handle ≡ None → SendRow [] (Err (Trap NoSuchHandle), m)
    missing none = (apart (λ e. cc) (none_has _ (outgoing_in m handle) none), (none, (refl, refl)))

    module _ (place : ℕ) (o : OpenUdp) (names : outgoing_at m handle ≡ Some place) (at : open_at m.store.records place ≡ Some o) where
      -- the same of what the socket gives
      abbrev SentRow : Rows (Result ℕ Stop × OpenUdp)
      SentRow es done = SendRow es (with_store m (datagrams_sent m.store place o done))

      -- with its socket as it was the machine is
      stays : (x : Result ℕ Stop) → SendRow [] (x, m) → SentRow [] (x, o)
      stays x row = subst (λ (store : Records). let left : Machine = record m { store = store } in SendRow [] (x, left)) (sym (kept_same m.store place o (Datagram place) (sends o.outgoing) at)) row

      module _ (out : Outgoing) (has : o.outgoing ≡ Some out) where
        -- these aren't too many
        few : (out.permit < length ds → ⊥) → TooMany → ⊥
        few less many = less (rw (no_outgoing place o names at (Some out) has) at many)

        -- nothing is permitted then
        spent_so : (x : Result ℕ Stop) (socket : Socket) (now : Outgoing) → now.permit ≡ 0 → IsSpent (with_store m (datagrams_sent m.store place o (x, record o { inner = socket; outgoing = Some now }))).1 handle
        spent_so x socket now e =
            let after : Machine = (with_store m (datagrams_sent m.store place o (x, record o { inner = socket; outgoing = Some now }))).1 in
            let there : open_at after.store.records place ≡ Some (record o { inner = socket; outgoing = Some now }) = job_there m.store place o (record o { inner = socket; outgoing = Some now }) (Datagram place) (begins_send o (record o { inner = socket; outgoing = Some now })) at in
            let found : outgoing_in after handle ≡ Some now = ap outgoing_of_open (ap (open_in after) names ∙ there) in
            subst (λ (x : Option Outgoing). IsSomeAnd x (λ out. out.permit ≡ 0)) (sym found) e

        -- it is refused, and no job begins
        refused_so : (code : ErrorCode) (es : List Entry) (s : Socket × Outgoing) → Leaves m place (first_ids line) o out ds code es s
            → UdpSendRefusal m (next_name (first_ids line)) place ds o out es (word_of_code code) (with_store m (datagrams_sent m.store place o (Err (code_stop code), record o { inner = s.0; outgoing = Some s.1 }))).1
        refused_so code es s k =
            subst (λ (store : Records). let left : Machine = record m { store = store } in UdpSendRefusal m (next_name (first_ids line)) place ds o out es (word_of_code code) left)
            (sym (jobless m.store place (record o { inner = s.0; outgoing = Some s.1 }) (Datagram place) (sends o.outgoing) (is_sending s.1.sending) k.1)) k.0

        -- what was sent is in the table
        sent_so : (d : OutgoingDatagram) (more : List OutgoingDatagram) → d ∷ more ≡ ds → (out.permit < length ds → ⊥) → (es : List Entry) (done : Result ℕ ErrorCode × (Socket × Outgoing)) → SentSo m place (first_ids line) o out d more es done × (done.1.1.permit ≡ 0) → SentRow es (all_sent o done)
        sent_so d more is less es (Ok count, s) k = (apart (λ e. cc) (few less), ((tt, tt), (record { count = count; gives = refl; within = subst (λ (xs : List OutgoingDatagram). count ≤ length xs) is k.0 }, λ some. spent_so (Ok count) s.0 s.1 k.1)))
        sent_so d more is less es (Err code, s) k = (
          apart (λ e. cc) (few less),
          (code_word code, (record { place = place; found = o; stream = out; names = names; at = at; has = has; holds = refused_so code es s (subst (λ (xs : List OutgoingDatagram). Leaves m place (first_ids line) o out xs code es s) is k.0) }, spent_so (Err (code_stop code)) s.0 s.1 k.1)),
        )

        -- by the list
        by_list : (xs : List OutgoingDatagram) → xs ≡ ds → Meets SentRow [] (send_some (first_ids line) o out xs)
        by_list [] is = ends (stays (Ok 0) (apart (λ e. cc) (few (λ h. none_less out.permit (subst (λ (xs : List OutgoingDatagram). out.permit < length xs) (sym is) h))), ((tt, tt), (record { count = 0; gives = refl; within = omega arith }, λ some. absurd (none_less 0 (subst (λ (xs : List OutgoingDatagram). 0 < length xs) (sym is) some))))))
        by_list (d ∷ more) is =
            branch (nat_lt out.permit (length (d ∷ more)))
            (λ e. ends (stays (Err (Trap NotPermitted)) ((λ same. rw (no_outgoing place o names at (Some out) has) (subst (λ (xs : List OutgoingDatagram). out.permit < length xs) is (ltb-true _ _ e)), λ many. refl), (inr tt, (refl, refl)))))
            (λ e. onto _ (widen (sent_so d more is (λ h. never_less _ _ (ltb-false _ _ e) (subst (λ (xs : List OutgoingDatagram). out.permit < length xs) (sym is) h))) (both (all_so m place (first_ids line) o out d more) (spent_all (d ∷ more) 0 (first_ids line) (o.inner, record out { permit = 0 }) []))))

      -- by the stream of the socket
      by_stream : (out : Option Outgoing) → o.outgoing ≡ out → Meets SentRow [] (send_datagrams_asks (first_ids line) o out ds)
      by_stream None has = ends (stays (Err (Trap NoSuchHandle)) (missing (no_outgoing place o names at None has)))
      by_stream (Some out) has = by_list out has ds refl

    -- the step
    pub udp_send : Meets (Says contexts m line (step.Call c (guest.Udp (udp_call.Send handle ds)))) [] (bind (send_datagrams_on m (first_ids line) ds (outgoing_at m handle)) (λ done. Give (value_reply done.0, done.1)))
    udp_send =
        onto _ (on_open_record m (outgoing_at m handle) (send_datagrams_on m (first_ids line) ds) (λ place o. send_datagrams_at m.store (first_ids line) place ds o) refl (λ place. refl) (λ place. refl)
        (λ none. missing (ap outgoing_of_open none)) (λ place o names at. onto _ (by_stream place o names at o.outgoing refl)))

-- Datagrams are sent, as moves: each begins by the next name of the line, and is polled; one in the background is polled by a turn.
use Rattle.wasi_walks.proofs.walks.Jobs.{one_begins, udp_is_record}
use Rattle.std.specs.Prelude.{slice_get}
use Rattle.wasi_walks.proofs.walks.Moves.{job_place}
use Rattle.std.specs.Prelude.{◌≡◌, ⊤, ℕ, suc, ◌+◌, nat_lt, Bool, true, false, List, [], ◌∷◌, length, Option, Some, None, Result, Ok, Err}
use Rattle.wasi_walks.proofs.Words.{Answer, Asks, ErrorCode, Give, Has, Machine, Operation, Records, GuestCall, Step, Stop, WasiSocketsCtx}
use Rattle.wasi_walks.proofs.Words.{ap, arith, bind, handles_of, kind_at, refl, sym, subst, inl, inr, with_store}
use Rattle.wasi_machine.specs.Machine.{first_ids}
use Rattle.wasi_world.specs.declared.datagram.OutgoingDatagram.{OutgoingDatagram}
use Rattle.wasi_world.specs.declared.ids.Ids.{Ids}
use Rattle.wasi_world.specs.declared.ids.OpId.{OpId}
use Rattle.host_udp.specs.DatagramCalls.{begins_send, check_send_at, check_send_by, drop_outgoing_at, drop_outgoing_by, send_datagrams_at}
use Rattle.udp_records.specs.Datagrams.{permitted, sends, with_sending, send_left, turned_left, poll_send_asks, send_one_asks, one_sent, send_next_asks, send_after, send_all, all_sent, send_permitted, send_some, send_datagrams_asks, turn_sending, turn_outgoing}
use Rattle.host_store.specs.Jobs.{with_job, turn_datagram_at}
use Rattle.host_store.specs.Machine.{outgoing_at}
use Rattle.wasi_records.specs.Records.{open_at, udp2_at}
use Rattle.host_store.specs.Store.{with_open_udp}
use Rattle.udp_records.specs.declared.datagrams.Outgoing.{Outgoing}
use Rattle.udp_records.specs.declared.datagrams.Sending.{Sending}
use Rattle.wasi_jobs.specs.declared.job.HostJob.{HostJob}
use Rattle.wasi_jobs.specs.declared.job.HostJob.TheVariants.{Datagram}
use Rattle.wasi_records.specs.declared.records.Record.{Record}
use Rattle.udp_records.specs.declared.udp.OpenUdp.{OpenUdp}
use Rattle.udp_records.specs.declared.udp.UdpRecord.{UdpRecord}
use Rattle.wasi_p2.specs.Udp.{check_send_on, send_datagrams_on}
use Rattle.wasi_udp.specs.Send.{send_asks, send_start}
use Rattle.wasi_udp.specs.Shape.{Socket}
use Rattle.wasi_udp.specs.Socket.{bound_asks}
use Rattle.wasi_walks.specs.Licence.{IsItem, IsSendOf}
use Rattle.wasi_walks.proofs.walks.Datagrams.{KeepsBound, bound_given}
use Rattle.std.specs.Prelude.{is_some}
use Rattle.wasi_walks.proofs.walks.Here.{or_true, out_gone}
use Rattle.wasi_walks.proofs.walks.Moves.{StreamStays, Here, NoStartStands, Names, Used, Unused, put_udp, FoundUdp, UdpPlain, SettlesSend, sending_in, part_of, Leaves, Spends, SpendsNames, Counts, Lists, UdpChanges, BeginsSend, StandsDropOutgoing}
use Rattle.wasi_walks.proofs.walks.Law.{Law, Walks, Given, given_along, give, and_then, and_so, and_given, by_if, move, gives, from}
use Rattle.wasi_walks.proofs.walks.States.{At, Over, OverWith, Put, Sets, Starts, outgoing_record}
use Rattle.wasi_walks.proofs.walks.Udp.{open_is, on_udp, part_bound_walks, udp_there}
use Rattle.wasi_walks.proofs.walks.UdpLaw.{HasUdp, udp_put_put, udp_put_same, udp_found, poll_send_walks}
use Rattle.wasi_walks.proofs.Places.{put_finds, udp_sort}
use Rattle.wasi_steps.specs.declared.guest_call.UdpCall.{UdpCall}

-- what a first poll leaves, and what a turn leaves
first_settles : (op : Operation) → SettlesSend op (send_left op)
first_settles op = record { waits = λ items. refl; done = λ given items. refl; refused = λ c given items. refl }

turn_settles : (op : Operation) → SettlesSend op (turned_left op)
turn_settles op = record { waits = λ items. refl; done = λ given items. refl; refused = λ c given items. refl }

-- an outgoing stream with nothing in the background, or with what it had
plain_out : (o : OpenUdp) (now : Option Outgoing) → (sending_in now ≡ sending_in o.outgoing) → UdpPlain o (record o { outgoing = now })
plain_out o now e = record { side = refl; maker = refl; family = refl; remote = refl; bound = λ b. b; binds = inl refl; connects = refl; sends = inl e; receives = inl refl; came = inl refl; dropped = refl }

idle_out : (o : OpenUdp) (now : Option Outgoing) → (sending_in now ≡ None) → UdpPlain o (record o { outgoing = now })
idle_out o now e = record { side = refl; maker = refl; family = refl; remote = refl; bound = λ b. b; binds = inl refl; connects = refl; sends = inr e; receives = inl refl; came = inl refl; dropped = refl }

-- the line sends these, the first of which is of this part
abbrev pub AreSent : ℕ → Step → List OutgoingDatagram → Type 0
AreSent part origin [] = ⊤
AreSent part origin (d ∷ ds) = IsSendOf part d origin × AreSent (part + 1) origin ds

sent_from : (origin : Step) (n : ℕ) (all rest : List OutgoingDatagram) → ((k : ℕ) (d : OutgoingDatagram) → IsItem (suc k) d rest → IsSendOf (suc (k + n)) d origin) → AreSent (suc n) origin rest
sent_from origin n all [] k = tt
sent_from origin n all (d ∷ ds) k = (subst (λ m. IsSendOf (suc m) d origin) zero_plus (k 0 d refl), subst (λ m. AreSent m origin ds) plus_one (sent_from origin (suc n) all ds (λ j x i. subst (λ m. IsSendOf (suc m) x origin) (plus_suc j) (k (suc j) x i))))
  where
    zero_plus : 0 + n ≡ n
    zero_plus = omega arith

    plus_one : suc (suc n) ≡ suc n + 1
    plus_one = omega arith

    plus_suc : (j : ℕ) → suc j + n ≡ j + suc n
    plus_suc j = omega arith

pub all_sent_by : (c outgoing : ℕ) (ds : List OutgoingDatagram) → AreSent 1 (Step.Call c (GuestCall.Udp (UdpCall.Send outgoing ds))) ds
all_sent_by c outgoing ds = sent_from (Step.Call c (GuestCall.Udp (UdpCall.Send outgoing ds))) 0 ds ds (λ k d i. subst (λ m. IsItem (suc m) d ds) (plus_none k) i)
  where
    plus_none : (k : ℕ) → k ≡ k + 0
    plus_none k = omega arith

-- the socket and its stream are these, and so many names of the line are taken
abbrev With : Here → ℕ → OpenUdp → ℕ → Socket × Outgoing → Here
With h place o n s = record (put_udp h place (UdpRecord.Open (record o { inner = s.0; outgoing = Some s.1 }))) { own = Names n }

-- and the line begins no more
abbrev Sent : {A : Type 0} → Here → ℕ → OpenUdp → A × (Socket × Outgoing) → Here
Sent h place o done = record (put_udp h place (UdpRecord.Open (record o { inner = done.1.0; outgoing = Some done.1.1 }))) { own = Used }

-- A datagram begins, of a socket that is bound or not.
record Begun (op : OpId) (d : OutgoingDatagram) (begun : Operation × Socket) : Type 0 where
  pub bound : Bool
  pub same : begun.0 ≡ send_start op begun.1 d.bytes d.remote_address bound
  pub known : bound ≡ true → begun.1.bound ≡ true

begun_given : (op : OpId) (d : OutgoingDatagram) (socket : Socket) → Given (Begun op d) (send_asks op socket d.bytes d.remote_address)
begun_given op d socket = given_along KeepsBound (Begun op d) (bound_asks op socket) _ (bound_given op socket) (λ b k. record { bound = b.0; same = refl; known = k })

module _ {contexts : List WasiSocketsCtx} {line : ℕ} {origin : Step} {law : Law contexts line origin} where
  -- == on the record of a place
  module _ {h : Here} {place : ℕ} (here : HasUdp h place) (at : h.at ≡ Some (place, line)) where
    sent_over : {A : Type 0} (o : OpenUdp) (n : ℕ) (done : A × (Socket × Outgoing)) → Walks law (With h place o n done.1) (Sent h place o) (Give done)
    sent_over o n done = gives _ (SpendsNames _ n refl)

    module _ (n : ℕ) (d : OutgoingDatagram) (is : IsSendOf n d origin) where
      -- it begins, and is polled
      polled_walks : (o : OpenUdp) (socket : Socket) (out : Outgoing) (bound : Bool) → (bound ≡ true → socket.bound ≡ true)
          → Walks law (With h place o n (socket, out)) (λ done. With h place o (n + 1) done.1) (poll_send_asks socket out (send_start (part_of line n) socket d.bytes d.remote_address bound))
      polled_walks o socket out bound k =
          let was : OpenUdp = record o { inner = socket; outgoing = Some out } in
          let op : Operation = send_start (part_of line n) socket d.bytes d.remote_address bound in
          let busy : Outgoing = with_sending out (Sending.InProgress op) in
          let now : OpenUdp = record was { outgoing = Some busy } in
          let counted : Here = record h { own = Names (n + 1) } in
          let there : HasUdp counted place = record { was = here.was; at = here.at } in
          move (BeginsSend _ place n was out d bound at (udp_found here (UdpRecord.Open was)) refl is k refl)
          (from (ap (λ (x : Here). record x { own = Names (n + 1) }) (sym (udp_put_put h place (UdpRecord.Open was) (UdpRecord.Open now))))
          (and_then (poll_send_walks there now busy op (send_left op) refl refl (first_settles op)) (λ ended. give _)))

      one_walks : (o : OpenUdp) (socket : Socket) (out : Outgoing) → Walks law (With h place o n (socket, out)) (λ done. With h place o (n + 1) done.1) (send_one_asks (part_of line n) socket out d)
      one_walks o socket out =
          let was : OpenUdp = record o { inner = socket; outgoing = Some out } in
          let counted : Here = record h { own = Names n } in
          let there : HasUdp counted place = record { was = here.was; at = here.at } in
          and_given {mid = λ begun. With h place o n (begun.1, out)} (Begun (part_of line n) d) (begun_given (part_of line n) d socket) (and_then (part_bound_walks there at n was) (λ b. give _))
          (λ begun k. subst (λ (op : Operation). Walks law (With h place o n (begun.1, out)) (λ done. With h place o (n + 1) done.1) (poll_send_asks begun.1 out op)) (sym k.same) (polled_walks o begun.1 out k.bound k.known))

    -- == datagrams in turn
    all_walks : (o : OpenUdp) (count n : ℕ) (ds : List OutgoingDatagram) → AreSent n origin ds → (s : Socket × Outgoing) → Walks law (With h place o n s) (Sent h place o) (send_all count (record { line = line; next_part = n }) ds s)
    unfolding bind
    all_walks o count n [] are s = sent_over o n _
    all_walks o count n (d ∷ more) are s = next_walks (λ t. all_walks o (count + 1) (n + 1) more are.1 t) s.1.sending
      where
        rest : Socket × Outgoing → Asks (Result ℕ ErrorCode × (Socket × Outgoing))
        rest t = send_all (count + 1) (record { line = line; next_part = n + 1 }) more t

        after_walks : ((t : Socket × Outgoing) → Walks law (With h place o (n + 1) t) (Sent h place o) (rest t)) → (done : Result (Unit {0}) ErrorCode × (Socket × Outgoing)) → Walks law (With h place o (n + 1) done.1) (Sent h place o) (send_after count rest (one_sent done))
        after_walks again (Ok d, t) = again t
        after_walks again (Err c, t) = sent_over o (n + 1) _

        idle : Outgoing
        idle = with_sending s.1 Sending.Nothing

        next_walks : ((t : Socket × Outgoing) → Walks law (With h place o (n + 1) t) (Sent h place o) (rest t)) → (sending : Sending) → Walks law (With h place o n s) (Sent h place o) (bind (send_next_asks (part_of line n) s.0 s.1 d sending) (send_after count rest))
        next_walks again Sending.Nothing = and_so {mid = λ done. With h place o (n + 1) done.1} one_sent (send_after count rest) (one_walks n d are.0 o s.0 s.1) (after_walks again)
        next_walks again (Sending.InProgress job) = sent_over o n _
        next_walks again (Sending.Failed c) =
            let was : OpenUdp = record o { inner = s.0; outgoing = Some s.1 } in
            let now : OpenUdp = record was { outgoing = Some idle } in
            move (UdpChanges _ place was now (udp_found here (UdpRecord.Open was)) (idle_out was (Some idle) refl) (record { incoming = StreamStays _; makes = inl (λ some. some) }))
            (from (ap (λ (x : Here). record x { own = Names n }) (sym (udp_put_put h place (UdpRecord.Open was) (UdpRecord.Open now)))) (sent_over o n _))

    permitted_walks : (o : OpenUdp) (out : Outgoing) (ds : List OutgoingDatagram) → AreSent 1 origin ds → o.outgoing ≡ Some out → h.own ≡ Unused → Walks law (put_udp h place (UdpRecord.Open o)) (λ done. record (put_udp h place (UdpRecord.Open done.1)) { own = Used }) (send_permitted (record { line = line; next_part = 1 }) o out ds)
    permitted_walks o out ds are e free =
        let none : Outgoing = record out { permit = 0 } in
        let now : OpenUdp = record o { outgoing = Some none } in
        by_if (nat_lt out.permit (length ds)) (λ more. gives _ (Spends _ free))
        (λ within. move (UdpChanges _ place o now (udp_found here (UdpRecord.Open o)) (plain_out o (Some none) (ap sending_in (sym e))) (record { incoming = StreamStays _; makes = inl (λ some. rw e (or_true (is_some o.incoming))) }))
        (from (sym (udp_put_put h place (UdpRecord.Open o) (UdpRecord.Open now))) (move (Counts _ free) (and_then (all_walks o 0 1 ds are (o.inner, none)) told_walks))))
      where
        told_walks : (done : Result ℕ ErrorCode × (Socket × Outgoing)) → Walks law (Sent h place o done) (λ done. record (put_udp h place (UdpRecord.Open done.1)) { own = Used }) (Give (all_sent o done))
        told_walks (Ok count, s) = give _
        told_walks (Err c, s) = give _

    some_walks : (o : OpenUdp) (out : Outgoing) (ds : List OutgoingDatagram) → AreSent 1 origin ds → o.outgoing ≡ Some out → h.own ≡ Unused → Walks law (put_udp h place (UdpRecord.Open o)) (λ done. record (put_udp h place (UdpRecord.Open done.1)) { own = Used }) (send_some (record { line = line; next_part = 1 }) o out ds)
    some_walks o out [] are e free = gives _ (Spends _ free)
    some_walks o out (d ∷ more) are e free = permitted_walks o out (d ∷ more) are e free

    datagrams_walks : (o : OpenUdp) (out : Option Outgoing) (ds : List OutgoingDatagram) → AreSent 1 origin ds → o.outgoing ≡ out → h.own ≡ Unused → Walks law (put_udp h place (UdpRecord.Open o)) (λ done. record (put_udp h place (UdpRecord.Open done.1)) { own = Used }) (send_datagrams_asks (record { line = line; next_part = 1 }) o out ds)
    datagrams_walks o None ds are e free = gives _ (Spends _ free)
    datagrams_walks o (Some out) ds are e free = some_walks o out ds are e free

  -- a job that begins is listed
  pub listed_walks : {T : Type 0} (m : Machine) (place : ℕ) (job : HostJob) (done : Result T Stop × Records) (begins : Bool) {now : UdpRecord} → udp2_at done.1.records (job_place job) ≡ Some now → Walks law (Put line m place done) (Put line m place) (Give (done.0, with_job done.1 job begins))
  listed_walks m place job done true {now} e = gives _ (Lists _ _ (one_begins done.1.records done.1.jobs job (udp_is_record (slice_get done.1.records (job_place job)) now e)))
  listed_walks m place job done false e = give _

  sends_at : (m : Machine) (place : ℕ) (ds : List OutgoingDatagram) → AreSent 1 origin ds → (o : Option OpenUdp) → open_at m.store.records place ≡ o → Walks law (At line m place Unused) (Put line m place) (send_datagrams_at m.store (first_ids line) place ds o)
  sends_at m place ds are None e = gives _ (Spends _ refl)
  sends_at m place ds are (Some o) e =
      let g : FoundUdp (At line m place Unused) place (UdpRecord.Open o) = open_is (udp2_at m.store.records place) o e in
      from (udp_put_same (At line m place Unused) place (UdpRecord.Open o) g)
      (and_then (datagrams_walks (udp_there {h = At line m place Unused} g) refl o o.outgoing ds are refl refl) (λ done. listed_walks m place (Datagram place) (done.0, with_open_udp m.store place done.1) (begins_send o done.1) (put_finds udp_sort m.store.records place (UdpRecord.Open o) (UdpRecord.Open done.1) g)))

  pub send_walks : (m : Machine) (c outgoing : ℕ) (ds : List OutgoingDatagram) → origin ≡ Step.Call c (GuestCall.Udp (UdpCall.Send outgoing ds)) → Has (handles_of origin) outgoing → Walks law (Starts m Unused) OverWith (send_datagrams_on m (first_ids line) ds (outgoing_at m outgoing))
  send_walks m c outgoing ds is named = on_udp m outgoing (outgoing_at m outgoing) named (outgoing_record (kind_at m.table outgoing)) (λ place. sends_at m place ds (subst (λ (s : Step). AreSent 1 s ds) (sym is) (all_sent_by c outgoing ds)) (open_at m.store.records place) refl)

  -- == a permit
  permits_by : (m : Machine) (place : ℕ) (o : OpenUdp) → FoundUdp (Over m) place (UdpRecord.Open o) → (out : Option Outgoing) → o.outgoing ≡ out → Walks law (Starts m Unused) (λ now. Over now) (Give (with_store m (check_send_by m.store place o out)).1)
  permits_by m place o g None e = gives _ (Spends _ refl)
  permits_by m place o g (Some out) e = move (Spends _ refl) (gives _ (UdpChanges _ place o _ g (plain_out o (Some (permitted out)) (ap sending_in (sym e))) (record { incoming = StreamStays _; makes = inl (λ some. rw e (or_true (is_some o.incoming))) })))

  permits_at : (m : Machine) (place : ℕ) (o : Option OpenUdp) → open_at m.store.records place ≡ o → Walks law (Starts m Unused) (λ now. Over now) (Give (with_store m (check_send_at m.store place o)).1)
  permits_at m place None e = gives _ (Spends _ refl)
  permits_at m place (Some o) e = permits_by m place o (open_is (udp2_at m.store.records place) o e) o.outgoing refl

  pub check_send_walks : (m : Machine) (o : Option ℕ) → Walks law (Starts m Unused) (λ now. Over now) (Give (check_send_on m o).1)
  check_send_walks m None = gives _ (Spends _ refl)
  check_send_walks m (Some place) = permits_at m place (open_at m.store.records place) refl

  -- == a turn
  turned_walks : {h : Here} {place : ℕ} (here : HasUdp h place) (o : OpenUdp) (out : Outgoing) (sending : Sending) → o.outgoing ≡ Some out → out.sending ≡ sending
      → Walks law (put_udp h place (UdpRecord.Open o)) (λ now. put_udp h place (UdpRecord.Open (record o { outgoing = Some now }))) (turn_sending o.inner out sending)
  turned_walks here o out (Sending.InProgress op) e f = and_then (poll_send_walks here o out op (turned_left op) e f (turn_settles op)) (λ ended. give _)
  turned_walks {h} {place} here o out Sending.Nothing e f = from (ap (λ (x : Option Outgoing). put_udp h place (UdpRecord.Open (record o { outgoing = x }))) (sym e)) (give _)
  turned_walks {h} {place} here o out (Sending.Failed c) e f = from (ap (λ (x : Option Outgoing). put_udp h place (UdpRecord.Open (record o { outgoing = x }))) (sym e)) (give _)

  turn_out : {h : Here} {place : ℕ} (here : HasUdp h place) (o : OpenUdp) (out : Option Outgoing) → o.outgoing ≡ out → Walks law (put_udp h place (UdpRecord.Open o)) (λ now. put_udp h place (UdpRecord.Open now)) (turn_outgoing o out)
  turn_out here o None e = give _
  turn_out here o (Some out) e = and_then (turned_walks here o out out.sending e refl) (λ now. give _)

  pub turn_datagram_walks : (m : Machine) (records : List Record) (place : ℕ) (o : Option OpenUdp) → open_at records place ≡ o → Walks law (Sets m records) (Sets m) (turn_datagram_at records place o)
  turn_datagram_walks m records place None e = give _
  turn_datagram_walks m records place (Some o) e =
      let g : FoundUdp (Sets m records) place (UdpRecord.Open o) = open_is (udp2_at records place) o e in
      from (udp_put_same (Sets m records) place (UdpRecord.Open o) g) (and_then (turn_out (udp_there {h = Sets m records} g) o o.outgoing refl) (λ now. give _))

  -- == a drop
  drops_by : (ids : Ids) (m : Machine) (place : ℕ) (o : OpenUdp) → FoundUdp (At ids.line m place Used) place (UdpRecord.Open o) → (b : Bool) → sends o.outgoing ≡ b → NoStartStands m.store.standing → Walks law (At ids.line m place Used) (Put ids.line m place) (Give (drop_outgoing_by m.store ids place o b))
  drops_by ids m place o g true e q = gives _ (StandsDropOutgoing _ ids place o q refl g e)
  drops_by ids m place o g false e q = gives _ (UdpChanges _ place o _ g (idle_out o None refl) (record { incoming = StreamStays _; makes = inl (λ some. out_gone o some) }))

  drops_at : (ids : Ids) (m : Machine) (place : ℕ) (o : Option OpenUdp) → open_at m.store.records place ≡ o → NoStartStands m.store.standing → Walks law (At ids.line m place Used) (Put ids.line m place) (Give (drop_outgoing_at m.store ids place o))
  drops_at ids m place None e q = give _
  drops_at ids m place (Some o) e q = drops_by ids m place o (open_is (udp2_at m.store.records place) o e) (sends o.outgoing) refl q

  -- what it leaves, and what is made of that
  pub drop_outgoing_walks : {B : Type 0} (ids : Ids) (m : Machine) (place : ℕ) → NoStartStands m.store.standing → (f : Answer (Unit {0}) × Records → B × Machine) → ((done : Answer (Unit {0}) × Records) → (f done).1 ≡ record m { store = done.1 }) → Walks law (At ids.line m place Used) OverWith (Give (f (drop_outgoing_at m.store ids place (open_at m.store.records place))))
  unfolding bind
  drop_outgoing_walks {B} ids m place q f k = and_then {asks = Give (drop_outgoing_at m.store ids place (open_at m.store.records place))} (drops_at ids m place (open_at m.store.records place) refl q) (λ done. move (Leaves _) (from (ap (λ (x : Machine). Over x) (k done)) (give (f done))))

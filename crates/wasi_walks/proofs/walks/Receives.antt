-- Datagrams are received, as moves: a receive begins by the next name of the line, and is polled, by a turn too.
use Rattle.std.specs.Prelude.{◌≡◌, ⊤, ℕ, zero, suc, ◌+◌, ◌-◌, min, Bool, List, [], ◌∷◌, ◌++◌, length, Option, Some, None, Result, Ok, Err}
use Rattle.wasi_walks.proofs.Words.{Answer, Asks, ErrorCode, Give, Has, Machine, Operation, Pending, Ready, GuestCall, Step, WasiSocketsCtx}
use Rattle.wasi_walks.proofs.Words.{ap, bind, handles_of, kind_at, refl, sym, subst, inl, inr, with_store}
use Rattle.wasi_machine.specs.Machine.{first_ids}
use Rattle.wasi_world.specs.declared.datagram.IncomingDatagram.{IncomingDatagram}
use Rattle.wasi_world.specs.declared.ids.Ids.{Ids}
use Rattle.wasi_world.specs.declared.ids.OpId.{OpId}
use Rattle.host_udp.specs.DatagramCalls.{begins_receive, drop_incoming_at, receive_datagrams_at}
use Rattle.host_store.specs.Jobs.{turn_receive_at}
use Rattle.wasi_host.specs.HandleDrops.{answered, at_once}
use Rattle.host_store.specs.Machine.{incoming_at}
use Rattle.udp_records.specs.Receiving.{all_received, fetch_asks, fetch_names, poll_receive_asks, receive_after, receive_all, receive_datagrams_asks, receive_next_asks, taken, turn_incoming, turn_receiving, with_incoming, with_receiving}
use Rattle.wasi_records.specs.Records.{open_at, udp2_at}
use Rattle.host_store.specs.Store.{with_open_udp}
use Rattle.udp_records.specs.declared.datagrams.Incoming.{Incoming}
use Rattle.udp_records.specs.declared.datagrams.Receiving.{Receiving}
use Rattle.wasi_jobs.specs.declared.job.HostJob.TheVariants.{Receive}
use Rattle.host_store.specs.declared.kind.Kind.TheVariants as kinds
use Rattle.wasi_records.specs.declared.records.Record.{Record}
use Rattle.udp_records.specs.declared.udp.OpenUdp.{OpenUdp}
use Rattle.udp_records.specs.declared.udp.UdpRecord.{UdpRecord}
use Rattle.wasi_p2.specs.Udp.{receive_datagrams_on}
use Rattle.wasi_udp.specs.Receive.{receive_asks, receive_start}
use Rattle.wasi_udp.specs.Shape.{Socket}
use Rattle.wasi_udp.specs.Socket.{bound_asks}
use Rattle.wasi_walks.specs.Licence.{Receives}
use Rattle.wasi_walks.proofs.walks.Here.{in_gone}
use Rattle.wasi_walks.proofs.walks.Moves.{ReachesUdp, TakesFrom, StreamGoes, StreamIsTaken, StreamMoves, Here, Names, Used, Unused, put_udp, FoundUdp, UdpPlain, receiving_in, receive_op, came_from, came_in, came_of, part_of, Leaves, Spends, SpendsNames, Counts, Lists, UdpChanges, BeginsReceive}
use Rattle.wasi_walks.proofs.walks.Law.{Law, Walks, Given, given_along, give, and_then, and_given, move, gives, from}
use Rattle.wasi_walks.proofs.walks.Jobs.{receives_end}
use Rattle.wasi_walks.proofs.walks.Sends.{listed_walks}
use Rattle.wasi_walks.proofs.walks.States.{At, Emptying, OverWith, Put, Sets, Starts, given_any, incoming_kind, incoming_record}
use Rattle.wasi_walks.proofs.walks.Udp.{open_is, part_bound_walks, udp_there}
use Rattle.wasi_walks.proofs.walks.UdpLaw.{HasUdp, udp_put_put, udp_put_same, udp_found, poll_receive_walks}
use Rattle.wasi_walks.proofs.Places.{put_finds, udp_sort}
use Rattle.wasi_steps.specs.declared.guest_call.UdpCall.{UdpCall}

-- an incoming stream that has what it had
kept_in : (o : OpenUdp) (now : Option Incoming) → (receiving_in now ≡ receiving_in o.incoming) → (came_in now ≡ came_in o.incoming) → UdpPlain o (record o { incoming = now })
kept_in o now e f = record { side = refl; maker = refl; family = refl; remote = refl; bound = λ b. b; binds = inl refl; connects = refl; sends = inl refl; receives = inl e; came = inl f; dropped = refl }

-- one with no receive in progress, and of which nothing has come
idle_in : (o : OpenUdp) (now : Option Incoming) → (receiving_in now ≡ None) → (came_in now ≡ None) → UdpPlain o (record o { incoming = now })
idle_in o now e f = record { side = refl; maker = refl; family = refl; remote = refl; bound = λ b. b; binds = inl refl; connects = refl; sends = inl refl; receives = inr e; came = inr f; dropped = refl }

-- the socket and its stream are these, and so many names of the line are taken
abbrev pub With : Here → ℕ → OpenUdp → ℕ → Socket × Incoming → Here
With h place o n s = record (put_udp h place (UdpRecord.Open (with_incoming o s))) { own = Names n }

-- and the line begins no more
abbrev Taken : {A : Type 0} → Here → ℕ → OpenUdp → A × (Socket × Incoming) → Here
Taken h place o done = record (put_udp h place (UdpRecord.Open (with_incoming o done.1))) { own = Used }

-- A receive begins, of a socket that is bound or not.
record Begun (op : OpId) (begun : Operation × Socket) : Type 0 where
  pub bound : Bool
  pub same : begun.0 ≡ receive_start op begun.1 bound

begun_given : (op : OpId) (socket : Socket) → Given (Begun op) (receive_asks op socket)
begun_given op socket = given_along (λ b. ⊤) (Begun op) (bound_asks op socket) _ (any (bound_asks op socket)) (λ b k. record { bound = b.0; same = refl })
  where
    any : (asks : Asks (Bool × Socket)) → Given (λ b. ⊤) asks
    any asks = given_any (λ b. ⊤) (λ b. tt) asks

-- the names that are taken then
abbrev after_fetch : Receiving → ℕ → ℕ
after_fetch Receiving.Nothing n = n + 1
after_fetch _ n = n

names_same : (line : ℕ) (receiving : Receiving) (n : ℕ) → fetch_names receiving (record { line = line; next_part = n }) ≡ record { line = line; next_part = after_fetch receiving n }
names_same line Receiving.Nothing n = refl
names_same line (Receiving.InProgress op) n = refl
names_same line (Receiving.Came d) n = refl
names_same line (Receiving.Failed c) n = refl

-- an incoming stream that is there, put back
pub incoming_is : (h : Here) (place : ℕ) (o : OpenUdp) (inc : Incoming) → o.incoming ≡ Some inc → put_udp h place (UdpRecord.Open (with_incoming o (o.inner, inc))) ≡ put_udp h place (UdpRecord.Open o)
incoming_is h place o inc e = ap (λ (x : Option Incoming). put_udp h place (UdpRecord.Open (record o { incoming = x }))) (sym e)

module _ {contexts : List WasiSocketsCtx} {line : ℕ} {origin : Step} {law : Law contexts line origin} where
  -- == on the record of a place, by a line that receives
  module _ {h : Here} {place : ℕ} (here : HasUdp h place) (at : h.at ≡ Some (place, line)) (is : Receives origin) where
    -- what is taken from the stream leaves no receive in progress, or the one that it had
    takes_walks : {A : Type 0} {end : A → Here} {asks : Asks A} → TakesFrom origin h.machine.table place → (o : OpenUdp) (n : ℕ) (s : Socket × Incoming) (receiving : Receiving) → s.1.receiving ≡ receiving → Walks law (With h place o n (s.0, with_receiving s.1 (taken receiving).1)) end asks → Walks law (With h place o n s) end asks
    takes_walks takes o n s receiving e w =
        let was : OpenUdp = with_incoming o s in
        let inc : Incoming = with_receiving s.1 (taken receiving).1 in
        move (UdpChanges _ place was (record was { incoming = Some inc }) (udp_found here (UdpRecord.Open was)) (plain receiving e) (record { incoming = subst (λ (r : Receiving). StreamMoves origin (With h place o n s) place (Some s.1) (Some (with_receiving s.1 (taken r).1))) e (StreamIsTaken s.1 takes); makes = inl (λ some. refl) }))
        (from (ap (λ (x : Here). record x { own = Names n }) (sym (udp_put_put h place (UdpRecord.Open was) (UdpRecord.Open (record was { incoming = Some inc }))))) w)
      where
        plain : (receiving : Receiving) → s.1.receiving ≡ receiving → UdpPlain (with_incoming o s) (record (with_incoming o s) { incoming = Some (with_receiving s.1 (taken receiving).1) })
        plain Receiving.Nothing e = idle_in (with_incoming o s) _ refl refl
        plain (Receiving.InProgress op) e = kept_in (with_incoming o s) _ (ap receive_op (sym e)) (ap (λ (r : Receiving). came_from s.1.remote (came_of r)) (sym e))
        plain (Receiving.Came d) e = idle_in (with_incoming o s) _ refl refl
        plain (Receiving.Failed c) e = idle_in (with_incoming o s) _ refl refl

    -- a receive begins, and is polled
    polled_walks : (n : ℕ) (o : OpenUdp) (socket : Socket) (inc : Incoming) (bound : Bool) → inc.receiving ≡ Receiving.Nothing → Walks law (With h place o n (socket, inc)) (With h place o (n + 1)) (poll_receive_asks socket inc (receive_start (part_of line n) socket bound))
    polled_walks n o socket inc bound idle =
        let was : OpenUdp = with_incoming o (socket, inc) in
        let op : Operation = receive_start (part_of line n) socket bound in
        let busy : Incoming = with_receiving inc (Receiving.InProgress op) in
        let now : OpenUdp = record was { incoming = Some busy } in
        let counted : Here = record h { own = Names (n + 1) } in
        let there : HasUdp counted place = record { was = here.was; at = here.at } in
        move (BeginsReceive _ place n was inc bound at (udp_found here (UdpRecord.Open was)) refl (is, idle) refl)
        (from (ap (λ (x : Here). record x { own = Names (n + 1) }) (sym (udp_put_put h place (UdpRecord.Open was) (UdpRecord.Open now))))
        (and_then (poll_receive_walks there now busy op refl refl) (λ ended. give _)))

    pub begun_walks : (n : ℕ) (o : OpenUdp) (socket : Socket) (inc : Incoming) → inc.receiving ≡ Receiving.Nothing → Walks law (With h place o n (socket, inc)) (With h place o (n + 1)) (bind (receive_asks (part_of line n) socket) (λ begun. poll_receive_asks begun.1 inc begun.0))
    begun_walks n o socket inc idle =
        let was : OpenUdp = with_incoming o (socket, inc) in
        let counted : Here = record h { own = Names n } in
        let there : HasUdp counted place = record { was = here.was; at = here.at } in
        and_given {mid = λ begun. With h place o n (begun.1, inc)} (Begun (part_of line n)) (begun_given (part_of line n) socket) (and_then (part_bound_walks there at n was) (λ b. give _))
        (λ begun k. subst (λ (op : Operation). Walks law (With h place o n (begun.1, inc)) (With h place o (n + 1)) (poll_receive_asks begun.1 inc op)) (sym k.same) (polled_walks n o begun.1 inc k.bound idle))

    fetch_walks : (n : ℕ) (o : OpenUdp) (s : Socket × Incoming) (receiving : Receiving) → s.1.receiving ≡ receiving → Walks law (With h place o n s) (With h place o (after_fetch receiving n)) (fetch_asks (part_of line n) receiving s)
    fetch_walks n o s Receiving.Nothing e = begun_walks n o s.0 s.1 e
    fetch_walks n o s (Receiving.InProgress op) e = give _
    fetch_walks n o s (Receiving.Came d) e = give _
    fetch_walks n o s (Receiving.Failed c) e = give _

    next_walks : TakesFrom origin h.machine.table place → (n : ℕ) (o : OpenUdp) (s : Socket × Incoming) → Walks law (With h place o n s) (λ done. With h place o (after_fetch s.1.receiving n) done.1) (receive_next_asks (part_of line n) s)
    next_walks takes n o s = and_then (fetch_walks n o s s.1.receiving refl) (λ t. takes_walks takes o (after_fetch s.1.receiving n) t t.1.receiving refl (give _))

    -- == datagrams in turn
    taken_over : {A : Type 0} (o : OpenUdp) (n : ℕ) (done : A × (Socket × Incoming)) → Walks law (With h place o n done.1) (Taken h place o) (Give done)
    taken_over o n done = gives _ (SpendsNames _ n refl)

    all_walks : TakesFrom origin h.machine.table place → (o : OpenUdp) (most room n : ℕ) (so_far : List IncomingDatagram) (s : Socket × Incoming) → Walks law (With h place o n s) (Taken h place o) (receive_all most room (record { line = line; next_part = n }) so_far s)
    all_walks takes o zero room n so_far s = taken_over o n _
    all_walks takes o (suc most) zero n so_far s = taken_over o n _
    all_walks takes o (suc most) (suc room) n so_far s =
        and_then {mid = λ done. With h place o (after_fetch s.1.receiving n) done.1} (next_walks takes n o s)
        (after_walks (λ d t. subst (λ (ids : Ids). Walks law (With h place o (after_fetch s.1.receiving n) t) (Taken h place o) (receive_all most (room - length d.bytes) ids (so_far ++ d ∷ []) t)) (sym (names_same line s.1.receiving n)) (all_walks takes o most (room - length d.bytes) (after_fetch s.1.receiving n) (so_far ++ d ∷ []) t)))
      where
        k : ℕ
        k = after_fetch s.1.receiving n

        rest : IncomingDatagram → Socket × Incoming → Asks (Result (List IncomingDatagram) ErrorCode × (Socket × Incoming))
        rest d t = receive_all most (room - length d.bytes) (fetch_names s.1.receiving (record { line = line; next_part = n })) (so_far ++ d ∷ []) t

        after_walks : ((d : IncomingDatagram) (t : Socket × Incoming) → Walks law (With h place o k t) (Taken h place o) (rest d t)) → (done : Result (Answer IncomingDatagram) ErrorCode × (Socket × Incoming)) → Walks law (With h place o k done.1) (Taken h place o) (receive_after so_far rest done)
        after_walks again (Ok (Ready d), t) = again d t
        after_walks again (Ok Pending, t) = taken_over o k _
        after_walks again (Err c, t) = taken_over o k _

    datagrams_walks : TakesFrom origin h.machine.table place → (o : OpenUdp) (inc : Option Incoming) (most : ℕ) → o.incoming ≡ inc → h.own ≡ Unused → Walks law (put_udp h place (UdpRecord.Open o)) (λ done. record (put_udp h place (UdpRecord.Open done.1)) { own = Used }) (receive_datagrams_asks (record { line = line; next_part = 1 }) most o inc)
    datagrams_walks takes o None most e free = gives _ (Spends _ free)
    datagrams_walks takes o (Some inc) most e free = from (incoming_is h place o inc e) (move (Counts _ free) (and_then (all_walks takes o (min most 16) 65536 1 [] (o.inner, inc)) told_walks))
      where
        told_walks : (done : Result (List IncomingDatagram) ErrorCode × (Socket × Incoming)) → Walks law (Taken h place o done) (λ done. record (put_udp h place (UdpRecord.Open done.1)) { own = Used }) (Give (all_received o done))
        told_walks (Ok ds, s) = give _
        told_walks (Err c, s) = give _

  receives_at : Receives origin → (m : Machine) (place most : ℕ) → TakesFrom origin m.table place → (o : Option OpenUdp) → open_at m.store.records place ≡ o → Walks law (At line m place Unused) (Put line m place) (receive_datagrams_at m.store (first_ids line) place most o)
  receives_at is m place most takes None e = gives _ (Spends _ refl)
  receives_at is m place most takes (Some o) e =
      let g : FoundUdp (At line m place Unused) place (UdpRecord.Open o) = open_is (udp2_at m.store.records place) o e in
      from (udp_put_same (At line m place Unused) place (UdpRecord.Open o) g)
      (and_then (datagrams_walks (udp_there {h = At line m place Unused} g) refl is takes o o.incoming most refl refl) (λ done. listed_walks m place (Receive place) (done.0, with_open_udp m.store place done.1) (begins_receive o done.1) (put_finds udp_sort m.store.records place (UdpRecord.Open o) (UdpRecord.Open done.1) g)))

  -- of the handle that the line names
  receives_on : Receives origin → (m : Machine) (c incoming most : ℕ) → origin ≡ Step.Call c (GuestCall.Udp (UdpCall.Receive incoming most)) → Has (handles_of origin) incoming → (o : Option ℕ) → incoming_at m incoming ≡ o → Walks law (Starts m Unused) OverWith (receive_datagrams_on m (first_ids line) most o)
  receives_on is m c incoming most its named None e = gives _ (Spends _ refl)
  receives_on is m c incoming most its named (Some place) e =
      move (ReachesUdp _ incoming place named (incoming_record (kind_at m.table incoming) place e))
      (and_then (receives_at is m place most (record { ctx = c; handle = incoming; most = most; is = its; of = incoming_kind (kind_at m.table incoming) place e }) (open_at m.store.records place) refl) (λ done. gives _ (Leaves _)))

  pub receive_walks : Receives origin → (m : Machine) (c incoming most : ℕ) → origin ≡ Step.Call c (GuestCall.Udp (UdpCall.Receive incoming most)) → Has (handles_of origin) incoming → Walks law (Starts m Unused) OverWith (receive_datagrams_on m (first_ids line) most (incoming_at m incoming))
  receive_walks is m c incoming most its named = receives_on is m c incoming most its named (incoming_at m incoming) refl

  -- == a turn
  turned_walks : {h : Here} {place : ℕ} (here : HasUdp h place) (o : OpenUdp) (inc : Incoming) (receiving : Receiving) → o.incoming ≡ Some inc → inc.receiving ≡ receiving
      → Walks law (put_udp h place (UdpRecord.Open o)) (λ now. put_udp h place (UdpRecord.Open (record o { incoming = Some now }))) (turn_receiving inc receiving)
  turned_walks here o inc (Receiving.InProgress op) e f = and_then (poll_receive_walks here o inc op e f) (λ ended. give _)
  turned_walks {h} {place} here o inc _ e f = from (ap (λ (x : Option Incoming). put_udp h place (UdpRecord.Open (record o { incoming = x }))) (sym e)) (give _)

  turn_in : {h : Here} {place : ℕ} (here : HasUdp h place) (o : OpenUdp) (inc : Option Incoming) → o.incoming ≡ inc → Walks law (put_udp h place (UdpRecord.Open o)) (λ now. put_udp h place (UdpRecord.Open now)) (turn_incoming o inc)
  turn_in here o None e = give _
  turn_in here o (Some inc) e = and_then (turned_walks here o inc inc.receiving e refl) (λ now. give _)

  pub turn_receive_walks : (m : Machine) (records : List Record) (place : ℕ) (o : Option OpenUdp) → open_at records place ≡ o → Walks law (Sets m records) (Sets m) (turn_receive_at records place o)
  turn_receive_walks m records place None e = give _
  turn_receive_walks m records place (Some o) e =
      let g : FoundUdp (Sets m records) place (UdpRecord.Open o) = open_is (udp2_at records place) o e in
      from (udp_put_same (Sets m records) place (UdpRecord.Open o) g) (and_then (turn_in (udp_there {h = Sets m records} g) o o.incoming refl) (λ now. give _))

  -- == a drop
  pub drop_incoming_walks : (m : Machine) (place : ℕ) (o : Option OpenUdp) → open_at m.store.records place ≡ o → Walks law (Emptying line m place (kinds.Incoming place) Unused) OverWith (Give (answered (with_store m (at_once (drop_incoming_at m.store place o)))))
  drop_incoming_walks m place None e = move (Spends _ refl) (gives _ (Leaves _))
  drop_incoming_walks m place (Some o) e =
      move (UdpChanges _ place o (record o { incoming = None }) (open_is (udp2_at m.store.records place) o e) (idle_in o None refl refl) (record { incoming = StreamGoes o.incoming refl; makes = inl (λ some. in_gone o some) })) (move (Spends _ refl) (move (Leaves _) (gives _ (Lists _ _ (receives_end _ place _)))))

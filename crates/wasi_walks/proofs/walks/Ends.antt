-- An end of a 0.3 connection's stream is closed, and a result slot goes, as moves.
use Rattle.std.specs.Prelude.{◌≡◌, ℕ, Bool, true, false, List, Option, Some, None, Ok, refl}
use Rattle.std.proofs.Common.{ap}
use Rattle.wasi_addr.specs.declared.address.ShutdownType.{ShutdownType}
use Rattle.wasi_world.specs.declared.outcome.WasiSocketsCtx.{WasiSocketsCtx}
use Rattle.wasi_world.specs.Asks.{Asks, Give}
use Rattle.tcp_records.specs.declared.slot.Slot.{Slot}
use Rattle.tcp_records.specs.declared.socket.Streams.{Streams}
use Rattle.tcp_records.specs.declared.socket.TcpRecord.{TcpRecord}
use Rattle.tcp_records.specs.Ends.{has_half, shut_half}
use Rattle.tcp_records.specs.Holding.{is_held, let_go_asks}
use Rattle.record_common.specs.Names.{own_of}
use Rattle.wasi_records.specs.Records.{tcp2_at}
use Rattle.tcp_records.specs.Slots.{StreamEnd, filled}
use Rattle.wasi_records.specs.Records.{slot_at}
use Rattle.host_store.specs.declared.kind.ConnectionEnd.{ConnectionEnd}
use Rattle.host_store.specs.declared.kind.Kind.TheVariants.{Result3}
use Rattle.host_store.specs.declared.machine.Machine.{Machine}
use Rattle.host_tcp.specs.Dropping.{left_so, let_go_at}
use Rattle.host_tcp.specs.ConnectionEnds.{close_end, drop_slot, drop_slot_in, end_goes, fill, fill_in, let_go, open_by, open_in, shut_at}
use Rattle.host_store.specs.Kinds.{has_no_child, kind_at}
use Rattle.host_store.specs.Store.{Records, with_socket}
use Rattle.wasi_steps.specs.declared.step.Step.{Step}
use Rattle.wasi_steps.specs.Steps.{handles_of}
use Rattle.wasi_walks.specs.Licence.{Has}
use Rattle.wasi_walks.proofs.PipeLists.{slot_put_same}
use Rattle.wasi_walks.proofs.Words.{if◌then◌else◌, without_handle}
use Rattle.wasi_walks.proofs.walks.Moves.{Emptied, Finds, GivesBack, WhenIdle, Here, Leaves, OfSlot, OfTcp, ReachesEnd, Spends, Takes, Unused, Used, end_of, put}
use Rattle.wasi_walks.proofs.walks.Law.{HasRecord, Law, Walks, Given, give, given_then, and_given, and_then, found, from, gives, move, put_same}
use Rattle.wasi_walks.proofs.walks.Releases.{Freeing, Gone, let_go_walks}
use Rattle.wasi_walks.proofs.walks.States.{At, Over, OverIn, OverWith, Starts, none_stands, streams_are, there}
use Rattle.wasi_walks.proofs.walks.Streams.{shut_walks}

-- what is filled leaves the pending call
fill_stands : (ended : StreamEnd) (slot : ℕ) (store : Records) → store.standing ≡ None → (fill ended slot store).standing ≡ None
fill_stands ended slot store q = by_slot (slot_at store.records slot)
  where
    by_slot : (o : Option Slot) → (fill_in ended slot store o).standing ≡ None
    by_slot None = q
    by_slot (Some s) = q

-- and so does the release of a half
Quiets : Unit {0} × Records → Type 0
Quiets done = done.1.standing ≡ None

shut_quiet : (how : ShutdownType) (line place : ℕ) (store : Records) (o : Option TcpRecord) → store.standing ≡ None → Given Quiets (shut_at (own_of line) how place store o)
unfolding Quiets
shut_quiet how line place store None q = q
shut_quiet how line place store (Some r) q = given_then Quiets (λ done. (tt, with_socket store place done.1)) (λ done. q) (shut_half (own_of line) how r r.streams)

module _ {contexts : List WasiSocketsCtx} {line : ℕ} {origin : Step} {law : Law contexts line origin} where
  -- == an end is closed
  half_shut_walks : {h : Here} {place : ℕ} → HasRecord h place → h.at ≡ Some (place, line) → (how : ShutdownType) (r : TcpRecord) (o : Option Streams) → r.streams ≡ o → Walks law (put h place r) (λ done. put h place done.1) (shut_half (own_of line) how r o)
  half_shut_walks here at how r None e = give _
  half_shut_walks {h} {place} here at how r (Some s) e = from (streams_are h place r s e) (and_then (shut_walks here at r s how) (λ done. give _))

  shut_at_walks : (m : Machine) (how : ShutdownType) (place : ℕ) (o : Option TcpRecord) → tcp2_at m.store.records place ≡ o
      → Walks law (At line m place Used) (λ done. At line (record m { store = done.1 }) place Used) (shut_at (own_of line) how place m.store o)
  shut_at_walks m how place None g = give _
  shut_at_walks m how place (Some r) g = from (put_same (At line m place Used) place r g) (and_then (half_shut_walks (there {h = At line m place Used} g) refl how r r.streams refl) (λ done. give _))

  -- its slot is filled
  fill_walks : {A : Type 0} {end : A → Here} {asks : Asks A} (m : Machine) (place slot : ℕ) (ended : StreamEnd) → Walks law (At line (record m { store = fill ended slot m.store }) place Used) end asks → Walks law (At line m place Used) end asks
  fill_walks {end = end} {asks = asks} m place slot ended w = by_slot (slot_at m.store.records slot) refl w
    where
      by_slot : (o : Option Slot) → slot_at m.store.records slot ≡ o → Walks law (At line (record m { store = fill_in ended slot m.store o }) place Used) end asks → Walks law (At line m place Used) end asks
      by_slot None e w = w
      by_slot (Some s) e w = move (Finds (At line m place Used) _ (slot_put_same m.store.records slot s (filled ended s) e)) w

  -- and the network socket goes with its last holder
  gone_or_left : (m : Machine) (place : ℕ) (was : TcpRecord) → tcp2_at m.store.records place ≡ Some was → m.store.standing ≡ None → (done : Bool × TcpRecord) → Walks law (Gone (At line m place Used) place done) (OverIn m) (Give (left_so m.store place done))
  gone_or_left m place was g q (true, r) = move (GivesBack _ place (WhenIdle q) (OfTcp r refl (found (there {h = Freeing (At line m place Used) place} g) r))) (gives _ (Leaves _))
  gone_or_left m place was g q (false, r) = gives _ (Leaves _)

  end_let_go_walks : (m : Machine) (place : ℕ) → m.store.standing ≡ None → Walks law (At line m place Used) (OverIn m) (let_go (own_of line) place m.store)
  end_let_go_walks m place q = by_record (tcp2_at m.store.records place) refl
    where
      by_record : (o : Option TcpRecord) → tcp2_at m.store.records place ≡ o → Walks law (At line m place Used) (OverIn m) (let_go_at m.store place (let_go_asks (own_of line)) o)
      by_record None g = gives _ (Leaves _)
      by_record (Some r) g = from (put_same (At line m place Used) place r g) (and_then (let_go_walks (there {h = At line m place Used} g) refl (none_stands q) r (is_held r) refl) (gone_or_left m place r g q))

  pub close_walks : (m : Machine) (how : ShutdownType) (place slot : ℕ) (ended : StreamEnd) → m.store.standing ≡ None → Walks law (At line m place Used) (OverIn m) (close_end (own_of line) how slot place ended m.store)
  unfolding Quiets
  close_walks m how place slot ended q =
      and_given Quiets (shut_quiet how line place m.store (tcp2_at m.store.records place) q) (shut_at_walks m how place (tcp2_at m.store.records place) refl)
      (λ done k. fill_walks (record m { store = done.1 }) place slot ended (end_let_go_walks (record m { store = fill ended slot done.1 }) place (fill_stands ended slot done.1 k)))

  -- == the handle of an end goes
  pub drop_end_walks : (m : Machine) (this : ℕ) (how : ShutdownType) (slot : ℕ) (end : ConnectionEnd) → Has (handles_of origin) this → end_of (kind_at m.table this) ≡ Some end → has_no_child m.table this ≡ true → m.store.standing ≡ None → (socket : Option ℕ) → end.socket ≡ socket
      → Walks law (Starts m Unused) (OverIn (record m { table = without_handle m.table this })) (end_goes (own_of line) how slot m.store (open_in how m.store socket))
  drop_end_walks m this how slot end named e free q None s = move (Takes _ this (none_stands q) refl free) (gives _ (Spends _ refl))
  drop_end_walks m this how slot end named e free q (Some place) s = by_record (tcp2_at m.store.records place) refl
    where
      now : Machine
      now = record m { table = without_handle m.table this }

      by_half : (r : TcpRecord) → tcp2_at m.store.records place ≡ Some r → (is_open : Bool) → Walks law (Starts m Unused) (OverIn now) (end_goes (own_of line) how slot m.store (if is_open then Some place else None))
      by_half r g true = move (ReachesEnd _ this place end r named e s g) (move (Takes _ this (none_stands q) refl free) (move (Spends _ refl) (close_walks now how place slot (Ok tt) q)))
      by_half r g false = move (Takes _ this (none_stands q) refl free) (gives _ (Spends _ refl))

      by_record : (o : Option TcpRecord) → tcp2_at m.store.records place ≡ o → Walks law (Starts m Unused) (OverIn now) (end_goes (own_of line) how slot m.store (open_by how place o))
      by_record None g = move (Takes _ this (none_stands q) refl free) (gives _ (Spends _ refl))
      by_record (Some r) g = by_half r g (has_half how r)

  -- and that of a slot, which is given back
  pub drop_slot_walks : {A : Type 0} (f : Machine → A × Machine) → ((m : Machine) → (f m).1 ≡ m) → (m : Machine) (place : ℕ) → m.store.standing ≡ None
      → Walks law (record (Starts m Used) { made = Emptied (Result3 place) }) OverWith (Give (f (record m { store = drop_slot place m.store })))
  drop_slot_walks f same m place q = by_slot (slot_at m.store.records place) refl
    where
      by_slot : (o : Option Slot) → slot_at m.store.records place ≡ o → Walks law (record (Starts m Used) { made = Emptied (Result3 place) }) OverWith (Give (f (record m { store = drop_slot_in place m.store o })))
      by_slot None e = move (Leaves _) (from (ap (λ (x : Machine). Over x) (same _)) (give _))
      by_slot (Some s) e = move (GivesBack _ place (WhenIdle q) (OfSlot s refl e)) (move (Leaves _) (from (ap (λ (x : Machine). Over x) (same _)) (give _)))

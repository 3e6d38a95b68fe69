-- The moves of calls on handles keep that the state fits the log: a call on streams or on pollables reaches the record of one of the
-- handles that its line named, and it may be pending.
use Rattle.wasi_walks.proofs.Words.{BeganBy, Entry, Has, IsMarkedWith, IsSide, List, Some, StandingCall, Step, TcpRecord}
use Rattle.wasi_walks.proofs.Words.{WasiSocketsCtx, ap, handles_of, kind_at, own_of, refl, standing_as, step_at}
use Rattle.wasi_walks.proofs.Words.{subst, sym, ℕ, ◌∙◌, ◌≡◌}
use Rattle.wasi_world.specs.declared.ids.Ids.{Ids}
use Rattle.wasi_world.specs.declared.ids.OpId.{OpId}
use Rattle.host_streams.specs.Blocking.{blocking_handles}
use Rattle.wasi_records.specs.Records.{tcp2_at}
use Rattle.host_store.specs.declared.store.BlockingCall.{BlockingCall}
use Rattle.wasi_walks.proofs.walks.Moves.{CallKind, Calls, Found, Here, IsCall, kind_of, record_of}
use Rattle.wasi_walks.proofs.licence.State.{MakesCalls}
use Rattle.wasi_walks.proofs.licence.Frames.{same_record}
use Rattle.wasi_walks.proofs.licence.States.{state_stands}
use Rattle.wasi_walks.proofs.licence.Line.{Licensed, MakingStands, NamesMade, NamesTcpHere, names_record, pair_first, pair_second, elsewhere, remade}
use Rattle.wasi_walks.proofs.licence.UdpMoves.{tcp_alone}

module _ (contexts : List WasiSocketsCtx) (steps : List Step) (line : ℕ) (origin : Step) (is_line : step_at steps line ≡ Some origin) where
  -- the mark of a handle says the network socket of the record that it stands for
  pub is_side : (es : List Entry) (h : Here) (handle place : ℕ) → record_of (kind_at h.machine.table handle) ≡ Some place → Licensed contexts steps line origin es h → (r : TcpRecord) → Found h place r → (side : OpId) → r.side ≡ Some side → IsSide es handle side
  is_side es h handle place e i r g side m =
      let n = names_record es h.machine.store.records handle place (kind_at h.machine.table handle) e (i.fine.handles handle) in
      let same : n.found.side ≡ r.side = ap (λ (x : TcpRecord). x.side) (same_record n.found r (sym n.at ∙ g)) in
      let w = subst (IsMarkedWith es handle) (same ∙ m) n.marked in record { op = w.op; kind = w.kind; parent = w.parent; told = w.told; mark = w.mark }

  -- a handle that the line of this number names is looked up
  pub reaches : (es : List Entry) (h : Here) (by handle place : ℕ) → BeganBy steps (own_of by) (λ s. Has (handles_of s) handle) → record_of (kind_at h.machine.table handle) ≡ Some place → Licensed contexts steps line origin es h → Licensed contexts steps line origin es (record h { at = Some (place, by) })
  reaches es h by handle place named e i = elsewhere es h _ refl refl refl i i.fine tcp (tcp_alone contexts steps line origin is_line es h by handle place e i)
    where
      names : (r : TcpRecord) → Found h place r → NamesMade steps by es r
      names r g side m = record { origin = named.origin; at = named.at; holds = record { handle = handle; named = named.holds; is = is_side es h handle place e i r g side m } }

      tcp : NamesTcpHere steps es (record h { at = Some (place, by) })
      tcp k n r a g = let p = pair_first place by k n a in subst (λ (x : ℕ). NamesMade steps x es r) (pair_second place by k n a) (names r (ap (tcp2_at h.machine.store.records) p ∙ g))

  -- == calls on handles
  -- the step of the line whose call is done is such a call, and names its handles
  pub made_for : (es : List Entry) (h : Here) (kind : CallKind) (n : ℕ) (handles : List ℕ) → h.made ≡ Calls kind n handles → Licensed contexts steps line origin es h → MakesCalls steps kind n handles
  made_for es h kind n handles m i = subst (MakingStands steps) m i.making

  pub calls_handles : (es : List Entry) (h : Here) (kind : CallKind) → IsCall kind origin → Licensed contexts steps line origin es h → Licensed contexts steps line origin es (record h { made = Calls kind line (handles_of origin) })
  calls_handles es h kind c i = remade es h (Calls kind line (handles_of origin)) tt (record { origin = origin; at = is_line; holds = (c, refl) }) i

  pub recalls_call : (es : List Entry) (h : Here) (ids : Ids) (call : BlockingCall) → h.machine.store.standing ≡ Some (standing_as ids (StandingCall.Blocking call)) → Licensed contexts steps line origin es h → Licensed contexts steps line origin es (record h { made = Calls (kind_of call) ids.line (blocking_handles call) })
  recalls_call es h ids call e i = remade es h (Calls (kind_of call) ids.line (blocking_handles call)) tt (i.fine.standing (standing_as ids (StandingCall.Blocking call)) e).1 i

  pub reaches_handle : (es : List Entry) (h : Here) (kind : CallKind) (n handle place : ℕ) (handles : List ℕ) → h.made ≡ Calls kind n handles → Has handles handle → record_of (kind_at h.machine.table handle) ≡ Some place → Licensed contexts steps line origin es h → Licensed contexts steps line origin es (record h { at = Some (place, n) })
  reaches_handle es h kind n handle place handles m k e i =
      let b = made_for es h kind n handles m i in
      reaches es h n handle place (record { origin = b.origin; at = b.at; holds = subst (λ (xs : List ℕ). Has xs handle) (sym b.holds.1) k }) e i

  pub stands_blocking : (es : List Entry) (h : Here) (ids : Ids) (call : BlockingCall) (handles : List ℕ) → h.made ≡ Calls (kind_of call) ids.line handles → blocking_handles call ≡ handles → Licensed contexts steps line origin es h
      → Licensed contexts steps line origin es (record h { machine = record h.machine { store = record h.machine.store { standing = Some (standing_as ids (StandingCall.Blocking call)) } } })
  stands_blocking es h ids call handles m k i =
      elsewhere es h _ refl refl refl i (state_stands contexts steps es h.machine (standing_as ids (StandingCall.Blocking call)) (λ c. absurd c, subst (MakesCalls steps (kind_of call) ids.line) (sym k) (made_for es h (kind_of call) ids.line handles m i), tt) i.fine) i.names i.udp_names

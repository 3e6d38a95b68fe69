-- A UDP socket is made: its network socket is waited for, and then it has a handle.
use Rattle.std.specs.Prelude.{ℕ, length, Option, Some, None, Result, Ok, Err}
use Rattle.wasi_addr.specs.declared.address.SocketAddressFamily.{SocketAddressFamily}
use Rattle.wasi_addr.specs.declared.code.ErrorCode.{ErrorCode}
use Rattle.wasi_addr.specs.Code.{p2_of_code}
use Rattle.wasi_world.specs.declared.ids.OpId.{OpId}
use Rattle.wasi_world.specs.declared.ids.Ids.{Ids}
use Rattle.wasi_world.specs.declared.outcome.Answer.{Answer}
use Rattle.wasi_world.specs.declared.outcome.Answer.TheVariants.{Ready, Pending}
use Rattle.wasi_world.specs.declared.outcome.TrapKind.TheVariants.{NoSuchHandle}
use Rattle.wasi_world.specs.declared.outcome.WasiSocketsCtx.{WasiSocketsCtx}
use Rattle.wasi_world.specs.Asks.{Asks, Give, bind}
use Rattle.wasi_udp.specs.Create.{Create, new_asks}
use Rattle.host_store.specs.declared.kind.Interface.{Interface}
use Rattle.host_store.specs.declared.kind.Interface.TheVariants.{P2}
use Rattle.host_store.specs.declared.machine.Machine.{Machine}
use Rattle.host_store.specs.declared.store.StandingCall.TheVariants.{UdpCreate}
use Rattle.udp_records.specs.declared.udp.UdpRecord.{UdpRecord}
use Rattle.udp_records.specs.declared.udp.UdpRecord.TheVariants.{Creating}
use Rattle.record_common.specs.Stops.{Stop, StopOf, Code, Trap}
use Rattle.host_store.specs.BaseStops.{BaseStop, told_as, trap_of}
use Rattle.host_store.specs.Kinds.{HandleTable, make_asks, udp_kind}
use Rattle.record_common.specs.Names.{own_of}
use Rattle.wasi_records.specs.Records.{udp2_at, udp2_pushed}
use Rattle.host_store.specs.Standing.{standing_as}
use Rattle.host_store.specs.Store.{Records, with_udp}
use Rattle.udp_records.specs.Udp.{poll_create_asks, udp_side}
use Rattle.host_udp.specs.UdpCalls.{udp_left}

-- a network socket that was made has its record, whether or not a handle is made for it
abbrev pub with_create : Machine → Create → Machine
with_create m create = record m { store = record m.store { records = udp2_pushed m.store.records (Creating create) } }

-- the network socket that a record was made with, by which its handles are marked
abbrev pub udp_side_at : Option UdpRecord → Option OpId
udp_side_at None = None
udp_side_at (Some u) = Some (udp_side u)

-- what a poll of the create answered, and the records afterwards: of one that is refused nothing is left
abbrev pub create_answered : Records → ℕ → Result (Answer (Unit {0})) ErrorCode × UdpRecord → Result (Answer (Unit {0})) BaseStop × Records
create_answered store place (Ok answer, u) = (Ok answer, with_udp store place u)
create_answered store place (Err c, u) = (Err (Code c), udp_left store place u)

abbrev pub poll_create_at : Records → ℕ → Option UdpRecord → Asks (Result (Answer (Unit {0})) BaseStop × Records)
poll_create_at store place None = Give (Err (Trap NoSuchHandle), store)
poll_create_at store place (Some u) = bind (poll_create_asks u) (λ done. Give (create_answered store place done))

-- the handle that was made, or why none was
abbrev pub handle_made : Machine → Result ℕ Stop × HandleTable → Result (Answer ℕ) BaseStop × Machine
handle_made m (Ok handle, t) = (Ok (Ready handle), record m { table = t })
handle_made m (Err stop, t) = (Err (trap_of stop), record m { table = t })

-- the socket gets a handle of the interface: its mark has the name of the create, which is that of the network socket too
abbrev pub mark_udp : Interface → Machine → ℕ → Option UdpRecord → Asks (Result (Answer ℕ) BaseStop × Machine)
mark_udp face m place None = Give (Err (Trap NoSuchHandle), m)
mark_udp face m place (Some u) = bind (make_asks m.table (udp_side u) (udp_kind face place) None (Some (udp_side u))) (λ made. Give (handle_made m made))

-- pending, the create stands under its line's number; done, the socket gets its handle
abbrev pub create_so : Interface → Ids → ℕ → Machine → Result (Answer (Unit {0})) BaseStop × Records → Asks (Result (Answer ℕ) BaseStop × Machine)
create_so face ids place m (Ok Pending, store) = Give (Ok Pending, record m { store = record store { standing = Some (standing_as ids (UdpCreate place face)) } })
create_so face ids place m (Ok (Ready done), store) = mark_udp face (record m { store = store }) place (udp2_at store.records place)
create_so face ids place m (Err stop, store) = Give (Err stop, record m { store = store })

-- polls the create that the record of this number is in the midst of
abbrev pub create_on : Interface → Machine → Ids → ℕ → Asks (Result (Answer ℕ) BaseStop × Machine)
create_on face m ids place = bind (poll_create_at m.store place (udp2_at m.store.records place)) (λ done. create_so face ids place m done)

abbrev pub create_begun : Interface → Machine → Ids → Result Create ErrorCode → Asks (Result (Answer ℕ) BaseStop × Machine)
create_begun face m ids (Err c) = Give (Err (Code c), m)
create_begun face m ids (Ok create) = create_on face (with_create m create) ids (length m.store.records)

-- a create is begun and polled
abbrev pub create_udp : Interface → Machine → Ids → WasiSocketsCtx → SocketAddressFamily → Asks (Result (Answer ℕ) BaseStop × Machine)
create_udp face m ids ctx family = bind (new_asks (own_of ids.line) ctx family) (create_begun face m ids)

-- its codes by the names of an interface
abbrev pub created_by : {C : Type 0} → (ErrorCode → C) → Result (Answer ℕ) BaseStop × Machine → Result (Answer ℕ) (StopOf C) × Machine
created_by name done = (told_as name done.0, done.1)

-- of the 0.2 interface
abbrev pub create_udp_asks : Machine → Ids → WasiSocketsCtx → SocketAddressFamily → Asks (Result (Answer ℕ) Stop × Machine)
create_udp_asks m ids ctx family = bind (create_udp P2 m ids ctx family) (λ done. Give (created_by p2_of_code done))

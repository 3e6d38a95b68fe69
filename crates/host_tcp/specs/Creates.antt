-- A TCP socket is made: its record, and a handle for it.
use Rattle.std.specs.Prelude.{ℕ, length, None, Result, Ok, Err}
use Rattle.wasi_addr.specs.declared.address.SocketAddressFamily.{SocketAddressFamily}
use Rattle.wasi_addr.specs.declared.code.ErrorCode.{ErrorCode}
use Rattle.wasi_world.specs.declared.ids.OpId.{OpId}
use Rattle.wasi_world.specs.declared.outcome.WasiSocketsCtx.{WasiSocketsCtx}
use Rattle.wasi_world.specs.Asks.{Asks, Give, bind}
use Rattle.wasi_tcp.specs.Shape.{Socket}
use Rattle.wasi_tcp.specs.Socket.{new_asks, side_of}
use Rattle.host_store.specs.declared.kind.Kind.{Kind}
use Rattle.host_store.specs.declared.kind.Kind.TheVariants.{Tcp2}
use Rattle.host_store.specs.declared.machine.Machine.{Machine}
use Rattle.record_common.specs.Stops.{Stop, code_stop}
use Rattle.host_store.specs.Kinds.{make_asks}
pub use Rattle.record_common.specs.Names.{own_of}
use Rattle.host_store.specs.Store.{with_record}
use Rattle.host_store.specs.Limits.{with_limit}

-- == a socket is made
-- its record, and a handle of this kind for it; these say what is answered for the handle, and for a code
abbrev pub handle_to : {A : Type 0} → (Result ℕ Stop → A) → (ℕ → Kind) → Machine → OpId → Socket → Asks (A × Machine)
handle_to tells kind m own socket =
    bind (make_asks m.table own (kind (length m.store.records)) None (side_of socket))
    (λ made. Give (tells made.0, record m { table = made.1; store = with_record m.store socket }))

abbrev pub made_to : {A : Type 0} → (Result ℕ Stop → A) → (ErrorCode → A) → (ℕ → Kind) → Machine → OpId → Result Socket ErrorCode → Asks (A × Machine)
made_to tells fails kind m own (Err c) = Give (fails c, m)
made_to tells fails kind m own (Ok socket) = handle_to tells kind m own socket

abbrev pub create_to : {A : Type 0} → (Result ℕ Stop → A) → (ErrorCode → A) → (ℕ → Kind) → Machine → OpId → WasiSocketsCtx → SocketAddressFamily → Asks (A × Machine)
create_to tells fails kind m own ctx family = bind (new_asks own ctx family) (made_to tells fails kind m own)

-- of the 0.2 interface
abbrev pub code_told : ErrorCode → Result ℕ Stop
code_told c = Err (code_stop c)

abbrev pub same_told : Result ℕ Stop → Result ℕ Stop
same_told told = told

abbrev pub create_handle : Machine → OpId → Socket → Asks (Result ℕ Stop × Machine)
create_handle m own socket = handle_to same_told Tcp2 m own socket

abbrev pub created_asks : Machine → OpId → Result Socket ErrorCode → Asks (Result ℕ Stop × Machine)
created_asks m own made = made_to same_told code_told Tcp2 m own made

-- room is made first, and the context's limit is kept from then on
abbrev pub with_room : Machine → WasiSocketsCtx → Machine
with_room m ctx = record m { store = with_limit m.store ctx }

abbrev pub create_asks : Machine → OpId → WasiSocketsCtx → SocketAddressFamily → Asks (Result ℕ Stop × Machine)
create_asks m own ctx family = create_to same_told code_told Tcp2 (with_room m ctx) own ctx family

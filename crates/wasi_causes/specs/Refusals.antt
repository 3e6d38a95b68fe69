-- Why the calls of TCP sockets that both interfaces have are refused, by base codes; each interface has its own words for
-- them.
use Rattle.std.specs.Prelude.{◌≡◌, ℕ, true, false, List, [], ◌∷◌, ◌++◌, Some, None, Ok}
use Rattle.wasi_addr.specs.declared.address.SocketAddressFamily.{SocketAddressFamily}
use Rattle.wasi_addr.specs.declared.code.ErrorCode.{ErrorCode}
use Rattle.wasi_addr.specs.declared.code.ErrorCode.TheVariants.{AccessDenied, InvalidState}
use Rattle.wasi_world.specs.declared.call.Call.TheVariants as call
use Rattle.wasi_world.specs.declared.call.Entry.{Entry}
use Rattle.wasi_world.specs.declared.call.Told.{Told}
use Rattle.wasi_world.specs.declared.call.Told.TheVariants as told
use Rattle.wasi_world.specs.declared.ids.OpId.{OpId}
use Rattle.wasi_world.specs.declared.outcome.WasiSocketsCtx.{WasiSocketsCtx}
use Rattle.wasi_world.specs.Operation.{Operation}
use Rattle.wasi_tcp.specs.declared.socket.Connection.{Connection}
use Rattle.wasi_tcp.specs.declared.socket.TcpState.TheVariants as state
use Rattle.wasi_tcp.specs.Addresses.{usable_side}
use Rattle.tcp_records.specs.declared.socket.TcpRecord.{TcpRecord}
use Rattle.wasi_records.specs.Records.{tcp2_at}
use Rattle.host_store.specs.declared.machine.Machine.{Machine}
use Rattle.host_store.specs.Machine.{tcp3_at}
use Rattle.wasi_steps.specs.declared.reply.CodeWord.{CodeWord}
pub use Rattle.wasi_walks.specs.Answered.{p3_word}
use Rattle.wasi_walks.specs.Answered.{IsBound, IsFoundUnbound, knowing_bound, word_of_code}
use Rattle.wasi_walks.specs.Licence.{entry}

-- == words
-- This is refused with a base code, and the word is the one that an interface has for it.
pub record SaidBy (word : ErrorCode → CodeWord) (Refused : ErrorCode → Type 0) (w : CodeWord) : Type 0 where
  pub code : ErrorCode
  pub is : w ≡ word code
  pub cause : Refused code

-- == the 0.3 socket that a handle names
-- The handle names a record, at this place, of which this holds.
pub record OfTcp3 (m : Machine) (handle : ℕ) (P : ℕ → TcpRecord → Type 0) : Type 0 where
  pub place : ℕ
  pub found : TcpRecord
  pub names : tcp3_at m handle ≡ Some place
  pub at : tcp2_at m.store.records place ≡ Some found
  pub holds : P place found

-- the machine is as it was, but that the handle's socket is known to be bound
abbrev pub KnowsTcp3Bound : Machine → ℕ → Machine → Type 0
KnowsTcp3Bound m handle after = OfTcp3 m handle (λ place r. after ≡ knowing_bound m place r)

-- == a create
-- A create is refused: the context may not use TCP, or the world returned a code.
pub data CreateFails (own : OpId) (ctx : WasiSocketsCtx) (family : SocketAddressFamily) : List Entry → ErrorCode
    → Type 0 where
  NotAllowed : ctx.tcp ≡ false → CreateFails own ctx family [] AccessDenied
  ToldCode : (c : ErrorCode) → ctx.tcp ≡ true → CreateFails own ctx family
      (entry own (call.TcpCreate ctx.name family) (told.Code c) ∷ []) c

-- == addresses
-- The local address is refused: the socket isn't bound, or connects, or is closed with a code, or its network socket
-- returned a code.
pub data LocalFails (m : Machine) (own : OpId) (place : ℕ) (r : TcpRecord) : List Entry → ErrorCode → Machine
    → Type 0 where
  NotBound : (side : OpId) (local : Told) → IsFoundUnbound r.inner side local → LocalFails m own place r
      (entry own (call.Local side) local ∷ []) InvalidState m
  Connects : (op : Operation) → r.inner.state ≡ state.Connecting op → LocalFails m own place r [] InvalidState
      (knowing_bound m place r)
  LocalClosed : (c : ErrorCode) → r.inner.state ≡ state.Closed c → LocalFails m own place r [] c
      (knowing_bound m place r)
  LocalTold : (asked : List Entry) (side : OpId) (c : ErrorCode) → IsBound own r.inner asked
      → usable_side r.inner.state ≡ Ok side
      → LocalFails m own place r (asked ++ entry own (call.Local side) (told.Code c) ∷ []) c (knowing_bound m place r)

-- The remote address is refused, and the machine stays: the socket isn't connected yet, or is closed with a code, or
-- its network socket returned a code.
pub data RemoteFails (own : OpId) (r : TcpRecord) : List Entry → ErrorCode → Type 0 where
  RemoteDefault : (side : OpId) → r.inner.state ≡ state.Default side → RemoteFails own r [] InvalidState
  RemoteListening : (side : OpId) → r.inner.state ≡ state.Listening side → RemoteFails own r [] InvalidState
  RemoteConnecting : (op : Operation) → r.inner.state ≡ state.Connecting op → RemoteFails own r [] InvalidState
  RemoteClosed : (c : ErrorCode) → r.inner.state ≡ state.Closed c → RemoteFails own r [] c
  RemoteTold : (connection : Connection) (c : ErrorCode) → r.inner.state ≡ state.Connected connection
      → connection.peer ≡ None
      → RemoteFails own r (entry own (call.Peer connection.side) (told.Code c) ∷ []) c

-- == by the words of 0.2
abbrev pub CreateRefusal : OpId → WasiSocketsCtx → SocketAddressFamily → List Entry → CodeWord → Type 0
CreateRefusal own ctx family es w = SaidBy word_of_code (CreateFails own ctx family es) w

abbrev pub LocalRefusal : Machine → OpId → ℕ → TcpRecord → List Entry → CodeWord → Machine → Type 0
LocalRefusal m own place r es w after = SaidBy word_of_code (λ c. LocalFails m own place r es c after) w

abbrev pub RemoteRefusal : Machine → OpId → ℕ → TcpRecord → List Entry → CodeWord → Machine → Type 0
RemoteRefusal m own place r es w after = SaidBy word_of_code (RemoteFails own r es) w × (after ≡ m)

-- == by the words of 0.3
abbrev pub P3CreateRefusal : OpId → WasiSocketsCtx → SocketAddressFamily → List Entry → CodeWord → Type 0
P3CreateRefusal own ctx family es w = SaidBy p3_word (CreateFails own ctx family es) w

abbrev pub P3LocalRefusal : Machine → OpId → ℕ → List Entry → CodeWord → Machine → Type 0
P3LocalRefusal m own handle es w after =
    OfTcp3 m handle (λ place r. SaidBy p3_word (λ c. LocalFails m own place r es c after) w)

abbrev pub P3RemoteRefusal : Machine → OpId → ℕ → List Entry → CodeWord → Type 0
P3RemoteRefusal m own handle es w = OfTcp3 m handle (λ place r. SaidBy p3_word (RemoteFails own r es) w)

-- A TCP socket is made, and has its record, whether or not a handle is made for it.
use Rattle.std.specs.Prelude.{◌≡◌, ℕ, length, Result, Ok, Err}
use Rattle.std.specs.declared.alloc.AllocError.{AllocError}
use Rattle.wasi_addr.specs.declared.address.SocketAddressFamily.{SocketAddressFamily}
use Rattle.wasi_addr.specs.declared.code.ErrorCode.{ErrorCode}
use Rattle.wasi_world.specs.declared.ids.OpId.{OpId}
use Rattle.wasi_world.specs.declared.outcome.WasiSocketsCtx.{WasiSocketsCtx}
use Rattle.wasi_world.specs.Asks.{AsksFor}
use Rattle.wasi_world.specs.Seen.{Seen}
use Rattle.wasi_tcp.specs.Shape.{Socket}
use Rattle.wasi_tcp.specs.Socket.{new_asks}
use Rattle.host_store.specs.Store.{Records, with_record}

-- This socket was made, and its record is the last.
pub record MadeTcp (own : OpId) (ctx : WasiSocketsCtx) (family : SocketAddressFamily) (before after : Seen) (old now : Records) (place : ℕ) : Type 0 where
  pub socket : Socket
  pub asked : AsksFor (new_asks own ctx family) before after (λ (made : Result Socket ErrorCode). made) (Ok (Ok socket))
  pub record_is : now ≡ with_record old socket
  pub number : place ≡ length old.records

-- None was made, and the records stay as they were.
pub record MadeNoTcp (own : OpId) (ctx : WasiSocketsCtx) (family : SocketAddressFamily) (before after : Seen) (old now : Records) (why : Result (Result Socket ErrorCode) AllocError) : Type 0 where
  pub asked : AsksFor (new_asks own ctx family) before after (λ (made : Result Socket ErrorCode). made) why
  pub same : now ≡ old

abbrev pub MakesTcp : OpId → WasiSocketsCtx → SocketAddressFamily → Seen → Seen → Records → Records → Result (Result ℕ ErrorCode) AllocError → Type 0
MakesTcp own ctx family before after old now (Ok (Ok place)) = MadeTcp own ctx family before after old now place
MakesTcp own ctx family before after old now (Ok (Err c)) = MadeNoTcp own ctx family before after old now (Ok (Err c))
MakesTcp own ctx family before after old now (Err e) = MadeNoTcp own ctx family before after old now (Err e)

-- What a step may begin to write, and how a call of streams may begin a write.
use Rattle.wasi_walks.proofs.Words.{List, Machine, None, OpId, Option, Some, GuestCall, Step, Streams, TcpRecord, WriteState, [], if◌then◌else◌, length, nat_lt}
use Rattle.wasi_walks.proofs.Words.{output_at, ℕ, ◌∷◌}
use Rattle.wasi_world.specs.Sides.{is_same}
use Rattle.wasi_walks.proofs.Words.{WasiSocketsCtx, ◌≡◌}
use Rattle.wasi_streams.specs.Streams.{zeros}
use Rattle.wasi_walks.proofs.walks.Moves.{Own, Used, Unused, ToWrite}
use Rattle.wasi_walks.proofs.walks.Law.{Law, BeginsWrites}
use Rattle.wasi_records.specs.Records.{tcp2_at}
use Rattle.wasi_steps.specs.declared.guest_call.StreamCall.{StreamCall}

-- what the writer lets a write begin
abbrev pub may_begin : WriteState → List ℕ → Own
may_begin (WriteState.Ready half permit) [] = Unused
may_begin (WriteState.Ready half permit) (b ∷ bytes) = if nat_lt permit (length (b ∷ bytes)) then Unused else ToWrite half.side (b ∷ bytes)
may_begin _ bytes = Unused

-- the bytes that a write may begin, on the streams, the record and the machine
abbrev pub may_of : Option Streams → List ℕ → Own
may_of None bytes = Unused
may_of (Some s) bytes = may_begin s.writer bytes

abbrev pub may_in : Option TcpRecord → List ℕ → Own
may_in None bytes = Unused
may_in (Some r) bytes = may_of r.streams bytes

abbrev pub may_at : Machine → List ℕ → Option ℕ → Own
may_at m bytes None = Unused
may_at m bytes (Some place) = may_in (tcp2_at m.store.records place) bytes

-- the bytes that a step may begin to write
abbrev pub may : Machine → Step → Own
may m (Step.Call ctx (GuestCall.Stream (StreamCall.Write output bytes))) = may_at m bytes (output_at m output)
may m (Step.Call ctx (GuestCall.Stream (StreamCall.WriteZeroes output len))) = may_at m (zeros len) (output_at m output)
may m _ = Unused

-- the bytes that a step is let write to a network socket
abbrev pub let_write : OpId → Own → List ℕ
let_write side (ToWrite at bytes) = if is_same at side then bytes else []
let_write side _ = []

-- A call of streams may begin a write, where the operations that were begun are these: its line was let write it, or nothing is
-- written. One that comes after others begins nothing, or the law holds of any write.
pub data MayWrite {contexts : List WasiSocketsCtx} {line : ℕ} {origin : Step} (law : Law contexts line origin) (own write : Own) : Type 0 where
  AsLet : own ≡ write → MayWrite law own write
  AsNone : own ≡ Used → write ≡ Unused → MayWrite law own write
  AsAny : own ≡ Used → BeginsWrites law → MayWrite law own write

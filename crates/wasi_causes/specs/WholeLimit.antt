-- Why nothing may be written on a connection.
use Rattle.std.specs.Prelude.{◌≡◌, ℕ, List, [], ◌∷◌}
use Rattle.wasi_world.specs.declared.call.Call.TheVariants as call
use Rattle.wasi_world.specs.declared.call.Entry.{Entry}
use Rattle.wasi_world.specs.declared.call.Told.TheVariants as told
use Rattle.wasi_world.specs.declared.ids.OpId.{OpId}
use Rattle.wasi_tcp.specs.declared.halves.TcpSendStream.{TcpSendStream}
use Rattle.wasi_tcp.specs.declared.writer.WriteState.{WriteState}
use Rattle.wasi_tcp.specs.declared.writer.WriteState.TheVariants as writing
use Rattle.wasi_tcp.specs.Writer.{collected}
use Rattle.tcp_records.specs.declared.socket.TcpRecord.{TcpRecord}
use Rattle.tcp_records.specs.Used.{held_in}
use Rattle.host_store.specs.Limits.{left}
use Rattle.host_store.specs.Store.{Records}
use Rattle.wasi_walks.specs.Answered.{IsUnfinished}
use Rattle.wasi_walks.specs.Licence.{entry}

-- the other writers of the context that made the socket use its whole limit
abbrev pub OthersUseAll : Records → TcpRecord → Type 0
OthersUseAll store r = left store r.maker (held_in r.streams) ≡ 0

-- An earlier write is in progress, the writer was answered pending, or it is ready, and the others use the whole limit.
pub data PermitsNone (store : Records) (r : TcpRecord) (own : OpId) (writer : WriteState) : List Entry → Type 0 where
  GoesOn : IsUnfinished (collected writer) → PermitsNone store r own writer []
  NotReady : (half : TcpSendStream) (permit : ℕ) → collected writer ≡ writing.Ready half permit → PermitsNone store r own writer (entry own (call.WriteReady half.side) told.Pending ∷ [])
  NoneLeft : (half : TcpSendStream) (permit : ℕ) → collected writer ≡ writing.Ready half permit → OthersUseAll store r → PermitsNone store r own writer (entry own (call.WriteReady half.side) told.Done ∷ [])

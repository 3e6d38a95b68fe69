-- Reads of a connection, by the state and the answer.
use Rattle.std.specs.Prelude.{◌≡◌, ℕ, ◌==◌, Bool, false, if◌then◌else◌, List, [], Result, Ok}
use Rattle.std.specs.declared.alloc.AllocError.{AllocError}
use Rattle.wasi_addr.specs.declared.code.ErrorCode.{ErrorCode}
use Rattle.wasi_world.specs.declared.ids.OpId.{OpId}
use Rattle.wasi_world.specs.declared.outcome.Answer.{Answer}
use Rattle.wasi_world.specs.declared.outcome.Answer.TheVariants.{Ready}
use Rattle.wasi_world.specs.Seen.{Seen}
use Rattle.wasi_world.specs.Asks.{Give, bind, AsksFor}
use Rattle.wasi_world.proofs.Walks.{asks_at}
use Rattle.wasi_streams.specs.StreamStop.{StreamStop, Closed}
use Rattle.wasi_tcp.specs.declared.halves.TcpReceiveStream.{TcpReceiveStream}
use Rattle.wasi_tcp.specs.declared.reader.ReadState.{ReadState}
use Rattle.wasi_tcp.specs.declared.reader.ReadState.TheVariants as state
use Rattle.wasi_tcp.specs.Halves.{read_asks}
use Rattle.wasi_tcp.specs.Reader.{read_end_asks, after_read, read_state_asks}

-- an open one reads some bytes
pub read_open : {T : Type 0} (op : OpId) (s : ReadState) (half : TcpReceiveStream) (size : ℕ) {old new : Seen} {view : T → Result (List ℕ) StreamStop × ReadState} {r : Result T AllocError} → s ≡ state.Open half → (size == 0) ≡ false → AsksFor (bind (read_asks op half.side size) (after_read op (state.Open half))) old new view r → AsksFor (read_state_asks op s size) old new view r
read_open op s half size h some k =
    rw h (asks_at (λ (b : Bool). if b then Give (Ok [], state.Open half) else bind (read_asks op half.side size) (after_read op (state.Open half))) some k)

-- no bytes that are ready
pub read_ended : {T : Type 0} (op : OpId) (s : ReadState) (answer : Result (Answer (List ℕ)) ErrorCode) (told : Answer (List ℕ)) (bytes : List ℕ) {old new : Seen} {view : T → Result (List ℕ) StreamStop × ReadState} {r : Result T AllocError} → answer ≡ Ok told → told ≡ Ready bytes → bytes ≡ [] → AsksFor (read_end_asks op s Closed) old new view r → AsksFor (after_read op s answer) old new view r
read_ended op s answer told bytes h e none k = rw (h, e, none) k

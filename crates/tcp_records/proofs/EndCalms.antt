-- What an end of a 0.3 connection's streams asks makes no network socket, and closes none.
use Rattle.std.specs.Prelude.{ℕ, ◌==◌, min, Bool, true, false, if◌then◌else◌, List, [], Option, Some, None, Result, Ok, Err, refl}
use Rattle.wasi_addr.specs.declared.address.ShutdownType.{ShutdownType}
use Rattle.wasi_addr.specs.declared.code.ErrorCode.{ErrorCode}
use Rattle.wasi_world.specs.declared.ids.OpId.{OpId}
use Rattle.wasi_world.specs.declared.outcome.Answer.TheVariants.{Ready}
use Rattle.wasi_world.specs.Asks.{Asks, Give, bind}
use Rattle.wasi_world.specs.Typed.{ask_read, ask_read_ready, ask_write_ready}
use Rattle.wasi_tcp.specs.declared.halves.TcpReceiveStream.{TcpReceiveStream}
use Rattle.wasi_tcp.specs.declared.halves.TcpSendStream.{TcpSendStream}
use Rattle.wasi_tcp.specs.Halves.{polled_answer, read_asks, write_asks}
use Rattle.tcp_records.specs.declared.socket.Streams.{Streams}
use Rattle.tcp_records.specs.declared.socket.TcpRecord.{TcpRecord}
use Rattle.tcp_records.specs.Ends.{by_half, look_to_read, look_to_write, read_by_half, shut_half, told_by_half, write_by_half}
use Rattle.tcp_records.specs.Shutdowns.{shut_streams}
use Rattle.tcp_records.proofs.Looks.{calm_shut}
use Rattle.record_common.proofs.SideCounts.{Any, Calm, calm_then}

pub calm_shut_half : (op : OpId) (how : ShutdownType) (r : TcpRecord) (o : Option Streams) → Calm Any (shut_half op how r o)
calm_shut_half op how r None = tt
calm_shut_half op how r (Some s) = calm_then Any Any (shut_streams op how s) _ (calm_shut op how s) (λ d k. tt)

calm_by : {H A : Type 0} (call : H → Asks A) → ((h : H) → Calm Any (call h)) → (half : Option H) → Calm Any (by_half call half)
calm_by call calm None = tt
calm_by call calm (Some h) = calm_then Any Any (call h) _ (calm h) (λ a k. tt)

calm_told_by : {H A : Type 0} (call : H → Asks (Result A ErrorCode)) → ((h : H) → Calm Any (call h)) → (half : Option H) → Calm Any (told_by_half call half)
calm_told_by call calm None = tt
calm_told_by call calm (Some h) = calm_then Any Any (call h) _ (calm h) (λ a k. tt)

calm_read : (op side : OpId) (size : ℕ) (empty : Bool) → Calm Any (if empty then Give (Ok (Ready [])) else bind (ask_read op side (min size 65536)) (λ told. Give (polled_answer told)))
unfolding bind
calm_read op side size true = tt
calm_read op side size false = ((λ t. refl, refl), λ t. tt)

calm_write : (op side : OpId) (bytes : List ℕ) → Calm Any (write_asks op side bytes)
unfolding bind
calm_write op side bytes = λ t. tt

pub calm_look_to_read : (op : OpId) (half : Option TcpReceiveStream) → Calm Any (look_to_read op half)
calm_look_to_read op half = calm_by (λ h. ask_read_ready op h.side) (λ h. ((λ t. refl, refl), λ t. tt)) half

pub calm_look_to_write : (op : OpId) (half : Option TcpSendStream) → Calm Any (look_to_write op half)
calm_look_to_write op half = calm_by (λ h. ask_write_ready op h.side) (λ h. ((λ t. refl, refl), λ t. tt)) half

pub calm_read_by_half : (op : OpId) (size : ℕ) (half : Option TcpReceiveStream) → Calm Any (read_by_half op size half)
calm_read_by_half op size half = calm_told_by (λ h. read_asks op h.side size) (λ h. calm_read op h.side size (size == 0)) half

pub calm_write_by_half : (op : OpId) (bytes : List ℕ) (half : Option TcpSendStream) → Calm Any (write_by_half op bytes half)
calm_write_by_half op bytes half = calm_told_by (λ h. write_asks op h.side bytes) (λ h. calm_write op h.side bytes) half

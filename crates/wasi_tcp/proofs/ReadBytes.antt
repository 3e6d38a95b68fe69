-- A read gives no more bytes than it was asked for.
use Rattle.std.specs.Prelude.{Result, Ok, Err}
use Rattle.std.proofs.Common.{ℕ, min, ◌==◌, ◌≤◌, List, [], ◌∷◌, length, arith}
use Rattle.wasi_addr.specs.declared.code.ErrorCode.{ErrorCode}
use Rattle.wasi_world.specs.declared.ids.OpId.{OpId}
use Rattle.wasi_world.specs.declared.call.Call.{Call}
use Rattle.wasi_world.specs.declared.call.Told.{Told}
use Rattle.wasi_world.specs.declared.call.Told.TheVariants as told
use Rattle.wasi_world.specs.declared.call.Entry.{Entry}
use Rattle.wasi_world.specs.declared.outcome.Answer.{Answer}
use Rattle.wasi_world.specs.declared.outcome.Answer.TheVariants.{Ready, Pending}
use Rattle.wasi_world.specs.Fits.{IsRead}
use Rattle.wasi_world.specs.Typed.{told_bytes}
use Rattle.wasi_world.specs.Asks.{Give, bind, Left}
use Rattle.wasi_world.proofs.Allowed.{Allows, allows_then, allows_if, reached}
use Rattle.wasi_streams.specs.StreamStop.{StreamStop}
use Rattle.wasi_streams.specs.StreamStop as stop
use Rattle.wasi_tcp.specs.declared.halves.TcpReceiveStream.{TcpReceiveStream}
use Rattle.wasi_tcp.specs.declared.reader.ReadState.{ReadState}
use Rattle.wasi_tcp.specs.declared.reader.ReadState.TheVariants as read
use Rattle.wasi_tcp.specs.Halves.{polled_answer, read_asks}
use Rattle.wasi_tcp.specs.Reader.{read_end_asks, after_read, read_state_asks}

-- any ask
abbrev Free : List Entry → OpId → Call → Type 0
Free es op call = Unit {0}

none_within : (most : ℕ) → 0 ≤ most
none_within most = omega arith

module _ (op : OpId) (most : ℕ) where
  abbrev Within : List Entry → Result (List ℕ) StreamStop × ReadState → Type 0
  Within es (Ok bytes, s) = length bytes ≤ most
  Within es (Err stop, s) = Unit {0}

  abbrev Answers : List Entry → Result (Answer (List ℕ)) ErrorCode → Type 0
  Answers es (Ok (Ready bytes)) = length bytes ≤ most
  Answers es (Ok Pending) = Unit {0}
  Answers es (Err c) = Unit {0}

  told_within : (es : List Entry) (t : Told) → IsRead most t → Answers es (polled_answer (told_bytes t))
  told_within es (told.Bytes bytes) fits = fits
  told_within es told.Pending fits = tt
  told_within es (told.Code c) fits = tt
  told_within es told.Done fits = tt
  told_within es told.Yes fits = tt
  told_within es told.No fits = tt
  told_within es (told.Addr a) fits = tt
  told_within es (told.Arrived a) fits = tt
  told_within es (told.Took bytes) fits = tt
  told_within es (told.Datagram bytes a) fits = tt
  told_within es (told.Value v) fits = tt
  told_within es (told.Names names) fits = tt

  end_within : (half : TcpReceiveStream) (s : StreamStop) (es : List Entry) → Allows Free Within es (read_end_asks op (read.Open half) s)
  unfolding bind
  end_within half s es = (tt, λ t fits. tt)

  after_within : (half : TcpReceiveStream) (answer : Result (Answer (List ℕ)) ErrorCode) (es : List Entry) → Answers es answer → Allows Free Within es (after_read op (read.Open half) answer)
  after_within half (Ok Pending) es h = none_within most
  after_within half (Ok (Ready [])) es h = end_within half stop.Closed es
  after_within half (Ok (Ready (b ∷ bytes))) es h = h
  after_within half (Err c) es h = end_within half (stop.Failed c) es

asks_within : (op : OpId) (half : TcpReceiveStream) (size : ℕ) → Allows Free (Answers op (min size 65536)) [] (read_asks op half.side size)
unfolding bind
asks_within op half size =
    allows_if Free (Answers op (min size 65536)) [] (size == 0) _ _ (λ none. none_within (min size 65536)) (λ some. (tt, λ t fits. told_within op (min size 65536) [] t fits))

state_within : (op : OpId) (s : ReadState) (size : ℕ) → Allows Free (Within op (min size 65536)) [] (read_state_asks op s size)
state_within op (read.Open half) size =
    allows_if Free (Within op (min size 65536)) [] (size == 0) _ _ (λ none. none_within (min size 65536))
    (λ some. allows_then Free (Answers op (min size 65536)) (Within op (min size 65536)) [] (read_asks op half.side size) _ (asks_within op half size) (λ es answer h. after_within op (min size 65536) half answer es h))
state_within op read.Closed size = tt

pub read_within : (op : OpId) (s after : ReadState) (size : ℕ) (bytes : List ℕ) (es : List Entry) → Left (read_state_asks op s size) es (Give (Ok bytes, after)) → length bytes ≤ min size 65536
read_within op s after size bytes es w = reached Free (Within op (min size 65536)) [] (read_state_asks op s size) es (Give (Ok bytes, after)) (state_within op s size) w

-- One poll of an end of a 0.3 connection's streams: what it asks, answers and leaves.
use Rattle.std.specs.Prelude.{ℕ, ◌==◌, min, take, Bool, true, false, if◌then◌else◌, List, [], ◌∷◌, Option, Some, None, Result, Ok, Err}
use Rattle.wasi_addr.specs.declared.address.ShutdownType.{ShutdownType}
use Rattle.wasi_addr.specs.declared.address.ShutdownType.TheVariants.{Receive, Send}
use Rattle.wasi_addr.specs.declared.code.ErrorCode.{ErrorCode}
use Rattle.wasi_world.specs.declared.ids.OpId.{OpId}
use Rattle.wasi_world.specs.declared.outcome.Answer.{Answer}
use Rattle.wasi_world.specs.declared.outcome.Answer.TheVariants.{Ready, Pending}
use Rattle.wasi_world.specs.Asks.{Asks, Give, bind}
use Rattle.wasi_tcp.specs.declared.halves.TcpReceiveStream.{TcpReceiveStream}
use Rattle.wasi_tcp.specs.declared.halves.TcpSendStream.{TcpSendStream}
use Rattle.tcp_records.specs.declared.slot.StreamResult.{StreamResult}
use Rattle.tcp_records.specs.declared.slot.StreamResult.TheVariants.{Completed, Dropped, Cancelled}
use Rattle.tcp_records.specs.Ends.{half_of, receive_half, send_half, look_to_read, look_to_write, read_by_half, write_by_half}
use Rattle.wasi_records.specs.Records.{tcp2_at}
use Rattle.tcp_records.specs.Slots.{StreamEnd}
use Rattle.record_common.specs.Stops.{StopOf}
use Rattle.host_store.specs.BaseStops.{BaseStop}
use Rattle.host_store.specs.declared.kind.ConnectionEnd.{ConnectionEnd}
use Rattle.host_store.specs.Block.{Does, Line, Read, Call, give, ◌>>=◌, ◌>>◌}
use Rattle.host_tcp.specs.ConnectionEnds.{close_end}
use Rattle.host_store.specs.Lines.{same_stop}
use Rattle.host_store.specs.Store.{Records}

-- == a poll of an end
-- where nothing can be done yet, one that is the last gives up
abbrev pub not_yet : {A : Type 0} → Bool → Answer (StreamResult A)
not_yet true = Ready Cancelled
not_yet false = Pending

-- a look alone; an end whose half is gone is closed
abbrev pub looked : {A : Type 0} → Bool → A → Option (Answer (Unit {0})) → Answer (StreamResult A)
looked finish nothing (Some (Ready done)) = Ready (Completed nothing)
looked finish nothing (Some Pending) = not_yet finish
looked finish nothing None = Ready Dropped

-- a line that asks, and leaves the state as it was
abbrev pub without_state : {C A : Type 0} → Asks A → Unit {0} → Asks (Result A (StopOf C) × Unit {0})
without_state asked none = bind asked (λ a. Give (Ok a, none))

abbrev pub asks : {C S A : Type 0} → Asks A → Line C S A
asks {C} {S} asked = Call {T = Unit {0}} same_stop (λ s. tt) (λ s none. s) (without_state asked)

-- the end meets its own end, or a fault
abbrev pub closes : OpId → ShutdownType → ℕ → ℕ → StreamEnd → Records → Asks (Result (Unit {0}) BaseStop × Records)
closes op how slot socket ended store = bind (close_end op how slot socket ended store) (λ done. Give (Ok done.0, done.1))

abbrev pub ends_by : {A : Type 0} → OpId → ShutdownType → ℕ → ℕ → StreamEnd → Does ErrorCode Records (Answer (StreamResult A))
ends_by op how slot socket ended = do
  Call same_stop (λ store. store) (λ store now. now) (closes op how slot socket ended)
  give (Ready Dropped)

-- == of a read end
-- no bytes are the end of the stream
abbrev pub read_told : OpId → Bool → ℕ → ℕ → Result (Option (Answer (List ℕ))) ErrorCode → Does ErrorCode Records (Answer (StreamResult (List ℕ)))
read_told op finish slot socket (Ok (Some (Ready (b ∷ bytes)))) = give (Ready (Completed (b ∷ bytes)))
read_told op finish slot socket (Ok (Some (Ready []))) = ends_by op Receive slot socket (Ok tt)
read_told op finish slot socket (Ok (Some Pending)) = give (not_yet finish)
read_told op finish slot socket (Ok None) = give (Ready Dropped)
read_told op finish slot socket (Err c) = ends_by op Receive slot socket (Err c)

-- with room for none it is only looked whether there is something
abbrev pub read_open : OpId → Bool → ℕ → ℕ → ℕ → Option TcpReceiveStream → Does ErrorCode Records (Answer (StreamResult (List ℕ)))
read_open op finish len slot socket half =
    if len == 0 then (do
      answer ← asks (look_to_read op half)
      give (looked finish [] answer))
    else (do
      told ← asks (read_by_half op (min len 8192) half)
      read_told op finish slot socket told)

abbrev pub read_of : OpId → Bool → ℕ → ℕ → Option ℕ → Does ErrorCode Records (Answer (StreamResult (List ℕ)))
read_of op finish len slot None = give (Ready Dropped)
read_of op finish len slot (Some socket) = do
  half ← Read (λ store. half_of receive_half (tcp2_at store.records socket))
  read_open op finish len slot socket half

abbrev pub read_end : OpId → Bool → ℕ → ConnectionEnd → Does ErrorCode Records (Answer (StreamResult (List ℕ)))
read_end op finish len end = read_of op finish len end.slot end.socket

-- == of a write end
abbrev pub write_told : OpId → Bool → ℕ → ℕ → Result (Option (Answer ℕ)) ErrorCode → Does ErrorCode Records (Answer (StreamResult ℕ))
write_told op finish slot socket (Ok (Some (Ready count))) = give (Ready (Completed count))
write_told op finish slot socket (Ok (Some Pending)) = give (not_yet finish)
write_told op finish slot socket (Ok None) = give (Ready Dropped)
write_told op finish slot socket (Err c) = ends_by op Send slot socket (Err c)

-- with no bytes it is only looked whether some may be written; and no write is a job
abbrev pub write_open : OpId → Bool → List ℕ → ℕ → ℕ → Option TcpSendStream → Does ErrorCode Records (Answer (StreamResult ℕ))
write_open op finish [] slot socket half = do
  answer ← asks (look_to_write op half)
  give (looked finish 0 answer)
write_open op finish (b ∷ bytes) slot socket half = do
  told ← asks (write_by_half op (take 4294967295 (b ∷ bytes)) half)
  write_told op finish slot socket told

abbrev pub write_of : OpId → Bool → List ℕ → ℕ → Option ℕ → Does ErrorCode Records (Answer (StreamResult ℕ))
write_of op finish bytes slot None = give (Ready Dropped)
write_of op finish bytes slot (Some socket) = do
  half ← Read (λ store. half_of send_half (tcp2_at store.records socket))
  write_open op finish bytes slot socket half

abbrev pub write_end : OpId → Bool → List ℕ → ConnectionEnd → Does ErrorCode Records (Answer (StreamResult ℕ))
write_end op finish bytes end = write_of op finish bytes end.slot end.socket
